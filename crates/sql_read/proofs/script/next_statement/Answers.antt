use Rattle.std.proofs.Common.{◌≡◌, ◌∙◌, sym, ap, refl, drop, Some, ◌||◌, ◌+◌, true}
use Rattle.std.proofs.lemmas.Bool.{false≢true}
use Rattle.std.proofs.lemmas.List.{take_rest, drop-drop}
use Rattle.mt_values.specs.Script.{has_whole, next_statement}
use Rattle.data_lines.specs.Sections.{section_said}
use Rattle.sql_read.proofs.Nexts.{no_next, some_next, whole_is, is_cut, some_used, next_found, found_waits}
use Rattle.sql_read.proofs.script.next_statement.Goals as goal
use Rattle.sql_read.proofs.script.next_statement.Goals.{then-ended-2, else-ended-2}

pub returns-then-ended : goal.returns-then-ended
returns-then-ended c =
    let none = no_next c.args.script.now c.skipped_len-skipped.result c.skipped_len-skipped.ensures.rest (sym (rw take_rest at c.is_empty.ensures) ∙ c.if-is_empty.true) in
    record { found = (c.if-ended.true, none.0); waits = (λ e. cc, λ p. absurd (false≢true (sym p.0 ∙ c.if-ended.true))) }

pub returns-else-ended : goal.returns-else-ended
returns-else-ended c =
    let none = no_next c.args.script.now c.skipped_len-skipped.result c.skipped_len-skipped.ensures.rest (sym (rw take_rest at c.is_empty.ensures) ∙ c.if-is_empty.true) in
    record { found = (c.if-ended.false, none.1); waits = (λ e. (c.if-ended.false, none.1), λ p. refl) }

pub returns-then-not-section : goal.returns-then-not-section
returns-then-not-section c =
    let script = c.args.script.now in
    let known : c.if-ended-2.value ≡ (c.args.ended || c.first_section-section.result.whole) =
    elim c.if-ended-2.branch [
      | then-ended-2 w ↦ w.value-is ∙ rw w.if-ended-2.true refl
      | else-ended-2 w ↦ rw w.if-ended-2.false w.value-is
    ] in
    let whole = whole_is script c.skipped_len-skipped.result c.skipped_len-skipped.ensures.rest c.first_section-section.result.whole (rw take_rest at c.first_section-section.ensures.whole) in
    let cut = is_cut script c.args.ended c.first_section-section.result.whole whole (sym known ∙ c.if-not-section.true) in
    record { found = cut; waits = (λ e. cut, λ p. refl) }

pub returns : goal.returns
returns c =
    let script = c.args.script.now in
    let skipped = c.skipped_len-skipped.result in
    let section = c.first_section-section.result in
    let known : c.if-ended-2.value ≡ (c.args.ended || section.whole) =
    elim c.if-ended-2.branch [
      | then-ended-2 w ↦ w.value-is ∙ rw w.if-ended-2.true refl
      | else-ended-2 w ↦ rw w.if-ended-2.false w.value-is
    ] in
    let whole = whole_is script skipped c.skipped_len-skipped.ensures.rest section.whole (rw take_rest at c.first_section-section.ensures.whole) in
    let is_known : c.args.ended || has_whole script ≡ true = rw whole (sym known ∙ c.if-not-section.false) in
    let begins = some_next script skipped c.skipped_len-skipped.ensures.rest (sym (rw take_rest at c.is_empty.ensures) ∙ c.if-is_empty.false) in
    let said = rw take_rest at c.first_section-section.ensures.said in
    let found : next_statement script ≡ Some (section_said section, drop (skipped + section.used) script) = begins ∙ ap Some (sym said ∙ ap (λ r. (section_said section, r)) (drop-drop section.used skipped script)) in
    rw c.next_of.ensures
    record {
      found = next_found script c.args.ended (section_said section) (skipped + section.used) is_known c.read_section.result c.read_section.ensures found (some_used script skipped section.used c.skipped_len-skipped.ensures.within (sym (rw take_rest at c.is_empty.ensures) ∙ c.if-is_empty.false) (rw take_rest at c.first_section-section.ensures.used));
      waits = found_waits script c.args.ended (section_said section) (skipped + section.used) is_known c.read_section.result;
    }
