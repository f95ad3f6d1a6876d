use Rattle.std.proofs.Common.{◌≡◌, ◌+◌, ◌∙◌, All, ap, arith, length, map, refl, subst, sym}
use Rattle.std.proofs.lemmas.List.{length-map}
use Rattle.mt_values.specs.Grid.{Cells}
use Rattle.row_merge.specs.part_reader.Parts.{with_columns}
use Rattle.row_merge.proofs.PartReaderCutRows.{lent_back}
use Rattle.final_fold.specs.Matches.{matching}
use Rattle.final_fold.specs.Scans.{HaveTypes}
use Rattle.final_fold.proofs.FoundRows.{found_more}
use Rattle.final_fold.proofs.found.add_found.Goals as goal

pub add_kept-requires-clause-columns : goal.add_kept-requires-clause-columns
add_kept-requires-clause-columns c =
    let w = c.args.found.now.wanted in
    subst (HaveTypes w.schema.now w.places.now) (sym c.deref_mut.ensures.value) c.requires.found.columns

pub returns : goal.returns
returns c =
    let old = c.args.found.now in
    let w = old.wanted in
    let lent = c.deref_mut.ensures.value in
    let items = old.columns.items in
    let new = c.add_kept.new.columns in
    let col_type = λ (x : Cells). x.col_type in
    let many : length new ≡ length c.deref_mut.result.now = sym (length-map new col_type) ∙ ap length c.in_ok-added.ensures.types ∙ length-map c.deref_mut.result.now col_type in
    let back = lent_back items new old.columns.len (many ∙ ap length lent) (ap length (sym lent) ∙ c.deref_mut.ensures.len) in
    let values = back ∙ c.in_ok-added.ensures.values ∙ ap (with_columns (matching w.condition.now c.args.rows.now) w.places.now) lent in
    let sum = c.in-Some.ensures.sum in
    let counted : c.in-Some.count ≡ old.count + length (matching w.condition.now c.args.rows.now) = sum ∙ ap (λ n. old.count + n) c.in_ok-added.ensures.counted in
    record {
      wanted_is = refl;
      has = found_more old _ c.args.rows.now refl values counted;
      even = λ n even.
          let here = subst (All (λ (x : Cells). length x.values ≡ n + old.count)) (sym lent) even in
          let all : (n + old.count) + c.in_ok-added.added ≡ n + c.in-Some.count = omega (arith, sum) in
          subst (All (λ (x : Cells). length x.values ≡ n + c.in-Some.count)) (sym back) (subst (λ m. All (λ (x : Cells). length x.values ≡ m) new) all (c.in_ok-added.ensures.even (n + old.count) here));
      found = record {
        wanted = c.requires.found.wanted;
        columns = ap (map col_type) back ∙ c.in_ok-added.ensures.types ∙ ap (map col_type) lent ∙ c.requires.found.columns;
        few = c.in-Some.ensures.few;
      };
    }
