use Rattle.std.proofs.Common.{◌≡◌, ◌&&◌, Bool, true, not, ap, sym, ◌∙◌}
use Rattle.mt_values.specs.Grammar.{is_reserved}
use Rattle.part_set.specs.RootNames.{is_one_word}
use Rattle.part_set.proofs.word.is_table.Goals as goal

pub returns-then-is_one_word : goal.returns-then-is_one_word
returns-then-is_one_word c =
    let name = c.args.name.now in
    let one : is_one_word name ≡ true = sym c.is_one_word.ensures ∙ c.if-is_one_word.true in
    ap not c.is_reserved.ensures ∙ sym (ap (λ (word : Bool). word && not (is_reserved name)) one)
