use Rattle.std.proofs.Common.{◌∙◌, ℕ, List, ◌++◌, ◌∷◌, take, ap, sym, append_assoc}
use Rattle.mt_values.specs.declared.value.Value.{Value}
use Rattle.mt_values.specs.Printing.{field, fields}
use Rattle.part_history.proofs.MtModelLists.{fields_more}
use Rattle.mt_plain.proofs.printing.push_fields.Goals as goal

pub loop-value-preserved : goal.loop-value-preserved
loop-value-preserved c =
    let v = c.value-item.result in
    let text = c.args.text.now in
    let so_far = fields (c.args.first.now ∷ take c.loop-value.value-index c.args.others.now) in
    let step = fields_more c.args.first.now c.args.others.now c.loop-value.value-index v c.loop-value-test.true in
    c.in_ok-push_next.ensures
    ∙ ap (λ (z : List ℕ). z ++ 9 ∷ field v) c.loop-value.invariant
    ∙ append_assoc text so_far (9 ∷ field v)
    ∙ ap (λ (z : List ℕ). text ++ z) (ap (λ (w : Value). so_far ++ 9 ∷ field w) c.value-item.is ∙ sym step)
