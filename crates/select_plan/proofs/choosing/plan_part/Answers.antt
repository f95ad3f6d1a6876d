use Rattle.std.proofs.Common.{◌≡◌, ◌-◌, [], ℕ, false, length, min, replicate, rules, subst, true}
use Rattle.std.specs.List.{fold}
use Rattle.std.proofs.lemmas.Result.{IfOk-weaker}
use Rattle.mt_values.specs.Conditions.{tests_of}
use Rattle.mt_model.specs.predicate.Boxes.{can}
use Rattle.mt_model.specs.predicate.declared.extent.Extent.{Extent}
use Rattle.part_reader.specs.part_writer.declared.loaded.Loaded.{Loaded}
use Rattle.part_reader.specs.skip_index.declared.index.Index.{Index}
use Rattle.select_plan.specs.Plans.{read_of}
use Rattle.select_plan.proofs.Alike.{no_tests, read_alike}
use Rattle.select_plan.proofs.choosing.plan_part.Goals as goal

pub returns-then-is_empty : goal.returns-then-is_empty
returns-then-is_empty g c =
    let schema = c.args.schema.now in
    let condition = c.args.condition.now in
    let kept = c.args.kept.now in
    let n = c.answers.result in
    let unknown : Extent = record { columns = [] } in
    let folded = subst (λ (l : Loaded). c.args.is_final ≡ true → n ≡ length l.marks - 1) c.deref-loaded.ensures c.answers.ensures.folded in
    let plain = subst (λ (l : Loaded). c.args.is_final ≡ false → n ≡ fold (λ (m : ℕ) (index : Index). min m index.granules) (length l.marks - 1) l.indexes) c.deref-loaded.ensures c.answers.ensures.plain in
    let none : tests_of condition ≡ [] = search (rules, no_tests) in
    IfOk-weaker c.plan_alike.result (λ v. v.items ≡ replicate n (can condition unknown).yes) (λ v. v.items ≡ read_of schema c.args.is_final condition kept)
    (λ v is. read_alike schema c.args.is_final condition unknown kept v.items n none is folded plain)
    (c.plan_alike.ensures unknown)
