use Rattle.std.proofs.Common.{◌≡◌, ◌∙◌, ◌||◌, ◌+◌, ap, arith, length, map, sym, take}
use Rattle.std.proofs.lemmas.List.{length-map, take_all, with_items_is}
use Rattle.std.proofs.lemmas.Result.{IfOk-weaker}
use Rattle.mt_values.specs.declared.expr.Comparison.{Comparison}
use Rattle.mt_values.specs.declared.expr.Comparison.TheVariants as comparison
use Rattle.mt_values.specs.Columns.{cells_of}
use Rattle.mt_values.specs.Grid.{Cells}
use Rattle.mt_values.specs.Lists.{run_of}
use Rattle.mt_values.specs.Order.{value_cmp}
use Rattle.mt_values.specs.Tests.{says}
use Rattle.mt_values.proofs.Searches.{equal_told}
use Rattle.mt_values.proofs.Masks.{any_of, length_run, none_asked, one_literal_more}
use Rattle.mt_values.proofs.column.ColumnData.tested_within.Goals as goal

-- each value is sought among many literals
pub returns-then-is_sought : goal.returns-then-is_sought
returns-then-is_sought c =
    let test = c.args.test.now in
    let run = run_of c.args.from c.args.count c.args.self.now.values in
    let equal : test.comparison ≡ comparison.Equal = equal_told test.comparison (c.is_sought.ensures c.if-is_sought.true) in
    IfOk-weaker c.sought_within.result _ _ (λ v is. is ∙ ap (λ (how : Comparison). map (any_of how test.literals) run) (sym equal)) c.sought_within.ensures

pub loop-literal-init : goal.loop-literal-init
loop-literal-init c =
    c.in_ok-mask.ensures.items_if_clones_equal (λ y e. e)
    ∙ none_asked (run_of c.args.from c.args.count c.args.self.now.values) c.args.count (sym (length_run c.args.from c.args.count c.args.self.now.values c.requires))

-- the mask has an answer for each value of the run
pub add_met-requires : goal.add_met-requires
add_met-requires c =
    let run = run_of c.args.from c.args.count c.args.self.now.values in
    let size : length c.deref_mut.result.now ≡ c.args.count =
    ap length (c.deref_mut.ensures.value ∙ c.loop-literal.invariant) ∙ length-map run (any_of c.args.test.now.comparison (take c.loop-literal.literal-index c.as_slice-literal-items.result.now)) ∙ length_run c.args.from c.args.count c.args.self.now.values c.requires in
    let kept : length (cells_of c.self.inside.cells).values ≡ length c.args.self.now.values = ap (λ (x : Cells). length x.values) c.self.view_is in
    omega (arith, size, kept, c.requires)

pub loop-literal-preserved : goal.loop-literal-preserved
loop-literal-preserved c =
    let items = c.as_slice-literal-items.result.now in
    let i = c.loop-literal.literal-index in
    let values = c.args.self.now.values in
    let run = run_of c.args.from c.args.count values in
    let asked = any_of c.args.test.now.comparison (take i items) in
    let lent : c.deref_mut.result.now ≡ map asked run = c.deref_mut.ensures.value ∙ c.loop-literal.invariant in
    let many : length c.deref_mut.result.now ≡ c.args.count = ap length lent ∙ length-map run asked ∙ length_run c.args.from c.args.count values c.requires in
    let kept : run_of c.args.from (length c.deref_mut.result.now) (cells_of c.self.inside.cells).values ≡ run =
    ap (λ n. run_of c.args.from n (cells_of c.self.inside.cells).values) many ∙ ap (λ (x : Cells). run_of c.args.from c.args.count x.values) c.self.view_is in
    let after : c.add_met.new.mask ≡ map (any_of c.args.test.now.comparison (take (i + 1) items)) run =
    c.add_met.ensures asked (lent ∙ ap (map asked) (sym kept))
    ∙ ap (map (λ v. asked v || says c.args.test.now.comparison (value_cmp v c.literal-item.result))) kept
    ∙ one_literal_more c.args.test.now.comparison items i c.literal-item.result run c.loop-literal-test.true c.literal-item.is in
    let size : length c.add_met.new.mask ≡ c.loop-literal.mask.len =
    ap length after
    ∙ length-map run (any_of c.args.test.now.comparison (take (i + 1) items))
    ∙ sym (length-map run asked)
    ∙ sym (ap length c.loop-literal.invariant)
    ∙ sym c.loop-literal.mask.ok.0 in
    with_items_is c.loop-literal.mask c.add_met.new.mask size ∙ after

pub returns : goal.returns
returns c =
    c.loop-literal.invariant
    ∙ ap (λ ls. map (any_of c.args.test.now.comparison ls) (run_of c.args.from c.args.count c.args.self.now.values)) (take_all c.loop-literal.literal-index c.as_slice-literal-items.result.now c.loop-literal-test.false ∙ c.as_slice-literal-items.ensures)
