use Rattle.std.proofs.Common.{◌≡◌, ◌∙◌, ◌<◌, ◌≤◌, ◌||◌, false, ap, arith, get_or, length, set, slice_get, sym, Some}
use Rattle.std.proofs.lemmas.Option.{get_or_from_slice_get}
use Rattle.mt_values.specs.Cells.{value_of}
use Rattle.mt_values.specs.Columns.{cells_of}
use Rattle.mt_values.specs.Lists.{run_of}
use Rattle.mt_values.specs.Order.{value_cmp}
use Rattle.mt_values.specs.Tests.{says}
use Rattle.mt_values.proofs.Masks.{all_gone_over, length_run, none_gone_over, one_more, run_at}
use Rattle.mt_values.proofs.column.Cells.add_values.Goals as goal

pub loop-place-init : goal.loop-place-init
loop-place-init c = λ f e. e ∙ none_gone_over f (λ v. says c.args.comparison (value_cmp v (value_of c.args.literal))) (run_of c.args.from (length c.args.mask.now) (cells_of c.args.self.now).values)

pub loop-place-preserved : goal.loop-place-preserved
loop-place-preserved c = λ f e.
    let values = (cells_of c.args.self.now).values in
    let place = c.loop-place.place in
    let count = length c.args.mask.now in
    let run = run_of c.args.from count values in
    let value = value_of c.at.result in
    let said : c.says.result ≡ says c.args.comparison (value_cmp value (value_of c.args.literal)) =
    c.says.ensures ∙ ap (says c.args.comparison) c.cmp_cells.ensures in
    let below : place < count = c.loop-place-test.true in
    let within : place < length run = omega (arith, below, length_run c.args.from count values c.requires) in
    let here : slice_get run place ≡ Some value = run_at c.args.from count place values below ∙ c.at.ensures in
    ap (λ b. set c.loop-place.mask place (get_or c.loop-place.mask place false || b)) said
    ∙ one_more f (λ v. says c.args.comparison (value_cmp v (value_of c.args.literal))) run place value c.loop-place.mask within
    (sym (get_or_from_slice_get run place value value here)) (c.loop-place.invariant f e)

pub returns : goal.returns
returns c = λ f e.
    let values = (cells_of c.args.self.now).values in
    let count = length c.args.mask.now in
    let past : count ≤ c.loop-place.place = c.loop-place-test.false in
    let end : length (run_of c.args.from count values) ≤ c.loop-place.place = omega (arith, past, length_run c.args.from count values c.requires) in
    all_gone_over f (λ v. says c.args.comparison (value_cmp v (value_of c.args.literal))) (run_of c.args.from count values) c.loop-place.place c.loop-place.mask end (c.loop-place.invariant f e)

pub overflow_add-from : goal.overflow_add-from
overflow_add-from c = record { fits = omega (arith, c.loop-place-test.true, c.requires, c.len-values.ensures, c.len-values.type_inv) }
