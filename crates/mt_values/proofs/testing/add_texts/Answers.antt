use Rattle.std.proofs.Common.{◌≡◌, ◌∙◌, ◌<◌, ◌≤◌, ◌||◌, false, ap, arith, get_or, length, set, slice_get, sym, Some}
use Rattle.std.specs.Cmp.Lexicographic.{slice_cmp}
use Rattle.std.specs.Ordering.{nat_cmp}
use Rattle.std.proofs.lemmas.Option.{get_or_from_slice_get}
use Rattle.mt_values.specs.Lists.{run_of}
use Rattle.mt_values.specs.Tests.{says}
use Rattle.mt_values.proofs.Masks.{all_gone_over, length_run, none_gone_over, one_more, run_at}
use Rattle.mt_values.proofs.testing.add_texts.Goals as goal

pub loop-place-init : goal.loop-place-init
loop-place-init c = λ f e. e ∙ none_gone_over f (λ s. says c.args.comparison (slice_cmp nat_cmp s c.args.literal.now)) (run_of c.args.from (length c.args.mask.now) c.args.texts.now)

pub loop-place-preserved : goal.loop-place-preserved
loop-place-preserved c = λ f e.
    let texts = c.args.texts.now in
    let place = c.loop-place.place in
    let count = length c.args.mask.now in
    let run = run_of c.args.from count texts in
    let said : c.says.result ≡ says c.args.comparison (slice_cmp nat_cmp c.at.result.now c.args.literal.now) =
    c.says.ensures ∙ ap (says c.args.comparison) c.cmp.ensures in
    let below : place < count = c.loop-place-test.true in
    let within : place < length run = omega (arith, below, length_run c.args.from count texts c.requires) in
    let here : slice_get run place ≡ Some c.at.result.now = run_at c.args.from count place texts below ∙ c.at.ensures in
    ap (λ b. set c.loop-place.mask place (get_or c.loop-place.mask place false || b)) said
    ∙ one_more f (λ s. says c.args.comparison (slice_cmp nat_cmp s c.args.literal.now)) run place c.at.result.now c.loop-place.mask within
    (sym (get_or_from_slice_get run place c.at.result.now c.at.result.now here)) (c.loop-place.invariant f e)

pub returns : goal.returns
returns c = λ f e.
    let texts = c.args.texts.now in
    let count = length c.args.mask.now in
    let past : count ≤ c.loop-place.place = c.loop-place-test.false in
    let end : length (run_of c.args.from count texts) ≤ c.loop-place.place = omega (arith, past, length_run c.args.from count texts c.requires) in
    all_gone_over f (λ s. says c.args.comparison (slice_cmp nat_cmp s c.args.literal.now)) (run_of c.args.from count texts) c.loop-place.place c.loop-place.mask end (c.loop-place.invariant f e)

pub overflow_add-from : goal.overflow_add-from
overflow_add-from c = record { fits = omega (arith, c.loop-place-test.true, c.requires, c.len-count.ensures, c.len-count.type_inv) }
