use Rattle.std.proofs.Common.{◌≡◌, true, false}
use Rattle.std.specs.Ordering.{is_lt}
use Rattle.mt_values.specs.Order.{value_cmp}
use Rattle.rule_aggregating.proofs.OneMore.{greater_comes, greater_stays, less_comes, less_stays, sum_on}
use Rattle.rule_aggregating.proofs.folding.fold_in.Goals as goal

pub returns-in_ok-kept-in-Min : goal.returns-in_ok-kept-in-Min
returns-in_ok-kept-in-Min c =
    let less : is_lt (value_cmp c.args.value.now c.args.kept.now) ≡ true = cc in
    less_comes c.args.function c.args.kept.now c.args.value.now c.in_ok-kept-in-Min.field-0 c.in-Min.is less c.in_ok-kept-in-Min.ensures

pub returns-else-is_lt : goal.returns-else-is_lt
returns-else-is_lt c =
    let less : is_lt (value_cmp c.args.value.now c.args.kept.now) ≡ false = cc in
    less_stays c.args.function c.args.kept.now c.args.value.now c.in-Min.is less

pub returns-in_ok-kept-in-Max : goal.returns-in_ok-kept-in-Max
returns-in_ok-kept-in-Max c =
    let less : is_lt (value_cmp c.args.kept.now c.args.value.now) ≡ true = cc in
    greater_comes c.args.function c.args.kept.now c.args.value.now c.in_ok-kept-in-Max.field-0 c.in-Max.is less c.in_ok-kept-in-Max.ensures

pub returns-else-is_lt-2 : goal.returns-else-is_lt-2
returns-else-is_lt-2 c =
    let less : is_lt (value_cmp c.args.kept.now c.args.value.now) ≡ false = cc in
    greater_stays c.args.function c.args.kept.now c.args.value.now c.in-Max.is less

pub returns-in-Sum : goal.returns-in-Sum
returns-in-Sum c = sum_on c.args.function c.args.kept.now c.args.value.now c.add_number.new.sum c.in-Sum.is c.add_number.ensures
