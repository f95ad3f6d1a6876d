use Rattle.std.proofs.Common.{◌<◌, ◌≤◌, arith, length}
use Rattle.mt_values.specs.Cells.{value_of}
use Rattle.mt_values.proofs.Searches.{none_left, some_left}
use Rattle.mt_values.proofs.literals.found_from_on.Goals as goal

pub returns-then-count-ascending : goal.returns-then-count-ascending
returns-then-count-ascending c =
    let there : c.count_below-count.result < length c.args.ascending.now = omega (arith, c.if-count-ascending.true) in
    some_left c.args.ascending.now (value_of c.args.least) c.count_below-count.result c.count_below-count.ensures.front c.count_below-count.ensures.back there

pub returns : goal.returns
returns c =
    let end : length c.args.ascending.now ≤ c.count_below-count.result = omega (arith, c.if-count-ascending.false) in
    none_left c.args.ascending.now (value_of c.args.least) c.count_below-count.result c.count_below-count.ensures.front c.count_below-count.ensures.back end
