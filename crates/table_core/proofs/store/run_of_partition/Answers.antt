use Rattle.std.proofs.Common.{arith}
use Rattle.table_core.proofs.Neighbours.{end_is}
use Rattle.table_core.proofs.store.run_of_partition.Goals as goal

pub overflow_sub-count : goal.overflow_sub-count
overflow_sub-count c =
    let end = c.end_of.ensures in
    let is = end_is c.args.partition c.args.parts.now c.start_of-from.result c.end_of.result c.requires c.start_of-from.ensures end.within end.front in
    omega (arith, is)

pub returns-clause-count : goal.returns-clause-count
returns-clause-count c =
    let end = c.end_of.ensures in
    let is = end_is c.args.partition c.args.parts.now c.start_of-from.result c.end_of.result c.requires c.start_of-from.ensures end.within end.front in
    omega (arith, is)

pub returns-clause-within : goal.returns-clause-within
returns-clause-within c =
    let end = c.end_of.ensures in
    let is = end_is c.args.partition c.args.parts.now c.start_of-from.result c.end_of.result c.requires c.start_of-from.ensures end.within end.front in
    omega (arith, is, end.within)
