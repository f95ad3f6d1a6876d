use Rattle.std.proofs.Common.{◌∙◌}
use Rattle.part_set.proofs.Filed.{found_parts, no_parts}
use Rattle.part_set.proofs.tables.TableParts.parts_in.Goals as goal

pub returns-in-Some-clause-parts : goal.returns-in-Some-clause-parts
returns-in-Some-clause-parts g c =
    c.as_slice.ensures.parts ∙ found_parts c.args.partition c.partition_rank.result c.self.inside.partitions.entries c.args.self.now c.self.invariant c.self.view_is c.partition_rank.ensures _ c.in-Some.ensures.value

pub returns-in-Some-clause-ordered : goal.returns-in-Some-clause-ordered
returns-in-Some-clause-ordered g c = rw c.as_slice.ensures.parts c.as_slice.ensures.ordered

pub returns-in-None-clause-parts : goal.returns-in-None-clause-parts
returns-in-None-clause-parts g c =
    no_parts c.args.partition c.partition_rank.result c.self.inside.partitions.entries c.args.self.now c.self.invariant c.self.view_is c.partition_rank.ensures c.in-None.ensures.value
