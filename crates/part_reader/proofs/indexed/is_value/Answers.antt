use Rattle.part_reader.proofs.IndexedBlocks.{same_values}
use Rattle.part_reader.proofs.indexed.is_value.Goals as goal

pub returns : goal.returns
returns c = same_values c.args.a.now c.args.b.now c.cmp_value.result c.is_eq.result c.cmp_value.ensures c.is_eq.ensures
