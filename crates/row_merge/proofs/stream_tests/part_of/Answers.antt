use Rattle.std.proofs.Common.{◌∙◌, ap, arith, length, subst, sym}
use Rattle.mt_values.specs.Grid.{AreRowsOf}
use Rattle.mt_values.specs.declared.block.Block.{Block}
use Rattle.part_reader.proofs.PartWriterContents.{content_length}
use Rattle.row_merge.proofs.TestTables.{places_below}
use Rattle.row_merge.proofs.stream_tests.part_of.Goals as goal

pub from_rows-requires-clause-typed : goal.from_rows-requires-clause-typed
from_rows-requires-clause-typed c = subst (λ types. AreRowsOf types c.args.rows.now) (sym (c.as_slice.ensures ∙ c.in_ok-types.ensures ∙ c.requires.types)) c.requires.typed

pub write_part-requires-clause-types : goal.write_part-requires-clause-types
write_part-requires-clause-types c κs = ap (λ (b : Block). b.types) c.in_ok-block.ensures ∙ c.as_slice.ensures ∙ c.in_ok-types.ensures

pub write_part-requires-clause-places : goal.write_part-requires-clause-places
write_part-requires-clause-places c κs = places_below c.in_ok-block.block.rows c.len.result c.deref.result.now (c.deref.ensures.value ∙ c.in_ok-order.ensures) c.len.ensures.count

pub write_part-requires-clause-few : goal.write_part-requires-clause-few
write_part-requires-clause-few c κs = omega (arith, content_length c.args.schema.now, c.requires.schema.few, c.requires.schema.few_indexes)
