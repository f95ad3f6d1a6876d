use Rattle.std.proofs.Common.{◌<◌, All, arith, length, subst}
use Rattle.run_memory.proofs.Streamed.{are_indexed}
use Rattle.run_memory.proofs.streaming.is_table.Goals as goal

pub returns : goal.returns
returns c = λ told. record {
  sound = c.in-Ok.ensures;
  key = omega (arith, c.len-keys.ensures);
  primary = omega (arith, c.len-primary.ensures);
  own = subst (All (λ place. place < length c.args.schema.now.columns)) c.as_slice.ensures (c.are_columns.ensures c.if-not-are_columns.false);
  few = omega (arith, c.len-columns.ensures);
  indexed = are_indexed c.args.schema.now (c.all_have_blocks.ensures c.if-not-all_have_blocks.false);
  few_indexes = omega (arith, c.len-indexes.ensures);
}
