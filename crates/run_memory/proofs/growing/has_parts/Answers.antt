use Rattle.std.proofs.Common.{◌<◌, All, arith, length, subst}
use Rattle.row_merge.specs.part_reader.skip_index.Blocks.{no_index}
use Rattle.run_memory.proofs.growing.has_parts.Goals as goal

pub returns : goal.returns
returns c = λ told. record {
  marks = record {
    some = omega (arith, c.len-keys.ensures);
    own = subst (All (λ place. place < length c.args.schema.now.columns)) c.as_slice.ensures (c.are_columns.ensures c.if-not-are_columns.false);
    granularity = omega arith;
  };
  indexes = λ n below.
      let index = c.all_have_blocks.ensures c.if-not-all_have_blocks.false n no_index below in
      record { there = below; own = index.own; span = index.some; few = index.few; granularity = omega arith };
  few = omega (arith, c.content_count-files.ensures);
}
