use Rattle.std.proofs.Common.{sym, arith}
use Rattle.part_writer.proofs.Contents.{column_at, no_column_at}
use Rattle.part_writer.proofs.content.column_file.Goals as goal

pub returns-then-place-len : goal.returns-then-place-len
returns-then-place-len c = sym (column_at c.args.schema.now c.args.place (omega (arith, c.len.ensures, c.if-place-len.true)))

pub returns-else-place-len : goal.returns-else-place-len
returns-else-place-len c = sym (no_column_at c.args.schema.now c.args.place (omega (arith, c.len.ensures, c.if-place-len.false)))
