use Rattle.std.proofs.Common.{length, ◌∙◌}
use Rattle.mt_values.specs.ColumnBytes.{column_bytes}
use Rattle.part_writer.proofs.ColumnFiles.{last_is, last_item}
use Rattle.part_writer.proofs.column_out.ColumnOut.size.Goals as goal

pub returns-in-Some : goal.returns-in-Some
returns-in-Some c = λ granularity values has.
    let last = last_is granularity values c.args.self.now has in
    last_item last.0 c.as_slice.result.now (length (column_bytes values)) c.in-Some.size.now (c.as_slice.ensures ∙ last.1) c.in-Some.ensures.value
