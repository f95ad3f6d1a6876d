use Rattle.std.proofs.Common.{◌≡◌, arith, length}
use Rattle.mt_values.specs.ColumnBytes.{column_bytes}
use Rattle.part_writer.proofs.ColumnFiles.{file_more}
use Rattle.part_writer.proofs.column_out.ColumnOut.grow.Goals as goal

pub returns : goal.returns
returns c = λ granularity more one few are values whole has.
    let size : c.size-size.result ≡ length (column_bytes values) = c.size-size.ensures granularity values has in
    file_more granularity values more c.args.self.now _ c.args.bytes.now c.in-Some.end whole one few are has
    (c.update.ensures (column_bytes values) has.digest)
    (omega (arith, c.in-Some.ensures, size))
    c.in_ok-push.ensures.ok
