use Rattle.std.proofs.Common.{arith}
use Rattle.part_writer.proofs.Contents.{content_length}
use Rattle.part_writer.proofs.content.content_count.Goals as goal

pub returns : goal.returns
returns c = omega (arith, c.saturating_add.ensures, c.len.ensures, content_length c.args.schema.now)
