use Rattle.memchr.specs.Find.{is_byte2}
use Rattle.data_lines.proofs.Marks.{is_first}
use Rattle.data_lines.proofs.lines.next_mark.Goals as goal

pub returns : goal.returns
returns c = is_first (is_byte2 10 92) c.args.text.now _ _ c.next.result c.memchr2_iter.ensures.value c.next.ensures.steps
