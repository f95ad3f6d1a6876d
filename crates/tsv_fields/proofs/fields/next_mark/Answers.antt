use Rattle.memchr.specs.Find.{is_byte3}
use Rattle.data_lines.proofs.Marks.{is_first}
use Rattle.tsv_fields.proofs.fields.next_mark.Goals as goal

pub returns : goal.returns
returns c = is_first (is_byte3 9 10 92) c.args.text.now _ _ c.next.result c.memchr3_iter.ensures.value c.next.ensures.steps
