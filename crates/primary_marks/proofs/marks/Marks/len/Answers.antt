use Rattle.primary_marks.proofs.KeyRows.{seen_len}
use Rattle.primary_marks.proofs.marks.Marks.len.Goals as goal

pub returns : goal.returns
returns c = seen_len c.self.inside.columns.items c.self.inside.keys c.args.self.now c.self.view_is
