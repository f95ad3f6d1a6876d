use Rattle.std.proofs.Common.{◌∙◌, sym}
use Rattle.disk_mem.proofs.NotedAll.{noted_all-marks}
use Rattle.disk_mem.proofs.annals.KeptAnnals.marks.Goals as goal

pub returns : goal.returns
returns c = rw (← c.self.view_is) (c.as_slice.ensures.value ∙ sym (noted_all-marks c.self.inside.list.items c.self.inside.marks.items c.self.invariant))
