use Rattle.std.proofs.Common.{subst, sym}
use Rattle.mt_outside.specs.Disk.{Told, AllBy}
use Rattle.fault_plan.proofs.Images.{image_by}
use Rattle.disk_mem.proofs.disk.MemDisk.image.Goals as goal

pub returns-clause-by_mark : goal.returns-clause-by_mark
returns-clause-by_mark c =
    subst (λ (told : Told). AllBy c.in_ok-image.field-0.clock told) (sym c.in_ok-image.ensures.told)
    (image_by c.args.choice c.self.inside.root.clock c.in_ok-image.field-0.clock c.self.inside.root.changes.items c.in_ok-image.ensures.later)
