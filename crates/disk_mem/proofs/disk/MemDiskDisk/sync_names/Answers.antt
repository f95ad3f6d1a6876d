use Rattle.std.proofs.Common.{◌+◌, ap}
use Rattle.disk_mem.specs.Disks.{DiskState}
use Rattle.disk_mem.proofs.disk.MemDiskDisk.sync_names.Goals as goal

pub returns-clause-clock : goal.returns-clause-clock
returns-clause-clock c = ap (λ (d : DiskState). d.clock + 1) c.self.view_is
