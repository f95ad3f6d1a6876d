-- the names before the place were gone over, and the disk tells the same
use Rattle.std.proofs.Common.{◌≡◌, Some, take}
use Rattle.mt_outside.specs.Disk.{Told, names_of}
use Rattle.mt_outside.specs.Leaves.{LeavesDisk}
use Rattle.root_opening.specs.Keeping.{Keeps, KeepsTold}
use Rattle.root_opening.proofs.keeping.keep_names.Given as goal

abbrev pub invariant-loop-place : goal.invariant-loop-place
invariant-loop-place g l = record {
  keeps : Keeps l.root.names.items (take l.place l.root.names.items) l.store;
  keeps_told : (told : Told) → g.D.Disk.told l.initial.disk ≡ Some told → KeepsTold g.D.Arm.Dir.Dir.files (names_of told) l.root.names.items (take l.place l.root.names.items) l.store;
  opened : l.store.opened ≡ l.opened;
  disk : LeavesDisk g.D.Disk g.D.Arm.Arm (l.initial.disk, l.initial.arm) (l.disk, l.arm) ⊥;
  clock : g.D.Disk.clock l.disk ≡ g.D.Disk.clock l.initial.disk;
}
