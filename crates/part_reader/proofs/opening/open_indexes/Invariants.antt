-- the files gone over were read, and what they say is kept
use Rattle.std.proofs.Common.{◌≡◌, ℕ, Some, length, slice_get, take}
use Rattle.mt_base.specs.declared.name.FileId.TheVariants as file
use Rattle.mt_outside.specs.Leaves.{LeavesArm}
use Rattle.part_damage.specs.part_writer.PartFiles.{skip_ids}
use Rattle.part_damage.specs.skip_index.declared.index.Index.{Index}
use Rattle.part_damage.specs.Sound.{AreBlocksUnder, AreReadAs, IsReadAs, IsReadable}
use Rattle.part_reader.proofs.opening.open_indexes.Given as goal

abbrev pub invariant-loop-place : goal.invariant-loop-place
invariant-loop-place g l = record {
  many : length l.indexes ≡ l.place;
  read : (n : ℕ) (index : Index) → slice_get l.indexes n ≡ Some index → IsReadAs (g.R.Dir.Dir.files l.dir) (file.Skip n) (λ bytes. AreBlocksUnder l.schema l.manifest n bytes index);
  before : AreReadAs (g.R.Dir.Dir.files l.dir) (IsReadable l.schema l.manifest) (take l.place (skip_ids l.schema));
  arm : LeavesArm g.R.Arm l.initial.arm l.arm ⊥;
}
