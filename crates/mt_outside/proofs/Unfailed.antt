-- What an error that is no fault says of a count.
use Rattle.std.proofs.Common.{◌≡◌, ℕ, refl}
use Rattle.mt_outside.specs.declared.disk.DiskError.{DiskError}
use Rattle.mt_outside.specs.declared.disk.DiskError.TheVariants.{Fault, NoMemory}

-- where it stays where memory ran out, it stays for whatever is no fault
pub unfailed : (before now : ℕ) (error : DiskError) → (error ≡ NoMemory → now ≡ before) → (error ≡ Fault → ⊥) → now ≡ before
unfailed before now Fault memory calm = absurd (calm refl)
unfailed before now NoMemory memory calm = memory refl
