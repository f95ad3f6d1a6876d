-- Why what was published was refused, and what it leaves.
use Rattle.std.proofs.Common.{◌≡◌, ◌≢◌, ℕ, List, Option, Some, None, Bool, true, false, cond, refl, sym, subst, inl}
use Rattle.std.specs.Bool.{then_some}
use Rattle.mt_outside.specs.declared.disk.DiskError.{DiskError}
use Rattle.mt_outside.specs.declared.disk.DiskError.TheVariants as failure
use Rattle.mt_outside.specs.Disk.{MayPut, Told}
use Rattle.mt_outside.specs.Files.{Files}
use Rattle.durable_commit.specs.declared.causes.Refused.{Refused}
use Rattle.durable_commit.specs.declared.causes.Refused.TheVariants as refused
use Rattle.durable_commit.specs.Commits.{IsOutside, refused_by_disk}

-- what is shown where a test passes
pub shown_then : {X : Type 0} (b : Bool) (x : X) → then_some b x ≡ cond b (Some x) None
shown_then true x = refl
shown_then false x = refl

-- a publish that failed has left the name or not
pub left_by : (error : DiskError) (clock : ℕ) (name : List ℕ) (files : Option Files) (old new : Option Told)
    → (error ≡ failure.Fault → MayPut clock name files old new) → (error ≡ failure.NoMemory → new ≡ old) → MayPut clock name files old new
left_by failure.Fault clock name files old new fault memory = fault refl
left_by failure.NoMemory clock name files old new fault memory = inl (memory refl)

-- why what was published was refused
pub outside_disk : (error : DiskError) (cause : Refused) → cause ≡ refused_by_disk error → IsOutside (Some cause)
outside_disk failure.NoMemory cause is = subst (λ (r : Refused). IsOutside (Some r)) (sym is) tt
outside_disk failure.Fault cause is = subst (λ (r : Refused). IsOutside (Some r)) (sym is) tt

pub disk_fault : (error : DiskError) (cause : Refused) → cause ≡ refused_by_disk error → cause ≡ refused.Disk → error ≡ failure.Fault
disk_fault failure.Fault cause is same = refl
disk_fault failure.NoMemory cause is same = cc

pub disk_memory : (error : DiskError) (cause : Refused) → cause ≡ refused_by_disk error → cause ≢ refused.Disk → error ≡ failure.NoMemory
disk_memory failure.Fault cause is other = absurd (other is)
disk_memory failure.NoMemory cause is other = refl
