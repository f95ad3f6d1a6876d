-- The list of annals that stays, and what a refusal is not.
use Rattle.std.proofs.Common.{◌≡◌, Option, Some, None, true, false, refl, sym, subst}
use Rattle.mt_values.specs.declared.command.Entry.{Entry}
use Rattle.mt_values.specs.Annals.{Told, began}
use Rattle.std.specs.Option.{ForSome, IsSome, option_map}
use Rattle.durable_commit.specs.Commits.{SameList}
use Rattle.durable_commit.specs.declared.causes.Refused.TheVariants as refused

-- what is told is the same, and so is its list
pub same_list : (old new : Option Told) → new ≡ old → SameList old new
same_list (Some t) new is = subst (λ (o : Option Told). SameList (Some t) o) (sym is) refl
same_list None new is = is

-- what is there is not missing
pub not_none : true ≡ false → ⊥
not_none is = cc

-- out of memory is no fault of the disk
pub no_disk : refused.NoMemory ≡ refused.Disk → ⊥
no_disk is = cc

-- a command that is begun is there, and the list stays
pub begun_there : (old new : Option Told) (e : Entry) → new ≡ option_map (began e) old → ForSome new (λ t. IsSome t.begun)
begun_there (Some t) new e is = subst (λ (o : Option Told). ForSome o (λ u. IsSome u.begun)) (sym is) (λ u same. subst (λ (o : Option Told). (v : Told) → o ≡ Some v → IsSome v.begun) refl (λ v here. cc) u same)
begun_there None new e is = subst (λ (o : Option Told). ForSome o (λ u. IsSome u.begun)) (sym is) (λ u same. cc)

pub begun_same : (old new : Option Told) (e : Entry) → new ≡ option_map (began e) old → SameList old new
begun_same (Some t) new e is = subst (λ (o : Option Told). SameList (Some t) o) (sym is) refl
begun_same None new e is = is
