-- What goes back to an arm, and what the arm counts of it.
use Rattle.std.proofs.Common.{◌≡◌, ℕ, Option, Some, None, IfSome, All, List, [], ◌∷◌, ap, refl, ◌∙◌, arith}
use Rattle.std.proofs.lemmas.List.Elements.{All-head, All-tail}
use Rattle.mt_values.specs.declared.schema.Schema.{Schema}
use Rattle.mt_values.specs.Values.{Row}
use Rattle.mt_outside.specs.declared.disk.Arm.{Ghosts as ArmGhosts}
use Rattle.mt_outside.specs.Files.{Files}
use Rattle.mt_outside.specs.Leaves.{LeavesArm}
use Rattle.row_merge.specs.MergedParts.{PartsHold}
use Rattle.shared_store.specs.part_reader.declared.reading.Part.{Part}
use Rattle.shared_store.specs.part_set.declared.kept.Kept.{Kept}
use Rattle.shared_store.specs.root_store.Soundness.{HoldsRows}
use Rattle.shared_store.specs.part_name.declared.part.PartName.{PartName}
use Rattle.shared_store.specs.part_reader.declared.reading.PartFault.{PartFault}
use Rattle.merge_workers.specs.Carried.{IsFault}
use Rattle.merge_workers.specs.declared.carrying.Carried.{Carried}
use Rattle.merge_workers.specs.declared.carrying.Carried.TheVariants.{Done, Gone, Refused, Unread}

-- no call of the arm failed
pub arm_stays : {A S F : Type 0} (arms : ArmGhosts A S F) (before now : A) → arms.tells now ≡ arms.tells before → arms.failed now ≡ arms.failed before → LeavesArm arms before now ⊥
arm_stays arms before now tells same = record { tells = tells; later = omega (arith, same); fault = λ no. absurd no; calm = λ _. same }

-- nor of the one after it
pub arm_then : {A S F : Type 0} (arms : ArmGhosts A S F) (before then now : A) (Fault Later : Type 0) → LeavesArm arms before then Fault → (Fault → ⊥) → LeavesArm arms then now ⊥ → (Later → ⊥) → LeavesArm arms before now Later
arm_then arms before then now Fault Later first none second never = record {
  tells = second.tells ∙ first.tells;
  later = let low = first.later in let high = second.later in omega (arith, low, high);
  fault = λ no. absurd (never no);
  calm = λ _. second.calm (λ no. no) ∙ first.calm none;
}

-- what was read is no fault
pub no_fault : (end : Carried) → ((name : PartName) (why : PartFault) → end ≡ Unread name why → ⊥) → IsFault end → ⊥
no_fault Done read is = is
no_fault (Gone name) read is = is
no_fault (Refused cause) read is = is
no_fault (Unread name why) read is = read name why refl

-- what comes back had no fault
pub back_calm : {S : Type 0} (count : S → ℕ) (sealed : S) (back : Option S) → IfSome back (λ s. s ≡ sealed) → count sealed ≡ 0 → IfSome back (λ s. count s ≡ 0)
back_calm count sealed None same none = tt
back_calm count sealed (Some s) same none = ap count same ∙ none

-- parts of which each holds rows hold some
pub rows_of : {F : Type 0} (files_of : F → Option Files) (schema : Schema) (parts : List (Kept (Part F))) → All (HoldsRows files_of schema) parts → (rows : List (List Row)) × PartsHold files_of schema parts rows
rows_of files_of schema [] held = ([], tt)
rows_of {F} files_of schema (k ∷ ks) held =
    let first = All-head (HoldsRows files_of schema) k ks held in
    let rest = rows_of files_of schema ks (All-tail (HoldsRows files_of schema) k ks held) in
    (first.0 ∷ rest.0, (first.1, rest.1))
