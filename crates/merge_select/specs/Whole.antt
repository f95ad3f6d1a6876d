-- When all parts of a partition are merged (docs/engines.md, "Which parts are merged").
use Rattle.std.specs.Prelude.{◌≡◌, ◌⊎◌, ℕ, ◌+◌, ◌<◌, true, false, List, [], length, slice_get, Option, Some, None, Result, Ok, Err}
use Rattle.std.specs.List.{All, AllWithin}
use Rattle.mt_values.specs.declared.mutation.Mutation.{Mutation}
use Rattle.mutation_queue.specs.part_set.part_name.Pending.{MayMerge}
use Rattle.mutation_queue.specs.part_set.part_name.declared.part.PartName.{PartName}
use Rattle.mutation_queue.specs.part_set.declared.kept.Kept.{Kept}
use Rattle.mutation_queue.specs.part_set.declared.run.Run.{Run}
use Rattle.merge_select.specs.declared.whole.Busy.{Busy}

-- no mutation parts two parts that follow each other
abbrev pub AllMayMerge : {P : Type 0} → List Mutation → List (Kept P) → Type 0
AllMayMerge {P} mutations parts =
    (k : ℕ) (a b : Kept P) → slice_get parts k ≡ Some a → slice_get parts (k + 1) ≡ Some b → MayMerge mutations a.name b.name

-- a mutation parts some two that follow each other
pub record AreParted {P : Type 0} (mutations : List Mutation) (parts : List (Kept P)) : Type 0 where
  pub place : ℕ
  pub first : Kept P
  pub second : Kept P
  pub first_is : slice_get parts place ≡ Some first
  pub second_is : slice_get parts (place + 1) ≡ Some second
  pub parted : MayMerge mutations first.name second.name → ⊥

-- the name of the first part that bears a mark
pub record IsFirstBusy {P : Type 0} (parts : List (Kept P)) (name : PartName) : Type 0 where
  pub place : ℕ
  pub kept : Kept P
  pub here : slice_get parts place ≡ Some kept
  pub named : kept.name ≡ name
  pub busy : kept.busy ≡ true
  pub first : AllWithin (λ (k : Kept P). k.busy ≡ false) parts 0 place

-- there is a part, and by the mutations all may be merged
pub record MayBeOne {P : Type 0} (mutations : List Mutation) (parts : List (Kept P)) : Type 0 where
  pub some : 0 < length parts
  pub each : AllMayMerge mutations parts

-- none where there is no part or a mutation parts two; else the first that bears a mark; else the run of all
abbrev pub PicksAll : {P : Type 0} → List Mutation → List (Kept P) → Result (Option Run) Busy → Type 0
PicksAll mutations parts (Ok None) = (parts ≡ []) ⊎ AreParted mutations parts
PicksAll mutations parts (Err busy) = MayBeOne mutations parts × IsFirstBusy parts busy.name
PicksAll {P} mutations parts (Ok (Some run)) =
    MayBeOne mutations parts × All (λ (k : Kept P). k.busy ≡ false) parts × (run.first ≡ 0) × (run.count ≡ length parts)
