-- Parts of one partition that follow each other, and what comes of them (docs/definitions.md, "The set of parts").
use Rattle.std.specs.Prelude.{◌≡◌, ◌⊎◌, ℕ, ◌+◌, ◌<◌, ◌≤◌, Bool, true, false, List, ◌∷◌, ◌++◌, All, length, map, take, drop, slice_get, Some, if◌then◌else◌}
use Rattle.std.specs.List.{list_any}
use Rattle.mt_base.specs.declared.partition.Partition.{Partition}
use Rattle.part_name.specs.declared.part.PartName.{PartName}
use Rattle.part_set.specs.declared.kept.Kept.{Kept}
use Rattle.part_set.specs.declared.run.Run.{Run}
use Rattle.part_set.specs.Parts.{kept_in, same_part}
use Rattle.part_set.specs.Passes.{last_of}

-- the parts of a run, out of those of its partition
abbrev pub parts_of_run : {P : Type 0} → Run → List (Kept P) → List (Kept P)
parts_of_run run parts = take run.count (drop run.first parts)

-- a run has a part at least, and ends within the parts
pub record IsRun {P : Type 0} (run : Run) (parts : List (Kept P)) : Type 0 where
  pub some : 0 < run.count
  pub within : run.first + run.count ≤ length parts

-- the names of parts
abbrev pub names_of_parts : {P : Type 0} → List (Kept P) → List PartName
names_of_parts {P} parts = map (λ (k : Kept P). k.name) parts

-- a run of the parts has these names, in this order, and each of its parts bears the mark
pub record IsBusyRun {P : Type 0} (run : Run) (names : List PartName) (parts : List (Kept P)) : Type 0 where
  pub is : IsRun run parts
  pub named : names_of_parts (parts_of_run run parts) ≡ names
  pub busy : All (λ (k : Kept P). k.busy ≡ true) (parts_of_run run parts)

-- the first n of the parts have the names of the first n sources, and bear the mark
pub record Begins {P : Type 0} (n : ℕ) (sources parts : List (Kept P)) : Type 0 where
  pub within : n ≤ length parts
  pub named : names_of_parts (take n parts) ≡ take n (names_of_parts sources)
  pub busy : All (λ (k : Kept P). k.busy ≡ true) (take n parts)

-- The first of some names that does not follow among parts with its mark: no run with marks has the names up to it, and one has those before it, if
-- there are any.
pub record IsMissing {P : Type 0} (names : List PartName) (parts : List (Kept P)) (name : PartName) : Type 0 where
  pub place : ℕ
  pub here : slice_get names place ≡ Some name
  pub none : (run : Run) → IsBusyRun run (take (place + 1) names) parts → ⊥
  pub before : (place ≡ 0) ⊎ ((run : Run) × IsBusyRun run (take place names) parts)

-- the part begins no later than it ends
abbrev pub EndsInOrder : {P : Type 0} → Kept P → Type 0
EndsInOrder kept = kept.name.min_block ≤ kept.name.max_block

-- a name has the blocks of parts that follow each other: it begins where the first begins, and ends where the last ends
pub record Spans {P : Type 0} (name : PartName) (sources : List (Kept P)) : Type 0 where
  pub first : Kept P
  pub last : Kept P
  pub first_is : slice_get sources 0 ≡ Some first
  pub last_is : last_of sources ≡ Some last
  pub partition : name.partition ≡ first.name.partition
  pub begins : name.min_block ≡ first.name.min_block
  pub ends : name.max_block ≡ last.name.max_block

-- one part stands in place of those of a run of its partition, and all others stay
pub record IsSwapped {P : Type 0} (partition : Partition) (run : Run) (kept : Kept P) (before after : List (Kept P)) : Type 0 where
  pub front : List (Kept P)
  pub back : List (Kept P)
  pub before_is : before ≡ front ++ (parts_of_run run (kept_in partition before) ++ back)
  pub after_is : after ≡ front ++ kept ∷ back

-- the part with the mark, or without it
abbrev pub with_mark : {P : Type 0} → Bool → Kept P → Kept P
with_mark busy kept = record { name = kept.name; part = kept.part; busy = busy }

-- the parts of a run of a partition bear the mark, or bear it no more, and all others stay
pub record IsMarked {P : Type 0} (partition : Partition) (run : Run) (busy : Bool) (before after : List (Kept P)) : Type 0 where
  pub front : List (Kept P)
  pub back : List (Kept P)
  pub before_is : before ≡ front ++ (parts_of_run run (kept_in partition before) ++ back)
  pub after_is : after ≡ front ++ (map (with_mark busy) (parts_of_run run (kept_in partition before)) ++ back)

-- the part without its mark, where it has one of the names; else as it was
abbrev pub cleared : {P : Type 0} → List PartName → Kept P → Kept P
cleared names kept = if list_any (same_part kept.name) names then with_mark false kept else kept
