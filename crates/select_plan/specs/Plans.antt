-- Which granules of a table's parts are read, and how many they are (docs/definitions.md, "Boxes of granules", "Boxes of skip indexes").
use Rattle.std.specs.Prelude.{[], ◌∷◌, ℕ, Bool, true, false, List, fold, length, map, replicate}
use Rattle.std.specs.List.{count_by, list_any, sum_by}
use Rattle.mt_values.specs.declared.expr.Test.{Test}
use Rattle.mt_values.specs.declared.schema.Schema.{Schema}
use Rattle.mt_values.specs.Conditions.{Condition, conjuncts_of}
use Rattle.mt_model.specs.declared.counts.Counts.{Counts}
use Rattle.part_reader.specs.declared.reading.Part.{Part}
use Rattle.part_set.specs.declared.kept.Kept.{Kept}
use Rattle.part_set.specs.declared.kept.Snap.{Snap}
use Rattle.mt_model.specs.predicate.Boxes.{can}
use Rattle.mt_model.specs.predicate.Granules.{asked_in, chosen_in}
use Rattle.mt_model.specs.predicate.Masks.{both}
use Rattle.part_reader.specs.skip_index.declared.index.Index.{Index}
use Rattle.part_reader.specs.skip_index.Choosing.{chosen_by}

-- which granules of a part are read: those that its marks choose, and of these the ones that each of its skip indexes leaves (docs/definitions.md, "Boxes of skip indexes")
abbrev pub planned_part : {F : Type 0} → Schema → Condition Test → Kept (Part F) → List Bool
planned_part schema c k =
    fold both (chosen_in schema k.name.partition c k.part.loaded.marks) (map (λ (index : Index). chosen_by index c []) k.part.loaded.indexes)

-- with FINAL those that its marks choose: an index knows the stored rows alone, and not what they fold to (docs/definitions.md, "Boxes of granules"; ClickHouse, SELECT: FINAL)
abbrev pub read_of : {F : Type 0} → Schema → Bool → Condition Test → Kept (Part F) → List Bool
read_of schema true c k = chosen_in schema k.name.partition c k.part.loaded.marks
read_of schema false c k = planned_part schema c k

-- the same of each part of a pinned table (docs/definitions.md, "Boxes of granules")
abbrev pub planned : {F : Type 0} → Snap (Part F) → Bool → Condition Test → List (List Bool)
planned {F} snap is_final c = map (λ (k : Kept (Part F)). read_of snap.schema is_final c k) snap.parts.items

-- in which granules of a part conjuncts are asked: of those that are read the ones in whose box the conjunct may be false (docs/definitions.md, "Boxes of granules")
abbrev pub asked_among : {F : Type 0} → Schema → List (Condition Test) → Kept (Part F) → List Bool → List (List Bool)
asked_among schema conjuncts k chosen = map (λ d. both (asked_in schema k.name.partition d k.part.loaded.marks) chosen) conjuncts

-- in which of the chosen ones of so many granules a condition is asked where nothing is known of any (docs/definitions.md, "Boxes of granules")
abbrev pub asked_unknown : ℕ → List Bool → Condition Test → List Bool
asked_unknown granules chosen d = both (replicate granules (can d (record { columns = [] })).no) chosen

-- the same of each part, of whose granules these are read (docs/definitions.md, "Boxes of granules")
abbrev pub asked_each : {F : Type 0} → Schema → List (Condition Test) → List (Kept (Part F)) → List (List Bool) → List (List (List Bool))
asked_each schema conjuncts [] chosen = []
asked_each schema conjuncts (k ∷ ks) [] = []
asked_each schema conjuncts (k ∷ ks) (c ∷ cs) = asked_among schema conjuncts k c ∷ asked_each schema conjuncts ks cs

-- in which granules of a part a conjunct of a condition is asked: of those that are read the ones in whose box it may be false (docs/definitions.md, "Boxes of granules")
abbrev pub asked_of : {F : Type 0} → Schema → Condition Test → Kept (Part F) → Condition Test → List Bool
asked_of schema c k d = both (asked_in schema k.name.partition d k.part.loaded.marks) (planned_part schema c k)

-- the same of each conjunct (docs/definitions.md, "Boxes of granules")
abbrev pub asked_part : {F : Type 0} → Schema → Condition Test → Kept (Part F) → List (List Bool)
asked_part schema c k = map (asked_of schema c k) (conjuncts_of c)

-- how many parts and granules there are, and how many of them are read (docs/definitions-of-runs.md, "Explained reads")
abbrev pub counts_over : List (List Bool) → Counts
counts_over parts = record {
  chosen_parts = count_by (list_any (λ chosen. chosen)) parts;
  parts = length parts;
  chosen_granules = sum_by (count_by (λ chosen. chosen)) parts;
  granules = sum_by length parts;
}
