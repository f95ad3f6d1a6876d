-- The names of the parts that merges make (docs/formats.md, "Names of parts").
use Rattle.std.specs.Prelude.{◌≡◌, ℕ, ◌+◌, ◌≤◌, min, max, List, [], ◌∷◌, Option, Some, None}
use Rattle.std.specs.List.{fold}
use Rattle.part_name.specs.declared.part.PartName.{PartName}
use Rattle.part_name.specs.PartNames.{Before}

-- the later of two mutations: one that is left out counts as 0 (docs/formats.md, "Names of parts")
abbrev pub later_mutation : Option ℕ → Option ℕ → Option ℕ
later_mutation None other = other
later_mutation (Some m) None = Some m
later_mutation (Some m) (Some n) = Some (max m n)

-- the blocks of two parts of one partition, from the least up to the greatest, with the greater of their levels and of their mutations (docs/formats.md, "Names of parts")
abbrev pub joined_name : PartName → PartName → PartName
joined_name a b = record {
  partition = a.partition;
  min_block = min a.min_block b.min_block;
  max_block = max a.max_block b.max_block;
  level = max a.level b.level;
  mutation = later_mutation a.mutation b.mutation;
}

-- the same, one level higher (docs/formats.md, "Names of parts")
abbrev pub raised : PartName → PartName
raised name = record {
  partition = name.partition;
  min_block = name.min_block;
  max_block = name.max_block;
  level = name.level + 1;
  mutation = name.mutation;
}

-- the name of the part that a merge of a part and others makes (docs/formats.md, "Names of parts")
abbrev pub merged_name : PartName → List PartName → PartName
merged_name first rest = raised (fold joined_name first rest)

-- the name of the part that a merge of parts makes; of no parts none (docs/formats.md, "Names of parts")
abbrev pub merged_of : List PartName → Option PartName
merged_of [] = None
merged_of (first ∷ rest) = Some (merged_name first rest)

-- the name of a part to which mutations up to this one were applied: the same but for that (docs/formats.md, "Names of parts")
abbrev pub rewritten : PartName → ℕ → PartName
rewritten name mutation = record {
  partition = name.partition;
  min_block = name.min_block;
  max_block = name.max_block;
  level = name.level;
  mutation = Some mutation;
}

-- each of the parts stands before the next one (docs/formats.md, "Names of parts")
abbrev pub RiseFrom : PartName → List PartName → Type 0
RiseFrom first [] = first.min_block ≤ first.max_block
RiseFrom first (next ∷ rest) = (first.min_block ≤ first.max_block) × Before first next × RiseFrom next rest

-- the last of a part and others
abbrev pub last_name : PartName → List PartName → PartName
last_name first [] = first
last_name first (next ∷ rest) = last_name next rest
