-- How one part stands to another.
use Rattle.part_name.specs.declared.part.PartName.{PartName}
use Rattle.part_name.specs.declared.relations.Stand.{Stand}
use Rattle.part_name.specs.declared.relations.Stand.TheVariants.{Covered, Overlapping, Clear}
use Rattle.part_name.specs.PartNames.{Contains, Meet}

-- the second part by the first: contained in it, or with a block of it but not contained, or without a block of it
abbrev pub StandsTo : PartName → PartName → Stand → Type 0
StandsTo a b Covered = Contains a b
StandsTo a b Overlapping = Meet a b × (Contains a b → ⊥)
StandsTo a b Clear = Meet a b → ⊥
