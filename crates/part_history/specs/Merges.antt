-- What a merge makes of neighbouring parts, and a rewrite of one part (docs/definitions.md, "The core").
use Rattle.std.specs.Prelude.{◌≡◌, ◌<◌, ℕ, List, All, Some, map}
use Rattle.std.specs.List.{AllZip, flat_map}
use Rattle.std.specs.List.Sorted.{IsSorted}
use Rattle.mt_values.specs.declared.schema.Schema.{Schema}
use Rattle.mt_values.specs.Changes.{mutated}
use Rattle.mt_values.specs.Tables.{sorting_cmp}
use Rattle.mt_values.specs.Values.{Row}
use Rattle.rule_law.specs.mt_model.History.{History}
use Rattle.rule_law.specs.mt_model.Numbers.{IsNumberOfMutation, mutations_in}
use Rattle.rule_law.specs.mt_model.Partial.{MergesAll}
use Rattle.part_name.specs.Pending.{NoneParted, pending_upto}
use Rattle.part_name.specs.declared.part.PartName.{PartName}
use Rattle.part_name.specs.Merged.{merged_of, rewritten}
use Rattle.part_name.specs.PartNames.{data_version}
use Rattle.part_history.specs.declared.part.CorePart.{CorePart}
use Rattle.part_history.specs.Parts.{PartStands}

-- a part with other rows (docs/definitions.md, "The core")
abbrev pub with_rows : CorePart → List Row → CorePart
with_rows part rows = record { table = part.table; name = part.name; rows = rows }

-- the names of parts, in their order
abbrev pub names_of : List CorePart → List PartName
names_of parts = map (λ (p : CorePart). p.name) parts

-- rows in the table's order are what one merge may leave of rows with which each of these parts stands for the history (docs/definitions.md, "The core")
pub record MergeLeaves (h : History) (schema : Schema) (sources : List CorePart) (out : List Row) : Type 0 where
  pub inputs : List (List Row)
  pub stand : AllZip (λ (p : CorePart) (rows : List Row). PartStands h (with_rows p rows)) sources inputs
  pub rising : IsSorted (sorting_cmp schema) out
  pub merges : MergesAll schema (flat_map (λ (rows : List Row). rows) inputs) out

-- a part is what a merge may make of parts of its partition that no mutation parts: at least one, since of none there is no name (docs/definitions.md, "The core")
pub record IsMergedPart (h : History) (schema : Schema) (sources : List CorePart) (part : CorePart) : Type 0 where
  pub named : merged_of (names_of sources) ≡ Some part.name
  pub own : All (λ (p : CorePart). p.name.partition ≡ part.name.partition) sources
  pub unparted : NoneParted (mutations_in part.table h) (names_of sources)
  pub leaves : MergeLeaves h schema sources part.rows

-- rows are what the first of the mutations for which a part waits, up to one of them, leave of rows with which it stands for the history (docs/definitions.md, "The core")
pub record RewriteLeaves (h : History) (source : CorePart) (upto : ℕ) (out : List Row) : Type 0 where
  pub input : List Row
  pub stand : PartStands h (with_rows source input)
  pub last : IsNumberOfMutation source.table upto h
  pub waits : data_version source.name < upto
  pub out_is : out ≡ mutated (pending_upto upto (mutations_in source.table h) source.name) input

-- a part is what a rewrite may make of a part: it has the same blocks and level (docs/definitions.md, "The core")
pub record IsRewrittenPart (h : History) (source : CorePart) (upto : ℕ) (part : CorePart) : Type 0 where
  pub table : part.table ≡ source.table
  pub named : part.name ≡ rewritten source.name upto
  pub leaves : RewriteLeaves h source upto part.rows
