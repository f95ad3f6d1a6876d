-- Which granules of a part a condition leaves, by what is kept of a skip index (docs/definitions.md, "Boxes of skip indexes").
use Rattle.std.specs.Prelude.{ℕ, ◌/◌, Bool, false, List, [], map, Option, slice_get, slice_index_or, if◌then◌else◌}
use Rattle.std.specs.List.{range_with_len}
use Rattle.std.specs.Option.{unwrap_or}
use Rattle.mt_values.specs.declared.expr.Test.{Test}
use Rattle.mt_values.specs.Conditions.{Condition}
use Rattle.predicate.specs.Boxes.{can, only_column}
use Rattle.predicate.specs.declared.extent.Extent.{Extent}
use Rattle.predicate.specs.declared.extent.Known.{Known}
use Rattle.predicate.specs.declared.extent.Known.TheVariants as known
use Rattle.skip_index.specs.declared.index.Index.{Index}

-- whether the values of a column are not those that were indexed; a list that is too short says that they are (docs/definitions.md, "Boxes of skip indexes")
abbrev pub is_unknown : List Bool → ℕ → Bool
is_unknown unknown column = slice_index_or unknown column false

-- what is known of a column by what is kept of a block; past the last block there is nothing (docs/definitions.md, "Boxes of skip indexes")
abbrev pub known_by : Bool → Option Known → Known
known_by unknown kept = if unknown then known.Unknown else unwrap_or kept known.Unknown

-- the box of a block of granules: the index's column has what is kept, and of the others nothing is known (docs/definitions.md, "Boxes of skip indexes")
abbrev pub block_box : Index → List Bool → ℕ → Extent
block_box index unknown block = only_column index.column (known_by (is_unknown unknown index.column) (slice_get index.blocks block))

-- what each block answers, where its values are those that were indexed (docs/definitions.md, "Boxes of skip indexes")
abbrev pub answers_of : Index → Condition Test → List Bool → List Bool
answers_of index c unknown = if is_unknown unknown index.column then [] else map (λ k. (can c (only_column index.column k)).yes) index.blocks

-- whether each granule is chosen: the condition may be true in the box of its block (docs/definitions.md, "Boxes of skip indexes")
abbrev pub chosen_by : Index → Condition Test → List Bool → List Bool
chosen_by index c unknown = map (λ granule. (can c (block_box index unknown (granule / index.span))).yes) (range_with_len 0 index.granules)
