-- What skip indexes keep of rows, and the granules that they leave, one item after another.
use Rattle.std.proofs.Common.{◌≡◌, ℕ, ◌+◌, ◌-◌, ◌*◌, ◌/◌, ◌<◌, List, [], ◌∷◌, ◌++◌, drop, get_or, length, map, min, replicate, slice_get, take, sym, ap, ◌∙◌, arith}
use Rattle.std.specs.List.{range_with_len}
use Rattle.std.proofs.lemmas.List.{map-append, replicate-append-replicate, take_min, take_more, take_rest}
use Rattle.std.proofs.lemmas.List.Elements.{filter_map-append}
use Rattle.std.proofs.lemmas.List.FromFn.{map-range_with_len_more}
use Rattle.mt_values.specs.declared.expr.Test.{Test}
use Rattle.mt_values.specs.declared.schema.IndexKind.{IndexKind}
use Rattle.mt_values.specs.declared.value.Value.{Value}
use Rattle.mt_values.specs.Conditions.{Condition}
use Rattle.mt_values.specs.Grid.{column_of}
use Rattle.mt_values.specs.Order.{key_of}
use Rattle.mt_values.specs.Values.{Row}
use Rattle.part_history.specs.predicate.Boxes.{can, only_column}
use Rattle.part_history.specs.predicate.Indexes.{chosen_by_blocks, kept_of}
use Rattle.part_history.specs.predicate.declared.extent.Known.{Known}
use Rattle.part_history.specs.predicate.declared.extent.Known.TheVariants as known

-- ---- what is kept

-- the values of one row more
pub column_more : (rows : List Row) (place i : ℕ) (d : Row) → i < length rows → column_of place (take (i + 1) rows) ≡ column_of place (take i rows) ++ key_of (place ∷ []) (get_or rows i d)
column_more rows place i d below =
    ap (column_of place) (take_more rows i d below) ∙ filter_map-append (λ (row : Row). slice_get row place) (take i rows) (get_or rows i d ∷ [])

-- a block of the values from a place on is the first of them
pub block_of_rest : (size at : ℕ) (values : List Value) → take (min size (length (take (length values - at) (drop at values)))) (take (length values - at) (drop at values)) ≡ take size (drop at values)
block_of_rest size at values =
    take_min size (take (length values - at) (drop at values)) ∙ ap (take size) (take_rest values at)

-- what is kept of one block more
pub kept_more : (kind : IndexKind) (size : ℕ) (values : List Value) (block : ℕ)
    → map (kept_of kind) (map (λ (b : ℕ). take size (drop (size * b) values)) (range_with_len 0 (block + 1)))
    ≡ map (kept_of kind) (map (λ (b : ℕ). take size (drop (size * b) values)) (range_with_len 0 block)) ++ kept_of kind (take size (drop (size * block) values)) ∷ []
kept_more kind size values block =
    let at : ℕ → List Value = λ b. take size (drop (size * b) values) in
    ap (map (kept_of kind)) (map-range_with_len_more at 0 block block (omega arith)) ∙ map-append (kept_of kind) (map at (range_with_len 0 block)) (at block ∷ [])

-- ---- what is left

-- the answer of one granule more
pub chosen_more : (c : Condition Test) (column span granule : ℕ) (blocks : List Known)
    → chosen_by_blocks c column span (granule + 1) blocks ≡ chosen_by_blocks c column span granule blocks ++ (can c (only_column column (get_or blocks (granule / span) known.Unknown))).yes ∷ []
chosen_more c column span granule blocks =
    map-range_with_len_more (λ (g : ℕ). (can c (only_column column (get_or blocks (g / span) known.Unknown))).yes) 0 granule granule (omega arith)

-- nothing is known of one column more
pub unknown_more : (place : ℕ) → replicate (place + 1) known.Unknown ≡ replicate place known.Unknown ++ known.Unknown ∷ []
unknown_more place = sym (replicate-append-replicate place 1 known.Unknown)
