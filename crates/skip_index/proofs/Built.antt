-- What is kept of rows of a table, from what is kept of the values of their column.
use Rattle.std.proofs.Common.{◌≡◌, ℕ, suc, zero, ◌*◌, ◌<◌, Bool, true, false, cond, List, [], ◌∷◌, All, Some, refl, sym, ap, ap₂, ◌∙◌, subst, nat_le, length, map, slice_get, arith}
use Rattle.std.proofs.lemmas.Bool.{leb-true}
use Rattle.std.proofs.lemmas.List.{length-map}
use Rattle.std.proofs.lemmas.List.Elements.{All-cons, All-nil}
use Rattle.std.proofs.lemmas.Option.{get_or_from_slice_get}
use Rattle.std.specs.Int.{div_ceil}
use Rattle.mt_values.specs.declared.schema.Column.{Column}
use Rattle.mt_values.specs.declared.schema.IndexKind.{IndexKind}
use Rattle.mt_values.specs.declared.schema.IndexKind.TheVariants as kind
use Rattle.mt_values.specs.declared.schema.Schema.{Schema}
use Rattle.mt_values.specs.declared.schema.SkipIndex.{SkipIndex}
use Rattle.mt_values.specs.declared.value.ColType.{ColType}
use Rattle.mt_values.specs.declared.value.Value.{Value}
use Rattle.mt_values.specs.Grid.{AreRowsOf, column_of, picked}
use Rattle.mt_values.specs.Schemas.{column_types, is_large}
use Rattle.mt_values.specs.Values.{Row}
use Rattle.mt_values.proofs.Grids.{length_picked_within}
use Rattle.predicate.specs.declared.extent.Known.{Known}
use Rattle.predicate.specs.declared.extent.Known.TheVariants as known
use Rattle.column_file.proofs.Writing.{values_at, values_of_rows}
use Rattle.skip_index.specs.Blocks.{IsCounted, blocks_of, distinct_of, index_at, index_of, index_over, kept_of, most_kept, no_index}
use Rattle.skip_index.specs.declared.index.Index.{Index}
use Rattle.skip_index.proofs.OneWay.{most_small}

-- the skip index that is found at a place is that of the table
pub own_is : (schema : Schema) (place : ℕ) (own : SkipIndex) → slice_get schema.indexes place ≡ Some own → index_at schema place ≡ own
own_is schema place own e = get_or_from_slice_get schema.indexes place own no_index e

-- a table has so many columns as types
pub length_types : (schema : Schema) → length (column_types schema) ≡ length schema.columns
length_types schema = length-map schema.columns (λ (x : Column). x.col_type)

pub positive : (a b : ℕ) → 0 < a → 0 < b → 0 < a * b
positive (suc a) (suc b) p q = omega arith
positive zero b p q = absurd (omega arith)
positive (suc a) zero p q = absurd (omega arith)

-- ---- what is kept of rows

pub built : (schema : Schema) (place : ℕ) (own : SkipIndex) (types : List ColType) (rows : List Row) (values : List Value) (order : List ℕ) (count : ℕ) (blocks : List Known)
    → slice_get schema.indexes place ≡ Some own → AreRowsOf types rows → own.column < length types → values ≡ column_of own.column rows → All (λ p. p < length rows) order
    → count ≡ div_ceil (length order) schema.granularity
    → blocks ≡ map (kept_of own.kind) (blocks_of (schema.granularity * own.granularity) (values_at values order))
    → record { column = own.column; span = own.granularity; granules = count; blocks = blocks } ≡ index_of schema place (picked rows order)
built schema place own types rows values order count blocks there typed below values_are within count_is blocks_are =
    let with : ℕ → List Known → Index = λ n ks. record { column = own.column; span = own.granularity; granules = n; blocks = ks } in
    ap₂ with
    (count_is ∙ ap (λ n. div_ceil n schema.granularity) (sym (length_picked_within rows order within)))
    (blocks_are ∙ ap (λ vs. map (kept_of own.kind) (blocks_of (schema.granularity * own.granularity) vs)) (values_of_rows types rows own.column values order typed below values_are))
    ∙ ap (λ (i : SkipIndex). index_over i schema.granularity (picked rows order)) (sym (own_is schema place own there))

-- ---- a u32 counts what is kept

kept_counted : (k : IndexKind) (vs : List Value) → is_large k ≡ false → IsCounted (kept_of k vs)
kept_counted kind.MinMax [] small = tt
kept_counted kind.MinMax (v ∷ vs) small = tt
kept_counted (kind.Set limit) vs small = by (nat_le (length (distinct_of vs)) (most_kept limit)) refl
  where
    by : (b : Bool) → nat_le (length (distinct_of vs)) (most_kept limit) ≡ b → IsCounted (cond b (known.List (distinct_of vs)) known.Unknown)
    by true e = omega (arith, leb-true (length (distinct_of vs)) (most_kept limit) e, most_small limit small)
    by false e = tt

all_counted : (k : IndexKind) (vss : List (List Value)) → is_large k ≡ false → All IsCounted (map (kept_of k) vss)
all_counted k [] small = All-nil IsCounted
all_counted k (vs ∷ vss) small = All-cons IsCounted (kept_of k vs) (map (kept_of k) vss) (kept_counted k vs small) (all_counted k vss small)

pub index_counted : (schema : Schema) (place : ℕ) (rows : List Row) (index : Index) → is_large (index_at schema place).kind ≡ false → index ≡ index_of schema place rows → All IsCounted index.blocks
index_counted schema place rows index small is =
    subst (λ (i : Index). All IsCounted i.blocks) (sym is)
    (all_counted (index_at schema place).kind (blocks_of (schema.granularity * (index_at schema place).granularity) (column_of (index_at schema place).column rows)) small)
