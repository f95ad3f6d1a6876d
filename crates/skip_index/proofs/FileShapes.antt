-- What is known of a skip index before its file is read.
use Rattle.std.proofs.Common.{◌≡◌, ℕ, ◌<◌, Some, sym, ap, ◌∙◌, List, subst, slice_get, option_map}
use Rattle.std.proofs.lemmas.Option.{get_or_from_slice_get, slice_get-map}
use Rattle.mt_values.specs.declared.schema.Column.{Column}
use Rattle.mt_values.specs.declared.schema.Schema.{Schema}
use Rattle.mt_values.specs.declared.schema.SkipIndex.{SkipIndex}
use Rattle.mt_values.specs.declared.value.ColType.{ColType}
use Rattle.mt_values.specs.declared.value.ColType.TheVariants as type
use Rattle.mt_values.specs.Schemas.{column_types}
use Rattle.skip_index.specs.declared.shapes.IndexShape.{IndexShape}
use Rattle.predicate.specs.declared.extent.Known.{Known}
use Rattle.skip_index.specs.declared.index.Index.{Index}
use Rattle.skip_index.specs.Blocks.{HasIndex, blocks_bytes, index_at}
use Rattle.mt_values.specs.Granules.{granules}
use Rattle.skip_index.specs.Files.{AreBlocksOf, IsIndexFile, block_size, shape_of, shape_over, type_at}
use Rattle.skip_index.proofs.Built.{own_is, positive}

-- the shape that is made of what the table says is that of its skip index
pub shape_is : (schema : Schema) (place rows : ℕ) (own : SkipIndex) (column : Column) → slice_get schema.indexes place ≡ Some own → slice_get schema.columns own.column ≡ Some column
    → record { column = own.column; col_type = column.col_type; kind = own.kind; span = own.granularity; granularity = schema.granularity; rows = rows } ≡ shape_of schema place rows
shape_is schema place rows own column there own_there =
    let typed : type_at schema own.column ≡ column.col_type =
    get_or_from_slice_get (column_types schema) own.column column.col_type type.Text
    (slice_get-map (λ (x : Column). x.col_type) schema.columns own.column ∙ ap (option_map (λ (x : Column). x.col_type)) own_there) in
    let with : ColType → IndexShape = λ t. record { column = own.column; col_type = t; kind = own.kind; span = own.granularity; granularity = schema.granularity; rows = rows } in
    ap with (sym typed) ∙ ap (λ i. shape_over schema i rows) (sym (own_is schema place own there))

-- its blocks have rows
pub size_some : (schema : Schema) (place rows : ℕ) → HasIndex schema place → 0 < block_size (shape_of schema place rows)
size_some schema place rows has = positive schema.granularity (index_at schema place).granularity has.granularity has.span

-- blocks that are read, as a skip index of the shape
pub file_is : (made shape : IndexShape) (bytes : List ℕ) (blocks : List Known) (count : ℕ) → made ≡ shape → AreBlocksOf made blocks → bytes ≡ blocks_bytes blocks → count ≡ granules made.granularity made.rows
    → IsIndexFile shape bytes (record { column = made.column; span = made.span; granules = count; blocks = blocks })
file_is made shape bytes blocks count same kept spelled count_is =
    let with : ℕ → Index = λ n. record { column = made.column; span = made.span; granules = n; blocks = blocks } in
    subst (λ s. IsIndexFile s bytes (with count)) same (record { kept = kept; whole = ap with count_is; spelled = spelled })
