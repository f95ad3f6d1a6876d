-- What is written of a part once all its rows are.
use Rattle.std.proofs.Common.{◌≡◌, ℕ, suc, ◌*◌, ◌-◌, ◌<◌, List, [], ◌∷◌, ◌++◌, Option, Some, None, refl, sym, ap, ap₂, ◌∙◌, subst, length, map, drop, slice_get, get_or, filter_map, All, arith}
use Rattle.std.specs.List.{cons_option, range_with_len}
use Rattle.std.proofs.lemmas.List.{map-append}
use Rattle.std.proofs.lemmas.List.Elements.{All-append, All-cons, All-drop, All-map, All-nil}
use Rattle.std.proofs.lemmas.List.FromFn.{get_or-range_with_len, length-range_with_len}
use Rattle.std.proofs.lemmas.Option.{get_or_from_slice_get, slice_get_within}
use Rattle.mt_base.specs.declared.name.FileId.{FileId}
use Rattle.mt_values.specs.declared.manifest.FileMark.{FileMark}
use Rattle.mt_values.specs.declared.schema.Schema.{Schema}
use Rattle.mt_values.specs.declared.value.ColType.{ColType}
use Rattle.mt_values.specs.Granules.{granule_starts, granules, mark_keys, with_final}
use Rattle.mt_values.specs.Grid.{AreRowsOf, Cells, rows_of}
use Rattle.mt_values.specs.Schemas.{column_types}
use Rattle.mt_values.specs.Values.{Row, types_of}
use Rattle.primary_marks.specs.Columns.{HaveKeys}
use Rattle.primary_marks.specs.Keys.{HasMarks}
use Rattle.primary_marks.specs.column_file.Marks.{granule_places, keys_bytes, places_bytes}
use Rattle.primary_marks.proofs.MarkedRows.{map-map}
use Rattle.skip_index.specs.declared.index.Index.{Index}
use Rattle.skip_index.specs.Blocks.{IsCounted, index_bytes, index_of}
use Rattle.skip_index.proofs.Built.{index_counted}
use Rattle.part_writer.specs.Growing.{HasParts, columns_of}
use Rattle.part_writer.specs.PartFiles.{column_ids, content_bytes, content_ids, content_of_part, indexes_of, mark_of, marks_of, opened_ids, with_bytes}
use Rattle.part_writer.proofs.Filling.{skips_done}
use Rattle.part_writer.proofs.KeptRows.{even_columns, keys_rows, width_is}

-- ---- the keys

all_starts : (P : Row → Type 0) (rows : List Row) (f : ℕ → ℕ) (places : List ℕ) → All P rows → All P (filter_map (λ i. slice_get rows (f i)) places)
all_starts P rows f [] all = All-nil P
all_starts P rows f (i ∷ is) all = by (slice_get rows (f i)) refl (all_starts P rows f is all)
  where
    by : (o : Option Row) → slice_get rows (f i) ≡ o → All P (filter_map (λ i. slice_get rows (f i)) is) → All P (cons_option o (filter_map (λ i. slice_get rows (f i)) is))
    by None e rest = rest
    by (Some r) e rest = All-cons P r (filter_map (λ i. slice_get rows (f i)) is) (subst P (get_or_from_slice_get rows (f i) r r e) (all (f i) r (slice_get_within rows (f i) r e))) rest

pub typed_final : (types : List ColType) (g : ℕ) (rows : List Row) → AreRowsOf types rows → AreRowsOf types (with_final g rows)
typed_final types g rows typed =
    let IsOwn : Row → Type 0 = λ row. types_of row ≡ types in
    All-append IsOwn (granule_starts g rows) (drop (length rows - 1) rows) (all_starts IsOwn rows (λ i. g * i) (range_with_len 0 (granules g (length rows))) typed) (All-drop IsOwn (length rows - 1) rows typed)

pub primary_within : (schema : Schema) → HasMarks schema → All (λ p. p < length (column_types schema)) schema.primary
primary_within schema has = subst (λ n. All (λ p. p < n) schema.primary) (sym (width_is schema)) has.own

module _ (schema : Schema) (rows : List Row) (has : HasParts schema) where
  pub even_keys : AreRowsOf (column_types schema) rows → (keys : List Cells) → keys ≡ columns_of (column_types schema) schema.primary (with_final schema.granularity rows) → HaveKeys keys (length (with_final schema.granularity rows))
  even_keys typed keys are =
      subst (λ (cs : List Cells). HaveKeys cs (length (with_final schema.granularity rows))) (sym are)
      (even_columns (column_types schema) (with_final schema.granularity rows) (typed_final (column_types schema) schema.granularity rows typed) schema.primary (primary_within schema has.marks))

  pub keys_are : AreRowsOf (column_types schema) rows → (keys : List Cells) → keys ≡ columns_of (column_types schema) schema.primary (with_final schema.granularity rows)
      → rows_of keys (length (with_final schema.granularity rows)) ≡ mark_keys schema.primary schema.granularity rows
  keys_are typed keys are =
      ap (λ (cs : List Cells). rows_of cs (length (with_final schema.granularity rows))) are
      ∙ keys_rows (column_types schema) (with_final schema.granularity rows) (typed_final (column_types schema) schema.granularity rows typed) schema.primary (primary_within schema has.marks)

  pub some_keys : (keys : List Cells) → keys ≡ columns_of (column_types schema) schema.primary (with_final schema.granularity rows) → 0 < length keys
  some_keys keys are = omega (arith, has.marks.some, ap length are, length-columns schema.primary)
    where
      length-columns : (places : List ℕ) → length (columns_of (column_types schema) places (with_final schema.granularity rows)) ≡ length places
      length-columns [] = refl
      length-columns (p ∷ ps) = ap suc (length-columns ps)

  -- ---- the skip indexes

  pub counted_indexes : (indexes : List Index) → indexes ≡ indexes_of schema rows → All (λ (i : Index). All IsCounted i.blocks) indexes
  counted_indexes indexes are =
      let n = length schema.indexes in
      subst (All (λ (i : Index). All IsCounted i.blocks)) (sym are)
      (All-map (λ (i : Index). All IsCounted i.blocks) (λ k. index_of schema k rows) (range_with_len 0 n)
      (λ k d below.
      let place = get_or (range_with_len 0 n) k d in
      let inside : k < n = omega (arith, below, length-range_with_len 0 n) in
      let within : place < n = omega (arith, inside, get_or-range_with_len 0 n k d inside) in
      index_counted schema place rows (index_of schema place rows) (has.indexes place within).few refl))

-- ---- the files

pub opened_bytes : (schema : Schema) (rows marks : List Row) (places opened : List (List ℕ)) (indexes : List Index) → places ≡ granule_places schema.granularity (length schema.columns) rows → marks ≡ mark_keys schema.primary schema.granularity rows
    → indexes ≡ indexes_of schema rows → opened ≡ places_bytes places ∷ keys_bytes marks ∷ map index_bytes indexes → opened ≡ map (content_bytes schema rows) (opened_ids schema)
opened_bytes schema rows marks places opened indexes starts keys kept is =
    is
    ∙ ap₂ (λ (ps : List (List ℕ)) (ms : List Row). places_bytes ps ∷ keys_bytes ms ∷ map index_bytes indexes) starts keys
    ∙ ap (λ (ls : List (List ℕ)). places_bytes (granule_places schema.granularity (length schema.columns) rows) ∷ keys_bytes (mark_keys schema.primary schema.granularity rows) ∷ ls) (skips_done schema rows indexes kept)

pub all_marks : (schema : Schema) (rows : List Row) (opened : List (List ℕ)) (first columns files : List FileMark) → opened ≡ map (content_bytes schema rows) (opened_ids schema) → first ≡ map mark_of opened
    → columns ≡ map (λ f. mark_of (content_bytes schema rows f)) (column_ids schema) → files ≡ first ++ columns → files ≡ marks_of (content_of_part schema rows)
all_marks schema rows opened first columns files bytes firsts lasts all =
    let mark : FileId → FileMark = λ f. mark_of (content_bytes schema rows f) in
    all
    ∙ ap₂ (λ (xs ys : List FileMark). xs ++ ys) (firsts ∙ ap (map mark_of) bytes ∙ map-map mark_of (content_bytes schema rows) (opened_ids schema)) lasts
    ∙ sym (map-append mark (opened_ids schema) (column_ids schema))
    ∙ sym (map-map (λ (f : FileId × List ℕ). mark_of f.1) (with_bytes schema rows) (content_ids schema))
