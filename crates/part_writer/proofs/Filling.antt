-- The files of a part, written one after another.
use Rattle.std.proofs.Common.{◌≡◌, ℕ, ◌+◌, ◌<◌, ◌≤◌, inl, inr, true, List, [], ◌∷◌, ◌++◌, Option, Some, None, sym, ap, ap₂, ◌∙◌, subst, length, map, get_or, slice_get, take, All, arith, option_and_then}
use Rattle.std.specs.List.{range_with_len}
use Rattle.std.specs.Option.{option_map}
use Rattle.std.proofs.lemmas.Bool.{cases_lt}
use Rattle.std.proofs.lemmas.List.{map_push, take_all}
use Rattle.std.proofs.lemmas.List.Elements.{All-map}
use Rattle.std.proofs.lemmas.Option.{get_or_from_slice_get, slice_get-get_or, slice_get_within}
use Rattle.sha2.specs.Sha256.{sha256}
use Rattle.mt_values.specs.declared.manifest.Manifest.{Manifest}
use Rattle.mt_base.specs.declared.name.FileId.{FileId}
use Rattle.mt_base.specs.declared.name.FileId.TheVariants as file
use Rattle.mt_values.specs.declared.schema.Schema.{Schema}
use Rattle.mt_values.specs.declared.value.ColType.{ColType}
use Rattle.mt_values.specs.Grid.{AreRowsOf, column_of, picked}
use Rattle.mt_values.specs.Manifests.{manifest_bytes}
use Rattle.mt_values.specs.Values.{FitsType, Row, types_of}
use Rattle.mt_values.proofs.Grids.{lengths_typed, picked_within, slice_get-column_of}
use Rattle.mt_values.proofs.OrderBy.{all_reach}
use Rattle.mt_outside.specs.declared.disk.Written.{Written}
use Rattle.mt_outside.specs.Files.{Files}
use Rattle.stage_dir.specs.Stages.{settled, written}
use Rattle.part_writer.specs.PartFiles.{all_synced, content_bytes, content_ids, files_of_part, indexes_of, loaded_of, manifest_of, skip_ids, with_bytes}
use Rattle.primary_marks.specs.column_file.Marks.{granule_places, mark_keys}
use Rattle.primary_marks.proofs.MarkedRows.{map-map}
use Rattle.skip_index.specs.declared.index.Index.{Index}
use Rattle.skip_index.specs.Blocks.{index_bytes, index_of}

-- ---- files

-- what a seal makes of one file more
settled_more : (files : Files) (f : FileId) (bytes : List ℕ) → settled (files ++ written f bytes ∷ []) ≡ settled files ++ record { file = f; bytes = bytes; synced = true } ∷ []
settled_more files f bytes = map_push (λ (w : Written). record { file = w.file; bytes = w.bytes; synced = true }) files (written f bytes)

pub synced_push : (files : List (FileId × List ℕ)) (f : FileId) (bytes : List ℕ) → all_synced (files ++ (f, bytes) ∷ []) ≡ all_synced files ++ record { file = f; bytes = bytes; synced = true } ∷ []
synced_push files f bytes = map_push (λ (g : FileId × List ℕ). record { file = g.0; bytes = g.1; synced = true }) files (f, bytes)

pub filled_more : (first old new : Option Files) (so_far : Files) (f : FileId) (bytes : List ℕ) → option_map settled old ≡ option_map (λ _. so_far) first → new ≡ option_map (λ files. files ++ written f bytes ∷ []) old
    → option_map settled new ≡ option_map (λ _. so_far ++ record { file = f; bytes = bytes; synced = true } ∷ []) first
filled_more None None new so_far f bytes before e = ap (option_map settled) e
filled_more None (Some fs) new so_far f bytes before e = cc
filled_more (Some fs) None new so_far f bytes before e = cc
filled_more (Some first) (Some fs) new so_far f bytes before e =
    let same : settled fs ≡ so_far = some_same before in
    ap (option_map settled) e ∙ ap Some (settled_more fs f bytes ∙ ap (λ (l : Files). l ++ record { file = f; bytes = bytes; synced = true } ∷ []) same)
  where
    some_same : {x y : Files} → Some x ≡ Some y → x ≡ y
    some_same h = cc

-- the bytes of the files of the skip indexes
pub skips_done : (schema : Schema) (rows : List Row) (indexes : List Index) → indexes ≡ indexes_of schema rows → map index_bytes indexes ≡ map (content_bytes schema rows) (skip_ids schema)
skips_done schema rows indexes are =
    let places = range_with_len 0 (length schema.indexes) in
    ap (map index_bytes) are ∙ map-map index_bytes (λ n. index_of schema n rows) places ∙ sym (map-map (content_bytes schema rows) file.Skip places)

-- what is kept of the part
pub loaded_done : (schema twin : Schema) (rows : List Row) (manifest : Manifest) (marks : List Row) (places : List (List ℕ)) (indexes : List Index) → twin ≡ schema → manifest ≡ manifest_of schema rows → marks ≡ mark_keys schema.primary schema.granularity rows
    → places ≡ granule_places schema.granularity (length schema.columns) rows → indexes ≡ indexes_of schema rows → record { schema = twin; manifest = manifest; marks = marks; places = places; indexes = indexes } ≡ loaded_of schema rows
loaded_done schema twin rows manifest marks places indexes own is keys starts kept =
    ap₂ (λ (s : Schema) (m : Manifest). record { schema = s; manifest = m; marks = marks; places = places; indexes = indexes }) own is
    ∙ ap₂ (λ (ks : List Row) (ps : List (List ℕ)). record { schema = schema; manifest = manifest_of schema rows; marks = ks; places = ps; indexes = indexes }) keys starts
    ∙ ap (λ (is : List Index). record { schema = schema; manifest = manifest_of schema rows; marks = mark_keys schema.primary schema.granularity rows; places = granule_places schema.granularity (length schema.columns) rows; indexes = is }) kept

-- with the manifest the files are those of the part
pub part_filled : (first old new : Option Files) (schema : Schema) (rows : List Row) (n : ℕ) (manifest : Manifest) (bytes : List ℕ) → length (content_ids schema) ≤ n → manifest ≡ manifest_of schema rows → bytes ≡ manifest_bytes sha256 manifest
    → option_map settled old ≡ option_map (λ _. all_synced (map (with_bytes schema rows) (take n (content_ids schema)))) first → new ≡ option_map (λ files. files ++ written file.Manifest bytes ∷ []) old
    → option_map settled new ≡ option_map (λ _. all_synced (files_of_part schema rows)) first
part_filled first old new schema rows n manifest bytes past is spelled before e =
    filled_more first old new (all_synced (map (with_bytes schema rows) (take n (content_ids schema)))) file.Manifest bytes before e
    ∙ ap (λ (fs : Files). option_map (λ (_ : Files). fs) first) (sym (synced_push (map (with_bytes schema rows) (take n (content_ids schema))) file.Manifest bytes)
    ∙ ap₂ (λ (fs : List FileId) (bs : List ℕ). all_synced (map (with_bytes schema rows) fs ++ (file.Manifest, bs) ∷ [])) (take_all n (content_ids schema) past) (spelled ∙ ap (manifest_bytes sha256) is))

-- ---- rows

pub picked_typed : (types : List ColType) (rows : List Row) (order : List ℕ) → AreRowsOf types rows → All (λ p. p < length rows) order → AreRowsOf types (picked rows order)
picked_typed types rows order typed within =
    subst (AreRowsOf types) (sym (picked_within rows order within)) (All-map (λ row. types_of row ≡ types) (λ p. get_or rows p []) order (λ k d below. typed (get_or order k d) [] (within k d below)))

-- the values of rows are those of their columns
pub rows_fit : (types : List ColType) (rows : List Row) → AreRowsOf types rows → ((c : ℕ) → c < length types → All FitsType (column_of c rows)) → All (λ (row : Row). All FitsType row) rows
rows_fit types rows typed columns k d below c v inside =
    let row : Row = get_or rows k d in
    let wide : length row ≡ length types = lengths_typed types rows typed k d below in
    let within : c < length types = omega arith in
    let here : slice_get (column_of c rows) k ≡ Some (get_or row c v) =
    slice_get-column_of c rows k (all_reach types rows c typed within)
    ∙ ap (option_and_then (λ (r : Row). slice_get r c)) (slice_get-get_or rows k d below) ∙ slice_get-get_or row c v inside in
    subst FitsType (get_or_from_slice_get (column_of c rows) k (get_or row c v) v here) (columns c within k v (slice_get_within (column_of c rows) k (get_or row c v) here))

-- one column more whose values fit
pub fits_below : (rows : List Row) (n : ℕ) → ((c : ℕ) → c < n → All FitsType (column_of c rows)) → All FitsType (column_of n rows) → (c : ℕ) → c < n + 1 → All FitsType (column_of c rows)
fits_below rows n before this c below = elim (cases_lt c n) [
  | inl less ↦ before c less
  | inr more ↦ subst (λ k. All FitsType (column_of k rows)) (omega (arith, more)) this
]
