-- The rows of a part whose files are sound, and what is kept of a part whose folder holds rows.
use Rattle.std.proofs.Common.{◌≡◌, ℕ, ◌+◌, ◌^◌, ◌<◌, List, Some, refl, sym, ap, ◌∙◌, subst, length, get_or, slice_get, All, arith}
use Rattle.std.proofs.lemmas.List.FromFn.{length-map-range_with_len}
use Rattle.std.proofs.lemmas.Option.{get_or_from_slice_get, same_Some, slice_get_within}
use Rattle.mt_values.specs.declared.manifest.FileMark.{FileMark}
use Rattle.mt_values.specs.declared.manifest.Manifest.{Manifest}
use Rattle.mt_base.specs.declared.name.FileId.{FileId}
use Rattle.mt_base.specs.declared.name.FileId.TheVariants as file
use Rattle.mt_values.specs.declared.schema.Schema.{Schema}
use Rattle.mt_values.specs.ColumnBytes.{column_bytes}
use Rattle.mt_values.specs.Grid.{column_of}
use Rattle.mt_values.specs.Schemas.{column_types}
use Rattle.mt_values.specs.Values.{Row}
use Rattle.mt_outside.specs.Files.{Files, bytes_of}
use Rattle.part_damage.specs.column_file.Marks.{granule_places, granules, mark_keys, marks_bytes, primary_bytes}
use Rattle.part_damage.specs.digest_file.Spellings.{IsMark}
use Rattle.part_damage.specs.primary_marks.Keys.{ArePartRows, HasMarks, IsPrimaryOf, shape_of}
use Rattle.part_damage.specs.primary_marks.Places.{AreMarksOf}
use Rattle.part_damage.proofs.PrimaryMarksColumnStarts.{marks_written}
use Rattle.part_damage.proofs.PrimaryMarksKeyRowsOf.{keys_from_rows}
use Rattle.part_damage.specs.part_writer.PartFiles.{content_bytes, content_ids, indexes_of, loaded_of, manifest_of, mark_of}
use Rattle.part_damage.proofs.PartWriterContents.{content_at, content_skip, mark_at, marks_length}
use Rattle.part_damage.proofs.PartWriterFolders.{bytes_at, content_held}
use Rattle.part_reader.specs.Parts.{FolderHolds}
use Rattle.part_damage.specs.Sound.{AreBlocksFor, AreBlocksUnder, AreIndexes, AreKeysFor, AreMarksFor, IsLoadedOf, IsManifestFor}
use Rattle.part_damage.specs.skip_index.declared.index.Index.{Index}
use Rattle.part_damage.specs.skip_index.Blocks.{index_bytes, index_of}
use Rattle.part_damage.specs.part_writer.PartFiles.{HasIndexes}
use Rattle.part_damage.proofs.IndexFiles.{index_from_rows}
use Rattle.part_reader.proofs.Holding.{mark_held}
use Rattle.part_reader.proofs.SameLists.{mapped_at}
use Rattle.part_damage.proofs.SpelledRows.{types_length}

-- ---- the places and keys of rows

-- the files of columns that have their marks in a manifest are not too long
pub sizes_fit : (manifest : Manifest) (bytes : List ℕ) (f : FileId) → All IsMark manifest.files → (place : ℕ) → slice_get manifest.files place ≡ Some (mark_of bytes) → length bytes < 2 ^ 64
sizes_fit manifest bytes f are place here =
    let d : FileMark = mark_of bytes in
    let is : IsMark (get_or manifest.files place d) = are place d (slice_get_within manifest.files place d here) in
    (subst IsMark (get_or_from_slice_get manifest.files place d d here) is).0

module _ (schema : Schema) (rows : List Row) (count : ℕ) (has : HasMarks schema) (are : ArePartRows schema count rows) where
  -- what marks.bin has of rows says their places
  pub places_of_rows : ((c : ℕ) → c < length schema.columns → length (column_bytes (column_of c rows)) < 2 ^ 64) → AreMarksFor schema count (marks_bytes schema.granularity (length schema.columns) rows) (granule_places schema.granularity (length schema.columns) rows)
  places_of_rows small =
      subst (λ n. AreMarksOf (length schema.columns) (granules schema.granularity n) (marks_bytes schema.granularity (length schema.columns) rows) (granule_places schema.granularity (length schema.columns) rows)) are.count_is
      (marks_written schema.granularity (length schema.columns) (column_types schema) rows has.granularity are.typed (omega (arith, types_length schema)) small)

  -- and what primary.bin has of them their keys
  pub keys_of_rows : AreKeysFor schema count (primary_bytes schema.primary schema.granularity rows) (mark_keys schema.primary schema.granularity rows)
  keys_of_rows =
      subst (λ n. IsPrimaryOf (shape_of schema n) (primary_bytes schema.primary schema.granularity rows) (mark_keys schema.primary schema.granularity rows)) are.count_is
      (keys_from_rows schema rows has (record { count_is = refl; typed = are.typed; fit = are.fit }))

  -- and the file of each skip index what it keeps of them
  pub index_of_rows : HasIndexes schema → (n : ℕ) → n < length schema.indexes → AreBlocksFor schema count n (index_bytes (index_of schema n rows)) (index_of schema n rows)
  index_of_rows kept n below =
      subst (λ k. AreBlocksFor schema k n (index_bytes (index_of schema n rows)) (index_of schema n rows)) are.count_is
      (index_from_rows schema n rows (kept n below) (record { count_is = refl; typed = are.typed; fit = are.fit }))

-- what is kept of the skip indexes is what their files say, where each is so
pub indexes_under : (schema : Schema) (manifest : Manifest) (files : Files) (rows : List Row) → ((n : ℕ) → n < length schema.indexes → AreBlocksUnder schema manifest n (bytes_of (file.Skip n) files) (index_of schema n rows))
    → AreIndexes schema (λ n index. AreBlocksUnder schema manifest n (bytes_of (file.Skip n) files) index) (indexes_of schema rows)
indexes_under schema manifest files rows under = record { count_is = count; each = each }
  where
    count : length (indexes_of schema rows) ≡ length schema.indexes
    count = length-map-range_with_len (λ k. index_of schema k rows) 0 (length schema.indexes)

    each : (n : ℕ) (index : Index) → slice_get (indexes_of schema rows) n ≡ Some index → AreBlocksUnder schema manifest n (bytes_of (file.Skip n) files) index
    each n index here =
        let below : n < length schema.indexes = omega (arith, count, slice_get_within (indexes_of schema rows) n index here) in
        let own : slice_get (indexes_of schema rows) n ≡ Some (index_of schema n rows) = mapped_at (λ k. index_of schema k rows) (length schema.indexes) n below in
        subst (AreBlocksUnder schema manifest n (bytes_of (file.Skip n) files)) (same_Some (index_of schema n rows) index (sym own ∙ here)) (under n below)

-- ---- folders that hold rows

module _ (schema : Schema) (files : Files) (rows : List Row) (w : FolderHolds schema rows files) where
  -- the bytes of each file
  pub folder_bytes : (place : ℕ) (f : FileId) → slice_get (content_ids schema) place ≡ Some f → bytes_of f files ≡ content_bytes schema rows f
  folder_bytes place f here = bytes_at schema rows files (content_ids schema) place f (content_held schema rows files w.held) here

  pub written_manifest : IsManifestFor schema (bytes_of file.Manifest files) (manifest_of schema rows)
  written_manifest = record { of = w.readable; count_is = marks_length schema rows (content_ids schema) }

  written_small : (c : ℕ) → c < length schema.columns → length (column_bytes (column_of c rows)) < 2 ^ 64
  written_small c below = sizes_fit (manifest_of schema rows) (column_bytes (column_of c rows)) (file.Column c) w.readable.marks (c + length schema.indexes + 2) (mark_at schema rows (c + length schema.indexes + 2) (file.Column c) (content_at schema c below))

  written_rows : ArePartRows schema (length rows) rows
  written_rows = record { count_is = refl; typed = w.typed; fit = w.encodable }

  -- what its files say is that of the rows
  pub written_loaded : HasMarks schema → HasIndexes schema → IsLoadedOf schema files (loaded_of schema rows)
  written_loaded has kept = record {
    schema_is = refl;
    manifest = written_manifest;
    places = record {
      marked = mark_held schema rows file.Marks tt ∙ ap (λ bs. Some (mark_of bs)) (sym (folder_bytes 0 file.Marks refl));
      are = subst (λ bs. AreMarksFor schema (length rows) bs (granule_places schema.granularity (length schema.columns) rows)) (sym (folder_bytes 0 file.Marks refl)) (places_of_rows schema rows (length rows) has written_rows written_small);
    };
    keys = record {
      marked = mark_held schema rows file.Primary tt ∙ ap (λ bs. Some (mark_of bs)) (sym (folder_bytes 1 file.Primary refl));
      are = subst (λ bs. AreKeysFor schema (length rows) bs (mark_keys schema.primary schema.granularity rows)) (sym (folder_bytes 1 file.Primary refl)) (keys_of_rows schema rows (length rows) has written_rows);
    };
    indexes = indexes_under schema (manifest_of schema rows) files rows (λ n below.
        let same : bytes_of (file.Skip n) files ≡ index_bytes (index_of schema n rows) = folder_bytes (n + 2) (file.Skip n) (content_skip schema n below) in
        record {
          marked = mark_held schema rows (file.Skip n) below ∙ ap (λ bs. Some (mark_of bs)) (sym same);
          are = subst (λ bs. AreBlocksFor schema (length rows) n bs (index_of schema n rows)) (sym same) (index_of_rows schema rows (length rows) has written_rows kept n below);
        });
  }
