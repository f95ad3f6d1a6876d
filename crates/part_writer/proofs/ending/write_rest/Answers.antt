use Rattle.std.proofs.Common.{◌≡◌, ◌≤◌, ◌∷◌, ◌++◌, ℕ, All, Global, List, Vec, ap, ap₂, arith, length, map, subst, sym, ◌∙◌}
use Rattle.std.specs.Option.{option_map}
use Rattle.std.proofs.lemmas.List.{length-map, take_all}
use Rattle.sha2.specs.Sha256.{sha256}
use Rattle.mt_base.specs.declared.name.FileId.{FileId}
use Rattle.mt_base.specs.declared.name.FileId.TheVariants as file
use Rattle.mt_outside.specs.Files.{Files}
use Rattle.mt_values.specs.declared.manifest.FileMark.{FileMark}
use Rattle.mt_values.specs.declared.manifest.Manifest.{Manifest}
use Rattle.mt_values.specs.Granules.{mark_keys, with_final}
use Rattle.mt_values.specs.Manifests.{manifest_bytes}
use Rattle.mt_values.specs.Values.{Row}
use Rattle.digest_file.specs.Spellings.{IsManifestOf}
use Rattle.primary_marks.specs.column_file.Marks.{granule_places, keys_bytes, places_bytes}
use Rattle.skip_index.specs.Blocks.{IsCounted, index_bytes}
use Rattle.skip_index.specs.declared.index.Index.{Index}
use Rattle.stage_dir.specs.Stages.{has_file}
use Rattle.part_writer.specs.declared.loaded.Loaded.{Loaded}
use Rattle.part_writer.specs.Growing.{HasFiles, HasWritten, KeepsColumns}
use Rattle.part_writer.specs.PartFiles.{all_synced, content_bytes, content_ids, content_of_part, indexes_of, marks_of, opened_ids, with_bytes}
use Rattle.part_writer.proofs.Contents.{manifest_new, marks_length}
use Rattle.part_writer.proofs.EndedRows.{all_marks, counted_indexes, even_keys, keys_are, opened_bytes}
use Rattle.part_writer.proofs.Filling.{loaded_done, part_filled}
use Rattle.part_writer.proofs.Growth.{content_settled}
use Rattle.part_writer.proofs.ending.write_rest.Goals as goal
use Rattle.part_writer.proofs.ending.write_rest.Goals.{After-as_slice-3, In_ok-extend}
use Rattle.part_writer.proofs.ending.write_rest.Given.{Over}

-- all these rows are written
module _ (g : Over) (c : After-as_slice-3 g) (rows : List Row) (has : HasWritten c.args.stage.now c.args.grown.now rows (with_final c.args.grown.now.schema.granularity rows)) where
  columns_kept : KeepsColumns c.args.grown.now.schema rows c.deref_mut.result.now
  columns_kept = subst (KeepsColumns c.args.grown.now.schema rows) (sym c.deref_mut.ensures.value) has.keeps.columns

  marks_are : c.take_marks-marks.result ≡ mark_keys c.args.grown.now.schema.primary c.args.grown.now.schema.granularity rows
  marks_are =
      let schema = c.args.grown.now.schema in
      c.take_marks-marks.ensures (length (with_final schema.granularity rows)) (even_keys schema rows has.keeps.table has.keeps.typed c.args.grown.now.keys.items has.keeps.keys)
      ∙ keys_are schema rows has.keeps.table has.keeps.typed c.args.grown.now.keys.items has.keeps.keys

  places_are : c.in_ok-places.places ≡ granule_places c.args.grown.now.schema.granularity (length c.args.grown.now.schema.columns) rows
  places_are = c.in_ok-places.ensures.places c.args.grown.now.schema rows columns_kept

  indexes_are : c.of-indexes.result ≡ indexes_of c.args.grown.now.schema rows
  indexes_are = c.of-indexes.ensures ∙ ap (λ (v : Vec Index Global). v.items) c.replace.ensures.value ∙ has.keeps.indexes

  opened_are : c.as_slice-3.result.now ≡ map (content_bytes c.args.grown.now.schema rows) (opened_ids c.args.grown.now.schema)
  opened_are =
      opened_bytes c.args.grown.now.schema rows c.take_marks-marks.result c.in_ok-places.places c.as_slice-3.result.now c.of-indexes.result places_are marks_are indexes_are
      (c.as_slice-3.ensures ∙ c.in_ok-opened.ensures
      ∙ ap₂ (λ (ps : List (List ℕ)) (is : List Index). places_bytes ps ∷ keys_bytes c.take_marks-marks.result ∷ map index_bytes is) c.as_slice.ensures c.as_slice-2.ensures)

pub take_marks-marks-requires-clause-even : goal.take_marks-marks-requires-clause-even
take_marks-marks-requires-clause-even g c =
    let grown = c.args.grown.now in
    let has = c.requires.has in
    (length (with_final grown.schema.granularity c.requires.rows), even_keys grown.schema c.requires.rows has.keeps.table has.keeps.typed grown.keys.items has.keeps.keys)

pub spell_opened-requires : goal.spell_opened-requires
spell_opened-requires g c =
    let has = c.requires.has in
    let are = c.of-indexes.ensures ∙ ap (λ (v : Vec Index Global). v.items) c.replace.ensures.value ∙ has.keeps.indexes in
    subst (All (λ (i : Index). All IsCounted i.blocks)) (sym c.as_slice-2.ensures) (counted_indexes c.args.grown.now.schema c.requires.rows has.keeps.table c.of-indexes.result are)

pub write_opened-requires-clause-names : goal.write_opened-requires-clause-names
write_opened-requires-clause-names g c = λ κs within. c.requires.has.files.names

pub write_opened-requires-clause-intact : goal.write_opened-requires-clause-intact
write_opened-requires-clause-intact g c = λ κs within. c.requires.has.files.intact

pub write_opened-requires-clause-few : goal.write_opened-requires-clause-few
write_opened-requires-clause-few g c = λ κs within. c.requires.has.keeps.table.few

pub write_opened-requires-clause-files : goal.write_opened-requires-clause-files
write_opened-requires-clause-files g c = λ κs within.
    let schema = c.args.grown.now.schema in
    ap length (opened_are g (goal.at.write_opened-requires-clause-files g c).After-as_slice-3 c.requires.rows c.requires.has) ∙ length-map (opened_ids schema) (content_bytes schema c.requires.rows)

-- the marks of all files
files_are : (g : Over) (c : In_ok-extend g) (rows : List Row) → HasWritten c.args.stage.now c.args.grown.now rows (with_final c.args.grown.now.schema.granularity rows) → c.as_slice-3.result.now ≡ map (content_bytes c.args.grown.now.schema rows) (opened_ids c.args.grown.now.schema)
    → c.extend.new.self ≡ marks_of (content_of_part c.args.grown.now.schema rows)
files_are g c rows has opened =
    let schema = c.args.grown.now.schema in
    all_marks schema rows c.as_slice-3.result.now c.in_ok-files.files c.in_ok-places.column_marks c.extend.new.self opened c.in_ok-files.ensures.marks
    (c.in_ok-places.ensures.marks schema rows (subst (KeepsColumns schema rows) (sym c.deref_mut.ensures.value) has.keeps.columns))
    (c.in_ok-extend.ensures.ok ∙ ap (λ (l : List FileMark). c.in_ok-files.files ++ l) c.as_slice-4.ensures)

pub manifest_bytes-requires : goal.manifest_bytes-requires
manifest_bytes-requires g c =
    let schema = c.args.grown.now.schema in
    let at = goal.at.manifest_bytes-requires g c in
    let opened = opened_are g at.After-as_slice-3 c.requires.rows c.requires.has in
    omega (arith, ap length (files_are g at.In_ok-extend c.requires.rows c.requires.has opened), marks_length schema c.requires.rows (content_ids schema), c.requires.has.keeps.table.few)

pub write_file-requires-clause-intact : goal.write_file-requires-clause-intact
write_file-requires-clause-intact g c = λ κs within.
    let opened = opened_are g (goal.at.write_file-requires-clause-intact g c).After-as_slice-3 c.requires.rows c.requires.has in
    let has : HasFiles c.args.grown.now.schema (content_bytes c.args.grown.now.schema c.requires.rows) c.write_opened.new.stage = c.in_ok-files.ensures.files c.requires.rows opened c.requires.has.files in
    has.intact

pub write_file-requires-clause-new : goal.write_file-requires-clause-new
write_file-requires-clause-new g c = λ κs within.
    let opened = opened_are g (goal.at.write_file-requires-clause-new g c).After-as_slice-3 c.requires.rows c.requires.has in
    let has : HasFiles c.args.grown.now.schema (content_bytes c.args.grown.now.schema c.requires.rows) c.write_opened.new.stage = c.in_ok-files.ensures.files c.requires.rows opened c.requires.has.files in
    ap (has_file file.Manifest) has.names ∙ manifest_new c.args.grown.now.schema

pub returns-clause-files : goal.returns-clause-files
returns-clause-files g c = λ rows has.
    let schema = c.args.grown.now.schema in
    let ids = content_ids schema in
    let at = goal.at.returns-clause-files g c in
    let opened = opened_are g at.After-as_slice-3 rows has in
    let marks = files_are g at.In_ok-extend rows has opened in
    let files : HasFiles schema (content_bytes schema rows) c.write_opened.new.stage = c.in_ok-files.ensures.files rows opened has.files in
    let past : length ids ≤ length ids = omega arith in
    part_filled c.args.stage.now.files c.write_opened.new.stage.files c.write_file.new.stage.files schema rows (length ids) (record { rows = c.args.grown.now.rows; files = c.extend.new.self }) c.deref.result.now past
    (ap₂ (λ (n : ℕ) (ms : List FileMark). record { rows = n; files = ms }) has.keeps.rows marks)
    (c.deref.ensures.value ∙ c.in_ok-bytes.ensures.bytes)
    (content_settled schema rows c.write_opened.new.stage c.args.stage.now.files files c.in_ok-files.ensures.told
    ∙ ap (λ (fs : List FileId). option_map (λ (_ : Files). all_synced (map (with_bytes schema rows) fs)) c.args.stage.now.files) (sym (take_all (length ids) ids past)))
    c.in_ok-write_file.ensures.files

pub returns-clause-intact : goal.returns-clause-intact
returns-clause-intact g c = c.in_ok-write_file.ensures.intact

pub returns-clause-loaded : goal.returns-clause-loaded
returns-clause-loaded g c = λ rows has.
    let schema = c.args.grown.now.schema in
    let at = goal.at.returns-clause-loaded g c in
    let opened = opened_are g at.After-as_slice-3 rows has in
    let marks = files_are g at.In_ok-extend rows has opened in
    c.in_ok-of.ensures ∙ loaded_done schema c.in_ok-schema.schema rows (record { rows = c.args.grown.now.rows; files = c.extend.new.self }) c.take_marks-marks.result c.in_ok-places.places c.of-indexes.result
    c.in_ok-schema.ensures (ap₂ (λ (n : ℕ) (ms : List FileMark). record { rows = n; files = ms }) has.keeps.rows marks)
    (marks_are g at.After-as_slice-3 rows has) (places_are g at.After-as_slice-3 rows has) (indexes_are g at.After-as_slice-3 rows has)

pub returns-clause-readable : goal.returns-clause-readable
returns-clause-readable g c =
    let manifest : Manifest = record { rows = c.args.grown.now.rows; files = c.extend.new.self } in
    subst (λ (loaded : Loaded). IsManifestOf (manifest_bytes sha256 loaded.manifest) loaded.manifest) (sym c.in_ok-of.ensures)
    (subst (λ (bytes : List ℕ). IsManifestOf bytes manifest) c.in_ok-bytes.ensures.bytes c.in_ok-bytes.ensures.readable)
