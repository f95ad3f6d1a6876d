use Rattle.std.proofs.Common.{◌≡◌, ◌<◌, ◌++◌, ◌∷◌, [], List, ℕ, Some, ap, ap₂, arith, get_or, is_some, length, map, slice_get, sym, take, ◌∙◌}
use Rattle.std.proofs.lemmas.List.{map_push, take_more}
use Rattle.std.proofs.lemmas.Option.{same_Some, slice_get-get_or, slice_get-map}
use Rattle.std.specs.Option.{option_map}
use Rattle.mt_outside.specs.Files.{appended}
use Rattle.mt_values.specs.declared.manifest.FileMark.{FileMark}
use Rattle.stage_dir.specs.Stages.{has_file}
use Rattle.part_writer.specs.PartFiles.{content_bytes, mark_of, opened_ids}
use Rattle.part_writer.proofs.ColumnFiles.{told_same}
use Rattle.part_writer.proofs.Contents.{content_known, opened_content}
use Rattle.part_writer.proofs.Growth.{has_content}
use Rattle.part_writer.proofs.OpenedFiles.{content_opened, opened_done, opened_more}
use Rattle.stage_dir.proofs.Appends.{noted_there}
use Rattle.part_writer.proofs.opened.write_opened.Goals as goal

pub loop-place-preserved : goal.loop-place-preserved
loop-place-preserved g c =
    let schema = c.args.schema.now in
    let n = c.loop-place.place in
    let f = c.in-Some.file in
    let before = c.loop-place.invariant in
    let now = c.in_ok-mark.ensures in
    let opened = opened_ids schema in
    let bytes = c.as_slice.result.now in
    let files = c.args.files.now in
    let below : n < length opened = omega (arith, c.requires.files, c.loop-place-test.true) in
    let here : slice_get opened n ≡ Some f = content_opened schema n f below (sym c.in-Some.ensures) in
    let item : slice_get files n ≡ Some bytes = slice_get-get_or files n c.index-files-place.result c.loop-place-test.true ∙ sym (ap Some c.index-files-place.is) ∙ ap Some (sym c.as_slice.ensures) in
    let is_content = content_known schema n f (opened_content schema n f here) in
    let there = ap (has_file f) before.names ∙ has_content schema f is_content in
    record {
      names = now.names ∙ noted_there f c.loop-place.stage.names there ∙ before.names;
      intact = now.intact;
      files = λ rows are has.
          opened_more schema rows n f c.loop-place.stage c.append_content.new.stage bytes (before.files rows are has) here now.names now.files now.intact
          (same_Some bytes (content_bytes schema rows f) (sym item ∙ ap (λ (ls : List (List ℕ)). slice_get ls n) are ∙ slice_get-map (content_bytes schema rows) opened n ∙ ap (option_map (content_bytes schema rows)) here));
      marks = c.in_ok-push.ensures.ok
          ∙ ap₂ (λ (ms : List FileMark) (m : FileMark). ms ++ m ∷ []) before.marks (now.mark ∙ ap mark_of (c.as_slice.ensures ∙ c.index-files-place.is))
          ∙ sym (map_push mark_of (take n files) (get_or files n c.index-files-place.result))
          ∙ ap (map mark_of) (sym (take_more files n c.index-files-place.result c.loop-place-test.true));
      told = ap is_some now.files ∙ told_same (appended f bytes) c.loop-place.stage.files ∙ before.told;
      count = now.cause.ok ∙ before.count;
    }

pub returns-clause-files : goal.returns-clause-files
returns-clause-files g c = λ rows are has.
    opened_done c.args.schema.now rows c.loop-place.place c.loop-place.stage (omega (arith, c.requires.files, c.loop-place-test.false)) (c.loop-place.invariant.files rows are has)
