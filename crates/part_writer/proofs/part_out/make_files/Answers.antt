use Rattle.std.proofs.Common.{◌≡◌, ◌+◌, ◌≤◌, ◌++◌, ◌∷◌, [], List, ap, arith, is_some, length, refl, sym, take, ◌∙◌}
use Rattle.std.proofs.lemmas.List.{take_all}
use Rattle.mt_base.specs.declared.name.FileId.{FileId}
use Rattle.mt_outside.specs.Files.{appended}
use Rattle.stage_dir.specs.Stages.{has_file}
use Rattle.stage_dir.proofs.Appends.{noted_new}
use Rattle.part_writer.specs.PartFiles.{content_ids}
use Rattle.part_writer.proofs.ColumnFiles.{told_same}
use Rattle.part_writer.proofs.Contents.{content_more, content_new, content_there}
use Rattle.part_writer.proofs.Growth.{empty_begun, empty_done, empty_more}
use Rattle.part_writer.proofs.part_out.make_files.Goals as goal

pub overflow_cast-count : goal.overflow_cast-count
overflow_cast-count g c = omega (arith, c.requires.few, c.content_count-count.ensures)

pub unreachable-requires : goal.unreachable-requires
unreachable-requires g c =
    let here = content_there c.args.schema.now c.loop-place.place (omega (arith, c.content_count-count.ensures)) in
    c.in_default.not-Some _ (c.content_file.ensures ∙ here)

pub loop-place-init : goal.loop-place-init
loop-place-init g c = record {
  names = c.requires.empty;
  intact = c.requires.intact;
  empty = empty_begun c.args.stage.now c.requires.empty c.requires.intact;
  told = refl;
  count = refl;
}

pub loop-place-preserved : goal.loop-place-preserved
loop-place-preserved g c =
    let schema = c.args.schema.now in
    let n = c.loop-place.place in
    let f = c.in-Some.file in
    let before = c.loop-place.invariant in
    let now = c.in_ok-append_file.ensures in
    let more : take (n + 1) (content_ids schema) ≡ take n (content_ids schema) ++ f ∷ [] = content_more schema n f (sym c.in-Some.ensures) in
    let new = ap (has_file f) before.names ∙ content_new schema n f (sym c.in-Some.ensures) in
    record {
      names = now.names ∙ noted_new f c.loop-place.stage.names new ∙ ap (λ (ns : List FileId). ns ++ f ∷ []) before.names ∙ sym more;
      intact = now.intact;
      empty = empty_more c.loop-place.stage.files c.append_file.new.stage.files f before.empty now.files;
      told = ap is_some now.files ∙ told_same (appended f []) c.loop-place.stage.files ∙ before.told;
      count = now.cause.ok ∙ before.count;
    }

pub returns-clause-files : goal.returns-clause-files
returns-clause-files g c =
    let schema = c.args.schema.now in
    let n = c.loop-place.place in
    let past : length (content_ids schema) ≤ n = omega (arith, c.requires.few, c.content_count-count.ensures) in
    empty_done schema c.loop-place.stage (c.loop-place.invariant.names ∙ take_all n (content_ids schema) past) c.loop-place.invariant.intact c.loop-place.invariant.empty
