-- the files gone over are written, and their marks are kept
use Rattle.std.proofs.Common.{◌≡◌, List, is_some, map, take}
use Rattle.mt_values.specs.Values.{Row}
use Rattle.stage_dir.specs.Stages.{IsIntact}
use Rattle.part_writer.specs.Growing.{HasFiles, grown_bytes}
use Rattle.part_writer.specs.PartFiles.{content_bytes, content_ids, mark_of, opened_ids}
use Rattle.part_writer.proofs.OpenedFiles.{opened_below}
use Rattle.part_writer.proofs.opened.write_opened.Given as goal

abbrev pub invariant-loop-place : goal.invariant-loop-place
invariant-loop-place g l = record {
  names : l.stage.names ≡ content_ids l.schema;
  intact : IsIntact l.stage;
  files : (rows : List Row) → l.files ≡ map (content_bytes l.schema rows) (opened_ids l.schema) → HasFiles l.schema (grown_bytes rows) l.initial.stage → HasFiles l.schema (opened_below l.schema rows l.place) l.stage;
  marks : l.marks ≡ map mark_of (take l.place l.files);
  told : is_some l.stage.files ≡ is_some l.initial.stage.files;
  count : l.stage.failed ≡ l.initial.stage.failed;
}
