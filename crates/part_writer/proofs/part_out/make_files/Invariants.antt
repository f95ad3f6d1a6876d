-- the files gone over are made, and none has bytes
use Rattle.std.proofs.Common.{◌≡◌, is_some, take}
use Rattle.stage_dir.specs.Stages.{IsIntact}
use Rattle.part_writer.specs.PartFiles.{content_ids}
use Rattle.part_writer.proofs.Growth.{AreEmpty}
use Rattle.part_writer.proofs.part_out.make_files.Given as goal

abbrev pub invariant-loop-place : goal.invariant-loop-place
invariant-loop-place g l = record {
  names : l.stage.names ≡ take l.place (content_ids l.schema);
  intact : IsIntact l.stage;
  empty : AreEmpty l.stage.files;
  told : is_some l.stage.files ≡ is_some l.initial.stage.files;
  count : l.stage.failed ≡ l.initial.stage.failed;
}
