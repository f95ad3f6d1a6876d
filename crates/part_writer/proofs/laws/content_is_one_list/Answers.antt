use Rattle.part_writer.specs.PartFiles.{content_ids}
use Rattle.part_writer.proofs.Contents.{content_all, content_known, content_new, files_with_bytes, manifest_new, mark_at}
use Rattle.part_writer.proofs.Folders.{sealed_bytes}
use Rattle.part_writer.proofs.laws.content_is_one_list.Goals as goal

pub returns-clause-ids : goal.returns-clause-ids
returns-clause-ids c = λ schema rows. files_with_bytes schema rows (content_ids schema)

pub returns-clause-content : goal.returns-clause-content
returns-clause-content c = content_known

pub returns-clause-all : goal.returns-clause-all
returns-clause-all c = content_all

pub returns-clause-once : goal.returns-clause-once
returns-clause-once c = content_new

pub returns-clause-manifest : goal.returns-clause-manifest
returns-clause-manifest c = manifest_new

pub returns-clause-marks : goal.returns-clause-marks
returns-clause-marks c = mark_at

pub returns-clause-sealed : goal.returns-clause-sealed
returns-clause-sealed c = sealed_bytes
