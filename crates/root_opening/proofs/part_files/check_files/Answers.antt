use Rattle.std.proofs.Common.{ap, ◌∙◌}
use Rattle.root_store.proofs.TableIndexes.{has_indexes, kept_indexes}
use Rattle.root_store.proofs.TableMarks.{has_marks, kept_marks}
use Rattle.root_opening.proofs.Loading.{damaged_own, sound_own}
use Rattle.root_opening.proofs.part_files.check_files.Goals as goal

pub open_part-requires-clause-marks : goal.open_part-requires-clause-marks
open_part-requires-clause-marks g c κs within = has_marks c.args.schema.now c.requires

pub open_part-requires-clause-indexes : goal.open_part-requires-clause-indexes
open_part-requires-clause-indexes g c κs within = has_indexes c.args.schema.now c.requires

pub check_part-requires-clause-marks : goal.check_part-requires-clause-marks
check_part-requires-clause-marks g c κs within = kept_marks c.args.schema.now c.in_ok-part.part.loaded.schema c.in_ok-part.ensures.opened.schema_is c.requires

pub check_part-requires-clause-indexes : goal.check_part-requires-clause-indexes
check_part-requires-clause-indexes g c κs within = kept_indexes c.args.schema.now c.in_ok-part.part.loaded.schema c.in_ok-part.ensures.opened.schema_is c.requires

pub returns-in-Ok-clause-sound : goal.returns-in-Ok-clause-sound
returns-in-Ok-clause-sound g c = λ files told.
    sound_own c.args.schema.now files c.in_ok-part.part.loaded (c.in_ok-part.ensures.loaded files told) (c.in-Ok.ensures.file files (ap g.R.Dir.Dir.files c.in_ok-part.ensures.dir ∙ told))

pub returns-in-Err-clause-damaged : goal.returns-in-Err-clause-damaged
returns-in-Err-clause-damaged g c = λ files told.
    damaged_own c.args.schema.now files c.in_ok-part.part.loaded c.in-Err.fault (c.in_ok-part.ensures.loaded files told) (c.in-Err.ensures.file files (ap g.R.Dir.Dir.files c.in_ok-part.ensures.dir ∙ told))

-- a fault is no part that is sound
pub returns-in-Err-clause-sound : goal.returns-in-Err-clause-sound
returns-in-Err-clause-sound g c = λ files told. tt
