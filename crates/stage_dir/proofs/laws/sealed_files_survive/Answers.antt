use Rattle.stage_dir.proofs.Images.{after_change, since_above, since_at, image_above, never_there}
use Rattle.stage_dir.proofs.laws.sealed_files_survive.Goals as goal

pub returns-clause-change : goal.returns-clause-change
returns-clause-change c = λ before now clock mark name files change was later other. after_change before clock name files now was mark change later other

pub returns-clause-after_sync : goal.returns-clause-after_sync
returns-clause-after_sync c = λ before now clock mark name files names was left. since_above before clock name files now was mark names left

pub returns-clause-crash_now : goal.returns-clause-crash_now
returns-clause-crash_now c = λ before now clock mark name files names was above image. image_above before clock name files now was mark names above image

pub returns-clause-before_sync : goal.returns-clause-before_sync
returns-clause-before_sync c = λ before now clock mark name files names was absent left. since_at before clock name files now was mark names absent left

pub returns-clause-new_name : goal.returns-clause-new_name
returns-clause-new_name c = never_there
