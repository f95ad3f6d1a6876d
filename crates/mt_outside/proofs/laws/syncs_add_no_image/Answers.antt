use Rattle.mt_outside.proofs.Crashes.{image_as_read, image_synced, stamped_change, stamped_sync}
use Rattle.mt_outside.proofs.laws.syncs_add_no_image.Goals as goal

pub returns-clause-change : goal.returns-clause-change
returns-clause-change c = stamped_change

pub returns-clause-sync : goal.returns-clause-sync
returns-clause-sync c = stamped_sync

pub returns-clause-as_read : goal.returns-clause-as_read
returns-clause-as_read c = image_as_read

pub returns-clause-fewer : goal.returns-clause-fewer
returns-clause-fewer c = image_synced
