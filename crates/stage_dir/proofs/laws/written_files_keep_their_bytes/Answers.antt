use Rattle.stage_dir.proofs.Appends.{bytes_of_grown, bytes_of_grown_others, bytes_of_new, bytes_of_others, bytes_of-settled}
use Rattle.stage_dir.proofs.Images.{is_synced-sealed}
use Rattle.stage_dir.proofs.laws.written_files_keep_their_bytes.Goals as goal

pub returns-clause-file : goal.returns-clause-file
returns-clause-file c = bytes_of_new

pub returns-clause-others : goal.returns-clause-others
returns-clause-others c = bytes_of_others

pub returns-clause-grown : goal.returns-clause-grown
returns-clause-grown c = bytes_of_grown

pub returns-clause-grown_others : goal.returns-clause-grown_others
returns-clause-grown_others c = bytes_of_grown_others

pub returns-clause-seal : goal.returns-clause-seal
returns-clause-seal c = bytes_of-settled

pub returns-clause-synced : goal.returns-clause-synced
returns-clause-synced c = is_synced-sealed
