use Rattle.part_reader.proofs.Holding.{holds_at, mark_placed, sealed_folder, written_holds}
use Rattle.part_reader.proofs.SoundRows.{written_loaded}
use Rattle.part_reader.proofs.laws.parts_hold_what_was_written.Goals as goal

pub returns-clause-sealed : goal.returns-clause-sealed
returns-clause-sealed g c = sealed_folder

pub returns-clause-written : goal.returns-clause-written
returns-clause-written g c = λ schema part rows files told loaded folder. written_holds g.D.Dir.files schema part rows files told loaded folder

pub returns-clause-loaded : goal.returns-clause-loaded
returns-clause-loaded g c = λ schema rows files has kept folder. written_loaded schema files rows folder has kept

pub returns-clause-columns : goal.returns-clause-columns
returns-clause-columns g c = λ schema part places rows holds below. holds_at g.D.Dir.files schema part rows places holds below

pub returns-clause-marks : goal.returns-clause-marks
returns-clause-marks g c = mark_placed
