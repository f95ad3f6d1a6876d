use Rattle.part_reader.proofs.HeldColumns.{chosen_at, chosen_each, chosen_of_one, left_at, run_at}
use Rattle.part_reader.proofs.Holding.{sound_part}
use Rattle.part_reader.proofs.laws.held_columns_are_sound.Goals as goal

pub returns-clause-whole : goal.returns-clause-whole
returns-clause-whole g c = sound_part g.D.Dir.files

pub returns-clause-each : goal.returns-clause-each
returns-clause-each g c = λ schema part places rows chosen columns fault holds said typed why. chosen_each g.D.Dir.files schema part places rows holds chosen said columns fault typed why

pub returns-clause-chosen : goal.returns-clause-chosen
returns-clause-chosen g c = λ schema part places rows chosen fault holds said why. chosen_at g.D.Dir.files schema part places rows holds chosen said fault why

pub returns-clause-one : goal.returns-clause-one
returns-clause-one g c = λ schema part number rows t chosen fault holds typed said why. chosen_of_one g.D.Dir.files schema part number rows holds t typed chosen said fault why

pub returns-clause-left : goal.returns-clause-left
returns-clause-left g c = λ schema part places rows left fault holds why. left_at g.D.Dir.files schema part places rows holds left fault why

pub returns-clause-run : goal.returns-clause-run
returns-clause-run g c = λ schema part places rows run fault holds within why. run_at g.D.Dir.files schema part places rows holds run fault within why
