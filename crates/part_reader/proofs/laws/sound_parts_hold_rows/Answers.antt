use Rattle.std.proofs.Common.{None}
use Rattle.part_reader.proofs.CheckedParts.{held_sound}
use Rattle.part_reader.proofs.DamagedFiles.{file_told}
use Rattle.part_reader.proofs.HeldRows.{held_unsound, one_held, undamaged_rows}
use Rattle.part_reader.proofs.laws.sound_parts_hold_rows.Goals as goal

pub returns-clause-some : goal.returns-clause-some
returns-clause-some g c = λ schema part files has kept known is none. undamaged_rows g.D.Dir.files schema part files has kept known is (file_told schema files None none)

pub returns-clause-one : goal.returns-clause-one
returns-clause-one g c = one_held g.D.Dir.files

pub returns-clause-sound : goal.returns-clause-sound
returns-clause-sound g c = λ schema part files rows known holds. held_unsound g.D.Dir.files schema part files rows known holds

pub returns-clause-checked : goal.returns-clause-checked
returns-clause-checked g c = λ schema part rows fault holds why. held_sound g.D.Dir.files schema part rows holds fault why
