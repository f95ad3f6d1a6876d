use Rattle.std.proofs.Common.{None, Some, inl}
use Rattle.mt_base.specs.declared.name.FileId.TheVariants as file
use Rattle.part_reader.proofs.Damages.{manifest_sound}
use Rattle.part_reader.proofs.DamagedFiles.{damaged_is, file_is, file_told}
use Rattle.part_reader.proofs.HeldRows.{written_undamaged}
use Rattle.part_reader.proofs.laws.damage_is_one_file.Goals as goal

pub returns-clause-file : goal.returns-clause-file
returns-clause-file c = damaged_is

pub returns-clause-one : goal.returns-clause-one
returns-clause-one c = file_is

pub returns-clause-opened : goal.returns-clause-opened
returns-clause-opened c = λ schema files manifest found is under. file_is schema files found (inl (manifest, is, under))

pub returns-clause-written : goal.returns-clause-written
returns-clause-written c = λ schema files rows has kept written. file_is schema files None (written_undamaged schema files rows has kept written)

pub returns-clause-loaded : goal.returns-clause-loaded
returns-clause-loaded c = λ schema files loaded is e. manifest_sound schema files loaded.manifest is.manifest (file_told schema files (Some file.Manifest) e)
