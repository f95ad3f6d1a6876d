-- Which file of a part is damaged first, as a function (docs/formats.md, "Parts").
use Rattle.std.specs.Prelude.{Option}
use Rattle.mt_base.specs.declared.name.FileId.{FileId}
use Rattle.mt_values.specs.declared.schema.Schema.{Schema}
use Rattle.mt_outside.specs.Files.{Files}
use Rattle.part_damage.proofs.Deciding.{decide_damaged}

-- the first damaged file of a part of a table, or none: the one that `FirstDamaged` says, whatever the bytes are (`damage_is_one_file`)
unfoldable pub damaged_file : Schema → Files → Option FileId
damaged_file schema files = (decide_damaged schema files).0
