-- What is sealed for the commit of a CREATE (docs/formats.md, "Entries").
use Rattle.std.specs.Prelude.{ℕ, true, List, [], ◌∷◌}
use Rattle.sha2.specs.Sha256.{sha256}
use Rattle.mt_base.specs.declared.name.FileId.TheVariants as file
use Rattle.mt_values.specs.Manifests.{entry_bytes}
use Rattle.mt_outside.specs.Files.{Files}

-- the file of a statement's entry, which was synced
abbrev pub entry_files : List ℕ → Files
entry_files text = record { file = file.Entry; bytes = entry_bytes sha256 text; synced = true } ∷ []
