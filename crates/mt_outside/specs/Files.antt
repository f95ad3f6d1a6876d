-- The files of a folder.
use Rattle.std.specs.Prelude.{◌≡◌, ℕ, ◌-◌, min, Bool, true, false, List, [], ◌∷◌, ◌++◌, length, take, drop, if◌then◌else◌}
use Rattle.mt_base.specs.declared.name.FileId.{FileId}
use Rattle.mt_base.specs.Files.{same_file}
use Rattle.mt_outside.specs.declared.disk.Written.{Written}

abbrev pub Files : Type 0
Files = List Written

-- a file that is not there reads as one without bytes
abbrev pub bytes_of : FileId → Files → List ℕ
bytes_of file [] = []
bytes_of file (w ∷ ws) = if same_file w.file file then w.bytes else bytes_of file ws

-- bytes at the end of a file, which is made where it is not there
abbrev pub appended : FileId → List ℕ → Files → Files
appended file bytes [] = record { file = file; bytes = bytes; synced = false } ∷ []
appended file bytes (w ∷ ws) =
    if same_file w.file file then record { file = w.file; bytes = w.bytes ++ bytes; synced = false } ∷ ws
    else w ∷ appended file bytes ws

-- a file after a successful sync
abbrev pub settled_file : FileId → Files → Files
settled_file file [] = []
settled_file file (w ∷ ws) =
    if same_file w.file file then record { file = w.file; bytes = w.bytes; synced = true } ∷ ws
    else w ∷ settled_file file ws

-- a file that is not there counts as synced
abbrev pub is_synced : FileId → Files → Bool
is_synced file [] = true
is_synced file (w ∷ ws) = if same_file w.file file then w.synced else is_synced file ws

-- what a read at a place gives: the bytes there, fewer than fit only at the end
pub record ReadsAt (bytes : List ℕ) (at count : ℕ) (buf : List ℕ) : Type 0 where
  pub count_is : count ≡ min (length buf) (length bytes - at)
  pub bytes_are : take count buf ≡ take count (drop at bytes)
