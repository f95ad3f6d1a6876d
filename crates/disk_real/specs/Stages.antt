-- The files of a stage that are not synced yet (docs/folder.md).
use Rattle.std.specs.Prelude.{◌≡◌, ℕ, List, [], All, Bool, filter, map, not}
use Rattle.std.specs.List.{list_any}
use Rattle.mt_base.specs.declared.name.FileId.{FileId}
use Rattle.mt_base.specs.Files.{same_file}

-- which files these are, that stand with what is gathered of each
abbrev pub files_of : List (FileId × List ℕ) → List FileId
files_of files = map (λ (f : FileId × List ℕ). f.0) files

-- the file is one of these
abbrev pub has : FileId → List (FileId × List ℕ) → Bool
has file files = list_any (λ (f : FileId × List ℕ). same_file f.0 file) files

-- these files without this one
abbrev pub without : FileId → List (FileId × List ℕ) → List (FileId × List ℕ)
without file files = filter (λ (f : FileId × List ℕ). not (same_file f.0 file)) files

-- nothing is gathered of them: each byte was written
abbrev pub AreWritten : List (FileId × List ℕ) → Type 0
AreWritten files = All (λ (f : FileId × List ℕ). f.1 ≡ []) files
