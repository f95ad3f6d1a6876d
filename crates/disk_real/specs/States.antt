-- What contracts see of the real outside: counts, where folders lie, and no contents (docs/architecture.md, "Counts of faults").
use Rattle.std.specs.Prelude.{ℕ, Bool, List, Option}
use Rattle.mt_base.specs.declared.name.FileId.{FileId}

-- the mark of a disk, how many of its calls have failed, as far as 64 bits count, and the path of the folder that it holds, which no other disk holds then
pub record DiskState : Type 0 where
  pub clock : ℕ
  pub failed : ℕ
  pub started : Option (List ℕ)

-- a writer, and the bytes that are gathered for it
pub record Gathered (W : Type 0) : Type 0 where
  pub writer : W
  pub bytes : List ℕ

-- how many calls of a stage have failed, as far as 64 bits count, and which of its files were written since their last sync, with what is gathered of each
pub record StageState : Type 0 where
  pub failed : ℕ
  pub unsynced : List (FileId × List ℕ)

-- where a folder that is done lies, as the bytes of its path, the number that its disk gave it, and whether no folder lies there, so that it has no files
pub record DirState : Type 0 where
  pub path : List ℕ
  pub number : ℕ
  pub hollow : Bool

-- what reads or writes, and how many of its calls have failed, as far as 64 bits count
pub record Counted (T : Type 0) : Type 0 where
  pub inner : T
  pub failed : ℕ
