-- What annals of accepted commands tells.
use Rattle.std.specs.Prelude.{ℕ, List, [], ◌∷◌, ◌++◌, Option, Some, None}
use Rattle.mt_values.specs.declared.command.Entry.{Entry}
use Rattle.mt_values.specs.declared.annals.Noted.{Noted}

-- the entries with their marks, in the order in which they were noted, and the one that is begun
pub record Told : Type 0 where
  pub list : List Noted
  pub begun : Option Entry

-- the entry is begun, in place of one that was
abbrev pub began : Entry → Told → Told
began entry told = record { list = told.list; begun = Some entry }

-- the begun entry is noted with the mark, and none is begun
abbrev pub noted_entry : Option Entry → ℕ → Told → Told
noted_entry None mark told = told
noted_entry (Some entry) mark told = record { list = told.list ++ record { entry = entry; mark = mark } ∷ []; begun = None }

abbrev pub noted : ℕ → Told → Told
noted mark told = noted_entry told.begun mark told
