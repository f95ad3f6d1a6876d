-- What annals of accepted commands keep.
use Rattle.std.specs.Prelude.{ℕ, List, [], ◌∷◌, Option}
use Rattle.mt_values.specs.declared.command.Entry.{Entry}
use Rattle.mt_values.specs.declared.annals.Noted.{Noted}

-- the entries with their marks, the one that is begun, and how many notes cannot want memory
pub record Kept : Type 0 where
  pub list : List Noted
  pub begun : Option Entry
  pub room : ℕ

-- each entry with the mark in the same place
abbrev pub noted_all : List Entry → List ℕ → List Noted
noted_all [] marks = []
noted_all (e ∷ es) [] = []
noted_all (e ∷ es) (m ∷ ms) = record { entry = e; mark = m } ∷ noted_all es ms
