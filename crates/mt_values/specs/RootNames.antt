-- The names of the root (docs/formats.md, "Names").
use Rattle.std.specs.Prelude.{ℕ, List, ◌++◌, codes}

-- the entry of a table
abbrev pub create_name : List ℕ → List ℕ
create_name table = table ++ codes ".create"

-- a part of a table
abbrev pub part_name : List ℕ → List ℕ → List ℕ
part_name table part = table ++ codes ".part_" ++ part
