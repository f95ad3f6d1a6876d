-- The order of the names of the root (docs/formats.md, "Names").
use Rattle.std.specs.Prelude.{List}
use Rattle.std.specs.Cmp.Lexicographic.{slice_cmp}
use Rattle.std.specs.List.Sorted.{IsStrictlySortedBy}
use Rattle.std.specs.Ordering.{nat_cmp}
use Rattle.std.specs.declared.cmp.Ordering.{Ordering}
use Rattle.part_set.specs.declared.root_name.RootName.{RootName}
use Rattle.part_set.specs.RootNames.{root_text}

-- names are ordered by their bytes
abbrev pub name_cmp : RootName → RootName → Ordering
name_cmp a b = slice_cmp nat_cmp (root_text a) (root_text b)

-- each name stands below those after it
abbrev pub Rise : List RootName → Type 0
Rise names = IsStrictlySortedBy name_cmp names
