-- The order in which the names of a root stand (docs/formats.md, "Names").
use Rattle.std.specs.Prelude.{ℕ, List, map}
use Rattle.std.specs.Cmp.Lexicographic.{slice_cmp}
use Rattle.std.specs.List.Sorted.{IsStrictlySortedBy}
use Rattle.std.specs.Ordering.{nat_cmp}
use Rattle.mt_outside.specs.Disk.{Names}
use Rattle.mt_outside.specs.Files.{Files}

-- each name stands below those after it
abbrev pub AreInByteOrder : Names → Type 0
AreInByteOrder names = IsStrictlySortedBy (slice_cmp nat_cmp) (map (λ (n : List ℕ × Files). n.0) names)
