-- Texts with escapes, piece by piece.
use Rattle.std.specs.Prelude.{ℕ, Bool, not, ◌==◌, List, drop, Option, Some, None, if◌then◌else◌}

-- the byte stands for itself in a field
abbrev pub is_no_backslash : ℕ → Bool
is_no_backslash b = not (b == 92)

-- the byte that an escape stands for, and what follows the bytes that it takes
abbrev pub byte_said : List ℕ → ℕ × ℕ → ℕ × List ℕ
byte_said behind found = (found.0, drop found.1 behind)

-- what was read, where the answer is that it fits
abbrev pub if_fits : {A : Type 0} → Bool → A → Option A
if_fits fits a = if fits then Some a else None
