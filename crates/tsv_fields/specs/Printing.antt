-- How the lines of replies are put together.
use Rattle.std.specs.Prelude.{ℕ, zero, suc, List, [], ◌∷◌, Option, Some, None}

-- a byte as it is printed: after a backslash the letter of its escape, or itself where it has none
abbrev pub escape_or_byte : ℕ → Option ℕ → List ℕ
escape_or_byte b None = b ∷ []
escape_or_byte b (Some letter) = 92 ∷ letter ∷ []

-- what stands between a field and the one before it
abbrev pub tab_before : ℕ → List ℕ
tab_before zero = []
tab_before (suc place) = 9 ∷ []
