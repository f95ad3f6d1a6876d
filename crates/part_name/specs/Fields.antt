-- What the pieces of a name are read by (docs/formats.md, "Names of parts").
use Rattle.std.specs.Prelude.{◌≡◌, ◌≢◌, ℕ, ◌<◌, List, length, slice_index, All}

-- no byte is an underscore
abbrev pub HasNoBar : List ℕ → Type 0
HasNoBar text = All (λ b. b ≢ 95) text

-- there is a digit, and none comes after a zero in front
abbrev pub BeginsNumber : List ℕ → Type 0
BeginsNumber digits = (0 < length digits) × (slice_index digits 0 ≡ 48 → length digits ≡ 1)
