-- Texts kept in one buffer, each with the place where it ends.
use Rattle.std.specs.Prelude.{◌≡◌, ℕ, zero, suc, ◌-◌, ◌≤◌, List, [], ◌∷◌, take, drop, slice_index}

-- the pieces of the bytes that end at these places, the first of them beginning at from
abbrev pub texts_from : ℕ → List ℕ → List ℕ → List (List ℕ)
texts_from from [] bytes = []
texts_from from (end ∷ ends) bytes = take (end - from) (drop from bytes) ∷ texts_from end ends bytes

-- the ends rise from a place up to the number of bytes
abbrev pub EndsRise : ℕ → List ℕ → ℕ → Type 0
EndsRise from [] count = from ≡ count
EndsRise from (end ∷ ends) count = (from ≤ end) × EndsRise end ends count

-- where the text at a place begins: where the one before it ends
abbrev pub start_of : ℕ → List ℕ → ℕ → ℕ
start_of from ends zero = from
start_of from ends (suc place) = slice_index ends place
