-- Bytes that come in pieces.
use Rattle.std.specs.Prelude.{ℕ, List, [], ◌∷◌, drop, map, Vec}
use Rattle.std.specs.declared.alloc.Global.{Global}

-- the pieces from the first on that isn't empty
abbrev pub ready : List (List ℕ) → List (List ℕ)
ready [] = []
ready ([] ∷ pieces) = ready pieces
ready ((b ∷ bs) ∷ pieces) = (b ∷ bs) ∷ pieces

-- the first piece, and no bytes where there is none
abbrev pub first : List (List ℕ) → List ℕ
first [] = []
first (piece ∷ pieces) = piece

-- the pieces without the first bytes of the first piece
abbrev pub drop_first : ℕ → List (List ℕ) → List (List ℕ)
drop_first n [] = []
drop_first n (piece ∷ pieces) = drop n piece ∷ pieces

-- what is left of the pieces from a place of this piece on
abbrev pub left_pieces : List (Vec ℕ Global) → ℕ → ℕ → List (List ℕ)
left_pieces pieces piece place = drop_first place (map (λ p. p.items) (drop piece pieces))
