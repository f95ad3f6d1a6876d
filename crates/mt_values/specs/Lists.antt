-- Words on lists that several definitions use.
use Rattle.std.specs.Prelude.{ℕ, Bool, true, false, List, [], ◌∷◌, drop, take, Option, Some, None}

-- an element before a list, where there is a list
abbrev pub in_front : {X : Type 0} → Option (List X) → X → Option (List X)
in_front None x = None
in_front (Some xs) x = Some (x ∷ xs)

-- the items of a list at which a mask is true, in order (docs/architecture.md, "Conditions")
abbrev pub where_true : {X : Type 0} → List Bool → List X → List X
where_true [] xs = []
where_true (b ∷ mask) [] = []
where_true (true ∷ mask) (x ∷ xs) = x ∷ where_true mask xs
where_true (false ∷ mask) (x ∷ xs) = where_true mask xs

-- a run of a list: so many items, from a place on (docs/architecture.md, "Conditions")
abbrev pub run_of : {X : Type 0} → ℕ → ℕ → List X → List X
run_of from count xs = take count (drop from xs)
