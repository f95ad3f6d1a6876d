-- The first item that is the same as an earlier one, step by step.
use Rattle.std.proofs.Common.{◌≡◌, ℕ, ◌+◌, ◌<◌, List, [], ◌∷◌, ◌++◌, Some, Bool, true, false, cond, sym, ap, ◌∙◌, length, take, drop, get_or}
use Rattle.std.specs.List.{list_any}
use Rattle.std.proofs.lemmas.List.{take_more, drop_more}
use Rattle.mt_values.specs.Schemas.{first_repeat}

module _ {X Y : Type 0} (same : X → X → Bool) (tell : ℕ → X → Y) where
  next : (place : ℕ) (earlier : List X) (x : X) (xs : List X) (found : Bool) → list_any (λ y. same y x) earlier ≡ found → first_repeat same tell place earlier (x ∷ xs) ≡ cond found (Some (tell place x)) (first_repeat same tell (place + 1) (earlier ++ x ∷ []) xs)
  next place earlier x xs found e = ap (λ b. cond b (Some (tell place x)) (first_repeat same tell (place + 1) (earlier ++ x ∷ []) xs)) e

  -- the item at a place is the same as an earlier one
  pub repeat_found : (xs : List X) (i : ℕ) (x : X) → i < length xs → x ≡ get_or xs i x → list_any (λ y. same y x) (take i xs) ≡ true → first_repeat same tell i (take i xs) (drop i xs) ≡ Some (tell i x)
  repeat_found xs i x below is any =
      ap (first_repeat same tell i (take i xs)) (drop_more xs i x below ∙ ap (λ y. y ∷ drop (i + 1) xs) (sym is))
      ∙ next i (take i xs) x (drop (i + 1) xs) true any

  -- it is not, and the search goes on
  pub repeat_more : (xs : List X) (i : ℕ) (x : X) → i < length xs → x ≡ get_or xs i x → list_any (λ y. same y x) (take i xs) ≡ false → first_repeat same tell (i + 1) (take (i + 1) xs) (drop (i + 1) xs) ≡ first_repeat same tell i (take i xs) (drop i xs)
  repeat_more xs i x below is any =
      ap (λ ys. first_repeat same tell (i + 1) ys (drop (i + 1) xs)) (take_more xs i x below ∙ ap (λ y. take i xs ++ y ∷ []) (sym is))
      ∙ sym (ap (first_repeat same tell i (take i xs)) (drop_more xs i x below ∙ ap (λ y. y ∷ drop (i + 1) xs) (sym is)) ∙ next i (take i xs) x (drop (i + 1) xs) false any)
