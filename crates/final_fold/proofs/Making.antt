-- Sieves made of conjuncts, one after another.
use Rattle.std.proofs.Common.{◌≡◌, ℕ, suc, ◌+◌, ◌<◌, List, [], ◌∷◌, ◌++◌, Some, refl, sym, ap, ◌∙◌, length, map, flat_map, get_or, slice_get, take, drop, arith}
use Rattle.std.proofs.Math.Seq.{drop-append_seam, take-append_seam}
use Rattle.std.proofs.lemmas.Grind.{flat_map-append}
use Rattle.std.proofs.lemmas.List.{append-nil, drop-map, drop_more, length-map, take-map, take_more}
use Rattle.std.proofs.lemmas.List.Concat.{flat_map-cons}
use Rattle.mt_values.specs.declared.expr.Test.{Test}
use Rattle.mt_values.specs.Conditions.{Condition, tests_of}
use Rattle.final_fold.specs.Asked.{moved_to, tested}

module _ {X Y : Type 0} (f : X → List Y) where
  -- of the items from one on
  pub flat_next : (xs : List X) (i : ℕ) (x : X) → i < length xs → x ≡ get_or xs i x → flat_map f (drop i xs) ≡ f x ++ flat_map f (drop (i + 1) xs)
  flat_next xs i x within is =
      ap (flat_map f) (drop_more xs i x within)
      ∙ flat_map-cons f (get_or xs i x) (drop (i + 1) xs)
      ∙ ap (λ y. f y ++ flat_map f (drop (i + 1) xs)) (sym is)

  -- of one item more
  pub flat_more : (xs : List X) (i : ℕ) (x : X) → i < length xs → x ≡ get_or xs i x → flat_map f (take (i + 1) xs) ≡ flat_map f (take i xs) ++ f x
  flat_more xs i x within is =
      ap (flat_map f) (take_more xs i x within)
      ∙ flat_map-append f (take i xs) (get_or xs i x ∷ [])
      ∙ ap (λ ys. flat_map f (take i xs) ++ ys) (flat_map-cons f (get_or xs i x) [] ∙ append-nil (f (get_or xs i x)))
      ∙ ap (λ y. flat_map f (take i xs) ++ f y) (sym is)

-- of what is made of the items
pub flat_mapped : {X Y Z : Type 0} (f : Y → List Z) (v : X → Y) (xs : List X) → flat_map (λ x. f (v x)) xs ≡ flat_map f (map v xs)
flat_mapped f v [] = refl
flat_mapped f v (x ∷ xs) = flat_map-cons (λ y. f (v y)) x xs ∙ ap (λ zs. f (v x) ++ zs) (flat_mapped f v xs) ∙ sym (flat_map-cons f (v x) (map v xs))

-- the positions of some columns, and those of the others
module _ (read rest own others : List ℕ) (shown : map (slice_get read) rest ≡ map Some (own ++ others)) where
  pub own_shown : map (slice_get read) (take (length own) rest) ≡ map Some own
  own_shown =
      sym (take-map (slice_get read) (length own) rest) ∙ ap (take (length own)) shown
      ∙ take-map Some (length own) (own ++ others) ∙ ap (map Some) (take-append_seam own others)

  pub others_shown : map (slice_get read) (drop (length own) rest) ≡ map Some others
  others_shown =
      sym (drop-map (slice_get read) (length own) rest) ∙ ap (drop (length own)) shown
      ∙ drop-map Some (length own) (own ++ others) ∙ ap (map Some) (drop-append_seam own others)

pub length-moved : (positions : List ℕ) (tests : List Test) → length positions ≡ length tests → length (moved_to positions tests) ≡ length tests
length-moved [] [] even = refl
length-moved [] (t ∷ ts) even = absurd (omega (arith, even))
length-moved (p ∷ ps) [] even = absurd (omega (arith, even))
length-moved (p ∷ ps) (t ∷ ts) even = ap suc (length-moved ps ts (omega (arith, even)))

pub length-tested : (c : Condition Test) → length (tested c) ≡ length (tests_of c)
length-tested c = length-map (tests_of c) (λ (t : Test). t.column)
