-- Plans of parts, one part after another.
use Rattle.std.proofs.Common.{◌≡◌, ℕ, zero, suc, ◌+◌, ◌<◌, ◌≤◌, Bool, true, false, ◌&&◌, List, [], ◌∷◌, ◌++◌, Some, ap, ap₂, refl, sym, ◌∙◌, append_assoc, arith, drop, get_or, length, map, option_map, slice_get, take}
use Rattle.std.proofs.lemmas.List.{append-nil, drop_all, length-map, map-append, take_more}
use Rattle.std.proofs.lemmas.Option.{get_or_from_slice_get, same_Some, slice_get-get_or, slice_get-map, slice_get_within}
use Rattle.mt_values.specs.declared.expr.Test.{Test}
use Rattle.mt_values.specs.declared.schema.Schema.{Schema}
use Rattle.mt_values.specs.Conditions.{Condition, conjuncts_of}
use Rattle.part_reader.specs.declared.reading.Part.{Part}
use Rattle.part_set.specs.declared.kept.Kept.{Kept}
use Rattle.mt_model.proofs.PredicateNarrowing.{both_next, both_past}
use Rattle.mt_model.specs.predicate.Boxes.{can}
use Rattle.mt_model.specs.predicate.Granules.{box_where, boxes_where}
use Rattle.mt_model.specs.predicate.Masks.{both}
use Rattle.mt_model.specs.predicate.declared.extent.Extent.{Extent}
use Rattle.select_plan.specs.Plans.{asked_among, asked_each, asked_part, planned_part}

-- what is made of one item more
pub map_next : {X Y : Type 0} (f : X → Y) (xs : List X) (i : ℕ) (x : X) → i < length xs → x ≡ get_or xs i x → map f (take i xs) ++ f x ∷ [] ≡ map f (take (i + 1) xs)
map_next f xs i x below is =
    sym (ap (map f) (take_more xs i x below)
    ∙ map-append f (take i xs) (get_or xs i x ∷ [])
    ∙ ap (λ y. map f (take i xs) ++ f y ∷ []) (sym is))

module _ {F : Type 0} (schema : Schema) where
  -- in which granules of the part at a place the conjuncts are asked
  pub asked_at : (conjuncts : List (Condition Test)) (kept : List (Kept (Part F))) (chosen : List (List Bool)) (place : ℕ) (k : Kept (Part F)) (own : List Bool)
      → slice_get kept place ≡ Some k → slice_get chosen place ≡ Some own → slice_get (asked_each schema conjuncts kept chosen) place ≡ Some (asked_among schema conjuncts k own)
  asked_at conjuncts [] chosen place k own there read = cc
  asked_at conjuncts (x ∷ kept) [] place k own there read = cc
  asked_at conjuncts (x ∷ kept) (y ∷ chosen) zero k own there read =
      ap₂ (λ (z : Kept (Part F)) (c : List Bool). Some (asked_among schema conjuncts z c)) (same_Some x k there) (same_Some y own read)
  asked_at conjuncts (x ∷ kept) (y ∷ chosen) (suc place) k own there read = asked_at conjuncts kept chosen place k own there read

  -- of the granules that a plan without FINAL chooses these are those of the condition's conjuncts
  pub each_asked : (c : Condition Test) (kept : List (Kept (Part F))) → asked_each schema (conjuncts_of c) kept (map (planned_part schema c) kept) ≡ map (asked_part schema c) kept
  each_asked c [] = refl
  each_asked c (k ∷ kept) = ap (λ (rest : List (List (List Bool))). asked_part schema c k ∷ rest) (each_asked c kept)

-- ---- boxes of chosen granules

unchosen : (x y : Bool) → (x && false) ≡ (y && false)
unchosen true true = refl
unchosen true false = refl
unchosen false true = refl
unchosen false false = refl

-- in a granule that is not chosen no conjunct is asked, whatever its box says
pub where_same : (d : Condition Test) (boxes : List Extent) (chosen : List Bool) → both (map (λ e. (can d e).no) (boxes_where boxes chosen)) chosen ≡ both (map (λ e. (can d e).no) boxes) chosen
where_same d [] chosen = refl
where_same d (b ∷ boxes) [] = refl
where_same d (b ∷ boxes) (true ∷ chosen) = ap (λ (rest : List Bool). ((can d b).no && true) ∷ rest) (where_same d boxes chosen)
where_same d (b ∷ boxes) (false ∷ chosen) =
    ap₂ (λ (x : Bool) (rest : List Bool). x ∷ rest) (unchosen (can d (box_where false b)).no (can d b).no) (where_same d boxes chosen)

-- what is asked of the boxes gone over
module _ (d : Condition Test) (boxes : List Extent) (chosen : List Bool) where
  abbrev answers : List Bool
  answers = map (λ e. (can d e).no) boxes

  abbrev pub UnsureFrom : List Bool → ℕ → Type 0
  UnsureFrom made i = made ++ both (drop i (map (λ (e : Extent). (can d e).no) boxes)) (drop i chosen) ≡ both (map (λ (e : Extent). (can d e).no) boxes) chosen

  pub unsure_more : (made new : List Bool) (i : ℕ) (e : Extent) (c x : Bool) → UnsureFrom made i → i < length boxes → e ≡ get_or boxes i e → slice_get chosen i ≡ Some c → x ≡ ((can d e).no && c)
      → new ≡ made ++ x ∷ [] → UnsureFrom new (i + 1)
  unsure_more made new i e c x so_far below is answer said grown =
      let rest = both (drop (i + 1) answers) (drop (i + 1) chosen) in
      let there : slice_get answers i ≡ Some (can d e).no =
      slice_get-map (λ (b : Extent). (can d b).no) boxes i ∙ ap (option_map (λ (b : Extent). (can d b).no)) (slice_get-get_or boxes i e below ∙ ap Some (sym is)) in
      let left : both (drop i answers) (drop i chosen) ≡ ((can d e).no && c) ∷ rest =
      both_next answers chosen i (can d e).no c (slice_get_within answers i (can d e).no there) (slice_get_within chosen i c answer)
      ∙ ap₂ (λ (p q : Bool). (p && q) ∷ rest) (get_or_from_slice_get answers i (can d e).no (can d e).no there) (get_or_from_slice_get chosen i c c answer) in
      ap (λ (xs : List Bool). xs ++ rest) grown
      ∙ append_assoc made (x ∷ []) rest
      ∙ ap (λ (y : Bool). made ++ y ∷ rest) said
      ∙ ap (λ (ys : List Bool). made ++ ys) (sym left)
      ∙ so_far

  -- past the last answer
  pub unsure_past : (made : List Bool) (i : ℕ) → UnsureFrom made i → length chosen ≤ i → made ≡ both (map (λ (e : Extent). (can d e).no) boxes) chosen
  unsure_past made i so_far end = sym (append-nil made) ∙ ap (λ (ys : List Bool). made ++ ys) (sym (both_past answers chosen i end)) ∙ so_far

  -- past the last box
  pub unsure_all : (made : List Bool) (i : ℕ) → UnsureFrom made i → length boxes ≤ i → made ≡ both (map (λ (e : Extent). (can d e).no) boxes) chosen
  unsure_all made i so_far end =
      let none : drop i answers ≡ [] = drop_all i answers (omega (arith, end, length-map boxes (λ (e : Extent). (can d e).no))) in
      sym (append-nil made) ∙ ap (λ (ys : List Bool). made ++ both ys (drop i chosen)) (sym none) ∙ so_far
