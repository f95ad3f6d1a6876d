-- Masks, which are asked of a list item by item.
use Rattle.std.proofs.Common.{◌≡◌, ℕ, zero, suc, Bool, false, true, ◌||◌, ◌+◌, ◌<◌, ◌≤◌, List, [], ◌∷◌, ◌++◌, length, map, take, drop, get_or, slice_get, set, replicate, refl, sym, ap, ap₂, ◌∙◌, append_assoc, arith, zero-add}
use Rattle.std.specs.List.{list_any}
use Rattle.std.specs.declared.cmp.Ordering.{Ordering}
use Rattle.std.proofs.Math.Seq.{get_or-append_seam}
use Rattle.std.proofs.lemmas.Simd.{map-map}
use Rattle.std.proofs.lemmas.List.Folds.{list_any-append}
use Rattle.std.proofs.lemmas.List.{append-nil, drop_all, drop-map, drop_more, length-drop, length-map, length-take, map-append, set_at, take-map, take_all, take_more}
use Rattle.mt_values.specs.declared.expr.Comparison.{Comparison}
use Rattle.mt_values.specs.declared.value.ColType.{ColType}
use Rattle.mt_values.specs.declared.value.Value.{Value}
use Rattle.mt_values.specs.Grid.{Cells}
use Rattle.mt_values.specs.Lists.{run_of}
use Rattle.mt_values.specs.Order.{value_cmp}
use Rattle.mt_values.specs.Tests.{says}

module _ {X : Type 0} (f g : X → Bool) where
  -- g was asked of the first items, f of the others
  abbrev pub over : List X → ℕ → List Bool
  over xs i = map g (take i xs) ++ map f (drop i xs)

  -- the mask before the item at a place, that item, and the rest
  at_item : (xs : List X) (i : ℕ) (x : X) → i < length xs → x ≡ get_or xs i x
      → over xs i ≡ map g (take i xs) ++ f x ∷ map f (drop (i + 1) xs)
  at_item xs i x within is =
      ap (λ ys. map g (take i xs) ++ map f ys) (drop_more xs i x within)
      ∙ ap (λ y. map g (take i xs) ++ f y ∷ map f (drop (i + 1) xs)) (sym is)

  length_before : (xs : List X) (i : ℕ) → i < length xs → length (map g (take i xs)) ≡ i
  length_before xs i within = omega (arith, length-map (take i xs) g, length-take i xs)

  -- what the mask has for the next item
  pub read_next : (xs : List X) (i : ℕ) (x : X) (mask : List Bool) → i < length xs → x ≡ get_or xs i x → mask ≡ over xs i
      → get_or mask i false ≡ f x
  read_next xs i x mask within is before =
      let front = map g (take i xs) in
      let rest = map f (drop (i + 1) xs) in
      ap (λ m. get_or m i false) (before ∙ at_item xs i x within is)
      ∙ ap (λ k. get_or (front ++ f x ∷ rest) k false) (sym (length_before xs i within))
      ∙ get_or-append_seam front (f x) rest false

  -- one item more
  pub write_next : (xs : List X) (i : ℕ) (x : X) (mask : List Bool) → i < length xs → x ≡ get_or xs i x → mask ≡ over xs i
      → set mask i (g x) ≡ over xs (i + 1)
  write_next xs i x mask within is before =
      let front = map g (take i xs) in
      let rest = map f (drop (i + 1) xs) in
      let taken : map g (take (i + 1) xs) ≡ front ++ g x ∷ [] =
      ap (map g) (take_more xs i x within)
      ∙ map-append g (take i xs) (get_or xs i x ∷ [])
      ∙ ap (λ y. front ++ g y ∷ []) (sym is) in
      ap (λ m. set m i (g x)) (before ∙ at_item xs i x within is)
      ∙ set_at front (f x) rest (g x) i (length_before xs i within)
      ∙ sym (append_assoc front (g x ∷ []) rest)
      ∙ ap (λ m. m ++ rest) (sym taken)

  pub over_all : (xs : List X) (i : ℕ) (mask : List Bool) → length xs ≤ i → mask ≡ over xs i → mask ≡ map g xs
  over_all xs i mask end before =
      before
      ∙ ap₂ (λ ys zs. map g ys ++ map f zs) (take_all i xs end) (drop_all i xs end)
      ∙ append-nil (map g xs)

module _ {X : Type 0} (f h : X → Bool) where
  -- what f says, or what h says beside it
  abbrev pub added : X → Bool
  added x = f x || h x

  -- h was asked beside f of the first items, f alone of the others
  abbrev pub gone_over : List X → ℕ → List Bool
  gone_over xs i = over f added xs i

  pub none_gone_over : (xs : List X) → map f xs ≡ gone_over xs 0
  none_gone_over xs = refl

  -- one item more
  pub one_more : (xs : List X) (i : ℕ) (x : X) (mask : List Bool) → i < length xs → x ≡ get_or xs i x → mask ≡ gone_over xs i
      → set mask i (get_or mask i false || h x) ≡ gone_over xs (i + 1)
  one_more xs i x mask within is before =
      ap (λ b. set mask i (b || h x)) (read_next f added xs i x mask within is before)
      ∙ write_next f added xs i x mask within is before

  pub all_gone_over : (xs : List X) (i : ℕ) (mask : List Bool) → length xs ≤ i → mask ≡ gone_over xs i → mask ≡ map added xs
  all_gone_over xs i mask end before = over_all f added xs i mask end before

-- the mask of the items gone over and of one more
pub masked_more : {X : Type 0} (f : X → Bool) (xs : List X) (i : ℕ) (x : X) → i < length xs → x ≡ get_or xs i x → map f (take (i + 1) xs) ≡ map f (take i xs) ++ f x ∷ []
masked_more f xs i x within is =
    ap (map f) (take_more xs i x within)
    ∙ map-append f (take i xs) (get_or xs i x ∷ [])
    ∙ ap (λ y. map f (take i xs) ++ f y ∷ []) (sym is)

-- ---- runs

module _ {X : Type 0} where
  pub length_run : (from count : ℕ) (xs : List X) → from + count ≤ length xs → length (run_of from count xs) ≡ count
  length_run from count xs within = omega (arith, length-take count (drop from xs), length-drop from xs, within)

  pub map_run : {Y : Type 0} (f : X → Y) (from count : ℕ) (xs : List X) → map f (run_of from count xs) ≡ run_of from count (map f xs)
  map_run f from count xs = sym (take-map f count (drop from xs)) ∙ ap (take count) (sym (drop-map f from xs))

  -- an item of a run
  pub run_at : (from count i : ℕ) (xs : List X) → i < count → slice_get (run_of from count xs) i ≡ slice_get xs (from + i)
  run_at zero count i xs within = taken count i xs within ∙ ap (slice_get xs) (sym (zero-add i))
    where
      taken : (n i : ℕ) (ys : List X) → i < n → slice_get (take n ys) i ≡ slice_get ys i
      taken zero i ys lt = absurd (omega (arith, lt))
      taken (suc n) i [] lt = refl
      taken (suc n) zero (y ∷ ys) lt = refl
      taken (suc n) (suc i) (y ∷ ys) lt = taken n i ys (omega (arith, lt))
  run_at (suc from) count i [] within = by count
    where
      none : List X
      none = []

      by : (n : ℕ) → slice_get (take n none) i ≡ slice_get none (suc from + i)
      by zero = refl
      by (suc n) = refl
  run_at (suc from) count i (x ∷ xs) within = run_at from count i xs within ∙ ap (slice_get (x ∷ xs)) (next from i)
    where
      next : (m k : ℕ) → suc (m + k) ≡ suc m + k
      next m k = omega arith

  -- all of it
  pub run_all : (n : ℕ) (xs : List X) → n ≡ length xs → run_of 0 n xs ≡ xs
  run_all n xs size = take_all n xs (omega (arith, size))

-- ---- the values of a column

-- what was asked of a run of the items of a column was asked of that of its values
pub added_values : {X : Type 0} (value : X → Value) (t : ColType) (cmp : X → X → Ordering) → ((x y : X) → value_cmp (value x) (value y) ≡ cmp x y)
    → (c : Comparison) (n : X) (from count : ℕ) (xs ys : List X) (cells : Cells) (literal : Value) (mask after : List Bool)
    → ys ≡ run_of from count xs → cells ≡ record { col_type = t; values = map value xs } → literal ≡ value n
    → ((f : X → Bool) → mask ≡ map f ys → after ≡ map (λ x. f x || says c (cmp x n)) ys)
    → (f : Value → Bool) → mask ≡ map f (run_of from count cells.values) → after ≡ map (λ v. f v || says c (value_cmp v literal)) (run_of from count cells.values)
added_values value t cmp order c n from count xs ys cells literal mask after same is one asked f before =
    let values : map value ys ≡ run_of from count cells.values =
    ap (map value) same ∙ map_run value from count xs ∙ ap (λ (x : Cells). run_of from count x.values) (sym is) in
    asked (λ x. f (value x)) (before ∙ ap (map f) (sym values) ∙ map-map f value ys)
    ∙ (λ i. map (λ x. f (value x) || says c (sym (order x n) i)) ys)
    ∙ sym (map-map (λ v. f v || says c (value_cmp v (value n))) value ys)
    ∙ ap₂ (λ l vs. map (λ v. f v || says c (value_cmp v l)) vs) (sym one) values

-- the values that compare so with one of these literals
abbrev pub any_of : Comparison → List Value → Value → Bool
any_of c literals v = list_any (λ literal. says c (value_cmp v literal)) literals

pub none_asked : {X : Type 0} (xs : List X) (n : ℕ) → n ≡ length xs → replicate n false ≡ map (λ x. false) xs
none_asked xs n e = ap (λ k. replicate k false) e ∙ all_false xs
  where
    all_false : {X : Type 0} (xs : List X) → replicate (length xs) false ≡ map (λ x. false) xs
    all_false [] = refl
    all_false (x ∷ xs) = ap (λ bs. false ∷ bs) (all_false xs)

or_nothing : (b c : Bool) → (b || (c || false)) ≡ (b || c)
or_nothing false false = refl
or_nothing false true = refl
or_nothing true c = refl

-- one literal more
any_more : (c : Comparison) (literals : List Value) (i : ℕ) (literal v : Value) → i < length literals → literal ≡ get_or literals i literal
    → any_of c (take (i + 1) literals) v ≡ (any_of c (take i literals) v || says c (value_cmp v literal))
any_more c literals i literal v within is =
    ap (λ ls. any_of c ls v) (take_more literals i literal within)
    ∙ ap (λ l. any_of c (take i literals ++ l ∷ []) v) (sym is)
    ∙ list_any-append (λ l. says c (value_cmp v l)) (take i literals) (literal ∷ [])
    ∙ or_nothing (any_of c (take i literals) v) (says c (value_cmp v literal))

pub one_literal_more : (c : Comparison) (literals : List Value) (i : ℕ) (literal : Value) (values : List Value) → i < length literals → literal ≡ get_or literals i literal
    → map (λ v. any_of c (take i literals) v || says c (value_cmp v literal)) values ≡ map (any_of c (take (i + 1) literals)) values
one_literal_more c literals i literal values within is = λ k. map (λ v. sym (any_more c literals i literal v within is) k) values
