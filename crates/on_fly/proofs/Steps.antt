-- One mutation, one assignment and one row more.
use Rattle.std.proofs.Common.{◌≡◌, ℕ, zero, suc, ◌+◌, ◌<◌, ◌≤◌, List, [], ◌∷◌, ◌++◌, length, map, take, drop, get_or, set, fold, refl, sym, ap, ap₂, ◌∙◌, append_assoc, append-nil, arith}
use Rattle.std.proofs.Math.Seq.{get_or-append_seam}
use Rattle.std.proofs.lemmas.List.{drop_all, drop_more, length-map, length-take, map-append, set_at, take_all, take_more}
use Rattle.mt_values.specs.declared.change.Assignment.{Assignment}
use Rattle.mt_values.specs.declared.mutation.Mutation.{Mutation}
use Rattle.mt_values.specs.Changes.{changed, mutated, value_for, with_value}
use Rattle.mt_values.specs.Values.{Row}
use Rattle.on_fly.specs.Updates.{assigned_from}

-- a fold of one item more
pub fold_more : {A B : Type 0} (f : B → A → B) (start : B) (xs : List A) (i : ℕ) (d : A) → i < length xs → fold f start (take (i + 1) xs) ≡ f (fold f start (take i xs)) (get_or xs i d)
fold_more f start [] i d lt = absurd (omega (arith, lt))
fold_more f start (x ∷ xs) zero d lt = refl
fold_more f start (x ∷ xs) (suc i) d lt =
    let next : suc i + 1 ≡ suc (i + 1) = omega arith in
    ap (λ n. fold f start (take n (x ∷ xs))) next ∙ fold_more f (f start x) xs i d (omega (arith, lt))

pub mutated_more : (ms : List Mutation) (rows : List Row) (i : ℕ) (d : Mutation) → i < length ms → mutated (take (i + 1) ms) rows ≡ changed (get_or ms i d).change (mutated (take i ms) rows)
mutated_more ms rows i d lt = fold_more (λ (now : List Row) (m : Mutation). changed m.change now) rows ms i d lt

pub put_more : (row : Row) (puts : List Assignment) (values : Row) (i : ℕ) (d : Assignment) → i < length puts
    → assigned_from row (take (i + 1) puts) values ≡ with_value (assigned_from row (take i puts) values) (get_or puts i d).column (value_for row (get_or puts i d).value)
put_more row puts values i d lt = fold_more (λ (new : Row) (a : Assignment). with_value new a.column (value_for row a.value)) values puts i d lt

-- past the last there is nothing to set
pub set_past : {X : Type 0} (xs : List X) (i : ℕ) (x : X) → length xs ≤ i → xs ≡ set xs i x
set_past [] zero x past = refl
set_past [] (suc i) x past = refl
set_past (y ∷ xs) zero x past = absurd (omega (arith, past))
set_past (y ∷ xs) (suc i) x past = ap (λ ys. y ∷ ys) (set_past xs i x (omega (arith, past)))

-- ---- the first items of a list were changed, and the others not yet

module _ {X : Type 0} (g : X → X) where
  abbrev pub half : List X → ℕ → List X
  half xs i = map g (take i xs) ++ drop i xs

  pub none_yet : (xs : List X) → xs ≡ half xs 0
  none_yet xs = refl

  length_before : (xs : List X) (i : ℕ) → i < length xs → length (map g (take i xs)) ≡ i
  length_before xs i within = omega (arith, length-map (take i xs) g, length-take i xs)

  at_item : (xs : List X) (i : ℕ) (d : X) → i < length xs → half xs i ≡ map g (take i xs) ++ get_or xs i d ∷ drop (i + 1) xs
  at_item xs i d within = ap (λ ys. map g (take i xs) ++ ys) (drop_more xs i d within)

  -- the next item is as it was
  pub next_was : (xs now : List X) (i : ℕ) (d : X) → i < length xs → now ≡ half xs i → get_or now i d ≡ get_or xs i d
  next_was xs now i d within is =
      let front = map g (take i xs) in
      ap (λ m. get_or m i d) (is ∙ at_item xs i d within)
      ∙ ap (λ k. get_or (front ++ get_or xs i d ∷ drop (i + 1) xs) k d) (sym (length_before xs i within))
      ∙ get_or-append_seam front (get_or xs i d) (drop (i + 1) xs) d

  -- it is changed
  pub next_is : (xs now : List X) (i : ℕ) (d : X) → i < length xs → now ≡ half xs i → set now i (g (get_or xs i d)) ≡ half xs (i + 1)
  next_is xs now i d within is =
      let front = map g (take i xs) in
      let rest = drop (i + 1) xs in
      let x = get_or xs i d in
      let taken : map g (take (i + 1) xs) ≡ front ++ g x ∷ [] = ap (map g) (take_more xs i d within) ∙ map-append g (take i xs) (x ∷ []) in
      ap (λ m. set m i (g x)) (is ∙ at_item xs i d within)
      ∙ set_at front x rest (g x) i (length_before xs i within)
      ∙ sym (append_assoc front (g x ∷ []) rest)
      ∙ ap (λ m. m ++ rest) (sym taken)

  -- all are
  pub all_are : (xs now : List X) (i : ℕ) → length xs ≤ i → now ≡ half xs i → now ≡ map g xs
  all_are xs now i end is = is ∙ ap₂ (λ ys zs. map g ys ++ zs) (take_all i xs end) (drop_all i xs end) ∙ append-nil (map g xs)
