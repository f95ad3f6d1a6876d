-- Columns that are read once, and shown as they are selected.
use Rattle.std.proofs.Common.{◌≡◌, ◌≢◌, ℕ, zero, suc, ◌+◌, ◌<◌, ◌≤◌, ◌⊎◌, inl, inr, List, [], ◌∷◌, ◌++◌, Option, Some, None, refl, sym, ap, ap₂, ◌∙◌, subst, length, map, get_or, slice_get, filter_map, take, All, arith, option_and_then, replicate}
use Rattle.std.proofs.Math.ListN.{set}
use Rattle.std.specs.List.{AllPairs, Contains as HasItem, cons_option}
use Rattle.std.proofs.lemmas.Bool.{cases_eq, cases_lt}
use Rattle.std.proofs.lemmas.List.{length_push, map-append, take_more}
use Rattle.std.proofs.lemmas.List.Elements.{All-append, All-cons, All-contains, All-head, All-nil, All-tail, All-weaker, Contains-get_or}
use Rattle.std.proofs.lemmas.Option.{same_Some, slice_get-get_or, slice_get_within}
use Rattle.final_fold.specs.Picks.{AreFound}

-- ---- what a list has at places

module _ {X : Type 0} where
  pub there : (xs : List X) (p : ℕ) → p < length xs → (x : X) × (slice_get xs p ≡ Some x)
  there [] p lt = absurd (omega arith)
  there (x ∷ xs) p lt = (get_or (x ∷ xs) p x, slice_get-get_or (x ∷ xs) p x lt)

  module _ (xs : List X) where
    pub found_at : (places : List ℕ) (i : ℕ) → All (λ p. p < length xs) places → slice_get (filter_map (slice_get xs) places) i ≡ option_and_then (slice_get xs) (slice_get places i)
    found_at [] i within = refl
    found_at (p ∷ ps) zero within =
        let t = there xs p (All-head (λ q. q < length xs) p ps within) in
        ap (λ o. slice_get (cons_option o (filter_map (slice_get xs) ps)) 0) t.1 ∙ sym t.1
    found_at (p ∷ ps) (suc i) within =
        let t = there xs p (All-head (λ q. q < length xs) p ps within) in
        ap (λ o. slice_get (cons_option o (filter_map (slice_get xs) ps)) (suc i)) t.1 ∙ found_at ps i (All-tail (λ q. q < length xs) p ps within)

    -- what is shown of the places that are read is what the selected places have
    pub shown_at : (read shown places : List ℕ) → All (λ p. p < length xs) read → map (slice_get read) shown ≡ map Some places → filter_map (slice_get (filter_map (slice_get xs) read)) shown ≡ filter_map (slice_get xs) places
    shown_at read [] [] within e = refl
    shown_at read [] (p ∷ ps) within e = cc
    shown_at read (i ∷ is) [] within e = cc
    shown_at read (i ∷ is) (p ∷ ps) within e =
        let first : slice_get read i ≡ Some p = cc in
        let rest : map (slice_get read) is ≡ map Some ps = cc in
        ap₂ cons_option (found_at read i within ∙ ap (option_and_then (slice_get xs)) first) (shown_at read is ps within rest)

-- each position that is shown is one of a column that is read
pub shown_within : (read shown places : List ℕ) → map (slice_get read) shown ≡ map Some places → All (λ at. at < length read) shown
shown_within read [] places e = All-nil (λ at. at < length read)
shown_within read (i ∷ is) [] e = cc
shown_within read (i ∷ is) (p ∷ ps) e =
    let first : slice_get read i ≡ Some p = cc in
    let rest : map (slice_get read) is ≡ map Some ps = cc in
    All-cons (λ at. at < length read) i is (slice_get_within read i p first) (shown_within read is ps rest)

-- what is so of the selected places is so of those that are read
pub read_within : (P : ℕ → Type 0) (places read : List ℕ) → All (HasItem places) read → All P places → All P read
read_within P places read chosen all = All-weaker (HasItem places) P (λ p there. All-contains P places p all there) read chosen

-- ---- how columns are picked

module _ {X : Type 0} where
  push_old : (xs : List X) (x : X) (i : ℕ) → i < length xs → slice_get (xs ++ x ∷ []) i ≡ slice_get xs i
  push_old [] x i lt = absurd (omega arith)
  push_old (y ∷ ys) x zero lt = refl
  push_old (y ∷ ys) x (suc i) lt = push_old ys x i (omega arith)

  push_new : (xs : List X) (x : X) → slice_get (xs ++ x ∷ []) (length xs) ≡ Some x
  push_new [] x = refl
  push_new (y ∷ ys) x = push_new ys x

  set_here : (xs : List X) (i : ℕ) (y : X) → i < length xs → slice_get (set xs i y) i ≡ Some y
  set_here [] i y lt = absurd (omega arith)
  set_here (x ∷ xs) zero y lt = refl
  set_here (x ∷ xs) (suc i) y lt = set_here xs i y (omega arith)

  set_other : (xs : List X) (i j : ℕ) (y : X) → j ≢ i → slice_get (set xs i y) j ≡ slice_get xs j
  set_other [] i j y apart = refl
  set_other (x ∷ xs) zero zero y apart = absurd (apart refl)
  set_other (x ∷ xs) zero (suc j) y apart = refl
  set_other (x ∷ xs) (suc i) zero y apart = refl
  set_other (x ∷ xs) (suc i) (suc j) y apart = set_other xs i j y (λ same. apart (ap suc same))

pub found_none : (width : ℕ) → AreFound (replicate width None) []
found_none width = record {
  read_there = λ place at here. absurd (none width place at here);
  found_there = λ place at here. absurd cc;
}
  where
    none : (n place at : ℕ) → slice_get (replicate n None) place ≡ Some (Some at) → ⊥
    none zero place at here = cc
    none (suc n) zero at here = cc
    none (suc n) (suc place) at here = none n place at here

module _ (found : List (Option ℕ)) (read : List ℕ) (place : ℕ) (are : AreFound found read) (free : slice_get found place ≡ Some None) where
  read_more : (p at : ℕ) → slice_get (set found place (Some (length read))) p ≡ Some (Some at) → slice_get (read ++ place ∷ []) at ≡ Some p
  read_more p at here = by (cases_eq p place)
    where
      by : (p ≡ place) ⊎ (p ≡ place → ⊥) → slice_get (read ++ place ∷ []) at ≡ Some p
      by (inl same) =
          let own : slice_get (set found place (Some (length read))) place ≡ Some (Some at) = ap (slice_get (set found place (Some (length read)))) (sym same) ∙ here in
          let both : Some (length read) ≡ Some at = same_Some (Some (length read)) (Some at) (sym (set_here found place (Some (length read)) (slice_get_within found place None free)) ∙ own) in
          ap (slice_get (read ++ place ∷ [])) (sym (same_Some (length read) at both)) ∙ push_new read place ∙ ap Some (sym same)
      by (inr apart) =
          let old : slice_get read at ≡ Some p = are.read_there p at (sym (set_other found place p (Some (length read)) apart) ∙ here) in
          push_old read place at (slice_get_within read at p old) ∙ old

  found_more : (p at : ℕ) → slice_get (read ++ place ∷ []) at ≡ Some p → slice_get (set found place (Some (length read))) p ≡ Some (Some at)
  found_more p at here = by (cases_lt at (length read))
    where
      by : (at < length read) ⊎ (length read ≤ at) → slice_get (set found place (Some (length read))) p ≡ Some (Some at)
      by (inl below) =
          let old : slice_get found p ≡ Some (Some at) = are.found_there p at (sym (push_old read place at below) ∙ here) in
          let apart : p ≢ place = λ same. let both : Some None ≡ Some (Some at) = sym free ∙ ap (slice_get found) (sym same) ∙ old in cc in
          set_other found place p (Some (length read)) apart ∙ old
      by (inr past) =
          let long = length_push read place in
          let last : length read ≡ at = omega (arith, past, slice_get_within (read ++ place ∷ []) at p here, long) in
          let same : place ≡ p = same_Some place p (sym (push_new read place) ∙ ap (slice_get (read ++ place ∷ [])) last ∙ here) in
          subst (λ q. slice_get (set found place (Some (length read))) q ≡ Some (Some at)) same
          (set_here found place (Some (length read)) (slice_get_within found place None free) ∙ ap (λ n. Some (Some n)) last)

  pub found_push : AreFound (set found place (Some (length read))) (read ++ place ∷ [])
  found_push = record { read_there = read_more; found_there = found_more }

-- none is read twice
pub once : (found : List (Option ℕ)) (read : List ℕ) → AreFound found read → AllPairs (λ a b. a ≢ b) read
once found read are i j d before within same =
    let first : slice_get read i ≡ Some (get_or read i d) = slice_get-get_or read i d (omega (arith, before, within)) in
    let second : slice_get read j ≡ Some (get_or read i d) = slice_get-get_or read j d within ∙ ap Some (sym same) in
    let both : Some (Some i) ≡ Some (Some j) = sym (are.found_there (get_or read i d) i first) ∙ are.found_there (get_or read i d) j second in
    let one : i ≡ j = same_Some i j (same_Some (Some i) (Some j) both) in
    omega (arith, before, one)

-- one place more is gone over
module _ (places read new : List ℕ) (place : ℕ) (grown : (new ≡ read) ⊎ (new ≡ read ++ place ∷ [])) where
  kept : (i p : ℕ) → slice_get read i ≡ Some p → slice_get new i ≡ Some p
  kept i p here = by grown
    where
      by : (new ≡ read) ⊎ (new ≡ read ++ place ∷ []) → slice_get new i ≡ Some p
      by (inl same) = ap (λ (xs : List ℕ). slice_get xs i) same ∙ here
      by (inr more) = ap (λ (xs : List ℕ). slice_get xs i) more ∙ push_old read place i (slice_get_within read i p here) ∙ here

  shown_kept : (shown front : List ℕ) → map (slice_get read) shown ≡ map Some front → map (slice_get new) shown ≡ map Some front
  shown_kept [] front e = e
  shown_kept (i ∷ is) [] e = cc
  shown_kept (i ∷ is) (p ∷ ps) e =
      let first : slice_get read i ≡ Some p = cc in
      let rest : map (slice_get read) is ≡ map Some ps = cc in
      ap₂ (λ (o : Option ℕ) (os : List (Option ℕ)). o ∷ os) (kept i p first) (shown_kept is ps rest)

  pub shown_more : (shown : List ℕ) (k at : ℕ) → k < length places → place ≡ get_or places k place → slice_get new at ≡ Some place → map (slice_get read) shown ≡ map Some (take k places) → map (slice_get new) (shown ++ at ∷ []) ≡ map Some (take (k + 1) places)
  shown_more shown k at below is here e =
      map-append (slice_get new) shown (at ∷ []) ∙ ap₂ (λ (os : List (Option ℕ)) (o : Option ℕ). os ++ o ∷ []) (shown_kept shown (take k places) e) here
      ∙ sym (map-append Some (take k places) (place ∷ [])) ∙ ap (λ p. map Some (take k places ++ p ∷ [])) is ∙ ap (map Some) (sym (take_more places k place below))

  pub chosen_more : (k : ℕ) → k < length places → place ≡ get_or places k place → All (HasItem places) read → All (HasItem places) new
  chosen_more k below is chosen = by grown
    where
      item : HasItem places place
      item = subst (HasItem places) (sym is) (Contains-get_or places k place below)

      by : (new ≡ read) ⊎ (new ≡ read ++ place ∷ []) → All (HasItem places) new
      by (inl same) = subst (All (HasItem places)) (sym same) chosen
      by (inr more) = subst (All (HasItem places)) (sym more) (All-append (HasItem places) read (place ∷ []) chosen (All-cons (HasItem places) place [] item (All-nil (HasItem places))))
