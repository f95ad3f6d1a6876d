-- Rows of both signs, and the choices of some of them.
use Rattle.std.proofs.Common.{◌≡◌, ◌⊎◌, ℕ, suc, ◌-◌, Bool, true, false, ◌&&◌, ◌||◌, List, [], ◌∷◌, ◌++◌, drop, length, map, refl, sym, ap, ap₂, ◌∙◌, subst, inl, inr, arith, ℤ}
use Rattle.std.specs.List.{All, Contains, filter, list_all}
use Rattle.std.specs.Ordering.{int_eq}
use Rattle.std.proofs.lemmas.Bool.Decides.{Decides-int_eq}
use Rattle.std.proofs.lemmas.List.Sums.{AllPass-from_list_all, list_all-from_AllPass}
use Rattle.mt_values.specs.Grid.{column_of}
use Rattle.mt_values.specs.Values.{Row}
use Rattle.part_history.specs.mt_model.Rules.{IsSublist, LeavesOneSign, is_cancel, is_state, last_of, total}
use Rattle.mt_plain.specs.Outcomes.{AreExactly, has_one_sign, may_be_left}
use Rattle.mt_plain.proofs.Exactly.{contains_map, exactly_filtered, exactly_itself, exactly_joined, map_contains}

-- ---- the last row

pub last_is_left : (rows : List Row) → drop (length rows - 1) rows ≡ last_of rows
last_is_left [] = refl
last_is_left (row ∷ []) = refl
last_is_left (row ∷ next ∷ rows) = ap (λ n. drop n (row ∷ next ∷ rows)) one_less ∙ ap (λ n. drop n (next ∷ rows)) (sym none_less) ∙ last_is_left (next ∷ rows)
  where
    one_less : length (row ∷ next ∷ rows) - 1 ≡ suc (length rows)
    one_less = omega arith

    none_less : length (next ∷ rows) - 1 ≡ length rows
    none_less = omega arith

-- ---- choices

pub no_choice : (outs : List (List Row)) → outs ≡ [] ∷ [] → AreExactly outs (λ out. IsSublist out [])
no_choice outs is = exactly_itself outs [] is

module _ (first : Row) (others : List Row) where
  -- a choice that has the first row
  abbrev Begun : List Row → Type 0
  Begun out = (rest : List Row) × (out ≡ first ∷ rest) × IsSublist rest others

  begun : (outs more : List (List Row)) → AreExactly outs (λ out. IsSublist out others) → more ≡ map (λ list. first ∷ list) outs → AreExactly more Begun
  begun outs more are is = subst (λ zs. AreExactly zs Begun) (sym is) (λ out. (into out, back out))
    where
      into : (out : List Row) → Contains (map (λ list. first ∷ list) outs) out → Begun out
      into out h = let one = map_contains (λ (list : List Row). first ∷ list) outs out h in (one.0, one.2, (are one.0).0 one.1)

      back : (out : List Row) → Begun out → Contains (map (λ list. first ∷ list) outs) out
      back out h = subst (Contains (map (λ (list : List Row). first ∷ list) outs)) (sym h.1) (contains_map (λ (list : List Row). first ∷ list) outs h.0 ((are h.0).1 h.2))

  pub choices_more : (outs more : List (List Row)) → AreExactly outs (λ out. IsSublist out others) → more ≡ map (λ list. first ∷ list) outs → AreExactly (outs ++ more) (λ out. IsSublist out (first ∷ others))
  choices_more outs more are is =
      exactly_joined (λ out. IsSublist out others) Begun (λ out. IsSublist out (first ∷ others)) outs more are (begun outs more are is) (λ out h. inl h) (λ out h. inr h) (λ out h. h)

-- ---- those of one sign

both_true : (a b : Bool) → (a && b) ≡ true → (a ≡ true) × (b ≡ true)
both_true true b h = (refl, h)
both_true false b h = cc

either_true : (a b : Bool) → (a || b) ≡ true → (a ≡ true) ⊎ (b ≡ true)
either_true true b h = inl refl
either_true false b h = inr h

or_true : (a b : Bool) → (a ≡ true) ⊎ (b ≡ true) → (a || b) ≡ true
or_true true b h = refl
or_true false b (inl h) = cc
or_true false b (inr h) = h

module _ (sign : ℕ) (rows : List Row) (sum : ℤ) (sum_is : sum ≡ total (column_of sign rows)) where
  abbrev Alike : List Row → Type 0
  Alike out = All (λ (row : Row). is_state sign row ≡ true) out ⊎ All (λ (row : Row). is_cancel sign row ≡ true) out

  alike_from : (out : List Row) → (list_all (is_state sign) out ≡ true) ⊎ (list_all (is_cancel sign) out ≡ true) → Alike out
  alike_from out (inl h) = inl (AllPass-from_list_all (is_state sign) out h)
  alike_from out (inr h) = inr (AllPass-from_list_all (is_cancel sign) out h)

  from_alike : (out : List Row) → Alike out → (list_all (is_state sign) out ≡ true) ⊎ (list_all (is_cancel sign) out ≡ true)
  from_alike out (inl h) = inl (list_all-from_AllPass (is_state sign) out h)
  from_alike out (inr h) = inr (list_all-from_AllPass (is_cancel sign) out h)

  sound : (out : List Row) → IsSublist out rows → may_be_left sign sum out ≡ true → LeavesOneSign sign rows out
  sound out some passes =
      let two = both_true (has_one_sign sign out) (int_eq (total (column_of sign out)) sum) passes in
      record {
        some = some;
        alike = alike_from out (either_true (list_all (is_state sign) out) (list_all (is_cancel sign) out) two.0);
        sum = (Decides-int_eq (total (column_of sign out)) sum).0 two.1 ∙ sum_is;
      }

  complete : (out : List Row) → LeavesOneSign sign rows out → IsSublist out rows × (may_be_left sign sum out ≡ true)
  complete out h =
      let one : has_one_sign sign out ≡ true = or_true (list_all (is_state sign) out) (list_all (is_cancel sign) out) (from_alike out h.alike) in
      let same : int_eq (total (column_of sign out)) sum ≡ true = (Decides-int_eq (total (column_of sign out)) sum).1 (h.sum ∙ sym sum_is) in
      (h.some, ap₂ (λ a b. a && b) one same)

  pub one_sign_exactly : (choices outs : List (List Row)) → AreExactly choices (λ out. IsSublist out rows) → outs ≡ filter (may_be_left sign sum) choices → AreExactly outs (LeavesOneSign sign rows)
  one_sign_exactly choices outs are is =
      subst (λ zs. AreExactly zs (LeavesOneSign sign rows)) (sym is)
      (exactly_filtered (λ out. IsSublist out rows) (LeavesOneSign sign rows) (may_be_left sign sum) choices are sound complete)
