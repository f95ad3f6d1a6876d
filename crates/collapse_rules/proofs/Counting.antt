-- The numbers of both signs, after one row more, and what they leave.
use Rattle.std.proofs.Common.{◌≡◌, ℕ, ◌+◌, ◌<◌, ◌++◌, ◌||◌, Bool, true, false, cond, List, [], ◌∷◌, length, filter, Option, None, Some, refl, sym, ap, ap₂, ◌∙◌, inl, inr, append-nil, arith, slice_get, option_to_list, is_none}
use Rattle.std.proofs.lemmas.List.Elements.{filter-append}
use Rattle.std.proofs.lemmas.List.{length_push}
use Rattle.std.specs.List.{list_any}
use Rattle.mt_values.specs.Values.{Row}
use Rattle.rule_law.specs.mt_model.Rules.{HasSign, collapsed, ends_with_state, first_of, is_cancel, is_state, last_of, left_of_signs}
use Rattle.rule_law.proofs.Alternating.{left_cancels, left_even, left_states, one_sign, other_sign}
use Rattle.rule_law.proofs.Newest.{last_after}
use Rattle.collapse_rules.specs.Counted.{IsCounted}
use Rattle.collapse_rules.specs.declared.collapsing.Counted.{Counted}

-- one row more, which passes a test or does not
filter_in : (p : Row → Bool) (rows : List Row) (row : Row) → p row ≡ true → filter p (rows ++ row ∷ []) ≡ filter p rows ++ row ∷ []
filter_in p rows row h = filter-append p rows (row ∷ []) ∙ ap (λ b. filter p rows ++ cond b (row ∷ []) []) h

filter_out : (p : Row → Bool) (rows : List Row) (row : Row) → p row ≡ false → filter p (rows ++ row ∷ []) ≡ filter p rows
filter_out p rows row h = filter-append p rows (row ∷ []) ∙ ap (λ b. filter p rows ++ cond b (row ∷ []) []) h ∙ append-nil (filter p rows)

-- the first of a list after one more at its end
first_still : (x : Row) (xs : List Row) (row : Row) → first_of ((x ∷ xs) ++ row ∷ []) ≡ first_of (x ∷ xs)
first_still x xs row = refl

none_first : (xs : List Row) → [] ≡ first_of xs → xs ≡ []
none_first [] h = refl
none_first (x ∷ xs) h = cc

pub first_none : (kept : Option Row) (xs : List Row) (row : Row) → option_to_list kept ≡ first_of xs → is_none kept ≡ true → row ∷ [] ≡ first_of (xs ++ row ∷ [])
first_none None xs row h none = sym (ap (λ zs. first_of (zs ++ row ∷ [])) (none_first xs h))
first_none (Some found) xs row h none = absurd (clash none)
  where
    clash : false ≡ true → ⊥
    clash e = cc

pub first_some : (kept : Option Row) (xs : List Row) (row : Row) → option_to_list kept ≡ first_of xs → is_none kept ≡ false → option_to_list kept ≡ first_of (xs ++ row ∷ [])
first_some None xs row h some = absurd (clash some)
  where
    clash : true ≡ false → ⊥
    clash e = cc
first_some (Some found) [] row h some = absurd (clash h)
  where
    clash : found ∷ [] ≡ [] → ⊥
    clash e = cc
first_some (Some found) (x ∷ xs) row h some = h

-- one row is all that is left of itself
pub alone_left : (sign : ℕ) (row : Row) → HasSign sign row → row ∷ [] ≡ collapsed sign (row ∷ [])
alone_left sign row signed = sym (by signed)
  where
    by_signs : Bool → Bool → List Row
    by_signs state cancel = left_of_signs (ends_with_state sign (row ∷ [])) (cond state (row ∷ []) []) (cond cancel (row ∷ []) [])

    by : HasSign sign row → by_signs (is_state sign row) (is_cancel sign row) ≡ row ∷ []
    by (inl state) = ap₂ by_signs state (one_sign (slice_get row sign) state)
    by (inr cancel) = ap₂ by_signs (other_sign (slice_get row sign) cancel) cancel

pub none_counted : (sign : ℕ) → IsCounted sign [] (record { states = 0; cancels = 0; first_cancel = None; last_state = None; ended = false })
none_counted sign = record { states = refl; cancels = refl; first = refl; last = refl; ended = refl }

module _ (sign : ℕ) where
  ends_by : (rows : List Row) (row : Row) → ends_with_state sign (rows ++ row ∷ []) ≡ (is_state sign row || false)
  ends_by rows row = ap (list_any (is_state sign)) (last_after rows row [])

  -- the row is a state
  pub one_state : (rows : List Row) (row : Row) (old new : Counted) → IsCounted sign rows old → is_state sign row ≡ true
      → new.states ≡ old.states + 1 → new.cancels ≡ old.cancels → new.first_cancel ≡ old.first_cancel → new.last_state ≡ Some row → new.ended ≡ true
      → IsCounted sign (rows ++ row ∷ []) new
  one_state rows row old new h state states cancels first last ended =
      let in_states = filter_in (is_state sign) rows row state in
      let out_cancels = filter_out (is_cancel sign) rows row (one_sign (slice_get row sign) state) in
      record {
        states = states ∙ ap (λ n. n + 1) h.states ∙ sym (ap length in_states ∙ length_push (filter (is_state sign) rows) row);
        cancels = cancels ∙ h.cancels ∙ sym (ap length out_cancels);
        first = ap option_to_list first ∙ h.first ∙ sym (ap first_of out_cancels);
        last = ap option_to_list last ∙ sym (ap last_of in_states ∙ last_after (filter (is_state sign) rows) row []);
        ended = ended ∙ sym (ends_by rows row ∙ ap (λ b. b || false) state);
      }

  -- the row is a cancel, and the first of them or not
  pub one_cancel : (rows : List Row) (row : Row) (old new : Counted) → IsCounted sign rows old → HasSign sign row → is_state sign row ≡ false
      → new.states ≡ old.states → new.cancels ≡ old.cancels + 1 → new.last_state ≡ old.last_state → new.ended ≡ false
      → (option_to_list new.first_cancel ≡ first_of (filter (is_cancel sign) rows ++ row ∷ []))
      → IsCounted sign (rows ++ row ∷ []) new
  one_cancel rows row old new h (inl state) other states cancels last ended first = absurd (clash (sym state ∙ other))
    where
      clash : true ≡ false → ⊥
      clash e = cc
  one_cancel rows row old new h (inr cancel) other states cancels last ended first =
      let out_states = filter_out (is_state sign) rows row other in
      let in_cancels = filter_in (is_cancel sign) rows row cancel in
      record {
        states = states ∙ h.states ∙ sym (ap length out_states);
        cancels = cancels ∙ ap (λ n. n + 1) h.cancels ∙ sym (ap length in_cancels ∙ length_push (filter (is_cancel sign) rows) row);
        first = first ∙ sym (ap first_of in_cancels);
        last = ap option_to_list last ∙ h.last ∙ sym (ap last_of out_states);
        ended = ended ∙ sym (ends_by rows row ∙ ap (λ b. b || false) other);
      }

  -- ---- what is left

  pub states_left : (rows out : List Row) (c : Counted) → IsCounted sign rows c → c.cancels < c.states → out ≡ [] ++ option_to_list c.last_state → out ≡ collapsed sign rows
  states_left rows out c h less is =
      is ∙ h.last ∙ sym (left_states (ends_with_state sign rows) (filter (is_state sign) rows) (filter (is_cancel sign) rows) (fewer c.cancels c.states _ _ h.cancels h.states less))
    where
      fewer : (a b m n : ℕ) → a ≡ m → b ≡ n → a < b → m < n
      fewer a b m n e f k = omega arith

  pub cancels_left : (rows out : List Row) (c : Counted) → IsCounted sign rows c → c.states < c.cancels → out ≡ [] ++ option_to_list c.first_cancel → out ≡ collapsed sign rows
  cancels_left rows out c h less is =
      is ∙ h.first ∙ sym (left_cancels (ends_with_state sign rows) (filter (is_state sign) rows) (filter (is_cancel sign) rows) (fewer c.states c.cancels _ _ h.states h.cancels less))
    where
      fewer : (a b m n : ℕ) → a ≡ m → b ≡ n → a < b → m < n
      fewer a b m n e f k = omega arith

  pub even_left : (rows out : List Row) (c : Counted) → IsCounted sign rows c → c.states ≡ c.cancels → out ≡ cond c.ended (option_to_list c.first_cancel ++ option_to_list c.last_state) [] → out ≡ collapsed sign rows
  even_left rows out c h same is =
      is ∙ ap (λ b. cond b (option_to_list c.first_cancel ++ option_to_list c.last_state) []) h.ended
      ∙ ap (λ zs. cond (ends_with_state sign rows) (zs ++ option_to_list c.last_state) []) h.first
      ∙ ap (λ zs. cond (ends_with_state sign rows) (first_of (filter (is_cancel sign) rows) ++ zs) []) h.last
      ∙ sym (left_even (ends_with_state sign rows) (filter (is_state sign) rows) (filter (is_cancel sign) rows) (sym h.states ∙ same ∙ h.cancels))
