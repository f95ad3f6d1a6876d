-- What is left of rows of both signs after one row more.
use Rattle.std.proofs.Common.{◌≡◌, ◌⊎◌, ℕ, true, false, List, [], ◌∷◌, ◌++◌, Option, None, Some, refl, sym, ap, ◌∙◌, subst, inl, inr, append-nil, ℤ, pos, negsuc, ◌+ℤ◌, slice_get}
use Rattle.std.proofs.Math.IntN.{+ℤ_assoc, +ℤ_idl, +ℤ_idr}
use Rattle.std.proofs.lemmas.Bool.Decides.{Decides-int_eq}
use Rattle.std.specs.List.{All, cons_option}
use Rattle.std.proofs.lemmas.List.Elements.{All-nil, All-cons, All-head, All-push, All-tail}
use Rattle.mt_values.specs.declared.value.Value.{Value}
use Rattle.mt_values.specs.declared.value.Value.TheVariants as value
use Rattle.mt_values.specs.Grid.{column_of}
use Rattle.mt_values.specs.Values.{Row}
use Rattle.rule_law.specs.mt_model.Rules.{HasSign, IsSublist, LeavesOneSign, is_cancel, is_sign, is_state, total}
use Rattle.rule_law.proofs.Alternating.{other_sign}
use Rattle.rule_law.proofs.OneSign.{column_total, sub_before, sub_behind, sub_itself, sub_none, sub_of_sub}

never : false ≡ true → ⊥
never e = cc

one_of_state : (found : Option Value) → is_sign (pos 1) found ≡ true → total (cons_option found []) ≡ pos 1
one_of_state None h = absurd (never h)
one_of_state (Some (value.Int8 z)) h = +ℤ_idr z ∙ (Decides-int_eq z (pos 1)).0 h
one_of_state (Some (value.UInt8 n)) h = absurd (never h)
one_of_state (Some (value.UInt16 n)) h = absurd (never h)
one_of_state (Some (value.UInt32 n)) h = absurd (never h)
one_of_state (Some (value.UInt64 n)) h = absurd (never h)
one_of_state (Some (value.Int16 z)) h = absurd (never h)
one_of_state (Some (value.Int32 z)) h = absurd (never h)
one_of_state (Some (value.Int64 z)) h = absurd (never h)
one_of_state (Some (value.Text bytes)) h = absurd (never h)

one_of_cancel : (found : Option Value) → is_sign (negsuc 0) found ≡ true → total (cons_option found []) ≡ negsuc 0
one_of_cancel None h = absurd (never h)
one_of_cancel (Some (value.Int8 z)) h = +ℤ_idr z ∙ (Decides-int_eq z (negsuc 0)).0 h
one_of_cancel (Some (value.UInt8 n)) h = absurd (never h)
one_of_cancel (Some (value.UInt16 n)) h = absurd (never h)
one_of_cancel (Some (value.UInt32 n)) h = absurd (never h)
one_of_cancel (Some (value.UInt64 n)) h = absurd (never h)
one_of_cancel (Some (value.Int16 z)) h = absurd (never h)
one_of_cancel (Some (value.Int32 z)) h = absurd (never h)
one_of_cancel (Some (value.Int64 z)) h = absurd (never h)
one_of_cancel (Some (value.Text bytes)) h = absurd (never h)

-- what holds of all of a list holds of its last, and of those before it
last_all : (P : Row → Type 0) (xs : List Row) (x : Row) → All P (xs ++ x ∷ []) → P x
last_all P [] x h = All-head P x [] h
last_all P (y ∷ xs) x h = last_all P xs x (All-tail P y (xs ++ x ∷ []) h)

front_all : (P : Row → Type 0) (xs ys : List Row) → All P (xs ++ ys) → All P xs
front_all P [] ys h = All-nil P
front_all P (x ∷ xs) ys h = All-cons P x xs (All-head P x (xs ++ ys) h) (front_all P xs ys (All-tail P x (xs ++ ys) h))

module _ (sign : ℕ) where
  abbrev IsState : Row → Type 0
  IsState row = is_state sign row ≡ true

  abbrev IsCancel : Row → Type 0
  IsCancel row = is_cancel sign row ≡ true

  abbrev sum : List Row → ℤ
  sum rows = total (column_of sign rows)

  state_sum : (row : Row) → is_state sign row ≡ true → sum (row ∷ []) ≡ pos 1
  state_sum row h = one_of_state (slice_get row sign) h

  cancel_sum : (row : Row) → is_cancel sign row ≡ true → sum (row ∷ []) ≡ negsuc 0
  cancel_sum row h = one_of_cancel (slice_get row sign) h

  single : (row : Row) → HasSign sign row → All (λ (r : Row). is_state sign r ≡ true) (row ∷ []) ⊎ All (λ (r : Row). is_cancel sign r ≡ true) (row ∷ [])
  single row (inl h) = inl (All-cons (λ (r : Row). is_state sign r ≡ true) row [] h (All-nil (λ (r : Row). is_state sign r ≡ true)))
  single row (inr h) = inr (All-cons (λ (r : Row). is_cancel sign r ≡ true) row [] h (All-nil (λ (r : Row). is_cancel sign r ≡ true)))

  pub one_left : (row kept : Row) → HasSign sign row → kept ≡ row → LeavesOneSign sign (row ∷ []) (kept ∷ [])
  one_left row kept h same =
      subst (λ r. LeavesOneSign sign (row ∷ []) (r ∷ [])) (sym same) (record { some = sub_itself (row ∷ []); alike = single row h; sum = refl })

  pub none_before : (rows : List Row) (row kept : Row) → HasSign sign row → LeavesOneSign sign rows [] → kept ≡ row → LeavesOneSign sign (rows ++ row ∷ []) (kept ∷ [])
  none_before rows row kept h before same =
      subst (λ r. LeavesOneSign sign (rows ++ row ∷ []) (r ∷ [])) (sym same)
      (record {
        some = sub_before [] rows (row ∷ []) (sub_none rows);
        alike = single row h;
        sum = sym (column_total sign rows (row ∷ []) ∙ ap (λ z. z +ℤ sum (row ∷ [])) (sym before.sum) ∙ +ℤ_idl (sum (row ∷ [])));
      })

  -- the row has the sign of the last of those that are left
  alike_more : (kept : List Row) (last row : Row) → HasSign sign row → is_state sign last ≡ is_state sign row
      → All (λ (r : Row). is_state sign r ≡ true) (kept ++ last ∷ []) ⊎ All (λ (r : Row). is_cancel sign r ≡ true) (kept ++ last ∷ [])
      → All (λ (r : Row). is_state sign r ≡ true) ((kept ++ last ∷ []) ++ row ∷ []) ⊎ All (λ (r : Row). is_cancel sign r ≡ true) ((kept ++ last ∷ []) ++ row ∷ [])
  alike_more kept last row h same (inl all) = inl (All-push IsState (kept ++ last ∷ []) row all (sym same ∙ last_all IsState kept last all))
  alike_more kept last row (inl h) same (inr all) = absurd (never (sym (sym h ∙ sym same ∙ other_sign (slice_get last sign) (last_all IsCancel kept last all))))
  alike_more kept last row (inr h) same (inr all) = inr (All-push IsCancel (kept ++ last ∷ []) row all h)

  pub alike_left : (rows kept : List Row) (last row copy : Row) → HasSign sign row → LeavesOneSign sign rows (kept ++ last ∷ []) → is_state sign last ≡ is_state sign row → copy ≡ row
      → LeavesOneSign sign (rows ++ row ∷ []) ((kept ++ last ∷ []) ++ copy ∷ [])
  alike_left rows kept last row copy h before same twin =
      subst (λ r. LeavesOneSign sign (rows ++ row ∷ []) ((kept ++ last ∷ []) ++ r ∷ [])) (sym twin)
      (record {
        some = sub_before (kept ++ last ∷ []) rows (row ∷ []) before.some;
        alike = alike_more kept last row h same before.alike;
        sum = column_total sign (kept ++ last ∷ []) (row ∷ []) ∙ ap (λ z. z +ℤ sum (row ∷ [])) before.sum ∙ sym (column_total sign rows (row ∷ []));
      })

  -- the last of those that are left and the row are a pair
  pair_sum : (kept : List Row) (last row : Row) → HasSign sign row → (is_state sign last ≡ is_state sign row → ⊥)
      → All (λ (r : Row). is_state sign r ≡ true) (kept ++ last ∷ []) ⊎ All (λ (r : Row). is_cancel sign r ≡ true) (kept ++ last ∷ [])
      → sum (last ∷ []) +ℤ sum (row ∷ []) ≡ pos 0
  pair_sum kept last row (inl h) other (inl all) = absurd (other (last_all IsState kept last all ∙ sym h))
  pair_sum kept last row (inr h) other (inl all) = ap (λ z. z +ℤ sum (row ∷ [])) (state_sum last (last_all IsState kept last all)) ∙ ap (λ z. pos 1 +ℤ z) (cancel_sum row h)
  pair_sum kept last row (inl h) other (inr all) = ap (λ z. z +ℤ sum (row ∷ [])) (cancel_sum last (last_all IsCancel kept last all)) ∙ ap (λ z. negsuc 0 +ℤ z) (state_sum row h)
  pair_sum kept last row (inr h) other (inr all) =
      absurd (other (other_sign (slice_get last sign) (last_all IsCancel kept last all) ∙ sym (other_sign (slice_get row sign) h)))

  fewer : (kept : List Row) (last : Row) → All (λ (r : Row). is_state sign r ≡ true) (kept ++ last ∷ []) ⊎ All (λ (r : Row). is_cancel sign r ≡ true) (kept ++ last ∷ [])
      → All (λ (r : Row). is_state sign r ≡ true) kept ⊎ All (λ (r : Row). is_cancel sign r ≡ true) kept
  fewer kept last (inl all) = inl (front_all IsState kept (last ∷ []) all)
  fewer kept last (inr all) = inr (front_all IsCancel kept (last ∷ []) all)

  pub pair_gone : (rows kept : List Row) (last row : Row) → HasSign sign row → LeavesOneSign sign rows (kept ++ last ∷ []) → (is_state sign last ≡ is_state sign row → ⊥)
      → LeavesOneSign sign (rows ++ row ∷ []) kept
  pair_gone rows kept last row h before other = record {
    some = sub_of_sub kept (kept ++ last ∷ []) (rows ++ row ∷ []) (subst (λ zs. IsSublist zs (kept ++ last ∷ [])) (append-nil kept) (sub_behind kept [] (last ∷ []) (sub_none (last ∷ []))))
        (sub_of_sub (kept ++ last ∷ []) rows (rows ++ row ∷ []) before.some (subst (λ zs. IsSublist zs (rows ++ row ∷ [])) (append-nil rows) (sub_behind rows [] (row ∷ []) (sub_none (row ∷ [])))));
    alike = fewer kept last before.alike;
    sum = sym (column_total sign rows (row ∷ []) ∙ ap (λ z. z +ℤ sum (row ∷ [])) (sym before.sum ∙ column_total sign kept (last ∷ []))
        ∙ +ℤ_assoc (sum kept) (sum (last ∷ [])) (sum (row ∷ [])) ∙ ap (λ z. sum kept +ℤ z) (pair_sum kept last row h other before.alike) ∙ +ℤ_idr (sum kept));
  }

  -- ---- by what is kept before and after

  pub first_kept : (rows old new : List Row) (row : Row) → HasSign sign row → LeavesOneSign sign rows old → old ≡ [] → new ≡ row ∷ [] → LeavesOneSign sign (rows ++ row ∷ []) new
  first_kept rows old new row h before was is =
      subst (LeavesOneSign sign (rows ++ row ∷ [])) (sym is) (none_before rows row row h (subst (LeavesOneSign sign rows) was before) refl)

  pub more_kept : (rows kept old new : List Row) (last row : Row) → HasSign sign row → LeavesOneSign sign rows old → old ≡ kept ++ last ∷ [] → is_state sign last ≡ is_state sign row → new ≡ (kept ++ last ∷ []) ++ row ∷ []
      → LeavesOneSign sign (rows ++ row ∷ []) new
  more_kept rows kept old new last row h before was same is =
      subst (LeavesOneSign sign (rows ++ row ∷ [])) (sym is) (alike_left rows kept last row row h (subst (LeavesOneSign sign rows) was before) same refl)

  pub less_kept : (rows old new : List Row) (last row : Row) → HasSign sign row → LeavesOneSign sign rows old → old ≡ new ++ last ∷ [] → (is_state sign last ≡ is_state sign row → ⊥)
      → LeavesOneSign sign (rows ++ row ∷ []) new
  less_kept rows old new last row h before was other = pair_gone rows new last row h (subst (LeavesOneSign sign rows) was before) other
