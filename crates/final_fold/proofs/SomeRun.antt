-- Whatever the rows of a key are, a merge may leave something of them.
use Rattle.std.proofs.Common.{◌≡◌, ◌⊎◌, inl, inr, ℕ, ◌+◌, ◌<◌, ◌≤◌, ◌||◌, Bool, true, false, nat_le, List, [], ◌∷◌, ◌++◌, All, length, get_or, refl, sym, ap, ◌∙◌, subst, leb-true, arith, ℤ, pos, negsuc, ◌+ℤ◌, slice_get, Option, None, Some}
use Rattle.std.proofs.Math.IntN.{+ℤ_assoc, +ℤ_idl, +ℤ_idr}
use Rattle.std.proofs.lemmas.Bool.Decides.{Decides-int_eq}
use Rattle.std.proofs.lemmas.List.{length-map}
use Rattle.std.proofs.lemmas.List.Elements.{All-append, All-cons, All-head, All-nil, All-same, All-tail, All-weaker}
use Rattle.std.specs.Cmp.{IsStrictWeakOrder}
use Rattle.std.specs.Int.Bits.{bit_and, bit_or, bit_xor}
use Rattle.std.specs.List.{cons_option, fold}
use Rattle.std.specs.Ordering.{is_lt}
use Rattle.mt_values.specs.declared.engine.Aggregate.{Aggregate}
use Rattle.mt_values.specs.declared.engine.Aggregate.TheVariants as aggregate
use Rattle.mt_values.specs.declared.engine.Engine.{Engine}
use Rattle.mt_values.specs.declared.engine.Engine.TheVariants as engine
use Rattle.mt_values.specs.declared.value.ColType.{ColType}
use Rattle.mt_values.specs.declared.value.Value.{Value}
use Rattle.mt_values.specs.declared.value.Value.TheVariants as value
use Rattle.mt_values.specs.Engines.{is_sign}
use Rattle.mt_values.specs.Grid.{column_of}
use Rattle.mt_values.specs.Order.{value_cmp}
use Rattle.mt_values.specs.Values.{Row, type_of}
use Rattle.row_merge.specs.mt_model.Rules.{AreAggregatesFrom, HasSign, IsAggregateOf, IsBest, LeavesNewest, LeavesOneSign, Run, collapsed, function_or_first, is_cancel, is_state, joined_bits, last_of, total, version_at, wrapped_as}
use Rattle.row_merge.specs.rule_law.TableRows.{IsRowOf}
use Rattle.row_merge.proofs.RuleLawAggregated.{column_of_one, greater_order, less_order, no_value, passes_not}
use Rattle.row_merge.proofs.RuleLawNewest.{last_leaves}
use Rattle.row_merge.proofs.RuleLawOneSign.{column_total, sub_itself, sub_of_sub}

-- ---- the newest row

module _ (version : ℕ) where
  abbrev number : Row → ℕ
  number row = version_at version row

  newer_or_not : (row : Row) (rows : List Row) → (newest : Row) × LeavesNewest version rows (newest ∷ []) → (newest : Row) × LeavesNewest version (row ∷ rows) (newest ∷ [])
  newer_or_not row rows found = by (nat_le (number row) (number h.newest)) refl
    where
      h : LeavesNewest version rows (found.0 ∷ [])
      h = found.1

      by : (b : Bool) → nat_le (number row) (number h.newest) ≡ b → (newest : Row) × LeavesNewest version (row ∷ rows) (newest ∷ [])
      by true e =
          let least : number row ≤ number h.newest = leb-true (number row) (number h.newest) e in (
            h.newest,
            record {
              earlier = row ∷ h.earlier;
              newest = h.newest;
              later = h.later;
              rows_are = ap (λ zs. row ∷ zs) h.rows_are;
              none_above = All-cons (λ r. number r ≤ number h.newest) row h.earlier least h.none_above;
              all_below = h.all_below;
              out_is = refl;
            },
          )
      by false e =
          let less : number h.newest < number row = grind arith in (
            row,
            record {
              earlier = [];
              newest = row;
              later = rows;
              rows_are = refl;
              none_above = All-nil (λ r. number r ≤ number row);
              all_below =
                  All-same (λ r. number r < number row) rows (h.earlier ++ h.newest ∷ h.later) h.rows_are
                  (All-append (λ r. number r < number row) h.earlier (h.newest ∷ h.later)
                  (λ k d below. let one = h.none_above k d below in omega (arith, one, less))
                  (All-cons (λ r. number r < number row) h.newest h.later less (λ k d below. let one = h.all_below k d below in omega (arith, one, less))));
              out_is = refl;
            },
          )

  newest_of_some : (row : Row) (rows : List Row) → (newest : Row) × LeavesNewest version (row ∷ rows) (newest ∷ [])
  newest_of_some row [] = (
    row,
    record {
      earlier = [];
      newest = row;
      later = [];
      rows_are = refl;
      none_above = All-nil (λ r. number r ≤ number row);
      all_below = All-nil (λ r. number r < number row);
      out_is = refl;
    },
  )
  newest_of_some row (next ∷ rows) = newer_or_not row (next ∷ rows) (newest_of_some next rows)

-- ---- rows of one sign

never : false ≡ true → ⊥
never e = cc

one_of_state : (found : Option Value) → is_sign (pos 1) found ≡ true → total (cons_option found []) ≡ pos 1
one_of_state None h = absurd (never h)
one_of_state (Some (value.Int8 z)) h = +ℤ_idr z ∙ (Decides-int_eq z (pos 1)).0 h
one_of_state (Some (value.UInt8 n)) h = absurd (never h)
one_of_state (Some (value.UInt16 n)) h = absurd (never h)
one_of_state (Some (value.UInt32 n)) h = absurd (never h)
one_of_state (Some (value.UInt64 n)) h = absurd (never h)
one_of_state (Some (value.Int16 z)) h = absurd (never h)
one_of_state (Some (value.Int32 z)) h = absurd (never h)
one_of_state (Some (value.Int64 z)) h = absurd (never h)
one_of_state (Some (value.Text bytes)) h = absurd (never h)

one_of_cancel : (found : Option Value) → is_sign (negsuc 0) found ≡ true → total (cons_option found []) ≡ negsuc 0
one_of_cancel None h = absurd (never h)
one_of_cancel (Some (value.Int8 z)) h = +ℤ_idr z ∙ (Decides-int_eq z (negsuc 0)).0 h
one_of_cancel (Some (value.UInt8 n)) h = absurd (never h)
one_of_cancel (Some (value.UInt16 n)) h = absurd (never h)
one_of_cancel (Some (value.UInt32 n)) h = absurd (never h)
one_of_cancel (Some (value.UInt64 n)) h = absurd (never h)
one_of_cancel (Some (value.Int16 z)) h = absurd (never h)
one_of_cancel (Some (value.Int32 z)) h = absurd (never h)
one_of_cancel (Some (value.Int64 z)) h = absurd (never h)
one_of_cancel (Some (value.Text bytes)) h = absurd (never h)

module _ (sign : ℕ) where
  abbrev IsState : Row → Type 0
  IsState row = is_state sign row ≡ true

  abbrev IsCancel : Row → Type 0
  IsCancel row = is_cancel sign row ≡ true

  abbrev sum : List Row → ℤ
  sum rows = total (column_of sign rows)

  single : (row : Row) → HasSign sign row → All (λ (r : Row). is_state sign r ≡ true) (row ∷ []) ⊎ All (λ (r : Row). is_cancel sign r ≡ true) (row ∷ [])
  single row (inl s) = inl (All-cons IsState row [] s (All-nil IsState))
  single row (inr s) = inr (All-cons IsCancel row [] s (All-nil IsCancel))

  -- the row stays, before those that are left of the others
  stays : (row : Row) (rows out : List Row) → LeavesOneSign sign rows out
      → All (λ (r : Row). is_state sign r ≡ true) (row ∷ out) ⊎ All (λ (r : Row). is_cancel sign r ≡ true) (row ∷ out) → LeavesOneSign sign (row ∷ rows) (row ∷ out)
  stays row rows out h alike = record {
    some = inr (out, refl, h.some);
    alike = alike;
    sum = column_total sign (row ∷ []) out ∙ ap (λ z. sum (row ∷ []) +ℤ z) h.sum ∙ sym (column_total sign (row ∷ []) rows);
  }

  -- the row and the first of those that are left of the others are a pair
  paired : (row : Row) (rows : List Row) (x : Row) (xs : List Row) (a b : ℤ) → LeavesOneSign sign rows (x ∷ xs) → sum (row ∷ []) ≡ a → sum (x ∷ []) ≡ b → a +ℤ b ≡ pos 0
      → All (λ (r : Row). is_state sign r ≡ true) xs ⊎ All (λ (r : Row). is_cancel sign r ≡ true) xs → LeavesOneSign sign (row ∷ rows) xs
  paired row rows x xs a b h one other none alike = record {
    some = inl (sub_of_sub xs (x ∷ xs) rows (inl (sub_itself xs)) h.some);
    alike = alike;
    sum = sym (column_total sign (row ∷ []) rows
        ∙ ap (λ z. z +ℤ sum rows) one ∙ ap (λ z. a +ℤ z) (sym h.sum ∙ column_total sign (x ∷ []) xs ∙ ap (λ z. z +ℤ sum xs) other)
        ∙ sym (+ℤ_assoc a b (sum xs)) ∙ ap (λ z. z +ℤ sum xs) none ∙ +ℤ_idl (sum xs));
  }

  one_more : (row : Row) (rows out : List Row) → HasSign sign row → LeavesOneSign sign rows out → (left : List Row) × LeavesOneSign sign (row ∷ rows) left
  one_more row rows [] own h = (row ∷ [], stays row rows [] h (single row own))
  one_more row rows (x ∷ xs) own h = by own h.alike
    where
      by : HasSign sign row → All (λ (r : Row). is_state sign r ≡ true) (x ∷ xs) ⊎ All (λ (r : Row). is_cancel sign r ≡ true) (x ∷ xs) → (left : List Row) × LeavesOneSign sign (row ∷ rows) left
      by (inl s) (inl all) = (row ∷ x ∷ xs, stays row rows (x ∷ xs) h (inl (All-cons IsState row (x ∷ xs) s all)))
      by (inr s) (inr all) = (row ∷ x ∷ xs, stays row rows (x ∷ xs) h (inr (All-cons IsCancel row (x ∷ xs) s all)))
      by (inl s) (inr all) =
          (xs, paired row rows x xs (pos 1) (negsuc 0) h (one_of_state (slice_get row sign) s) (one_of_cancel (slice_get x sign) (All-head IsCancel x xs all)) refl (inr (All-tail IsCancel x xs all)))
      by (inr s) (inl all) =
          (xs, paired row rows x xs (negsuc 0) (pos 1) h (one_of_cancel (slice_get row sign) s) (one_of_state (slice_get x sign) (All-head IsState x xs all)) refl (inl (All-tail IsState x xs all)))

  one_sign_of_some : (rows : List Row) → All (HasSign sign) rows → (left : List Row) × LeavesOneSign sign rows left
  one_sign_of_some [] own = ([], record { some = refl; alike = inl (All-nil IsState); sum = refl })
  one_sign_of_some (row ∷ rows) own =
      let h = one_sign_of_some rows (All-tail (HasSign sign) row rows own) in
      one_more row rows h.0 (All-head (HasSign sign) row rows own) h.1

  sign_of : (a b : Bool) → (a || b) ≡ true → (a ≡ true) ⊎ (b ≡ true)
  sign_of true b e = inl refl
  sign_of false b e = inr e

-- ---- what functions make of values

last_of_some : (v : Value) (vs : List Value) → (last : Value) × (earlier : List Value) × (v ∷ vs ≡ earlier ++ last ∷ [])
last_of_some v [] = (v, [], refl)
last_of_some v (next ∷ vs) = let h = last_of_some next vs in (h.0, v ∷ h.1, ap (λ zs. v ∷ zs) h.2)

module _ (passes : Value → Value → Bool) (order : IsStrictWeakOrder passes) where
  better_or_not : (v : Value) (vs : List Value) → (best : Value) × IsBest passes vs best → (best : Value) × IsBest passes (v ∷ vs) best
  better_or_not v vs found = by (passes v found.0) refl
    where
      h : IsBest passes vs found.0
      h = found.1

      by : (b : Bool) → passes v found.0 ≡ b → (best : Value) × IsBest passes (v ∷ vs) best
      by false e = (
        found.0,
        record {
          earlier = v ∷ h.earlier;
          later = h.later;
          values_are = ap (λ zs. v ∷ zs) h.values_are;
          best = All-cons (λ other. passes other found.0 ≡ false) v vs e h.best;
        },
      )
      by true e = (
        v,
        record {
          earlier = [];
          later = vs;
          values_are = refl;
          best = All-cons (λ other. passes other v ≡ false) v vs (passes_not passes order v)
              (All-weaker (λ other. passes other found.0 ≡ false) (λ other. passes other v ≡ false) (λ other not. order.chain other found.0 v not (order.one_way v found.0 e)) vs h.best);
        },
      )

  best_of_some : (v : Value) (vs : List Value) → (best : Value) × IsBest passes (v ∷ vs) best
  best_of_some v [] = (v, record { earlier = []; later = []; values_are = refl; best = All-cons (λ other. passes other v ≡ false) v [] (passes_not passes order v) (All-nil (λ other. passes other v ≡ false)) })
  best_of_some v (next ∷ vs) = better_or_not v (next ∷ vs) (best_of_some next vs)

aggregate_of_some : (function : Aggregate) (v : Value) (vs : List Value) → (made : Value) × IsAggregateOf function (v ∷ vs) made
aggregate_of_some aggregate.Any v vs = (v, (vs, refl))
aggregate_of_some aggregate.AnyLast v vs = let h = last_of_some v vs in (h.0, (h.1, h.2))
aggregate_of_some aggregate.Min v vs = best_of_some (λ other best. is_lt (value_cmp other best)) less_order v vs
aggregate_of_some aggregate.Max v vs = best_of_some (λ other best. is_lt (value_cmp best other)) greater_order v vs
aggregate_of_some aggregate.Sum v vs = (wrapped_as v (total (v ∷ vs)), (v, vs, refl, refl))
aggregate_of_some aggregate.BitAnd v vs = (fold (joined_bits bit_and) v vs, refl)
aggregate_of_some aggregate.BitOr v vs = (fold (joined_bits bit_or) v vs, refl)
aggregate_of_some aggregate.BitXor v vs = (fold (joined_bits bit_xor) v vs, refl)

module _ (row : Row) (rows : List Row) where
  aggregates_of_some : (place : ℕ) (functions : List (Option Aggregate)) → place + length functions ≡ length row → (made : Row) × AreAggregatesFrom place functions (row ∷ rows) made
  aggregates_of_some place [] reach = ([], refl)
  aggregates_of_some place (function ∷ functions) reach =
      let first = aggregate_of_some (function_or_first function) (get_or row place no_value) (column_of place rows) in
      let here : column_of place (row ∷ rows) ≡ get_or row place no_value ∷ column_of place rows = column_of_one place row rows (omega (arith, reach)) in
      let own : IsAggregateOf (function_or_first function) (column_of place (row ∷ rows)) first.0 = subst (λ values. IsAggregateOf (function_or_first function) values first.0) (sym here) first.1 in
      let rest = aggregates_of_some (place + 1) functions (omega (arith, reach)) in
      (first.0 ∷ rest.0, (first.0, rest.0, refl, own, rest.1))

-- ---- all engines

module _ (functions : List (Option Aggregate)) (types : List ColType) (even : length functions ≡ length types) where
  -- where a column has a sign, each row's is 1 or -1
  pub run_of_some : (e : Engine) (row : Row) (rows : List Row) → All (IsRowOf e types) (row ∷ rows) → (out : List Row) × Run e functions (row ∷ rows) out
  run_of_some engine.Plain row rows own = (row ∷ rows, refl)
  run_of_some (engine.Replacing None) row rows own = (last_of (row ∷ rows), last_leaves row rows)
  run_of_some (engine.Replacing (Some version)) row rows own = let h = newest_of_some version row rows in (h.0 ∷ [], h.1)
  run_of_some (engine.Summing places) row rows own = (_, record { earlier = []; carried = row; later = rows; rows_are = refl; out_is = refl })
  run_of_some (engine.Collapsing sign) row rows own = (collapsed sign (row ∷ rows), refl)
  run_of_some (engine.Versioned sign version) row rows own =
      one_sign_of_some sign (row ∷ rows) (All-weaker (IsRowOf (engine.Versioned sign version) types) (HasSign sign)
      (λ r is. sign_of sign (is_state sign r) (is_cancel sign r) is.signed) (row ∷ rows) own)
  run_of_some engine.Aggregating row rows own =
      let wide : length row ≡ length types = sym (length-map row type_of) ∙ ap length (All-head (IsRowOf engine.Aggregating types) row rows own).typed in
      let made = aggregates_of_some row rows 0 functions (omega (arith, even, wide)) in
      (made.0 ∷ [], record { row = made.0; aggregates = made.1; out_is = refl })
