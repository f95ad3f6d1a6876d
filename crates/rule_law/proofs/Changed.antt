-- What a change makes of rows of one key, and of what the rule of an engine leaves of them.
use Rattle.std.proofs.Common.{◌≡◌, ◌⊎◌, ℕ, zero, suc, ◌+◌, ◌<◌, ◌≤◌, Bool, true, false, cond, not, ◌&&◌, ◌||◌, nat_eq, nat_lt, List, [], ◌∷◌, ◌++◌, length, map, filter, get_or, Option, None, Some, slice_get, set, unwrap_or, refl, sym, ap, ap₂, ◌∙◌, subst, inl, inr, arith, pos, negsuc}
use Rattle.std.specs.List.{All, Contains, cons_option, list_all, list_any}
use Rattle.std.specs.Ordering.{int_eq}
use Rattle.std.proofs.lemmas.Bool.{eq-eqb}
use Rattle.std.proofs.lemmas.List.{length-map, map-append}
use Rattle.std.proofs.lemmas.List.Elements.{All-cons, All-head, All-nil, All-tail}
use Rattle.std.proofs.lemmas.List.Folds.{list_any_at}
use Rattle.mt_values.specs.declared.change.Assignment.{Assignment}
use Rattle.mt_values.specs.declared.change.Change.{Change}
use Rattle.mt_values.specs.declared.change.Change.TheVariants as change
use Rattle.mt_values.specs.declared.engine.Aggregate.{Aggregate}
use Rattle.mt_values.specs.declared.engine.Aggregate.TheVariants as aggregate
use Rattle.mt_values.specs.declared.engine.Engine.{Engine}
use Rattle.mt_values.specs.declared.engine.Engine.TheVariants as engine
use Rattle.mt_values.specs.declared.expr.Test.{Test}
use Rattle.mt_values.specs.declared.value.ColType.{ColType}
use Rattle.mt_values.specs.declared.value.Value.{Value}
use Rattle.mt_values.specs.Changes.{changed, updated, value_for, with_value}
use Rattle.mt_values.specs.Conditions.{Always, And, Condition, Holds, Not, Or, tests_of}
use Rattle.mt_values.specs.Grid.{column_of}
use Rattle.mt_values.specs.Order.{key_of}
use Rattle.mt_values.specs.Tables.{number_at}
use Rattle.mt_values.specs.Tests.{eval, meets_some}
use Rattle.mt_values.specs.Values.{Row, type_of, types_of}
use Rattle.mt_model.specs.Mutations.{is_folded, protects}
use Rattle.mt_model.specs.Rules.{IsAggregateOf, IsSublist, LeavesAggregates, LeavesLast, LeavesNewest, LeavesOneSign, LeavesSums, Run, are_zero, collapsed, ends_with_state, first_of, function_or_first, is_cancel, is_one_of, is_sign, is_state, last_of, left_of_signs, summed, total, version_at, with_sums, with_sums_from, wrapped_as}
use Rattle.rule_law.specs.Changes.{StaysLeft}
use Rattle.rule_law.proofs.Letting.{IsFree, IsLet, IsOfPlaces}
use Rattle.rule_law.proofs.Aggregated.{aggregate_at, aggregates_at_all, aggregates_length, all_left, all_right, column_of_one, first_kept, function_at, no_value}
use Rattle.rule_law.proofs.Assigned.{Agree, assign_free, assigned_to, reads_same, updated_agree, updated_kept, updated_length}
use Rattle.rule_law.proofs.Summed.{sums_alike, sums_apart}

-- ---- conditions

eval_same : (a b : Row) (c : Condition Test) → All (λ (t : Test). slice_get a t.column ≡ slice_get b t.column) (tests_of c) → eval c a ≡ eval c b
eval_same a b Always same = refl
eval_same a b (Holds t) same = ap (meets_some t) (All-head (λ (x : Test). slice_get a x.column ≡ slice_get b x.column) t [] same)
eval_same a b (Not c) same = ap not (eval_same a b c same)
eval_same a b (And c d) same =
    let P : Test → Type 0 = λ x. slice_get a x.column ≡ slice_get b x.column in
    ap₂ (λ x y. x && y) (eval_same a b c (all_left P (tests_of c) (tests_of d) same)) (eval_same a b d (all_right P (tests_of c) (tests_of d) same))
eval_same a b (Or c d) same =
    let P : Test → Type 0 = λ x. slice_get a x.column ≡ slice_get b x.column in
    ap₂ (λ x y. x || y) (eval_same a b c (all_left P (tests_of c) (tests_of d) same)) (eval_same a b d (all_right P (tests_of c) (tests_of d) same))

-- two rows of one length that agree in a key agree in each of its columns
first_alike : (a b : Row) (k : ℕ) → length a ≡ length b → (x y : List Value) → cons_option (slice_get a k) x ≡ cons_option (slice_get b k) y → (slice_get a k ≡ slice_get b k) × (x ≡ y)
first_alike [] [] k even x y same = (refl, same)
first_alike [] (w ∷ b) k even x y same = absurd (omega (arith, even))
first_alike (v ∷ a) [] k even x y same = absurd (omega (arith, even))
first_alike (v ∷ a) (w ∷ b) zero even x y same = (heads, tails)
  where
    heads : Some v ≡ Some w
    heads = cc

    tails : x ≡ y
    tails = cc
first_alike (v ∷ a) (w ∷ b) (suc k) even x y same = first_alike a b k (omega (arith, even)) x y same

pub key_alike : (keys : List ℕ) (a b : Row) → length a ≡ length b → key_of keys a ≡ key_of keys b → (place : ℕ) → Contains keys place → slice_get a place ≡ slice_get b place
key_alike [] a b even same place at = absurd (omega (arith, at.1))
key_alike (k ∷ keys) a b even same place (zero, below, is) =
    let here = (first_alike a b k even (key_of keys a) (key_of keys b) same).0 in
    subst (λ p. slice_get a p ≡ slice_get b p) is here
key_alike (k ∷ keys) a b even same place (suc i, below, is) =
    key_alike keys a b even (first_alike a b k even (key_of keys a) (key_of keys b) same).1 place (i, omega (arith, below), is)

-- ---- rows that all meet a condition, or none of which does

all_deleted : (c : Condition Test) (rows : List Row) → All (λ row. eval c row ≡ true) rows → filter (λ row. not (eval c row)) rows ≡ []
all_deleted c [] all = refl
all_deleted c (row ∷ rows) all =
    ap (λ b. cond (not b) (row ∷ filter (λ r. not (eval c r)) rows) (filter (λ r. not (eval c r)) rows)) (All-head (λ r. eval c r ≡ true) row rows all)
    ∙ all_deleted c rows (All-tail (λ r. eval c r ≡ true) row rows all)

none_deleted : (c : Condition Test) (rows : List Row) → All (λ row. eval c row ≡ false) rows → filter (λ row. not (eval c row)) rows ≡ rows
none_deleted c [] all = refl
none_deleted c (row ∷ rows) all =
    ap (λ b. cond (not b) (row ∷ filter (λ r. not (eval c r)) rows) (filter (λ r. not (eval c r)) rows)) (All-head (λ r. eval c r ≡ false) row rows all)
    ∙ ap (λ rs. row ∷ rs) (none_deleted c rows (All-tail (λ r. eval c r ≡ false) row rows all))

all_updated : (puts : List Assignment) (c : Condition Test) (rows : List Row) → All (λ row. eval c row ≡ true) rows → map (λ row. cond (eval c row) (updated puts row) row) rows ≡ map (updated puts) rows
all_updated puts c [] all = refl
all_updated puts c (row ∷ rows) all =
    ap₂ (λ b rs. cond b (updated puts row) row ∷ rs) (All-head (λ r. eval c r ≡ true) row rows all) (all_updated puts c rows (All-tail (λ r. eval c r ≡ true) row rows all))

none_updated : (puts : List Assignment) (c : Condition Test) (rows : List Row) → All (λ row. eval c row ≡ false) rows → map (λ row. cond (eval c row) (updated puts row) row) rows ≡ rows
none_updated puts c [] all = refl
none_updated puts c (row ∷ rows) all =
    ap₂ (λ b rs. cond b (updated puts row) row ∷ rs) (All-head (λ r. eval c r ≡ false) row rows all) (none_updated puts c rows (All-tail (λ r. eval c r ≡ false) row rows all))

-- ---- rows of one key

-- a row of this key, with this many values
pub record IsOfKey (keys : List ℕ) (width : ℕ) (key : List Value) (row : Row) : Type 0 where
  pub even : length row ≡ width
  pub same : key_of keys row ≡ key

module _ (keys : List ℕ) (width : ℕ) (key : List Value) (run : List Row → List Row → Type 0) (rows out : List Row) (some : 0 < length rows)
    (own : All (IsOfKey keys width key) rows) (left : All (IsOfKey keys width key) out) (h : run rows out) where
  abbrev first_row : Row
  first_row = get_or rows 0 []

  -- a condition of the key is true of all of them or of none
  met_alike : (c : Condition Test) → IsOfPlaces keys c → (xs : List Row) → All (IsOfKey keys width key) xs → All (λ row. eval c row ≡ eval c first_row) xs
  met_alike c of xs all = λ k d below.
      let row = get_or xs k d in
      let one = all k d below in
      let first = own 0 [] some in
      eval_same row first_row c (λ j t within. key_alike keys row first_row (one.even ∙ sym first.even) (one.same ∙ sym first.same) (get_or (tests_of c) j t).column (of j t within))

  told : (c : Condition Test) (b : Bool) → eval c first_row ≡ b → (xs : List Row) → All (λ row. eval c row ≡ eval c first_row) xs → All (λ row. eval c row ≡ b) xs
  told c b is xs all = λ k d below. all k d below ∙ is

  more_rows : (puts : List Assignment) → 0 < length (map (updated puts) rows)
  more_rows puts = omega (arith, length-map rows (updated puts), some)

  module _ (protected : ℕ → Bool) (updates : (puts : List Assignment) → All (IsFree protected) puts → run (map (updated puts) rows) (map (updated puts) out)) where
    -- what a change that is let pass makes of rows of one key and of what is left of them
    pub let_stays : (c : Change) → IsLet protected keys c → StaysLeft run c rows out
    let_stays (change.Delete c) of = by (eval c first_row) refl
      where
        by : (b : Bool) → eval c first_row ≡ b → StaysLeft run (change.Delete c) rows out
        by true is = inr (all_deleted c rows (told c true is rows (met_alike c of rows own)), all_deleted c out (told c true is out (met_alike c of out left)))
        by false is =
            let before = none_deleted c rows (told c false is rows (met_alike c of rows own)) in
            let after = none_deleted c out (told c false is out (met_alike c of out left)) in
            inl (subst (λ (xs : List Row). 0 < length xs) (sym before) some, subst (λ (xs : List Row). run xs (filter (λ row. not (eval c row)) out)) (sym before) (subst (λ (ys : List Row). run rows ys) (sym after) h))
    let_stays (change.Update puts c) (free, of) = by (eval c first_row) refl
      where
        now : List Row → List Row
        now xs = map (λ row. cond (eval c row) (updated puts row) row) xs

        by : (b : Bool) → eval c first_row ≡ b → StaysLeft run (change.Update puts c) rows out
        by true is =
            let before = all_updated puts c rows (told c true is rows (met_alike c of rows own)) in
            let after = all_updated puts c out (told c true is out (met_alike c of out left)) in
            inl (subst (λ (xs : List Row). 0 < length xs) (sym before) (more_rows puts), subst (λ (xs : List Row). run xs (now out)) (sym before) (subst (λ (ys : List Row). run (map (updated puts) rows) ys) (sym after) (updates puts free)))
        by false is =
            let before = none_updated puts c rows (told c false is rows (met_alike c of rows own)) in
            let after = none_updated puts c out (told c false is out (met_alike c of out left)) in
            inl (subst (λ (xs : List Row). 0 < length xs) (sym before) some, subst (λ (xs : List Row). run xs (now out)) (sym before) (subst (λ (ys : List Row). run rows ys) (sym after) h))

-- ---- lists of rows that were changed one by one

module _ (u : Row → Row) where
  pub all_mapped : (P Q : Row → Type 0) → ((row : Row) → P row → Q (u row)) → (rows : List Row) → All P rows → All Q (map u rows)
  all_mapped P Q f [] all = All-nil Q
  all_mapped P Q f (row ∷ rows) all = All-cons Q (u row) (map u rows) (f row (All-head P row rows all)) (all_mapped P Q f rows (All-tail P row rows all))

  pub filter_mapped : (p : Row → Bool) → ((row : Row) → p (u row) ≡ p row) → (rows : List Row) → filter p (map u rows) ≡ map u (filter p rows)
  filter_mapped p kept [] = refl
  filter_mapped p kept (row ∷ rows) = ap₂ (λ b zs. cond b (u row ∷ zs) zs) (kept row) (filter_mapped p kept rows) ∙ by (p row)
    where
      by : (b : Bool) → cond b (u row ∷ map u (filter p rows)) (map u (filter p rows)) ≡ map u (cond b (row ∷ filter p rows) (filter p rows))
      by true = refl
      by false = refl

  any_mapped : (p : Row → Bool) → ((row : Row) → p (u row) ≡ p row) → (rows : List Row) → list_any p (map u rows) ≡ list_any p rows
  any_mapped p kept [] = refl
  any_mapped p kept (row ∷ rows) = ap₂ (λ b c. b || c) (kept row) (any_mapped p kept rows)

  last_mapped : (rows : List Row) → last_of (map u rows) ≡ map u (last_of rows)
  last_mapped [] = refl
  last_mapped (row ∷ []) = refl
  last_mapped (row ∷ next ∷ rows) = last_mapped (next ∷ rows)

  first_mapped : (rows : List Row) → first_of (map u rows) ≡ map u (first_of rows)
  first_mapped [] = refl
  first_mapped (row ∷ rows) = refl

  sub_mapped : (out rows : List Row) → IsSublist out rows → IsSublist (map u out) (map u rows)
  sub_mapped out [] h = ap (map u) h
  sub_mapped out (row ∷ rows) (inl h) = inl (sub_mapped out rows h)
  sub_mapped out (row ∷ rows) (inr (rest, is, h)) = inr (map u rest, ap (map u) is, sub_mapped rest rows h)

  column_mapped : (place : ℕ) → ((row : Row) → slice_get (u row) place ≡ slice_get row place) → (rows : List Row) → column_of place (map u rows) ≡ column_of place rows
  column_mapped place kept [] = refl
  column_mapped place kept (row ∷ rows) = ap₂ cons_option (kept row) (column_mapped place kept rows)

  left_mapped : (ends : Bool) (states cancels : List Row) → left_of_signs ends (map u states) (map u cancels) ≡ map u (left_of_signs ends states cancels)
  left_mapped ends states cancels =
      ap₂ (λ m n. cond (nat_lt m n) (last_of (map u states)) (cond (nat_lt n m) (first_of (map u cancels)) (cond ends (first_of (map u cancels) ++ last_of (map u states)) [])))
      (length-map cancels u) (length-map states u)
      ∙ by (nat_lt (length cancels) (length states)) (nat_lt (length states) (length cancels)) ends
    where
      by : (b c e : Bool) → cond b (last_of (map u states)) (cond c (first_of (map u cancels)) (cond e (first_of (map u cancels) ++ last_of (map u states)) []))
          ≡ map u (cond b (last_of states) (cond c (first_of cancels) (cond e (first_of cancels ++ last_of states) [])))
      by true c e = last_mapped states
      by false true e = first_mapped cancels
      by false false true = ap₂ (λ xs ys. xs ++ ys) (first_mapped cancels) (last_mapped states) ∙ sym (map-append u (first_of cancels) (last_of states))
      by false false false = refl

-- ---- the rules

never : {P : Type 0} → true ≡ false → P
never e = absurd (clash e)
  where
    clash : true ≡ false → ⊥
    clash e = cc

module _ (protected : ℕ → Bool) (puts : List Assignment) (free : All (IsFree protected) puts) where
  abbrev u : Row → Row
  u = updated puts

  kept_at : (place : ℕ) → protected place ≡ true → (row : Row) → slice_get (u row) place ≡ slice_get row place
  kept_at place held row = updated_kept protected puts row place (assign_free protected puts free) held

  last_changed : (rows out : List Row) → LeavesLast rows out → LeavesLast (map u rows) (map u out)
  last_changed rows out h = record {
    earlier = map u h.earlier;
    last = u h.last;
    rows_are = ap (map u) h.rows_are ∙ map-append u h.earlier (h.last ∷ []);
    out_is = ap (map u) h.out_is;
  }

  newest_changed : (version : ℕ) → protected version ≡ true → (rows out : List Row) → LeavesNewest version rows out → LeavesNewest version (map u rows) (map u out)
  newest_changed version held rows out h = record {
    earlier = map u h.earlier;
    newest = u h.newest;
    later = map u h.later;
    rows_are = ap (map u) h.rows_are ∙ map-append u h.earlier (h.newest ∷ h.later);
    none_above = all_mapped u (λ row. version_at version row ≤ version_at version h.newest) (λ row. version_at version row ≤ version_at version (u h.newest))
        (λ row le. omega (arith, le, number row, number h.newest)) h.earlier h.none_above;
    all_below = all_mapped u (λ row. version_at version row < version_at version h.newest) (λ row. version_at version row < version_at version (u h.newest))
        (λ row lt. omega (arith, lt, number row, number h.newest)) h.later h.all_below;
    out_is = ap (map u) h.out_is;
  }
    where
      number : (row : Row) → version_at version (u row) ≡ version_at version row
      number row = ap number_at (kept_at version held row)

  module _ (sign : ℕ) (held : protected sign ≡ true) where
    state_kept : (row : Row) → is_state sign (u row) ≡ is_state sign row
    state_kept row = ap (is_sign (pos 1)) (kept_at sign held row)

    cancel_kept : (row : Row) → is_cancel sign (u row) ≡ is_cancel sign row
    cancel_kept row = ap (is_sign (negsuc 0)) (kept_at sign held row)

    collapsed_changed : (rows : List Row) → collapsed sign (map u rows) ≡ map u (collapsed sign rows)
    collapsed_changed rows =
        ap₂ (λ xs ys. left_of_signs (ends_with_state sign (map u rows)) xs ys) (filter_mapped u (is_state sign) state_kept rows) (filter_mapped u (is_cancel sign) cancel_kept rows)
        ∙ (ap (λ b. left_of_signs b (map u (filter (is_state sign) rows)) (map u (filter (is_cancel sign) rows)))
        (ap (list_any (is_state sign)) (last_mapped u rows) ∙ any_mapped u (is_state sign) state_kept (last_of rows))
        ∙ left_mapped u (ends_with_state sign rows) (filter (is_state sign) rows) (filter (is_cancel sign) rows))

    one_sign_changed : (rows out : List Row) → LeavesOneSign sign rows out → LeavesOneSign sign (map u rows) (map u out)
    one_sign_changed rows out h = record {
      some = sub_mapped u out rows h.some;
      alike = by h.alike;
      sum = ap total (column_mapped u sign (kept_at sign held) out) ∙ (h.sum ∙ ap total (sym (column_mapped u sign (kept_at sign held) rows)));
    }
      where
        by : All (λ row. is_state sign row ≡ true) out ⊎ All (λ row. is_cancel sign row ≡ true) out → All (λ row. is_state sign row ≡ true) (map u out) ⊎ All (λ row. is_cancel sign row ≡ true) (map u out)
        by (inl all) = inl (all_mapped u (λ row. is_state sign row ≡ true) (λ row. is_state sign row ≡ true) (λ row is. state_kept row ∙ is) out all)
        by (inr all) = inr (all_mapped u (λ row. is_cancel sign row ≡ true) (λ row. is_cancel sign row ≡ true) (λ row is. cancel_kept row ∙ is) out all)

  -- ---- sums

  module _ (places : List ℕ) (held : (place : ℕ) → is_one_of places place ≡ true → protected place ≡ true) where
    not_summed : (place : ℕ) → protected place ≡ false → is_one_of places place ≡ false
    not_summed place loose = by (is_one_of places place) refl
      where
        by : (b : Bool) → is_one_of places place ≡ b → b ≡ false
        by true is = never (sym (held place is) ∙ loose)
        by false is = refl

    sums_set : (k : ℕ) (rows : List Row) (row : Row) (i : ℕ) (v : Value) → is_one_of places (k + i) ≡ false → with_sums_from k places rows (set row i v) ≡ set (with_sums_from k places rows row) i v
    sums_set k rows [] i v none = refl
    sums_set k rows (x ∷ row) zero v none =
        let here : k + 0 ≡ k = omega arith in
        ap (λ b. summed b v (column_of k rows) ∷ with_sums_from (k + 1) places rows row) (sym (ap (is_one_of places) here) ∙ none)
    sums_set k rows (x ∷ row) (suc i) v none =
        let there : k + suc i ≡ k + 1 + i = omega arith in
        ap (λ ws. summed (is_one_of places k) x (column_of k rows) ∷ ws) (sums_set (k + 1) rows row i v (sym (ap (is_one_of places) there) ∙ none))

    sums_put : (rows : List Row) (row : Row) (i : ℕ) (o : Option Value) → is_one_of places i ≡ false → with_sums places rows (with_value row i o) ≡ with_value (with_sums places rows row) i o
    sums_put rows row i None none = refl
    sums_put rows row i (Some v) none =
        let same : 0 + i ≡ i = omega arith in
        sums_set 0 rows row i v (ap (is_one_of places) same ∙ none)

    sums_agree : (rows : List Row) (row : Row) → Agree protected (with_sums places rows row) row
    sums_agree rows row = λ place loose. sums_apart places rows row place (not_summed place loose)

    sums_to : (rows : List Row) (row new : Row) (bs : List Assignment) → All (IsFree protected) bs → assigned_to (with_sums places rows row) (with_sums places rows new) bs ≡ with_sums places rows (assigned_to row new bs)
    sums_to rows row new [] all = refl
    sums_to rows row new (b ∷ bs) all =
        let own = All-head (IsFree protected) b bs all in
        let stepped : with_value (with_sums places rows new) b.column (value_for (with_sums places rows row) b.value) ≡ with_sums places rows (with_value new b.column (value_for row b.value)) =
        ap (with_value (with_sums places rows new) b.column) (reads_same protected (with_sums places rows row) row b.value (sums_agree rows row) own.reads)
        ∙ sym (sums_put rows new b.column (value_for row b.value) (not_summed b.column own.free)) in
        ap (λ (n : Row). assigned_to (with_sums places rows row) n bs) stepped ∙ sums_to rows row (with_value new b.column (value_for row b.value)) bs (All-tail (IsFree protected) b bs all)

    -- assignments commute with the sums of rows in a row
    sums_changed : (rows : List Row) (row : Row) → with_sums places (map u rows) (u row) ≡ u (with_sums places rows row)
    sums_changed rows row =
        sums_alike places 0 (map u rows) rows (u row) (λ i at v is found one. ap (λ c. wrapped_as v (total c)) (column_mapped u at (kept_at at (held at one)) rows))
        ∙ sym (sums_to rows row row puts free)

    zero_same : (ps : List ℕ) → All (λ p. protected p ≡ true) ps → (row : Row)
        → list_all (λ place. int_eq (total (column_of place (u row ∷ []))) (pos 0)) ps ≡ list_all (λ place. int_eq (total (column_of place (row ∷ []))) (pos 0)) ps
    zero_same [] all row = refl
    zero_same (p ∷ ps) all row =
        ap₂ (λ b c. b && c) (ap (λ o. int_eq (total (cons_option o [])) (pos 0)) (kept_at p (All-head (λ q. protected q ≡ true) p ps all) row))
        (zero_same ps (All-tail (λ q. protected q ≡ true) p ps all) row)

    all_held : All (λ p. protected p ≡ true) places
    all_held = λ k d below. held (get_or places k d) (list_any_at (nat_eq (get_or places k d)) places k d below (eq-eqb (get_or places k d) (get_or places k d) refl))

    sum_changed : (rows out : List Row) → LeavesSums places rows out → LeavesSums places (map u rows) (map u out)
    sum_changed rows out h = record {
      earlier = map u h.earlier;
      carried = u h.carried;
      later = map u h.later;
      rows_are = ap (map u) h.rows_are ∙ map-append u h.earlier (h.carried ∷ h.later);
      out_is = ap (map u) h.out_is ∙ (by (are_zero places sums) ∙ ap₂ (λ b (r : Row). cond b [] (r ∷ [])) (sym zeros) (sym (sums_changed rows h.carried)));
    }
      where
        sums : Row
        sums = with_sums places rows h.carried

        zeros : are_zero places (with_sums places (map u rows) (u h.carried)) ≡ are_zero places sums
        zeros = ap (are_zero places) (sums_changed rows h.carried) ∙ zero_same places all_held sums

        by : (b : Bool) → map u (cond b [] (sums ∷ [])) ≡ cond b [] (u sums ∷ [])
        by true = refl
        by false = refl

  -- ---- aggregates

  module _ (types : List ColType) (functions : List (Option Aggregate)) (even : length functions ≡ length types)
      (held : (place : ℕ) (f : Aggregate) → slice_get functions place ≡ Some (Some f) → protected place ≡ true)
      (loose : (place : ℕ) → slice_get functions place ≡ Some None → protected place ≡ false) where
    aggregate_changed : (first : Row) (rows out : List Row) → types_of first ≡ types → LeavesAggregates functions (first ∷ rows) out → LeavesAggregates functions (u first ∷ map u rows) (map u out)
    aggregate_changed first rows out typed h = record {
      row = u h.row;
      aggregates = aggregates_at_all functions (u first ∷ map u rows) (u h.row) (updated_length puts h.row ∙ wide) (λ k below. by k below (get_or functions k None) refl);
      out_is = ap (map u) h.out_is;
    }
      where
        wide : length h.row ≡ length functions
        wide = aggregates_length 0 functions (first ∷ rows) h.row h.aggregates

        first_wide : length first ≡ length functions
        first_wide = omega (arith, length-map first type_of, ap length typed, even)

        some_at : (fs : List (Option Aggregate)) (k : ℕ) → k < length fs → slice_get fs k ≡ Some (get_or fs k None)
        some_at [] k below = absurd (omega arith)
        some_at (f ∷ fs) zero below = refl
        some_at (f ∷ fs) (suc k) below = some_at fs k (omega arith)

        past : {X : Type 0} (xs : List X) (k : ℕ) → length xs ≤ k → slice_get xs k ≡ None
        past [] k le = refl
        past (x ∷ xs) zero le = absurd (omega (arith, le))
        past (x ∷ xs) (suc k) le = past xs k (omega (arith, le))

        ends : {X : Type 0} (xs : List X) (k : ℕ) → slice_get xs k ≡ None → length xs ≤ k
        ends [] k none = omega arith
        ends (x ∷ xs) zero none = cc
        ends (x ∷ xs) (suc k) none = let rest = ends xs k none in omega (arith, rest)

        agree : Agree protected h.row first
        agree = λ place free. here place free (slice_get functions place) refl
          where
            here : (place : ℕ) → protected place ≡ false → (o : Option (Option Aggregate)) → slice_get functions place ≡ o → slice_get h.row place ≡ slice_get first place
            here place free None none =
                let beyond = ends functions place none in
                past h.row place (omega (arith, wide, beyond)) ∙ sym (past first place (omega (arith, first_wide, beyond)))
            here place free (Some None) is = first_kept types functions even first typed rows h.row h.aggregates place is
            here place free (Some (Some f)) is = never (sym (held place f is) ∙ free)

        after : Agree protected (u h.row) (u first)
        after = updated_agree protected puts h.row first free (wide ∙ sym first_wide) agree

        get_of : (xs : Row) (k : ℕ) → get_or xs k no_value ≡ unwrap_or (slice_get xs k) no_value
        get_of [] k = refl
        get_of (x ∷ xs) zero = refl
        get_of (x ∷ xs) (suc k) = get_of xs k

        get_same : (xs ys : Row) (k : ℕ) → slice_get xs k ≡ slice_get ys k → get_or xs k no_value ≡ get_or ys k no_value
        get_same xs ys k same = get_of xs k ∙ (ap (λ o. unwrap_or o no_value) same ∙ sym (get_of ys k))

        by : (k : ℕ) → k < length functions → (f : Option Aggregate) → get_or functions k None ≡ f
            → IsAggregateOf (function_at functions k) (column_of k (u first ∷ map u rows)) (get_or (u h.row) k no_value)
        by k below None is =
            let there : slice_get functions k ≡ Some None = some_at functions k below ∙ ap Some is in
            let value : get_or (u h.row) k no_value ≡ get_or (u first) k no_value = get_same (u h.row) (u first) k (after k (loose k there)) in
            let in_first : k < length (u first) = omega (arith, updated_length puts first, first_wide, below) in
            let first_of_column : column_of k (u first ∷ map u rows) ≡ get_or (u first) k no_value ∷ column_of k (map u rows) = column_of_one k (u first) (map u rows) in_first in
            let any : IsAggregateOf aggregate.Any (column_of k (u first ∷ map u rows)) (get_or (u h.row) k no_value) =
            (column_of k (map u rows), first_of_column ∙ ap (λ v. v ∷ column_of k (map u rows)) (sym value)) in
            subst (λ (o : Option Aggregate). IsAggregateOf (function_or_first o) (column_of k (u first ∷ map u rows)) (get_or (u h.row) k no_value)) (sym is) any
        by k below (Some f) is =
            let there : slice_get functions k ≡ Some (Some f) = some_at functions k below ∙ ap Some is in
            let keep = kept_at k (held k f there) in
            subst (λ (c : List Value). IsAggregateOf (function_at functions k) c (get_or (u h.row) k no_value)) (sym (column_mapped u k keep (first ∷ rows)))
            (subst (λ v. IsAggregateOf (function_at functions k) (column_of k (first ∷ rows)) v) (sym (get_same (u h.row) h.row k (keep h.row))) (aggregate_at functions (first ∷ rows) h.row h.aggregates k below))

-- ---- all engines

or_left : (a b : Bool) → a ≡ true → (a || b) ≡ true
or_left a b e = ap (λ c. c || b) e

or_right : (a b : Bool) → b ≡ true → (a || b) ≡ true
or_right true b e = refl
or_right false b e = e

module _ (functions : List (Option Aggregate)) (puts : List Assignment) where
  pub replacing_updated : (version : Option ℕ) → All (IsFree (protects (engine.Replacing version) functions)) puts → (rows out : List Row)
      → Run (engine.Replacing version) functions rows out → Run (engine.Replacing version) functions (map (updated puts) rows) (map (updated puts) out)
  replacing_updated None free rows out h = last_changed (protects (engine.Replacing None) functions) puts free rows out h
  replacing_updated (Some version) free rows out h =
      newest_changed (protects (engine.Replacing (Some version)) functions) puts free version
      (ap (λ b. b || false || false || is_folded (slice_get functions version)) (eq-eqb version version refl)) rows out h

  pub summing_updated : (places : List ℕ) → All (IsFree (protects (engine.Summing places) functions)) puts → (rows out : List Row)
      → Run (engine.Summing places) functions rows out → Run (engine.Summing places) functions (map (updated puts) rows) (map (updated puts) out)
  summing_updated places free rows out h =
      sum_changed (protects (engine.Summing places) functions) puts free places
      (λ place one. or_left (is_one_of places place) (is_folded (slice_get functions place)) one) rows out h

  pub collapsing_updated : (sign : ℕ) → All (IsFree (protects (engine.Collapsing sign) functions)) puts → (rows out : List Row)
      → Run (engine.Collapsing sign) functions rows out → Run (engine.Collapsing sign) functions (map (updated puts) rows) (map (updated puts) out)
  collapsing_updated sign free rows out h =
      ap (map (updated puts)) h
      ∙ sym (collapsed_changed (protects (engine.Collapsing sign) functions) puts free sign (ap (λ b. b || false || is_folded (slice_get functions sign)) (eq-eqb sign sign refl)) rows)

  pub versioned_updated : (sign version : ℕ) → All (IsFree (protects (engine.Versioned sign version) functions)) puts → (rows out : List Row)
      → Run (engine.Versioned sign version) functions rows out → Run (engine.Versioned sign version) functions (map (updated puts) rows) (map (updated puts) out)
  versioned_updated sign version free rows out h =
      one_sign_changed (protects (engine.Versioned sign version) functions) puts free sign
      (ap (λ b. b || false || is_folded (slice_get functions sign)) (or_right (nat_eq version sign) (nat_eq sign sign) (eq-eqb sign sign refl))) rows out h

  pub aggregating_updated : (types : List ColType) → length functions ≡ length types → All (IsFree (protects engine.Aggregating functions)) puts → (rows out : List Row) → 0 < length rows
      → All (λ row. types_of row ≡ types) rows → Run engine.Aggregating functions rows out → Run engine.Aggregating functions (map (updated puts) rows) (map (updated puts) out)
  aggregating_updated types even free [] out some typed h = absurd (omega (arith, some))
  aggregating_updated types even free (first ∷ rows) out some typed h =
      aggregate_changed (protects engine.Aggregating functions) puts free types functions even
      (λ place f is. ap is_folded is) (λ place is. ap is_folded is)
      first rows out (All-head (λ row. types_of row ≡ types) first rows typed) h

module _ (functions : List (Option Aggregate)) (types : List ColType) (even : length functions ≡ length types) where
  -- assignments that assign and read no protected column take what a rule leaves of rows to what it leaves of the rows after them
  pub run_updated : (e : Engine) (rows out : List Row) (puts : List Assignment) → 0 < length rows → All (λ row. types_of row ≡ types) rows → All (IsFree (protects e functions)) puts
      → Run e functions rows out → Run e functions (map (updated puts) rows) (map (updated puts) out)
  run_updated engine.Plain rows out puts some typed free h = ap (map (updated puts)) h
  run_updated (engine.Replacing None) rows out puts some typed free h = replacing_updated functions puts None free rows out h
  run_updated (engine.Replacing (Some version)) rows out puts some typed free h = replacing_updated functions puts (Some version) free rows out h
  run_updated (engine.Summing places) rows out puts some typed free h = summing_updated functions puts places free rows out h
  run_updated (engine.Collapsing sign) rows out puts some typed free h = collapsing_updated functions puts sign free rows out h
  run_updated (engine.Versioned sign version) rows out puts some typed free h = versioned_updated functions puts sign version free rows out h
  run_updated engine.Aggregating rows out puts some typed free h = aggregating_updated functions puts types even free rows out some typed h

  -- what a change that is let pass makes of rows of one key, and of what a rule leaves of them
  pub run_let : (e : Engine) (keys : List ℕ) (key : List Value) (c : Change) (rows out : List Row) → IsLet (protects e functions) keys c → 0 < length rows → All (λ row. types_of row ≡ types) rows
      → All (IsOfKey keys (length types) key) rows → All (IsOfKey keys (length types) key) out → Run e functions rows out → StaysLeft (Run e functions) c rows out
  run_let e keys key c rows out lets some typed keyed left h =
      let_stays keys (length types) key (Run e functions) rows out some keyed left h (protects e functions) (λ puts free. run_updated e rows out puts some typed free h) c lets

-- MergeTree leaves all rows, so each change does
pub plain_let : (functions : List (Option Aggregate)) (c : Change) (rows out : List Row) → Run engine.Plain functions rows out → StaysLeft (Run engine.Plain functions) c rows out
plain_let functions c rows out h = by (changed c rows) refl
  where
    by : (xs : List Row) → changed c rows ≡ xs → StaysLeft (Run engine.Plain functions) c rows out
    by [] none = inr (none, ap (changed c) h ∙ none)
    by (x ∷ xs) is =
        let some : 0 < length (x ∷ xs) = omega arith in
        inl (subst (λ (zs : List Row). 0 < length zs) (sym is) some, ap (changed c) h)
