-- Where FINAL may leave several things of a key: what they have in common.
use Rattle.std.proofs.Common.{◌≡◌, ◌⊎◌, inl, inr, ℕ, ◌≤◌, ℤ, pos, ◌+ℤ◌, Bool, true, false, cond, ◌||◌, ◌&&◌, nat_eq, nat_lt, List, [], ◌∷◌, ◌++◌, All, Option, Some, None, filter, length, length-append, map, negsuc, option_map, slice_get, refl, sym, ap, ap₂, ◌∙◌, subst, arith}
use Rattle.std.specs.List.{Contains, cons_option, list_all}
use Rattle.std.specs.Ordering.{int_eq}
use Rattle.std.proofs.lemmas.Bool.{eq-eqb}
use Rattle.std.proofs.lemmas.Bool.Decides.{Decides-int_eq}
use Rattle.std.proofs.lemmas.List.Elements.{All-cons, All-contains, All-filter, All-head, All-nil, All-same, All-tail, All-weaker}
use Rattle.std.proofs.lemmas.Option.{slice_get-map}
use Rattle.mt_base.specs.declared.partition.Partition.{Partition}
use Rattle.mt_values.specs.declared.engine.Aggregate.{Aggregate}
use Rattle.mt_values.specs.declared.engine.Engine.{Engine}
use Rattle.mt_values.specs.declared.engine.Engine.TheVariants as engine
use Rattle.mt_values.specs.declared.schema.Schema.{Schema}
use Rattle.mt_values.specs.declared.value.ColType.{ColType}
use Rattle.mt_values.specs.declared.value.Value.{Value}
use Rattle.mt_values.specs.declared.value.Value.TheVariants as value
use Rattle.mt_values.specs.Engines.{is_sign}
use Rattle.mt_values.specs.Grid.{column_of}
use Rattle.mt_values.specs.Schemas.{column_types}
use Rattle.mt_values.specs.Values.{Row, type_of, types_of}
use Rattle.row_merge.specs.mt_model.Final.{FoldsAll}
use Rattle.row_merge.specs.mt_model.Folding.{Leaves, LeavesLater}
use Rattle.row_merge.specs.mt_model.Live.{of_key}
use Rattle.row_merge.specs.mt_model.Partial.{functions_of}
use Rattle.row_merge.specs.mt_model.Rules.{Folds, FoldsAs, LeavesOneSign, LeavesSums, Run, alternate, are_zero, collapsed, ends_with_state, first_of, is_cancel, is_one_of, is_state, last_of, summed, total, with_sums, wrapped_as}
use Rattle.row_merge.specs.rule_law.TableRows.{IsTableRow}
use Rattle.row_merge.proofs.RuleLawAlternating.{alternating_left}
use Rattle.row_merge.proofs.RuleLawKept.{collapsing_keeps, versioned_keeps}
use Rattle.row_merge.proofs.RuleLawPartlyRows.{merges_keep}
use Rattle.row_merge.proofs.RuleLawSummed.{sums_at}
use Rattle.mt_values.proofs.Wrapping.{integer_wrapped, number_as}
use Rattle.final_fold.specs.Choices.{signs_of, sums_of}
use Rattle.final_fold.specs.Keys.{is_of_key}
use Rattle.final_fold.proofs.FoldedOnce.{Down, Up, as_many_signs, between, later_of_all, first_of_all}

-- ---- each row of a list is one of it

own_rows : (rows : List Row) → All (Contains rows) rows
own_rows [] = All-nil (Contains [])
own_rows (row ∷ rows) =
    All-cons (Contains (row ∷ rows)) row rows (first_of_all row rows)
    (All-weaker (Contains rows) (Contains (row ∷ rows)) (λ r is. later_of_all row rows r is) rows (own_rows rows))

-- ---- sums

-- what a summed column has, by its type
abbrev sum_as : Option ColType → ℤ → ℤ
sum_as None z = pos 0
sum_as (Some t) z = number_as t z +ℤ pos 0

number_of : (found : Option Value) (z : ℤ) → total (cons_option (option_map (λ v. wrapped_as v z) found) []) ≡ sum_as (option_map type_of found) z
number_of None z = refl
number_of (Some v) z = ap (λ n. n +ℤ pos 0) (integer_wrapped v z)

own_places : (places : List ℕ) → All (λ place. is_one_of places place ≡ true) places
own_places [] = All-nil (λ place. is_one_of [] place ≡ true)
own_places (p ∷ places) =
    All-cons (λ place. is_one_of (p ∷ places) place ≡ true) p places (ap (λ b. b || is_one_of places p) (eq-eqb p p refl))
    (All-weaker (λ place. is_one_of places place ≡ true) (λ place. is_one_of (p ∷ places) place ≡ true) (λ place is. more (nat_eq place p) (is_one_of places place) is) places (own_places places))
  where
    more : (b c : Bool) → c ≡ true → (b || c) ≡ true
    more true c is = refl
    more false c is = is

module _ (places : List ℕ) (types : List ColType) (rows : List Row) where
  sum_at : (r : Row) → types_of r ≡ types → (place : ℕ) → is_one_of places place ≡ true
      → total (column_of place (with_sums places rows r ∷ [])) ≡ sum_as (slice_get types place) (total (column_of place rows))
  sum_at r typed place one =
      let z = total (column_of place rows) in
      let stands : slice_get (with_sums places rows r) place ≡ option_map (λ v. wrapped_as v z) (slice_get r place) =
      sums_at places 0 rows r place place (omega arith) ∙ ap (λ b. option_map (λ v. summed b v (column_of place rows)) (slice_get r place)) one in
      ap (λ o. total (cons_option o [])) stands
      ∙ (number_of (slice_get r place) z ∙ ap (λ o. sum_as o z) (sym (slice_get-map type_of r place) ∙ ap (λ ts. slice_get ts place) typed))

  sums_same : (r s : Row) → types_of r ≡ types → types_of s ≡ types → (ps : List ℕ) → All (λ place. is_one_of places place ≡ true) ps
      → sums_of ps (with_sums places rows r) ≡ sums_of ps (with_sums places rows s)
  sums_same r s one other [] all = refl
  sums_same r s one other (p ∷ ps) all =
      let is : is_one_of places p ≡ true = All-head (λ place. is_one_of places place ≡ true) p ps all in
      ap₂ (λ (z : ℤ) (zs : List ℤ). z ∷ zs) (sum_at r one p is ∙ sym (sum_at s other p is))
      (sums_same r s one other ps (All-tail (λ place. is_one_of places place ≡ true) p ps all))

-- whether all sums are 0 is told by the sums
zero_by_sums : (places : List ℕ) (row : Row) → are_zero places row ≡ list_all (λ z. int_eq z (pos 0)) (sums_of places row)
zero_by_sums [] row = refl
zero_by_sums (p ∷ places) row = ap (λ b. int_eq (total (column_of p (row ∷ []))) (pos 0) && b) (zero_by_sums places row)

left_sums : (places : List ℕ) (types : List ColType) (rows a b : List Row) → All (λ r. types_of r ≡ types) rows → LeavesSums places rows a → LeavesSums places rows b → map (sums_of places) a ≡ map (sums_of places) b
left_sums places types rows a b typed p q =
    ap (map (sums_of places)) p.out_is ∙ (by (are_zero places one) (are_zero places other) zeros ∙ ap (map (sums_of places)) (sym q.out_is))
  where
    one : Row
    one = with_sums places rows p.carried

    other : Row
    other = with_sums places rows q.carried

    typed_at : (earlier : List Row) (row : Row) (later : List Row) → rows ≡ earlier ++ row ∷ later → types_of row ≡ types
    typed_at earlier row later are = All-contains (λ r. types_of r ≡ types) rows row typed (between earlier row later rows are)

    sums : sums_of places one ≡ sums_of places other
    sums = sums_same places types rows p.carried q.carried (typed_at p.earlier p.carried p.later p.rows_are) (typed_at q.earlier q.carried q.later q.rows_are) places (own_places places)

    zeros : are_zero places one ≡ are_zero places other
    zeros = zero_by_sums places one ∙ (ap (list_all (λ z. int_eq z (pos 0))) sums ∙ sym (zero_by_sums places other))

    by : (c d : Bool) → c ≡ d → map (sums_of places) (cond c [] (one ∷ [])) ≡ map (sums_of places) (cond d [] (other ∷ []))
    by true true same = refl
    by true false same = cc
    by false true same = cc
    by false false same = ap (λ (zs : List ℤ). zs ∷ []) sums

folded_sums : (places : List ℕ) (functions : List (Option Aggregate)) (types : List ColType) (rows a b : List Row) → All (λ r. types_of r ≡ types) rows
    → Leaves (Folds (engine.Summing places) functions) rows a → Leaves (Folds (engine.Summing places) functions) rows b → map (sums_of places) a ≡ map (sums_of places) b
folded_sums places functions types [] a b typed p q = ap (map (sums_of places)) (p ∙ sym q)
folded_sums places functions types (row ∷ rows) a b typed p q = left_sums places types (row ∷ rows) a b typed p q

-- ---- signs

module _ (sign : ℕ) where
  sign_of_state : (found : Option Value) → is_sign (pos 1) found ≡ true → found ≡ Some (value.Int8 (pos 1))
  sign_of_state None e = cc
  sign_of_state (Some (value.Int8 z)) e = ap (λ (n : ℤ). Some (value.Int8 n)) ((Decides-int_eq z (pos 1)).0 e)
  sign_of_state (Some (value.UInt8 n)) e = cc
  sign_of_state (Some (value.UInt16 n)) e = cc
  sign_of_state (Some (value.UInt32 n)) e = cc
  sign_of_state (Some (value.UInt64 n)) e = cc
  sign_of_state (Some (value.Int16 z)) e = cc
  sign_of_state (Some (value.Int32 z)) e = cc
  sign_of_state (Some (value.Int64 z)) e = cc
  sign_of_state (Some (value.Text b)) e = cc

  sign_of_cancel : (found : Option Value) → is_sign (negsuc 0) found ≡ true → found ≡ Some (value.Int8 (negsuc 0))
  sign_of_cancel None e = cc
  sign_of_cancel (Some (value.Int8 z)) e = ap (λ (n : ℤ). Some (value.Int8 n)) ((Decides-int_eq z (negsuc 0)).0 e)
  sign_of_cancel (Some (value.UInt8 n)) e = cc
  sign_of_cancel (Some (value.UInt16 n)) e = cc
  sign_of_cancel (Some (value.UInt32 n)) e = cc
  sign_of_cancel (Some (value.UInt64 n)) e = cc
  sign_of_cancel (Some (value.Int16 z)) e = cc
  sign_of_cancel (Some (value.Int32 z)) e = cc
  sign_of_cancel (Some (value.Int64 z)) e = cc
  sign_of_cancel (Some (value.Text b)) e = cc

  one_sign : (v : Option Value) (P : Row → Type 0) → ((r : Row) → P r → slice_get r sign ≡ v) → (a b : List Row) → length a ≡ length b → All P a → All P b → signs_of sign a ≡ signs_of sign b
  one_sign v P is [] [] many p q = refl
  one_sign v P is [] (y ∷ b) many p q = absurd (omega (arith, many))
  one_sign v P is (x ∷ a) [] many p q = absurd (omega (arith, many))
  one_sign v P is (x ∷ a) (y ∷ b) many p q =
      ap₂ (λ (o : Option Value) (os : List (Option Value)). o ∷ os) (is x (All-head P x a p) ∙ sym (is y (All-head P y b q)))
      (one_sign v P is a b (omega (arith, many)) (All-tail P x a p) (All-tail P y b q))

  left_signs : (rows a b : List Row) → LeavesOneSign sign rows a → LeavesOneSign sign rows b → signs_of sign a ≡ signs_of sign b
  left_signs rows a b p q = by both.1
    where
      both : (length a ≡ length b) × ((All (Up sign) a × All (Up sign) b) ⊎ (All (Down sign) a × All (Down sign) b))
      both = as_many_signs sign rows a b p q

      by : (All (Up sign) a × All (Up sign) b) ⊎ (All (Down sign) a × All (Down sign) b) → signs_of sign a ≡ signs_of sign b
      by (inl (up, other)) = one_sign (Some (value.Int8 (pos 1))) (Up sign) (λ r is. sign_of_state (slice_get r sign) is) a b both.0 up other
      by (inr (down, other)) = one_sign (Some (value.Int8 (negsuc 0))) (Down sign) (λ r is. sign_of_cancel (slice_get r sign) is) a b both.0 down other

  folded_signs : (version : ℕ) (functions : List (Option Aggregate)) (rows a b : List Row) → Leaves (Folds (engine.Versioned sign version) functions) rows a → Leaves (Folds (engine.Versioned sign version) functions) rows b → signs_of sign a ≡ signs_of sign b
  folded_signs version functions [] a b p q = ap (signs_of sign) (p ∙ sym q)
  folded_signs version functions (row ∷ rows) a b p q = left_signs (row ∷ rows) a b p q

  versions_live : (version : ℕ) (functions : List (Option Aggregate)) (rows out : List Row) → Leaves (Folds (engine.Versioned sign version) functions) rows out → All (Contains rows) out
  versions_live version functions [] out p = All-same (Contains []) out [] p (All-nil (Contains []))
  versions_live version functions (row ∷ rows) out p = versioned_keeps (Contains (row ∷ rows)) sign version (row ∷ rows) out (own_rows (row ∷ rows)) p

  -- ---- collapsing keys

  few_first : (rows : List Row) → length (first_of rows) ≤ 1
  few_first [] = omega arith
  few_first (row ∷ rows) = omega arith

  few_last : (rows : List Row) → length (last_of rows) ≤ 1
  few_last [] = omega arith
  few_last (row ∷ []) = omega arith
  few_last (row ∷ next ∷ rows) = few_last (next ∷ rows)

  few_by : (less more ended : Bool) (states cancels : List Row) → length (cond less (last_of states) (cond more (first_of cancels) (cond ended (first_of cancels ++ last_of states) []))) ≤ 2
  few_by true more ended states cancels = omega (arith, few_last states)
  few_by false true ended states cancels = omega (arith, few_first cancels)
  few_by false false true states cancels = omega (arith, few_last states, few_first cancels, length-append (first_of cancels) (last_of states))
  few_by false false false states cancels = omega arith

  few_left : (rows out : List Row) → out ≡ collapsed sign rows → length out ≤ 2
  few_left rows out is =
      let states = filter (is_state sign) rows in
      let cancels = filter (is_cancel sign) rows in
      let few : length (collapsed sign rows) ≤ 2 = few_by (nat_lt (length cancels) (length states)) (nat_lt (length states) (length cancels)) (ends_with_state sign rows) states cancels in
      subst (λ (zs : List Row). length zs ≤ 2) (sym is) few

  module _ (functions : List (Option Aggregate)) where
    abbrev run : List Row → List Row → Type 0
    run rows out = Run (engine.Collapsing sign) functions rows out

    left_live : (rows merged out : List Row) → All (Contains rows) merged → Leaves run merged out → (length out ≤ 2) × All (Contains rows) out
    left_live rows [] out all leaves = (omega (arith, ap length leaves), All-same (Contains rows) out [] leaves (All-nil (Contains rows)))
    left_live rows (row ∷ merged) out all leaves = (few_left (row ∷ merged) out leaves, collapsing_keeps (Contains rows) sign (row ∷ merged) out all leaves)

    later_live : (rows out : List Row) → LeavesLater run rows out → (length out ≤ 2) × All (Contains rows) out
    later_live rows out later =
        left_live rows later.merged out (merges_keep (Contains rows) run (λ xs ys some all h. collapsing_keeps (Contains rows) sign xs ys all h) rows later.merged (own_rows rows) later.comes) later.leaves

    folded_live : (rows out : List Row) → Leaves (Folds (engine.Collapsing sign) functions) rows out → (length out ≤ 2) × All (Contains rows) out
    folded_live [] out none = left_live [] [] out (All-nil (Contains [])) none
    folded_live (row ∷ rows) out folds = by (alternate sign (row ∷ rows)) folds
      where
        by : (b : Bool) → FoldsAs b run (row ∷ rows) out → (length out ≤ 2) × All (Contains (row ∷ rows)) out
        by true is = left_live (row ∷ rows) (row ∷ rows) out (own_rows (row ∷ rows)) is
        by false later = later_live (row ∷ rows) out later

    folded_last : (rows out : List Row) → alternate sign rows ≡ true → Leaves (Folds (engine.Collapsing sign) functions) rows out → out ≡ filter (is_state sign) (last_of rows)
    folded_last [] out h none = none
    folded_last (row ∷ rows) out h folds =
        let is : out ≡ collapsed sign (row ∷ rows) = subst (λ (b : Bool). FoldsAs b run (row ∷ rows) out) h folds in
        is ∙ alternating_left sign (row ∷ rows) h

-- ---- tables

module _ (schema : Schema) (live : List Row) (partition : Partition) (row : Row) where
  of_engine : (e : Engine) → schema.engine ≡ e → (out : List Row) → FoldsAll schema live out
      → Leaves (Folds e (functions_of schema)) (of_key schema partition row live) (of_key schema partition row out)
  of_engine e is out folds = subst (λ (k : Engine). Leaves (Folds k (functions_of schema)) (of_key schema partition row live) (of_key schema partition row out)) is (folds partition row)

  pub key_sums : (places : List ℕ) (a b : List Row) → schema.engine ≡ engine.Summing places → All (IsTableRow schema) live → FoldsAll schema live a → FoldsAll schema live b
      → map (sums_of places) (of_key schema partition row a) ≡ map (sums_of places) (of_key schema partition row b)
  key_sums places a b is own p q =
      folded_sums places (functions_of schema) (column_types schema) (of_key schema partition row live) (of_key schema partition row a) (of_key schema partition row b)
      (All-filter (is_of_key schema partition row) (λ r. types_of r ≡ column_types schema) live (All-weaker (IsTableRow schema) (λ r. types_of r ≡ column_types schema) (λ r of. of.typed) live own))
      (of_engine (engine.Summing places) is a p) (of_engine (engine.Summing places) is b q)

  pub key_signs : (sign version : ℕ) (a b : List Row) → schema.engine ≡ engine.Versioned sign version → FoldsAll schema live a → FoldsAll schema live b
      → signs_of sign (of_key schema partition row a) ≡ signs_of sign (of_key schema partition row b)
  key_signs sign version a b is p q =
      folded_signs sign version (functions_of schema) (of_key schema partition row live) (of_key schema partition row a) (of_key schema partition row b)
      (of_engine (engine.Versioned sign version) is a p) (of_engine (engine.Versioned sign version) is b q)

  pub key_versions : (sign version : ℕ) (out : List Row) → schema.engine ≡ engine.Versioned sign version → FoldsAll schema live out
      → All (Contains (of_key schema partition row live)) (of_key schema partition row out)
  key_versions sign version out is p = versions_live sign version (functions_of schema) (of_key schema partition row live) (of_key schema partition row out) (of_engine (engine.Versioned sign version) is out p)

  pub key_collapsing : (sign : ℕ) (out : List Row) → schema.engine ≡ engine.Collapsing sign → FoldsAll schema live out
      → (length (of_key schema partition row out) ≤ 2) × All (Contains (of_key schema partition row live)) (of_key schema partition row out)
  key_collapsing sign out is p = folded_live sign (functions_of schema) (of_key schema partition row live) (of_key schema partition row out) (of_engine (engine.Collapsing sign) is out p)

  pub key_alternating : (sign : ℕ) (out : List Row) → schema.engine ≡ engine.Collapsing sign → alternate sign (of_key schema partition row live) ≡ true → FoldsAll schema live out
      → of_key schema partition row out ≡ filter (is_state sign) (last_of (of_key schema partition row live))
  key_alternating sign out is h p =
      folded_last sign (functions_of schema) (of_key schema partition row live) (of_key schema partition row out) h (of_engine (engine.Collapsing sign) is out p)
