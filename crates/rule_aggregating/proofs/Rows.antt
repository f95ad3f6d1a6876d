-- Rows after one row more.
use Rattle.std.proofs.Common.{◌≡◌, ◌≢◌, ◌⊎◌, ℕ, ◌+◌, ◌<◌, ◌≤◌, List, [], ◌∷◌, ◌++◌, Option, length, get_or, set, take, take_all, drop, append-nil, OnOk, Result, Ok, Err, slice_get, refl, sym, ap, ◌∙◌, subst, subst₂, inl, inr, arith}
use Rattle.std.proofs.lemmas.List.{drop_all, get_or-map, get_or-set_other, length-map, length-set}
use Rattle.std.proofs.lemmas.List.Elements.{filter_map-append}
use Rattle.std.proofs.lemmas.Bool.{cases_lt}
use Rattle.std.specs.List.{All}
use Rattle.mt_values.specs.declared.engine.Aggregate.{Aggregate}
use Rattle.mt_values.specs.declared.value.ColType.{ColType}
use Rattle.mt_values.specs.declared.value.ColType.TheVariants as type
use Rattle.mt_values.specs.declared.value.Value.{Value}
use Rattle.mt_values.specs.Grid.{column_of}
use Rattle.mt_values.specs.Values.{FitsType, Row, type_of, types_of}
use Rattle.rule_law.specs.mt_model.Rules.{AreAggregatesFrom, IsAggregateOf}
use Rattle.rule_aggregating.specs.Folded.{FoldsAt, FoldsIn, any_value}
use Rattle.rule_aggregating.proofs.OneMore.{one_value}
use Rattle.rule_law.proofs.Aggregated.{TakesRow, aggregate_at, aggregates_at_all, aggregates_length, column_of_one, column_typed, function_at, taken_types}

-- ---- the first row

has_columns : (types : List ColType) (functions : List (Option Aggregate)) (row : Row) → TakesRow types functions row → length row ≡ length functions
has_columns types functions row own = omega (arith, length-map row type_of, ap length own.0, own.1)

pub first_row : (types : List ColType) (functions : List (Option Aggregate)) (row kept : Row) → kept ≡ row → All FitsType row → TakesRow types functions row → AreAggregatesFrom 0 functions (row ∷ []) kept
first_row types functions row kept same fits own = subst (AreAggregatesFrom 0 functions (row ∷ [])) (sym same) (aggregates_at_all functions (row ∷ []) row (has_columns types functions row own) each)
  where
    each : (place : ℕ) → place < length functions → IsAggregateOf (function_at functions place) (column_of place (row ∷ [])) (get_or row place any_value)
    each place below =
        let within : place < length row = omega (arith, has_columns types functions row own) in
        subst (λ values. IsAggregateOf (function_at functions place) values (get_or row place any_value)) (sym (column_of_one place row [] within))
        (one_value (function_at functions place) (get_or row place any_value) (fits place any_value within))

-- ---- one row more, place by place

-- the values before a place are folded, the others are as they were
pub record IsFoldedBefore (functions : List (Option Aggregate)) (kept row after : Row) (place : ℕ) : Type 0 where
  pub count : length after ≡ length kept
  pub done : (k : ℕ) → k < place → FoldsAt functions kept row after k
  pub others : (k : ℕ) → place ≤ k → get_or after k any_value ≡ get_or kept k any_value

pub none_folded : (functions : List (Option Aggregate)) (kept row : Row) → IsFoldedBefore functions kept row kept 0
none_folded functions kept row = record { count = refl; done = λ k below. absurd (omega arith); others = λ k from. refl }

pub more_folded : (functions : List (Option Aggregate)) (kept row before after : Row) (place : ℕ) → IsFoldedBefore functions kept row before place
    → FoldsAt functions before row after place → after ≡ set before place (get_or after place any_value) → IsFoldedBefore functions kept row after (place + 1)
more_folded functions kept row before after place h here is = record {
  count = ap length is ∙ length-set before place (get_or after place any_value) ∙ h.count;
  done = λ k below. done k (cases k below);
  others = λ k from. apart k (omega arith) ∙ h.others k (omega arith);
}
  where
    apart : (k : ℕ) → k ≢ place → get_or after k any_value ≡ get_or before k any_value
    apart k other = ap (λ (r : Row). get_or r k any_value) is ∙ get_or-set_other before place k (get_or after place any_value) any_value other

    cases : (k : ℕ) → k < place + 1 → (k < place) ⊎ (k ≡ place)
    cases k below = by (cases_lt k place)
      where
        by : (k < place) ⊎ (place ≤ k) → (k < place) ⊎ (k ≡ place)
        by (inl l) = inl l
        by (inr from) = inr (omega arith)

    done : (k : ℕ) → (k < place) ⊎ (k ≡ place) → FoldsAt functions kept row after k
    done k (inl l) = subst (λ (v : Value). k < length functions → k < length row → FoldsIn (function_at functions k) (get_or kept k any_value) (get_or row k any_value) v) (sym (apart k (omega arith))) (h.done k l)
    done k (inr e) =
        subst (FoldsAt functions kept row after) (sym e)
        (subst (λ (v : Value). place < length functions → place < length row → FoldsIn (function_at functions place) v (get_or row place any_value) (get_or after place any_value)) (h.others place (omega arith)) here)

-- a row of a table has values of the types of the columns
value_typed : (types : List ColType) (row : Row) (place : ℕ) → types_of row ≡ types → place < length row → type_of (get_or row place any_value) ≡ get_or types place type.UInt8
value_typed types row place own within = sym (get_or-map type_of row place any_value type.UInt8 within) ∙ ap (λ ts. get_or ts place type.UInt8) own

pub row_more : (types : List ColType) (functions : List (Option Aggregate)) (rows : List Row) (kept row after : Row) → All (TakesRow types functions) rows → TakesRow types functions row
    → length after ≡ length kept → ((place : ℕ) → place < length kept → FoldsAt functions kept row after place) → AreAggregatesFrom 0 functions rows kept → AreAggregatesFrom 0 functions (rows ++ row ∷ []) after
row_more types functions rows kept row after taken own count folds h = aggregates_at_all functions (rows ++ row ∷ []) after (count ∙ aggregates_length 0 functions rows kept h) each
  where
    within : (place : ℕ) → place < length functions → place < length row
    within place below = omega (arith, has_columns types functions row own)

    column : (place : ℕ) → place < length functions → column_of place (rows ++ row ∷ []) ≡ column_of place rows ++ get_or row place any_value ∷ []
    column place below = filter_map-append (λ r. slice_get r place) rows (row ∷ []) ∙ ap (λ zs. column_of place rows ++ zs) (column_of_one place row [] (within place below))

    typed : (place : ℕ) → place < length functions → All (λ v. type_of v ≡ type_of (get_or row place any_value)) (column_of place rows)
    typed place below =
        subst (λ t. All (λ v. type_of v ≡ t) (column_of place rows)) (sym (value_typed types row place own.0 (within place below))) (column_typed types place rows (taken_types types functions rows taken))

    each : (place : ℕ) → place < length functions → IsAggregateOf (function_at functions place) (column_of place (rows ++ row ∷ [])) (get_or after place any_value)
    each place below =
        subst (λ values. IsAggregateOf (function_at functions place) values (get_or after place any_value)) (sym (column place below))
        (folds place (omega (arith, aggregates_length 0 functions rows kept h)) below (within place below) (column_of place rows) (typed place below) (aggregate_at functions rows kept h place below))

-- what is written back to a vector through a slice of it
written : (n : ℕ) (values after : Row) → n ≡ length values → length after ≡ length values → take n (after ++ drop (length after) values) ≡ after
written n values after count same =
    ap (λ zs. take n (after ++ zs)) (drop_all (length after) values (omega arith)) ∙ ap (take n) (append-nil after) ∙ take_all n after (omega arith)

both_on : {E P Q R : Type 0} (result : Result (Unit {0}) E) → OnOk result P → OnOk result Q → (P → Q → R) → OnOk result R
both_on (Ok u) p q f = f p q
both_on (Err e) p q f = tt

pub row_written : {E : Type 0} (result : Result (Unit {0}) E) (types : List ColType) (functions read : List (Option Aggregate)) (n : ℕ) (kept before row after : Row) → n ≡ length kept → read ≡ functions → before ≡ kept
    → OnOk result (length after ≡ length before) → OnOk result ((place : ℕ) → place < length before → FoldsAt read before row after place)
    → OnOk result ((rows : List Row) → All (TakesRow types functions) rows → TakesRow types functions row → AreAggregatesFrom 0 functions rows kept
    → AreAggregatesFrom 0 functions (rows ++ row ∷ []) (take n (after ++ drop (length after) kept)))
row_written result types functions read n kept before row after len same_functions same_kept count folds = both_on result count folds
    (λ same each rows taken own h.
    let even : length after ≡ length kept = same ∙ ap length same_kept in
    subst (AreAggregatesFrom 0 functions (rows ++ row ∷ [])) (sym (written n kept after len even))
    (row_more types functions rows kept row after taken own even
    (subst₂ (λ (fs : List (Option Aggregate)) (ks : Row). (place : ℕ) → place < length ks → FoldsAt fs ks row after place) same_functions same_kept each) h))
