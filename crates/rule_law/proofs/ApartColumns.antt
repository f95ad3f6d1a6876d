-- The rule of a table leaves its sorting columns and its partition column as they are, since the schema breaks no rule.
use Rattle.std.proofs.Common.{◌≡◌, ℕ, zero, suc, ◌+◌, ◌<◌, Bool, true, false, cond, ◌||◌, ◌&&◌, nat_eq, is_some, List, [], ◌∷◌, ◌++◌, length, get_or, slice_get, Option, None, Some, refl, sym, ap, ◌∙◌, arith}
use Rattle.std.specs.List.{All, list_any, position}
use Rattle.std.specs.Option.{option_map}
use Rattle.std.proofs.lemmas.Bool.{eq-eqb}
use Rattle.std.proofs.lemmas.List.Elements.{All-append, All-cons, All-nil}
use Rattle.std.proofs.lemmas.List.Folds.{list_any_at, list_any_none}
use Rattle.std.proofs.lemmas.Option.{same_Some, slice_get-map}
use Rattle.mt_values.specs.declared.engine.Aggregate.{Aggregate}
use Rattle.mt_values.specs.declared.engine.Engine.{Engine}
use Rattle.mt_values.specs.declared.engine.Engine.TheVariants as engine
use Rattle.mt_values.specs.declared.schema.Column.{Column}
use Rattle.mt_values.specs.declared.schema.Schema.{Schema}
use Rattle.mt_values.specs.declared.schema.SchemaFault.{SchemaFault}
use Rattle.mt_values.specs.declared.schema.SchemaFault.TheVariants as fault
use Rattle.mt_values.specs.Engines.{added_version, aggregate_engine_fault, aggregate_key_fault, first_place, has_function, is_at, is_kept_apart, is_misfit, is_not_numeric, is_unsigned, nothing_fault, summed_places, type_fault, version_place}
use Rattle.mt_values.specs.Schemas.{fault_or, function_fault, sign_fault, sum_fault}
use Rattle.mt_values.specs.Tables.{sorting_columns}
use Rattle.mt_values.proofs.RowPartitions.{engine_sound, none_after, none_before}
use Rattle.mt_model.specs.History.{IsTableSchema}
use Rattle.mt_model.specs.Partial.{functions_of}
use Rattle.mt_model.specs.Rules.{is_one_of}
use Rattle.mt_model.proofs.OwnColumns.{partition_own}
use Rattle.rule_law.proofs.TableRows.{IsApart}

-- ---- tests of lists

never : {P : Type 0} → true ≡ false → P
never e = absurd (clash e)
  where
    clash : true ≡ false → ⊥
    clash e = cc

none_any : {X : Type 0} (p : X → Bool) (xs : List X) → list_any p xs ≡ false → All (λ x. p x ≡ false) xs
none_any p [] none = All-nil (λ x. p x ≡ false)
none_any p (x ∷ xs) none = by (p x) refl none (none_any p xs)
  where
    by : (b : Bool) → p x ≡ b → (b || list_any p xs) ≡ false → (list_any p xs ≡ false → All (λ y. p y ≡ false) xs) → All (λ y. p y ≡ false) (x ∷ xs)
    by true e none rest = never none
    by false e none rest = All-cons (λ y. p y ≡ false) x xs e (rest none)

neither : (a b : Bool) → (a || b) ≡ false → (a ≡ false) × (b ≡ false)
neither true b none = never none
neither false b none = (refl, none)

one_passes : (a b : Bool) → b ≡ true → (a || b) ≡ true
one_passes true b e = refl
one_passes false b e = e

other_passes : (a b : Bool) → a ≡ true → (a || b) ≡ true
other_passes a b e = ap (λ c. c || b) e

itself : (n : ℕ) → nat_eq n n ≡ true
itself n = eq-eqb n n refl

some_fault : {P : Type 0} (f : SchemaFault) → Some f ≡ None → P
some_fault f e = absurd (clash e)
  where
    clash : Some f ≡ None → ⊥
    clash e = cc

-- ---- the columns that are summed

no_place : (fails : ℕ → Bool) (tell : ℕ → SchemaFault) (places : List ℕ) → first_place fails tell places ≡ None → All (λ place. fails place ≡ false) places
no_place fails tell [] none = All-nil (λ place. fails place ≡ false)
no_place fails tell (place ∷ places) none = by (fails place) refl none (no_place fails tell places)
  where
    by : (b : Bool) → fails place ≡ b → cond b (Some (tell place)) (first_place fails tell places) ≡ None → (first_place fails tell places ≡ None → All (λ p. fails p ≡ false) places) → All (λ p. fails p ≡ false) (place ∷ places)
    by true e none rest = some_fault (tell place) none
    by false e none rest = All-cons (λ p. fails p ≡ false) place places e (rest none)

module _ (key : List ℕ) (partition : Option ℕ) (places : List ℕ) (none : All (λ place. is_kept_apart key partition place ≡ false) places) where
  -- no column of the key is summed
  key_apart : All (λ own. is_one_of places own ≡ false) key
  key_apart = λ k d below. list_any_none (nat_eq (get_or key k d)) places
      (λ j e within. none_any (λ own. nat_eq own (get_or places j e)) key (neither (list_any (λ own. nat_eq own (get_or places j e)) key) (is_at partition (get_or places j e)) (none j e within)).0 k d below)

  -- nor is that of the partition
  place_apart : (own : ℕ) → partition ≡ Some own → is_one_of places own ≡ false
  place_apart own is = list_any_none (nat_eq own) places
      (λ j e within. sym (ap (λ o. is_at o (get_or places j e)) is) ∙ (neither (list_any (λ p. nat_eq p (get_or places j e)) key) (is_at partition (get_or places j e)) (none j e within)).1)

-- ---- the columns that have a function

-- where a column of the key or of the partition has a function, that is a fault
no_function : (place : ℕ) (key : List ℕ) (partition : Option ℕ) (columns : List Column) → aggregate_key_fault place key partition columns ≡ None
    → (i : ℕ) (c : Column) → slice_get columns i ≡ Some c → is_kept_apart key partition (place + i) ≡ true → c.function ≡ None
no_function place key partition [] none i c is kept = cc
no_function place key partition (column ∷ columns) none zero c is kept =
    let here : place + 0 ≡ place = omega arith in
    sym (ap (λ (x : Column). x.function) (same_Some column c is)) ∙ by column.function (is_kept_apart key partition place) (sym (ap (is_kept_apart key partition) here) ∙ kept) none
  where
    by : (f : Option Aggregate) (b : Bool) → b ≡ true → cond (is_some f && b) (Some (fault.AggregateKey place)) (aggregate_key_fault (place + 1) key partition columns) ≡ None → f ≡ None
    by None b e none = refl
    by (Some f) true e none = some_fault (fault.AggregateKey place) none
    by (Some f) false e none = never (sym e)
no_function place key partition (column ∷ columns) none (suc i) c is kept =
    let there : place + suc i ≡ place + 1 + i = omega arith in
    no_function (place + 1) key partition columns (by (has_function column && is_kept_apart key partition place) none) i c is (sym (ap (is_kept_apart key partition) there) ∙ kept)
  where
    by : (b : Bool) → cond b (Some (fault.AggregateKey place)) (aggregate_key_fault (place + 1) key partition columns) ≡ None → aggregate_key_fault (place + 1) key partition columns ≡ None
    by true none = some_fault (fault.AggregateKey place) none
    by false none = none

some_column : (columns : List Column) (i : ℕ) → i < length columns → (c : Column) × (slice_get columns i ≡ Some c)
some_column [] i below = absurd (omega arith)
some_column (c ∷ columns) zero below = (c, refl)
some_column (c ∷ columns) (suc i) below = some_column columns i (omega arith)

-- ---- the rules of the schema

module _ (schema : Schema) (table : IsTableSchema schema) where
  abbrev key : List ℕ
  key = schema.key

  abbrev places : List ℕ
  places = summed_places schema.engine

  abbrev after_version : Option SchemaFault
  after_version = fault_or (sign_fault schema) (fault_or (sum_fault schema) (fault_or (function_fault schema) None))

  after_sign : fault_or (sum_fault schema) (fault_or (function_fault schema) None) ≡ None
  after_sign =
      none_after (sign_fault schema) (fault_or (sum_fault schema) (fault_or (function_fault schema) None))
      (none_after (type_fault is_unsigned fault.VersionType schema.columns (version_place schema.engine)) after_version (engine_sound schema table.sound))

  sum_sound : sum_fault schema ≡ None
  sum_sound = none_before (sum_fault schema) (fault_or (function_fault schema) None) after_sign

  function_sound : function_fault schema ≡ None
  function_sound = none_before (function_fault schema) None (none_after (sum_fault schema) (fault_or (function_fault schema) None) after_sign)

  -- no column that is summed is in the key or the partition
  sums_apart : All (λ place. is_kept_apart key schema.partition place ≡ false) places
  sums_apart = no_place (is_kept_apart key schema.partition) fault.SumKey places
      (none_before (first_place (is_kept_apart key schema.partition) fault.SumKey places) (fault_or (nothing_fault schema.engine) None)
      (none_after (first_place (is_not_numeric schema.columns) fault.SumType places) (fault_or (first_place (is_kept_apart key schema.partition) fault.SumKey places) (fault_or (nothing_fault schema.engine) None)) sum_sound))

  abbrev key_fault : Option SchemaFault
  key_fault = aggregate_key_fault 0 key schema.partition schema.columns

  key_sound : key_fault ≡ None
  key_sound =
      by (fault_or (option_map fault.AggregateType (position is_misfit schema.columns)) None)
      function_sound
    where
      by : (rest : Option SchemaFault) → fault_or (aggregate_engine_fault schema.engine schema.columns) (fault_or key_fault rest) ≡ None → key_fault ≡ None
      by rest none = none_before key_fault rest (none_after (aggregate_engine_fault schema.engine schema.columns) (fault_or key_fault rest) none)

  -- no column that has a function is in the key or the partition
  function_apart : (place : ℕ) → place < length schema.columns → is_kept_apart key schema.partition place ≡ true → slice_get (functions_of schema) place ≡ Some None
  function_apart place below kept =
      let c = some_column schema.columns place below in
      let same : place ≡ 0 + place = omega arith in
      slice_get-map (λ (x : Column). x.function) schema.columns place ∙ ap (option_map (λ (x : Column). x.function)) c.1
      ∙ ap Some (no_function 0 key schema.partition schema.columns key_sound place c.0 c.1 (sym (ap (is_kept_apart key schema.partition) same) ∙ kept))

  of_key : (k d : ℕ) → k < length key → is_kept_apart key schema.partition (get_or key k d) ≡ true
  of_key k d below =
      other_passes (list_any (λ own. nat_eq own (get_or key k d)) key) (is_at schema.partition (get_or key k d))
      (list_any_at (λ own. nat_eq own (get_or key k d)) key k d below (itself (get_or key k d)))

  of_partition : (place : ℕ) → schema.partition ≡ Some place → is_kept_apart key schema.partition place ≡ true
  of_partition place is =
      one_passes (list_any (λ own. nat_eq own place) key) (is_at schema.partition place) (ap (λ o. is_at o place) is ∙ itself place)

  abbrev functions : List (Option Aggregate)
  functions = functions_of schema

  -- the sorting columns are left as they are
  pub sorting_apart : All (IsApart schema.engine (functions_of schema)) (sorting_columns schema)
  sorting_apart = by schema.engine sums_apart
    where
      by : (e : Engine) → All (λ place. is_kept_apart key schema.partition place ≡ false) (summed_places e) → All (IsApart e functions) (key ++ added_version e key)
      by engine.Plain none = λ k d below. tt
      by (engine.Replacing version) none = λ k d below. tt
      by (engine.Summing summed) none =
          All-append (λ place. is_one_of summed place ≡ false) key [] (key_apart key schema.partition summed none) (All-nil (λ place. is_one_of summed place ≡ false))
      by (engine.Collapsing sign) none = λ k d below. tt
      by (engine.Versioned sign version) none = λ k d below. tt
      by engine.Aggregating none =
          All-append (λ place. slice_get functions place ≡ Some None) key [] (λ k d below. function_apart (get_or key k d) (table.own k d below) (of_key k d below)) (All-nil (λ place. slice_get functions place ≡ Some None))

  -- so is the partition column
  pub partition_apart : (place : ℕ) → schema.partition ≡ Some place → IsApart schema.engine (functions_of schema) place
  partition_apart place is = by schema.engine sums_apart
    where
      by : (e : Engine) → All (λ p. is_kept_apart key schema.partition p ≡ false) (summed_places e) → IsApart e functions place
      by engine.Plain none = tt
      by (engine.Replacing version) none = tt
      by (engine.Summing summed) none = place_apart key schema.partition summed none place is
      by (engine.Collapsing sign) none = tt
      by (engine.Versioned sign version) none = tt
      by engine.Aggregating none = function_apart place (partition_own schema place table is) (of_partition place is)
