-- A granule with a row of some key is chosen where any row of the key and the partition meets the condition, whatever its other columns.
use Rattle.std.proofs.Common.{◌≡◌, ◌⊎◌, inl, inr, ℕ, ◌+◌, ◌*◌, ◌<◌, ◌≤◌, ◌||◌, Bool, true, false, cond, List, [], ◌∷◌, ◌++◌, All, Some, None, refl, sym, ap, ap₂, ◌∙◌, append_assoc, arith, drop, get_or, length, length-take, map, mul_comm, slice_get, subst, take}
use Rattle.std.proofs.Math.Nat.{mul-le-mul_right}
use Rattle.std.proofs.lemmas.Bool.{cases_lt}
use Rattle.std.proofs.lemmas.Grind.{div_ceil_times}
use Rattle.std.proofs.lemmas.List.{drop-map, drop_all, get_or-map, length-map}
use Rattle.std.proofs.lemmas.List.Elements.{All-head, All-map, All-tail, All-weaker}
use Rattle.std.proofs.lemmas.Option.{slice_get-get_or}
use Rattle.std.specs.Cmp.Lexicographic.{slice_cmp}
use Rattle.std.specs.FinMap.{slice_cmp-IsAntisymmetric}
use Rattle.std.specs.List.{cons_option, filter, list_any, take-map}
use Rattle.std.specs.List.Sorted.{IsSorted}
use Rattle.std.specs.Ordering.{is_eq, is_lt}
use Rattle.std.specs.declared.cmp.Ordering.{Ordering}
use Rattle.std.specs.declared.cmp.Ordering.TheVariants.{Less, Equal, Greater}
use Rattle.mt_base.specs.declared.partition.Partition.{Partition}
use Rattle.mt_values.specs.declared.expr.Test.{Test}
use Rattle.mt_values.specs.declared.schema.Column.{Column}
use Rattle.mt_values.specs.declared.schema.Schema.{Schema}
use Rattle.mt_values.specs.declared.value.Value.{Value}
use Rattle.mt_values.specs.declared.value.Value.TheVariants as value
use Rattle.mt_values.specs.Conditions.{Condition, tests_of}
use Rattle.mt_values.specs.Engines.{added_version}
use Rattle.mt_values.specs.Order.{HasPlaces, key_cmp, key_of, value_cmp}
use Rattle.mt_values.specs.Schemas.{column_types, schema_fault}
use Rattle.mt_values.specs.Tables.{partition_of, sorting_cmp, sorting_columns}
use Rattle.mt_values.specs.Tests.{eval}
use Rattle.mt_values.specs.Values.{Row, type_of, types_of}
use Rattle.mt_values.proofs.Orders.{value_exact}
use Rattle.mt_values.proofs.RowPartitions.{prefix_sound}
use Rattle.part_reader.specs.column_file.Marks.{granules, mark_keys, with_final}
use Rattle.mt_model.specs.predicate.Granules.{chosen_in}
use Rattle.part_reader.specs.primary_marks.Choosing.{ArePartOf}
use Rattle.part_reader.specs.primary_marks.Keys.{HasMarks}
use Rattle.part_reader.proofs.PrimaryMarksMarkedRows.{All-with_final, map-map, with_final-map}
use Rattle.part_reader.proofs.PrimaryMarksSkippedGranules.{begun_by, chosen_count, skipped_empty}

-- ---- keys

equal_is : (o : Ordering) → is_eq o ≡ true → o ≡ Equal
equal_is Less e = cc
equal_is Equal e = refl
equal_is Greater e = cc

-- rows that are alike in the order have one key
key_same : (places : List ℕ) (a b : Row) → is_eq (key_cmp places a b) ≡ true → key_of places a ≡ key_of places b
key_same places a b is = slice_cmp-IsAntisymmetric value_exact (key_of places a) (key_of places b) (equal_is (key_cmp places a b) is)

any_value : Value
any_value = value.UInt8 0

first_same : {X : Type 0} (x y : X) (xs ys : List X) → x ∷ xs ≡ y ∷ ys → x ≡ y
first_same x y xs ys e = cc

rest_same : {X : Type 0} (x y : X) (xs ys : List X) → x ∷ xs ≡ y ∷ ys → xs ≡ ys
rest_same x y xs ys e = cc

-- rows that agree in a key agree in its front
front_same : (ps rest : List ℕ) (a b : Row) → HasPlaces ps a → HasPlaces ps b → key_of (ps ++ rest) a ≡ key_of (ps ++ rest) b → key_of ps a ≡ key_of ps b
front_same [] rest a b p q e = refl
front_same (c ∷ cs) rest a b p q e =
    let x = get_or a c any_value in
    let y = get_or b c any_value in
    let in_a : slice_get a c ≡ Some x = slice_get-get_or a c any_value (All-head (λ place. place < length a) c cs p) in
    let in_b : slice_get b c ≡ Some y = slice_get-get_or b c any_value (All-head (λ place. place < length b) c cs q) in
    let both : x ∷ key_of (cs ++ rest) a ≡ y ∷ key_of (cs ++ rest) b =
    sym (ap (λ o. cons_option o (key_of (cs ++ rest) a)) in_a) ∙ e ∙ ap (λ o. cons_option o (key_of (cs ++ rest) b)) in_b in
    ap (λ o. cons_option o (key_of cs a)) in_a
    ∙ ap₂ (λ v vs. v ∷ vs) (first_same x y (key_of (cs ++ rest) a) (key_of (cs ++ rest) b) both)
    (front_same cs rest a b (All-tail (λ place. place < length a) c cs p) (All-tail (λ place. place < length b) c cs q) (rest_same x y (key_of (cs ++ rest) a) (key_of (cs ++ rest) b) both))
    ∙ sym (ap (λ o. cons_option o (key_of cs b)) in_b)

map_same : {X Y : Type 0} (f g : X → Y) (xs : List X) → All (λ x. f x ≡ g x) xs → map f xs ≡ map g xs
map_same f g [] all = refl
map_same f g (x ∷ xs) all = ap₂ (λ y ys. y ∷ ys) (All-head (λ z. f z ≡ g z) x xs all) (map_same f g xs (All-tail (λ z. f z ≡ g z) x xs all))

module _ (schema : Schema) (row : Row) where
  -- a row in place of each that has its key
  abbrev instead : Row → Row
  instead r = cond (is_eq (sorting_cmp schema row r)) row r

  instead_key : (r : Row) → key_of (sorting_columns schema) (instead r) ≡ key_of (sorting_columns schema) r
  instead_key r = by (is_eq (sorting_cmp schema row r)) refl
    where
      by : (b : Bool) → is_eq (sorting_cmp schema row r) ≡ b → key_of (sorting_columns schema) (cond b row r) ≡ key_of (sorting_columns schema) r
      by true e = key_same (sorting_columns schema) row r e
      by false e = refl

  instead_holds : (P : Row → Type 0) → P row → (r : Row) → P r → P (instead r)
  instead_holds P own r other = by (is_eq (sorting_cmp schema row r))
    where
      by : (b : Bool) → P (cond b row r)
      by true = own
      by false = other

  all_hold : (P : Row → Type 0) (rows : List Row) → P row → All P rows → All P (map instead rows)
  all_hold P rows own all = All-map P instead rows (All-weaker P (λ r. P (instead r)) (instead_holds P own) rows all)

  same_order : (a b : Row) → is_lt (sorting_cmp schema (instead a) (instead b)) ≡ is_lt (sorting_cmp schema a b)
  same_order a b = ap₂ (λ (x y : List Value). is_lt (slice_cmp value_cmp x y)) (instead_key a) (instead_key b)

  still_sorted : (rows : List Row) → IsSorted (sorting_cmp schema) rows → IsSorted (sorting_cmp schema) (map instead rows)
  still_sorted rows sorted = λ k d from below.
      let size = length-map rows instead in
      let later = get_or-map instead rows (k + 1) d d (omega (arith, size, below)) in
      let here = get_or-map instead rows k d d (omega (arith, size, below)) in
      ap₂ (λ a b. is_lt (sorting_cmp schema a b)) later here ∙ same_order (get_or rows (k + 1) d) (get_or rows k d) ∙ sorted k d from (omega (arith, size, below))

  module _ (partition : Partition) (c : Condition Test) (rows : List Row) (has : HasMarks schema) (sound : schema_fault schema ≡ None)
      (part : ArePartOf schema partition rows) (named : All (λ (t : Test). t.column < length schema.columns) (tests_of c))
      (typed : types_of row ≡ column_types schema) (parted : partition_of schema row ≡ partition) (meets : eval c row ≡ true) where
    abbrev keys : List Row
    keys = mark_keys schema.primary schema.granularity rows

    still_part : ArePartOf schema partition (map instead rows)
    still_part = record {
      typed = all_hold (λ r. types_of r ≡ column_types schema) rows typed part.typed;
      rising = still_sorted rows part.rising;
      parted = all_hold (λ r. partition_of schema r ≡ partition) rows parted part.parted;
    }

    has_primary : (r : Row) → types_of r ≡ column_types schema → HasPlaces schema.primary r
    has_primary r own =
        let count : length r ≡ length schema.columns = sym (length-map r type_of) ∙ ap length own ∙ length-map schema.columns (λ (x : Column). x.col_type) in
        subst (λ n. All (λ place. place < n) schema.primary) (sym count) has.own

    primary_same : (r : Row) → types_of r ≡ column_types schema → key_of schema.primary (instead r) ≡ key_of schema.primary r
    primary_same r own =
        let begun = begun_by schema.key schema.primary (prefix_sound schema sound) in
        let added = added_version schema.engine schema.key in
        let whole : sorting_columns schema ≡ schema.primary ++ (begun.0 ++ added) = ap (λ ks. ks ++ added) begun.1 ∙ append_assoc schema.primary begun.0 added in
        front_same schema.primary (begun.0 ++ added) (instead r) r
        (has_primary (instead r) (instead_holds (λ x. types_of x ≡ column_types schema) typed r own)) (has_primary r own)
        (subst (λ ks. key_of ks (instead r) ≡ key_of ks r) whole (instead_key r))

    same_keys : mark_keys schema.primary schema.granularity (map instead rows) ≡ keys
    same_keys =
        let g = schema.granularity in
        ap (map (key_of schema.primary)) (with_final-map instead g rows) ∙ map-map (key_of schema.primary) instead (with_final g rows)
        ∙ map_same (λ r. key_of schema.primary (instead r)) (key_of schema.primary) (with_final g rows)
        (All-with_final (λ r. key_of schema.primary (instead r) ≡ key_of schema.primary r) g rows
        (All-weaker (λ r. types_of r ≡ column_types schema) (λ r. key_of schema.primary (instead r) ≡ key_of schema.primary r) primary_same rows part.typed))

    -- where a row of the key is, there is then one that meets the condition
    some_meet : (xs : List Row) → list_any (λ r. is_eq (sorting_cmp schema row r)) xs ≡ true → filter (eval c) (map instead xs) ≡ [] → ⊥
    some_meet [] any none = cc
    some_meet (x ∷ xs) any none = by (is_eq (sorting_cmp schema row x)) refl (some_meet xs)
      where
        here : is_eq (sorting_cmp schema row x) ≡ true → ⊥
        here e =
            let first : eval c (instead x) ≡ true = ap (λ b. eval c (cond b row x)) e ∙ meets in
            let shown : instead x ∷ filter (eval c) (map instead xs) ≡ [] = sym (ap (λ b. cond b (instead x ∷ filter (eval c) (map instead xs)) (filter (eval c) (map instead xs))) first) ∙ none in
            cc

        rest : (b : Bool) → eval c (instead x) ≡ b → cond b (instead x ∷ filter (eval c) (map instead xs)) (filter (eval c) (map instead xs)) ≡ [] → filter (eval c) (map instead xs) ≡ []
        rest true e gone = cc
        rest false e gone = gone

        by : (b : Bool) → is_eq (sorting_cmp schema row x) ≡ b → (list_any (λ r. is_eq (sorting_cmp schema row r)) xs ≡ true → filter (eval c) (map instead xs) ≡ [] → ⊥) → ⊥
        by true e more = here e
        by false e more = more (sym (ap (λ b. b || list_any (λ r. is_eq (sorting_cmp schema row r)) xs) e) ∙ any) (rest (eval c (instead x)) refl none)

    not_skipped : (granule : ℕ) → list_any (λ r. is_eq (sorting_cmp schema row r)) (take schema.granularity (drop (schema.granularity * granule) rows)) ≡ true
        → slice_get (chosen_in schema partition c keys) granule ≡ Some false → ⊥
    not_skipped granule any skipped =
        let g = schema.granularity in
        let gone : filter (eval c) (take g (drop (g * granule) (map instead rows))) ≡ [] =
        skipped_empty schema partition c (map instead rows) has sound still_part named granule (ap (λ ks. slice_get (chosen_in schema partition c ks) granule) same_keys ∙ skipped) in
        let moved : take g (drop (g * granule) (map instead rows)) ≡ map instead (take g (drop (g * granule) rows)) =
        ap (take g) (drop-map instead (g * granule) rows) ∙ take-map instead g (drop (g * granule) rows) in
        some_meet (take g (drop (g * granule) rows)) any (sym (ap (filter (eval c)) moved) ∙ gone)

    -- a granule with a row has an answer
    answered : (granule : ℕ) → list_any (λ r. is_eq (sorting_cmp schema row r)) (take schema.granularity (drop (schema.granularity * granule) rows)) ≡ true
        → granule < length (chosen_in schema partition c keys)
    answered granule any = by (cases_lt granule (length (chosen_in schema partition c keys)))
      where
        past : length (chosen_in schema partition c keys) ≤ granule → ⊥
        past few =
            let g = schema.granularity in
            let count = chosen_count schema partition c schema.primary g rows has.granularity in
            let covers = (div_ceil_times (length rows) g has.granularity).0 in
            let up : length (chosen_in schema partition c keys) * g ≤ granule * g = mul-le-mul_right g few in
            let same : length (chosen_in schema partition c keys) * g ≡ granules g (length rows) * g = ap (λ n. n * g) count in
            let turned : granule * g ≡ g * granule = mul_comm granule g in
            let none : drop (g * granule) rows ≡ [] = drop_all (g * granule) rows (omega (arith, covers, up, same, turned)) in
            nothing (take g (drop (g * granule) rows)) any (omega (arith, length-take g (drop (g * granule) rows), ap length none))
          where
            nothing : (xs : List Row) → list_any (λ r. is_eq (sorting_cmp schema row r)) xs ≡ true → length xs ≡ 0 → ⊥
            nothing [] any empty = cc
            nothing (x ∷ xs) any empty = absurd (omega (arith, empty))

        by : (granule < length (chosen_in schema partition c keys)) ⊎ (length (chosen_in schema partition c keys) ≤ granule) → granule < length (chosen_in schema partition c keys)
        by (inl below) = below
        by (inr few) = absurd (past few)

    pub folded_chosen : (granule : ℕ) → list_any (λ r. is_eq (sorting_cmp schema row r)) (take schema.granularity (drop (schema.granularity * granule) rows)) ≡ true
        → slice_get (chosen_in schema partition c keys) granule ≡ Some true
    folded_chosen granule any =
        let there = slice_get-get_or (chosen_in schema partition c keys) granule false (answered granule any) in
        by (get_or (chosen_in schema partition c keys) granule false) there
      where
        by : (b : Bool) → slice_get (chosen_in schema partition c keys) granule ≡ Some b → slice_get (chosen_in schema partition c keys) granule ≡ Some true
        by true is = is
        by false is = absurd (not_skipped granule any is)
