-- Granules that are not chosen hold no row of which the condition is true, and those that are not asked none of which it is false.
use Rattle.std.proofs.Common.{◌≡◌, ℕ, suc, ◌+◌, ◌-◌, ◌*◌, ◌^◌, ◌<◌, ◌≤◌, ◌⊎◌, inl, inr, pos, Bool, true, false, cond, nat_eq, nat_lt, List, [], ◌∷◌, ◌++◌, All, Option, Some, None, refl, sym, ap, ap₂, ◌∙◌, subst, append_assoc, length, length-append, length-take, length-drop, map, take, drop, slice_get, get_or, option_map, arith, take-append-drop, drop-drop, subst₂, mul-zero, mul_comm}
use Rattle.std.proofs.lemmas.Bool.{cases_lt}
use Rattle.std.specs.Cmp.{IsTotalOrder}
use Rattle.std.specs.Cmp.Lexicographic.{lists_total}
use Rattle.std.specs.List.{filter, range_with_len}
use Rattle.std.specs.List.Sorted.{IsSorted}
use Rattle.std.specs.Ordering.{is_le, is_lt}
use Rattle.std.proofs.lemmas.Bool.{eqb-true}
use Rattle.std.proofs.lemmas.Cmp.{on_total, tied_itself}
use Rattle.std.proofs.lemmas.List.{get_or-drop, get_or-take, get_or_default, length-map, nil_from_length}
use Rattle.std.proofs.lemmas.List.Elements.{All-head, All-tail, filter-append}
use Rattle.std.proofs.lemmas.List.FromFn.{length-map-range_with_len}
use Rattle.std.proofs.lemmas.List.Sorted.{ranks_by, sorted_far}
use Rattle.std.proofs.lemmas.Option.{get_or_from_slice_get, slice_get-map}
use Rattle.mt_base.specs.declared.partition.Partition.{Partition}
use Rattle.mt_base.specs.declared.partition.Partition.TheVariants.{Whole, Number}
use Rattle.mt_values.specs.declared.expr.Test.{Test}
use Rattle.mt_values.specs.declared.schema.Column.{Column}
use Rattle.mt_values.specs.declared.schema.Schema.{Schema}
use Rattle.mt_values.specs.declared.schema.SchemaFault.TheVariants as fault
use Rattle.mt_values.specs.declared.value.Value.{Value}
use Rattle.mt_values.specs.declared.value.Value.TheVariants as value
use Rattle.mt_values.specs.Conditions.{Condition, tests_of}
use Rattle.mt_values.specs.Literals.{number_value}
use Rattle.mt_values.specs.Order.{HasPlaces, key_cmp, key_of, value_cmp}
use Rattle.mt_values.specs.Schemas.{column_types, is_unsigned, is_unsigned_column, partition_fault, prefix_fault, schema_fault}
use Rattle.mt_values.specs.Engines.{added_version}
use Rattle.mt_values.specs.Tables.{number_at, number_in, partition_by_column, partition_of, sorting_columns}
use Rattle.mt_values.specs.Tests.{eval}
use Rattle.mt_values.specs.Values.{Row, type_of, types_of}
use Rattle.mt_values.proofs.Grids.{type_at}
use Rattle.mt_values.proofs.Orders.{value_total}
use Rattle.mt_values.proofs.RowPartitions.{partition_sound, prefix_sound, unsigned_there}
use Rattle.predicate.specs.Boxes.{HasColumns, IsKnown, LiesIn, can}
use Rattle.predicate.specs.Granules.{asked_in, box_between, chosen_in, key_ranges, known_among, known_at, known_number, known_value, parts_at}
use Rattle.predicate.specs.declared.extent.Known.{Known}
use Rattle.predicate.specs.declared.extent.Known.TheVariants as known
use Rattle.predicate.proofs.Lying.{hides}
use Rattle.column_file.specs.Marks.{granules, mark_keys}
use Rattle.mt_values.specs.Granules.{chosen_of}
use Rattle.std.proofs.lemmas.Grind.{div_ceil_times}
use Rattle.primary_marks.specs.Choosing.{ArePartOf, key_at}
use Rattle.primary_marks.specs.Keys.{HasMarks}
use Rattle.primary_marks.proofs.Between.{known_between, le_by_front, not_less}
use Rattle.primary_marks.proofs.GranuleBoxes.{asked_by_place, box_at, chosen_by_place, is_asked_at, is_chosen_at, made_at}
use Rattle.primary_marks.proofs.KeyRowsOf.{kept_by_places, no_granules, none_kept, range_item}
use Rattle.primary_marks.proofs.MarkedRows.{granule_below}
use Rattle.primary_marks.proofs.KeysRead.{slice_get-push_new, slice_get-push_old}

-- ---- the partition column

-- a value is known of itself
itself : (v : Value) → IsKnown (known.Range v v) v
itself v = let e : is_le (value_cmp v v) ≡ true = ap is_le (tied_itself value_total v) in (e, e)

-- where the number is one of the type, its value is known; else nothing is
of_number : {N : Type 0} (make : N → Value) (fits : Bool) (n : N) → IsKnown (known_value (option_map make (cond fits (Some n) None))) (make n)
of_number make true n = itself (make n)
of_number make false n = tt

-- the number of a value of an unsigned type is known of it
number_of_value : (v : Value) → is_unsigned (type_of v) ≡ true → IsKnown (known_value (number_value (type_of v) (pos (number_in v)))) v
number_of_value (value.UInt8 n) unsigned = of_number value.UInt8 (nat_lt n (2 ^ 8)) n
number_of_value (value.UInt16 n) unsigned = of_number value.UInt16 (nat_lt n (2 ^ 16)) n
number_of_value (value.UInt32 n) unsigned = of_number value.UInt32 (nat_lt n (2 ^ 32)) n
number_of_value (value.UInt64 n) unsigned = of_number value.UInt64 (nat_lt n (2 ^ 64)) n
number_of_value (value.Int8 n) unsigned = cc
number_of_value (value.Int16 n) unsigned = cc
number_of_value (value.Int32 n) unsigned = cc
number_of_value (value.Int64 n) unsigned = cc
number_of_value (value.Text bytes) unsigned = cc

number_is : (m n : ℕ) → Number m ≡ Number n → m ≡ n
number_is m n e = cc

-- the type of a row's value is its column's
column_type : (columns : List Column) (row : Row) (i : ℕ) (c : Column) (v : Value) → types_of row ≡ map (λ (x : Column). x.col_type) columns → slice_get columns i ≡ Some c → slice_get row i ≡ Some v → type_of v ≡ c.col_type
column_type columns row i c v types is there =
    type_at i c.col_type row v (ap (λ ts. slice_get ts i) types ∙ slice_get-map (λ (x : Column). x.col_type) columns i ∙ ap (option_map (λ (x : Column). x.col_type)) is) there

-- the partition's number is known of the value in the partition column
number_there : (columns : List Column) (place : Option ℕ) (row : Row) (n i : ℕ) (v : Value) → types_of row ≡ map (λ (x : Column). x.col_type) columns → partition_fault columns place ≡ None
    → partition_by_column place row ≡ Number n → parts_at place i ≡ true → slice_get row i ≡ Some v → IsKnown (known_number (slice_get columns i) n) v
number_there columns None row n i v types sound of here there = cc
number_there columns (Some p) row n i v types sound of here there =
    by (slice_get columns i) refl (subst (λ j. is_unsigned_column (slice_get columns j) ≡ true) same (unsigned_there columns p sound))
  where
    same : p ≡ i
    same = eqb-true p i here

    number : number_in v ≡ n
    number = sym (ap number_at (ap (slice_get row) same ∙ there)) ∙ number_is (number_at (slice_get row p)) n of

    by : (o : Option Column) → slice_get columns i ≡ o → is_unsigned_column o ≡ true → IsKnown (known_number o n) v
    by None is unsigned = tt
    by (Some c) is unsigned =
        let typed = column_type columns row i c v types is there in
        subst (λ m. IsKnown (known_value (number_value c.col_type (pos m))) v) number
        (subst (λ t. IsKnown (known_value (number_value t (pos (number_in v)))) v) typed (number_of_value v (ap is_unsigned typed ∙ unsigned)))

-- ---- a row between two others of its table and partition

module _ (schema : Schema) (partition : Partition) (a row b : Row) (types : types_of row ≡ column_types schema) (sound : partition_fault schema.columns schema.partition ≡ None)
    (ha : HasPlaces schema.primary a) (hr : HasPlaces schema.primary row) (hb : HasPlaces schema.primary b)
    (low : is_le (key_cmp schema.primary a row) ≡ true) (high : is_le (key_cmp schema.primary row b) ≡ true) where
  abbrev ranges : List Known
  ranges = key_ranges (key_of schema.primary a) (key_of schema.primary b)

  known_here : (p : Partition) → partition_of schema row ≡ p → (i : ℕ) (v : Value) → slice_get row i ≡ Some v → IsKnown (known_at schema p ranges i) v
  known_here Whole of i v there = known_between schema.primary a row b ha hr hb low high i v there
  known_here (Number n) of i v there = by (parts_at schema.partition i) refl
    where
      by : (here : Bool) → parts_at schema.partition i ≡ here → IsKnown (cond here (known_number (slice_get schema.columns i) n) (known_among schema.primary ranges i)) v
      by true here = number_there schema.columns schema.partition row n i v types sound of here there
      by false here = known_between schema.primary a row b ha hr hb low high i v there

  -- it lies in the box between them
  row_lies : partition_of schema row ≡ partition → LiesIn (box_between schema partition (key_of schema.primary a) (key_of schema.primary b)) row
  row_lies of i k v known_is there =
      let found = made_at (known_at schema partition ranges) (length schema.columns) i k known_is in
      subst (λ (x : Known). IsKnown x v) found.1 (known_here partition of i v there)

-- ---- rows in order

key_total : (columns : List ℕ) → IsTotalOrder (key_cmp columns)
key_total columns = on_total (key_of columns) (lists_total value_total)

-- of sorted rows each stands at or below those after it
rise : (columns : List ℕ) (rows : List Row) → IsSorted (key_cmp columns) rows → (i j : ℕ) → i ≤ j → j < length rows → is_le (key_cmp columns (get_or rows i []) (get_or rows j [])) ≡ true
rise columns rows sorted i j up below =
    ap is_le ((key_total columns).antisymm (get_or rows i []) (get_or rows j []))
    ∙ not_less (key_cmp columns (get_or rows j []) (get_or rows i []))
    (sorted_far (λ x y. is_lt (key_cmp columns x y)) (ranks_by (key_total columns) (λ (r : Row). r)) rows sorted i j [] up below)

-- a key that breaks no rule begins with the primary key
pub begun_by : (key primary : List ℕ) → prefix_fault key primary ≡ None → (rest : List ℕ) × (key ≡ primary ++ rest)
begun_by key [] sound = (key, refl)
begun_by [] (c ∷ cs) sound = cc
begun_by (own ∷ key) (c ∷ cs) sound = by (nat_eq own c) refl sound (begun_by key cs)
  where
    by : (same : Bool) → nat_eq own c ≡ same → cond same (prefix_fault key cs) (Some (fault.NotPrefix c)) ≡ None → (prefix_fault key cs ≡ None → (rest : List ℕ) × (key ≡ cs ++ rest))
        → (rest : List ℕ) × (own ∷ key ≡ c ∷ (cs ++ rest))
    by true same ok more = let rest = more ok in (rest.0, ap₂ (λ k ks. k ∷ ks) (eqb-true own c same) rest.1)
    by false same ok more = cc

-- ---- granules

-- the key at a place, of the keys of rows at places
key_by_place : (f : ℕ → Row) (marked : List ℕ) (k p : ℕ) → slice_get marked k ≡ Some p → key_at (map f marked) k ≡ f p
key_by_place f marked k p e = get_or_from_slice_get (map f marked) k (f p) [] (slice_get-map f marked k ∙ ap (option_map f) e)

module _ (primary : List ℕ) (g : ℕ) (rows : List Row) (large : 0 < g) where
  abbrev count : ℕ
  count = granules g (length rows)

  abbrev starts : List ℕ
  starts = map (λ j. g * j) (range_with_len 0 (granules g (length rows)))

  abbrev row_key : ℕ → Row
  row_key k = key_of primary (get_or rows k [])

  starts_len : length starts ≡ count
  starts_len = length-map-range_with_len (λ j. g * j) 0 count

  start_at : (k : ℕ) → k < count → slice_get (starts ++ (length rows - 1) ∷ []) k ≡ Some (g * k)
  start_at k below =
      slice_get-push_old starts (length rows - 1) k (omega (arith, starts_len))
      ∙ slice_get-map (λ j. g * j) (range_with_len 0 count) k ∙ ap (option_map (λ j. g * j)) (range_item count k below)

  -- how many keys there are
  pub keys_count : length (mark_keys primary g rows) - 1 ≡ count
  keys_count = either (cases_lt 0 (length rows))
    where
      either : (0 < length rows) ⊎ (length rows ≤ 0) → length (mark_keys primary g rows) - 1 ≡ granules g (length rows)
      either (inl some) =
          let len : length (mark_keys primary g rows) ≡ granules g (length rows) + 1 =
          ap length (kept_by_places primary g rows some large) ∙ length-map (map (λ j. g * j) (range_with_len 0 (granules g (length rows))) ++ (length rows - 1) ∷ []) (λ k. key_of primary (get_or rows k []))
          ∙ length-append (map (λ j. g * j) (range_with_len 0 (granules g (length rows)))) ((length rows - 1) ∷ [])
          ∙ ap (λ n. n + 1) (length-map-range_with_len (λ j. g * j) 0 (granules g (length rows))) in
          omega (arith, len)
      either (inr none) =
          let empty : rows ≡ [] = nil_from_length rows (omega arith) in
          ap (λ rs. length (mark_keys primary g rs) - 1) empty ∙ ap (λ (ks : List Row). length ks - 1) (none_kept primary g large)
          ∙ sym (ap (λ (rs : List Row). granules g (length rs)) empty ∙ no_granules g large)

  -- a granule's key is its first row's
  first_key : (k : ℕ) → 0 < length rows → k < count → key_at (mark_keys primary g rows) k ≡ row_key (g * k)
  first_key k some below =
      ap (λ ks. key_at ks k) (kept_by_places primary g rows some large) ∙ key_by_place row_key (starts ++ (length rows - 1) ∷ []) k (g * k) (start_at k below)

  -- the next key is that of a row at or after all rows of the granule
  next_key : (k : ℕ) → 0 < length rows → k < count → (place : ℕ) × (place < length rows) × (key_at (mark_keys primary g rows) (k + 1) ≡ row_key place)
      × ((i : ℕ) → i < g * k + g → i < length rows → i ≤ place)
  next_key k some below = either (cases_lt (k + 1) count)
    where
      either : (k + 1 < granules g (length rows)) ⊎ (granules g (length rows) ≤ k + 1) → (place : ℕ) × (place < length rows) × (key_at (mark_keys primary g rows) (k + 1) ≡ row_key place)
          × ((i : ℕ) → i < g * k + g → i < length rows → i ≤ place)
      either (inl more) =
          let next : g * (k + 1) ≡ g * k + g = omega arith in (
            g * (k + 1),
            granule_below (length rows) g (k + 1) large more,
            ap (λ ks. key_at ks (k + 1)) (kept_by_places primary g rows some large)
                ∙ key_by_place (row_key) (starts ++ (length rows - 1) ∷ []) (k + 1) (g * (k + 1)) (start_at (k + 1) more),
            λ i h q. omega arith,
          )
      either (inr last) =
          let end : k + 1 ≡ granules g (length rows) = omega arith in (
            length rows - 1,
            omega arith,
            ap (λ ks. key_at ks (k + 1)) (kept_by_places primary g rows some large)
                ∙ key_by_place (row_key) (starts ++ (length rows - 1) ∷ []) (k + 1) (length rows - 1)
                (slice_get-push_new (starts) (length rows - 1) (k + 1) (starts_len ∙ sym end)),
            λ i h q. omega arith,
          )

-- there is an answer for each granule
pub chosen_count : (schema : Schema) (partition : Partition) (c : Condition Test) (primary : List ℕ) (g : ℕ) (rows : List Row) → 0 < g → length (chosen_in schema partition c (mark_keys primary g rows)) ≡ granules g (length rows)
chosen_count schema partition c primary g rows large =
    let keys = mark_keys primary g rows in
    ap length (chosen_by_place schema partition c keys) ∙ length-map-range_with_len (is_chosen_at schema partition c keys) 0 (length keys - 1) ∙ keys_count primary g rows large

pub asked_count : (schema : Schema) (partition : Partition) (c : Condition Test) (primary : List ℕ) (g : ℕ) (rows : List Row) → 0 < g → length (asked_in schema partition c (mark_keys primary g rows)) ≡ granules g (length rows)
asked_count schema partition c primary g rows large =
    let keys = mark_keys primary g rows in
    ap length (asked_by_place schema partition c keys) ∙ length-map-range_with_len (is_asked_at schema partition c keys) 0 (length keys - 1) ∙ keys_count primary g rows large

-- ---- rows of granules that are not chosen, and of those that are not asked

none_pass : {X : Type 0} (p : X → Bool) (xs : List X) → All (λ x. p x ≡ false) xs → filter p xs ≡ []
none_pass p [] all = refl
none_pass p (x ∷ xs) all =
    ap₂ (λ b ys. cond b (x ∷ ys) ys) (All-head (λ y. p y ≡ false) x xs all) (none_pass p xs (All-tail (λ y. p y ≡ false) x xs all))

module _ (schema : Schema) (partition : Partition) (c : Condition Test) (rows : List Row) (has : HasMarks schema) (sound : schema_fault schema ≡ None)
    (part : ArePartOf schema partition rows) (named : All (λ (t : Test). t.column < length schema.columns) (tests_of c)) where
  abbrev row_at : ℕ → Row
  row_at i = get_or rows i []

  abbrev keys : List Row
  keys = mark_keys schema.primary schema.granularity rows

  row_len : (i : ℕ) → i < length rows → length (get_or rows i []) ≡ length schema.columns
  row_len i below =
      sym (length-map (get_or rows i []) type_of) ∙ ap length (part.typed i [] below) ∙ length-map schema.columns (λ (x : Column). x.col_type)

  reaches : (i : ℕ) → i < length rows → HasPlaces schema.primary (get_or rows i [])
  reaches i below = subst (λ n. All (λ place. place < n) schema.primary) (sym (row_len i below)) has.own

  -- rows rise by the primary key too
  primary_le : (i j : ℕ) → i ≤ j → j < length rows → is_le (key_cmp schema.primary (get_or rows i []) (get_or rows j [])) ≡ true
  primary_le i j up below =
      let parted = begun_by schema.key schema.primary (prefix_sound schema sound) in
      let added = added_version schema.engine schema.key in
      let whole : sorting_columns schema ≡ schema.primary ++ (parted.0 ++ added) = ap (λ ks. ks ++ added) parted.1 ∙ append_assoc schema.primary parted.0 added in
      le_by_front schema.primary (parted.0 ++ added) (get_or rows i []) (get_or rows j []) (reaches i (omega arith)) (reaches j below)
      (subst (λ ks. is_le (key_cmp ks (get_or rows i []) (get_or rows j [])) ≡ true) whole (rise (sorting_columns schema) rows part.rising i j up below))

  -- a row of a granule lies in its box
  lies : (granule i : ℕ) → granule < granules schema.granularity (length rows) → schema.granularity * granule ≤ i → i < schema.granularity * granule + schema.granularity → i < length rows
      → LiesIn (box_at schema partition keys granule) (get_or rows i [])
  lies granule i few from to below =
      let g = schema.granularity in
      let some : 0 < length rows = omega arith in
      let next = next_key schema.primary g rows has.granularity granule some few in
      let last = next.3 i to below in
      subst₂ (λ a b. LiesIn (box_between schema partition a b) (get_or rows i []))
      (sym (first_key schema.primary g rows has.granularity granule some few)) (sym next.2)
      (row_lies schema partition (get_or rows (g * granule) []) (get_or rows i []) (get_or rows next.0 []) (part.typed i [] below) (partition_sound schema sound)
      (reaches (g * granule) (omega arith)) (reaches i below) (reaches next.0 next.1)
      (primary_le (g * granule) i from below) (primary_le i next.0 last next.1) (part.parted i [] below))

  -- of no row of a granule that is not chosen the condition is true
  misses : (granule i : ℕ) → slice_get (chosen_in schema partition c keys) granule ≡ Some false → schema.granularity * granule ≤ i → i < schema.granularity * granule + schema.granularity → i < length rows
      → eval c (get_or rows i []) ≡ false
  misses granule i skipped from to below =
      let found = made_at (is_chosen_at schema partition c keys) (length keys - 1) granule false (sym (ap (λ bs. slice_get bs granule) (chosen_by_place schema partition c keys)) ∙ skipped) in
      let few : granule < granules schema.granularity (length rows) = omega (arith, found.0, keys_count schema.primary schema.granularity rows has.granularity) in
      let columns : HasColumns c (get_or rows i []) = subst (λ n. All (λ (t : Test). t.column < n) (tests_of c)) (sym (row_len i below)) named in
      let hidden = hides (box_at schema partition keys granule) (get_or rows i []) (lies granule i few from to below) c columns in
      by (eval c (get_or rows i [])) refl (λ e. hidden.0 e) found.1
    where
      by : (b : Bool) → eval c (get_or rows i []) ≡ b → (eval c (get_or rows i []) ≡ true → (can c (box_at schema partition keys granule)).yes ≡ true)
          → (can c (box_at schema partition keys granule)).yes ≡ false → b ≡ false
      by true e shown hidden = sym (shown e) ∙ hidden
      by false e shown hidden = refl

  pub skipped_empty : (granule : ℕ) → slice_get (chosen_in schema partition c keys) granule ≡ Some false → filter (eval c) (take schema.granularity (drop (schema.granularity * granule) rows)) ≡ []
  skipped_empty granule skipped =
      let g = schema.granularity in
      none_pass (eval c) (take g (drop (g * granule) rows)) (λ k d within.
      let size = length-take g (drop (g * granule) rows) in
      let rest = length-drop (g * granule) rows in
      let below : g * granule + k < length rows = omega (arith, size, rest, within) in
      let early : k < g = omega (arith, size, within) in
      ap (eval c) (get_or-take g (drop (g * granule) rows) k d early ∙ get_or-drop (g * granule) rows k d ∙ get_or_default rows (g * granule + k) d [] below)
      ∙ misses granule (g * granule + k) skipped (omega arith) (omega arith) below)

  -- of each row of a granule that is not asked the condition is true
  met : (granule i : ℕ) → slice_get (asked_in schema partition c keys) granule ≡ Some false → schema.granularity * granule ≤ i → i < schema.granularity * granule + schema.granularity → i < length rows
      → eval c (get_or rows i []) ≡ true
  met granule i sure from to below =
      let found = made_at (is_asked_at schema partition c keys) (length keys - 1) granule false (sym (ap (λ bs. slice_get bs granule) (asked_by_place schema partition c keys)) ∙ sure) in
      let few : granule < granules schema.granularity (length rows) = omega (arith, found.0, keys_count schema.primary schema.granularity rows has.granularity) in
      let columns : HasColumns c (get_or rows i []) = subst (λ n. All (λ (t : Test). t.column < n) (tests_of c)) (sym (row_len i below)) named in
      let hidden = hides (box_at schema partition keys granule) (get_or rows i []) (lies granule i few from to below) c columns in
      by (eval c (get_or rows i [])) refl (λ e. hidden.1 e) found.1
    where
      by : (b : Bool) → eval c (get_or rows i []) ≡ b → (eval c (get_or rows i []) ≡ false → (can c (box_at schema partition keys granule)).no ≡ true)
          → (can c (box_at schema partition keys granule)).no ≡ false → b ≡ true
      by true e shown sure = refl
      by false e shown sure = sym sure ∙ shown e

  pub sure_meet : (granule : ℕ) → slice_get (asked_in schema partition c keys) granule ≡ Some false → All (λ row. eval c row ≡ true) (take schema.granularity (drop (schema.granularity * granule) rows))
  sure_meet granule sure =
      let g = schema.granularity in
      λ k d within.
      let size = length-take g (drop (g * granule) rows) in
      let rest = length-drop (g * granule) rows in
      let below : g * granule + k < length rows = omega (arith, size, rest, within) in
      let early : k < g = omega (arith, size, within) in
      ap (eval c) (get_or-take g (drop (g * granule) rows) k d early ∙ get_or-drop (g * granule) rows k d ∙ get_or_default rows (g * granule + k) d [] below)
      ∙ met granule (g * granule + k) sure (omega arith) (omega arith) below

-- ---- all granules

module _ {X : Type 0} (p : X → Bool) (g : ℕ) where
  -- of a list without granules in which nothing passes, the same pass
  pub chosen_pass : (chosen : List Bool) (xs : List X) → length xs ≤ g * length chosen → ((k : ℕ) → slice_get chosen k ≡ Some false → filter p (take g (drop (g * k) xs)) ≡ [])
      → filter p (chosen_of g chosen xs) ≡ filter p xs
  chosen_pass [] xs few skipped = ap (filter p) (sym (nil_from_length xs (omega arith)))
  chosen_pass (b ∷ chosen) xs few skipped =
      let left : length (drop g xs) ≤ g * length chosen = let one : g * suc (length chosen) ≡ g * length chosen + g = omega arith in omega (arith, few, length-drop g xs) in
      let more : filter p (chosen_of g chosen (drop g xs)) ≡ filter p (drop g xs) =
      chosen_pass chosen (drop g xs) left (λ k is.
      let down : g * suc k ≡ g + g * k = omega arith in
      ap (λ ys. filter p (take g ys)) (drop-drop (g * k) g xs ∙ ap (λ n. drop n xs) (sym down)) ∙ skipped (suc k) is) in
      by b (skipped 0) more
    where
      whole : filter p (take g xs) ++ filter p (drop g xs) ≡ filter p xs
      whole = sym (filter-append p (take g xs) (drop g xs)) ∙ ap (filter p) (take-append-drop g xs)

      by : (b : Bool) → (Some b ≡ Some false → filter p (take g (drop (g * 0) xs)) ≡ []) → filter p (chosen_of g chosen (drop g xs)) ≡ filter p (drop g xs)
          → filter p (chosen_of g (b ∷ chosen) xs) ≡ filter p xs
      by true first more = filter-append p (take g xs) (chosen_of g chosen (drop g xs)) ∙ ap (λ ys. filter p (take g xs) ++ ys) more ∙ whole
      by false first more =
          let none : filter p (take g xs) ≡ [] = ap (λ n. filter p (take g (drop n xs))) (sym (mul-zero g)) ∙ first refl in
          more ∙ ap (λ ys. ys ++ filter p (drop g xs)) (sym none) ∙ whole

pub chosen_all : (schema : Schema) (partition : Partition) (c : Condition Test) (rows : List Row) → HasMarks schema → schema_fault schema ≡ None → ArePartOf schema partition rows
    → All (λ (t : Test). t.column < length schema.columns) (tests_of c)
    → filter (eval c) (chosen_of schema.granularity (chosen_in schema partition c (mark_keys schema.primary schema.granularity rows)) rows) ≡ filter (eval c) rows
chosen_all schema partition c rows has sound part named =
    let g = schema.granularity in
    let chosen = chosen_in schema partition c (mark_keys schema.primary g rows) in
    let size : length chosen ≡ granules g (length rows) = chosen_count schema partition c schema.primary g rows has.granularity in
    let covers = (div_ceil_times (length rows) g has.granularity).0 in
    let turned : g * length chosen ≡ granules g (length rows) * g = ap (λ n. g * n) size ∙ mul_comm g (granules g (length rows)) in
    chosen_pass (eval c) g chosen rows (omega (arith, covers, turned)) (skipped_empty schema partition c rows has sound part named)
