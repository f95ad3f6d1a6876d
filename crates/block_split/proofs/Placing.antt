-- Split rows as a row comes after them, and groups as its place comes to them.
use Rattle.std.proofs.Common.{◌≡◌, ℕ, zero, suc, ◌+◌, ◌<◌, ◌≤◌, Bool, true, false, cond, not, ◌||◌, List, [], ◌∷◌, ◌++◌, All, Some, length, map, nat_eq, get_or, set, slice_get, refl, sym, ap, ap₂, ◌∙◌, subst, append-nil, arith, length-append}
use Rattle.std.specs.List.{list_any, position_or_len, cons_option}
use Rattle.std.proofs.lemmas.List.Elements.{All-nil, All-cons, All-head, All-tail, All-weaker, All-push, filter-append, filter_map-append}
use Rattle.mt_base.specs.declared.partition.Partition.{Partition}
use Rattle.mt_base.specs.declared.partition.Partition.TheVariants.{Number}
use Rattle.mt_values.specs.declared.schema.Schema.{Schema}
use Rattle.mt_values.specs.declared.value.ColType.{ColType}
use Rattle.mt_values.specs.declared.value.Value.{Value}
use Rattle.mt_values.specs.Grid.{AreRowsOf, column_of, picked}
use Rattle.mt_values.specs.Tables.{number_at, number_in, partition_by_column, partition_of, same_partition}
use Rattle.mt_values.proofs.OrderBy.{value_at}
use Rattle.std.proofs.Math.Seq.{map-set_same}
use Rattle.mt_values.specs.Values.{Row}
use Rattle.mt_model.specs.Commands.{partitions_of, rows_in}
use Rattle.mt_model.proofs.Commands.{partition_is, same_itself}
use Rattle.block_split.specs.declared.grouping.Group.{Group}
use Rattle.block_split.specs.Groups.{group_rows, placed}
use Rattle.block_split.specs.Split.{split_rows}
use Rattle.block_split.proofs.Partitions.{AreDistinct, distinct_partitions, inserted, no_rows, occurs, partitions_more}

-- ---- a row more

-- the row comes last of its partition's, or first of a new one's
abbrev pub put : Partition → Row → List (Partition × List Row) → List (Partition × List Row)
put p row [] = (p, row ∷ []) ∷ []
put p row (x ∷ xs) = cond (same_partition p x.0) ((x.0, x.1 ++ row ∷ []) ∷ xs) (x ∷ put p row xs)

module _ (p : Partition) (row : Row) (f g : Partition → List Row) (more : (q : Partition) → g q ≡ f q ++ cond (same_partition p q) (row ∷ []) []) where
  abbrev with_f : Partition → Partition × List Row
  with_f q = (q, f q)

  abbrev with_g : Partition → Partition × List Row
  with_g q = (q, g q)

  stays : (q : Partition) → same_partition p q ≡ false → with_f q ≡ with_g q
  stays q e = ap (λ rs. (q, rs)) (sym (more q ∙ ap (λ c. f q ++ cond c (row ∷ []) []) e ∙ append-nil (f q)))

  gains : (q : Partition) → same_partition p q ≡ true → (q, f q ++ row ∷ []) ≡ with_g q
  gains q e = ap (λ rs. (q, rs)) (sym (more q ∙ ap (λ c. f q ++ cond c (row ∷ []) []) e))

  all_stay : (qs : List Partition) → occurs p qs ≡ false → map with_f qs ≡ map with_g qs
  all_stay [] none = refl
  all_stay (q ∷ qs) none = by (all_stay qs) (same_partition p q) refl none
    where
      by : (occurs p qs ≡ false → map with_f qs ≡ map with_g qs) → (b : Bool) → same_partition p q ≡ b → (b || occurs p qs) ≡ false → map with_f (q ∷ qs) ≡ map with_g (q ∷ qs)
      by rest true e h = cc
      by rest false e h = ap₂ (λ x xs. x ∷ xs) (stays q e) (rest h)

  put_there : (qs : List Partition) → AreDistinct qs → occurs p qs ≡ true → put p row (map with_f qs) ≡ map with_g qs
  put_there [] are there = cc
  put_there (q ∷ qs) are there = by (put_there qs are.1) (same_partition p q) refl there
    where
      by : (occurs p qs ≡ true → put p row (map with_f qs) ≡ map with_g qs) → (b : Bool) → same_partition p q ≡ b → (b || occurs p qs) ≡ true → cond b ((q, f q ++ row ∷ []) ∷ map with_f qs) (with_f q ∷ put p row (map with_f qs)) ≡ map with_g (q ∷ qs)
      by rest true e h = ap₂ (λ x xs. x ∷ xs) (gains q e) (all_stay qs (subst (λ x. occurs x qs ≡ false) (sym (partition_is p q e)) are.0))
      by rest false e h = ap₂ (λ x xs. x ∷ xs) (stays q e) (rest h)

  put_new : (qs : List Partition) → occurs p qs ≡ false → f p ≡ [] → put p row (map with_f qs) ≡ map with_g (qs ++ p ∷ [])
  put_new [] none empty =
      ap (λ rs. (p, rs) ∷ []) (sym (more p ∙ ap₂ (λ rs c. rs ++ cond c (row ∷ []) []) empty (same_itself p)))
  put_new (q ∷ qs) none empty = by (λ h. put_new qs h empty) (same_partition p q) refl none
    where
      by : (occurs p qs ≡ false → put p row (map with_f qs) ≡ map with_g (qs ++ p ∷ [])) → (b : Bool) → same_partition p q ≡ b → (b || occurs p qs) ≡ false
          → cond b ((q, f q ++ row ∷ []) ∷ map with_f qs) (with_f q ∷ put p row (map with_f qs)) ≡ map with_g (q ∷ qs ++ p ∷ [])
      by rest true e h = cc
      by rest false e h = ap₂ (λ x xs. x ∷ xs) (stays q e) (rest h)

rows_more : (schema : Schema) (rows : List Row) (row : Row) (q : Partition) → rows_in schema q (rows ++ row ∷ []) ≡ rows_in schema q rows ++ cond (same_partition (partition_of schema row) q) (row ∷ []) []
rows_more schema rows row q = filter-append (λ (r : Row). same_partition (partition_of schema r) q) rows (row ∷ [])

-- the split rows with a row more
pub split_more : (schema : Schema) (rows : List Row) (row : Row) → put (partition_of schema row) row (split_rows schema rows) ≡ split_rows schema (rows ++ row ∷ [])
split_more schema rows row =
    by (occurs p ps) refl ∙ sym (ap (map (λ q. (q, rows_in schema q (rows ++ row ∷ [])))) (partitions_more schema rows row))
  where
    p : Partition
    p = partition_of schema row

    ps : List Partition
    ps = partitions_of schema rows

    by : (b : Bool) → occurs (partition_of schema row) (partitions_of schema rows) ≡ b
        → put (partition_of schema row) row (split_rows schema rows)
        ≡ map (λ q. (q, rows_in schema q (rows ++ row ∷ []))) (inserted (partitions_of schema rows) (partition_of schema row))
    by true e =
        put_there (partition_of schema row) row (λ q. rows_in schema q rows) (λ q. rows_in schema q (rows ++ row ∷ [])) (rows_more schema rows row) (partitions_of schema rows) (distinct_partitions schema rows) e
        ∙ ap (λ c. map (λ q. (q, rows_in schema q (rows ++ row ∷ []))) (cond c (partitions_of schema rows) (partitions_of schema rows ++ partition_of schema row ∷ []))) (sym e)
    by false e =
        put_new (partition_of schema row) row (λ q. rows_in schema q rows) (λ q. rows_in schema q (rows ++ row ∷ [])) (rows_more schema rows row) (partitions_of schema rows) e (no_rows schema (partition_of schema row) rows e)
        ∙ ap (λ c. map (λ q. (q, rows_in schema q (rows ++ row ∷ []))) (cond c (partitions_of schema rows) (partitions_of schema rows ++ partition_of schema row ∷ []))) (sym e)

-- ---- a place more

picked_last : (rows : List Row) (places : List ℕ) (k : ℕ) (row : Row) → slice_get rows k ≡ Some row → picked rows (places ++ k ∷ []) ≡ picked rows places ++ row ∷ []
picked_last rows places k row is =
    filter_map-append (slice_get rows) places (k ∷ []) ∙ ap (λ o. picked rows places ++ cons_option o []) is

-- a place that comes to the groups is a row that comes to the lists
pub put_placed : (rows : List Row) (n k : ℕ) (row : Row) (gs : List Group) → slice_get rows k ≡ Some row → map (group_rows rows) (placed n k gs) ≡ put (Number n) row (map (group_rows rows) gs)
put_placed rows n k row [] is = ap (λ rs. (Number n, rs) ∷ []) (picked_last rows [] k row is)
put_placed rows n k row (g ∷ gs) is = by (put_placed rows n k row gs is) (nat_eq n g.number)
  where
    by : map (group_rows rows) (placed n k gs) ≡ put (Number n) row (map (group_rows rows) gs) → (b : Bool) → map (group_rows rows) (cond b (record g { places = g.places ++ k ∷ [] } ∷ gs) (g ∷ placed n k gs))
        ≡ cond b ((Number g.number, picked rows g.places ++ row ∷ []) ∷ map (group_rows rows) gs) (group_rows rows g ∷ put (Number n) row (map (group_rows rows) gs))
    by rest true = ap (λ rs. (Number g.number, rs) ∷ map (group_rows rows) gs) (picked_last rows g.places k row is)
    by rest false = ap (λ xs. group_rows rows g ∷ xs) rest

-- the groups of the rows so far, and of one more
pub groups_more : (schema : Schema) (rows done : List Row) (n k : ℕ) (row : Row) (gs : List Group) → slice_get rows k ≡ Some row → partition_of schema row ≡ Number n
    → map (group_rows rows) gs ≡ split_rows schema done → map (group_rows rows) (placed n k gs) ≡ split_rows schema (done ++ row ∷ [])
groups_more schema rows done n k row gs is own so =
    put_placed rows n k row gs is
    ∙ ap₂ (λ p xs. put p row xs) (sym own) so
    ∙ split_more schema done row

abbrev pub AreBelow : ℕ → Group → Type 0
AreBelow n g = All (λ place. place < n) g.places

-- the groups' places are below a number that the new place is below
pub placed_within : (m n k : ℕ) (gs : List Group) → k < m → All (AreBelow m) gs → All (AreBelow m) (placed n k gs)
placed_within m n k [] below are =
    All-cons (AreBelow m) (record { number = n; places = k ∷ [] }) [] (All-cons (λ place. place < m) k [] below (All-nil (λ place. place < m))) (All-nil (AreBelow m))
placed_within m n k (g ∷ gs) below are = by (placed_within m n k gs below (All-tail (AreBelow m) g gs are)) (nat_eq n g.number)
  where
    by : All (AreBelow m) (placed n k gs) → (b : Bool) → All (AreBelow m) (cond b (record g { places = g.places ++ k ∷ [] } ∷ gs) (g ∷ placed n k gs))
    by rest true = All-cons (AreBelow m) (record g { places = g.places ++ k ∷ [] }) gs (All-push (λ place. place < m) g.places k (All-head (AreBelow m) g gs are) below) (All-tail (AreBelow m) g gs are)
    by rest false = All-cons (AreBelow m) g (placed n k gs) (All-head (AreBelow m) g gs are) rest

-- ---- how the place comes to the groups

abbrev pub numbers_in : List Group → List ℕ
numbers_in gs = map (λ (g : Group). g.number) gs

-- a new number's group comes last
pub placed_new : (n k : ℕ) (gs : List Group) → list_any (nat_eq n) (numbers_in gs) ≡ false → placed n k gs ≡ gs ++ record { number = n; places = k ∷ [] } ∷ []
placed_new n k [] none = refl
placed_new n k (g ∷ gs) none = by (placed_new n k gs) (nat_eq n g.number) none
  where
    by : (list_any (nat_eq n) (numbers_in gs) ≡ false → placed n k gs ≡ gs ++ record { number = n; places = k ∷ [] } ∷ []) → (b : Bool) → (b || list_any (nat_eq n) (numbers_in gs)) ≡ false
        → cond b (record g { places = g.places ++ k ∷ [] } ∷ gs) (g ∷ placed n k gs) ≡ g ∷ gs ++ record { number = n; places = k ∷ [] } ∷ []
    by rest true h = cc
    by rest false h = ap (λ xs. g ∷ xs) (rest h)

-- the group of a number that is there gets the place
pub placed_there : (n k : ℕ) (gs : List Group) (i : ℕ) (g : Group) → i ≡ position_or_len (nat_eq n) (numbers_in gs) → i < length gs → g ≡ get_or gs i g
    → placed n k gs ≡ set gs i (record g { places = g.places ++ k ∷ [] })
placed_there n k [] i g is below at = absurd (omega arith)
placed_there n k (x ∷ gs) zero g is below at = by (nat_eq n x.number) is
  where
    by : (b : Bool) → 0 ≡ cond (not b) (1 + position_or_len (nat_eq n) (numbers_in gs)) 0
        → cond b (record x { places = x.places ++ k ∷ [] } ∷ gs) (x ∷ placed n k gs) ≡ record g { places = g.places ++ k ∷ [] } ∷ gs
    by true e = ap (λ (y : Group). record y { places = y.places ++ k ∷ [] } ∷ gs) (sym at)
    by false e = absurd (omega (arith, e))
placed_there n k (x ∷ gs) (suc i) g is below at = by (λ e. placed_there n k gs i g e (omega arith) at) (nat_eq n x.number) is
  where
    by : (i ≡ position_or_len (nat_eq n) (numbers_in gs) → placed n k gs ≡ set gs i (record g { places = g.places ++ k ∷ [] })) → (b : Bool)
        → suc i ≡ cond (not b) (1 + position_or_len (nat_eq n) (numbers_in gs)) 0
        → cond b (record x { places = x.places ++ k ∷ [] } ∷ gs) (x ∷ placed n k gs) ≡ x ∷ set gs i (record g { places = g.places ++ k ∷ [] })
    by rest true e = absurd (omega (arith, e))
    by rest false e = ap (λ xs. x ∷ xs) (rest (omega (arith, e)))

-- the numbers stay as a group gets a place
pub numbers_stay : (gs : List Group) (i : ℕ) (g h : Group) → g ≡ get_or gs i g → h.number ≡ g.number → numbers_in (set gs i h) ≡ numbers_in gs
numbers_stay gs i g h at is = map-set_same (λ (x : Group). x.number) gs i h g (is ∙ ap (λ (x : Group). x.number) at)

abbrev pub AreFew : ℕ → Group → Type 0
AreFew n g = length g.places ≤ n

-- a group has at most a place for each row so far
pub placed_few : (n k m : ℕ) (gs : List Group) → All (AreFew m) gs → All (AreFew (m + 1)) (placed n k gs)
placed_few n k m [] are = All-cons (AreFew (m + 1)) (record { number = n; places = k ∷ [] }) [] (omega arith) (All-nil (AreFew (m + 1)))
placed_few n k m (g ∷ gs) are = by (placed_few n k m gs (All-tail (AreFew m) g gs are)) (nat_eq n g.number)
  where
    more : (xs : List Group) → All (AreFew m) xs → All (AreFew (m + 1)) xs
    more xs h = All-weaker (AreFew m) (AreFew (m + 1)) (λ x few. omega arith) xs h

    by : All (AreFew (m + 1)) (placed n k gs) → (b : Bool) → All (AreFew (m + 1)) (cond b (record g { places = g.places ++ k ∷ [] } ∷ gs) (g ∷ placed n k gs))
    by rest true =
        All-cons (AreFew (m + 1)) (record g { places = g.places ++ k ∷ [] }) gs
        (omega (arith, length-append g.places (k ∷ []), All-head (AreFew m) g gs are))
        (more gs (All-tail (AreFew m) g gs are))
    by rest false = All-cons (AreFew (m + 1)) g (placed n k gs) (omega (arith, All-head (AreFew m) g gs are)) rest

-- what is not new is there
pub not_new : (b : Bool) → not b ≡ true → b ≡ false
not_new true e = cc
not_new false e = refl

pub is_there : (b : Bool) → not b ≡ false → b ≡ true
is_there true e = refl
is_there false e = cc

-- the partition of a row whose number in the column is this
pub own_number : (schema : Schema) (types : List ColType) (rows : List Row) (column k n : ℕ) (v : Value) → schema.partition ≡ Some column → AreRowsOf types rows → column < length types
    → slice_get (column_of column rows) k ≡ Some v → n ≡ number_in v → partition_of schema (get_or rows k []) ≡ Number n
own_number schema types rows column k n v is typed below found e =
    ap (λ o. partition_by_column o (get_or rows k [])) is
    ∙ ap (λ o. Number (number_at o)) (value_at types rows column k v typed below found)
    ∙ ap Number (sym e)
