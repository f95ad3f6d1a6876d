-- What changes make of rows that are kept by columns.
use Rattle.std.proofs.Common.{◌≡◌, ◌≢◌, ◌⊎◌, ℕ, suc, ◌+◌, ◌<◌, ◌≤◌, Bool, true, false, cond, not, nat_eq, List, [], ◌∷◌, ◌++◌, length, map, filter, filter_map, get_or, take, All, IfSome, Option, None, Some, option_map, slice_get, set, fold, refl, sym, ap, ap₂, ◌∙◌, subst, subst₂, inl, inr, arith, zero-add, append-nil}
use Rattle.std.specs.List.{cons_option, range_with_len}
use Rattle.std.proofs.lemmas.Bool.{eq-eqb, eqb-true}
use Rattle.std.proofs.lemmas.Bool.Decides.{eqb_tells}
use Rattle.std.proofs.lemmas.List.{get_or-map, get_or_default, length-map, length-take-le}
use Rattle.std.proofs.lemmas.List.Elements.{All-filter, All-head, All-map, All-tail, All-weaker, filter-append}
use Rattle.std.proofs.lemmas.List.Filters.{length-filter_both}
use Rattle.std.proofs.lemmas.List.FromFn.{length-range_with_len}
use Rattle.std.proofs.lemmas.Option.{same_Some, slice_get-get_or, slice_get_within}
use Rattle.mt_values.specs.declared.change.Assigned.{Assigned}
use Rattle.mt_values.specs.declared.change.Assigned.TheVariants as assigned
use Rattle.mt_values.specs.declared.change.Assignment.{Assignment}
use Rattle.mt_values.specs.declared.expr.Test.{Test}
use Rattle.mt_values.specs.declared.mutation.Mutation.{Mutation}
use Rattle.mt_values.specs.declared.value.ColType.{ColType}
use Rattle.mt_values.specs.declared.value.ColType.TheVariants.{UInt8}
use Rattle.mt_values.specs.declared.value.Value.{Value}
use Rattle.mt_values.specs.declared.value.Value.TheVariants as value
use Rattle.mt_values.specs.Changes.{changed, mutated, updated, value_for, with_value}
use Rattle.mt_values.specs.Conditions.{Condition}
use Rattle.mt_values.specs.Grid.{AreRowsOf, Cells, Grid, column_of, grid_of, picked}
use Rattle.mt_values.specs.Sums.{less, plus}
use Rattle.mt_values.specs.Tests.{eval}
use Rattle.mt_values.specs.Values.{Row, type_of, types_of}
use Rattle.mt_values.proofs.Grids.{All-range, AreEven, AreEven-columns_from, HaveLength, columns_from, filter_map_more, lengths_typed, range_more, rows_of-columns_from, type_at, types-columns_from}
use Rattle.mt_values.proofs.OrderBy.{value_at}
use Rattle.mt_values.proofs.SetItems.{put_apart, put_length, set_there}
use Rattle.mt_values.proofs.Wrapping.{less_type, plus_type}
use Rattle.on_fly.specs.Updates.{FitsColumn, HasType, IsOfTypes, last_assigned, places_unmet, put_value, updated_if}
use Rattle.on_fly.proofs.Steps.{fold_more, mutated_more}

-- a block with other rows
abbrev pub with_rows : Grid → List Row → Grid
with_rows g rows = record { types = g.types; rows = rows }

-- one mutation more
pub block_more : (g now next : Grid) (ms : List Mutation) (i : ℕ) (m : Mutation) → i < length ms → m ≡ get_or ms i m → now ≡ with_rows g (mutated (take i ms) g.rows) → next ≡ with_rows now (changed m.change now.rows)
    → next ≡ with_rows g (mutated (take (i + 1) ms) g.rows)
block_more g now next ms i m lt item is more =
    more
    ∙ (ap (λ (b : Grid). with_rows b (changed m.change b.rows)) is
    ∙ ap (with_rows g) (ap (λ (k : Mutation). changed k.change (mutated (take i ms) g.rows)) item ∙ sym (mutated_more ms g.rows i m lt)))

-- ---- the rows that stay

places_of : (f : ℕ → Option Row) (q : ℕ → Bool) (p : Row → Bool) (a : ℕ) (xs : List Row) → ((k : ℕ) → f (a + k) ≡ slice_get xs k)
    → ((k : ℕ) → k < length xs → q (a + k) ≡ not (get_or (map p xs) k false))
    → filter_map f (filter q (range_with_len a (length xs))) ≡ filter (λ row. not (p row)) xs
places_of f q p a [] found asked = refl
places_of f q p a (x ∷ xs) found asked =
    let at : a + 0 ≡ a = omega arith in
    let here : f a ≡ Some x = ap f (sym at) ∙ found 0 in
    let says : q a ≡ not (p x) = ap q (sym at) ∙ asked 0 (omega arith) in
    let next : (k : ℕ) → (a + 1) + k ≡ a + suc k = λ k. omega arith in
    let rest = places_of f q p (a + 1) xs (λ k. ap f (next k) ∙ found (suc k)) (λ k below. ap q (next k) ∙ asked (suc k) (omega (arith, below))) in
    ap (λ b. filter_map f (cond b (a ∷ filter q (range_with_len (a + 1) (length xs))) (filter q (range_with_len (a + 1) (length xs))))) says
    ∙ by (filter q (range_with_len (a + 1) (length xs))) (filter (λ row. not (p row)) xs) (p x) here rest
  where
    by : (ks : List ℕ) (rs : List Row) (b : Bool) → f a ≡ Some x → filter_map f ks ≡ rs → filter_map f (cond (not b) (a ∷ ks) ks) ≡ cond (not b) (x ∷ rs) rs
    by ks rs true here rest = rest
    by ks rs false here rest = ap₂ cons_option here rest

-- the rows whose answers are false
picked_unmet : (p : Row → Bool) (rows : List Row) (met : List Bool) → met ≡ map p rows → picked rows (places_unmet met) ≡ filter (λ row. not (p row)) rows
picked_unmet p rows met is =
    ap (λ m. picked rows (places_unmet m)) is
    ∙ (ap (λ n. picked rows (filter (λ place. not (get_or (map p rows) place false)) (range_with_len 0 n))) (length-map rows p)
    ∙ places_of (slice_get rows) (λ place. not (get_or (map p rows) place false)) p 0 rows (λ k. ap (slice_get rows) (zero-add k))
    (λ k below. ap (λ j. not (get_or (map p rows) j false)) (zero-add k)))

-- are those of the block that is left
pub rows_left : (g b : Grid) (p : Row → Bool) (met : List Bool) (order : List ℕ) → met ≡ map p g.rows → order ≡ places_unmet met → b ≡ with_rows g (picked g.rows order) → b ≡ with_rows g (filter (λ row. not (p row)) g.rows)
rows_left g b p met order asked places is =
    is ∙ ap (with_rows g) (ap (picked g.rows) places ∙ picked_unmet p g.rows met asked)

-- their places are places of rows
pub unmet_within : (p : Row → Bool) (rows : List Row) (met : List Bool) (order : List ℕ) → met ≡ map p rows → order ≡ places_unmet met → All (λ place. place < length rows) order
unmet_within p rows met order asked places =
    let size : length met ≡ length rows = ap length asked ∙ length-map rows p in
    let below = All-range (λ place. place < length rows) (length met) (λ k lt. omega (arith, lt, size)) in
    subst (All (λ place. place < length rows)) (sym places) (All-filter (λ place. not (get_or met place false)) (λ place. place < length rows) (range_with_len 0 (length met)) below)

-- and no more than 32 bits count
pub unmet_few : (p : Row → Bool) (rows : List Row) (met : List Bool) (order : List ℕ) → met ≡ map p rows → order ≡ places_unmet met → length order ≤ length rows
unmet_few p rows met order asked places =
    let q : ℕ → Bool = λ place. not (get_or met place false) in
    let size : length met ≡ length rows = ap length asked ∙ length-map rows p in
    omega (arith, size, ap length places, length-filter_both q (λ place. not (q place)) (λ place. refl) (range_with_len 0 (length met)), length-range_with_len 0 (length met))

-- the places among the first answers
abbrev pub unmet_before : List Bool → ℕ → List ℕ
unmet_before met n = filter (λ place. not (get_or met place false)) (range_with_len 0 (length (take n met)))

one_unmet : (met : List Bool) (i : ℕ) (b : Bool) → i < length met → get_or met i false ≡ b → unmet_before met (i + 1) ≡ unmet_before met i ++ cond (not b) (i ∷ []) []
one_unmet met i b lt is =
    let q : ℕ → Bool = λ place. not (get_or met place false) in
    let one : length (take (i + 1) met) ≡ i + 1 = length-take-le (i + 1) met (omega (arith, lt)) in
    let none : i ≡ length (take i met) = sym (length-take-le i met (omega (arith, lt))) in
    ap (λ n. filter q (range_with_len 0 n)) one
    ∙ (ap (filter q) (range_more i)
    ∙ (filter-append q (range_with_len 0 i) (i ∷ [])
    ∙ (ap (λ t. filter q (range_with_len 0 i) ++ cond (not t) (i ∷ []) []) is
    ∙ ap (λ n. filter q (range_with_len 0 n) ++ cond (not b) (i ∷ []) []) none)))

-- one answer more that is true
pub met_passed : (met : List Bool) (i : ℕ) → i < length met → get_or met i false ≡ true → unmet_before met (i + 1) ≡ unmet_before met i
met_passed met i lt is = one_unmet met i true lt is ∙ append-nil (unmet_before met i)

-- and one that is false
pub unmet_more : (met : List Bool) (i : ℕ) → i < length met → get_or met i false ≡ false → unmet_before met (i + 1) ≡ unmet_before met i ++ i ∷ []
unmet_more met i lt is = one_unmet met i false lt is

-- ---- what is assigned to one column

module _ (place : ℕ) (puts : List Assignment) (i : ℕ) (a : Assignment) (lt : i < length puts) (item : a ≡ get_or puts i a) where
  last_more : last_assigned place (take (i + 1) puts) ≡ cond (nat_eq a.column place) (Some a.value) (last_assigned place (take i puts))
  last_more =
      fold_more (λ (found : Option Assigned) (b : Assignment). cond (nat_eq b.column place) (Some b.value) found) None puts i a lt
      ∙ ap (λ (b : Assignment). cond (nat_eq b.column place) (Some b.value) (last_assigned place (take i puts))) (sym item)

  -- an assignment of the column
  pub last_next : a.column ≡ place → last_assigned place (take (i + 1) puts) ≡ Some a.value
  last_next same = last_more ∙ ap (λ b. cond b (Some a.value) (last_assigned place (take i puts))) (eq-eqb a.column place same)

  -- and one of another
  pub last_stays : a.column ≢ place → last_assigned place (take (i + 1) puts) ≡ last_assigned place (take i puts)
  last_stays apart = by (eqb_tells a.column place)
    where
      by : ((nat_eq a.column place ≡ true) × (a.column ≡ place)) ⊎ ((nat_eq a.column place ≡ false) × (a.column ≢ place)) → last_assigned place (take (i + 1) puts) ≡ last_assigned place (take i puts)
      by (inl (told, same)) = absurd (apart same)
      by (inr (told, other)) = last_more ∙ ap (λ b. cond b (Some a.value) (last_assigned place (take i puts))) told

typed_from : (types : List ColType) (place : ℕ) (puts : List Assignment) (found : Option Assigned) → All (IsOfTypes types) puts → IfSome found (FitsColumn types place)
    → IfSome (fold (λ (f : Option Assigned) (a : Assignment). cond (nat_eq a.column place) (Some a.value) f) found puts) (FitsColumn types place)
typed_from types place [] found all fits = fits
typed_from types place (a ∷ puts) found all fits =
    typed_from types place puts (cond (nat_eq a.column place) (Some a.value) found) (All-tail (IsOfTypes types) a puts all) (by (nat_eq a.column place) refl)
  where
    by : (b : Bool) → nat_eq a.column place ≡ b → IfSome (cond b (Some a.value) found) (FitsColumn types place)
    by true told = λ t there. All-head (IsOfTypes types) a puts all t (ap (slice_get types) (eqb-true a.column place told) ∙ there)
    by false told = fits

-- what is assigned last is of the column's type
pub last_fits : (types : List ColType) (place : ℕ) (puts : List Assignment) (x : Assigned) → All (IsOfTypes types) puts → last_assigned place puts ≡ Some x → FitsColumn types place x
last_fits types place puts x all is = subst (λ (o : Option Assigned). IfSome o (FitsColumn types place)) is (typed_from types place puts None all tt)

-- ---- values of a row

-- a column that is read is there
pub column_there : (types : List ColType) (x : Assigned) (source : ℕ) → ((t : ColType) × HasType types t x) → x ≡ assigned.Column source → source < length types
column_there types x source has is = slice_get_within types source has.0 (subst (HasType types has.0) is has.1)

pub plus_there : (types : List ColType) (x : Assigned) (source : ℕ) (number : Value) → ((t : ColType) × HasType types t x) → x ≡ assigned.Plus source number → source < length types
plus_there types x source number has is = slice_get_within types source has.0 (subst (HasType types has.0) is has.1)

pub minus_there : (types : List ColType) (x : Assigned) (source : ℕ) (number : Value) → ((t : ColType) × HasType types t x) → x ≡ assigned.Minus source number → source < length types
minus_there types x source number has is = slice_get_within types source has.0 (subst (HasType types has.0) is has.1)

-- the value of a column that was assigned this last, or nothing
abbrev read_last : Row → ℕ → Option Assigned → Option Value
read_last row place None = slice_get row place
read_last row place (Some x) = value_for row x

module _ (types : List ColType) (row : Row) (typed : types_of row ≡ types) where
  value_there : (source : ℕ) (t : ColType) → slice_get types source ≡ Some t → (v : Value) × (slice_get row source ≡ Some v)
  value_there source t there =
      let below : source < length types = slice_get_within types source t there in
      let size : length row ≡ length types = sym (length-map row type_of) ∙ ap length typed in
      (get_or row source (value.UInt8 0), slice_get-get_or row source (value.UInt8 0) (omega (arith, below, size)))

  kind_at : (source : ℕ) (t : ColType) (v : Value) → slice_get types source ≡ Some t → slice_get row source ≡ Some v → type_of v ≡ t
  kind_at source t v there is = type_at source t row v (ap (λ (ts : List ColType). slice_get ts source) typed ∙ there) is

  -- a value that is assigned has the type of its column
  pub value_typed : (x : Assigned) (t : ColType) (v : Value) → HasType types t x → value_for row x ≡ Some v → type_of v ≡ t
  value_typed (assigned.Literal w) t v has is = ap type_of (sym (same_Some w v is)) ∙ has
  value_typed (assigned.Column source) t v has is = kind_at source t v has is
  value_typed (assigned.Plus source number) t v has is =
      let w = value_there source t has in
      let same : plus w.0 number ≡ v = same_Some (plus w.0 number) v (sym (ap (option_map (λ u. plus u number)) w.1) ∙ is) in
      ap type_of (sym same) ∙ (plus_type w.0 number ∙ kind_at source t w.0 has w.1)
  value_typed (assigned.Minus source number) t v has is =
      let w = value_there source t has in
      let same : less w.0 number ≡ v = same_Some (less w.0 number) v (sym (ap (option_map (λ u. less u number)) w.1) ∙ is) in
      ap type_of (sym same) ∙ (less_type w.0 number ∙ kind_at source t w.0 has w.1)

  value_read : (x : Assigned) (t : ColType) → HasType types t x → (v : Value) × (value_for row x ≡ Some v)
  value_read (assigned.Literal v) t has = (v, refl)
  value_read (assigned.Column source) t has = value_there source t has
  value_read (assigned.Plus source number) t has = let v = value_there source t has in (plus v.0 number, ap (option_map (λ w. plus w number)) v.1)
  value_read (assigned.Minus source number) t has = let v = value_there source t has in (less v.0 number, ap (option_map (λ w. less w number)) v.1)

  module _ (place : ℕ) (t : ColType) (there : slice_get types place ≡ Some t) where
    within : place < length row
    within = slice_get_within row place (value_there place t there).0 (value_there place t there).1

    one_last : (a : Assignment) (new : Row) (found : Option Assigned) → IsOfTypes types a → length new ≡ length row → slice_get new place ≡ read_last row place found
        → slice_get (with_value new a.column (value_for row a.value)) place ≡ read_last row place (cond (nat_eq a.column place) (Some a.value) found)
    one_last a new found own even was = by (eqb_tells a.column place)
      where
        by : ((nat_eq a.column place ≡ true) × (a.column ≡ place)) ⊎ ((nat_eq a.column place ≡ false) × (a.column ≢ place))
            → slice_get (with_value new a.column (value_for row a.value)) place ≡ read_last row place (cond (nat_eq a.column place) (Some a.value) found)
        by (inl (told, same)) =
            let v = value_read a.value t (own t (ap (slice_get types) same ∙ there)) in
            let below : a.column < length new = omega (arith, same, within, even) in
            ap (λ o. slice_get (with_value new a.column o) place) v.1
            ∙ (ap (slice_get (set new a.column v.0)) (sym same)
            ∙ (set_there new a.column v.0 below
            ∙ (sym v.1 ∙ ap (λ b. read_last row place (cond b (Some a.value) found)) (sym told))))
        by (inr (told, apart)) =
            put_apart new a.column place (value_for row a.value) apart ∙ (was ∙ ap (λ b. read_last row place (cond b (Some a.value) found)) (sym told))

    last_from : (puts : List Assignment) (new : Row) (found : Option Assigned) → All (IsOfTypes types) puts → length new ≡ length row → slice_get new place ≡ read_last row place found
        → slice_get (fold (λ (n : Row) (a : Assignment). with_value n a.column (value_for row a.value)) new puts) place
        ≡ read_last row place (fold (λ (f : Option Assigned) (a : Assignment). cond (nat_eq a.column place) (Some a.value) f) found puts)
    last_from [] new found all even was = was
    last_from (a ∷ puts) new found all even was =
        last_from puts (with_value new a.column (value_for row a.value)) (cond (nat_eq a.column place) (Some a.value) found) (All-tail (IsOfTypes types) a puts all)
        (put_length new a.column (value_for row a.value) ∙ even) (one_last a new found (All-head (IsOfTypes types) a puts all) even was)

    module _ (puts : List Assignment) (all : All (IsOfTypes types) puts) (c : Condition Test) where
      -- a column of a row after assignments: what it is assigned last, or its value
      last_is : slice_get (updated puts row) place ≡ read_last row place (last_assigned place puts)
      last_is = last_from puts row None all refl refl

      -- what is assigned last stands there in a row that meets the condition
      pub put_is : (x : Assigned) → last_assigned place puts ≡ Some x → put_value place x (eval c row) row ≡ slice_get (updated_if puts c row) place
      put_is x last = by (eval c row)
        where
          by : (b : Bool) → cond b (value_for row x) (slice_get row place) ≡ slice_get (cond b (updated puts row) row) place
          by true = sym (last_is ∙ ap (read_last row place) last)
          by false = refl

      -- where nothing is assigned the value stays
      pub same_is : last_assigned place puts ≡ None → slice_get row place ≡ slice_get (updated_if puts c row) place
      same_is none = by (eval c row)
        where
          by : (b : Bool) → slice_get row place ≡ slice_get (cond b (updated puts row) row) place
          by true = sym (last_is ∙ ap (read_last row place) none)
          by false = refl

-- ---- all rows

by_rows : (types : List ColType) (place : ℕ) (g : Row → Row) (h : Row → Option Value) → ((row : Row) → types_of row ≡ types → h row ≡ slice_get (g row) place) → (rows : List Row) → AreRowsOf types rows
    → filter_map h rows ≡ column_of place (map g rows)
by_rows types place g h same [] typed = refl
by_rows types place g h same (row ∷ rows) typed =
    ap₂ cons_option (same row (All-head (λ r. types_of r ≡ types) row rows typed)) (by_rows types place g h same rows (All-tail (λ r. types_of r ≡ types) row rows typed))

module _ (types : List ColType) (rows : List Row) (typed : AreRowsOf types rows) (place : ℕ) (below : place < length types) where
  there : slice_get types place ≡ Some (get_or types place UInt8)
  there = slice_get-get_or types place UInt8 below

  -- the column of the updated rows, where it is assigned this last
  pub column_put : (puts : List Assignment) (c : Condition Test) (x : Assigned) → All (IsOfTypes types) puts → last_assigned place puts ≡ Some x
      → filter_map (λ row. put_value place x (eval c row) row) rows ≡ column_of place (map (updated_if puts c) rows)
  column_put puts c x all last =
      by_rows types place (updated_if puts c) (λ row. put_value place x (eval c row) row) (λ row is. put_is types row is place (get_or types place UInt8) there puts all c x last) rows typed

  -- and where it is assigned nothing
  pub column_same : (puts : List Assignment) (c : Condition Test) → All (IsOfTypes types) puts → last_assigned place puts ≡ None → column_of place rows ≡ column_of place (map (updated_if puts c) rows)
  column_same puts c all none =
      by_rows types place (updated_if puts c) (λ row. slice_get row place) (λ row is. same_is types row is place (get_or types place UInt8) there puts all c none) rows typed

  module _ (i : ℕ) (lt : i < length rows) where
    abbrev row : Row
    row = get_or rows i []

    -- a value of the column is of its type
    pub old_typed : (t : ColType) (v : Value) → slice_get types place ≡ Some t → slice_get (column_of place rows) i ≡ Some v → type_of v ≡ t
    old_typed t v kind is =
        type_at place t row v (ap (λ (ts : List ColType). slice_get ts place) (typed i [] lt) ∙ kind) (value_at types rows place i v typed below is)

    -- and so is one that is assigned
    pub new_typed : (x : Assigned) (t : ColType) (v : Value) → HasType types t x → value_for row x ≡ Some v → type_of v ≡ t
    new_typed x t v has is = value_typed types row (typed i [] lt) x t v has is

    module _ (x : Assigned) (meets : Row → Bool) (met : List Bool) (asked : met ≡ map meets rows) where
      said : (b : Bool) → get_or met i false ≡ b → meets row ≡ b
      said b is = sym (get_or-map meets rows i [] false lt) ∙ (ap (λ ms. get_or ms i false) (sym asked) ∙ is)

      next : (v : Value) (values : List Value) → put_value place x (meets row) row ≡ Some v → values ≡ filter_map (λ r. put_value place x (meets r) r) (take i rows)
          → values ++ v ∷ [] ≡ filter_map (λ r. put_value place x (meets r) r) (take (i + 1) rows)
      next v values is so_far =
          ap (λ vs. vs ++ v ∷ []) so_far
          ∙ sym (filter_map_more (λ r. put_value place x (meets r) r) rows i row v lt (get_or_default rows i [] row lt) is)

      -- one row more that does not meet the condition
      pub kept_more : (v : Value) (values : List Value) → get_or met i false ≡ false → slice_get (column_of place rows) i ≡ Some v → values ≡ filter_map (λ r. put_value place x (meets r) r) (take i rows)
          → values ++ v ∷ [] ≡ filter_map (λ r. put_value place x (meets r) r) (take (i + 1) rows)
      kept_more v values unmet is so_far =
          next v values (ap (λ b. put_value place x b row) (said false unmet) ∙ value_at types rows place i v typed below is) so_far

      -- and one that does
      pub put_more : (v : Value) (values : List Value) → get_or met i false ≡ true → value_for row x ≡ Some v → values ≡ filter_map (λ r. put_value place x (meets r) r) (take i rows)
          → values ++ v ∷ [] ≡ filter_map (λ r. put_value place x (meets r) r) (take (i + 1) rows)
      put_more v values is_met is so_far = next v values (ap (λ b. put_value place x b row) (said true is_met) ∙ is) so_far

-- ---- the block of the updated rows

to_length : (old new : Row) (puts : List Assignment) → length (fold (λ (n : Row) (a : Assignment). with_value n a.column (value_for old a.value)) new puts) ≡ length new
to_length old new [] = refl
to_length old new (a ∷ puts) = to_length old (with_value new a.column (value_for old a.value)) puts ∙ put_length new a.column (value_for old a.value)

module _ (types : List ColType) (puts : List Assignment) (c : Condition Test) (rows : List Row) (typed : AreRowsOf types rows) where
  -- rows that are updated keep their lengths
  lengths : HaveLength (length types) (map (updated_if puts c) rows)
  lengths =
      All-map (λ row. length row ≡ length types) (updated_if puts c) rows
      (All-weaker (λ row. length row ≡ length types) (λ row. length (updated_if puts c row) ≡ length types) (λ row is. by row (eval c row) is) rows (lengths_typed types rows typed))
    where
      by : (old : Row) (b : Bool) → length old ≡ length types → length (cond b (updated puts old) old) ≡ length types
      by old true is = to_length old old puts ∙ is
      by old false is = is

  -- their columns have a value of each
  pub even_updated : (columns : List Cells) (n : ℕ) → n ≡ length rows → columns ≡ columns_from 0 types (map (updated_if puts c) rows) → AreEven columns n
  even_updated columns n count made =
      let same : length types ≡ 0 + length types = sym (zero-add (length types)) in
      let all = AreEven-columns_from 0 types (map (updated_if puts c) rows) (subst (λ k. HaveLength k (map (updated_if puts c) rows)) same lengths) in
      subst₂ AreEven (sym made) (length-map rows (updated_if puts c) ∙ sym count) all

  -- and they stand for them
  pub grid_updated : (columns : List Cells) (n : ℕ) → n ≡ length rows → columns ≡ columns_from 0 types (map (updated_if puts c) rows) → grid_of columns n ≡ record { types = types; rows = map (updated_if puts c) rows }
  grid_updated columns n count made =
      ap₂ grid_of made (count ∙ sym (length-map rows (updated_if puts c)))
      ∙ ap₂ (λ ts rs. record { types = ts; rows = rs }) (types-columns_from 0 types (map (updated_if puts c) rows)) (rows_of-columns_from types (map (updated_if puts c) rows) lengths)
