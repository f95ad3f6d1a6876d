-- Columns of keys, and the keys that they stand for.
use Rattle.std.proofs.Common.{◌≡◌, ℕ, zero, suc, ◌+◌, ◌<◌, ◌≤◌, List, [], ◌∷◌, ◌++◌, Option, Some, None, IfSome, refl, sym, ap, ◌∙◌, subst, length, take, slice_get, get_or, filter_map, All, arith, option_and_then, append-nil}
use Rattle.std.specs.List.{range_with_len, cons_option}
use Rattle.std.proofs.lemmas.List.{get_or_default, length-map, take_all, take_more}
use Rattle.std.proofs.lemmas.List.Elements.{All-head, All-map, All-more, All-nil, All-push, All-tail, All-weaker}
use Rattle.std.proofs.lemmas.Option.{get_or_from_slice_get, slice_get-get_or, slice_get_within}
use Rattle.mt_values.specs.declared.schema.Column.{Column}
use Rattle.mt_values.specs.declared.schema.Schema.{Schema}
use Rattle.mt_values.specs.declared.value.Value.{Value}
use Rattle.mt_values.specs.declared.value.Value.TheVariants as value
use Rattle.mt_values.specs.ColumnBytes.{column_bytes, value_bytes}
use Rattle.mt_values.specs.Grid.{Cells, row_at, rows_of}
use Rattle.mt_values.specs.Schemas.{column_types}
use Rattle.mt_values.specs.Values.{FitsType, Row}
use Rattle.mt_values.proofs.Grids.{All-range, length-rows_of, slice_get-rows_of}
use Rattle.column_file.specs.Marks.{keys_bytes}
use Rattle.primary_marks.specs.Columns.{HaveKeys}
use Rattle.primary_marks.specs.Keys.{primary_types}
use Rattle.column_file.proofs.Fronts.{spelled_more}

any_value : Value
any_value = value.UInt8 0

-- each column has a value at the place
abbrev pub HaveAt : ℕ → List Cells → Type 0
HaveAt k columns = All (λ (c : Cells). k < length c.values) columns

pub have_at : (columns : List Cells) (n k : ℕ) → HaveKeys columns n → k < n → HaveAt k columns
have_at columns n k even below = All-weaker (λ (c : Cells). length c.values ≡ n) (λ (c : Cells). k < length c.values) (λ c e. omega arith) columns even

-- a key has the value of each column
pub row_at-cons : (c : Cells) (cs : List Cells) (k : ℕ) (v : Value) → slice_get c.values k ≡ Some v → row_at (c ∷ cs) k ≡ v ∷ row_at cs k
row_at-cons c cs k v e = ap (λ o. cons_option o (row_at cs k)) e

first_value : (c : Cells) (cs : List Cells) (k : ℕ) → HaveAt k (c ∷ cs) → slice_get c.values k ≡ Some (get_or c.values k any_value)
first_value c cs k h = slice_get-get_or c.values k any_value (All-head (λ (x : Cells). k < length x.values) c cs h)

have_tail : (c : Cells) (cs : List Cells) (k : ℕ) → HaveAt k (c ∷ cs) → HaveAt k cs
have_tail c cs k h = All-tail (λ (x : Cells). k < length x.values) c cs h

pub length-row_at : (columns : List Cells) (k : ℕ) → HaveAt k columns → length (row_at columns k) ≡ length columns
length-row_at [] k h = refl
length-row_at (c ∷ cs) k h =
    ap length (row_at-cons c cs k (get_or c.values k any_value) (first_value c cs k h)) ∙ ap suc (length-row_at cs k (have_tail c cs k h))

pub slice_get-row_at : (columns : List Cells) (k place : ℕ) (c : Cells) → HaveAt k columns → slice_get columns place ≡ Some c → slice_get (row_at columns k) place ≡ slice_get c.values k
slice_get-row_at [] k place c h is = cc
slice_get-row_at (x ∷ xs) k zero c h is =
    let e = first_value x xs k h in
    let same : x ≡ c = cc in
    ap (λ r. slice_get r 0) (row_at-cons x xs k (get_or x.values k any_value) e) ∙ sym e ∙ ap (λ (y : Cells). slice_get y.values k) same
slice_get-row_at (x ∷ xs) k (suc place) c h is =
    ap (λ r. slice_get r (suc place)) (row_at-cons x xs k (get_or x.values k any_value) (first_value x xs k h)) ∙ slice_get-row_at xs k place c (have_tail x xs k h) is

-- ---- keys as they are seen

pub seen_len : (columns : List Cells) (n : ℕ) (keys : List Row) → rows_of columns n ≡ keys → n ≡ length keys
seen_len columns n keys is = sym (length-rows_of columns n) ∙ ap length is

-- each has a value of each column
pub seen_width : (columns : List Cells) (n : ℕ) (keys : List Row) → rows_of columns n ≡ keys → HaveKeys columns n → All (λ key. length key ≡ length columns) keys
seen_width columns n keys is even =
    subst (All (λ key. length key ≡ length columns)) is
    (All-map (λ (key : Row). length key ≡ length columns) (row_at columns) (range_with_len 0 n)
    (All-range (λ k. length (row_at columns k) ≡ length columns) n (λ k h. length-row_at columns k (have_at columns n k even h))))

seen_key : (columns : List Cells) (n : ℕ) (keys : List Row) (key : ℕ) → rows_of columns n ≡ keys → key < length keys → slice_get keys key ≡ Some (row_at columns key)
seen_key columns n keys key is below = ap (λ (ks : List Row). slice_get ks key) (sym is) ∙ slice_get-rows_of columns n key (omega (arith, seen_len columns n keys is))

-- a place of a key is one of a column
pub seen_column : (columns : List Cells) (n : ℕ) (keys : List Row) (key column : ℕ) → rows_of columns n ≡ keys → HaveKeys columns n → key < length keys → IfSome (slice_get keys key) (λ k. column < length k) → column < length columns
seen_column columns n keys key column is even below within =
    let h : column < length (row_at columns key) = rw (seen_key columns n keys key is below) at within in
    omega (arith, length-row_at columns key (have_at columns n key even (omega (arith, seen_len columns n keys is))))

-- and has the column's value
pub seen_value : (columns : List Cells) (n : ℕ) (keys : List Row) (key column : ℕ) (c : Cells) (v : Value) → rows_of columns n ≡ keys → HaveKeys columns n → key < length keys → slice_get columns column ≡ Some c → slice_get c.values key ≡ Some v → option_and_then (λ k. slice_get k column) (slice_get keys key) ≡ Some v
seen_value columns n keys key column c v is even below there here =
    ap (option_and_then (λ k. slice_get k column)) (seen_key columns n keys key is below)
    ∙ slice_get-row_at columns key column c (have_at columns n key even (omega (arith, seen_len columns n keys is))) there ∙ here

-- ---- a key spelled value by value

pub within_width : (keys : List Row) (key width column : ℕ) → All (λ k. length k ≡ width) keys → column < width → IfSome (slice_get keys key) (λ k. column < length k)
within_width [] key width column h below = tt
within_width (k ∷ keys) zero width column h below = omega (arith, All-head (λ (r : Row). length r ≡ width) k keys h)
within_width (k ∷ keys) (suc key) width column h below = within_width keys key width column (All-tail (λ (r : Row). length r ≡ width) k keys h) below

value_there : (key : Row) (i : ℕ) (v : Value) → slice_get key i ≡ Some v → (i < length key) × (v ≡ get_or key i v)
value_there key i v e =
    let within = slice_get_within key i v e in
    (within, sym (get_or_from_slice_get key i v v e))

pub key_begun : (found : Option Row) (old : List ℕ) → IfSome found (λ k. old ≡ old ++ column_bytes (take 0 k))
key_begun None old = tt
key_begun (Some k) old = sym (append-nil old)

pub fit_begun : (found : Option Row) → IfSome found (λ k. All FitsType (take 0 k))
fit_begun None = tt
fit_begun (Some k) = All-nil FitsType

pub key_more : (found : Option Row) (i : ℕ) (v : Value) (old bytes new : List ℕ) → option_and_then (λ k. slice_get k i) found ≡ Some v → IfSome found (λ k. bytes ≡ old ++ column_bytes (take i k)) → new ≡ bytes ++ value_bytes v → IfSome found (λ k. new ≡ old ++ column_bytes (take (i + 1) k))
key_more None i v old bytes new there so_far e = tt
key_more (Some k) i v old bytes new there so_far e =
    let h = value_there k i v there in
    spelled_more value_bytes k i v old bytes new h.0 h.1 so_far e

pub fit_more : (found : Option Row) (i : ℕ) (v : Value) → option_and_then (λ k. slice_get k i) found ≡ Some v → IfSome found (λ k. All FitsType (take i k)) → FitsType v → IfSome found (λ k. All FitsType (take (i + 1) k))
fit_more None i v there so_far this = tt
fit_more (Some k) i v there so_far this =
    let h = value_there k i v there in
    subst (All FitsType) (sym (take_more k i v h.0 ∙ ap (λ w. take i k ++ w ∷ []) (sym h.1))) (All-push FitsType (take i k) v so_far this)

-- each value of a key was gone over
pub key_whole : (keys : List Row) (key width i : ℕ) (old bytes : List ℕ) → All (λ k. length k ≡ width) keys → width ≤ i → IfSome (slice_get keys key) (λ k. bytes ≡ old ++ column_bytes (take i k)) → IfSome (slice_get keys key) (λ k. bytes ≡ old ++ column_bytes k)
key_whole [] key width i old bytes h past so_far = tt
key_whole (k ∷ keys) zero width i old bytes h past so_far =
    let size = All-head (λ (r : Row). length r ≡ width) k keys h in
    so_far ∙ ap (λ vs. old ++ column_bytes vs) (take_all i k (omega arith))
key_whole (k ∷ keys) (suc key) width i old bytes h past so_far = key_whole keys key width i old bytes (All-tail (λ (r : Row). length r ≡ width) k keys h) past so_far

pub fit_whole : (keys : List Row) (key width i : ℕ) → All (λ k. length k ≡ width) keys → width ≤ i → IfSome (slice_get keys key) (λ k. All FitsType (take i k)) → IfSome (slice_get keys key) (All FitsType)
fit_whole [] key width i h past so_far = tt
fit_whole (k ∷ keys) zero width i h past so_far =
    let size = All-head (λ (r : Row). length r ≡ width) k keys h in
    subst (All FitsType) (take_all i k (omega arith)) so_far
fit_whole (k ∷ keys) (suc key) width i h past so_far = fit_whole keys key width i (All-tail (λ (r : Row). length r ≡ width) k keys h) past so_far

-- one key more is spelled
pub keys_more : (keys : List Row) (key : ℕ) (bytes new : List ℕ) → key < length keys → bytes ≡ keys_bytes (take key keys) → IfSome (slice_get keys key) (λ k. new ≡ bytes ++ column_bytes k) → new ≡ keys_bytes (take (key + 1) keys)
keys_more keys key bytes new below so_far this =
    let k = get_or keys key [] in
    let e : new ≡ bytes ++ column_bytes k = rw (slice_get-get_or keys key [] below) at this in
    spelled_more column_bytes keys key k [] bytes new below (get_or_default keys key [] k below) so_far e

pub fits_more : (keys : List Row) (key : ℕ) → key < length keys → All (λ (k : Row). All FitsType k) (take key keys) → IfSome (slice_get keys key) (All FitsType) → All (λ (k : Row). All FitsType k) (take (key + 1) keys)
fits_more keys key below so_far this =
    All-more (λ (k : Row). All FitsType k) keys key [] below so_far (rw (slice_get-get_or keys key [] below) at this)

-- ---- the types of a key

pub length-found : {X : Type 0} (xs : List X) (places : List ℕ) → All (λ p. p < length xs) places → length (filter_map (slice_get xs) places) ≡ length places
length-found xs [] h = refl
length-found xs (p ∷ places) h = one xs p (filter_map (slice_get xs) places) (All-head (λ p. p < length xs) p places h) ∙ ap suc (length-found xs places (All-tail (λ p. p < length xs) p places h))
  where
    one : {X : Type 0} (xs : List X) (p : ℕ) (others : List X) → p < length xs → length (cons_option (slice_get xs p) others) ≡ suc (length others)
    one [] p others h = absurd (omega arith)
    one (x ∷ xs) zero others h = refl
    one (x ∷ xs) (suc p) others h = one xs p others (omega arith)

pub length-primary_types : (schema : Schema) → All (λ p. p < length schema.columns) schema.primary → length (primary_types schema) ≡ length schema.primary
length-primary_types schema own =
    length-found (column_types schema) schema.primary (subst (λ n. All (λ p. p < n) schema.primary) (sym (length-map schema.columns (λ (c : Column). c.col_type))) own)
