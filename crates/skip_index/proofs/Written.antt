-- What the file of a skip index has of rows is read as their index.
use Rattle.std.proofs.Common.{◌≡◌, ℕ, suc, ◌-◌, ◌*◌, ◌<◌, ◌≤◌, ◌^◌, ◌⊎◌, inl, inr, Bool, true, false, cond, ◌||◌, List, [], ◌∷◌, ◌++◌, All, Option, Some, None, refl, sym, ap, ap₂, ◌∙◌, subst, nat_eq, nat_le, nat_lt, fold, length, length-take, length-drop, map, take, drop, slice_get, get_or, min, arith, mul_comm, mul-le-mul_right, suc-mul}
use Rattle.std.specs.Int.{w8, w16, w32, w64, cast_unsigned, div_ceil}
use Rattle.std.specs.Ordering.{is_gt, is_lt}
use Rattle.std.specs.List.{IsDistinct, list_any, range_with_len}
use Rattle.std.proofs.lemmas.Bool.{cases_lt, le-leb, leb-false, leb-true}
use Rattle.std.proofs.lemmas.Bool.Decides.{Decides-eqb, Decides-like}
use Rattle.std.proofs.lemmas.Cmp.{nat_eq_equiv}
use Rattle.std.proofs.lemmas.Grind.{div_ceil_times}
use Rattle.std.proofs.lemmas.List.{length-map, map_push, nil_from_length}
use Rattle.std.specs.Option.{option_map_or}
use Rattle.std.proofs.lemmas.List.Elements.{All-drop, All-head, All-nil, All-push, All-tail, All-take}
use Rattle.std.proofs.lemmas.List.FromFn.{length-map-range_with_len}
use Rattle.std.proofs.lemmas.Map.Keys.{IsDistinct-push}
use Rattle.std.proofs.lemmas.Map.Steps.{length-le_from_distinct_below}
use Rattle.std.proofs.lemmas.Option.{get_or_from_slice_get, slice_get-get_or, slice_get_within}
use Rattle.std.proofs.lemmas.Simd.{map-map}
use Rattle.mt_values.specs.declared.schema.IndexKind.{IndexKind}
use Rattle.mt_values.specs.declared.schema.IndexKind.TheVariants as kind
use Rattle.mt_values.specs.declared.schema.Schema.{Schema}
use Rattle.mt_values.specs.declared.value.ColType.{ColType}
use Rattle.mt_values.specs.declared.value.ColType.TheVariants as type
use Rattle.mt_values.specs.declared.value.Value.{Value}
use Rattle.mt_values.specs.declared.value.Value.TheVariants.{UInt8, UInt16, UInt32, UInt64, Int8, Int16, Int32, Int64, Text}
use Rattle.mt_values.specs.Grid.{AreRowsOf, column_of}
use Rattle.mt_values.specs.Order.{value_cmp}
use Rattle.mt_values.specs.Schemas.{column_types}
use Rattle.mt_values.specs.Values.{FitsType, Row, type_of, types_of}
use Rattle.mt_values.proofs.Grids.{type_at as type_of_value}
use Rattle.mt_values.proofs.OrderBy.{length_column, value_at}
use Rattle.predicate.specs.declared.extent.Known.{Known}
use Rattle.predicate.specs.declared.extent.Known.TheVariants as known
use Rattle.column_file.specs.Spellings.{IsOfType}
use Rattle.column_file.proofs.OneWay.{fits_unsigned, one_type, same_signed}
use Rattle.skip_index.specs.Blocks.{HasIndex, blocks_of, distinct_of, greater, index_at, index_bytes, index_of, kept_of, lesser, most_kept, range_of, same_value, set_of, with_new}
use Rattle.skip_index.specs.Files.{AreFirstBlocks, IsIndexFile, MayKeep, block_count, block_shape, has_more, shape_of, type_at, values_of_type}
use Rattle.skip_index.specs.declared.shapes.BlockShape.{BlockShape}
use Rattle.skip_index.proofs.Built.{length_types, positive}
use Rattle.skip_index.proofs.Distinct.{distinct_again, distinct_few, longer, one_test, same_decides, with_old, with_other}
use Rattle.skip_index.proofs.Extremes.{ends_rise}
use Rattle.skip_index.proofs.Skipped.{made_at}

-- ---- values of a type stay so

module _ (P : Value → Type 0) where
  least_is : (x : Value) (vs : List Value) → P x → All P vs → P (fold lesser x vs)
  least_is x [] px all = px
  least_is x (v ∷ vs) px all = least_is (lesser x v) vs (by (is_lt (value_cmp v x))) (All-tail P v vs all)
    where
      by : (b : Bool) → P (cond b v x)
      by true = All-head P v vs all
      by false = px

  greatest_is : (x : Value) (vs : List Value) → P x → All P vs → P (fold greater x vs)
  greatest_is x [] px all = px
  greatest_is x (v ∷ vs) px all = greatest_is (greater x v) vs (by (is_gt (value_cmp v x))) (All-tail P v vs all)
    where
      by : (b : Bool) → P (cond b v x)
      by true = All-head P v vs all
      by false = px

  new_is : (kept : List Value) (v : Value) → All P kept → P v → All P (with_new kept v)
  new_is kept v all pv = by (list_any (same_value v) kept)
    where
      by : (b : Bool) → All P (cond b kept (kept ++ v ∷ []))
      by true = all
      by false = All-push P kept v all pv

  distinct_are : (kept vs : List Value) → All P kept → All P vs → All P (fold with_new kept vs)
  distinct_are kept [] all more = all
  distinct_are kept (v ∷ vs) all more = distinct_are (with_new kept v) vs (new_is kept v all (All-head P v vs more)) (All-tail P v vs more)

-- ---- a type has no more distinct values than it has values

-- the number of a value among those of its type; texts have none
abbrev code : Value → ℕ
code (UInt8 n) = n
code (UInt16 n) = n
code (UInt32 n) = n
code (UInt64 n) = n
code (Int8 z) = cast_unsigned w8 z
code (Int16 z) = cast_unsigned w16 z
code (Int32 z) = cast_unsigned w32 z
code (Int64 z) = cast_unsigned w64 z
code (Text bytes) = 0

-- values of numbers, of one type and within its range, are one where their numbers are
same_code : (t : ColType) (n : ℕ) (x y : Value) → values_of_type t ≡ Some n → IsOfType t x → IsOfType t y → code x ≡ code y → x ≡ y
same_code t n (UInt8 a) (UInt8 b) few p q e = ap UInt8 e
same_code t n (UInt16 a) (UInt16 b) few p q e = ap UInt16 e
same_code t n (UInt32 a) (UInt32 b) few p q e = ap UInt32 e
same_code t n (UInt64 a) (UInt64 b) few p q e = ap UInt64 e
same_code t n (Int8 a) (Int8 b) few p q e = ap Int8 (same_signed w8 a b p.1 q.1 e)
same_code t n (Int16 a) (Int16 b) few p q e = ap Int16 (same_signed w16 a b p.1 q.1 e)
same_code t n (Int32 a) (Int32 b) few p q e = ap Int32 (same_signed w32 a b p.1 q.1 e)
same_code t n (Int64 a) (Int64 b) few p q e = ap Int64 (same_signed w64 a b p.1 q.1 e)
same_code t n (Text a) y few p q e =
    let no : None ≡ Some n = ap values_of_type p.0 ∙ few in
    cc
same_code t n x y few p q e = absurd (one_type (type_of x) (type_of y) (p.0 ∙ sym q.0))

code_below : (t : ColType) (n : ℕ) (x : Value) → values_of_type t ≡ Some n → IsOfType t x → code x < n
code_below t n x few p = by x p (ap values_of_type p.0 ∙ few)
  where
    by : (x : Value) → IsOfType t x → values_of_type (type_of x) ≡ Some n → code x < n
    by (UInt8 a) p e = let is : 2 ^ 8 ≡ n = cc in omega (arith, p.1, is)
    by (UInt16 a) p e = let is : 2 ^ 16 ≡ n = cc in omega (arith, p.1, is)
    by (UInt32 a) p e = let is : 2 ^ 32 ≡ n = cc in omega (arith, p.1, is)
    by (UInt64 a) p e = let is : 2 ^ 64 ≡ n = cc in omega (arith, p.1, is)
    by (Int8 z) p e = let is : 2 ^ 8 ≡ n = cc in omega (arith, fits_unsigned w8 z p.1, is)
    by (Int16 z) p e = let is : 2 ^ 16 ≡ n = cc in omega (arith, fits_unsigned w16 z p.1, is)
    by (Int32 z) p e = let is : 2 ^ 32 ≡ n = cc in omega (arith, fits_unsigned w32 z p.1, is)
    by (Int64 z) p e = let is : 2 ^ 64 ≡ n = cc in omega (arith, fits_unsigned w64 z p.1, is)
    by (Text bytes) p e = cc

module _ (t : ColType) (n : ℕ) (few : values_of_type t ≡ Some n) where
  code_alike : (x y : Value) → IsOfType t x → IsOfType t y → nat_eq (code x) (code y) ≡ same_value x y
  code_alike x y p q =
      one_test (nat_eq (code x) (code y)) (same_value x y)
      (Decides-like (nat_eq (code x) (code y)) (λ e. same_code t n x y few p q e) (ap code) (Decides-eqb (code x) (code y)))
      (same_decides x y)

  codes_asked : (v : Value) (kept : List Value) → IsOfType t v → All (IsOfType t) kept → list_any (nat_eq (code v)) (map code kept) ≡ list_any (same_value v) kept
  codes_asked v [] pv all = refl
  codes_asked v (x ∷ kept) pv all =
      ap₂ (λ a b. a || b) (code_alike v x pv (All-head (IsOfType t) x kept all)) (codes_asked v kept pv (All-tail (IsOfType t) x kept all))

  code_new : (kept : List Value) (v : Value) → All (IsOfType t) kept → IsOfType t v → IsDistinct nat_eq (map code kept) → IsDistinct nat_eq (map code (with_new kept v))
  code_new kept v all pv are = by (list_any (same_value v) kept) refl
    where
      by : (b : Bool) → list_any (same_value v) kept ≡ b → IsDistinct nat_eq (map code (with_new kept v))
      by true e = subst (λ us. IsDistinct nat_eq (map code us)) (sym (with_old kept v e)) are
      by false e =
          subst (IsDistinct nat_eq) (sym (ap (map code) (with_other kept v e) ∙ map_push code kept v))
          (IsDistinct-push nat_eq_equiv (map code kept) (code v) are (codes_asked v kept pv all ∙ e))

  codes_new : (kept vs : List Value) → All (IsOfType t) kept → All (IsOfType t) vs → IsDistinct nat_eq (map code kept) → IsDistinct nat_eq (map code (fold with_new kept vs))
  codes_new kept [] all more are = are
  codes_new kept (v ∷ vs) all more are =
      let pv = All-head (IsOfType t) v vs more in
      codes_new (with_new kept v) vs (new_is (IsOfType t) kept v all pv) (All-tail (IsOfType t) v vs more) (code_new kept v all pv are)

  -- a number that is one of these is in the type's range
  asked_below : (q : ℕ) (vs : List Value) → All (IsOfType t) vs → list_any (nat_eq q) (map code vs) ≡ true → q < n
  asked_below q [] all e = cc
  asked_below q (v ∷ vs) all e = by (nat_eq q (code v)) refl e (λ h. asked_below q vs (All-tail (IsOfType t) v vs all) h)
    where
      by : (b : Bool) → nat_eq q (code v) ≡ b → (b || list_any (nat_eq q) (map code vs)) ≡ true → (list_any (nat_eq q) (map code vs) ≡ true → q < n) → q < n
      by true same h more = omega (arith, (Decides-eqb q (code v)).0 same, code_below t n v few (All-head (IsOfType t) v vs all))
      by false same h more = more h

  none_distinct : IsDistinct nat_eq []
  unfolding IsDistinct
  none_distinct = tt

  distinct_within : (vs : List Value) → All (IsOfType t) vs → length (distinct_of vs) ≤ n
  distinct_within vs all =
      let typed = distinct_are (IsOfType t) [] vs (All-nil (IsOfType t)) all in
      let few_codes = length-le_from_distinct_below (map code (distinct_of vs)) n
      (codes_new [] vs (All-nil (IsOfType t)) all none_distinct) (λ q h. asked_below q (distinct_of vs) typed h) in
      omega (arith, few_codes, length-map (distinct_of vs) code)

-- more distinct values of a type than these are some of more values
pub more_than : (t : ColType) (vs : List Value) (most : ℕ) → All (IsOfType t) vs → most < length (distinct_of vs) → has_more t most ≡ true
more_than t vs most all many = by (values_of_type t) refl
  where
    by : (o : Option ℕ) → values_of_type t ≡ o → option_map_or (λ count. nat_lt most count) o true ≡ true
    by None e = refl
    by (Some n) e = le-leb (suc most) n (omega (arith, many, distinct_within t n e vs all))

-- ---- a block of rows

-- some values have some distinct ones
some_distinct : (vs : List Value) → 0 < length vs → 0 < length (distinct_of vs)
some_distinct [] some = absurd (omega arith)
some_distinct (v ∷ vs) some = omega (arith, (longer (v ∷ []) vs).0)

set_may : (block : BlockShape) (limit : ℕ) (vs : List Value) → 0 < length vs → length vs ≡ block.rows → All (IsOfType block.col_type) vs → MayKeep (kind.Set limit) block (set_of limit vs)
set_may block limit vs some size typed = by (nat_le (length (distinct_of vs)) (most_kept limit)) refl
  where
    by : (b : Bool) → nat_le (length (distinct_of vs)) (most_kept limit) ≡ b → MayKeep (kind.Set limit) block (cond b (known.List (distinct_of vs)) known.Unknown)
    by true e = (
      (
        some_distinct vs some,
        leb-true (length (distinct_of vs)) (most_kept limit) e,
        omega (arith, distinct_few vs, size),
        more_than block.col_type vs (length (distinct_of vs) - 1) typed (omega (arith, some_distinct vs some)),
      ),
      record { typed = distinct_are (IsOfType block.col_type) [] vs (All-nil (IsOfType block.col_type)) typed; distinct = distinct_again vs },
    )
    by false e =
        let many = leb-false (length (distinct_of vs)) (most_kept limit) e in
        (omega (arith, many, distinct_few vs, size), more_than block.col_type vs (most_kept limit) typed many)

range_may : (block : BlockShape) (vs : List Value) → 0 < length vs → length vs ≡ block.rows → All (IsOfType block.col_type) vs → MayKeep kind.MinMax block (range_of vs)
range_may block [] some size typed = absurd (omega arith)
range_may block (v ∷ vs) some size typed =
    let pv = All-head (IsOfType block.col_type) v vs typed in
    let all = All-tail (IsOfType block.col_type) v vs typed in (
      least_is (IsOfType block.col_type) v vs pv all,
      greatest_is (IsOfType block.col_type) v vs pv all,
      (
        ends_rise v vs,
        λ one.
            let none : vs ≡ [] = nil_from_length vs (omega (arith, size, one)) in
            ap (fold lesser v) none ∙ sym (ap (fold greater v) none),
      ),
    )

pub block_may : (k : IndexKind) (block : BlockShape) (vs : List Value) → 0 < length vs → length vs ≡ block.rows → All (IsOfType block.col_type) vs → MayKeep k block (kept_of k vs)
block_may kind.MinMax block vs some size typed = range_may block vs some size typed
block_may (kind.Set limit) block vs some size typed = set_may block limit vs some size typed

-- ---- all blocks of rows

-- a block that is counted begins before the end
begins_before : (n size b : ℕ) → 0 < size → b < div_ceil n size → size * b < n
begins_before n size b some below = either (cases_lt (size * b) n)
  where
    either : (size * b < n) ⊎ (n ≤ size * b) → size * b < n
    either (inl h) = h
    either (inr h) =
        let ends = (div_ceil_times n size some).1 in
        let room : suc b * size ≤ div_ceil n size * size = mul-le-mul_right size below in
        absurd (omega (arith, ends, room, h, mul_comm size b, suc-mul b size))

module _ (schema : Schema) (place : ℕ) (rows : List Row) (has : HasIndex schema place) (typed : AreRowsOf (column_types schema) rows) (fit : All (λ (row : Row). All FitsType row) rows) where
  own : (index_at schema place).column < length (column_types schema)
  own = omega (arith, has.own, length_types schema)

  -- the values of the column are of its type
  column_typed : All (IsOfType (type_at schema (index_at schema place).column)) (column_of (index_at schema place).column rows)
  column_typed = λ i d below.
      let c = (index_at schema place).column in
      let vs = column_of c rows in
      let v = get_or vs i d in
      let within : i < length rows = omega (arith, below, length_column (column_types schema) rows c typed own) in
      let there : slice_get (get_or rows i []) c ≡ Some v = value_at (column_types schema) rows c i v typed own (slice_get-get_or vs i d below) in
      let type_there : slice_get (types_of (get_or rows i [])) c ≡ Some (type_at schema c) =
      ap (λ ts. slice_get ts c) (typed i [] within) ∙ slice_get-get_or (column_types schema) c type.Text own in
      let inside = slice_get_within (get_or rows i []) c v there in (
        type_of_value c (type_at schema c) (get_or rows i []) v type_there there,
        subst FitsType (get_or_from_slice_get (get_or rows i []) c v v there) (fit i [] within c v inside),
      )

  -- the values of a block
  abbrev parts : ℕ → List Value
  parts b = take (schema.granularity * (index_at schema place).granularity) (drop (schema.granularity * (index_at schema place).granularity * b) (column_of (index_at schema place).column rows))

  pub index_written : IsIndexFile (shape_of schema place (length rows)) (index_bytes (index_of schema place rows)) (index_of schema place rows)
  index_written = record {
    kept = record { each = each; count_is = count };
    whole = refl;
    spelled = refl;
  }
    where
      len : length (column_of (index_at schema place).column rows) ≡ length rows
      len = length_column (column_types schema) rows (index_at schema place).column typed own

      some : 0 < schema.granularity * (index_at schema place).granularity
      some = positive schema.granularity (index_at schema place).granularity has.granularity has.span

      count : length (index_of schema place rows).blocks ≡ block_count (shape_of schema place (length rows))
      count =
          length-map (blocks_of (schema.granularity * (index_at schema place).granularity) (column_of (index_at schema place).column rows)) (kept_of (index_at schema place).kind)
          ∙ length-map-range_with_len parts 0 (div_ceil (length (column_of (index_at schema place).column rows)) (schema.granularity * (index_at schema place).granularity))
          ∙ ap (λ n. div_ceil n (schema.granularity * (index_at schema place).granularity)) len

      each : AreFirstBlocks (shape_of schema place (length rows)) (index_of schema place rows).blocks
      each b k e =
          let vs = column_of (index_at schema place).column rows in
          let sz = schema.granularity * (index_at schema place).granularity in
          let kd = (index_at schema place).kind in
          let found = made_at (λ n. kept_of kd (parts n)) (div_ceil (length vs) sz) b k
          (ap (λ (ks : List Known). slice_get ks b) (sym (map-map (kept_of kd) parts (range_with_len 0 (div_ceil (length vs) sz)))) ∙ e) in
          let begins : sz * b < length vs = begins_before (length vs) sz b some found.0 in
          let taken = length-take sz (drop (sz * b) vs) in
          let rest = length-drop (sz * b) vs in
          let size : length (parts b) ≡ min sz (length rows - sz * b) = taken ∙ ap (min sz) (rest ∙ ap (λ n. n - sz * b) len) in
          let inside : 0 < length (parts b) = omega (arith, taken, rest, begins, some) in
          subst (MayKeep kd (block_shape (shape_of schema place (length rows)) b)) found.1
          (block_may kd (block_shape (shape_of schema place (length rows)) b) (parts b) inside size
          (All-take (IsOfType (type_at schema (index_at schema place).column)) sz (drop (sz * b) vs) (All-drop (IsOfType (type_at schema (index_at schema place).column)) (sz * b) vs column_typed)))
