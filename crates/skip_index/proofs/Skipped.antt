-- Granules that are not chosen hold no row of which the condition is true.
use Rattle.std.proofs.Common.{◌≡◌, ℕ, zero, suc, ◌+◌, ◌-◌, ◌*◌, ◌/◌, ◌<◌, ◌≤◌, ◌⊎◌, inl, inr, Bool, true, false, cond, ◌||◌, List, [], ◌∷◌, ◌++◌, All, Option, Some, refl, sym, ap, ap₂, ◌∙◌, subst, nat_le, fold, length, length-take, length-drop, map, take, drop, slice_get, get_or, arith, mul_comm, mul-le-mul_right, option_and_then, unwrap_or}
use Rattle.std.proofs.Math.Nat.{lt-mul-div-succ, mul-div-le, mul-le-mul_left, mul_assoc}
use Rattle.std.proofs.lemmas.Bool.{cases_lt}
use Rattle.std.proofs.lemmas.Grind.{div_ceil_times}
use Rattle.std.proofs.lemmas.List.{get_or-drop, get_or-take, get_or_default, length-map}
use Rattle.std.proofs.lemmas.List.Elements.{All-head, All-tail}
use Rattle.std.proofs.lemmas.List.FromFn.{get_or-map-range_with_len, length-map-range_with_len}
use Rattle.std.proofs.lemmas.Simd.{map-map}
use Rattle.std.proofs.lemmas.Option.{get_or_from_slice_get, slice_get-get_or, slice_get_within}
use Rattle.std.specs.Int.{div_ceil}
use Rattle.std.specs.List.{filter, list_any, range_with_len}
use Rattle.mt_values.specs.declared.expr.Test.{Test}
use Rattle.mt_values.specs.declared.schema.Column.{Column}
use Rattle.mt_values.specs.declared.schema.IndexKind.{IndexKind}
use Rattle.mt_values.specs.declared.schema.IndexKind.TheVariants as kind
use Rattle.mt_values.specs.declared.schema.Schema.{Schema}
use Rattle.mt_values.specs.declared.value.Value.{Value}
use Rattle.mt_values.specs.declared.value.Value.TheVariants as value
use Rattle.mt_values.specs.Conditions.{Condition, tests_of}
use Rattle.mt_values.specs.Granules.{granules}
use Rattle.mt_values.specs.Grid.{AreRowsOf, column_of}
use Rattle.mt_values.specs.Schemas.{column_types}
use Rattle.mt_values.specs.Tests.{eval}
use Rattle.mt_values.specs.Values.{Row, type_of}
use Rattle.mt_values.proofs.Grids.{slice_get-column_of}
use Rattle.mt_values.proofs.OrderBy.{all_reach, length_column}
use Rattle.predicate.specs.Boxes.{HasColumns, IsKnown, LiesIn, can}
use Rattle.predicate.specs.declared.extent.Known.{Known}
use Rattle.predicate.specs.declared.extent.Known.TheVariants as known
use Rattle.predicate.proofs.Beside.{lies_beside}
use Rattle.predicate.proofs.Lying.{hides}
use Rattle.skip_index.specs.Blocks.{HasIndex, distinct_of, index_at, index_of, kept_of, most_kept, same_value, set_of, with_new}
use Rattle.skip_index.specs.Choosing.{block_box, chosen_by, is_unknown, known_by}
use Rattle.skip_index.proofs.Built.{positive}
use Rattle.skip_index.proofs.Distinct.{same_decides, with_old, with_other}
use Rattle.skip_index.proofs.Extremes.{range_holds}

any_value : Value
any_value = value.UInt8 0

-- ---- what is kept holds of each value

slice_get-front : {X : Type 0} (xs ys : List X) (k : ℕ) (x : X) → slice_get xs k ≡ Some x → slice_get (xs ++ ys) k ≡ Some x
slice_get-front [] ys k x e = cc
slice_get-front (y ∷ xs) ys zero x e = e
slice_get-front (y ∷ xs) ys (suc k) x e = slice_get-front xs ys k x e

slice_get-last : {X : Type 0} (xs : List X) (x : X) → slice_get (xs ++ x ∷ []) (length xs) ≡ Some x
slice_get-last [] x = refl
slice_get-last (y ∷ xs) x = slice_get-last xs x

-- a place at which a test passes
passes_at : {X : Type 0} (p : X → Bool) (xs : List X) → list_any p xs ≡ true → (place : ℕ) × (x : X) × (slice_get xs place ≡ Some x) × (p x ≡ true)
passes_at p [] e = cc
passes_at {X = X} p (x ∷ xs) e = by (p x) refl e (λ h. passes_at p xs h)
  where
    by : (b : Bool) → p x ≡ b → (b || list_any p xs) ≡ true → (list_any p xs ≡ true → (place : ℕ) × (y : X) × (slice_get xs place ≡ Some y) × (p y ≡ true))
        → (place : ℕ) × (y : X) × (slice_get (x ∷ xs) place ≡ Some y) × (p y ≡ true)
    by true h g more = (0, x, refl, h)
    by false h g more = let found = more g in (suc found.0, found.1, found.2, found.3)

-- what was there stays at its place
stays : (kept : List Value) (x : Value) (place : ℕ) (v : Value) → slice_get kept place ≡ Some v → slice_get (with_new kept x) place ≡ Some v
stays kept x place v e = by (list_any (same_value x) kept)
  where
    by : (b : Bool) → slice_get (cond b kept (kept ++ x ∷ [])) place ≡ Some v
    by true = e
    by false = slice_get-front kept (x ∷ []) place v e

all_stay : (vs kept : List Value) (place : ℕ) (v : Value) → slice_get kept place ≡ Some v → slice_get (fold with_new kept vs) place ≡ Some v
all_stay [] kept place v e = e
all_stay (x ∷ vs) kept place v e = all_stay vs (with_new kept x) place v (stays kept x place v e)

-- a value that comes is there
comes : (kept : List Value) (x : Value) → (place : ℕ) × (slice_get (with_new kept x) place ≡ Some x)
comes kept x = by (list_any (same_value x) kept) refl
  where
    by : (b : Bool) → list_any (same_value x) kept ≡ b → (place : ℕ) × (slice_get (with_new kept x) place ≡ Some x)
    by true e =
        let found = passes_at (same_value x) kept e in
        let same : x ≡ found.1 = (same_decides x found.1).0 found.3 in
        (found.0, ap (λ ks. slice_get ks found.0) (with_old kept x e) ∙ found.2 ∙ ap Some (sym same))
    by false e = (length kept, ap (λ ks. slice_get ks (length kept)) (with_other kept x e) ∙ slice_get-last kept x)

-- each value is among the distinct ones
is_among : (vs kept : List Value) (i : ℕ) (v : Value) → slice_get vs i ≡ Some v → (place : ℕ) × (slice_get (fold with_new kept vs) place ≡ Some v)
is_among [] kept i v e = cc
is_among (x ∷ vs) kept zero v e =
    let same : x ≡ v = cc in
    let here = comes kept x in
    (here.0, all_stay vs (with_new kept x) here.0 v (here.1 ∙ ap Some same))
is_among (x ∷ vs) kept (suc i) v e = is_among vs (with_new kept x) i v e

set_holds : (limit : ℕ) (vs : List Value) (i : ℕ) (v : Value) → slice_get vs i ≡ Some v → IsKnown (set_of limit vs) v
set_holds limit vs i v e = by (nat_le (length (distinct_of vs)) (most_kept limit))
  where
    by : (b : Bool) → IsKnown (cond b (known.List (distinct_of vs)) known.Unknown) v
    by true = is_among vs [] i v e
    by false = tt

pub kept_holds : (k : IndexKind) (vs : List Value) (i : ℕ) (v : Value) → slice_get vs i ≡ Some v → IsKnown (kept_of k vs) v
kept_holds kind.MinMax vs i v e = range_holds vs i v e
kept_holds (kind.Set limit) vs i v e = set_holds limit vs i v e

-- ---- the block of a row

-- what is found at a place of what is made of each number
pub made_at : {X : Type 0} (f : ℕ → X) (n i : ℕ) (x : X) → slice_get (map f (range_with_len 0 n)) i ≡ Some x → (i < n) × (f i ≡ x)
made_at f n i x e =
    let within = slice_get_within (map f (range_with_len 0 n)) i x e in
    let below : i < n = omega (arith, within, length-map-range_with_len f 0 n) in
    (below, sym (get_or-map-range_with_len f 0 n i i x below (omega arith)) ∙ get_or_from_slice_get (map f (range_with_len 0 n)) i x x e)

found_at : {X : Type 0} (f : ℕ → X) (n i : ℕ) → i < n → slice_get (map f (range_with_len 0 n)) i ≡ Some (f i)
found_at f n i below =
    slice_get-get_or (map f (range_with_len 0 n)) i (f i) (omega (arith, below, length-map-range_with_len f 0 n))
    ∙ ap Some (get_or-map-range_with_len f 0 n i i (f i) below (omega arith))

module _ (g span granule i : ℕ) (large : 0 < g) (wide : 0 < span) (from : g * granule ≤ i) (to : i < g * granule + g) where
  -- the granule's block begins at or before the row
  block_from : g * span * (granule / span) ≤ i
  block_from =
      let down : span * (granule / span) ≤ granule = mul-div-le granule span in
      let times : g * (span * (granule / span)) ≤ g * granule = mul-le-mul_left g down in
      omega (arith, times, from, mul_assoc g span (granule / span))

  -- and ends after it
  block_to : i < g * span * (granule / span) + g * span
  block_to =
      let up : granule < span * (granule / span + 1) = lt-mul-div-succ granule wide in
      let times : g * suc granule ≤ g * (span * (granule / span + 1)) = mul-le-mul_left g up in
      let next : g * suc granule ≡ g * granule + g = omega arith in
      let parts : g * (span * (granule / span + 1)) ≡ g * span * (granule / span) + g * span =
      sym (mul_assoc g span (granule / span + 1)) ∙ mul_step (g * span) (granule / span) in
      omega (arith, times, next, parts, to)
    where
      mul_step : (a k : ℕ) → a * (k + 1) ≡ a * k + a
      mul_step a k = omega arith

-- a block that begins before the end is there
block_there : (n size b : ℕ) → 0 < size → size * b < n → b < div_ceil n size
block_there n size b some begins = either (cases_lt b (div_ceil n size))
  where
    either : (b < div_ceil n size) ⊎ (div_ceil n size ≤ b) → b < div_ceil n size
    either (inl h) = h
    either (inr h) =
        let covers = (div_ceil_times n size some).0 in
        let room : div_ceil n size * size ≤ b * size = mul-le-mul_right size h in
        absurd (omega (arith, covers, room, begins, mul_comm size b))

-- a value of a block
in_block : (vs : List Value) (from size i : ℕ) (v : Value) → from ≤ i → i < from + size → slice_get vs i ≡ Some v → slice_get (take size (drop from vs)) (i - from) ≡ Some v
in_block vs from size i v a b e =
    let within : i < length vs = slice_get_within vs i v e in
    let early : i - from < size = omega (arith, a, b) in
    let there : i - from < length (take size (drop from vs)) = omega (arith, length-take size (drop from vs), length-drop from vs, within, a, b) in
    let back : from + (i - from) ≡ i = omega (arith, a) in
    slice_get-get_or (take size (drop from vs)) (i - from) v there
    ∙ ap Some (get_or-take size (drop from vs) (i - from) v early ∙ get_or-drop from vs (i - from) v ∙ ap (λ n. get_or vs n v) back ∙ get_or_from_slice_get vs i v v e)

-- ---- rows

none_pass : {X : Type 0} (p : X → Bool) (xs : List X) → All (λ x. p x ≡ false) xs → filter p xs ≡ []
none_pass p [] all = refl
none_pass p (x ∷ xs) all =
    ap₂ (λ b ys. cond b (x ∷ ys) ys) (All-head (λ y. p y ≡ false) x xs all) (none_pass p xs (All-tail (λ y. p y ≡ false) x xs all))

module _ (schema : Schema) (place : ℕ) (c : Condition Test) (unknown : List Bool) (rows seen : List Row) (has : HasIndex schema place) (typed : AreRowsOf (column_types schema) rows)
    (seen_typed : AreRowsOf (column_types schema) seen) (even : length seen ≡ length rows)
    (same : (is_unknown unknown (index_at schema place).column ≡ true) ⊎ (column_of (index_at schema place).column seen ≡ column_of (index_at schema place).column rows))
    (named : All (λ (t : Test). t.column < length schema.columns) (tests_of c)) where
  width : length (column_types schema) ≡ length schema.columns
  width = length-map schema.columns (λ (x : Column). x.col_type)

  own : (index_at schema place).column < length (column_types schema)
  own = omega (arith, has.own, width)

  some : 0 < schema.granularity * (index_at schema place).granularity
  some = positive schema.granularity (index_at schema place).granularity has.granularity has.span

  row_len : (i : ℕ) → i < length seen → length (get_or seen i []) ≡ length schema.columns
  row_len i below = sym (length-map (get_or seen i []) type_of) ∙ ap length (seen_typed i [] below) ∙ width

  -- the value that a row has in the column is there in the block of its granule
  known_there : (granule i : ℕ) (v : Value) → schema.granularity * granule ≤ i → i < schema.granularity * granule + schema.granularity → i < length seen
      → slice_get (get_or seen i []) (index_at schema place).column ≡ Some v → column_of (index_at schema place).column seen ≡ column_of (index_at schema place).column rows
      → IsKnown (unwrap_or (slice_get (index_of schema place rows).blocks (granule / (index_at schema place).granularity)) known.Unknown) v
  known_there granule i v from to below is alike =
      let vs = column_of (index_at schema place).column rows in
      let sz = schema.granularity * (index_at schema place).granularity in
      let b = granule / (index_at schema place).granularity in
      let k = (index_at schema place).kind in
      let len : length vs ≡ length rows = length_column (column_types schema) rows (index_at schema place).column typed own in
      let begins : sz * b ≤ i = block_from schema.granularity (index_at schema place).granularity granule i has.granularity has.span from to in
      let ends : i < sz * b + sz = block_to schema.granularity (index_at schema place).granularity granule i has.granularity has.span from to in
      let there : b < div_ceil (length vs) sz = block_there (length vs) sz b some (omega (arith, begins, below, len, even)) in
      let f : ℕ → Known = λ n. kept_of k (take sz (drop (sz * n) vs)) in
      let blocks : slice_get (index_of schema place rows).blocks b ≡ Some (f b) =
      ap (λ (ks : List Known). slice_get ks b) (map-map (kept_of k) (λ n. take sz (drop (sz * n) vs)) (range_with_len 0 (div_ceil (length vs) sz))) ∙ found_at f (div_ceil (length vs) sz) b there in
      let value_is : slice_get vs i ≡ Some v =
      ap (λ us. slice_get us i) (sym alike)
      ∙ slice_get-column_of (index_at schema place).column seen i (all_reach (column_types schema) seen (index_at schema place).column seen_typed own)
      ∙ ap (option_and_then (λ (r : Row). slice_get r (index_at schema place).column)) (slice_get-get_or seen i [] below)
      ∙ is in
      subst (λ (o : Option Known). IsKnown (unwrap_or o known.Unknown) v) (sym blocks)
      (kept_holds k (take sz (drop (sz * b) vs)) (i - sz * b) v (in_block vs (sz * b) sz i v begins ends value_is))

  -- a row lies in the box of its granule's block
  lies : (granule i : ℕ) → schema.granularity * granule ≤ i → i < schema.granularity * granule + schema.granularity → i < length seen
      → LiesIn (block_box (index_of schema place rows) unknown (granule / (index_at schema place).granularity)) (get_or seen i [])
  lies granule i from to below =
      lies_beside (index_at schema place).column (known_by (is_unknown unknown (index_at schema place).column) (slice_get (index_of schema place rows).blocks (granule / (index_at schema place).granularity)))
      (get_or seen i []) (λ v is. by (is_unknown unknown (index_at schema place).column) refl v is same)
    where
      by : (b : Bool) → is_unknown unknown (index_at schema place).column ≡ b → (v : Value) → slice_get (get_or seen i []) (index_at schema place).column ≡ Some v
          → (is_unknown unknown (index_at schema place).column ≡ true) ⊎ (column_of (index_at schema place).column seen ≡ column_of (index_at schema place).column rows)
          → IsKnown (known_by b (slice_get (index_of schema place rows).blocks (granule / (index_at schema place).granularity))) v
      by true e v is h = tt
      by false e v is (inl h) = absurd cc
      by false e v is (inr h) = known_there granule i v from to below is h

  abbrev answer_at : ℕ → Bool
  answer_at granule = (can c (block_box (index_of schema place rows) unknown (granule / (index_of schema place rows).span))).yes

  misses : (granule i : ℕ) → slice_get (chosen_by (index_of schema place rows) c unknown) granule ≡ Some false → schema.granularity * granule ≤ i → i < schema.granularity * granule + schema.granularity → i < length seen
      → eval c (get_or seen i []) ≡ false
  misses granule i skipped from to below =
      let found = made_at answer_at (granules schema.granularity (length rows)) granule false skipped in
      let columns : HasColumns c (get_or seen i []) = subst (λ n. All (λ (t : Test). t.column < n) (tests_of c)) (sym (row_len i below)) named in
      let hidden = hides (block_box (index_of schema place rows) unknown (granule / (index_at schema place).granularity)) (get_or seen i []) (lies granule i from to below) c columns in
      by (eval c (get_or seen i [])) refl (λ e. hidden.0 e) found.1
    where
      by : (b : Bool) → eval c (get_or seen i []) ≡ b → (eval c (get_or seen i []) ≡ true → answer_at granule ≡ true) → answer_at granule ≡ false → b ≡ false
      by true e shown hidden = sym (shown e) ∙ hidden
      by false e shown hidden = refl

  pub skipped_empty : (granule : ℕ) → slice_get (chosen_by (index_of schema place rows) c unknown) granule ≡ Some false → filter (eval c) (take schema.granularity (drop (schema.granularity * granule) seen)) ≡ []
  skipped_empty granule skipped =
      let g = schema.granularity in
      none_pass (eval c) (take g (drop (g * granule) seen)) (λ k d within.
      let taken = length-take g (drop (g * granule) seen) in
      let rest = length-drop (g * granule) seen in
      let below : g * granule + k < length seen = omega (arith, taken, rest, within) in
      let early : k < g = omega (arith, taken, within) in
      ap (eval c) (get_or-take g (drop (g * granule) seen) k d early ∙ get_or-drop (g * granule) seen k d ∙ get_or_default seen (g * granule + k) d [] below)
      ∙ misses granule (g * granule + k) skipped (omega arith) (omega (arith, early)) below)

-- each granule has an answer
pub answer_count : (schema : Schema) (place : ℕ) (c : Condition Test) (unknown : List Bool) (rows : List Row) → length (chosen_by (index_of schema place rows) c unknown) ≡ granules schema.granularity (length rows)
answer_count schema place c unknown rows =
    length-map-range_with_len (λ granule. (can c (block_box (index_of schema place rows) unknown (granule / (index_of schema place rows).span))).yes) 0 (granules schema.granularity (length rows))
