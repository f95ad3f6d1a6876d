-- A list that is whole granules or blocks, and gets one more.
use Rattle.std.proofs.Common.{◌≡◌, ℕ, zero, suc, ◌+◌, ◌*◌, ◌/◌, ◌%◌, ◌<◌, ◌≤◌, List, [], ◌∷◌, ◌++◌, Some, None, refl, sym, ap, ap₂, ◌∙◌, subst, length, length-append, length-drop, map, take, drop, slice_get, arith, append_assoc, append-nil, mul_comm, suc-mul, zero-add, mul-le-mul_right, take-append-drop}
use lib.Seq.{drop-append-le}
use Rattle.std.proofs.lemmas.Grind.{div_ceil_times}
use Rattle.std.proofs.Math.Nat.{mul-add, mul_assoc}
use Rattle.std.proofs.lemmas.List.{drop_at, length-map, length-take, map_push, take_all, take_at, take-append-le}
use Rattle.std.proofs.lemmas.List.Elements.{filter_map-append}
use Rattle.std.proofs.lemmas.List.FromFn.{length-map-range_with_len, map-range_with_len_more}
use Rattle.std.proofs.lemmas.Option.{slice_get_past}
use Rattle.std.specs.Int.{div_ceil}
use Rattle.std.specs.List.{range_with_len}
use Rattle.mt_values.proofs.Covers.{same_count}
use Rattle.mt_values.specs.declared.schema.IndexKind.{IndexKind}
use Rattle.mt_values.specs.declared.schema.Schema.{Schema}
use Rattle.mt_values.specs.declared.schema.SkipIndex.{SkipIndex}
use Rattle.mt_values.specs.declared.value.ColType.{ColType}
use Rattle.mt_values.specs.declared.value.Value.{Value}
use Rattle.mt_values.specs.Granules.{granules}
use Rattle.mt_values.specs.Grid.{AreRowsOf, column_of}
use Rattle.mt_values.specs.Values.{Row}
use Rattle.mt_values.proofs.Grids.{length-column_of}
use Rattle.mt_values.proofs.OrderBy.{all_reach}
use Rattle.predicate.specs.declared.extent.Known.{Known}
use Rattle.skip_index.specs.Blocks.{AreWhole, HasIndex, IsBegun, blocks_of, index_of, index_over, kept_of}
use Rattle.skip_index.specs.declared.index.Index.{Index}
use Rattle.skip_index.proofs.Built.{own_is, positive}

-- ---- how many there are

-- whole granules
pub ceil_whole : (size n : ℕ) → 0 < size → div_ceil (size * n) size ≡ n
ceil_whole size n some =
    let ceil = div_ceil_times (size * n) size some in
    let flip = mul_comm n size in
    same_count (size * n) size (div_ceil (size * n) size) n ceil.0 ceil.1 (omega arith) (omega arith)

-- and one more, perhaps of fewer
pub ceil_more : (size n m : ℕ) → 0 < m → m ≤ size → div_ceil (size * n + m) size ≡ n + 1
ceil_more size n m some few =
    let positive : 0 < size = omega arith in
    let ceil = div_ceil_times (size * n + m) size positive in
    let next : (n + 1) * size ≡ size * n + size = mul_comm (n + 1) size ∙ up in
    same_count (size * n + m) size (div_ceil (size * n + m) size) (n + 1) ceil.0 ceil.1 (omega (arith, next)) (omega (arith, next))
  where
    up : size * (n + 1) ≡ size * n + size
    up = mul_comm size (n + 1) ∙ (let one : n + 1 ≡ suc n = omega arith in ap (λ k. k * size) one ∙ suc-mul n size ∙ (let flip = mul_comm n size in omega arith))

-- one place more of a product
pub times_more : (size k : ℕ) → size * (k + 1) ≡ size * k + size
times_more size k =
    let one : k + 1 ≡ suc k = omega arith in
    let flip = mul_comm k size in
    mul_comm size (k + 1) ∙ ap (λ n. n * size) one ∙ suc-mul k size ∙ omega arith

-- a place below stands a whole step before
pub step_below : (size k n : ℕ) → k < n → size * k + size ≤ size * n
step_below size k n below =
    let up : suc k * size ≤ n * size = mul-le-mul_right size below in
    let flip = mul_comm k size in
    let flips = mul_comm n size in
    omega (arith, suc-mul k size)

-- what is alike at each place
pub map_range : {Y : Type 0} (f g : ℕ → Y) (a n : ℕ) → ((k : ℕ) → k < a + n → f k ≡ g k) → map f (range_with_len a n) ≡ map g (range_with_len a n)
map_range f g a zero e = refl
map_range f g a (suc n) e = ap₂ (λ x xs. x ∷ xs) (e a (omega arith)) (map_range f g (a + 1) n (λ k h. e k (omega arith)))

module _ {X : Type 0} where
  -- a block within the first of two lists
  pub block_within : (pre tail : List X) (size from : ℕ) → from + size ≤ length pre → take size (drop from (pre ++ tail)) ≡ take size (drop from pre)
  block_within pre tail size from inside =
      ap (take size) (drop-append-le from pre tail (omega arith)) ∙ take-append-le size (drop from pre) tail (omega (arith, length-drop from pre))

  -- the block after the first of two lists
  pub block_after : (pre tail : List X) (size from : ℕ) → length pre ≡ from → length tail ≤ size → take size (drop from (pre ++ tail)) ≡ tail
  block_after pre tail size from at few = ap (take size) (drop_at pre tail from at) ∙ take_all size tail few

  -- whole blocks are as many as they should
  pub blocks_whole : (size n : ℕ) (pre : List X) → 0 < size → length pre ≡ size * n → length (blocks_of size pre) ≡ n
  blocks_whole size n pre some long =
      length-map-range_with_len (λ k. take size (drop (size * k) pre)) 0 (div_ceil (length pre) size)
      ∙ ap (λ l. div_ceil l size) long ∙ ceil_whole size n some

  -- one block more, perhaps of fewer
  pub blocks_more : (size n : ℕ) (pre tail : List X) → length pre ≡ size * n → 0 < length tail → length tail ≤ size → blocks_of size (pre ++ tail) ≡ blocks_of size pre ++ tail ∷ []
  blocks_more size n pre tail long some few =
      let positive : 0 < size = omega arith in
      let block : List X → ℕ → List X = λ xs k. take size (drop (size * k) xs) in
      let many : div_ceil (length (pre ++ tail)) size ≡ n + 1 =
      ap (λ l. div_ceil l size) (length-append pre tail ∙ ap (λ l. l + length tail) long) ∙ ceil_more size n (length tail) some few in
      let whole : div_ceil (length pre) size ≡ n = ap (λ l. div_ceil l size) long ∙ ceil_whole size n positive in
      ap (λ k. map (block (pre ++ tail)) (range_with_len 0 k)) many
      ∙ map-range_with_len_more (block (pre ++ tail)) 0 n n (zero-add n)
      ∙ ap₂ (λ (bs : List (List X)) (b : List X). bs ++ b ∷ [])
      (map_range (block (pre ++ tail)) (block pre) 0 n (λ k below. block_within pre tail size (size * k) (omega (arith, step_below size k n (omega arith)))))
      (block_after pre tail size (size * n) long few)
      ∙ ap (λ k. map (block pre) (range_with_len 0 k) ++ tail ∷ []) (sym whole)

  -- the last of a list
  get_last : (xs : List X) (x : X) (n : ℕ) → length xs ≡ n → slice_get (xs ++ x ∷ []) n ≡ Some x
  get_last [] x n e = let none : n ≡ 0 = omega (arith, e) in ap (slice_get (x ∷ [])) none
  get_last (y ∷ ys) x zero e = absurd (omega (arith, e))
  get_last (y ∷ ys) x (suc n) e = get_last ys x n (omega (arith, e))

-- ---- what is kept of blocks of which the last may not be whole

module _ (kind : IndexKind) (size n : ℕ) (pre : List Value) (long : length pre ≡ size * n) (some : 0 < size) where
  kept_count : length (map (kept_of kind) (blocks_of size pre)) ≡ n
  kept_count = length-map (blocks_of size pre) (kept_of kind) ∙ blocks_whole size n pre some long

  with_last : (tail : List Value) → 0 < length tail → length tail ≤ size → map (kept_of kind) (blocks_of size (pre ++ tail)) ≡ map (kept_of kind) (blocks_of size pre) ++ kept_of kind tail ∷ []
  with_last tail one few = ap (map (kept_of kind)) (blocks_more size n pre tail long one few) ∙ map_push (kept_of kind) (blocks_of size pre) tail

  without_last : map (kept_of kind) (blocks_of size (pre ++ [])) ≡ map (kept_of kind) (blocks_of size pre)
  without_last = ap (λ vs. map (kept_of kind) (blocks_of size vs)) (append-nil pre)

  -- the block that is not whole is the last
  pub begun_is : (tail : List Value) → length tail < size → IsBegun kind tail (slice_get (map (kept_of kind) (blocks_of size (pre ++ tail))) n)
  begun_is [] few =
      let none : slice_get (map (kept_of kind) (blocks_of size (pre ++ []))) n ≡ None =
      ap (λ (ks : List Known). slice_get ks n) without_last ∙ slice_get_past (map (kept_of kind) (blocks_of size pre)) n (omega (arith, kept_count)) in
      subst (IsBegun kind []) (sym none) refl
  begun_is (t ∷ ts) few =
      let last : slice_get (map (kept_of kind) (blocks_of size (pre ++ t ∷ ts))) n ≡ Some (kept_of kind (t ∷ ts)) =
      ap (λ (ks : List Known). slice_get ks n) (with_last (t ∷ ts) (omega arith) (omega arith)) ∙ get_last (map (kept_of kind) (blocks_of size pre)) (kept_of kind (t ∷ ts)) n kept_count in
      subst (IsBegun kind (t ∷ ts)) (sym last) (λ e. cc, refl)

  -- those before it are whole
  front_is : (tail : List Value) → length tail < size → take n (map (kept_of kind) (blocks_of size (pre ++ tail))) ≡ map (kept_of kind) (blocks_of size pre)
  front_is [] few = ap (take n) without_last ∙ take_all n (map (kept_of kind) (blocks_of size pre)) (omega (arith, kept_count))
  front_is (t ∷ ts) few = ap (take n) (with_last (t ∷ ts) (omega arith) (omega arith)) ∙ take_at (map (kept_of kind) (blocks_of size pre)) (kept_of kind (t ∷ ts) ∷ []) n kept_count

  -- values more of that block
  pub kept_grown : (tail more : List Value) (k : Known) → length tail < size → 0 < length more → length tail + length more ≤ size → k ≡ kept_of kind (tail ++ more)
      → take n (map (kept_of kind) (blocks_of size (pre ++ tail))) ++ k ∷ [] ≡ map (kept_of kind) (blocks_of size ((pre ++ tail) ++ more))
  kept_grown tail more k few one fits is =
      ap₂ (λ (ks : List Known) (l : Known). ks ++ l ∷ []) (front_is tail few) is
      ∙ sym (with_last (tail ++ more) (omega (arith, length-append tail more)) (omega (arith, length-append tail more)))
      ∙ ap (λ vs. map (kept_of kind) (blocks_of size vs)) (sym (append_assoc pre tail more))

-- ---- granules and blocks

-- granules of this size, of which so many are a block
module _ (g s n : ℕ) (positive : 0 < s) where
  pub whole_blocks : g * n ≡ g * s * (n / s) + g * (n % s)
  whole_blocks =
      let parts : n ≡ s * (n / s) + n % s = omega arith in
      ap (λ k. g * k) parts ∙ mul-add g (s * (n / s)) (n % s) ∙ ap (λ k. k + g * (n % s)) (sym (mul_assoc g s (n / s)))

  pub last_block : g * (n % s) + g ≤ g * s
  last_block = step_below g (n % s) s (omega arith)

-- what is kept of values of which one granule is new
pub blocks_grown : (kind : IndexKind) (g s n : ℕ) (values more : List Value) (k : Known) → 0 < g → 0 < s → length values ≡ g * n → 0 < length more → length more ≤ g
    → ((tail : List Value) → IsBegun kind tail (slice_get (map (kept_of kind) (blocks_of (g * s) values)) (n / s)) → k ≡ kept_of kind (tail ++ more))
    → take (n / s) (map (kept_of kind) (blocks_of (g * s) values)) ++ k ∷ [] ≡ map (kept_of kind) (blocks_of (g * s) (values ++ more))
blocks_grown kind g s n values more k granule span long one few is =
    let pre = take (g * s * (n / s)) values in
    let tail = drop (g * s * (n / s)) values in
    let together : pre ++ tail ≡ values = take-append-drop (g * s * (n / s)) values in
    let parts = whole_blocks g s n span in
    let room = last_block g s n span in
    let front : length pre ≡ g * s * (n / s) = omega (arith, length-take (g * s * (n / s)) values, parts, long) in
    let rest : length tail ≡ g * (n % s) = omega (arith, length-drop (g * s * (n / s)) values, parts, long) in
    let size : 0 < g * s = positive g s granule span in
    let short : length tail < g * s = omega (arith, rest, room, granule) in
    let begun = begun_is kind (g * s) (n / s) pre front size tail short in
    let kept = is tail (subst (λ vs. IsBegun kind tail (slice_get (map (kept_of kind) (blocks_of (g * s) vs)) (n / s))) together begun) in
    let grown = kept_grown kind (g * s) (n / s) pre front size tail more k short one (omega (arith, rest, room, few)) kept in
    subst (λ vs. take (n / s) (map (kept_of kind) (blocks_of (g * s) vs)) ++ k ∷ [] ≡ map (kept_of kind) (blocks_of (g * s) (vs ++ more))) together grown

-- ---- what is kept of rows

pub column_more : (place : ℕ) (rows more : List Row) → column_of place (rows ++ more) ≡ column_of place rows ++ column_of place more
column_more place rows more = filter_map-append (λ row. slice_get row place) rows more

-- one granule more
granule_more : (own : SkipIndex) (g : ℕ) (types : List ColType) (rows more : List Row) (new : List Value) (k : Known) → AreRowsOf types rows → own.column < length types → (whole : AreWhole g rows) → 0 < g → 0 < own.granularity
    → new ≡ column_of own.column more → length new ≡ length more → 0 < length more → length more ≤ g
    → ((values : List Value) → IsBegun own.kind values (slice_get (index_over own g rows).blocks ((index_over own g rows).granules / own.granularity)) → k ≡ kept_of own.kind (values ++ new))
    → record { column = own.column; span = own.granularity; granules = granules g (length rows) + 1; blocks = take ((index_over own g rows).granules / own.granularity) (index_over own g rows).blocks ++ k ∷ [] } ≡ index_over own g (rows ++ more)
granule_more own g types rows more new k typed below whole granule span new_are long one few is =
    let n = whole.count in
    let counted : granules g (length rows) ≡ n = ap (λ l. div_ceil l g) whole.length_is ∙ ceil_whole g n granule in
    let values = column_of own.column rows in
    let many : length values ≡ g * n = length-column_of own.column rows (all_reach types rows own.column typed below) ∙ whole.length_is in
    let next : granules g (length rows) + 1 ≡ granules g (length (rows ++ more)) =
    ap (λ l. l + 1) counted ∙ sym (ap (λ l. div_ceil l g) (length-append rows more ∙ ap (λ l. l + length more) whole.length_is) ∙ ceil_more g n (length more) one few) in
    let old : ℕ → List Known = λ m. take (m / own.granularity) (map (kept_of own.kind) (blocks_of (g * own.granularity) values)) in
    let grown = blocks_grown own.kind g own.granularity n values new k granule span many (omega (arith, long, one)) (omega (arith, long, few))
    (λ tail begun. is tail (subst (λ m. IsBegun own.kind tail (slice_get (map (kept_of own.kind) (blocks_of (g * own.granularity) values)) (m / own.granularity))) (sym counted) begun)) in
    let blocks : old (granules g (length rows)) ++ k ∷ [] ≡ map (kept_of own.kind) (blocks_of (g * own.granularity) (column_of own.column (rows ++ more))) =
    ap (λ m. old m ++ k ∷ []) counted ∙ grown
    ∙ ap (λ vs. map (kept_of own.kind) (blocks_of (g * own.granularity) vs)) (ap (λ vs. values ++ vs) new_are ∙ sym (column_more own.column rows more)) in
    ap₂ (λ (m : ℕ) (ks : List Known). record { column = own.column; span = own.granularity; granules = m; blocks = ks }) next blocks

-- the index of a table with one granule more
pub index_more : (schema : Schema) (place : ℕ) (own : SkipIndex) (types : List ColType) (rows more : List Row) (new : List Value) (old : Index) (k : Known) (count : ℕ) (blocks : List Known)
    → slice_get schema.indexes place ≡ Some own → HasIndex schema place → AreRowsOf types rows → own.column < length types → AreWhole schema.granularity rows
    → new ≡ column_of own.column more → length new ≡ length more → 0 < length more → length more ≤ schema.granularity → old ≡ index_of schema place rows
    → ((values : List Value) → IsBegun own.kind values (slice_get old.blocks (old.granules / own.granularity)) → k ≡ kept_of own.kind (values ++ new))
    → count ≡ old.granules + 1 → blocks ≡ take (old.granules / own.granularity) old.blocks ++ k ∷ []
    → record { column = old.column; span = old.span; granules = count; blocks = blocks } ≡ index_of schema place (rows ++ more)
index_more schema place own types rows more new old k count blocks there has typed below whole new_are long one few is kept counted blocks_are =
    let same = own_is schema place own there in
    let here : old ≡ index_over own schema.granularity rows = is ∙ ap (λ (i : SkipIndex). index_over i schema.granularity rows) same in
    let grown = granule_more own schema.granularity types rows more new k typed below whole has.granularity (subst (λ (i : SkipIndex). 0 < i.granularity) same has.span) new_are long one few
    (subst (λ (o : Index). (values : List Value) → IsBegun own.kind values (slice_get o.blocks (o.granules / own.granularity)) → k ≡ kept_of own.kind (values ++ new)) here kept) in
    ap₂ (λ (m : ℕ) (ks : List Known). record { column = old.column; span = old.span; granules = m; blocks = ks }) counted blocks_are
    ∙ ap (λ (o : Index). record { column = o.column; span = o.span; granules = o.granules + 1; blocks = take (o.granules / own.granularity) o.blocks ++ k ∷ [] }) here
    ∙ grown
    ∙ ap (λ (i : SkipIndex). index_over i schema.granularity (rows ++ more)) (sym same)
