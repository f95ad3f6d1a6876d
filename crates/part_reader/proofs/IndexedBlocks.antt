-- The blocks of a column's values, read one after another and compared with what a skip index keeps.
use Rattle.std.proofs.Common.{◌≡◌, ℕ, ◌+◌, ◌-◌, ◌*◌, ◌<◌, ◌≤◌, ◌⊎◌, ◌↔◌, inl, inr, Bool, true, false, List, [], ◌∷◌, ◌++◌, Option, Some, None, refl, sym, ap, ap₂, ◌∙◌, subst, length, length-append, map, min, take, drop, filter_map, slice_get, arith, append_assoc, append-nil, mul-zero, mul_comm}
use Rattle.std.specs.Int.{div_ceil}
use Rattle.std.specs.List.{cons_option, range_with_len}
use Rattle.std.specs.Option.{option_map}
use Rattle.std.specs.declared.cmp.Ordering.{Ordering}
use Rattle.std.specs.Ordering.{is_eq}
use Rattle.std.specs.Cmp.{Equal-is}
use Rattle.std.proofs.lemmas.Bool.{cases_lt, false≢true}
use Rattle.std.proofs.lemmas.Cmp.{tied_itself}
use Rattle.std.proofs.lemmas.List.{drop_at, length-drop, nil_from_length, take_all, take_at}
use Rattle.std.proofs.lemmas.List.FromFn.{length-map-range_with_len}
use Rattle.std.proofs.lemmas.List.{length-map}
use Rattle.std.proofs.lemmas.Option.{same_Some, slice_get-map, slice_get_within}
use Rattle.mt_values.specs.declared.schema.IndexKind.{IndexKind}
use Rattle.mt_values.specs.declared.schema.Schema.{Schema}
use Rattle.mt_values.specs.declared.schema.SkipIndex.{SkipIndex}
use Rattle.mt_values.specs.declared.value.Value.{Value}
use Rattle.mt_values.specs.ColumnBytes.{column_bytes, value_bytes}
use Rattle.part_damage.specs.column_file.Marks.{granules}
use Rattle.part_damage.specs.column_file.Faults.{Explains, NoneBegins}
use Rattle.part_damage.specs.column_file.Spellings.{IsOfType, IsSpelling}
use Rattle.part_damage.proofs.ColumnFileReading.{AreRead, read_more, read_none, read_stuck, read_within}
use Rattle.part_damage.specs.byte_numbers.declared.faults.FormatFault.{FormatFault}
use Rattle.part_damage.specs.byte_numbers.declared.faults.FormatFault.TheVariants.{Malformed}
use Rattle.part_damage.specs.byte_numbers.Fronts.{Begins}
use Rattle.part_damage.proofs.ColumnFileOneWay.{lists_apart}
use Rattle.part_damage.specs.predicate.declared.extent.Known.{Known}
use Rattle.mt_values.specs.Order.{value_cmp}
use Rattle.mt_values.proofs.Orders.{value_exact, value_total}
use Rattle.part_damage.specs.part_writer.declared.loaded.Loaded.{Loaded}
use Rattle.part_damage.specs.skip_index.declared.index.Index.{Index}
use Rattle.part_damage.specs.skip_index.Blocks.{blocks_of, kept_of}
use Rattle.part_reader.specs.declared.indexed.ColumnFile.{ColumnFile}
use Rattle.part_reader.specs.Compared.{EndsAt, HasIndexOf, index_kept}
use Rattle.part_reader.proofs.NumberMarks.{starts_below}
use Rattle.part_reader.proofs.SameLists.{mapped_at, same_list}

-- ---- values read one after another

ends_read : (column : ColumnFile) (at : ℕ) (values : List Value) → EndsAt column at values → AreRead column.col_type column.bytes.now at values
ends_read column at values e = record { typed = e.typed; begins = e.begins }

-- they end within the bytes
pub ends_within : (column : ColumnFile) (at : ℕ) (values : List Value) → EndsAt column at values → at ≤ length column.bytes.now
ends_within column at values e = read_within (ends_read column at values e)

-- none was read yet
pub ends_none : (column : ColumnFile) (at : ℕ) (before vs : List Value) → vs ≡ [] → EndsAt column at before → EndsAt column at (before ++ vs)
ends_none column at before vs none e = subst (EndsAt column at) (sym (append-nil before) ∙ ap (λ (l : List Value). before ++ l) (sym none)) e

-- one is read more
pub ends_more : (column : ColumnFile) (at size : ℕ) (before vs new : List Value) (v : Value) → EndsAt column at (before ++ vs) → IsOfType column.col_type v → Begins (value_bytes v) size (drop at column.bytes.now) → new ≡ vs ++ v ∷ [] → EndsAt column (at + size) (before ++ new)
ends_more column at size before vs new v e typed b is =
    let more = read_more v size (ends_read column at (before ++ vs) e) typed b in
    let same : (before ++ vs) ++ v ∷ [] ≡ before ++ new = append_assoc before vs (v ∷ []) ∙ ap (λ (l : List Value). before ++ l) (sym is) in
    subst (EndsAt column (at + size)) same (record { typed = more.typed; begins = more.begins })

-- it ends within the bytes
pub step_within : (at size : ℕ) (v : Value) (bytes : List ℕ) → at ≤ length bytes → Begins (value_bytes v) size (drop at bytes) → at + size ≤ length bytes
step_within at size v bytes within b = omega (arith, within, b.size_is, length-drop at bytes, ap length b.parted, length-append (value_bytes v) (drop size (drop at bytes)))

-- no further one begins
pub ends_stuck : (column : ColumnFile) (at count : ℕ) (before vs : List Value) (error : FormatFault) → EndsAt column at (before ++ vs) → length vs < count → length before + count ≤ column.count → error ≡ Malformed at → NoneBegins column.col_type (drop at column.bytes.now)
    → Explains column.col_type column.count column.bytes.now error
ends_stuck column at count before vs error e few room is none =
    subst (Explains column.col_type column.count column.bytes.now) (sym is) (read_stuck (ends_read column at (before ++ vs) e) (omega (arith, length-append before vs, few, room)) none)

-- ---- one block

-- values that were read begin every spelling
front_of : (column : ColumnFile) (at : ℕ) (front values : List Value) → EndsAt column at front → IsSpelling column.col_type column.count column.bytes.now values → length front ≤ length values → (more : List Value) × (values ≡ front ++ more)
front_of column at front values e s few =
    let l = lists_apart column.col_type front values (drop at column.bytes.now) [] e.typed s.typed few (sym e.begins.parted ∙ s.spelled ∙ sym (append-nil (column_bytes values))) in
    (l.more, l.parted)

-- a block's values stand after those of the blocks before it
block_values : (size from count : ℕ) (before vs more values : List Value) → values ≡ (before ++ vs) ++ more → length values ≡ count → length before ≡ from → length vs ≡ min size (count - from) → from ≤ count → take size (drop from values) ≡ vs
block_values size from count before vs more values parted counted start many within =
    ap (take size) (ap (drop from) (parted ∙ append_assoc before vs more) ∙ drop_at before (vs ++ more) from start) ∙ front (cases_lt (count - from) size)
  where
    all : length values ≡ from + length vs + length more
    all = omega (arith, ap length parted, length-append (before ++ vs) more, length-append before vs, start)

    front : (count - from < size) ⊎ (size ≤ count - from) → take size (vs ++ more) ≡ vs
    front (inl short) =
        let none : more ≡ [] = nil_from_length more (omega (arith, all, counted, many, short, within)) in
        ap (λ l. take size (vs ++ l)) none ∙ ap (take size) (append-nil vs) ∙ take_all size vs (omega (arith, many, short))
    front (inr long) = take_at vs more size (omega (arith, many, long))

-- ---- the blocks gone over

-- the first blocks were read, and each is what is kept
pub record AreBlocksRead (column : ColumnFile) (kind : IndexKind) (size : ℕ) (kept : List Known) (block at : ℕ) : Type 0 where
  pub before : List Value
  pub read : EndsAt column at before
  pub count_is : length before ≡ min (size * block) column.count
  pub alike : (values : List Value) → IsSpelling column.col_type column.count column.bytes.now values → (k : ℕ) → k < block → slice_get kept k ≡ Some (kept_of kind (take size (drop (size * k) values)))

-- how many values are read of a block
abbrev pub block_rows : ℕ → ℕ → ℕ → ℕ
block_rows size count block = min size (count - block * size)

more_rows : (size block : ℕ) → size * (block + 1) ≡ size * block + size
more_rows size block = omega arith

turned : (size block : ℕ) → block * size ≡ size * block
turned size block = mul_comm block size

module _ (column : ColumnFile) (kind : IndexKind) (size : ℕ) (kept : List Known) (some : 0 < size) where
  pub none_read : AreBlocksRead column kind size kept 0 0
  none_read = record {
    before = [];
    read = let none = read_none column.col_type column.bytes.now in record { typed = none.typed; begins = none.begins };
    count_is = omega (arith, mul-zero size);
    alike = λ values s k below. absurd (omega (arith, below));
  }

  module _ (block at : ℕ) (r : AreBlocksRead column kind size kept block at) (below : block < div_ceil column.count size) where
    within : size * block < column.count
    within = subst (λ n. n < column.count) (turned size block) (starts_below column.count size block some below)

    started : length r.before ≡ size * block
    started = omega (arith, r.count_is, within)

    pub room : length r.before + block_rows size column.count block ≤ column.count
    room = omega (arith, started, within, turned size block)

    -- the values of the block
    module _ (vs : List Value) (end : ℕ) (many : length vs ≡ block_rows size column.count block) (read : EndsAt column end (r.before ++ vs)) where
      long : length vs ≡ min size (column.count - size * block)
      long = many ∙ ap (λ n. min size (column.count - n)) (turned size block)

      pub block_is : (values : List Value) → IsSpelling column.col_type column.count column.bytes.now values → take size (drop (size * block) values) ≡ vs
      block_is values s =
          let front = front_of column end (r.before ++ vs) values read s (omega (arith, s.count_is, room, many, length-append r.before vs)) in
          block_values size (size * block) column.count r.before vs front.0 values front.1 s.count_is started long (omega (arith, within))

      pub block_read : slice_get kept block ≡ Some (kept_of kind vs) → AreBlocksRead column kind size kept (block + 1) end
      block_read same = record {
        before = r.before ++ vs;
        read = read;
        count_is = omega (arith, length-append r.before vs, started, long, more_rows size block, within);
        alike = λ values s k less. each values s k (cases_lt k block) less;
      }
        where
          each : (values : List Value) → IsSpelling column.col_type column.count column.bytes.now values → (k : ℕ) → (k < block) ⊎ (block ≤ k) → k < block + 1 → slice_get kept k ≡ Some (kept_of kind (take size (drop (size * k) values)))
          each values s k (inl before) less = r.alike values s k before
          each values s k (inr after) less =
              let this : block ≡ k = omega (arith, after, less) in
              subst (λ n. slice_get kept n ≡ Some (kept_of kind (take size (drop (size * n) values)))) this (same ∙ ap (λ (l : List Value). Some (kept_of kind l)) (sym (block_is values s)))

-- ---- all blocks

module _ (kind : IndexKind) (size : ℕ) (values : List Value) where
  abbrev block_at : ℕ → List Value
  block_at k = take size (drop (size * k) values)

  abbrev pub wanted : List Known
  wanted = map (kept_of kind) (blocks_of size values)

  wanted_length : length wanted ≡ div_ceil (length values) size
  wanted_length = length-map (blocks_of size values) (kept_of kind) ∙ length-map-range_with_len block_at 0 (div_ceil (length values) size)

  pub wanted_at : (k : ℕ) → k < div_ceil (length values) size → slice_get wanted k ≡ Some (kept_of kind (block_at k))
  wanted_at k below = slice_get-map (kept_of kind) (blocks_of size values) k ∙ ap (option_map (kept_of kind)) (mapped_at block_at (div_ceil (length values) size) k below)

  -- another number of blocks is not that of the values
  pub other_length : (kept : List Known) (count : ℕ) → length values ≡ count → (length kept ≡ div_ceil count size → ⊥) → kept ≡ wanted → ⊥
  other_length kept count counted other e = other (ap length e ∙ wanted_length ∙ ap (λ n. div_ceil n size) counted)

  -- nor is one of which a block is another
  pub other_block : (kept : List Known) (count k : ℕ) (vs : List Value) (x : Known) → length values ≡ count → k < div_ceil count size → block_at k ≡ vs → slice_get kept k ≡ Some x → (x ≡ kept_of kind vs → ⊥) → kept ≡ wanted → ⊥
  other_block kept count k vs x counted below is here other e =
      let within : k < div_ceil (length values) size = subst (λ n. k < div_ceil n size) (sym counted) below in
      other (same_Some x (kept_of kind vs) (sym here ∙ ap (λ (l : List Known). slice_get l k) e ∙ wanted_at k within ∙ ap (λ (l : List Value). Some (kept_of kind l)) is))

  -- where each block is, all are
  pub all_alike : (kept : List Known) (count : ℕ) → length values ≡ count → length kept ≡ div_ceil count size → ((k : ℕ) → k < div_ceil count size → slice_get kept k ≡ Some (kept_of kind (block_at k))) → kept ≡ wanted
  all_alike kept count counted long each =
      let same : div_ceil count size ≡ div_ceil (length values) size = ap (λ n. div_ceil n size) (sym counted) in
      same_list kept wanted (long ∙ same ∙ sym wanted_length) (λ k x here.
      let below : k < div_ceil (length values) size = omega (arith, slice_get_within wanted k x here, wanted_length) in
      each k (subst (λ n. k < n) (sym same) below) ∙ sym (wanted_at k below) ∙ here)

-- ---- the whole index

module _ (granularity : ℕ) (index : SkipIndex) (values : List Value) (kept : Index) where
  -- what is kept is of the index's column, with its number of granules a block, for so many granules
  abbrev pub HasShape : ℕ → Type 0
  HasShape count = (kept.column ≡ index.column) × (kept.span ≡ index.granularity) × (kept.granules ≡ count)

  pub kept_shape : (count : ℕ) → count ≡ granules granularity (length values) → kept ≡ index_kept granularity index values → HasShape count
  kept_shape count many same = (ap (λ (i : Index). i.column) same, ap (λ (i : Index). i.span) same, ap (λ (i : Index). i.granules) same ∙ sym many)

  -- where it has the shape, its blocks are what is left to be compared
  pub by_blocks : (b : Bool) (count : ℕ) (blocks : List Known) → count ≡ granules granularity (length values) → blocks ≡ kept.blocks → HasShape count → (b ≡ true) ↔ (blocks ≡ wanted index.kind (granularity * index.granularity) values) → (b ≡ true) ↔ (kept ≡ index_kept granularity index values)
  by_blocks b count blocks many are shape same = (
    λ e.
        ap₂ (λ (c s : ℕ). record { column = c; span = s; granules = kept.granules; blocks = kept.blocks }) shape.0 shape.1
        ∙ ap₂ (λ (g : ℕ) (bs : List Known). record { column = index.column; span = index.granularity; granules = g; blocks = bs }) (shape.2 ∙ many) (sym are ∙ same.0 e),
    λ e. same.1 (are ∙ ap (λ (i : Index). i.blocks) e),
  )

-- at its place
pub placed_index : (x kept : Index) (indexes : List Index) (place : ℕ) (b : Bool) → slice_get indexes place ≡ Some kept → (b ≡ true) ↔ (kept ≡ x) → (b ≡ true) ↔ (slice_get indexes place ≡ Some x)
placed_index x kept indexes place b here same = (λ e. here ∙ ap Some (same.0 e), λ e. same.1 (same_Some kept x (sym here ∙ e)))

-- of a place past the indexes nothing is kept
pub none_kept : (indexes : List Index) (place : ℕ) (x : Index) → slice_get indexes place ≡ None → (false ≡ true) ↔ (slice_get indexes place ≡ Some x)
none_kept indexes place x none = (λ e. absurd (false≢true e), λ e. let both : None ≡ Some x = sym none ∙ e in cc)

-- a test that fails of what can't be
pub never : {P : Type 0} → (P → ⊥) → (false ≡ true) ↔ P
never cannot = (λ e. absurd (false≢true e), λ p. absurd (cannot p))

-- ---- one index after another

module _ (schema : Schema) (loaded : Loaded) (number : ℕ) (values : List Value) (place : ℕ) (own : SkipIndex) (there : slice_get schema.indexes place ≡ Some own) where
  -- an index of another column is not asked
  pub other_column : (own.column ≡ number → ⊥) → HasIndexOf schema loaded number values place
  other_column other index here same = absurd (other (ap (λ (i : SkipIndex). i.column) (same_Some own index (sym there ∙ here)) ∙ same))

  -- an index of the column is kept
  pub own_column : slice_get loaded.indexes place ≡ Some (index_kept schema.granularity own values) → HasIndexOf schema loaded number values place
  own_column kept index here same = kept ∙ ap (λ (i : SkipIndex). Some (index_kept schema.granularity i values)) (same_Some own index (sym there ∙ here))

  -- what is asked of an index of the column
  pub asked_index : (b : Bool) → own.column ≡ number → (b ≡ true) ↔ (slice_get loaded.indexes place ≡ Some (index_kept schema.granularity own values)) → (b ≡ true) ↔ HasIndexOf schema loaded number values place
  asked_index b column same = (λ e. own_column (same.0 e), λ has. same.1 (has own there column))

-- one place more
pub below_more : (Holds : ℕ → Type 0) (n : ℕ) → ((i : ℕ) → i < n → Holds i) → Holds n → (i : ℕ) → i < n + 1 → Holds i
below_more Holds n before this i below = by (cases_lt i n)
  where
    by : (i < n) ⊎ (n ≤ i) → Holds i
    by (inl less) = before i less
    by (inr more) = let same : n ≡ i = omega (arith, below, more) in subst Holds same this

-- past the indexes there is none to be asked
pub all_asked : (schema : Schema) (loaded : Loaded) (number : ℕ) (values : List Value) (n : ℕ) → length schema.indexes ≤ n → ((i : ℕ) → i < n → HasIndexOf schema loaded number values i) → (i : ℕ) → HasIndexOf schema loaded number values i
all_asked schema loaded number values n past each i index here same = each i (omega (arith, slice_get_within schema.indexes i index here, past)) index here same

-- ---- the values of a block, by all their places

from_place : (front vs : List Value) (a : ℕ) → a ≡ length front → filter_map (slice_get (front ++ vs)) (range_with_len a (length vs)) ≡ vs
from_place front [] a e = refl
from_place front (v ∷ vs) a e =
    let here : slice_get (front ++ v ∷ vs) a ≡ Some v = ap (slice_get (front ++ v ∷ vs)) e ∙ seam front in
    let same : (front ++ v ∷ []) ++ vs ≡ front ++ v ∷ vs = append_assoc front (v ∷ []) vs in
    let rest : filter_map (slice_get (front ++ v ∷ vs)) (range_with_len (a + 1) (length vs)) ≡ vs =
    ap (λ (l : List Value). filter_map (slice_get l) (range_with_len (a + 1) (length vs))) (sym same) ∙ from_place (front ++ v ∷ []) vs (a + 1) (omega (arith, e, length-append front (v ∷ []))) in
    ap (λ (o : Option Value). cons_option o (filter_map (slice_get (front ++ v ∷ vs)) (range_with_len (a + 1) (length vs)))) here ∙ ap (λ (l : List Value). v ∷ l) rest
  where
    seam : (xs : List Value) → slice_get (xs ++ v ∷ vs) (length xs) ≡ Some v
    seam [] = refl
    seam (x ∷ xs) = seam xs

pub all_values : (vs : List Value) (places : List ℕ) → places ≡ range_with_len 0 (length vs) → filter_map (slice_get vs) places ≡ vs
all_values vs places are = ap (filter_map (slice_get vs)) are ∙ from_place [] vs 0 refl

-- ---- values that are compared

-- an order that finds them equal says that they are one
pub same_values : (x y : Value) (o : Ordering) (r : Bool) → o ≡ value_cmp x y → r ≡ is_eq o → (r ≡ true) ↔ (x ≡ y)
same_values x y o r compared is = (
  λ e. value_exact x y ((Equal-is (value_cmp x y)).0 (ap is_eq (sym compared) ∙ sym is ∙ e)),
  λ e. is ∙ ap is_eq (compared ∙ sym (ap (value_cmp x) e) ∙ tied_itself value_total x),
)
