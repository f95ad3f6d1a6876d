-- A file of a skip index, read block by block.
use Rattle.std.proofs.Common.{◌≡◌, ℕ, suc, zero, ◌+◌, ◌<◌, ◌≤◌, ◌^◌, ◌⊎◌, inl, inr, Bool, true, false, List, [], ◌∷◌, ◌++◌, Some, refl, sym, ap, ◌∙◌, subst, length, length-append, length-drop, map, take, drop, drop-drop, take-append-drop, slice_get, append_assoc, append-nil, arith, ◌↔◌}
use Rattle.std.proofs.lemmas.List.{drop_all, length_push}
use Rattle.std.proofs.lemmas.List.Elements.{All-nil, All-push}
use Rattle.std.specs.Int.{w32, to_le_bytes}
use Rattle.std.specs.List.{list_any}
use Rattle.std.specs.Ordering.{is_eq, is_le}
use Rattle.std.specs.declared.cmp.Ordering.{Ordering}
use Rattle.std.specs.declared.cmp.Ordering.TheVariants.{Less, Equal, Greater}
use Rattle.column_file.specs.byte_numbers.Fronts.{Begins}
use Rattle.column_file.specs.byte_numbers.declared.faults.FormatFault.{FormatFault}
use Rattle.column_file.specs.byte_numbers.declared.faults.FormatFault.TheVariants.{NoMemory, Malformed}
use Rattle.mt_values.specs.declared.cell.Cell.{Cell}
use Rattle.mt_values.specs.declared.schema.IndexKind.{IndexKind}
use Rattle.mt_values.specs.declared.schema.IndexKind.TheVariants as kind
use Rattle.mt_values.specs.declared.value.ColType.{ColType}
use Rattle.mt_values.specs.declared.value.Value.{Value}
use Rattle.mt_values.specs.Cells.{value_of}
use Rattle.mt_values.specs.ColumnBytes.{column_bytes, value_bytes}
use Rattle.mt_values.specs.Order.{value_cmp}
use Rattle.mt_values.proofs.Orders.{value_exact}
use Rattle.predicate.specs.declared.extent.Known.{Known}
use Rattle.column_file.specs.Faults.{NoneBegins}
use Rattle.column_file.specs.Spellings.{IsOfType}
use Rattle.column_file.proofs.Fronts.{spelled_last}
use Rattle.column_file.proofs.OneWay.{four_apart, value_apart}
use Rattle.skip_index.specs.declared.shapes.BlockShape.{BlockShape}
use Rattle.skip_index.specs.declared.shapes.IndexShape.{IndexShape}
use Rattle.skip_index.specs.Blocks.{blocks_bytes, known_bytes, same_value, with_new}
use Rattle.skip_index.specs.Faults.{AreValuesStuckAt, ExplainsBlock, ExplainsIndex, ExplainsSet, ExplainsValues, IsBlockStuckAt, IsRangeStuckAt, IsSetStuckAt, NoCountBegins}
use Rattle.skip_index.specs.Files.{AreBlocksOf, AreDistinctOf, AreFirstBlocks, MayCount, MayEnd, MayKeep, block_count, block_shape}
use Rattle.skip_index.proofs.Distinct.{same_decides, still_distinct, with_other}

-- ---- fronts

-- what begins and ends within the bytes
pub begins_within : (front : List ℕ) (size at : ℕ) (bytes : List ℕ) → at ≤ length bytes → Begins front size (drop at bytes) → at + size ≤ length bytes
begins_within front size at bytes h b = omega (arith, h, b.size_is, length-drop at bytes, ap length b.parted, length-append front (drop size (drop at bytes)))

-- one thing after another
pub begins_more : (first second : List ℕ) (m n : ℕ) (bytes : List ℕ) → Begins first m bytes → Begins second n (drop m bytes) → Begins (first ++ second) (m + n) bytes
begins_more first second m n bytes a b = record {
  size_is = omega (arith, a.size_is, b.size_is, length-append first second);
  parted = a.parted ∙ ap (λ l. first ++ l) (b.parted ∙ ap (λ l. second ++ l) (drop-drop n m bytes))
      ∙ sym (append_assoc first second (drop (m + n) bytes));
}

-- ---- a least and a greatest value

ends_of_one : (o : Ordering) → is_eq o ≡ true → o ≡ Equal
ends_of_one Less e = cc
ends_of_one Equal e = refl
ends_of_one Greater e = cc

-- of a single row both are one value
pub may_end_alone : (rows : ℕ) (lo hi : Value) → rows ≡ 1 → (is_eq (value_cmp lo hi) ≡ true) ↔ MayEnd rows lo hi
may_end_alone rows lo hi one = (
  λ e. (ap is_le (ends_of_one (value_cmp lo hi) e), λ r. value_exact lo hi (ends_of_one (value_cmp lo hi) e)),
  λ m. (same_decides lo hi).1 (m.1 one),
)

-- as an order of the two tells it
pub told_alone : (rows : ℕ) (lo hi : Value) (o : Ordering) (r : Bool) → rows ≡ 1 → o ≡ value_cmp lo hi → r ≡ is_eq o → (r ≡ true) ↔ MayEnd rows lo hi
told_alone rows lo hi o r one is e = subst (λ b. (b ≡ true) ↔ MayEnd rows lo hi) (sym (e ∙ ap is_eq is)) (may_end_alone rows lo hi one)

module _ (block : BlockShape) (at : ℕ) (bytes : List ℕ) where
  pub no_end : (lo : Value) (size place : ℕ) → IsOfType block.col_type lo → Begins (value_bytes lo) size bytes → place ≡ at + size
      → ((v : Value) (left : List ℕ) → IsOfType block.col_type v → MayEnd block.rows lo v → drop size bytes ≡ value_bytes v ++ left → ⊥) → IsRangeStuckAt block at bytes place
  no_end lo size place typed b is stuck = inr (record {
    least = lo;
    rest = drop size bytes;
    typed = typed;
    parted = b.parted;
    place_is = is ∙ ap (λ n. at + n) b.size_is;
    stuck = stuck;
  })

  -- a value that comes after the least one and may not be the greatest
  pub other_end : (lo hi : Value) (size more place : ℕ) → IsOfType block.col_type lo → IsOfType block.col_type hi → Begins (value_bytes lo) size bytes → Begins (value_bytes hi) more (drop size bytes) → place ≡ at + size
      → (MayEnd block.rows lo hi → ⊥) → IsRangeStuckAt block at bytes place
  other_end lo hi size more place tl th b d is not_end =
      no_end lo size place tl b is (λ v left tv may e.
      let same = value_apart block.col_type v hi left (drop more (drop size bytes)) tv th (sym e ∙ d.parted) in
      not_end (subst (MayEnd block.rows lo) same.0 may))

-- ---- distinct values

-- the values gone over, which are seen
pub record AreValuesRead (t : ColType) (bytes : List ℕ) (at size count : ℕ) (seen : List Cell) (values : List Value) : Type 0 where
  pub within : at + size ≤ length bytes
  pub count_is : length values ≡ count
  pub sound : AreDistinctOf t values
  pub begins : Begins (column_bytes values) size (drop at bytes)
  pub seen_is : map value_of seen ≡ values

module _ (t : ColType) (bytes : List ℕ) (at : ℕ) where
  pub no_values : (seen : List Cell) → seen ≡ [] → at ≤ length bytes → AreValuesRead t bytes at 0 0 seen []
  no_values seen none within = record {
    within = omega (arith, within);
    count_is = refl;
    sound = record { typed = All-nil (IsOfType t); distinct = refl };
    begins = record { size_is = refl; parted = refl };
    seen_is = ap (map value_of) none;
  }

  module _ (size count : ℕ) (seen : List Cell) (values : List Value) (r : AreValuesRead t bytes at size count seen values) where
    rest_is : drop (at + size) bytes ≡ drop size (drop at bytes)
    rest_is = sym (drop-drop size at bytes)

    -- no value comes where one was to come, or none that is new
    stuck_in : (total place : ℕ) → count < total → place ≡ at + size
        → ((v : Value) (left : List ℕ) → IsOfType t v → list_any (same_value v) values ≡ false → drop (at + size) bytes ≡ value_bytes v ++ left → ⊥)
        → AreValuesStuckAt t total at (drop at bytes) place
    stuck_in total place few is stuck = record {
      begun = values;
      rest = drop size (drop at bytes);
      few = omega (arith, few, r.count_is);
      sound = r.sound;
      parted = r.begins.parted;
      place_is = is ∙ ap (λ n. at + n) r.begins.size_is;
      stuck = λ v left typed none e. stuck v left typed none (rest_is ∙ e);
    }

    pub values_end : (total place : ℕ) → count < total → place ≡ at + size → NoneBegins t (drop (at + size) bytes) → AreValuesStuckAt t total at (drop at bytes) place
    values_end total place few is none = stuck_in total place few is (λ v left typed new e. none v left typed e)

    pub value_again : (total place more : ℕ) (k : Cell) → count < total → place ≡ at + size → IsOfType t (value_of k) → Begins (value_bytes (value_of k)) more (drop (at + size) bytes)
        → list_any (same_value (value_of k)) (map value_of seen) ≡ true → AreValuesStuckAt t total at (drop at bytes) place
    value_again total place more k few is tk b old =
        stuck_in total place few is (λ v left tv new e.
        let same = value_apart t v (value_of k) left (drop more (drop (at + size) bytes)) tv tk (sym e ∙ b.parted) in
        let there : list_any (same_value (value_of k)) values ≡ true = ap (list_any (same_value (value_of k))) (sym r.seen_is) ∙ old in
        let gone : list_any (same_value (value_of k)) values ≡ false = subst (λ x. list_any (same_value x) values ≡ false) same.0 new in
        cc)

    -- a new value comes
    pub value_more : (more : ℕ) (k : Cell) (new : List Cell) (v : Value) (all : List Value) → IsOfType t (value_of k) → Begins (value_bytes (value_of k)) more (drop (at + size) bytes)
        → list_any (same_value (value_of k)) (map value_of seen) ≡ false → map value_of new ≡ with_new (map value_of seen) (value_of k) → v ≡ value_of k → all ≡ values ++ v ∷ [] → AreValuesRead t bytes at (size + more) (count + 1) new all
    value_more more k new v all typed b unseen is v_is all_is =
        let none : list_any (same_value (value_of k)) values ≡ false = ap (list_any (same_value (value_of k))) (sym r.seen_is) ∙ unseen in
        let these : all ≡ values ++ value_of k ∷ [] = all_is ∙ ap (λ x. values ++ x ∷ []) v_is in
        subst (AreValuesRead t bytes at (size + more) (count + 1) new) (sym these) (record {
          within = omega (arith, begins_within (value_bytes (value_of k)) more (at + size) bytes r.within b);
          count_is = length_push values (value_of k) ∙ ap (λ n. n + 1) r.count_is;
          sound = record {
            typed = All-push (IsOfType t) values (value_of k) r.sound.typed typed;
            distinct = still_distinct values (value_of k) r.sound.distinct none;
          };
          begins = subst (λ l. Begins l (size + more) (drop at bytes)) (sym (spelled_last value_bytes values (value_of k)))
              (begins_more (column_bytes values) (value_bytes (value_of k)) size more (drop at bytes) r.begins
              (subst (Begins (value_bytes (value_of k)) more) rest_is b));
          seen_is = is ∙ ap (λ us. with_new us (value_of k)) r.seen_is ∙ with_other values (value_of k) none;
        })

-- ---- the number of distinct values

-- four bytes that begin with a number's
pub count_begins : (n : ℕ) (bytes : List ℕ) → to_le_bytes w32 n ≡ take 4 bytes → Begins (to_le_bytes w32 n) 4 bytes
count_begins n bytes e = record { size_is = refl; parted = sym (take-append-drop 4 bytes) ∙ ap (λ l. l ++ drop 4 bytes) (sym e) }

module _ (block : BlockShape) (limit : ℕ) (bytes : List ℕ) where
  pub too_short : length bytes < 4 → NoCountBegins block limit bytes
  too_short short n left fits may e =
      let four : length (to_le_bytes w32 n) ≡ 4 = refl in
      omega (arith, short, four, ap length e, length-append (to_le_bytes w32 n) left)

  pub other_count : (n : ℕ) → n < 2 ^ 32 → Begins (to_le_bytes w32 n) 4 bytes → (MayCount block limit n → ⊥) → NoCountBegins block limit bytes
  other_count n small b not_count m left fits may e =
      not_count (subst (MayCount block limit) (four_apart m n left (drop 4 bytes) fits small (sym e ∙ b.parted)).0 may)

  pub counted_stuck : (n at place : ℕ) → n < 2 ^ 32 → Begins (to_le_bytes w32 n) 4 bytes → MayCount block limit n → AreValuesStuckAt block.col_type n (at + 4) (drop 4 bytes) place → IsSetStuckAt block limit at bytes place
  counted_stuck n at place small b may stuck = inr (record { count = n; rest = drop 4 bytes; fits = small; counted = may; parted = b.parted; stuck = stuck })

-- the values after a number go wrong
pub set_wrong : (block : BlockShape) (limit at : ℕ) (bytes : List ℕ) (n : ℕ) (error : FormatFault) → n < 2 ^ 32 → Begins (to_le_bytes w32 n) 4 (drop at bytes) → MayCount block limit n
    → ExplainsValues block.col_type n (at + 4) (drop (at + 4) bytes) error → ExplainsSet block limit at (drop at bytes) error
set_wrong block limit at bytes n NoMemory small b may e = tt
set_wrong block limit at bytes n (Malformed place) small b may e =
    counted_stuck block limit (drop at bytes) n at place small b may
    (subst (λ (l : List ℕ). AreValuesStuckAt block.col_type n (at + 4) l place) (sym (drop-drop 4 at bytes)) e)

-- a number, and so many values after it
pub set_spelled : (values : List Value) (n size at : ℕ) (bytes : List ℕ) → length values ≡ n → Begins (to_le_bytes w32 n) 4 (drop at bytes) → Begins (column_bytes values) size (drop (at + 4) bytes)
    → Begins (to_le_bytes w32 (length values) ++ column_bytes values) (size + 4) (drop at bytes)
set_spelled values n size at bytes count_is b d =
    let sum : 4 + size ≡ size + 4 = omega arith in
    subst (λ (k : ℕ). Begins (to_le_bytes w32 (length values) ++ column_bytes values) k (drop at bytes)) sum
    (begins_more (to_le_bytes w32 (length values)) (column_bytes values) 4 size (drop at bytes)
    (subst (λ (k : ℕ). Begins (to_le_bytes w32 k) 4 (drop at bytes)) (sym count_is) b)
    (subst (Begins (column_bytes values) size) (sym (drop-drop 4 at bytes)) d))

-- ---- blocks

explains_block : (kind : IndexKind) (block : BlockShape) (at : ℕ) (bytes : List ℕ) (place : ℕ) → ExplainsBlock kind block at bytes (Malformed place) → IsBlockStuckAt kind block at bytes place
explains_block kind.MinMax block at bytes place e = e
explains_block (kind.Set limit) block at bytes place e = e

-- an item before the end of a longer list, and its last one
pub at_push : {X : Type 0} (xs : List X) (x : X) (i : ℕ) (y : X) → slice_get (xs ++ x ∷ []) i ≡ Some y → (slice_get xs i ≡ Some y) ⊎ ((i ≡ length xs) × (x ≡ y))
at_push [] x zero y e = inr (refl, cc)
at_push [] x (suc i) y e = cc
at_push (z ∷ xs) x zero y e = inl e
at_push (z ∷ xs) x (suc i) y e = by (at_push xs x i y e)
  where
    by : (slice_get xs i ≡ Some y) ⊎ ((i ≡ length xs) × (x ≡ y)) → (slice_get (z ∷ xs) (suc i) ≡ Some y) ⊎ ((suc i ≡ length (z ∷ xs)) × (x ≡ y))
    by (inl h) = inl h
    by (inr h) = inr (omega (arith, h.0), h.1)

-- the blocks gone over
pub record AreBlocksRead (shape : IndexShape) (bytes : List ℕ) (at count : ℕ) (blocks : List Known) : Type 0 where
  pub within : at ≤ length bytes
  pub count_is : length blocks ≡ count
  pub each : AreFirstBlocks shape blocks
  pub begins : Begins (blocks_bytes blocks) at bytes

module _ (shape : IndexShape) (bytes : List ℕ) where
  pub no_blocks : AreBlocksRead shape bytes 0 0 []
  no_blocks = record {
    within = omega arith;
    count_is = refl;
    each = λ block k e. cc;
    begins = record { size_is = refl; parted = refl };
  }

  module _ (at count : ℕ) (blocks : List Known) (r : AreBlocksRead shape bytes at count blocks) where
    -- the next one comes
    pub block_more : (k : Known) (size : ℕ) (all : List Known) → MayKeep shape.kind (block_shape shape count) k → Begins (known_bytes k) size (drop at bytes) → all ≡ blocks ++ k ∷ []
        → AreBlocksRead shape bytes (at + size) (count + 1) all
    block_more k size all may b all_is = subst (AreBlocksRead shape bytes (at + size) (count + 1)) (sym all_is) (record {
      within = begins_within (known_bytes k) size at bytes r.within b;
      count_is = length_push blocks k ∙ ap (λ n. n + 1) r.count_is;
      each = λ i x e. either i x (at_push blocks k i x e);
      begins = subst (λ l. Begins l (at + size) bytes) (sym (spelled_last known_bytes blocks k)) (begins_more (blocks_bytes blocks) (known_bytes k) at size bytes r.begins b);
    })
      where
        either : (i : ℕ) (x : Known) → (slice_get blocks i ≡ Some x) ⊎ ((i ≡ length blocks) × (k ≡ x)) → MayKeep shape.kind (block_shape shape i) x
        either i x (inl h) = r.each i x h
        either i x (inr h) = subst (λ n. MayKeep shape.kind (block_shape shape n) x) (sym (h.0 ∙ r.count_is)) (subst (MayKeep shape.kind (block_shape shape count)) h.1 may)

    -- the next one goes wrong
    pub block_wrong : (error : FormatFault) → count < block_count shape → ExplainsBlock shape.kind (block_shape shape count) at (drop at bytes) error → ExplainsIndex shape bytes error
    block_wrong NoMemory few e = tt
    block_wrong (Malformed place) few e =
        let stuck = explains_block shape.kind (block_shape shape count) at (drop at bytes) place e in
        record {
          blocks = blocks;
          rest = drop at bytes;
          each = r.each;
          parted = r.begins.parted;
          wrong = inl (
            omega (arith, few, r.count_is),
            subst (λ n. IsBlockStuckAt shape.kind (block_shape shape (length blocks)) n (drop at bytes) place) r.begins.size_is
                (subst (λ n. IsBlockStuckAt shape.kind (block_shape shape n) at (drop at bytes) place) (sym r.count_is) stuck),
          );
        }

    -- bytes go on after the last
    pub goes_on : count ≡ block_count shape → at < length bytes → ExplainsIndex shape bytes (Malformed at)
    goes_on all more = record {
      blocks = blocks;
      rest = drop at bytes;
      each = r.each;
      parted = r.begins.parted;
      wrong = inr (r.count_is ∙ all, r.begins.size_is, λ e. omega (arith, more, ap length e, length-drop at bytes));
    }

    -- all are read
    pub all_blocks : count ≡ block_count shape → AreBlocksOf shape blocks
    all_blocks all = record { each = r.each; count_is = r.count_is ∙ all }

    pub all_spelled : length bytes ≤ at → bytes ≡ blocks_bytes blocks
    all_spelled end = r.begins.parted ∙ ap (λ l. blocks_bytes blocks ++ l) (drop_all at bytes end) ∙ append-nil (blocks_bytes blocks)
