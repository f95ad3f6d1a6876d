-- A file of a skip index is read in one way.
use Rattle.std.proofs.Common.{◌≡◌, ℕ, suc, ◌+◌, ◌<◌, ◌≤◌, ◌^◌, inl, inr, Bool, true, false, cond, nat_eq, List, [], ◌∷◌, ◌++◌, All, Some, refl, sym, ap, ap₂, ◌∙◌, subst, length, length-append, slice_get, get_or, append_assoc, append-nil, arith, Result, Ok, Err, IsErrAnd, MatchResult}
use Rattle.std.specs.Prelude.{⊤}
use Rattle.std.specs.Int.{w32, to_le_bytes}
use Rattle.std.proofs.lemmas.Bool.{leb-false}
use Rattle.std.proofs.lemmas.List.{nil_from_length}
use Rattle.std.proofs.lemmas.List.Elements.{All-head}
use Rattle.std.proofs.lemmas.Option.{slice_get-get_or}
use Rattle.column_file.specs.byte_numbers.declared.faults.FormatFault.{FormatFault}
use Rattle.column_file.specs.byte_numbers.declared.faults.FormatFault.TheVariants.{NoMemory, Malformed}
use Rattle.mt_base.specs.Limits.{set_limit}
use Rattle.mt_values.specs.declared.schema.IndexKind.{IndexKind}
use Rattle.mt_values.specs.declared.schema.IndexKind.TheVariants as kind
use Rattle.mt_values.specs.declared.value.ColType.{ColType}
use Rattle.mt_values.specs.declared.value.Value.{Value}
use Rattle.mt_values.specs.ColumnBytes.{column_bytes, value_bytes}
use Rattle.mt_values.specs.Schemas.{is_large}
use Rattle.predicate.specs.declared.extent.Known.{Known}
use Rattle.predicate.specs.declared.extent.Known.TheVariants as known
use Rattle.column_file.specs.Spellings.{IsOfType}
use Rattle.column_file.proofs.Fronts.{AreApart, Longer, even, longer}
use Rattle.column_file.proofs.OneWay.{four_apart, value_apart}
use Rattle.skip_index.specs.declared.index.Index.{Index}
use Rattle.skip_index.specs.declared.shapes.BlockShape.{BlockShape}
use Rattle.skip_index.specs.declared.shapes.IndexShape.{IndexShape}
use Rattle.skip_index.specs.Blocks.{blocks_bytes, distinct_of, known_bytes, most_kept}
use Rattle.skip_index.specs.Faults.{AreValuesStuckAt, BlocksGoOnWrong, ExplainsIndex, IsBlockStuckAt, IsIndexFault, IsRangeStuckAt, IsSetStuckAt}
use Rattle.skip_index.specs.Files.{AreFirstBlocks, IsIndexFile, MayEnd, MayKeep, block_shape, index_with}
use Rattle.skip_index.proofs.Distinct.{distinct_parts}

-- ---- sizes of sets

-- a set that breaks no rule keeps no more values than a u32 counts
pub most_small : (limit : ℕ) → is_large (kind.Set limit) ≡ false → most_kept limit ≤ set_limit
most_small limit small = by (nat_eq limit 0)
  where
    by : (b : Bool) → cond b set_limit limit ≤ set_limit
    by true = omega arith
    by false = omega (arith, leb-false (suc set_limit) limit small)

-- ---- what may stand in a file, whatever the number of rows

abbrev pub MayStand : IndexKind → ColType → Known → Type 0
MayStand kind.MinMax t (known.Range lo hi) = IsOfType t lo × IsOfType t hi
MayStand (kind.Set limit) t (known.List vs) = (0 < length vs) × (length vs < 2 ^ 32) × All (IsOfType t) vs
MayStand (kind.Set limit) t known.Unknown = ⊤
MayStand other t k = ⊥

pub stands : (k : IndexKind) (block : BlockShape) (x : Known) → is_large k ≡ false → MayKeep k block x → MayStand k block.col_type x
stands kind.MinMax block (known.Range lo hi) small m = (m.0, m.1)
stands kind.MinMax block (known.List vs) small m = m
stands kind.MinMax block known.Unknown small m = m
stands (kind.Set limit) block (known.Range lo hi) small m = m
stands (kind.Set limit) block (known.List vs) small m = (m.0.0, omega (arith, m.0.1, most_small limit small), m.1.typed)
stands (kind.Set limit) block known.Unknown small m = tt

all_stand : (shape : IndexShape) (blocks : List Known) → is_large shape.kind ≡ false → AreFirstBlocks shape blocks → All (MayStand shape.kind shape.col_type) blocks
all_stand shape blocks small each = λ i d below. stands shape.kind (block_shape shape i) (get_or blocks i d) small (each i (get_or blocks i d) (slice_get-get_or blocks i d below))

-- ---- blocks are told apart

-- lists of values with their numbers before them
lists_apart : (t : ColType) (xs ys : List Value) (r s : List ℕ) → length xs < 2 ^ 32 → length ys < 2 ^ 32 → All (IsOfType t) xs → All (IsOfType t) ys
    → (to_le_bytes w32 (length xs) ++ column_bytes xs) ++ r ≡ (to_le_bytes w32 (length ys) ++ column_bytes ys) ++ s → (xs ≡ ys) × (r ≡ s)
lists_apart t xs ys r s p q tx ty e =
    let first = four_apart (length xs) (length ys) (column_bytes xs ++ r) (column_bytes ys ++ s) p q
    (sym (append_assoc (to_le_bytes w32 (length xs)) (column_bytes xs) r) ∙ e ∙ append_assoc (to_le_bytes w32 (length ys)) (column_bytes ys) s) in
    even value_bytes (IsOfType t) (value_apart t) xs ys r s tx ty first.0 first.1

-- a number above 0 and the number 0
none_apart : {P : Type 0} (n : ℕ) (r s : List ℕ) → 0 < n → n < 2 ^ 32 → to_le_bytes w32 n ++ r ≡ to_le_bytes w32 0 ++ s → P
none_apart n r s some small e = absurd (omega (arith, some, (four_apart n 0 r s small (omega arith) e).0))

pub known_apart : (k : IndexKind) (t : ColType) → AreApart known_bytes (MayStand k t)
known_apart kind.MinMax t (known.Range a b) (known.Range c d) r s p q e =
    let first = value_apart t a c (value_bytes b ++ r) (value_bytes d ++ s) p.0 q.0
    (sym (append_assoc (value_bytes a) (value_bytes b) r) ∙ e ∙ append_assoc (value_bytes c) (value_bytes d) s) in
    let second = value_apart t b d r s p.1 q.1 first.1 in
    (ap₂ (λ x y. known.Range x y) first.0 second.0, second.1)
known_apart kind.MinMax t (known.Range a b) (known.List ys) r s p q e = absurd q
known_apart kind.MinMax t (known.Range a b) known.Unknown r s p q e = absurd q
known_apart kind.MinMax t (known.List xs) y r s p q e = absurd p
known_apart kind.MinMax t known.Unknown y r s p q e = absurd p
known_apart (kind.Set limit) t (known.Range a b) y r s p q e = absurd p
known_apart (kind.Set limit) t (known.List xs) (known.Range c d) r s p q e = absurd q
known_apart (kind.Set limit) t (known.List xs) (known.List ys) r s p q e =
    let same = lists_apart t xs ys r s p.1 q.1 p.2 q.2 e in
    (ap known.List same.0, same.1)
known_apart (kind.Set limit) t (known.List xs) known.Unknown r s p q e =
    none_apart (length xs) (column_bytes xs ++ r) s p.0 p.1 (sym (append_assoc (to_le_bytes w32 (length xs)) (column_bytes xs) r) ∙ e)
known_apart (kind.Set limit) t known.Unknown (known.Range c d) r s p q e = absurd q
known_apart (kind.Set limit) t known.Unknown (known.List ys) r s p q e =
    none_apart (length ys) (column_bytes ys ++ s) r q.0 q.1 (sym (append_assoc (to_le_bytes w32 (length ys)) (column_bytes ys) s) ∙ sym e)
known_apart (kind.Set limit) t known.Unknown known.Unknown r s p q e = (refl, (four_apart 0 0 r s (omega arith) (omega arith) e).1)

-- ---- one file

pub one_index : (shape : IndexShape) (bytes : List ℕ) (x y : Index) → is_large shape.kind ≡ false → IsIndexFile shape bytes x → IsIndexFile shape bytes y → x ≡ y
one_index shape bytes x y small p q =
    let same = (even known_bytes (MayStand shape.kind shape.col_type) (known_apart shape.kind shape.col_type) x.blocks y.blocks [] []
    (all_stand shape x.blocks small p.kept.each) (all_stand shape y.blocks small q.kept.each) (p.kept.count_is ∙ sym q.kept.count_is)
    (append-nil (blocks_bytes x.blocks) ∙ sym p.spelled ∙ q.spelled ∙ sym (append-nil (blocks_bytes y.blocks)))).0 in
    p.whole ∙ ap (index_with shape) same ∙ sym q.whole

-- ---- bytes with a first fault are none

slice_get-seam : {X : Type 0} (xs ys : List X) (y : X) → slice_get (xs ++ y ∷ ys) (length xs) ≡ Some y
slice_get-seam [] ys y = refl
slice_get-seam (x ∷ xs) ys y = slice_get-seam xs ys y

module _ (block : BlockShape) (at : ℕ) (bytes : List ℕ) (place : ℕ) (left : List ℕ) where
  range_free : (lo hi : Value) → IsOfType block.col_type lo → IsOfType block.col_type hi → MayEnd block.rows lo hi → bytes ≡ (value_bytes lo ++ value_bytes hi) ++ left → IsRangeStuckAt block at bytes place → ⊥
  range_free lo hi tl th may e (inl h) = h.1 lo (value_bytes hi ++ left) tl (e ∙ append_assoc (value_bytes lo) (value_bytes hi) left)
  range_free lo hi tl th may e (inr s) =
      let first = value_apart block.col_type s.least lo s.rest (value_bytes hi ++ left) s.typed tl (sym s.parted ∙ e ∙ append_assoc (value_bytes lo) (value_bytes hi) left) in
      s.stuck hi left th (subst (λ x. MayEnd block.rows x hi) (sym first.0) may) first.1

  -- values that go on after the first few of them
  values_free : (t : ColType) (from n : ℕ) (rest : List ℕ) (vs : List Value) → AreValuesStuckAt t n from rest place → n ≡ length vs → All (IsOfType t) vs → distinct_of vs ≡ vs → rest ≡ column_bytes vs ++ left → ⊥
  values_free t from n rest vs s size typed distinct e = by l.more l.parted l.sound l.rest
    where
      l : Longer value_bytes (IsOfType t) s.begun vs s.rest left
      l = longer value_bytes (IsOfType t) (value_apart t) s.begun vs s.rest left s.sound.typed typed (omega (arith, s.few, size)) (sym s.parted ∙ e)

      by : (more : List Value) → vs ≡ s.begun ++ more → All (IsOfType t) more → s.rest ≡ column_bytes more ++ left → ⊥
      by [] parted sound rest_is = omega (arith, s.few, size, ap length parted, length-append s.begun [])
      by (v ∷ more) parted sound rest_is =
          let parts = distinct_parts s.begun more v (subst (λ us. distinct_of us ≡ us) parted distinct) in
          s.stuck v (column_bytes more ++ left) (All-head (IsOfType t) v more sound) parts.1 (rest_is ∙ append_assoc (value_bytes v) (column_bytes more) left)

  set_free : (limit : ℕ) (vs : List Value) → length vs < 2 ^ 32 → MayKeep (kind.Set limit) block (known.List vs) → bytes ≡ (to_le_bytes w32 (length vs) ++ column_bytes vs) ++ left → IsSetStuckAt block limit at bytes place → ⊥
  set_free limit vs small may e (inl h) =
      h.1 (length vs) (column_bytes vs ++ left) small (inr may.0) (e ∙ append_assoc (to_le_bytes w32 (length vs)) (column_bytes vs) left)
  set_free limit vs small may e (inr s) =
      let first = four_apart s.count (length vs) s.rest (column_bytes vs ++ left) s.fits small (sym s.parted ∙ e ∙ append_assoc (to_le_bytes w32 (length vs)) (column_bytes vs) left) in
      values_free block.col_type (at + 4) s.count s.rest vs s.stuck first.0 may.1.typed may.1.distinct first.1

  none_free : (limit : ℕ) → MayKeep (kind.Set limit) block known.Unknown → bytes ≡ to_le_bytes w32 0 ++ left → IsSetStuckAt block limit at bytes place → ⊥
  none_free limit may e (inl h) = h.1 0 left (omega arith) (inl (refl, may)) e
  none_free limit may e (inr s) =
      let first = four_apart s.count 0 s.rest left s.fits (omega arith) (sym s.parted ∙ e) in
      omega (arith, first.0, s.stuck.few)

  -- a block at the place where one goes wrong
  pub block_free : (k : IndexKind) (x : Known) → is_large k ≡ false → MayKeep k block x → bytes ≡ known_bytes x ++ left → IsBlockStuckAt k block at bytes place → ⊥
  block_free kind.MinMax (known.Range lo hi) small m e stuck = range_free lo hi m.0 m.1 m.2 e stuck
  block_free kind.MinMax (known.List vs) small m e stuck = m
  block_free kind.MinMax known.Unknown small m e stuck = m
  block_free (kind.Set limit) (known.Range lo hi) small m e stuck = m
  block_free (kind.Set limit) (known.List vs) small m e stuck = set_free limit vs (stands (kind.Set limit) block (known.List vs) small m).1 m e stuck
  block_free (kind.Set limit) known.Unknown small m e stuck = none_free limit m e stuck

pub no_index : (shape : IndexShape) (bytes : List ℕ) (place : ℕ) (x : Index) → is_large shape.kind ≡ false → IsIndexFault shape bytes place → IsIndexFile shape bytes x → ⊥
no_index shape bytes place x small f p = contra f.wrong
  where
    few : BlocksGoOnWrong shape f.blocks f.rest place → length f.blocks ≤ length x.blocks
    few (inl h) = omega (arith, h.0, p.kept.count_is)
    few (inr h) = omega (arith, h.0, p.kept.count_is)

    l : Longer known_bytes (MayStand shape.kind shape.col_type) f.blocks x.blocks f.rest []
    l = longer known_bytes (MayStand shape.kind shape.col_type) (known_apart shape.kind shape.col_type) f.blocks x.blocks f.rest [] (all_stand shape f.blocks small f.each) (all_stand shape x.blocks small p.kept.each)
        (few f.wrong) (sym f.parted ∙ p.spelled ∙ sym (append-nil (blocks_bytes x.blocks)))

    size : length x.blocks ≡ length f.blocks + length l.more
    size = ap length l.parted ∙ length-append f.blocks l.more

    goes_on : (more : List Known) → 0 < length more → x.blocks ≡ f.blocks ++ more → f.rest ≡ blocks_bytes more ++ [] → IsBlockStuckAt shape.kind (block_shape shape (length f.blocks)) (length (blocks_bytes f.blocks)) f.rest place → ⊥
    goes_on [] some parted rest stuck = omega arith
    goes_on (k ∷ more) some parted rest stuck =
        block_free (block_shape shape (length f.blocks)) (length (blocks_bytes f.blocks)) f.rest place (blocks_bytes more ++ []) shape.kind k small
        (p.kept.each (length f.blocks) k (ap (λ ks. slice_get ks (length f.blocks)) parted ∙ slice_get-seam f.blocks more k))
        (rest ∙ append_assoc (known_bytes k) (blocks_bytes more) []) stuck

    contra : BlocksGoOnWrong shape f.blocks f.rest place → ⊥
    contra (inl h) = goes_on l.more (omega (arith, h.0, p.kept.count_is, size)) l.parted l.rest h.1
    contra (inr h) = h.2 (l.rest ∙ ap (λ more. blocks_bytes more ++ []) (nil_from_length l.more (omega (arith, h.0, p.kept.count_is, size))))

-- an error for bytes that are a file is out of memory
pub index_refused : (shape : IndexShape) (bytes : List ℕ) (x : Index) (result : Result Index FormatFault) (fault : FormatFault) → is_large shape.kind ≡ false → IsErrAnd result (λ e. e ≡ fault) → ExplainsIndex shape bytes fault
    → IsIndexFile shape bytes x → MatchResult result (λ y. y ≡ x) (λ e. e ≡ NoMemory)
index_refused shape bytes x (Ok y) fault small made explains p = absurd made
index_refused shape bytes x (Err NoMemory) fault small made explains p = refl
index_refused shape bytes x (Err (Malformed place)) fault small made explains p = absurd (no_index shape bytes place x small (subst (ExplainsIndex shape bytes) (sym made) explains) p)
