-- The files of skip indexes: whether bytes are one, decided whatever they are, and that they are one at most.
use Rattle.std.proofs.Common.{◌≡◌, ℕ, zero, suc, ◌+◌, ◌-◌, ◌^◌, ◌<◌, ◌≤◌, ◌⊎◌, inl, inr, Bool, true, false, List, [], ◌∷◌, ◌++◌, Option, Some, None, refl, sym, ap, ap₂, ◌∙◌, subst, length, drop, append_assoc, slice_get, arith, eqb, ltb, leb}
use Rattle.std.specs.Int.{w32, to_le_bytes}
use Rattle.std.specs.declared.cmp.Ordering.TheVariants.{Equal}
use Rattle.std.specs.Ordering.{is_eq, is_le}
use Rattle.std.specs.Cmp.{Equal-is}
use Rattle.std.proofs.lemmas.Bool.{false≢true, le-leb, leb-true}
use Rattle.std.proofs.lemmas.Bool.Decides.{Decides-eqb, Decides-ltb}
use Rattle.std.proofs.lemmas.Cmp.{tied_itself}
use Rattle.std.proofs.lemmas.List.{nil_from_length}
use Rattle.std.proofs.lemmas.Option.{same_Some}
use Rattle.mt_values.specs.declared.schema.IndexKind.{IndexKind}
use Rattle.mt_values.specs.declared.schema.IndexKind.TheVariants as kind
use Rattle.mt_values.specs.declared.schema.Schema.{Schema}
use Rattle.mt_values.specs.declared.value.ColType.{ColType}
use Rattle.mt_values.specs.declared.value.ColType.TheVariants as type
use Rattle.mt_values.specs.declared.value.Value.{Value}
use Rattle.mt_values.specs.declared.value.Value.TheVariants as value
use Rattle.mt_values.specs.ColumnBytes.{column_bytes, value_bytes}
use Rattle.mt_values.specs.Order.{value_cmp}
use Rattle.mt_values.specs.Values.{Row}
use Rattle.part_writer.specs.primary_marks.Keys.{ArePartRows}
use Rattle.mt_values.specs.Schemas.{is_large}
use Rattle.mt_values.proofs.Orders.{value_exact, value_total}
use Rattle.part_writer.specs.predicate.declared.extent.Known.{Known}
use Rattle.part_writer.specs.predicate.declared.extent.Known.TheVariants as known
use Rattle.part_writer.specs.column_file.Spellings.{IsOfType}
use Rattle.part_writer.specs.column_file.Tests.{first_size}
use Rattle.part_writer.proofs.FileLaws.{FirstIs, even, first_is, four_apart, index_written, known_apart, most_small, no_index as no_file, one_index as one_file, stands, value_apart}
use Rattle.part_writer.specs.skip_index.declared.index.Index.{Index}
use Rattle.part_writer.specs.skip_index.declared.shapes.BlockShape.{BlockShape}
use Rattle.part_writer.specs.skip_index.declared.shapes.IndexShape.{IndexShape}
use Rattle.part_writer.specs.skip_index.Blocks.{HasIndex, blocks_bytes, distinct_of, index_at, index_bytes, index_of, known_bytes, most_kept}
use Rattle.part_writer.specs.skip_index.Files.{AreBlocksOf, AreDistinctOf, IsIndexFile, MayEnd, MayKeep, MayKeepNone, MayKeepSome, block_count, block_shape, has_more, index_with, shape_of}
use Rattle.part_writer.specs.skip_index.Faults.{IsIndexFault}
use Rattle.part_damage.specs.Sound.{AreBlocksFor}
use Rattle.part_damage.proofs.Decisions.{Decided, Front, Fronts, both, decided, fronts, like}

-- ---- small decisions

decide_true : (b : Bool) → Decided (b ≡ true)
decide_true true = inl refl
decide_true false = inr false≢true

decide_false : (b : Bool) → Decided (b ≡ false)
decide_false false = inl refl
decide_false true = inr (λ e. false≢true (sym e))

less : (a b : ℕ) → Decided (a < b)
less a b = decided (ltb a b) (Decides-ltb a b)

at_most : (a b : ℕ) → Decided (a ≤ b)
at_most a b = decided (leb a b) (leb-true a b, le-leb a b)

implied : {P Q : Type 0} → Decided P → Decided Q → Decided (P → Q)
implied p (inl q) = inl (λ _. q)
implied (inl p) (inr q) = inr (λ f. q (f p))
implied (inr p) (inr q) = inl (λ h. absurd (p h))

decide_value : (x y : Value) → Decided (x ≡ y)
decide_value x y = like (value_exact x y) (λ e. subst (λ z. value_cmp x z ≡ Equal) e (tied_itself value_total x)) (decided (is_eq (value_cmp x y)) (Equal-is (value_cmp x y)))

decide_values : (xs ys : List Value) → Decided (xs ≡ ys)
decide_values [] [] = inl refl
decide_values [] (y ∷ ys) = inr (λ e. absurd cc)
decide_values (x ∷ xs) [] = inr (λ e. absurd cc)
decide_values (x ∷ xs) (y ∷ ys) = like (λ p. ap₂ (λ (v : Value) (vs : List Value). v ∷ vs) p.0 p.1) parts (both (decide_value x y) (decide_values xs ys))
  where
    parts : x ∷ xs ≡ y ∷ ys → (x ≡ y) × (xs ≡ ys)
    parts e = (cc, cc)

neither : {P Q : Type 0} → (P → ⊥) → (Q → ⊥) → P ⊎ Q → ⊥
neither p q (inl x) = p x
neither p q (inr y) = q y

one_of : {P Q : Type 0} → Decided P → Decided Q → Decided (P ⊎ Q)
one_of (inl p) q = inl (inl p)
one_of (inr p) (inl q) = inl (inr q)
one_of (inr p) (inr q) = inr (neither p q)

-- ---- what bytes begin with

first_value : (t : ColType) (bytes : List ℕ) → Decided (Front value_bytes (IsOfType t) bytes)
first_value t bytes = by (first_size t bytes) (first_is t bytes)
  where
    by : (o : Option ℕ) → FirstIs t bytes o → Decided (Front value_bytes (IsOfType t) bytes)
    by None none = inr (λ x. none x.item x.rest x.is x.parted)
    by (Some size) first = inl (record { item = first.0; rest = drop size bytes; is = first.1; parted = first.2.parted })

abbrev FitsFour : ℕ → Type 0
FitsFour n = n < 2 ^ 32

four_of : (v : Value) → IsOfType type.UInt32 v → (n : ℕ) × (n < 2 ^ 32) × (value_bytes v ≡ to_le_bytes w32 n)
four_of (value.UInt32 n) typed = (n, typed.1, refl)
four_of v typed = absurd (let h = typed.0 in cc)

first_four : (bytes : List ℕ) → Decided (Front (to_le_bytes w32) FitsFour bytes)
first_four bytes = by (first_size type.UInt32 bytes) (first_is type.UInt32 bytes)
  where
    by : (o : Option ℕ) → FirstIs type.UInt32 bytes o → Decided (Front (to_le_bytes w32) FitsFour bytes)
    by None none = inr (λ x. none (value.UInt32 x.item) x.rest (refl, x.is) x.parted)
    by (Some size) first =
        let four = four_of first.0 first.1 in
        inl (record { item = four.0; rest = drop size bytes; is = four.1; parted = first.2.parted ∙ ap (λ l. l ++ drop size bytes) four.2 })

-- ---- the least and the greatest value of a block

module _ (block : BlockShape) (bytes : List ℕ) where
  record Ends : Type 0 where
    least : Value
    greatest : Value
    rest : List ℕ
    lowest : IsOfType block.col_type least
    highest : IsOfType block.col_type greatest
    ends : MayEnd block.rows least greatest
    parted : bytes ≡ value_bytes least ++ (value_bytes greatest ++ rest)

  ends_of : (k : Known) (rest : List ℕ) → MayKeep kind.MinMax block k → bytes ≡ known_bytes k ++ rest → Ends
  ends_of (known.Range lo hi) rest is e = record {
    least = lo;
    greatest = hi;
    rest = rest;
    lowest = is.0;
    highest = is.1;
    ends = is.2;
    parted = e ∙ append_assoc (value_bytes lo) (value_bytes hi) rest;
  }
  ends_of (known.List vs) rest is e = absurd is
  ends_of known.Unknown rest is e = absurd is

  front_of_ends : Ends → Front known_bytes (MayKeep kind.MinMax block) bytes
  front_of_ends x = record {
    item = known.Range x.least x.greatest;
    rest = x.rest;
    is = (x.lowest, x.highest, x.ends);
    parted = x.parted ∙ sym (append_assoc (value_bytes x.least) (value_bytes x.greatest) x.rest);
  }

  decide_ends : Decided Ends
  decide_ends = by (first_value block.col_type bytes)
    where
      second : (lo : Front value_bytes (IsOfType block.col_type) bytes) → Decided (Front value_bytes (IsOfType block.col_type) lo.rest) → Decided Ends
      second lo (inr none) =
          inr (λ x.
          let same = value_apart block.col_type lo.item x.least lo.rest (value_bytes x.greatest ++ x.rest) lo.is x.lowest (sym lo.parted ∙ x.parted) in
          none (record { item = x.greatest; rest = x.rest; is = x.highest; parted = same.1 }))
      second lo (inl hi) =
          like (λ e. record { least = lo.item; greatest = hi.item; rest = hi.rest; lowest = lo.is; highest = hi.is; ends = e; parted = lo.parted ∙ ap (λ l. value_bytes lo.item ++ l) hi.parted })
          (λ x.
          let first = value_apart block.col_type lo.item x.least lo.rest (value_bytes x.greatest ++ x.rest) lo.is x.lowest (sym lo.parted ∙ x.parted) in
          let last = value_apart block.col_type hi.item x.greatest hi.rest x.rest hi.is x.highest (sym hi.parted ∙ first.1) in
          subst (λ (v : Value). MayEnd block.rows v hi.item) (sym first.0) (subst (λ (v : Value). MayEnd block.rows x.least v) (sym last.0) x.ends))
          (both (decide_true (is_le (value_cmp lo.item hi.item))) (implied (decided (eqb block.rows 1) (Decides-eqb block.rows 1)) (decide_value lo.item hi.item)))

      by : Decided (Front value_bytes (IsOfType block.col_type) bytes) → Decided Ends
      by (inr none) = inr (λ x. none (record { item = x.least; rest = value_bytes x.greatest ++ x.rest; is = x.lowest; parted = x.parted }))
      by (inl lo) = second lo (first_value block.col_type lo.rest)

-- ---- the distinct values of a block

module _ (block : BlockShape) (limit : ℕ) where
  -- so many distinct values
  record ValuesAfter (n : ℕ) (bytes : List ℕ) : Type 0 where
    values : List Value
    rest : List ℕ
    count_is : length values ≡ n
    some : MayKeepSome block limit n
    distinct : AreDistinctOf block.col_type values
    parted : bytes ≡ column_bytes values ++ rest

  abbrev After : ℕ → List ℕ → Type 0
  After n bytes = ((n ≡ 0) × MayKeepNone block limit) ⊎ ValuesAfter n bytes

  record Counted (bytes : List ℕ) : Type 0 where
    number : ℕ
    rest : List ℕ
    fits : number < 2 ^ 32
    parted : bytes ≡ to_le_bytes w32 number ++ rest
    after : After number rest

  decide_values_after : (n : ℕ) (bytes : List ℕ) → Decided (ValuesAfter n bytes)
  decide_values_after n bytes = by some (fronts value_bytes (IsOfType block.col_type) (value_apart block.col_type) (first_value block.col_type) n bytes)
    where
      some : Decided (MayKeepSome block limit n)
      some =
          like (λ p. (p.0, p.1.0, p.1.1.0, p.1.1.1)) (λ m. (m.0, (m.1, (m.2, m.3))))
          (both (less 0 n) (both (at_most n (most_kept limit)) (both (at_most n block.rows) (decide_true (has_more block.col_type (n - 1))))))

      distinct : MayKeepSome block limit n → (x : Fronts value_bytes (IsOfType block.col_type) n bytes) → Decided (ValuesAfter n bytes)
      distinct may x =
          like (λ e. record { values = x.items; rest = x.rest; count_is = x.count_is; some = may; distinct = record { typed = x.are; distinct = e }; parted = x.parted })
          (λ v.
          let same = even value_bytes (IsOfType block.col_type) (value_apart block.col_type) x.items v.values x.rest v.rest x.are v.distinct.typed (x.count_is ∙ sym v.count_is) (sym x.parted ∙ v.parted) in
          subst (λ (vs : List Value). distinct_of vs ≡ vs) (sym same.0) v.distinct.distinct)
          (decide_values (distinct_of x.items) x.items)

      by : Decided (MayKeepSome block limit n) → Decided (Fronts value_bytes (IsOfType block.col_type) n bytes) → Decided (ValuesAfter n bytes)
      by (inr never) front = inr (λ v. never v.some)
      by (inl may) (inr none) = inr (λ v. none (record { items = v.values; rest = v.rest; are = v.distinct.typed; count_is = v.count_is; parted = v.parted }))
      by (inl may) (inl x) = distinct may x

  decide_after : (n : ℕ) (bytes : List ℕ) → Decided (After n bytes)
  decide_after n bytes =
      one_of (both (decided (eqb n 0) (Decides-eqb n 0)) (both (less (most_kept limit) block.rows) (decide_true (has_more block.col_type (most_kept limit)))))
      (decide_values_after n bytes)

  decide_counted : (bytes : List ℕ) → Decided (Counted bytes)
  decide_counted bytes = by (first_four bytes)
    where
      by : Decided (Front (to_le_bytes w32) FitsFour bytes) → Decided (Counted bytes)
      by (inr none) = inr (λ c. none (record { item = c.number; rest = c.rest; is = c.fits; parted = c.parted }))
      by (inl n) =
          like (λ a. record { number = n.item; rest = n.rest; fits = n.is; parted = n.parted; after = a })
          (λ c.
          let same = four_apart n.item c.number n.rest c.rest n.is c.fits (sym n.parted ∙ c.parted) in
          subst (λ k. After k n.rest) (sym same.0) (subst (After c.number) (sym same.1) c.after)) (decide_after n.item n.rest)

  module _ (bytes : List ℕ) where
    front_of_counted : Counted bytes → Front known_bytes (MayKeep (kind.Set limit) block) bytes
    front_of_counted c = by c.after
      where
        by : After c.number c.rest → Front known_bytes (MayKeep (kind.Set limit) block) bytes
        by (inl none) = record { item = known.Unknown; rest = c.rest; is = none.1; parted = c.parted ∙ ap (λ n. to_le_bytes w32 n ++ c.rest) none.0 }
        by (inr v) = record {
          item = known.List v.values;
          rest = v.rest;
          is = (subst (MayKeepSome block limit) (sym v.count_is) v.some, v.distinct);
          parted = c.parted ∙ ap₂ (λ (n : ℕ) (l : List ℕ). to_le_bytes w32 n ++ l) (sym v.count_is) v.parted ∙ sym (append_assoc (to_le_bytes w32 (length v.values)) (column_bytes v.values) v.rest);
        }

    counted_of : is_large (kind.Set limit) ≡ false → (k : Known) (rest : List ℕ) → MayKeep (kind.Set limit) block k → bytes ≡ known_bytes k ++ rest → Counted bytes
    counted_of few (known.List vs) rest is e = record {
      number = length vs;
      rest = column_bytes vs ++ rest;
      fits = omega (arith, most_small limit few, is.0.1);
      parted = e ∙ append_assoc (to_le_bytes w32 (length vs)) (column_bytes vs) rest;
      after = inr (record { values = vs; rest = rest; count_is = refl; some = is.0; distinct = is.1; parted = refl });
    }
    counted_of few known.Unknown rest is e = record { number = 0; rest = rest; fits = omega arith; parted = e; after = inl (refl, is) }
    counted_of few (known.Range lo hi) rest is e = absurd is

-- ---- what is kept of a block

decide_front : (k : IndexKind) (block : BlockShape) (bytes : List ℕ) → is_large k ≡ false → Decided (Front known_bytes (MayKeep k block) bytes)
decide_front kind.MinMax block bytes few = like (front_of_ends block bytes) (λ x. ends_of block bytes x.item x.rest x.is x.parted) (decide_ends block bytes)
decide_front (kind.Set limit) block bytes few =
    like (front_of_counted block limit bytes) (λ x. counted_of block limit bytes few x.item x.rest x.is x.parted) (decide_counted block limit bytes)

-- two of them are told apart
blocks_differ : (k : IndexKind) (block : BlockShape) (x y : Known) (r s : List ℕ) → is_large k ≡ false → MayKeep k block x → MayKeep k block y → known_bytes x ++ r ≡ known_bytes y ++ s → (x ≡ y) × (r ≡ s)
blocks_differ k block x y r s few p q e = known_apart k block.col_type x y r s (stands k block x few p) (stands k block y few q) e

-- ---- all blocks

module _ (shape : IndexShape) (few : is_large shape.kind ≡ false) where
  abbrev May : ℕ → Known → Type 0
  May block k = MayKeep shape.kind (block_shape shape block) k

  -- what may be kept of the blocks from one on
  abbrev MayFrom : ℕ → List Known → Type 0
  MayFrom first blocks = (i n : ℕ) (k : Known) → n ≡ first + i → slice_get blocks i ≡ Some k → May n k

  may_first : (first : ℕ) (k : Known) (blocks : List Known) → MayFrom first (k ∷ blocks) → May first k
  may_first first k blocks may = may 0 first k (omega arith) refl

  may_rest : (first : ℕ) (k : Known) (blocks : List Known) → MayFrom first (k ∷ blocks) → MayFrom (first + 1) blocks
  may_rest first k blocks may i n x e here = may (suc i) n x (omega (arith, e)) here

  may_all : (first : ℕ) (k : Known) (blocks : List Known) → May first k → MayFrom (first + 1) blocks → MayFrom first (k ∷ blocks)
  may_all first k blocks this rest zero n x e here =
      let same : k ≡ x = same_Some k x here in
      let place : first ≡ n = omega (arith, e) in
      subst (May n) same (subst (λ m. May m k) place this)
  may_all first k blocks this rest (suc i) n x e here = rest i n x (omega (arith, e)) here

  -- the bytes are those of so many blocks from one on
  record BlocksFrom (first n : ℕ) (bytes : List ℕ) : Type 0 where
    blocks : List Known
    may : MayFrom first blocks
    count_is : length blocks ≡ n
    spelled : bytes ≡ blocks_bytes blocks

  next_blocks : (first n : ℕ) (bytes : List ℕ) (x : Front known_bytes (May first) bytes) → BlocksFrom (first + 1) n x.rest → BlocksFrom first (suc n) bytes
  next_blocks first n bytes x xs = record {
    blocks = x.item ∷ xs.blocks;
    may = may_all first x.item xs.blocks x.is xs.may;
    count_is = ap suc xs.count_is;
    spelled = x.parted ∙ ap (λ l. known_bytes x.item ++ l) xs.spelled;
  }

  front_block : (first n : ℕ) (bytes : List ℕ) (blocks : List Known) → MayFrom first blocks → length blocks ≡ suc n → bytes ≡ blocks_bytes blocks → Front known_bytes (May first) bytes
  front_block first n bytes [] may count e = absurd (omega (arith, count))
  front_block first n bytes (k ∷ ks) may count e = record { item = k; rest = blocks_bytes ks; is = may_first first k ks may; parted = e }

  rest_blocks : (first n : ℕ) (bytes : List ℕ) (x : Front known_bytes (May first) bytes) (blocks : List Known) → MayFrom first blocks → length blocks ≡ suc n → bytes ≡ blocks_bytes blocks → BlocksFrom (first + 1) n x.rest
  rest_blocks first n bytes x [] may count e = absurd (omega (arith, count))
  rest_blocks first n bytes x (k ∷ ks) may count e =
      let same = blocks_differ shape.kind (block_shape shape first) x.item k x.rest (blocks_bytes ks) few x.is (may_first first k ks may) (sym x.parted ∙ e) in
      record { blocks = ks; may = may_rest first k ks may; count_is = omega (arith, count); spelled = same.1 }

  decide_from : (n first : ℕ) (bytes : List ℕ) → Decided (BlocksFrom first n bytes)
  decide_from zero first bytes =
      like (λ e. record { blocks = []; may = λ i n k e here. absurd cc; count_is = refl; spelled = nil_from_length bytes e }) (λ b. ap length b.spelled ∙ ap (λ (ks : List Known). length (blocks_bytes ks)) (nil_from_length b.blocks b.count_is))
      (decided (eqb (length bytes) 0) (Decides-eqb (length bytes) 0))
  decide_from (suc n) first bytes = by (decide_front shape.kind (block_shape shape first) bytes few) (λ rest. decide_from n (first + 1) rest)
    where
      by : Decided (Front known_bytes (May first) bytes) → ((rest : List ℕ) → Decided (BlocksFrom (first + 1) n rest)) → Decided (BlocksFrom first (suc n) bytes)
      by (inr none) after = inr (λ b. none (front_block first n bytes b.blocks b.may b.count_is b.spelled))
      by (inl x) after = like (next_blocks first n bytes x) (λ b. rest_blocks first n bytes x b.blocks b.may b.count_is b.spelled) (after x.rest)

  from_none : (blocks : List Known) → AreBlocksOf shape blocks → MayFrom 0 blocks
  from_none blocks are i n k e here = let same : i ≡ n = omega (arith, e) in subst (λ m. May m k) same (are.each i k here)

  none_from : (blocks : List Known) → MayFrom 0 blocks → length blocks ≡ block_count shape → AreBlocksOf shape blocks
  none_from blocks may count = record { each = λ i k here. may i i k (omega arith) here; count_is = count }

  decide_file : (bytes : List ℕ) → Decided ((index : Index) × IsIndexFile shape bytes index)
  decide_file bytes =
      like (λ b. (index_with shape b.blocks, record { kept = none_from b.blocks b.may b.count_is; whole = refl; spelled = b.spelled }))
      (λ i. record { blocks = i.0.blocks; may = from_none i.0.blocks i.1.kept; count_is = i.1.kept.count_is; spelled = i.1.spelled })
      (decide_from (block_count shape) 0 bytes)

-- ---- the file of a skip index of a table

decide_index : (schema : Schema) (n : ℕ) → Decided (HasIndex schema n)
decide_index schema n =
    like (λ p. record { there = p.0; own = p.1.0; span = p.1.1.0; few = p.1.1.1.0; granularity = p.1.1.1.1 }) (λ h. (h.there, (h.own, (h.span, (h.few, h.granularity)))))
    (both (less n (length schema.indexes)) (both (less (index_at schema n).column (length schema.columns)) (both (less 0 (index_at schema n).granularity) (both (decide_false (is_large (index_at schema n).kind)) (less 0 schema.granularity)))))

pub decide_blocks : (schema : Schema) (n rows : ℕ) (bytes : List ℕ) → Decided ((index : Index) × AreBlocksFor schema rows n bytes index)
decide_blocks schema n rows bytes = by (decide_index schema n)
  where
    by : Decided (HasIndex schema n) → Decided ((index : Index) × AreBlocksFor schema rows n bytes index)
    by (inr none) = inr (λ i. none i.1.has)
    by (inl has) = like (λ i. (i.0, record { has = has; are = i.1 })) (λ i. (i.0, i.1.are)) (decide_file (shape_of schema n rows) has.few bytes)

pub one_index : (schema : Schema) (n rows : ℕ) (bytes : List ℕ) (x y : Index) → AreBlocksFor schema rows n bytes x → AreBlocksFor schema rows n bytes y → x ≡ y
one_index schema n rows bytes x y p q = one_file (shape_of schema n rows) bytes x y p.has.few p.are q.are

pub index_spelled : (schema : Schema) (n rows : ℕ) (bytes : List ℕ) (index : Index) → AreBlocksFor schema rows n bytes index → bytes ≡ index_bytes index
index_spelled schema n rows bytes index is = is.are.spelled

pub no_index : (schema : Schema) (n rows : ℕ) (bytes : List ℕ) (place : ℕ) (index : Index) → IsIndexFault (shape_of schema n rows) bytes place → AreBlocksFor schema rows n bytes index → ⊥
no_index schema n rows bytes place index wrong is = no_file (shape_of schema n rows) bytes place index is.has.few wrong is.are

-- what is written of rows is their file
pub index_from_rows : (schema : Schema) (n : ℕ) (rows : List Row) → HasIndex schema n → ArePartRows schema (length rows) rows → AreBlocksFor schema (length rows) n (index_bytes (index_of schema n rows)) (index_of schema n rows)
index_from_rows schema n rows has are = record { has = has; are = index_written schema n rows has are.typed are.fit }
