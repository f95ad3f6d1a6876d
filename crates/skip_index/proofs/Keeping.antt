-- What is kept of blocks of values at places of a column, block by block.
use Rattle.std.proofs.Common.{◌≡◌, ℕ, ◌+◌, ◌*◌, ◌<◌, ◌≤◌, List, [], ◌∷◌, ◌++◌, refl, sym, ap, ap₂, ◌∙◌, min, length, length-drop, map, take, drop, drop-drop, get_or, mul-zero, mul_comm, zero-add, arith, subst}
use Rattle.std.proofs.lemmas.Grind.{div_ceil_times}
use Rattle.std.proofs.lemmas.List.{drop-map, length-map, length_push, take-map, take_at}
use Rattle.std.proofs.lemmas.List.Elements.{All-drop, All-head, All-tail, All-take}
use Rattle.std.proofs.lemmas.List.FromFn.{map-range_with_len_more}
use Rattle.std.proofs.lemmas.Option.{slice_get-get_or}
use Rattle.std.proofs.lemmas.Simd.{map-map}
use Rattle.std.specs.Int.{div_ceil}
use Rattle.std.specs.List.{cons_option, range_with_len}
use Rattle.mt_values.specs.declared.schema.IndexKind.{IndexKind}
use Rattle.mt_values.specs.declared.value.Value.{Value}
use Rattle.mt_values.specs.declared.value.Value.TheVariants as value
use Rattle.predicate.specs.declared.extent.Known.{Known}
use Rattle.mt_values.proofs.Covers.{same_count}
use Rattle.column_file.proofs.Writing.{AreWithin, chunk_parts, values_at}
use Rattle.skip_index.specs.Blocks.{blocks_of, kept_of}

any_value : Value
any_value = value.UInt8 0

-- the values at places that a column has, place by place
by_place : (values : List Value) (places : List ℕ) → AreWithin values places → values_at values places ≡ map (λ p. get_or values p any_value) places
by_place values [] h = refl
by_place values (p ∷ places) h =
    ap (λ o. cons_option o (values_at values places)) (slice_get-get_or values p any_value (All-head (λ place. place < length values) p places h))
    ∙ ap (λ vs. get_or values p any_value ∷ vs) (by_place values places (All-tail (λ place. place < length values) p places h))

-- a block of them is the values at a block of the places
block_by_place : (values : List Value) (places : List ℕ) (size from : ℕ) → AreWithin values places → values_at values (take size (drop from places)) ≡ take size (drop from (values_at values places))
block_by_place values places size from h =
    let f : ℕ → Value = λ p. get_or values p any_value in
    by_place values (take size (drop from places)) (All-take (λ place. place < length values) size (drop from places) (All-drop (λ place. place < length values) from places h))
    ∙ sym (take-map f size (drop from places))
    ∙ ap (take size) (sym (drop-map f from places))
    ∙ ap (λ vs. take size (drop from vs)) (sym (by_place values places h))

module _ (kind : IndexKind) (values : List Value) (places : List ℕ) (size : ℕ) where
  -- what is kept of a block, counted from 0
  abbrev pub kept_at : ℕ → Known
  kept_at block = kept_of kind (values_at values (take size (drop (size * block) places)))

-- these blocks are kept, and these places are left
pub record AreKept (kind : IndexKind) (values : List Value) (places : List ℕ) (size : ℕ) (blocks : List Known) (rest : List ℕ) : Type 0 where
  pub left : rest ≡ drop (size * length blocks) places
  pub blocks_are : blocks ≡ map (kept_at kind values places size) (range_with_len 0 (length blocks))
  pub begun : size * length blocks < length places + size

module _ (kind : IndexKind) (values : List Value) (places : List ℕ) (size : ℕ) where
  -- no block is kept yet
  pub kept_none : 0 < size → AreKept kind values places size [] places
  kept_none h = record {
    left = ap (λ n. drop n places) (sym (mul-zero size));
    blocks_are = refl;
    begun = omega arith;
  }

  -- one block more is kept
  pub kept_more : (blocks : List Known) (rest chunk left : List ℕ) (k : Known) (more : List Known) → AreKept kind values places size blocks rest → rest ≡ chunk ++ left
      → length chunk ≡ min size (length rest) → 0 < length rest → k ≡ kept_of kind (values_at values chunk) → more ≡ blocks ++ k ∷ [] → AreKept kind values places size more left
  kept_more blocks rest chunk left k more w parted full some is m =
      let n = length blocks in
      let count : length more ≡ n + 1 = ap length m ∙ length_push blocks k in
      let next : size * length more ≡ size * n + size = omega (arith, ap (λ i. size * i) count) in
      let these : drop (size * n) places ≡ chunk ++ left = sym w.left ∙ parted in
      let parts = chunk_parts size chunk left (full ∙ ap (λ l. min size (length l)) parted) in
      record {
        left = sym parts.1 ∙ ap (drop size) (sym these) ∙ drop-drop size (size * n) places ∙ ap (λ i. drop i places) (sym next);
        blocks_are = m
            ∙ ap₂ (λ l x. l ++ x ∷ []) w.blocks_are (is ∙ ap (λ c. kept_of kind (values_at values c)) (sym parts.0 ∙ ap (take size) (sym these)))
            ∙ sym (map-range_with_len_more (kept_at kind values places size) 0 n n (zero-add n))
            ∙ ap (λ i. map (kept_at kind values places size) (range_with_len 0 i)) (sym count);
        begun = omega (arith, next, ap length w.left, length-drop (size * n) places);
      }

  -- the places of a block are places of the column
  pub kept_within : (blocks : List Known) (rest chunk left : List ℕ) → AreKept kind values places size blocks rest → rest ≡ chunk ++ left → AreWithin values places → AreWithin values chunk
  kept_within blocks rest chunk left w parted h =
      let behind = All-drop (λ place. place < length values) (size * length blocks) places h in
      let these : drop (size * length blocks) places ≡ chunk ++ left = sym w.left ∙ parted in
      let first = All-take (λ place. place < length values) (length chunk) (chunk ++ left) (subst (AreWithin values) these behind) in
      subst (AreWithin values) (take_at chunk left (length chunk) refl) first

  -- all blocks are kept
  pub kept_all : (blocks : List Known) (rest : List ℕ) → AreKept kind values places size blocks rest → length rest ≡ 0 → AreWithin values places → 0 < size
      → blocks ≡ map (kept_of kind) (blocks_of size (values_at values places))
  kept_all blocks rest w none within some =
      let n = length blocks in
      let vs = values_at values places in
      let len : length vs ≡ length places = ap length (by_place values places within) ∙ length-map places (λ p. get_or values p any_value) in
      let ceil = div_ceil_times (length vs) size some in
      let flip = mul_comm n size in
      let end : length places ≤ size * n = omega (arith, none, ap length w.left, length-drop (size * n) places) in
      let counted : n ≡ div_ceil (length vs) size =
      same_count (length vs) size n (div_ceil (length vs) size) (omega (arith, len, end, flip)) (omega (arith, w.begun, len, flip)) ceil.0 ceil.1 in
      let alike : kept_at kind values places size ≡ (λ block. kept_of kind (take size (drop (size * block) vs))) =
      λ i. λ block. kept_of kind (block_by_place values places size (size * block) within i) in
      w.blocks_are
      ∙ ap (λ i. map (kept_at kind values places size) (range_with_len 0 i)) counted
      ∙ ap (λ (f : ℕ → Known). map f (range_with_len 0 (div_ceil (length vs) size))) alike
      ∙ sym (map-map (kept_of kind) (λ block. take size (drop (size * block) vs)) (range_with_len 0 (div_ceil (length vs) size)))
