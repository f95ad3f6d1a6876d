-- Whether bytes begin with items that are spelled one after another, and which: decided from the front.
use Rattle.std.proofs.Common.{◌≡◌, ℕ, zero, suc, ◌+◌, ◌^◌, ◌<◌, ◌⊎◌, inl, inr, Bool, true, false, List, [], ◌∷◌, ◌++◌, All, Option, Some, None, refl, sym, ap, ap₂, ◌∙◌, subst, length, drop, flat_map, append_assoc, append-nil, arith, eqb, ltb}
use Rattle.std.specs.Bool.{Decides}
use Rattle.std.specs.Int.{w64, to_le_bytes}
use Rattle.std.proofs.lemmas.Bool.{false≢true}
use Rattle.std.proofs.lemmas.Bool.Decides.{Decides-eqb, Decides-ltb}
use Rattle.std.proofs.lemmas.List.{nil_from_length}
use Rattle.std.proofs.lemmas.List.Elements.{All-nil, All-cons, All-head, All-tail}
use Rattle.mt_values.specs.declared.value.ColType.{ColType}
use Rattle.mt_values.specs.declared.value.ColType.TheVariants as type
use Rattle.mt_values.specs.declared.value.Value.{Value}
use Rattle.mt_values.specs.declared.value.Value.TheVariants as value
use Rattle.mt_values.specs.ColumnBytes.{column_bytes, value_bytes}
use Rattle.mt_values.specs.Values.{FitsType, Row, type_of, types_of}
use Rattle.part_writer.specs.column_file.Marks.{numbers_bytes}
use Rattle.part_writer.specs.column_file.Spellings.{IsOfType}
use Rattle.part_writer.specs.column_file.Tests.{first_size}
use Rattle.part_writer.proofs.FileLaws.{AreApart, FirstIs, eight_apart, even, first_is, value_apart}
use Rattle.part_writer.specs.primary_marks.Keys.{IsKeyOf}
use Rattle.part_writer.specs.primary_marks.Places.{AreStarts, AreStartsOf, RiseAbove}

-- it holds, or it does not
abbrev pub Decided : Type 0 → Type 0
Decided P = P ⊎ (P → ⊥)

pub decided : {P : Type 0} (b : Bool) → Decides b P → Decided P
decided true d = inl (d.0 refl)
decided false d = inr (λ p. absurd (false≢true (d.1 p)))

pub both : {P Q : Type 0} → Decided P → Decided Q → Decided (P × Q)
both (inl p) (inl q) = inl (p, q)
both (inl p) (inr q) = inr (λ h. q h.1)
both (inr p) q = inr (λ h. p h.0)

pub like : {P Q : Type 0} → (P → Q) → (Q → P) → Decided P → Decided Q
like there back (inl p) = inl (there p)
like there back (inr p) = inr (λ q. p (back q))

-- ---- items at the front

-- the bytes begin with an item
pub record Front {X : Type 0} (f : X → List ℕ) (P : X → Type 0) (bytes : List ℕ) : Type 0 where
  pub item : X
  pub rest : List ℕ
  pub is : P item
  pub parted : bytes ≡ f item ++ rest

-- the bytes begin with so many
pub record Fronts {X : Type 0} (f : X → List ℕ) (P : X → Type 0) (n : ℕ) (bytes : List ℕ) : Type 0 where
  pub items : List X
  pub rest : List ℕ
  pub are : All P items
  pub count_is : length items ≡ n
  pub parted : bytes ≡ flat_map f items ++ rest

-- the bytes are so many
pub record Whole {X : Type 0} (f : X → List ℕ) (P : X → Type 0) (n : ℕ) (bytes : List ℕ) : Type 0 where
  pub items : List X
  pub are : All P items
  pub count_is : length items ≡ n
  pub spelled : bytes ≡ flat_map f items

module _ {X : Type 0} (f : X → List ℕ) (P : X → Type 0) (apart : AreApart f P) (first : (bytes : List ℕ) → Decided (Front f P bytes)) where
  more_fronts : (n : ℕ) (bytes : List ℕ) (x : Front f P bytes) → Fronts f P n x.rest → Fronts f P (suc n) bytes
  more_fronts n bytes x xs = record {
    items = x.item ∷ xs.items;
    rest = xs.rest;
    are = All-cons P x.item xs.items x.is xs.are;
    count_is = ap suc xs.count_is;
    parted = x.parted ∙ ap (λ l. f x.item ++ l) xs.parted ∙ sym (append_assoc (f x.item) (flat_map f xs.items) xs.rest);
  }

  rest_fronts : (n : ℕ) (bytes : List ℕ) (x : Front f P bytes) (xs : List X) (rest : List ℕ) → All P xs → length xs ≡ suc n → bytes ≡ flat_map f xs ++ rest → Fronts f P n x.rest
  rest_fronts n bytes x [] rest are count parted = absurd (omega (arith, count))
  rest_fronts n bytes x (y ∷ ys) rest are count parted =
      let same = apart x.item y x.rest (flat_map f ys ++ rest) x.is (All-head P y ys are) (sym x.parted ∙ parted ∙ append_assoc (f y) (flat_map f ys) rest) in
      record {
        items = ys;
        rest = rest;
        are = All-tail P y ys are;
        count_is = omega (arith, count);
        parted = same.1;
      }

  first_front : (n : ℕ) (bytes : List ℕ) (xs : List X) (rest : List ℕ) → All P xs → length xs ≡ suc n → bytes ≡ flat_map f xs ++ rest → Front f P bytes
  first_front n bytes [] rest are count parted = absurd (omega (arith, count))
  first_front n bytes (y ∷ ys) rest are count parted = record {
    item = y;
    rest = flat_map f ys ++ rest;
    is = All-head P y ys are;
    parted = parted ∙ append_assoc (f y) (flat_map f ys) rest;
  }

  pub fronts : (n : ℕ) (bytes : List ℕ) → Decided (Fronts f P n bytes)
  fronts zero bytes = inl (record { items = []; rest = bytes; are = All-nil P; count_is = refl; parted = refl })
  fronts (suc n) bytes = by (first bytes) (λ rest. fronts n rest)
    where
      by : Decided (Front f P bytes) → ((rest : List ℕ) → Decided (Fronts f P n rest)) → Decided (Fronts f P (suc n) bytes)
      by (inr none) after = inr (λ xs. none (first_front n bytes xs.items xs.rest xs.are xs.count_is xs.parted))
      by (inl x) after = like (more_fronts n bytes x) (λ xs. rest_fronts n bytes x xs.items xs.rest xs.are xs.count_is xs.parted) (after x.rest)

  pub whole : (n : ℕ) (bytes : List ℕ) → Decided (Whole f P n bytes)
  whole n bytes = by (fronts n bytes)
    where
      front_of : Whole f P n bytes → Fronts f P n bytes
      front_of w = record { items = w.items; rest = []; are = w.are; count_is = w.count_is; parted = w.spelled ∙ sym (append-nil (flat_map f w.items)) }

      ended : (xs : Fronts f P n bytes) → Decided (length xs.rest ≡ 0) → Decided (Whole f P n bytes)
      ended xs (inl none) =
          inl (record {
            items = xs.items;
            are = xs.are;
            count_is = xs.count_is;
            spelled = xs.parted ∙ ap (λ l. flat_map f xs.items ++ l) (nil_from_length xs.rest none) ∙ append-nil (flat_map f xs.items);
          })
      ended xs (inr some) =
          inr (λ w. some (ap length (even f P apart xs.items w.items xs.rest [] xs.are w.are (xs.count_is ∙ sym w.count_is)
          (sym xs.parted ∙ w.spelled ∙ sym (append-nil (flat_map f w.items)))).1))

      by : Decided (Fronts f P n bytes) → Decided (Whole f P n bytes)
      by (inr none) = inr (λ w. none (front_of w))
      by (inl xs) = ended xs (decided (eqb (length xs.rest) 0) (Decides-eqb (length xs.rest) 0))

-- ---- keys

row_more : (t : ColType) (types : List ColType) (bytes : List ℕ) (v : Value) (size : ℕ) → IsOfType t v → bytes ≡ value_bytes v ++ drop size bytes → Front column_bytes (IsKeyOf types) (drop size bytes) → Front column_bytes (IsKeyOf (t ∷ types)) bytes
row_more t types bytes v size typed parted k = record {
  item = v ∷ k.item;
  rest = k.rest;
  is = record { typed = ap₂ (λ (x : ColType) (xs : List ColType). x ∷ xs) typed.0 k.is.typed; fit = All-cons FitsType v k.item typed.1 k.is.fit };
  parted = parted ∙ ap (λ l. value_bytes v ++ l) k.parted ∙ sym (append_assoc (value_bytes v) (column_bytes k.item) k.rest);
}

row_rest : (t : ColType) (types : List ColType) (bytes : List ℕ) (v : Value) (size : ℕ) → IsOfType t v → bytes ≡ value_bytes v ++ drop size bytes → (key : Row) (rest : List ℕ) → IsKeyOf (t ∷ types) key → bytes ≡ column_bytes key ++ rest → Front column_bytes (IsKeyOf types) (drop size bytes)
row_rest t types bytes v size typed parted [] rest is e = let none = is.typed in absurd cc
row_rest t types bytes v size typed parted (w ∷ ws) rest is e =
    let first : type_of w ≡ t = let h = is.typed in cc in
    let others : types_of ws ≡ types = let h = is.typed in cc in
    let same = value_apart t v w (drop size bytes) (column_bytes ws ++ rest) typed (first, All-head FitsType w ws is.fit) (sym parted ∙ e ∙ append_assoc (value_bytes w) (column_bytes ws) rest) in
    record { item = ws; rest = rest; is = record { typed = others; fit = All-tail FitsType w ws is.fit }; parted = same.1 }

no_row : (t : ColType) (types : List ColType) (bytes : List ℕ) → ((v : Value) (rest : List ℕ) → IsOfType t v → bytes ≡ value_bytes v ++ rest → ⊥) → (key : Row) (rest : List ℕ) → IsKeyOf (t ∷ types) key → bytes ≡ column_bytes key ++ rest → ⊥
no_row t types bytes none [] rest is e = let h = is.typed in cc
no_row t types bytes none (w ∷ ws) rest is e =
    let first : type_of w ≡ t = let h = is.typed in cc in
    none w (column_bytes ws ++ rest) (first, All-head FitsType w ws is.fit) (e ∙ append_assoc (value_bytes w) (column_bytes ws) rest)

pub first_key : (types : List ColType) (bytes : List ℕ) → Decided (Front column_bytes (IsKeyOf types) bytes)
first_key [] bytes = inl (record { item = []; rest = bytes; is = record { typed = refl; fit = All-nil FitsType }; parted = refl })
first_key (t ∷ types) bytes = by (first_size t bytes) (first_is t bytes) (λ rest. first_key types rest)
  where
    by : (o : Option ℕ) → FirstIs t bytes o → ((rest : List ℕ) → Decided (Front column_bytes (IsKeyOf types) rest)) → Decided (Front column_bytes (IsKeyOf (t ∷ types)) bytes)
    by None none after = inr (λ k. no_row t types bytes none k.item k.rest k.is k.parted)
    by (Some size) first after =
        like (row_more t types bytes first.0 size first.1 first.2.parted) (λ k. row_rest t types bytes first.0 size first.1 first.2.parted k.item k.rest k.is k.parted)
        (after (drop size bytes))

-- ---- places

-- eight bytes are a number
word_of : (v : Value) → IsOfType type.UInt64 v → (n : ℕ) × (n < 2 ^ 64) × (value_bytes v ≡ to_le_bytes w64 n)
word_of (value.UInt64 n) typed = (n, typed.1, refl)
word_of v typed = absurd (let h = typed.0 in cc)

abbrev FitsWord : ℕ → Type 0
FitsWord n = n < 2 ^ 64

first_word : (bytes : List ℕ) → Decided (Front (to_le_bytes w64) FitsWord bytes)
first_word bytes = by (first_size type.UInt64 bytes) (first_is type.UInt64 bytes)
  where
    by : (o : Option ℕ) → FirstIs type.UInt64 bytes o → Decided (Front (to_le_bytes w64) FitsWord bytes)
    by None none = inr (λ x. none (value.UInt64 x.item) x.rest (refl, x.is) x.parted)
    by (Some size) first =
        let word = word_of first.0 first.1 in
        inl (record { item = word.0; rest = drop size bytes; is = word.1; parted = first.2.parted ∙ ap (λ l. l ++ drop size bytes) word.2 })

words_apart : AreApart (to_le_bytes w64) FitsWord
words_apart x y r s p q e = eight_apart x y r s p q e

decide_rise : (low : ℕ) (ns : List ℕ) → Decided (RiseAbove low ns)
decide_rise low [] = inl tt
decide_rise low (n ∷ ns) = both (decided (ltb low n) (Decides-ltb low n)) (decide_rise n ns)

decide_starts : (ns : List ℕ) → Decided (AreStarts ns)
decide_starts [] = inl tt
decide_starts (n ∷ ns) = both (decided (eqb n 0) (Decides-eqb n 0)) (decide_rise n ns)

pub first_starts : (granules : ℕ) (bytes : List ℕ) → Decided (Front numbers_bytes (AreStartsOf granules) bytes)
first_starts granules bytes = by (fronts (to_le_bytes w64) FitsWord words_apart first_word (granules + 1) bytes)
  where
    words : Front numbers_bytes (AreStartsOf granules) bytes → Fronts (to_le_bytes w64) FitsWord (granules + 1) bytes
    words x = record { items = x.item; rest = x.rest; are = x.is.fit; count_is = x.is.count_is; parted = x.parted }

    rising : (xs : Fronts (to_le_bytes w64) FitsWord (granules + 1) bytes) → Decided (AreStarts xs.items) → Decided (Front numbers_bytes (AreStartsOf granules) bytes)
    rising xs (inl rise) = inl (record { item = xs.items; rest = xs.rest; is = record { count_is = xs.count_is; rise = rise; fit = xs.are }; parted = xs.parted })
    rising xs (inr falls) =
        inr (λ x.
        let same : xs.items ≡ x.item = (even (to_le_bytes w64) FitsWord words_apart xs.items x.item xs.rest x.rest xs.are x.is.fit (xs.count_is ∙ sym x.is.count_is) (sym xs.parted ∙ x.parted)).0 in
        falls (subst AreStarts (sym same) x.is.rise))

    by : Decided (Fronts (to_le_bytes w64) FitsWord (granules + 1) bytes) → Decided (Front numbers_bytes (AreStartsOf granules) bytes)
    by (inr none) = inr (λ x. none (words x))
    by (inl xs) = rising xs (decide_starts xs.items)
