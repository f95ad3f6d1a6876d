-- Bytes are read in one way: no two values of a type begin one text, so no two lists of values do.
use Rattle.std.proofs.Common.{◌≡◌, ℕ, suc, ◌+◌, ◌%◌, ◌^◌, ◌<◌, ◌≤◌, ℤ, List, [], ◌∷◌, ◌++◌, ◌⊎◌, All, refl, sym, ap, ap₂, ◌∙◌, inl, inr, length, length-append, take, drop, append_assoc, append-nil, arith, FitsSigned, subst}
use Rattle.std.specs.Prelude.{⊤}
use Rattle.std.proofs.Math.Facts.{Fits-of_z}
use Rattle.std.proofs.lemmas.Bool.{cases_lt}
use Rattle.std.proofs.lemmas.Int.{to_z-of_z}
use Rattle.std.proofs.lemmas.List.{take_at, drop_at, nil_from_length}
use Rattle.std.proofs.lemmas.List.Elements.{All-head, All-tail}
use Rattle.std.proofs.lemmas.Nat.{from_le_bytes-to_le_bytes_2, from_le_bytes-to_le_bytes_4, from_le_bytes-to_le_bytes_8}
use mir.Val.{bits}
use Rattle.std.specs.Int.{Width, w8, w16, w32, w64, to_le_bytes, from_le_bytes, cast_unsigned, cast_signed}
use Rattle.mt_values.specs.declared.value.ColType.{ColType}
use Rattle.mt_values.specs.declared.value.ColType.TheVariants as type
use Rattle.mt_values.specs.declared.value.Value.{Value}
use Rattle.mt_values.specs.declared.value.Value.TheVariants.{UInt8, UInt16, UInt32, UInt64, Int8, Int16, Int32, Int64, Text}
use Rattle.mt_values.specs.ColumnBytes.{column_bytes, value_bytes, leb128}
use Rattle.column_file.specs.Faults.{IsFirstFault, IsStuck}
use Rattle.mt_values.specs.Values.{type_of}
use Rattle.column_file.specs.Spellings.{IsOfType, IsSpelling}
use Rattle.byte_numbers.proofs.Groups.{groups_apart}

-- ---- values

-- lists of one length at the front of one list are one
fronts_apart : (xs ys r s : List ℕ) → length xs ≡ length ys → xs ++ r ≡ ys ++ s → (xs ≡ ys) × (r ≡ s)
fronts_apart xs ys r s n e = (
  sym (take_at xs r (length ys) n) ∙ ap (take (length ys)) e ∙ take_at ys s (length ys) refl,
  sym (drop_at xs r (length ys) n) ∙ ap (drop (length ys)) e ∙ drop_at ys s (length ys) refl,
)

one_apart : (m n : ℕ) (r s : List ℕ) → m < 2 ^ 8 → n < 2 ^ 8 → to_le_bytes w8 m ++ r ≡ to_le_bytes w8 n ++ s → (m ≡ n) × (r ≡ s)
one_apart m n r s p q e =
    let h : (m % 256) ∷ r ≡ (n % 256) ∷ s = e in
    let g : m % 256 ≡ n % 256 = cc in
    (omega arith, cc)

two_apart : (m n : ℕ) (r s : List ℕ) → m < 2 ^ 16 → n < 2 ^ 16 → to_le_bytes w16 m ++ r ≡ to_le_bytes w16 n ++ s → (m ≡ n) × (r ≡ s)
two_apart m n r s p q e =
    let t = fronts_apart (to_le_bytes w16 m) (to_le_bytes w16 n) r s refl e in
    (sym (from_le_bytes-to_le_bytes_2 m p) ∙ ap (from_le_bytes w16) t.0 ∙ from_le_bytes-to_le_bytes_2 n q, t.1)

pub four_apart : (m n : ℕ) (r s : List ℕ) → m < 2 ^ 32 → n < 2 ^ 32 → to_le_bytes w32 m ++ r ≡ to_le_bytes w32 n ++ s → (m ≡ n) × (r ≡ s)
four_apart m n r s p q e =
    let t = fronts_apart (to_le_bytes w32 m) (to_le_bytes w32 n) r s refl e in
    (sym (from_le_bytes-to_le_bytes_4 m p) ∙ ap (from_le_bytes w32) t.0 ∙ from_le_bytes-to_le_bytes_4 n q, t.1)

pub eight_apart : (m n : ℕ) (r s : List ℕ) → m < 2 ^ 64 → n < 2 ^ 64 → to_le_bytes w64 m ++ r ≡ to_le_bytes w64 n ++ s → (m ≡ n) × (r ≡ s)
eight_apart m n r s p q e =
    let t = fronts_apart (to_le_bytes w64 m) (to_le_bytes w64 n) r s refl e in
    (sym (from_le_bytes-to_le_bytes_8 m p) ∙ ap (from_le_bytes w64) t.0 ∙ from_le_bytes-to_le_bytes_8 n q, t.1)

-- signed numbers of one width in two's complement
pub same_signed : (w : Width) (y z : ℤ) → FitsSigned w y → FitsSigned w z → cast_unsigned w y ≡ cast_unsigned w z → y ≡ z
same_signed w y z p q e = sym (to_z-of_z w y p) ∙ ap (cast_signed w) e ∙ to_z-of_z w z q

pub fits_unsigned : (w : Width) (z : ℤ) → FitsSigned w z → cast_unsigned w z < 2 ^ bits w
fits_unsigned w z p = (Fits-of_z p).fits

text_apart : (x y r s : List ℕ) → (leb128 (length x) ++ x) ++ r ≡ (leb128 (length y) ++ y) ++ s → (x ≡ y) × (r ≡ s)
text_apart x y r s e =
    let t = groups_apart 9 (length x) (length y) (x ++ r) (y ++ s) (sym (append_assoc (leb128 (length x)) x r) ∙ e ∙ append_assoc (leb128 (length y)) y s) in
    fronts_apart x y r s t.0 t.1

-- two types are one; of two others this is false by its cases alone
abbrev pub Alike : ColType → ColType → Type 0
Alike type.UInt8 type.UInt8 = ⊤
Alike type.UInt16 type.UInt16 = ⊤
Alike type.UInt32 type.UInt32 = ⊤
Alike type.UInt64 type.UInt64 = ⊤
Alike type.Int8 type.Int8 = ⊤
Alike type.Int16 type.Int16 = ⊤
Alike type.Int32 type.Int32 = ⊤
Alike type.Int64 type.Int64 = ⊤
Alike type.Text type.Text = ⊤
Alike t u = ⊥

alike : (t : ColType) → Alike t t
alike type.UInt8 = tt
alike type.UInt16 = tt
alike type.UInt32 = tt
alike type.UInt64 = tt
alike type.Int8 = tt
alike type.Int16 = tt
alike type.Int32 = tt
alike type.Int64 = tt
alike type.Text = tt

pub one_type : (t u : ColType) → t ≡ u → Alike t u
one_type t u e = subst (Alike t) e (alike t)

-- bytes begin with at most one value of a type, and one text follows it
pub value_apart : (t : ColType) (x y : Value) (r s : List ℕ) → IsOfType t x → IsOfType t y → value_bytes x ++ r ≡ value_bytes y ++ s → (x ≡ y) × (r ≡ s)
value_apart t (UInt8 m) (UInt8 n) r s p q e = (cc, cc)
value_apart t (UInt16 m) (UInt16 n) r s p q e = let h = two_apart m n r s p.1 q.1 e in (ap UInt16 h.0, h.1)
value_apart t (UInt32 m) (UInt32 n) r s p q e = let h = four_apart m n r s p.1 q.1 e in (ap UInt32 h.0, h.1)
value_apart t (UInt64 m) (UInt64 n) r s p q e = let h = eight_apart m n r s p.1 q.1 e in (ap UInt64 h.0, h.1)
value_apart t (Int8 m) (Int8 n) r s p q e =
    let h = one_apart (cast_unsigned w8 m) (cast_unsigned w8 n) r s (fits_unsigned w8 m p.1) (fits_unsigned w8 n q.1) e in
    (ap Int8 (same_signed w8 m n p.1 q.1 h.0), h.1)
value_apart t (Int16 m) (Int16 n) r s p q e =
    let h = two_apart (cast_unsigned w16 m) (cast_unsigned w16 n) r s (fits_unsigned w16 m p.1) (fits_unsigned w16 n q.1) e in
    (ap Int16 (same_signed w16 m n p.1 q.1 h.0), h.1)
value_apart t (Int32 m) (Int32 n) r s p q e =
    let h = four_apart (cast_unsigned w32 m) (cast_unsigned w32 n) r s (fits_unsigned w32 m p.1) (fits_unsigned w32 n q.1) e in
    (ap Int32 (same_signed w32 m n p.1 q.1 h.0), h.1)
value_apart t (Int64 m) (Int64 n) r s p q e =
    let h = eight_apart (cast_unsigned w64 m) (cast_unsigned w64 n) r s (fits_unsigned w64 m p.1) (fits_unsigned w64 n q.1) e in
    (ap Int64 (same_signed w64 m n p.1 q.1 h.0), h.1)
value_apart t (Text x) (Text y) r s p q e = let h = text_apart x y r s e in (ap Text h.0, h.1)
value_apart t x y r s p q e = absurd (one_type (type_of x) (type_of y) (p.0 ∙ sym q.0))

-- ---- lists of values

-- of two lists at the front of one text the longer begins with the shorter
pub record Longer (t : ColType) (xs ys : List Value) (r s : List ℕ) : Type 0 where
  pub more : List Value
  pub typed : All (IsOfType t) more
  pub parted : ys ≡ xs ++ more
  pub rest : r ≡ column_bytes more ++ s

pub lists_apart : (t : ColType) (xs ys : List Value) (r s : List ℕ) → All (IsOfType t) xs → All (IsOfType t) ys → length xs ≤ length ys → column_bytes xs ++ r ≡ column_bytes ys ++ s → Longer t xs ys r s
lists_apart t [] ys r s p q few e = record { more = ys; typed = q; parted = refl; rest = e }
lists_apart t (x ∷ xs) [] r s p q few e = absurd (omega arith)
lists_apart t (x ∷ xs) (y ∷ ys) r s p q few e =
    let first = value_apart t x y (column_bytes xs ++ r) (column_bytes ys ++ s) (All-head (IsOfType t) x xs p) (All-head (IsOfType t) y ys q)
    (sym (append_assoc (value_bytes x) (column_bytes xs) r) ∙ e ∙ append_assoc (value_bytes y) (column_bytes ys) s) in
    let behind = lists_apart t xs ys r s (All-tail (IsOfType t) x xs p) (All-tail (IsOfType t) y ys q) (omega arith) first.1 in
    record { more = behind.more; typed = behind.typed; parted = ap₂ (λ v vs. v ∷ vs) (sym first.0) behind.parted; rest = behind.rest }

-- ---- spellings and faults

-- bytes spell one list of so many values of a type
pub one_spelling : (t : ColType) (count : ℕ) (bytes : List ℕ) (xs ys : List Value) → IsSpelling t count bytes xs → IsSpelling t count bytes ys → xs ≡ ys
one_spelling t count bytes xs ys p q =
    let l = lists_apart t xs ys [] [] p.typed q.typed (omega (arith, p.count_is, q.count_is))
    (append-nil (column_bytes xs) ∙ sym p.spelled ∙ q.spelled ∙ sym (append-nil (column_bytes ys))) in
    let none : length l.more ≡ 0 = omega (arith, p.count_is, q.count_is, simp length-append at (ap length l.parted)) in
    sym (append-nil xs) ∙ ap (λ vs. xs ++ vs) (sym (nil_from_length l.more none)) ∙ sym l.parted

-- where values are stuck, no longer list of values begins with them
stuck_ends : (t : ColType) (count : ℕ) (xs ys : List Value) (r s : List ℕ) → IsStuck t count (length xs) r → length ys ≤ count → Longer t xs ys r s → ys ≡ xs
stuck_ends t count xs ys r s stuck few l = by l.more l.typed l.parted l.rest
  where
    by : (more : List Value) → All (IsOfType t) more → ys ≡ xs ++ more → r ≡ column_bytes more ++ s → ys ≡ xs
    by [] typed parted rest = parted ∙ append-nil xs
    by (v ∷ more) typed parted rest = none stuck
      where
        longer : length ys ≡ length xs + suc (length more)
        longer = ap length parted ∙ length-append xs (v ∷ more)

        none : IsStuck t count (length xs) r → ys ≡ xs
        none (inl h) = absurd (h.1 v (column_bytes more ++ s) (All-head (IsOfType t) v more typed) (rest ∙ append_assoc (value_bytes v) (column_bytes more) s))
        none (inr h) = absurd (omega (arith, longer, h.0))

-- at most so many values were read
pub stuck_few : (t : ColType) (count read : ℕ) (rest : List ℕ) → IsStuck t count read rest → read ≤ count
stuck_few t count read rest (inl h) = omega (arith, h.0)
stuck_few t count read rest (inr h) = omega (arith, h.0)

-- bytes with a first fault are no spelling
pub no_spelling : (t : ColType) (count : ℕ) (bytes : List ℕ) (place : ℕ) (values : List Value) → IsFirstFault t count bytes place → IsSpelling t count bytes values → ⊥
no_spelling t count bytes place values f p = contra f.stuck
  where
    few : length f.values ≤ length values
    few = omega (arith, stuck_few t count (length f.values) f.rest f.stuck, p.count_is)

    l : Longer t f.values values f.rest []
    l = lists_apart t f.values values f.rest [] f.front.typed p.typed few (sym f.front.parted ∙ p.spelled ∙ sym (append-nil (column_bytes values)))

    same : values ≡ f.values
    same = stuck_ends t count f.values values f.rest [] f.stuck (omega (arith, p.count_is)) l

    none : l.more ≡ []
    none = nil_from_length l.more (omega (arith, ap length same, simp length-append at (ap length l.parted)))

    contra : IsStuck t count (length f.values) f.rest → ⊥
    contra (inl h) = omega (arith, h.0, p.count_is, ap length same)
    contra (inr h) = h.1 (l.rest ∙ ap (λ more. column_bytes more ++ []) none)

-- the first fault is at one place
pub one_place : (t : ColType) (count : ℕ) (bytes : List ℕ) (first second : ℕ) → IsFirstFault t count bytes first → IsFirstFault t count bytes second → first ≡ second
one_place t count bytes first second f g = either (cases_lt (length f.values) (length g.values))
  where
    ends : (a b : ℕ) (p : IsFirstFault t count bytes a) (q : IsFirstFault t count bytes b) → length p.values ≤ length q.values → b ≡ a
    ends a b p q few =
        let l = lists_apart t p.values q.values p.rest q.rest p.front.typed q.front.typed few (sym p.front.parted ∙ q.front.parted) in
        q.place_is ∙ ap (λ vs. length (column_bytes vs)) (stuck_ends t count p.values q.values p.rest q.rest p.stuck (stuck_few t count (length q.values) q.rest q.stuck) l) ∙ sym p.place_is

    either : (length f.values < length g.values) ⊎ (length g.values ≤ length f.values) → first ≡ second
    either (inl h) = sym (ends first second f g (omega arith))
    either (inr h) = ends second first g f h
