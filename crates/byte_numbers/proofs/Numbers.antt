-- Bytes as the numbers that they are.
use Rattle.std.proofs.Common.{◌≡◌, ℕ, List, [], ◌∷◌, ◌^◌, ◌<◌, ◌≤◌, ◌%◌, ◌⊎◌, All, Fits, refl, ap, inl, inr, length, get_or, arith}
use Rattle.std.proofs.lemmas.Bool.{cases_lt}
use Rattle.std.proofs.lemmas.List.{get_or_past}
use Rattle.std.proofs.lemmas.List.Elements.{All-from_get_or, All-get_or}
use Rattle.std.proofs.lemmas.Nat.{le_bytes_2, le_bytes_4, le_bytes_8}
use Rattle.std.specs.Int.{w8, w16, w32, w64, to_le_bytes, from_le_bytes}

-- each number is one byte
abbrev pub AreBytes : List ℕ → Type 0
AreBytes bytes = All (λ b. b < 256) bytes

pub are_bytes : (bs : List ℕ) → ((i : ℕ) → Fits w8 (get_or bs i 0)) → AreBytes bs
are_bytes bs each = All-from_get_or (λ b. b < 256) bs 0 (λ i h. (each i).fits)

each_byte : (bs : List ℕ) → AreBytes bs → (i : ℕ) → get_or bs i 0 < 256
each_byte bs h i = either (cases_lt i (length bs))
  where
    either : (i < length bs) ⊎ (length bs ≤ i) → get_or bs i 0 < 256
    either (inl k) = All-get_or (λ b. b < 256) bs i 0 k h
    either (inr k) = omega (arith, get_or_past bs i 0 k)

-- ---- bytes as a number

small_2 : (bs : List ℕ) → length bs ≡ 2 → ((i : ℕ) → get_or bs i 0 < 256) → from_le_bytes w16 bs < 2 ^ 16
small_2 [] size each = absurd (omega arith)
small_2 (a ∷ []) size each = absurd (omega arith)
small_2 (a ∷ b ∷ []) size each = omega (arith, each 0, each 1)
small_2 (a ∷ b ∷ x ∷ xs) size each = absurd (omega arith)

small_4 : (bs : List ℕ) → length bs ≡ 4 → ((i : ℕ) → get_or bs i 0 < 256) → from_le_bytes w32 bs < 2 ^ 32
small_4 [] size each = absurd (omega arith)
small_4 (a ∷ []) size each = absurd (omega arith)
small_4 (a ∷ b ∷ []) size each = absurd (omega arith)
small_4 (a ∷ b ∷ c ∷ []) size each = absurd (omega arith)
small_4 (a ∷ b ∷ c ∷ d ∷ []) size each = omega (arith, each 0, each 1, each 2, each 3)
small_4 (a ∷ b ∷ c ∷ d ∷ x ∷ xs) size each = absurd (omega arith)

small_8 : (bs : List ℕ) → length bs ≡ 8 → ((i : ℕ) → get_or bs i 0 < 256) → from_le_bytes w64 bs < 2 ^ 64
small_8 [] size each = absurd (omega arith)
small_8 (a ∷ []) size each = absurd (omega arith)
small_8 (a ∷ b ∷ []) size each = absurd (omega arith)
small_8 (a ∷ b ∷ c ∷ []) size each = absurd (omega arith)
small_8 (a ∷ b ∷ c ∷ d ∷ []) size each = absurd (omega arith)
small_8 (a ∷ b ∷ c ∷ d ∷ e ∷ []) size each = absurd (omega arith)
small_8 (a ∷ b ∷ c ∷ d ∷ e ∷ f ∷ []) size each = absurd (omega arith)
small_8 (a ∷ b ∷ c ∷ d ∷ e ∷ f ∷ g ∷ []) size each = absurd (omega arith)
small_8 (a ∷ b ∷ c ∷ d ∷ e ∷ f ∷ g ∷ h ∷ []) size each = omega (arith, each 0, each 1, each 2, each 3, each 4, each 5, each 6, each 7)
small_8 (a ∷ b ∷ c ∷ d ∷ e ∷ f ∷ g ∷ h ∷ x ∷ xs) size each = absurd (omega arith)

pub number_of_1 : (bs : List ℕ) → length bs ≡ 1 → AreBytes bs → (n : ℕ) × (n < 2 ^ 8) × (n ∷ [] ≡ bs) × (to_le_bytes w8 n ≡ bs)
number_of_1 [] size are = absurd (omega arith)
number_of_1 (a ∷ []) size are =
    let low : a < 2 ^ 8 = omega (arith, each_byte (a ∷ []) are 0) in
    let same : a % 256 ≡ a = omega arith in
    (a, low, refl, ap (λ n. n ∷ []) same)
number_of_1 (a ∷ b ∷ bs) size are = absurd (omega arith)

pub number_of_2 : (bs : List ℕ) → length bs ≡ 2 → AreBytes bs → (n : ℕ) × (n < 2 ^ 16) × (to_le_bytes w16 n ≡ bs)
number_of_2 bs size are =
    let each = each_byte bs are in
    (from_le_bytes w16 bs, small_2 bs size each, le_bytes_2 bs (from_le_bytes w16 bs) size each refl)

pub number_of_4 : (bs : List ℕ) → length bs ≡ 4 → AreBytes bs → (n : ℕ) × (n < 2 ^ 32) × (to_le_bytes w32 n ≡ bs)
number_of_4 bs size are =
    let each = each_byte bs are in
    (from_le_bytes w32 bs, small_4 bs size each, le_bytes_4 bs (from_le_bytes w32 bs) size each refl)

pub number_of_8 : (bs : List ℕ) → length bs ≡ 8 → AreBytes bs → (n : ℕ) × (n < 2 ^ 64) × (to_le_bytes w64 n ≡ bs)
number_of_8 bs size are =
    let each = each_byte bs are in
    (from_le_bytes w64 bs, small_8 bs size each, le_bytes_8 bs (from_le_bytes w64 bs) size each refl)
