-- Numbers in bytes: bytes of a type's width are a number of it, and fewer begin none.
use Rattle.std.proofs.Common.{◌≡◌, ◌≢◌, ℕ, zero, suc, ◌+◌, ◌*◌, ◌/◌, ◌%◌, ◌^◌, ◌<◌, ◌≤◌, List, [], ◌∷◌, ◌++◌, FitsSigned, refl, sym, ap, ◌∙◌, subst, length, length-append, length-drop, length-take-le, take, drop, take-append-drop, arith}
use Rattle.std.proofs.lemmas.Int.{of_z-to_z}
use Rattle.std.proofs.lemmas.List.Elements.{All-cons, All-drop, All-nil, All-take}
use mir.Facts.{sfits_to_z}
use mir.Val.{bits}
use Rattle.std.specs.Int.{Width, w8, w16, w32, w64, to_le_bytes, byte_at, bytes_low_first, cast_signed, cast_unsigned}
use Rattle.mt_values.specs.declared.value.ColType.{ColType}
use Rattle.mt_values.specs.declared.value.ColType.TheVariants as type
use Rattle.mt_values.specs.declared.value.Value.{Value}
use Rattle.mt_values.specs.declared.value.Value.TheVariants as value
use Rattle.mt_values.specs.ColumnBytes.{value_bytes}
use Rattle.column_file.specs.Faults.{NoneBegins}
use Rattle.byte_numbers.specs.Fronts.{Begins}
use Rattle.byte_numbers.proofs.Numbers.{AreBytes, number_of_1, number_of_2, number_of_4, number_of_8}
use Rattle.column_file.specs.Spellings.{IsOfType, fewest_bytes}
use Rattle.column_file.proofs.Reading.{AreRead, read_more, read_none}

-- the signed number of these bits
signed : (w : Width) (n : ℕ) → n < 2 ^ bits w → FitsSigned w (cast_signed w n)
signed w n h = sfits_to_z {w = w} {n = n} (record { fits = h })

-- ---- bytes as a value

-- bytes of the type's width are a number of it
number_there : (t : ColType) (bs : List ℕ) → t ≢ type.Text → length bs ≡ fewest_bytes t → AreBytes bs → (v : Value) × IsOfType t v × (value_bytes v ≡ bs)
number_there type.UInt8 bs other size are = let n = number_of_1 bs size are in (value.UInt8 n.0, (refl, n.1), n.2)
number_there type.UInt16 bs other size are = let n = number_of_2 bs size are in (value.UInt16 n.0, (refl, n.1), n.2)
number_there type.UInt32 bs other size are = let n = number_of_4 bs size are in (value.UInt32 n.0, (refl, n.1), n.2)
number_there type.UInt64 bs other size are = let n = number_of_8 bs size are in (value.UInt64 n.0, (refl, n.1), n.2)
number_there type.Int8 bs other size are =
    let n = number_of_1 bs size are in (value.Int8 (cast_signed w8 n.0), (refl, signed w8 n.0 n.1), ap (to_le_bytes w8) (of_z-to_z w8 n.0 n.1) ∙ n.3)
number_there type.Int16 bs other size are =
    let n = number_of_2 bs size are in (value.Int16 (cast_signed w16 n.0), (refl, signed w16 n.0 n.1), ap (to_le_bytes w16) (of_z-to_z w16 n.0 n.1) ∙ n.2)
number_there type.Int32 bs other size are =
    let n = number_of_4 bs size are in (value.Int32 (cast_signed w32 n.0), (refl, signed w32 n.0 n.1), ap (to_le_bytes w32) (of_z-to_z w32 n.0 n.1) ∙ n.2)
number_there type.Int64 bs other size are =
    let n = number_of_8 bs size are in (value.Int64 (cast_signed w64 n.0), (refl, signed w64 n.0 n.1), ap (to_le_bytes w64) (of_z-to_z w64 n.0 n.1) ∙ n.2)
number_there type.Text bs other size are = absurd (other refl)

-- each number takes as many bytes
pub length_number : (t : ColType) (v : Value) → t ≢ type.Text → IsOfType t v → length (value_bytes v) ≡ fewest_bytes t
length_number t (value.UInt8 n) other typed = ap fewest_bytes typed.0
length_number t (value.UInt16 n) other typed = ap fewest_bytes typed.0
length_number t (value.UInt32 n) other typed = ap fewest_bytes typed.0
length_number t (value.UInt64 n) other typed = ap fewest_bytes typed.0
length_number t (value.Int8 n) other typed = ap fewest_bytes typed.0
length_number t (value.Int16 n) other typed = ap fewest_bytes typed.0
length_number t (value.Int32 n) other typed = ap fewest_bytes typed.0
length_number t (value.Int64 n) other typed = ap fewest_bytes typed.0
length_number t (value.Text bytes) other typed = absurd (other (sym typed.0))

-- which are bytes
below_256 : (m : ℕ) → m % 256 < 256
below_256 m = omega arith

byte_below : (i n : ℕ) → byte_at i n < 256
byte_below zero n = below_256 n
byte_below (suc i) n = below_256 (n / 256 ^ suc i)

low_bytes : (i k n : ℕ) → AreBytes (bytes_low_first i k n)
low_bytes i zero n = All-nil (λ b. b < 256)
low_bytes i (suc k) n = All-cons (λ b. b < 256) (byte_at i n) (bytes_low_first (suc i) k n) (byte_below i n) (low_bytes (suc i) k n)

pub number_bytes : (t : ColType) (v : Value) → t ≢ type.Text → IsOfType t v → AreBytes (value_bytes v)
number_bytes t (value.UInt8 n) other typed =
    let low : n < 256 = omega (arith, typed.1) in All-cons (λ b. b < 256) n [] low (All-nil (λ b. b < 256))
number_bytes t (value.UInt16 n) other typed = low_bytes 0 2 n
number_bytes t (value.UInt32 n) other typed = low_bytes 0 4 n
number_bytes t (value.UInt64 n) other typed = low_bytes 0 8 n
number_bytes t (value.Int8 n) other typed = low_bytes 0 1 (cast_unsigned w8 n)
number_bytes t (value.Int16 n) other typed = low_bytes 0 2 (cast_unsigned w16 n)
number_bytes t (value.Int32 n) other typed = low_bytes 0 4 (cast_unsigned w32 n)
number_bytes t (value.Int64 n) other typed = low_bytes 0 8 (cast_unsigned w64 n)
number_bytes t (value.Text bytes) other typed = absurd (other (sym typed.0))

-- where less is left, none begins
pub none_left : (t : ColType) (rest : List ℕ) → t ≢ type.Text → length rest < fewest_bytes t → NoneBegins t rest
none_left t rest other few v more typed e = omega (arith, length_number t v other typed, ap length e, length-append (value_bytes v) more)

-- ---- a walk over numbers

next_place : (size n : ℕ) → size * n + size ≡ size * suc n
next_place size n = omega arith

-- where the bytes of a number are left, a number begins
pub number_begins : (t : ColType) (left : List ℕ) → t ≢ type.Text → fewest_bytes t ≤ length left → AreBytes (take (fewest_bytes t) left) → (v : Value) × IsOfType t v × Begins (value_bytes v) (fewest_bytes t) left
number_begins t left other here are =
    let size = fewest_bytes t in
    let width : length (take size left) ≡ size = length-take-le size left here in
    let number = number_there t (take size left) other width are in (
      number.0,
      number.1,
      record {
        size_is = sym width ∙ ap length (sym number.2);
        parted = sym (take-append-drop size left) ∙ ap (λ l. l ++ drop size left) (sym number.2);
      },
    )

-- as many numbers as the bytes have room for
pub numbers_read : (t : ColType) (bytes : List ℕ) → t ≢ type.Text → AreBytes bytes → (n : ℕ) → fewest_bytes t * n ≤ length bytes → (values : List Value) × (length values ≡ n) × AreRead t bytes (fewest_bytes t * n) values
numbers_read t bytes other are zero room = ([], refl, subst (λ at. AreRead t bytes at []) (omega arith) (read_none t bytes))
numbers_read t bytes other are (suc n) room =
    let size = fewest_bytes t in
    let at = size * n in
    let next : size * n + size ≡ size * suc n = next_place size n in
    let before = numbers_read t bytes other are n (omega arith) in
    let here : size ≤ length (drop at bytes) = omega (arith, length-drop at bytes) in
    let number = number_begins t (drop at bytes) other here (All-take (λ b. b < 256) size (drop at bytes) (All-drop (λ b. b < 256) at bytes are)) in (
      before.0 ++ number.0 ∷ [],
      length-append before.0 (number.0 ∷ []) ∙ omega (arith, before.1),
      subst (λ p. AreRead t bytes p (before.0 ++ number.0 ∷ [])) next (read_more number.0 size before.2 number.1 number.2),
    )
