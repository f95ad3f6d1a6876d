-- The orders of values and rows are total, and tell different values apart.
use Rattle.std.proofs.Common.{◌≡◌, ℕ, ℤ, pos, List, [], refl, subst, ap}
use Rattle.std.specs.Ordering.{int_cmp, nat_cmp, ordering_then}
use Rattle.std.specs.Cmp.Lexicographic.{slice_cmp}
use Rattle.std.specs.declared.cmp.Ordering.{Ordering}
use Rattle.std.specs.declared.cmp.Ordering.TheVariants.{Less, Equal, Greater}
use Rattle.std.proofs.lemmas.Cmp.{int_cmp_total, nat_cmp_total, nat_list_cmp_total, on_total, then_total}
use Rattle.std.specs.Cmp.{IsTotalOrder}
use Rattle.std.proofs.lemmas.Map.Lookups.{exact_unsigned, exact_signed, exact_bytes}
use Rattle.mt_values.specs.declared.value.Value.{Value}
use Rattle.mt_values.specs.declared.value.Value.TheVariants.{UInt8, UInt16, UInt32, UInt64, Int8, Int16, Int32, Int64, Text}
use Rattle.mt_values.specs.Order.{value_cmp, rank_of, IsExact}

-- ---- the order of values is that of their types' ranks, then of their numbers, then of their bytes

abbrev unsigned_of : Value → ℕ
unsigned_of (UInt8 n) = n
unsigned_of (UInt16 n) = n
unsigned_of (UInt32 n) = n
unsigned_of (UInt64 n) = n
unsigned_of v = 0

abbrev signed_of : Value → ℤ
signed_of (Int8 n) = n
signed_of (Int16 n) = n
signed_of (Int32 n) = n
signed_of (Int64 n) = n
signed_of v = pos 0

abbrev bytes_of : Value → List ℕ
bytes_of (Text bytes) = bytes
bytes_of v = []

abbrev by_parts : Value → Value → Ordering
by_parts x y = ordering_then (nat_cmp (rank_of x) (rank_of y)) (ordering_then (nat_cmp (unsigned_of x) (unsigned_of y)) (ordering_then (int_cmp (signed_of x) (signed_of y)) (slice_cmp nat_cmp (bytes_of x) (bytes_of y))))

then_equal : (o : Ordering) → ordering_then o Equal ≡ o
then_equal Less = refl
then_equal Equal = refl
then_equal Greater = refl

parts_are : (x y : Value) → by_parts x y ≡ value_cmp x y
parts_are (UInt8 m) (UInt8 n) = then_equal (nat_cmp m n)
parts_are (UInt16 m) (UInt16 n) = then_equal (nat_cmp m n)
parts_are (UInt32 m) (UInt32 n) = then_equal (nat_cmp m n)
parts_are (UInt64 m) (UInt64 n) = then_equal (nat_cmp m n)
parts_are (Int8 m) (Int8 n) = then_equal (int_cmp m n)
parts_are (Int16 m) (Int16 n) = then_equal (int_cmp m n)
parts_are (Int32 m) (Int32 n) = then_equal (int_cmp m n)
parts_are (Int64 m) (Int64 n) = then_equal (int_cmp m n)
parts_are (Text s) (Text t) = refl
parts_are x y = refl

parts_total : IsTotalOrder by_parts
parts_total = then_total (on_total rank_of nat_cmp_total) (then_total (on_total unsigned_of nat_cmp_total) (then_total (on_total signed_of int_cmp_total) (on_total bytes_of nat_list_cmp_total)))

pub value_total : IsTotalOrder value_cmp
value_total = subst IsTotalOrder (λ i x y. parts_are x y i) parts_total

-- ---- values that stand alike are one

pub value_exact : IsExact value_cmp
value_exact (UInt8 m) (UInt8 n) h = ap UInt8 (exact_unsigned m n h)
value_exact (UInt16 m) (UInt16 n) h = ap UInt16 (exact_unsigned m n h)
value_exact (UInt32 m) (UInt32 n) h = ap UInt32 (exact_unsigned m n h)
value_exact (UInt64 m) (UInt64 n) h = ap UInt64 (exact_unsigned m n h)
value_exact (Int8 m) (Int8 n) h = ap Int8 (exact_signed m n h)
value_exact (Int16 m) (Int16 n) h = ap Int16 (exact_signed m n h)
value_exact (Int32 m) (Int32 n) h = ap Int32 (exact_signed m n h)
value_exact (Int64 m) (Int64 n) h = ap Int64 (exact_signed m n h)
value_exact (Text m) (Text n) h = ap Text (exact_bytes m n h)
value_exact x y h = cc
