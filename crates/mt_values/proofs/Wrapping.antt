-- Sums that wrap: to wrap on the way changes nothing.
use Rattle.std.proofs.Common.{◌≡◌, ℕ, suc, ◌+◌, ◌*◌, ◌%◌, ◌<◌, Bool, true, false, cond, nat_eq, refl, sym, ap, ◌∙◌, arith, ℤ, pos, negsuc, ◌+ℤ◌, ◌-ℤ◌, unsigned_abs, w8, w16, w32, w64}
use Rattle.std.proofs.Math.IntN.{+ℤ_assoc, +ℤ_comm, +ℤ_idr}
use Rattle.std.proofs.Math.Nat.{add-mul, add_comm, mod-add-mod, mul-suc}
use Rattle.std.proofs.lemmas.Int.{int_rem_euclid_is, int_wrap-add_left, ints}
use Rattle.std.specs.Int.{int_rem_euclid, int_wrap}
use Rattle.mt_values.specs.declared.value.ColType.{ColType}
use Rattle.mt_values.specs.declared.value.ColType.TheVariants as type
use Rattle.mt_values.specs.declared.value.Value.{Value}
use Rattle.mt_values.specs.declared.value.Value.TheVariants as value
use Rattle.mt_values.specs.Order.{rank_of}
use Rattle.mt_values.specs.Sums.{integer_of, less, low_bits, plus, wrapped_as}
use Rattle.mt_values.specs.Values.{type_of}

-- ---- the lowest bits of a sum

-- how many times n has to be added to a number so that it is none below 0, and what it is then
record Shifted (n : ℕ) (z : ℤ) : Type 0 where
  times : ℕ
  number : ℕ
  is : z +ℤ pos (times * n) ≡ pos number

low_is : (n : ℕ) (z : ℤ) → 0 < n → (s : Shifted n z) → unsigned_abs (int_rem_euclid z (pos n)) ≡ s.number % n
low_is n z some s = ap unsigned_abs (int_rem_euclid_is z (pos n) n s.times s.number some refl s.is)

sum_of_shifted : (a b : ℤ) (s t k l m : ℕ) → a +ℤ pos s ≡ pos k → b +ℤ pos t ≡ pos l → m ≡ s + t → (a +ℤ b) +ℤ pos m ≡ pos (k + l)
sum_of_shifted a b s t k l m h e is = omega (arith, ints)

shifted_sum : (n : ℕ) (a b : ℤ) → Shifted n a → Shifted n b → Shifted n (a +ℤ b)
shifted_sum n a b s t = record {
  times = s.times + t.times;
  number = s.number + t.number;
  is = sum_of_shifted a b (s.times * n) (t.times * n) s.number t.number ((s.times + t.times) * n) s.is t.is (add-mul s.times t.times n);
}

shifted_low : (n m : ℕ) (b : ℤ) → Shifted n b → Shifted n (pos m +ℤ b)
shifted_low n m b t = record { times = t.times; number = m + t.number; is = +ℤ_assoc (pos m) b (pos (t.times * n)) ∙ ap (λ z. pos m +ℤ z) t.is }

shifted_up : (a m k : ℕ) → m ≡ suc a + k → negsuc a +ℤ pos m ≡ pos k
shifted_up a m k h = omega (arith, ints)

shift : (n : ℕ) (z : ℤ) → Shifted (suc n) z
shift n (pos a) = record { times = 0; number = a; is = shifted_not a (0 * suc n) (omega arith) }
  where
    shifted_not : (a m : ℕ) → m ≡ 0 → pos a +ℤ pos m ≡ pos a
    shifted_not a m h = omega (arith, ints)
shift n (negsuc a) = record { times = suc a; number = suc a * n; is = shifted_up a (suc a * suc n) (suc a * n) (mul-suc (suc a) n ∙ add_comm (suc a * n) (suc a)) }

low_add : (n : ℕ) (a b : ℤ) → unsigned_abs (int_rem_euclid (pos (unsigned_abs (int_rem_euclid a (pos (suc n)))) +ℤ b) (pos (suc n))) ≡ unsigned_abs (int_rem_euclid (a +ℤ b) (pos (suc n)))
unfolding shift shifted_sum shifted_low
low_add n a b =
    let s = shift n a in
    let t = shift n b in
    ap (λ k. unsigned_abs (int_rem_euclid (pos k +ℤ b) (pos (suc n)))) (low_is (suc n) a (omega arith) s)
    ∙ low_is (suc n) (pos (s.number % suc n) +ℤ b) (omega arith) (shifted_low (suc n) (s.number % suc n) b t)
    ∙ mod-add-mod s.number (suc n) t.number
    ∙ sym (low_is (suc n) (a +ℤ b) (omega arith) (shifted_sum (suc n) a b s t))

-- ---- numbers of a type

-- a number wrapped at the width of a type; a text is none
abbrev pub number_as : ColType → ℤ → ℤ
number_as type.UInt8 z = pos (low_bits 8 z)
number_as type.UInt16 z = pos (low_bits 16 z)
number_as type.UInt32 z = pos (low_bits 32 z)
number_as type.UInt64 z = pos (low_bits 64 z)
number_as type.Int8 z = int_wrap w8 z
number_as type.Int16 z = int_wrap w16 z
number_as type.Int32 z = int_wrap w32 z
number_as type.Int64 z = int_wrap w64 z
number_as type.Text z = pos 0

-- to wrap on the way changes nothing
number_again : (t : ColType) (a b : ℤ) → number_as t (number_as t a +ℤ b) ≡ number_as t (a +ℤ b)
number_again type.UInt8 a b = ap pos (low_add 255 a b)
number_again type.UInt16 a b = ap pos (low_add 65535 a b)
number_again type.UInt32 a b = ap pos (low_add 4294967295 a b)
number_again type.UInt64 a b = ap pos (low_add 18446744073709551615 a b)
number_again type.Int8 a b = int_wrap-add_left w8 a b
number_again type.Int16 a b = int_wrap-add_left w16 a b
number_again type.Int32 a b = int_wrap-add_left w32 a b
number_again type.Int64 a b = int_wrap-add_left w64 a b
number_again type.Text a b = refl

-- numbers that wrap alike do so with a number more
number_more : (t : ColType) (a b z : ℤ) → number_as t a ≡ number_as t b → number_as t (a +ℤ z) ≡ number_as t (b +ℤ z)
number_more t a b z h = sym (number_again t a z) ∙ ap (λ n. number_as t (n +ℤ z)) h ∙ number_again t b z

-- and among others
pub number_among : (t : ColType) (front a b back : ℤ) → number_as t a ≡ number_as t b → number_as t (front +ℤ (a +ℤ back)) ≡ number_as t (front +ℤ (b +ℤ back))
number_among t front a b back h =
    ap (number_as t) (+ℤ_comm front (a +ℤ back)) ∙ number_more t (a +ℤ back) (b +ℤ back) front (number_more t a b back h) ∙ ap (number_as t) (+ℤ_comm (b +ℤ back) front)

-- a number alone, once it is wrapped
pub number_twice : (t : ColType) (a : ℤ) → number_as t (number_as t a +ℤ pos 0) ≡ number_as t a
number_twice t a = number_again t a (pos 0) ∙ ap (number_as t) (+ℤ_idr a)

-- ---- values

-- a wrapped number has the type of the value
pub wrapped_type : (v : Value) (z : ℤ) → type_of (wrapped_as v z) ≡ type_of v
wrapped_type (value.UInt8 n) z = refl
wrapped_type (value.UInt16 n) z = refl
wrapped_type (value.UInt32 n) z = refl
wrapped_type (value.UInt64 n) z = refl
wrapped_type (value.Int8 n) z = refl
wrapped_type (value.Int16 n) z = refl
wrapped_type (value.Int32 n) z = refl
wrapped_type (value.Int64 n) z = refl
wrapped_type (value.Text bytes) z = refl

-- so is a sum of the type of the value to which it adds, and what is taken away changes none
pub plus_type : (v w : Value) → type_of (plus v w) ≡ type_of v
plus_type v w = by (nat_eq (rank_of v) (rank_of w))
  where
    by : (b : Bool) → type_of (cond b (wrapped_as v (integer_of v +ℤ integer_of w)) v) ≡ type_of v
    by true = wrapped_type v (integer_of v +ℤ integer_of w)
    by false = refl

pub less_type : (v w : Value) → type_of (less v w) ≡ type_of v
less_type v w = by (nat_eq (rank_of v) (rank_of w))
  where
    by : (b : Bool) → type_of (cond b (wrapped_as v (integer_of v -ℤ integer_of w)) v) ≡ type_of v
    by true = wrapped_type v (integer_of v -ℤ integer_of w)
    by false = refl

-- what a value was does not matter
pub wrapped_twice : (v : Value) (a b : ℤ) → wrapped_as (wrapped_as v a) b ≡ wrapped_as v b
wrapped_twice (value.UInt8 n) a b = refl
wrapped_twice (value.UInt16 n) a b = refl
wrapped_twice (value.UInt32 n) a b = refl
wrapped_twice (value.UInt64 n) a b = refl
wrapped_twice (value.Int8 z) a b = refl
wrapped_twice (value.Int16 z) a b = refl
wrapped_twice (value.Int32 z) a b = refl
wrapped_twice (value.Int64 z) a b = refl
wrapped_twice (value.Text bytes) a b = refl

-- the number of a value that was wrapped
pub integer_wrapped : (v : Value) (z : ℤ) → integer_of (wrapped_as v z) ≡ number_as (type_of v) z
integer_wrapped (value.UInt8 n) z = refl
integer_wrapped (value.UInt16 n) z = refl
integer_wrapped (value.UInt32 n) z = refl
integer_wrapped (value.UInt64 n) z = refl
integer_wrapped (value.Int8 n) z = refl
integer_wrapped (value.Int16 n) z = refl
integer_wrapped (value.Int32 n) z = refl
integer_wrapped (value.Int64 n) z = refl
integer_wrapped (value.Text bytes) z = refl

-- numbers that wrap alike are one value
pub wrapped_alike : (v : Value) (a b : ℤ) → number_as (type_of v) a ≡ number_as (type_of v) b → wrapped_as v a ≡ wrapped_as v b
wrapped_alike (value.UInt8 n) a b h = ap (λ z. value.UInt8 (unsigned_abs z)) h
wrapped_alike (value.UInt16 n) a b h = ap (λ z. value.UInt16 (unsigned_abs z)) h
wrapped_alike (value.UInt32 n) a b h = ap (λ z. value.UInt32 (unsigned_abs z)) h
wrapped_alike (value.UInt64 n) a b h = ap (λ z. value.UInt64 (unsigned_abs z)) h
wrapped_alike (value.Int8 n) a b h = ap value.Int8 h
wrapped_alike (value.Int16 n) a b h = ap value.Int16 h
wrapped_alike (value.Int32 n) a b h = ap value.Int32 h
wrapped_alike (value.Int64 n) a b h = ap value.Int64 h
wrapped_alike (value.Text bytes) a b h = refl

-- a value whose number was wrapped on the way
pub wrapped_again : (v : Value) (a b : ℤ) → wrapped_as v (integer_of (wrapped_as v a) +ℤ b) ≡ wrapped_as v (a +ℤ b)
wrapped_again v a b =
    wrapped_alike v (integer_of (wrapped_as v a) +ℤ b) (a +ℤ b) (ap (λ n. number_as (type_of v) (n +ℤ b)) (integer_wrapped v a) ∙ number_again (type_of v) a b)
