-- Values joined bit by bit: where the first two are of one type, it does not matter which two are joined first.
use Rattle.std.proofs.Common.{◌≡◌, ℕ, List, [], ◌∷◌, ◌++◌, Some, refl, sym, ap, ◌∙◌, arith}
use Rattle.std.proofs.lemmas.List.Sums.{fold-append}
use Rattle.std.proofs.lemmas.Nat.{and_assoc}
use Rattle.std.proofs.lemmas.Nat.Bits.{bit_at_or, same_from_bits}
use Rattle.std.specs.Int.{bit_at}
use Rattle.std.specs.Int.Bits.{bit_and, bit_or, bit_xor, xor_assoc}
use Rattle.std.specs.List.{fold, reduce}
use Rattle.mt_values.specs.declared.value.Value.{Value}
use Rattle.mt_values.specs.declared.value.Value.TheVariants as value
use Rattle.mt_values.specs.Values.{type_of}
use Rattle.mt_model.specs.Rules.{joined_bits}

-- ---- numbers

pub all_bits : (a b c : ℕ) → bit_and (bit_and a b) c ≡ bit_and a (bit_and b c)
all_bits a b c = and_assoc c a b

pub some_bits : (a b c : ℕ) → bit_or (bit_or a b) c ≡ bit_or a (bit_or b c)
some_bits a b c = same_from_bits (bit_or (bit_or a b) c) (bit_or a (bit_or b c)) bits
  where
    bits : (i : ℕ) → bit_at (bit_or (bit_or a b) c) i ≡ bit_at (bit_or a (bit_or b c)) i
    bits i = omega (arith, bit_at_or (bit_or a b) c i, bit_at_or a b i, bit_at_or a (bit_or b c) i, bit_at_or b c i)

pub odd_bits : (a b c : ℕ) → bit_xor (bit_xor a b) c ≡ bit_xor a (bit_xor b c)
odd_bits = xor_assoc

-- ---- values

-- what is joined has the type of the first
pub joined_type : (join : ℕ → ℕ → ℕ) (v w : Value) → type_of (joined_bits join v w) ≡ type_of v
joined_type join (value.UInt8 a) (value.UInt8 b) = refl
joined_type join (value.UInt16 a) (value.UInt16 b) = refl
joined_type join (value.UInt32 a) (value.UInt32 b) = refl
joined_type join (value.UInt64 a) (value.UInt64 b) = refl
joined_type join v w = refl

pub fold_type : (join : ℕ → ℕ → ℕ) (v : Value) (values : List Value) → type_of (fold (joined_bits join) v values) ≡ type_of v
fold_type join v [] = refl
fold_type join v (w ∷ values) = fold_type join (joined_bits join v w) values ∙ joined_type join v w

module _ (join : ℕ → ℕ → ℕ) (assoc : (a b c : ℕ) → join (join a b) c ≡ join a (join b c)) where
  abbrev both : Value → Value → Value
  both v w = joined_bits join v w

  of_8 : (a b : ℕ) (w : Value) → both (both (value.UInt8 a) (value.UInt8 b)) w ≡ both (value.UInt8 a) (both (value.UInt8 b) w)
  of_8 a b (value.UInt8 c) = ap value.UInt8 (assoc a b c)
  of_8 a b w = refl

  of_16 : (a b : ℕ) (w : Value) → both (both (value.UInt16 a) (value.UInt16 b)) w ≡ both (value.UInt16 a) (both (value.UInt16 b) w)
  of_16 a b (value.UInt16 c) = ap value.UInt16 (assoc a b c)
  of_16 a b w = refl

  of_32 : (a b : ℕ) (w : Value) → both (both (value.UInt32 a) (value.UInt32 b)) w ≡ both (value.UInt32 a) (both (value.UInt32 b) w)
  of_32 a b (value.UInt32 c) = ap value.UInt32 (assoc a b c)
  of_32 a b w = refl

  of_64 : (a b : ℕ) (w : Value) → both (both (value.UInt64 a) (value.UInt64 b)) w ≡ both (value.UInt64 a) (both (value.UInt64 b) w)
  of_64 a b (value.UInt64 c) = ap value.UInt64 (assoc a b c)
  of_64 a b w = refl

  pub joined_again : (u v w : Value) → type_of u ≡ type_of v → both (both u v) w ≡ both u (both v w)
  joined_again (value.UInt8 a) (value.UInt8 b) w same = of_8 a b w
  joined_again (value.UInt16 a) (value.UInt16 b) w same = of_16 a b w
  joined_again (value.UInt32 a) (value.UInt32 b) w same = of_32 a b w
  joined_again (value.UInt64 a) (value.UInt64 b) w same = of_64 a b w
  joined_again (value.Int8 a) v w same = refl
  joined_again (value.Int16 a) v w same = refl
  joined_again (value.Int32 a) v w same = refl
  joined_again (value.Int64 a) v w same = refl
  joined_again (value.Text a) v w same = refl
  joined_again u v w same = cc

  -- a value joined with what values make is what they make after it
  fold_after : (u v : Value) (values : List Value) → type_of u ≡ type_of v → both u (fold both v values) ≡ fold both (both u v) values
  fold_after u v [] same = refl
  fold_after u v (w ∷ values) same =
      fold_after u (both v w) values (same ∙ sym (joined_type join v w)) ∙ ap (λ x. fold both x values) (sym (joined_again u v w same))

  -- values make with others what they make alone and then with the others
  pub joined_within : (front : List Value) (first : Value) (run back : List Value) (v w : Value)
      → ((other : Value) (others : List Value) → front ≡ other ∷ others → type_of other ≡ type_of first)
      → reduce both (first ∷ run) ≡ Some v → reduce both (front ++ v ∷ back) ≡ Some w → reduce both (front ++ (first ∷ (run ++ back))) ≡ Some w
  joined_within [] first run back v w same h k =
      let made : fold both first run ≡ v = cc in
      ap Some (fold-append both first run back) ∙ ap (λ x. Some (fold both x back)) made ∙ k
  joined_within (other ∷ others) first run back v w same h k =
      let made : fold both first run ≡ v = cc in
      let before : Value = fold both other others in
      let alike : type_of before ≡ type_of first = fold_type join other others ∙ same other others refl in
      ap Some (fold-append both other others (first ∷ (run ++ back)) ∙ fold-append both (both before first) run back)
      ∙ ap (λ x. Some (fold both x back)) (sym (fold_after before first run alike) ∙ ap (λ x. both before x) made)
      ∙ ap Some (sym (fold-append both other others (v ∷ back))) ∙ k
