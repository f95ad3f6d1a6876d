use Rattle.std.proofs.Common.{◌≡◌, ℕ, Bool, true, false, List, [], ◌∷◌, ◌++◌, refl, sym, ap, ◌∙◌, arith, length, length-append}
use Rattle.std.proofs.lemmas.List.Elements.{All-cons, All-nil}
use Rattle.std.specs.Ordering.{is_lt}
use Rattle.mt_values.specs.declared.engine.Aggregate.TheVariants as aggregate
use Rattle.mt_values.specs.declared.value.Value.{Value}
use Rattle.mt_values.specs.declared.value.Value.TheVariants.{Text, UInt8}
use Rattle.mt_values.specs.Order.{value_cmp}
use Rattle.mt_values.specs.Values.{Row}
use Rattle.rule_law.specs.mt_model.Rules.{IsAggregateOf}
use Rattle.rule_aggregating.proofs.worked.rows_are_worked.Goals as goal

passed : Value → Value → Bool
passed other best = is_lt (value_cmp best other)

three : IsAggregateOf aggregate.Max (UInt8 3 ∷ UInt8 2 ∷ []) (UInt8 3)
three = record {
  earlier = [];
  later = UInt8 2 ∷ [];
  values_are = refl;
  best =
      All-cons (λ other. is_lt (value_cmp (UInt8 3) other) ≡ false) (UInt8 3) (UInt8 2 ∷ []) refl
      (All-cons (λ other. is_lt (value_cmp (UInt8 3) other) ≡ false) (UInt8 2) [] refl (All-nil (λ other. is_lt (value_cmp (UInt8 3) other) ≡ false)));
}

pub returns-clause-left : goal.returns-clause-left
returns-clause-left c = λ x y. record {
  row = UInt8 3 ∷ Text y ∷ UInt8 7 ∷ [];
  aggregates = (UInt8 3, Text y ∷ UInt8 7 ∷ [], refl, three, (Text y, UInt8 7 ∷ [], refl, (Text x ∷ [], refl), (UInt8 7, [], refl, (UInt8 8 ∷ [], refl), refl)));
  out_is = refl;
}

-- a list of two is none of one, and none of more
too_short : {P : Type 0} (a b v : Value) → a ∷ b ∷ [] ≡ v ∷ [] → P
too_short a b v is = absurd (differ (ap length is))
  where
    differ : length (a ∷ b ∷ []) ≡ length (v ∷ []) → ⊥
    differ e = omega (arith, e)

too_long : {P : Type 0} (a b x y : Value) (earlier : List Value) (v : Value) (later : List Value) → a ∷ b ∷ [] ≡ (x ∷ y ∷ earlier) ++ v ∷ later → P
too_long a b x y earlier v later is = absurd (differ (ap length is))
  where
    differ : length (a ∷ b ∷ []) ≡ length ((x ∷ y ∷ earlier) ++ v ∷ later) → ⊥
    differ e = omega (arith, e, length-append earlier (v ∷ later))

-- the greatest of 3 and 2
greatest : (v : Value) (earlier later : List Value) → UInt8 3 ∷ UInt8 2 ∷ [] ≡ earlier ++ v ∷ later → is_lt (value_cmp v (UInt8 3)) ≡ false → v ≡ UInt8 3
greatest v [] later is best = let e : UInt8 3 ∷ UInt8 2 ∷ [] ≡ v ∷ later = is in cc
greatest v (x ∷ []) later is best = absurd (less (sym (ap (λ w. is_lt (value_cmp w (UInt8 3))) two) ∙ best))
  where
    two : v ≡ UInt8 2
    two = let e : UInt8 3 ∷ UInt8 2 ∷ [] ≡ x ∷ v ∷ later = is in cc

    less : true ≡ false → ⊥
    less e = cc
greatest v (x ∷ y ∷ earlier) later is best = too_long (UInt8 3) (UInt8 2) x y earlier v later is

-- the last of two
last_of_two : (a b v : Value) (earlier : List Value) → a ∷ b ∷ [] ≡ earlier ++ v ∷ [] → v ≡ b
last_of_two a b v [] is = too_short a b v is
last_of_two a b v (x ∷ []) is = let e : a ∷ b ∷ [] ≡ x ∷ v ∷ [] = is in cc
last_of_two a b v (x ∷ y ∷ earlier) is = too_long a b x y earlier v [] is

one_row : (row row₁ row₂ row₃ : Row) (u v w : Value) (y : List ℕ) (out : List Row) → row ≡ u ∷ row₁ → u ≡ UInt8 3 → row₁ ≡ v ∷ row₂ → v ≡ Text y → row₂ ≡ w ∷ row₃ → w ≡ UInt8 7 → row₃ ≡ [] → out ≡ row ∷ []
    → out ≡ (UInt8 3 ∷ Text y ∷ UInt8 7 ∷ []) ∷ []
one_row row row₁ row₂ row₃ u v w y out a b c d e f g h = cc

pub returns-clause-alone : goal.returns-clause-alone
returns-clause-alone c = λ x y out h.
    let first = h.aggregates in
    let second = first.4 in
    let third = second.4 in
    let seven : third.0 ≡ UInt8 7 = (let e : UInt8 7 ∷ UInt8 8 ∷ [] ≡ third.0 ∷ third.3.0 = third.3.1 in cc) in
    one_row h.row first.1 second.1 third.1 first.0 second.0 third.0 y out
    first.2 (greatest first.0 first.3.earlier first.3.later first.3.values_are (first.3.best 0 (UInt8 3) (omega arith)))
    second.2 (last_of_two (Text x) (Text y) second.0 second.3.0 second.3.1)
    third.2 seven third.4 h.out_is
