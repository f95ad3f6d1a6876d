-- What a function makes of one value, and of values and of one more.
use Rattle.std.proofs.Common.{◌≡◌, ℕ, Bool, true, false, cond, eq-eqb, List, [], ◌∷◌, ◌++◌, refl, sym, ap, ◌∙◌, subst, append_assoc, ◌+ℤ◌}
use Rattle.std.proofs.Math.IntN.{+ℤ_idr}
use Rattle.std.proofs.lemmas.List.Elements.{All-nil, All-cons, All-push, All-weaker}
use Rattle.std.specs.Cmp.{IsStrictWeakOrder}
use Rattle.std.specs.Ordering.{is_lt}
use Rattle.mt_values.specs.declared.engine.Aggregate.{Aggregate}
use Rattle.mt_values.specs.declared.engine.Aggregate.TheVariants as aggregate
use Rattle.mt_values.specs.declared.value.ColType.{ColType}
use Rattle.mt_values.specs.declared.value.ColType.TheVariants as type
use Rattle.mt_values.specs.declared.value.Value.{Value}
use Rattle.mt_values.specs.declared.value.Value.TheVariants as value
use Rattle.mt_values.specs.Order.{rank_of, value_cmp}
use Rattle.mt_values.specs.Values.{FitsType, type_of}
use Rattle.rule_law.specs.mt_model.Rules.{IsAggregateOf, IsBest, integer_of, total, wrapped_as}
use Rattle.rule_aggregating.specs.Folded.{FoldsIn, plus}
use Rattle.rule_law.proofs.Aggregated.{aggregate_type, greater_order, less_order, passes_not}
use Rattle.rule_law.proofs.OneSign.{total_after}
use Rattle.rule_law.proofs.Ranges.{sum_of_one}
use Rattle.mt_values.proofs.Wrapping.{wrapped_again, wrapped_twice}

-- ---- one value

best_of_one : (passes : Value → Value → Bool) (order : IsStrictWeakOrder passes) (v : Value) → IsBest passes (v ∷ []) v
best_of_one passes order v =
    record { earlier = []; later = []; values_are = refl; best = All-cons (λ other. passes other v ≡ false) v [] (passes_not passes order v) (All-nil (λ other. passes other v ≡ false)) }

pub one_value : (function : Aggregate) (v : Value) → FitsType v → IsAggregateOf function (v ∷ []) v
one_value aggregate.Any v fits = ([], refl)
one_value aggregate.AnyLast v fits = ([], refl)
one_value aggregate.Min v fits = best_of_one (λ other best. is_lt (value_cmp other best)) less_order v
one_value aggregate.Max v fits = best_of_one (λ other best. is_lt (value_cmp best other)) greater_order v
one_value aggregate.Sum v fits = (v, [], refl, sum_of_one v fits)
one_value aggregate.BitAnd v fits = refl
one_value aggregate.BitOr v fits = refl
one_value aggregate.BitXor v fits = refl

-- ---- one value more

module _ (passes : Value → Value → Bool) (order : IsStrictWeakOrder passes) (values : List Value) (v more : Value) (h : IsBest passes values v) where
  best_stays : passes more v ≡ false → IsBest passes (values ++ more ∷ []) v
  best_stays e = record {
    earlier = h.earlier;
    later = h.later ++ more ∷ [];
    values_are = ap (λ zs. zs ++ more ∷ []) h.values_are ∙ append_assoc h.earlier (v ∷ h.later) (more ∷ []);
    best = All-push (λ other. passes other v ≡ false) values more h.best e;
  }

  best_comes : passes more v ≡ true → IsBest passes (values ++ more ∷ []) more
  best_comes e = record {
    earlier = values;
    later = [];
    values_are = refl;
    best =
        All-push (λ other. passes other more ≡ false) values more
        (All-weaker (λ other. passes other v ≡ false) (λ other. passes other more ≡ false) (λ other below. order.chain other v more below (order.one_way more v e)) values h.best)
        (passes_not passes order more);
  }

pub less_comes : (function : Aggregate) (kept more after : Value) → function ≡ aggregate.Min → is_lt (value_cmp more kept) ≡ true → after ≡ more → FoldsIn function kept more after
less_comes function kept more after is less same = subst (λ f. FoldsIn f kept more after) (sym is) (subst (FoldsIn aggregate.Min kept more) (sym same) folds)
  where
    folds : FoldsIn aggregate.Min kept more more
    folds = λ values typed h. best_comes (λ other best. is_lt (value_cmp other best)) less_order values kept more h less

pub less_stays : (function : Aggregate) (kept more : Value) → function ≡ aggregate.Min → is_lt (value_cmp more kept) ≡ false → FoldsIn function kept more kept
less_stays function kept more is less = subst (λ f. FoldsIn f kept more kept) (sym is) folds
  where
    folds : FoldsIn aggregate.Min kept more kept
    folds = λ values typed h. best_stays (λ other best. is_lt (value_cmp other best)) less_order values kept more h less

pub greater_comes : (function : Aggregate) (kept more after : Value) → function ≡ aggregate.Max → is_lt (value_cmp kept more) ≡ true → after ≡ more → FoldsIn function kept more after
greater_comes function kept more after is less same = subst (λ f. FoldsIn f kept more after) (sym is) (subst (FoldsIn aggregate.Max kept more) (sym same) folds)
  where
    folds : FoldsIn aggregate.Max kept more more
    folds = λ values typed h. best_comes (λ other best. is_lt (value_cmp best other)) greater_order values kept more h less

pub greater_stays : (function : Aggregate) (kept more : Value) → function ≡ aggregate.Max → is_lt (value_cmp kept more) ≡ false → FoldsIn function kept more kept
greater_stays function kept more is less = subst (λ f. FoldsIn f kept more kept) (sym is) folds
  where
    folds : FoldsIn aggregate.Max kept more kept
    folds = λ values typed h. best_stays (λ other best. is_lt (value_cmp best other)) greater_order values kept more h less

-- values of one type have one place among the types
ranked : ColType → ℕ
ranked type.UInt8 = 0
ranked type.UInt16 = 1
ranked type.UInt32 = 2
ranked type.UInt64 = 3
ranked type.Int8 = 4
ranked type.Int16 = 5
ranked type.Int32 = 6
ranked type.Int64 = 7
ranked type.Text = 8

rank_is : (v : Value) → rank_of v ≡ ranked (type_of v)
unfolding ranked
rank_is (value.UInt8 n) = refl
rank_is (value.UInt16 n) = refl
rank_is (value.UInt32 n) = refl
rank_is (value.UInt64 n) = refl
rank_is (value.Int8 z) = refl
rank_is (value.Int16 z) = refl
rank_is (value.Int32 z) = refl
rank_is (value.Int64 z) = refl
rank_is (value.Text bytes) = refl

plus_same : (v w : Value) → type_of v ≡ type_of w → plus v w ≡ wrapped_as v (integer_of v +ℤ integer_of w)
plus_same v w same = ap (λ b. cond b (wrapped_as v (integer_of v +ℤ integer_of w)) v) (eq-eqb (rank_of v) (rank_of w) (rank_is v ∙ ap ranked same ∙ sym (rank_is w)))

pub sum_on : (function : Aggregate) (kept more after : Value) → function ≡ aggregate.Sum → after ≡ plus kept more → FoldsIn function kept more after
sum_on function kept more after is sum = subst (λ f. FoldsIn f kept more after) (sym is) folds
  where
    folds : FoldsIn aggregate.Sum kept more after
    folds = λ values typed h. (
      h.0,
      h.1 ++ more ∷ [],
      ap (λ zs. zs ++ more ∷ []) h.2,
      sum ∙ plus_same kept more (aggregate_type aggregate.Sum (type_of more) values kept typed h)
          ∙ ap (λ x. wrapped_as x (integer_of x +ℤ integer_of more)) h.3
          ∙ wrapped_twice h.0 (total values) (integer_of (wrapped_as h.0 (total values)) +ℤ integer_of more)
          ∙ wrapped_again h.0 (total values) (integer_of more)
          ∙ ap (wrapped_as h.0) (sym (total_after values (more ∷ []) ∙ ap (λ z. total values +ℤ z) (+ℤ_idr (integer_of more)))),
    )
