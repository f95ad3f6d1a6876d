use Rattle.std.proofs.Common.{IfOk, subst, sym}
use Rattle.mt_values.specs.declared.engine.Aggregate.{Aggregate}
use Rattle.part_history.specs.mt_model.Rules.{IsAggregateOf}
use Rattle.mt_plain.specs.Outcomes.{IsExactly}
use Rattle.mt_plain.proofs.aggregates.aggregate_of.Goals as goal

pub returns-in-Any : goal.returns-in-Any
returns-in-Any c = subst (λ (f : Aggregate). IfOk c.first_value.result (λ found. IsExactly found (IsAggregateOf f c.args.values.now))) (sym c.in-Any.is) c.first_value.ensures

pub returns-in-AnyLast : goal.returns-in-AnyLast
returns-in-AnyLast c = subst (λ (f : Aggregate). IfOk c.last_value.result (λ found. IsExactly found (IsAggregateOf f c.args.values.now))) (sym c.in-AnyLast.is) c.last_value.ensures

pub returns-in-Min : goal.returns-in-Min
returns-in-Min c = subst (λ (f : Aggregate). IfOk c.best_value.result (λ found. IsExactly found (IsAggregateOf f c.args.values.now))) (sym c.in-Min.is) c.best_value.ensures

pub returns-in-Max : goal.returns-in-Max
returns-in-Max c = subst (λ (f : Aggregate). IfOk c.best_value-in-Max.result (λ found. IsExactly found (IsAggregateOf f c.args.values.now))) (sym c.in-Max.is) c.best_value-in-Max.ensures

pub returns-in-Sum : goal.returns-in-Sum
returns-in-Sum c = subst (λ (f : Aggregate). IfOk c.sum_value.result (λ found. IsExactly found (IsAggregateOf f c.args.values.now))) (sym c.in-Sum.is) c.sum_value.ensures

pub returns-in-BitAnd : goal.returns-in-BitAnd
returns-in-BitAnd c = subst (λ (f : Aggregate). IfOk c.joined_value.result (λ found. IsExactly found (IsAggregateOf f c.args.values.now))) (sym c.in-BitAnd.is) c.joined_value.ensures

pub returns-in-BitOr : goal.returns-in-BitOr
returns-in-BitOr c = subst (λ (f : Aggregate). IfOk c.joined_value-in-BitOr.result (λ found. IsExactly found (IsAggregateOf f c.args.values.now))) (sym c.in-BitOr.is) c.joined_value-in-BitOr.ensures

pub returns-in-BitXor : goal.returns-in-BitXor
returns-in-BitXor c = subst (λ (f : Aggregate). IfOk c.joined_value-in-BitXor.result (λ found. IsExactly found (IsAggregateOf f c.args.values.now))) (sym c.in-BitXor.is) c.joined_value-in-BitXor.ensures
