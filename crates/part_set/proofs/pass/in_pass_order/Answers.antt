use Rattle.std.proofs.Common.{◌≡◌, ap, rules}
use Rattle.std.proofs.lemmas.List.Sorted.{answers_always}
use Rattle.std.specs.Ordering.{is_lt}
use Rattle.part_set.specs.Passes.{pass_order}
use Rattle.part_set.proofs.PassOrder.{pass_weak}
use Rattle.part_set.proofs.pass.in_pass_order.Goals as goal

pub returns-clause-order : goal.returns-clause-order
returns-clause-order c = c.sort_unstable_by.ensures.sorted _ pass_weak (answers_always _ _ _ (λ f a r q k. ap is_lt (let told : r ≡ pass_order a.0.now a.1.0.now = search rules in told)))
