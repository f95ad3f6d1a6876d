use Rattle.std.proofs.Common.{◌≡◌, ◌∙◌, ap, rules}
use Rattle.std.specs.Ordering.{is_lt}
use Rattle.std.proofs.lemmas.List.Sorted.{answers_always}
use Rattle.mt_values.specs.Order.{value_cmp}
use Rattle.mt_values.proofs.Searches.{searched_sorted, value_weak}
use Rattle.mt_values.proofs.literals.sorted_twin.Goals as goal

pub returns : goal.returns
returns c =
    searched_sorted c.args.listed.now c.into_vec-values.result.items c.sort_unstable_by.new.self.items (c.into_vec-values.ensures ∙ c.in_ok-twin.ensures) c.sort_unstable_by.ensures.permutation
    (c.sort_unstable_by.ensures.sorted _ value_weak (answers_always _ _ _ (λ f a r q k. ap is_lt (let told : r ≡ value_cmp a.0.now a.1.0.now = search rules in told))))
