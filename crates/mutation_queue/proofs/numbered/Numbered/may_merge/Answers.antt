use Rattle.std.proofs.Common.{◌≡◌, ◌∙◌, ◌<◌, ◌≤◌, ℕ, List, length, ap, subst, sym}
use Rattle.std.specs.List.{AllWithin}
use Rattle.mt_values.specs.declared.change.Change.TheVariants.{Delete}
use Rattle.mt_values.specs.declared.mutation.Mutation.{Mutation}
use Rattle.mt_values.specs.Conditions.{Always}
use Rattle.mutation_queue.specs.Listed.{Listed}
use Rattle.part_set.specs.part_name.Pending.{MayMerge}
use Rattle.mutation_queue.proofs.Counts.{none_parts, same_counts, same_from_test, test_from_same}
use Rattle.mutation_queue.proofs.numbered.Numbered.may_merge.Goals as goal

pub returns : goal.returns
returns c =
    let xs = c.as_slice-mutations.result.now in
    let a = c.args.a.now in
    let b = c.args.b.now in
    let i = c.count_upto.result in
    let j = c.count_upto-2.result in
    let is : xs ≡ c.args.self.now.list = c.as_slice-mutations.ensures.value ∙ ap (λ (l : Listed). l.list) c.self.view_is in
    let i_front = subst (λ (v : ℕ). AllWithin (λ (m : Mutation). m.number ≤ v) xs 0 i) c.data_version.ensures c.count_upto.ensures.front in
    let i_back = subst (λ (v : ℕ). AllWithin (λ (m : Mutation). v < m.number) xs i (length xs)) c.data_version.ensures c.count_upto.ensures.back in
    let j_front = subst (λ (v : ℕ). AllWithin (λ (m : Mutation). m.number ≤ v) xs 0 j) c.data_version-2.ensures c.count_upto-2.ensures.front in
    let j_back = subst (λ (v : ℕ). AllWithin (λ (m : Mutation). v < m.number) xs j (length xs)) c.data_version-2.ensures c.count_upto-2.ensures.back in (
      λ yes. subst (λ (ms : List Mutation). MayMerge ms a b) is (none_parts xs a b i j c.count_upto.ensures.within c.count_upto-2.ensures.within i_front i_back j_front j_back (same_from_test i j yes)),
      λ may. test_from_same i j
          (same_counts xs a b i j c.count_upto.ensures.within c.count_upto-2.ensures.within i_front i_back j_front j_back (record { number = 0; change = Delete Always }) (subst (λ (ms : List Mutation). MayMerge ms a b) (sym is) may)),
    )
