use Rattle.std.proofs.Common.{◌∙◌, ◌<◌, ◌≤◌, ℕ, length, subst}
use Rattle.std.proofs.lemmas.List.{take_rest}
use Rattle.std.specs.List.{AllWithin}
use Rattle.mt_values.specs.declared.mutation.Mutation.{Mutation}
use Rattle.mutation_queue.proofs.Counts.{pending_rest}
use Rattle.mutation_queue.proofs.numbered.pending_in.Goals as goal

pub returns : goal.returns
returns c =
    let xs = c.args.mutations.now in
    let n = c.count_upto.result in
    let front = subst (λ (v : ℕ). AllWithin (λ (m : Mutation). m.number ≤ v) xs 0 n) c.data_version.ensures c.count_upto.ensures.front in
    let back = subst (λ (v : ℕ). AllWithin (λ (m : Mutation). v < m.number) xs n (length xs)) c.data_version.ensures c.count_upto.ensures.back in
    take_rest xs n ∙ pending_rest xs c.args.name.now n c.count_upto.ensures.within front back
