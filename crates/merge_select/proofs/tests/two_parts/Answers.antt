use Rattle.std.proofs.Common.{List, subst, sym}
use Rattle.std.proofs.lemmas.List.Elements.{All-nil}
use Rattle.mutation_queue.specs.part_set.part_name.PartNames.{Meet}
use Rattle.mutation_queue.specs.part_set.declared.kept.Kept.{Kept}
use Rattle.mutation_queue.specs.part_set.Parts.{NoneMeets}
use Rattle.merge_select.specs.declared.tests.Pile.{Pile}
use Rattle.merge_select.proofs.tests.two_parts.Goals as goal

pub add-requires : goal.add-requires
add-requires c =
    subst (λ (xs : List (Kept Pile)). NoneMeets xs c.fresh.result) (sym (c.new-set.ensures c.args.table.now)) (All-nil (λ (kept : Kept Pile). Meet kept.name c.fresh.result → ⊥))
