use Rattle.std.proofs.Common.{List, subst, sym}
use Rattle.std.proofs.lemmas.List.Elements.{All-nil}
use Rattle.part_set.specs.part_name.PartNames.{Meet}
use Rattle.part_set.specs.declared.kept.Kept.{Kept}
use Rattle.part_set.specs.Parts.{NoneMeets}
use Rattle.mutation_queue.proofs.tests.one_part.Goals as goal

pub add-requires : goal.add-requires
add-requires c =
    subst (λ (xs : List (Kept (Unit {0}))). NoneMeets xs c.args.name) (sym (c.new-set.ensures c.args.table.now)) (All-nil (λ (kept : Kept (Unit {0})). Meet kept.name c.args.name → ⊥))
