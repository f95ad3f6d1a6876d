use Rattle.std.proofs.Common.{All, List, ap, subst, sym}
use Rattle.mt_values.specs.declared.mutation.Mutation.{Mutation}
use Rattle.mt_values.specs.declared.value.ColType.{ColType}
use Rattle.mt_values.specs.Grid.{Grid}
use Rattle.on_fly.specs.Updates.{KeepsTypes}
use Rattle.on_fly.proofs.tests.blocks.left_by.Goals as goal

pub apply_block-requires : goal.apply_block-requires
apply_block-requires c =
    subst (λ (types : List ColType). All (λ (m : Mutation). KeepsTypes types m.change) c.args.mutations.now) (sym (ap (λ (g : Grid). g.types) c.in_ok-block.ensures)) c.requires
