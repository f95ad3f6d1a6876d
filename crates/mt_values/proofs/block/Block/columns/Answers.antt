use Rattle.std.proofs.Common.{◌≡◌, All, List, length, subst, sym, ap, ◌∙◌}
use Rattle.mt_values.specs.Grid.{Cells, Grid, grid_of}
use Rattle.mt_values.proofs.Grids.{length-rows_of}
use Rattle.mt_values.proofs.block.Block.columns.Goals as goal
use Rattle.mt_values.proofs.block.Block.columns.Goals.{After-as_slice}

-- the block has as many rows as it says
count : (c : After-as_slice) → c.self.inside.rows ≡ length c.args.self.now.rows
count c = sym (length-rows_of c.self.inside.columns.items c.self.inside.rows) ∙ ap (λ (b : Grid). length b.rows) c.self.view_is

pub returns-clause-even : goal.returns-clause-even
returns-clause-even c =
    subst (λ (cs : List Cells). All (λ (x : Cells). length x.values ≡ length c.args.self.now.rows) cs) (sym c.as_slice.ensures.value)
    (λ k d below. c.self.invariant.even k d below ∙ count c)

pub returns-clause-block : goal.returns-clause-block
returns-clause-block c =
    subst (λ (cs : List Cells). c.args.self.now ≡ grid_of cs (length c.args.self.now.rows)) (sym c.as_slice.ensures.value)
    (sym c.self.view_is ∙ ap (grid_of c.self.inside.columns.items) (count c))
