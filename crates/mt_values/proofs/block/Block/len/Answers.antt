use Rattle.std.proofs.Common.{length, sym, ap, ◌∙◌, arith}
use Rattle.mt_values.specs.Grid.{Grid}
use Rattle.mt_values.proofs.Grids.{length-rows_of, AreRowsOf-rows_of}
use Rattle.mt_values.proofs.block.Block.len.Goals as goal

pub returns-clause-count : goal.returns-clause-count
returns-clause-count c =
    sym (length-rows_of c.self.inside.columns.items c.self.inside.rows) ∙ ap (λ (b : Grid). length b.rows) c.self.view_is

pub returns-clause-typed : goal.returns-clause-typed
returns-clause-typed c =
    rw (← c.self.view_is) (AreRowsOf-rows_of c.self.inside.columns.items c.self.inside.rows c.self.invariant.even c.self.invariant.typed)

pub returns-clause-few : goal.returns-clause-few
returns-clause-few c =
    let n = length-rows_of c.self.inside.columns.items c.self.inside.rows in
    let e = ap (λ (b : Grid). length b.rows) c.self.view_is in
    omega (arith, c.self.invariant.few)
