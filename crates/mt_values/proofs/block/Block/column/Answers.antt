use Rattle.std.proofs.Common.{◌≡◌, ◌<◌, length, slice_get, Some, refl, sym, ap, ◌∙◌, arith}
use Rattle.std.proofs.lemmas.List.{length-map}
use Rattle.std.proofs.lemmas.Option.{slice_get_read, slice_get-map}
use Rattle.std.specs.Option.{option_map}
use Rattle.mt_values.specs.Grid.{Grid, Cells, column_of}
use Rattle.mt_values.proofs.Grids.{column_of-rows_of}
use Rattle.mt_values.proofs.block.Block.column.Goals as goal
use Rattle.mt_values.proofs.block.Block.column.Goals.{After-index}

within : (c : After-index) → c.args.place < length c.self.inside.columns.items
within c =
    let e = ap (λ (b : Grid). length b.types) c.self.view_is in
    let l = length-map c.self.inside.columns.items (λ (x : Cells). x.col_type) in
    omega (arith, c.requires)

found : (c : After-index) → slice_get c.self.inside.columns.items c.args.place ≡ Some c.index.result.now
found c = slice_get_read c.self.inside.columns.items (length c.self.inside.columns.items) c.args.place c.index.result.now refl (within c) c.index.ensures

pub returns-clause-values : goal.returns-clause-values
returns-clause-values c =
    let columns = c.self.inside.columns.items in
    let len : length c.index.result.now.values ≡ c.self.inside.rows =
    rw (← c.index.ensures) at (c.self.invariant.even c.args.place c.index.result.now (within c)) in
    sym (column_of-rows_of columns c.self.inside.rows c.args.place c.index.result.now c.self.invariant.even (found c) len)
    ∙ ap (λ (b : Grid). column_of c.args.place b.rows) c.self.view_is

pub returns-clause-col_type : goal.returns-clause-col_type
returns-clause-col_type c =
    ap (λ (b : Grid). slice_get b.types c.args.place) (sym c.self.view_is)
    ∙ slice_get-map (λ (x : Cells). x.col_type) c.self.inside.columns.items c.args.place
    ∙ ap (option_map (λ (x : Cells). x.col_type)) (found c)
