use Rattle.std.proofs.Common.{◌≡◌, ◌∙◌, All, ap, refl, sym, subst, length}
use Rattle.mt_values.specs.Grid.{Cells, Grid, rows_of}
use Rattle.mt_values.specs.Schemas.{column_types}
use Rattle.mt_values.proofs.Grids.{length-rows_of}
use Rattle.part_damage.specs.part_writer.declared.loaded.Loaded.{Loaded}
use Rattle.part_reader.specs.Granules.{rows_in}
use Rattle.part_reader.specs.Readings.{lone}
use Rattle.part_reader.proofs.LeftGranules.{columns_even, columns_rows, columns_types}
use Rattle.part_reader.proofs.part_rows.read_block.Goals as goal

-- each column has a value for each row of the granule
pub of_columns-requires-clause-even : goal.of_columns-requires-clause-even
of_columns-requires-clause-even g c =
    let part = c.args.source.now.part.now in
    let columns = c.in_ok-columns.columns.items in
    let rows_are = c.granule_rows-rows.ensures.rows ∙ ap (λ (l : Loaded). rows_in l (lone c.args.granule)) c.deref.ensures in
    subst (λ n. All (λ (x : Cells). length x.values ≡ n) columns) (sym rows_are)
    (columns_even g.R.Dir.Dir.files part c.args.granule (column_types c.args.source.now.schema.now) c.args.places.now columns c.in_ok-columns.ensures.values)

pub returns-clause-rows : goal.returns-clause-rows
returns-clause-rows g c = λ rows holds.
    let part = c.args.source.now.part.now in
    let columns = c.in_ok-columns.columns.items in
    let rows_are = c.granule_rows-rows.ensures.rows ∙ ap (λ (l : Loaded). rows_in l (lone c.args.granule)) c.deref.ensures in
    ap (λ (b : Grid). b.rows) c.of_columns.ensures ∙ ap (rows_of columns) rows_are
    ∙ columns_rows g.R.Dir.Dir.files part c.args.granule (column_types c.args.source.now.schema.now) c.args.places.now columns c.in_ok-columns.ensures.values c.args.source.now.schema.now rows holds refl

pub returns-clause-count : goal.returns-clause-count
returns-clause-count g c =
    ap (λ (b : Grid). length b.rows) c.of_columns.ensures ∙ length-rows_of c.in_ok-columns.columns.items c.granule_rows-rows.result ∙ c.granule_rows-rows.ensures.rows ∙ ap (λ (l : Loaded). rows_in l (lone c.args.granule)) c.deref.ensures

pub returns-clause-types : goal.returns-clause-types
returns-clause-types g c =
    let part = c.args.source.now.part.now in
    ap (λ (b : Grid). b.types) c.of_columns.ensures ∙ columns_types g.R.Dir.Dir.files part c.args.granule (column_types c.args.source.now.schema.now) c.args.places.now c.in_ok-columns.columns.items c.in_ok-columns.ensures.values
