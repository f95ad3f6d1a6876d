use Rattle.std.proofs.Common.{◌≡◌, ◌<◌, ◌∙◌, All, ap, sym, subst, length, map}
use Rattle.std.proofs.lemmas.List.{length-map}
use Rattle.mt_values.specs.declared.schema.Column.{Column}
use Rattle.mt_values.specs.Grid.{Cells}
use Rattle.mt_values.specs.Schemas.{column_types}
use Rattle.part_reader.specs.Columns.{AreEach}
use Rattle.part_reader.specs.Faults.{ExplainsAt}
use Rattle.part_reader.specs.Granules.{ExplainsRun, GainsChosen, column_in}
use Rattle.part_reader.specs.Readings.{lone, lone_chosen}
use Rattle.part_reader.proofs.CutRows.{explained_at, lent_back}
use Rattle.part_reader.proofs.Gaining.{handed_on}
use Rattle.part_reader.proofs.part_rows.read_granule_columns.Goals as goal

pub returns-clause-values : goal.returns-clause-values
returns-clause-values g c =
    let part = c.args.source.now.part.now in
    let lent = c.deref_mut.ensures.value in
    let items = c.in-Ok.columns.items in
    let new = c.add_columns.new.columns in
    let many : length new ≡ length c.deref_mut.result.now = c.add_columns.auto.columns in
    let back = lent_back items new c.in-Ok.columns.len (many ∙ ap length lent) (ap length (sym lent) ∙ c.deref_mut.ensures.len) in
    record {
      olds = c.deref_mut.result.now;
      types_are = ap (map (λ (x : Cells). x.col_type)) lent ∙ c.in-Ok.ensures.types;
      empty = ap (map (λ (x : Cells). x.values)) lent ∙ c.in-Ok.ensures.empty;
      gained = subst (AreEach (λ place. GainsChosen (column_in g.R.Dir.Dir.files part place) (lone_chosen c.args.granule)) c.args.places.now c.deref_mut.result.now) (sym back) c.in_ok-add_columns.ensures.gained;
    }

pub returns-in_err-add_columns-clause-damaged : goal.returns-in_err-add_columns-clause-damaged
returns-in_err-add_columns-clause-damaged g c =
    let part = c.args.source.now.part.now in
    let schema = c.args.source.now.schema.now in
    let places = c.args.places.now in
    let types = column_types schema in
    let typed = ap (map (λ (x : Cells). x.col_type)) c.deref_mut.ensures.value ∙ c.in-Ok.ensures.types in
    let within = subst (λ n. All (λ place. place < n) places) (sym (length-map schema.columns (λ (x : Column). x.col_type))) c.requires.places in
    handed_on (ExplainsAt (λ number t. ExplainsRun (column_in g.R.Dir.Dir.files part number) (lone c.args.granule) t) types places) c.from_residual.result c.in_err-add_columns.field-0.0 c.from_residual.ensures.1
    (explained_at (λ number t. ExplainsRun (column_in g.R.Dir.Dir.files part number) (lone c.args.granule) t) types places c.deref_mut.result.now c.in_err-add_columns.field-0.0 within typed c.in_err-add_columns.ensures.damaged)
