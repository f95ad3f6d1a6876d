use Rattle.std.proofs.Common.{◌≡◌, ◌<◌, ◌∙◌, All, ap, arith, sym, subst}
use Rattle.std.proofs.lemmas.List.{length-map}
use Rattle.mt_values.specs.declared.schema.Column.{Column}
use Rattle.mt_values.specs.Schemas.{column_types}
use Rattle.part_reader.specs.Faults.{ExplainsAt}
use Rattle.part_reader.specs.Granules.{ExplainsRun, column_in}
use Rattle.part_reader.specs.Readings.{lone}
use Rattle.part_reader.specs.Sieves.{count_true}
use Rattle.part_reader.proofs.CutRows.{explained_at}
use Rattle.part_reader.proofs.Gaining.{handed_on}
use Rattle.part_reader.proofs.Holding.{each_typed}
use Rattle.part_reader.proofs.MetValues.{all_same, typed_many}
use Rattle.part_reader.proofs.met_rows.add_found.Goals as goal

-- no row meets what is asked
pub returns-then-count-eq0-clause-count : goal.returns-then-count-eq0-clause-count
returns-then-count-eq0-clause-count g c = omega (arith, c.count_true-count.ensures, ap count_true c.deref.ensures.value, c.if-count-eq0.true)

pub returns-then-count-eq0-clause-gained : goal.returns-then-count-eq0-clause-gained
returns-then-count-eq0-clause-gained g c =
    let part = c.args.source.now.part.now in
    let schema = c.args.source.now.schema.now in
    let types = column_types schema in
    let places = c.args.wanted.now in
    let mask = c.args.met.now.mask.items in
    let within = subst (λ n. All (λ place. place < n) places) (sym (length-map schema.columns (λ (x : Column). x.col_type))) c.requires.places in
    let many = typed_many types places c.args.columns.now (each_typed types places c.args.columns.now within c.requires.columns) in
    let none : count_true mask ≡ 0 = omega (arith, c.count_true-count.ensures, ap count_true c.deref.ensures.value, c.if-count-eq0.true) in
    all_same g.R.Dir.Dir.files part c.args.granule mask places c.args.columns.now many none

-- some do
pub add_met-requires-clause-even : goal.add_met-requires-clause-even
add_met-requires-clause-even g c κs inside =
    let schema = c.args.source.now.schema.now in
    let types = column_types schema in
    let places = c.args.wanted.now in
    let within = subst (λ n. All (λ place. place < n) places) (sym (length-map schema.columns (λ (x : Column). x.col_type))) c.requires.places in
    typed_many types places c.args.columns.now (each_typed types places c.args.columns.now within c.requires.columns)

pub returns-clause-count : goal.returns-clause-count
returns-clause-count g c = c.count_true-count.ensures ∙ ap count_true c.deref.ensures.value

pub returns-in_err-add_met-clause-damaged : goal.returns-in_err-add_met-clause-damaged
returns-in_err-add_met-clause-damaged g c =
    let part = c.args.source.now.part.now in
    let schema = c.args.source.now.schema.now in
    let places = c.args.wanted.now in
    let types = column_types schema in
    let within = subst (λ n. All (λ place. place < n) places) (sym (length-map schema.columns (λ (x : Column). x.col_type))) c.requires.places in
    handed_on (ExplainsAt (λ number t. ExplainsRun (column_in g.R.Dir.Dir.files part number) (lone c.args.granule) t) types places) c.from_residual.result c.in_err-add_met.field-0.0 c.from_residual.ensures.1
    (explained_at (λ number t. ExplainsRun (column_in g.R.Dir.Dir.files part number) (lone c.args.granule) t) types places c.args.columns.now c.in_err-add_met.field-0.0 within c.requires.columns c.in_err-add_met.ensures.damaged)
