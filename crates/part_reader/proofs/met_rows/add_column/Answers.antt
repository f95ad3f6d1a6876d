use Rattle.std.proofs.Common.{◌∙◌, ◌++◌, ap, arith, length, refl, subst, sym}
use Rattle.mt_values.specs.Lists.{where_true}
use Rattle.mt_values.specs.Schemas.{column_types}
use Rattle.part_reader.specs.Granules.{column_in}
use Rattle.part_reader.specs.Picks.{GainsPicked}
use Rattle.part_reader.specs.Readings.{lone_chosen}
use Rattle.part_reader.proofs.MetColumns.{known_below, known_even, known_gains, known_here, known_type}
use Rattle.part_reader.proofs.PickedValues.{on_ok}
use Rattle.part_reader.proofs.met_rows.add_column.Goals as goal

-- a column that was not read
pub read_column-requires-clause-even : goal.read_column-requires-clause-even
read_column-requires-clause-even g c κs within = ap length c.deref.ensures.value ∙ c.requires.met.count

pub returns-in_default-clause-gained : goal.returns-in_default-clause-gained
returns-in_default-clause-gained g c =
    let here = column_in g.R.Dir.Dir.files c.args.source.now.part.now c.args.place in
    on_ok c.read_column.result
    (λ gains. subst (λ m. GainsPicked here (lone_chosen c.args.granule) m c.args.column.now c.read_column.new.column) c.deref.ensures.value gains) c.read_column.ensures.gained

-- one that was read
pub index-requires : goal.index-requires
index-requires g c =
    let met = c.args.met.now in
    let part = c.args.source.now.part.now in
    omega (
      arith,
      known_below g.R.Dir.Dir.files part c.args.granule (column_types c.args.source.now.schema.now) met.places.now met.columns.items c.in-Some.at c.args.place c.requires.met.columns c.in-Some.ensures,
      met.columns.ok.0,
    )

pub add_where-requires-clause-same : goal.add_where-requires-clause-same
add_where-requires-clause-same g c =
    let met = c.args.met.now in
    let part = c.args.source.now.part.now in
    let files = g.R.Dir.Dir.files in
    let below = known_below files part c.args.granule (column_types c.args.source.now.schema.now) met.places.now met.columns.items c.in-Some.at c.args.place c.requires.met.columns c.in-Some.ensures in
    known_type files c.args.source.now.schema.now part c.args.granule met.places.now met.columns.items c.requires.met.columns c.requires.met.within c.in-Some.at c.args.place c.index.result.now c.args.column.now.col_type c.in-Some.ensures
    (known_here met.columns.items c.in-Some.at c.index.result.now below c.index.ensures) c.requires.typed

pub add_where-requires-clause-even : goal.add_where-requires-clause-even
add_where-requires-clause-even g c =
    let met = c.args.met.now in
    let part = c.args.source.now.part.now in
    let files = g.R.Dir.Dir.files in
    let below = known_below files part c.args.granule (column_types c.args.source.now.schema.now) met.places.now met.columns.items c.in-Some.at c.args.place c.requires.met.columns c.in-Some.ensures in
    ap length c.deref-2.ensures.value ∙ c.requires.met.count
    ∙ sym (known_even files c.args.source.now.schema.now part c.args.granule met.places.now met.columns.items c.requires.met.columns c.requires.met.within c.in-Some.at c.args.place c.index.result.now c.args.column.now.col_type c.in-Some.ensures
    (known_here met.columns.items c.in-Some.at c.index.result.now below c.index.ensures) c.requires.typed)

pub returns-clause-gained : goal.returns-clause-gained
returns-clause-gained g c =
    let met = c.args.met.now in
    let part = c.args.source.now.part.now in
    let files = g.R.Dir.Dir.files in
    let old = c.args.column.now in
    let below = known_below files part c.args.granule (column_types c.args.source.now.schema.now) met.places.now met.columns.items c.in-Some.at c.args.place c.requires.met.columns c.in-Some.ensures in
    known_gains files c.args.source.now.schema.now part c.args.granule met.places.now met.columns.items c.requires.met.columns c.requires.met.within c.in-Some.at c.args.place c.index.result.now old.col_type c.in-Some.ensures
    (known_here met.columns.items c.in-Some.at c.index.result.now below c.index.ensures) c.requires.typed met.mask.items old c.add_where.new.self c.requires.met.count refl
    (c.in-Ok.ensures ∙ ap (λ m. record old { values = old.values ++ where_true m c.index.result.now.values }) c.deref-2.ensures.value)
