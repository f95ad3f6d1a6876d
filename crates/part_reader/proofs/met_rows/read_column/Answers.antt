use Rattle.std.proofs.Common.{◌∙◌, sym}
use Rattle.part_reader.specs.Granules.{column_in}
use Rattle.part_reader.proofs.LeftGranules.{picks_lone}
use Rattle.part_reader.proofs.MetColumns.{gains_whole}
use Rattle.part_reader.proofs.PickedValues.{on_ok}
use Rattle.part_reader.proofs.met_rows.read_column.Goals as goal

pub returns-then-is_whole-clause-gained : goal.returns-then-is_whole-clause-gained
returns-then-is_whole-clause-gained g c =
    let here = column_in g.R.Dir.Dir.files c.args.source.now.part.now c.args.place in
    on_ok c.add_granule.result (λ read. gains_whole here c.args.granule c.args.mask.now c.args.column.now c.add_granule.new.column read (sym c.is_whole.ensures ∙ c.if-is_whole.true) c.requires.even) c.add_granule.ensures.read

pub returns-clause-gained : goal.returns-clause-gained
returns-clause-gained g c =
    let here = column_in g.R.Dir.Dir.files c.args.source.now.part.now c.args.place in
    on_ok c.add_granule-2.result (λ read. picks_lone here c.args.granule c.args.mask.now c.args.column.now c.add_granule-2.new.column read c.requires.even) c.add_granule-2.ensures.read
