use Rattle.std.proofs.Common.{◌≡◌, get_or, refl, ◌∙◌, arith}
use Rattle.std.proofs.lemmas.List.{get_or_default}
use Rattle.mt_outside.proofs.LeftArms.{arm_calm}
use Rattle.mt_values.specs.Grid.{Cells}
use Rattle.part_reader.specs.Granules.{GainsChosen, column_in}
use Rattle.part_reader.specs.Readings.{lone_chosen}
use Rattle.part_reader.proofs.AheadBytes.{ahead_set}
use Rattle.part_reader.proofs.Gaining.{read_all, read_more, rest_more}
use Rattle.part_reader.proofs.LeftGranules.{gains_lone}
use Rattle.part_reader.proofs.part_rows.add_columns.Goals as goal

pub loop-number-preserved : goal.loop-number-preserved
loop-number-preserved g c =
    let olds = c.args.columns.now in
    let i = c.loop-number.number in
    let source = c.args.source.now in
    let any : Cells = c.index-columns-number.result in
    let old : Cells = get_or c.loop-number.columns i any in
    let old_is : old ≡ get_or olds i old = c.loop-number.invariant.rest i any (omega arith) ∙ get_or_default olds i any old (omega arith) in
    let gains = gains_lone (column_in g.R.Dir.Dir.files source.part.now (get_or c.args.places.now i 0)) c.args.granule old c.add_granule.new.column c.in_ok-add_granule.ensures.read in
    record {
      gained = read_more (λ place. GainsChosen (column_in g.R.Dir.Dir.files source.part.now place) (lone_chosen c.args.granule)) c.args.places.now olds c.loop-number.columns _ i old c.add_granule.new.column (omega arith) (omega arith) c.requires.columns old_is refl
          c.loop-number.invariant.gained gains;
      rest = rest_more olds c.loop-number.columns _ i c.add_granule.new.column c.loop-number.invariant.rest refl;
      ahead = ahead_set (g.R.Dir.Dir.files source.part.now.dir) source.most c.args.places.now c.loop-number.aheads _ i c.add_granule.new.ahead c.loop-number.invariant.ahead (omega arith) refl c.in_ok-add_granule.ensures.ahead;
      arm = arm_calm c.loop-number.invariant.arm (λ none. none) c.in_ok-add_granule.ensures.arm (λ fault. cc);
    }

pub returns-clause-gained : goal.returns-clause-gained
returns-clause-gained g c =
    read_all (λ place. GainsChosen (column_in g.R.Dir.Dir.files c.args.source.now.part.now place) (lone_chosen c.args.granule)) c.args.places.now c.args.columns.now c.loop-number.columns c.loop-number.number (omega arith) (omega arith) c.requires.columns c.loop-number.invariant.gained
