use Rattle.std.proofs.Common.{◌≡◌, ◌<◌, All, Some, ap, get_or, refl, subst, sym, ◌∙◌, arith}
use Rattle.std.proofs.lemmas.List.{get_or_default, length-map}
use Rattle.std.proofs.lemmas.Option.{slice_get-get_or}
use Rattle.mt_values.specs.declared.schema.Column.{Column}
use Rattle.mt_values.specs.Schemas.{column_types}
use Rattle.part_reader.proofs.Holding.{each_typed, type_there}
use Rattle.mt_outside.proofs.LeftArms.{arm_calm}
use Rattle.mt_values.specs.Grid.{Cells}
use Rattle.part_reader.specs.Granules.{column_in}
use Rattle.part_reader.specs.Picks.{GainsPicked}
use Rattle.part_reader.specs.Readings.{lone_chosen}
use Rattle.part_reader.proofs.AheadBytes.{ahead_set}
use Rattle.part_reader.proofs.Gaining.{read_all, read_more, rest_more}
use Rattle.part_reader.proofs.met_rows.add_met.Goals as goal

pub loop-number-preserved : goal.loop-number-preserved
loop-number-preserved g c =
    let olds = c.args.columns.now in
    let i = c.loop-number.number in
    let source = c.args.source.now in
    let wanted = c.args.wanted.now in
    let any : Cells = c.index-columns-number.result in
    let old : Cells = get_or c.loop-number.columns i any in
    let old_is : old ≡ get_or olds i old = c.loop-number.invariant.rest i any (omega arith) ∙ get_or_default olds i any old (omega arith) in
    record {
      gained = read_more (λ place. GainsPicked (column_in g.R.Dir.Dir.files source.part.now place) (lone_chosen c.args.granule) c.args.met.now.mask.items) wanted olds c.loop-number.columns _ i old c.add_column.new.column (omega arith) (omega arith) c.requires.even old_is refl
          c.loop-number.invariant.gained c.in_ok-add_column.ensures.gained;
      rest = rest_more olds c.loop-number.columns _ i c.add_column.new.column c.loop-number.invariant.rest refl;
      ahead = ahead_set (g.R.Dir.Dir.files source.part.now.dir) source.most wanted c.loop-number.aheads _ i c.add_column.new.ahead c.loop-number.invariant.ahead (omega arith) refl c.in_ok-add_column.ensures.ahead;
      arm = arm_calm c.loop-number.invariant.arm (λ none. none) c.in_ok-add_column.ensures.arm (λ fault. cc);
    }

pub add_column-requires-clause-typed : goal.add_column-requires-clause-typed
add_column-requires-clause-typed g c κs within =
    let olds = c.args.columns.now in
    let i = c.loop-number.number in
    let wanted = c.args.wanted.now in
    let schema = c.args.source.now.schema.now in
    let types = column_types schema in
    let any : Cells = c.index-columns-number.result in
    let old : Cells = get_or c.loop-number.columns i any in
    let old_is : old ≡ get_or olds i old = c.loop-number.invariant.rest i any (omega arith) ∙ get_or_default olds i any old (omega arith) in
    let below = subst (λ n. All (λ place. place < n) wanted) (sym (length-map schema.columns (λ (x : Column). x.col_type))) c.requires.places in
    type_there types wanted olds i (get_or wanted i 0) old (each_typed types wanted olds below c.requires.columns) (slice_get-get_or wanted i 0 (omega arith))
    (slice_get-get_or olds i old (omega arith) ∙ ap Some (sym old_is))

pub returns-clause-gained : goal.returns-clause-gained
returns-clause-gained g c =
    read_all (λ place. GainsPicked (column_in g.R.Dir.Dir.files c.args.source.now.part.now place) (lone_chosen c.args.granule) c.args.met.now.mask.items) c.args.wanted.now c.args.columns.now c.loop-number.columns c.loop-number.number (omega arith) (omega arith) c.requires.even
    c.loop-number.invariant.gained
