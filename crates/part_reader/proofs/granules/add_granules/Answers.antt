use Rattle.std.proofs.Common.{◌≡◌, ◌<◌, length, get_or, refl, ◌∙◌, arith}
use Rattle.std.proofs.lemmas.List.{get_or_default}
use Rattle.std.proofs.lemmas.Option.{slice_get-get_or, slice_get_read}
use Rattle.mt_outside.proofs.LeftArms.{arm_calm}
use Rattle.mt_values.specs.Grid.{Cells}
use Rattle.part_reader.specs.Faults.{ExplainsEach}
use Rattle.part_reader.specs.Granules.{ExplainsChosen, GainsChosen, column_in}
use Rattle.part_reader.proofs.ChosenColumns.{chosen_even, chosen_rows, chosen_types}
use Rattle.part_reader.proofs.Gaining.{handed_on, read_all, read_more, rest_more}
use Rattle.part_reader.proofs.granules.add_granules.Goals as goal
use Rattle.part_reader.proofs.granules.add_granules.Given.{Over}

pub loop-number-preserved : goal.loop-number-preserved
loop-number-preserved g c =
    let olds = c.args.columns.now in
    let i = c.loop-number.number in
    let any : Cells = c.index-columns-number.result in
    let old : Cells = get_or c.loop-number.columns i any in
    let old_is : old ≡ get_or olds i old = c.loop-number.invariant.rest i any (omega arith) ∙ get_or_default olds i any old (omega arith) in
    record {
      gained = read_more (λ place. GainsChosen (column_in g.R.Dir.Dir.files c.args.part.now place) c.args.chosen.now) c.args.places.now olds c.loop-number.columns _ i old c.add_chosen.new.column (omega arith) (omega arith) c.requires old_is refl
          c.loop-number.invariant.gained c.in_ok-add_chosen.ensures.gained;
      rest = rest_more olds c.loop-number.columns _ i c.add_chosen.new.column c.loop-number.invariant.rest refl;
      arm = arm_calm c.loop-number.invariant.arm (λ none. none) c.in_ok-add_chosen.ensures.arm (λ fault. cc);
    }

-- the fault is that of the column that was read last
fault_of : (g : Over) (c : goal.After-from_residual g) → ExplainsEach (λ number t. ExplainsChosen (column_in g.R.Dir.Dir.files c.args.part.now number) c.args.chosen.now t) c.args.places.now c.args.columns.now c.in_err-add_chosen.field-0.0
fault_of g c =
    let olds = c.args.columns.now in
    let i = c.loop-number.number in
    let any : Cells = c.index-columns-number.result in
    let old : Cells = get_or c.loop-number.columns i any in
    let old_is : old ≡ get_or olds i old = c.loop-number.invariant.rest i any (omega arith) ∙ get_or_default olds i any old (omega arith) in
    let below : i < length c.args.places.now = omega arith in
    let inside : i < length olds = omega arith in
    record {
      at = i;
      number = get_or c.args.places.now i 0;
      column = old;
      number_is = slice_get-get_or c.args.places.now i 0 below;
      column_is = slice_get_read olds (length olds) i old refl inside old_is;
      explained = c.in_err-add_chosen.ensures.damaged;
    }

pub returns-in_err-add_chosen-clause-damaged : goal.returns-in_err-add_chosen-clause-damaged
returns-in_err-add_chosen-clause-damaged g c =
    handed_on (ExplainsEach (λ number t. ExplainsChosen (column_in g.R.Dir.Dir.files c.args.part.now number) c.args.chosen.now t) c.args.places.now c.args.columns.now) c.from_residual.result c.in_err-add_chosen.field-0.0 c.from_residual.ensures.1
    (fault_of g c)

pub returns-clause-values : goal.returns-clause-values
returns-clause-values g c = λ schema rows holds typed.
    chosen_rows g.R.Dir.Dir.files schema c.args.part.now c.args.places.now rows holds c.args.chosen.now c.args.columns.now c.loop-number.columns typed
    (read_all (λ place. GainsChosen (column_in g.R.Dir.Dir.files c.args.part.now place) c.args.chosen.now) c.args.places.now c.args.columns.now c.loop-number.columns c.loop-number.number (omega arith) (omega arith) c.requires c.loop-number.invariant.gained)

pub returns-clause-even : goal.returns-clause-even
returns-clause-even g c = λ n even.
    chosen_even g.R.Dir.Dir.files c.args.part.now c.args.chosen.now n c.args.places.now c.args.columns.now c.loop-number.columns
    (read_all (λ place. GainsChosen (column_in g.R.Dir.Dir.files c.args.part.now place) c.args.chosen.now) c.args.places.now c.args.columns.now c.loop-number.columns c.loop-number.number (omega arith) (omega arith) c.requires c.loop-number.invariant.gained)
    even

pub returns-clause-types : goal.returns-clause-types
returns-clause-types g c =
    chosen_types g.R.Dir.Dir.files c.args.part.now c.args.chosen.now c.args.places.now c.args.columns.now c.loop-number.columns
    (read_all (λ place. GainsChosen (column_in g.R.Dir.Dir.files c.args.part.now place) c.args.chosen.now) c.args.places.now c.args.columns.now c.loop-number.columns c.loop-number.number (omega arith) (omega arith) c.requires c.loop-number.invariant.gained)
