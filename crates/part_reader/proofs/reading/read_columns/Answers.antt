use Rattle.std.proofs.Common.{◌≡◌, ◌<◌, length, get_or, refl, ◌∙◌, arith}
use Rattle.std.proofs.lemmas.List.{get_or_default}
use Rattle.std.proofs.lemmas.Option.{slice_get-get_or, slice_get_read}
use Rattle.mt_outside.proofs.LeftArms.{arm_calm}
use Rattle.mt_values.specs.Grid.{Cells}
use Rattle.part_reader.specs.Columns.{IsRead}
use Rattle.part_reader.specs.Faults.{ExplainsColumn, ExplainsEach}
use Rattle.part_reader.proofs.Gaining.{handed_on, read_all, read_even, read_more, read_types, rest_more, rows_read}
use Rattle.part_reader.proofs.reading.read_columns.Goals as goal
use Rattle.part_reader.proofs.reading.read_columns.Given.{Over}

pub loop-number-preserved : goal.loop-number-preserved
loop-number-preserved g c =
    let olds = c.args.columns.now in
    let i = c.loop-number.number in
    let any : Cells = c.index-columns-number.result in
    let old : Cells = get_or c.loop-number.columns i any in
    let old_is : old ≡ get_or olds i old = c.loop-number.invariant.rest i any (omega arith) ∙ get_or_default olds i any old (omega arith) in
    record {
      read = read_more (IsRead (g.R.Dir.Dir.files c.args.part.now.dir) c.args.part.now.loaded.manifest) c.args.places.now olds c.loop-number.columns _ i old c.read_column.new.column (omega arith) (omega arith) c.requires old_is refl
          c.loop-number.invariant.read c.in_ok-read_column.ensures.read;
      rest = rest_more olds c.loop-number.columns _ i c.read_column.new.column c.loop-number.invariant.rest refl;
      arm = arm_calm c.loop-number.invariant.arm (λ none. none) c.in_ok-read_column.ensures.arm (λ fault. cc);
    }

-- the fault is that of the column that was read last
fault_of : (g : Over) (c : goal.After-from_residual g) → ExplainsEach (ExplainsColumn (g.R.Dir.Dir.files c.args.part.now.dir) c.args.part.now.loaded) c.args.places.now c.args.columns.now c.in_err-read_column.field-0.0
fault_of g c =
    let olds = c.args.columns.now in
    let i = c.loop-number.number in
    let any : Cells = c.index-columns-number.result in
    let old : Cells = get_or c.loop-number.columns i any in
    let old_is : old ≡ get_or olds i old = c.loop-number.invariant.rest i any (omega arith) ∙ get_or_default olds i any old (omega arith) in
    let below : i < length c.args.places.now = omega arith in
    let inside : i < length olds = omega arith in
    record {
      at = i;
      number = get_or c.args.places.now i 0;
      column = old;
      number_is = slice_get-get_or c.args.places.now i 0 below;
      column_is = slice_get_read olds (length olds) i old refl inside old_is;
      explained = c.in_err-read_column.ensures.damaged;
    }

pub returns-in_err-read_column-clause-damaged : goal.returns-in_err-read_column-clause-damaged
returns-in_err-read_column-clause-damaged g c =
    handed_on (ExplainsEach (ExplainsColumn (g.R.Dir.Dir.files c.args.part.now.dir) c.args.part.now.loaded) c.args.places.now c.args.columns.now) c.from_residual.result c.in_err-read_column.field-0.0 c.from_residual.ensures.1
    (fault_of g c)

pub returns-clause-read : goal.returns-clause-read
returns-clause-read g c =
    read_all (IsRead (g.R.Dir.Dir.files c.args.part.now.dir) c.args.part.now.loaded.manifest) c.args.places.now c.args.columns.now c.loop-number.columns c.loop-number.number (omega arith) (omega arith) c.requires c.loop-number.invariant.read

pub returns-clause-values : goal.returns-clause-values
returns-clause-values g c = λ schema rows holds typed.
    rows_read g.R.Dir.Dir.files schema c.args.part.now c.args.places.now rows c.args.columns.now c.loop-number.columns holds typed (returns-clause-read g c)

pub returns-clause-even : goal.returns-clause-even
returns-clause-even g c = λ n even.
    read_even (g.R.Dir.Dir.files c.args.part.now.dir) c.args.part.now.loaded.manifest n c.args.places.now c.args.columns.now c.loop-number.columns (returns-clause-read g c) even

pub returns-clause-types : goal.returns-clause-types
returns-clause-types g c =
    read_types (g.R.Dir.Dir.files c.args.part.now.dir) c.args.part.now.loaded.manifest c.args.places.now c.args.columns.now c.loop-number.columns (returns-clause-read g c)
