use Rattle.std.proofs.Common.{◌+◌, List, arith, drop, map, refl, subst, sym}
use Rattle.std.specs.List.{list_any}
use Rattle.column_file.specs.byte_numbers.declared.faults.FormatFault.TheVariants.{Malformed}
use Rattle.mt_values.specs.declared.value.Value.{Value}
use Rattle.mt_values.specs.Cells.{value_of}
use Rattle.column_file.proofs.Fronts.{handed}
use Rattle.skip_index.specs.Blocks.{same_value}
use Rattle.skip_index.specs.Faults.{ExplainsValues}
use Rattle.skip_index.proofs.BlocksRead.{AreValuesRead, no_values, value_again, value_more, values_end}
use Rattle.skip_index.proofs.Distinct.{was_none, was_one}
use Rattle.skip_index.proofs.reading.read_values.Goals as goal

pub loop-value-init : goal.loop-value-init
loop-value-init c =
    subst (λ (vs : List Value). AreValuesRead c.args.col_type c.args.bytes.now c.args.at 0 0 c.new-seen.result.keys vs) (sym c.new-values.ensures)
    (no_values c.args.col_type c.args.bytes.now c.args.at c.new-seen.result.keys c.new-seen.ensures.empty c.requires)

pub returns-in_err-cell-clause-fault : goal.returns-in_err-cell-clause-fault
returns-in_err-cell-clause-fault c =
    let at = c.args.at + c.loop-value.size in
    handed (ExplainsValues c.args.col_type c.args.count c.args.at (drop c.args.at c.args.bytes.now)) c.from_residual.result c.in_err-cell.field-0.0 (Malformed at) c.from_residual.ensures.1 c.in_err-cell.ensures.0
    (values_end c.args.col_type c.args.bytes.now c.args.at c.loop-value.size c.loop-value._value c.loop-value.seen.keys c.loop-value.values c.loop-value.invariant c.args.count at c.loop-value-test.true refl c.in_err-cell.ensures.1)

pub returns-then-not-is_new-clause-fault : goal.returns-then-not-is_new-clause-fault
returns-then-not-is_new-clause-fault c =
    let at = c.args.at + c.loop-value.size in
    let keys = c.loop-value.seen.keys in
    let k = c.in_ok-cell.cell in
    let old = was_one _ (list_any (same_value (value_of k)) (map value_of keys)) c.in_ok-is_new.ensures.fresh c.if-not-is_new.true in
    value_again c.args.col_type c.args.bytes.now c.args.at c.loop-value.size c.loop-value._value keys c.loop-value.values c.loop-value.invariant c.args.count at c.in_ok-cell.width k c.loop-value-test.true refl
    c.in_ok-cell.ensures.0 c.in_ok-cell.ensures.1 old

pub loop-value-preserved : goal.loop-value-preserved
loop-value-preserved c =
    let keys = c.loop-value.seen.keys in
    let k = c.in_ok-cell.cell in
    let none = was_none _ (list_any (same_value (value_of k)) (map value_of keys)) c.in_ok-is_new.ensures.fresh c.if-not-is_new.false in
    value_more c.args.col_type c.args.bytes.now c.args.at c.loop-value.size c.loop-value._value keys c.loop-value.values c.loop-value.invariant c.in_ok-cell.width k c.see.new.seen.keys c.in_ok-to_value.field-0 c.push.new.self
    c.in_ok-cell.ensures.0 c.in_ok-cell.ensures.1 none c.in_ok-is_new.ensures.values c.in_ok-to_value.ensures c.in_ok-push.ensures.ok

pub returns-clause-read : goal.returns-clause-read
returns-clause-read c =
    let read = c.loop-value.invariant in
    record { count_is = omega (arith, read.count_is); sound = read.sound; begins = read.begins }
