use Rattle.std.proofs.Common.{◌≡◌, ◌+◌, ◌<◌, drop, List, ℕ, length, sym, subst, IfSome, arith}
use Rattle.std.proofs.lemmas.List.{drop-drop}
use Rattle.mt_values.specs.Grid.{Cells}
use Rattle.primary_marks.specs.Columns.{ExplainsValue, GainsValue, key_types, wanted_key}
use Rattle.primary_marks.specs.KeyFaults.{ExplainsKey}
use Rattle.column_file.proofs.Fronts.{handed_on}
use Rattle.primary_marks.proofs.KeyReading.{gone_all, gone_has, gone_next, gone_none, gone_within, gone_wrong}
use Rattle.primary_marks.proofs.reading.read_key.Goals as goal

-- what is said of the column and of what is left of the bytes
rest : {y : Cells} (P : Cells → List ℕ → Type 0) (at size : ℕ) (bytes : List ℕ) (x : Cells) → x ≡ y → P y (drop (at + size) bytes) → P x (drop size (drop at bytes))
rest P at size bytes x same p = subst (P x) (sym (drop-drop size at bytes)) (subst (λ (z : Cells). P z (drop (at + size) bytes)) (sym same) p)

pub loop-column-init : goal.loop-column-init
loop-column-init c = record { within = omega arith; gone = gone_none c.args.columns.now c.args.wanted (drop c.args.at c.args.bytes.now) }

pub read_value-requires-clause-wanted : goal.read_value-requires-clause-wanted
read_value-requires-clause-wanted c =
    let gone = c.loop-column.invariant.gone in
    subst (λ (x : Cells). IfSome c.args.wanted (λ place. place < length x.values)) c.column-item.is
    (gone_has c.loop-column.column-index gone.0 gone.1 c.column-item.result c.loop-column-test.true c.column-item.is c.requires.wanted)

pub returns-in_err-size-clause-fault : goal.returns-in_err-size-clause-fault
returns-in_err-size-clause-fault c =
    let gone = c.loop-column.invariant.gone in
    handed_on (ExplainsKey (key_types c.args.columns.now) (wanted_key c.args.columns.now c.args.wanted) c.args.at (drop c.args.at c.args.bytes.now)) c.from_residual.result c.in_err-size.field-0.0 c.from_residual.ensures.1
    (gone_wrong c.loop-column.column-index gone.0 gone.1 c.column-item.result c.loop-column-test.true c.column-item.is c.requires.wanted c.args.at c.in_err-size.field-0.0
    (rest (λ (x : Cells) (l : List ℕ). ExplainsValue c.args.wanted x (c.args.at + c.loop-column.size) l c.in_err-size.field-0.0) c.args.at c.loop-column.size c.args.bytes.now c.column-item.result c.column-item.is c.in_err-size.ensures.fault))

pub loop-column-preserved : goal.loop-column-preserved
loop-column-preserved c =
    let gone = c.loop-column.invariant.gone in
    let more = gone_next c.loop-column.column-index gone.0 gone.1 c.column-item.result c.loop-column-test.true c.column-item.is c.requires.wanted c.in_ok-size.field-0 c.read_value.new.column
    (rest (λ (x : Cells) (l : List ℕ). GainsValue c.args.wanted l c.in_ok-size.field-0 x c.read_value.new.column) c.args.at c.loop-column.size c.args.bytes.now c.column-item.result c.column-item.is c.in_ok-size.ensures.read) in
    record { within = gone_within more.0; gone = more }

pub returns-clause-read : goal.returns-clause-read
returns-clause-read c =
    let gone = c.loop-column.invariant.gone in
    gone_all gone.0 c.requires.wanted (omega (arith, gone.1, gone.0.wide, c.loop-column-test.false))
