use Rattle.std.proofs.Common.{length, refl, ap, ◌∙◌, arith, subst, sym}
use Rattle.mt_values.specs.Cells.{value_of}
use Rattle.mt_values.specs.Grid.{Cells}
use Rattle.column_file.specs.Faults.{Explains, IsFirstFault}
use Rattle.column_file.specs.Picks.{GainsFrontWhere}
use Rattle.column_file.proofs.Fronts.{handed_on}
use Rattle.column_file.proofs.OneWay.{no_spelling}
use Rattle.column_file.proofs.Reading.{read_within}
use Rattle.column_file.proofs.Wanted.{ArePicked, between_within, pick_fault, pick_read, pick_spelled, picked_front, picked_more, picked_none, picked_past, picked_skip, picked_stuck, picked_unpassed, picked_whole, unpassed_unspelled}
use Rattle.column_file.proofs.picking.decode_where.Goals as goal

pub loop-is_wanted-init : goal.loop-is_wanted-init
loop-is_wanted-init c = record { within = omega arith; few = omega arith; col_type = refl; picked = picked_none c.args.bytes.now c.args.column.now }

pub loop-is_wanted-preserved-then-not-is_wanted : goal.loop-is_wanted-preserved-then-not-is_wanted
loop-is_wanted-preserved-then-not-is_wanted c =
    let i = c.loop-is_wanted.invariant in
    record {
      within = i.within;
      few = omega (arith, i.few);
      col_type = i.col_type;
      picked = picked_skip c.args.mask.now c.loop-is_wanted.is_wanted-index i.picked c.loop-is_wanted-test.true c.if-not-is_wanted.true;
    }

pub cell_at-requires : goal.cell_at-requires
cell_at-requires c = between_within c.in_ok-place.ensures c.loop-is_wanted.invariant.within

-- the unwanted values are passed, and the wanted one comes after them
pub loop-is_wanted-preserved : goal.loop-is_wanted-preserved
loop-is_wanted-preserved c =
    let i = c.loop-is_wanted.invariant in
    let past = picked_past c.col_type-col_type.result i.picked c.col_type-col_type.ensures c.in_ok-place.ensures in
    let more = picked_more c.args.mask.now c.loop-is_wanted.is_wanted-index (value_of c.in_ok-cell.cell) c.in_ok-cell.size _ c.col_type-col_type.result past c.loop-is_wanted-test.true c.if-not-is_wanted.false c.col_type-col_type.ensures c.in_ok-cell.ensures.0 c.in_ok-cell.ensures.1
    c.in_ok-push_cell.ensures.ok in
    record {
      within = read_within more.read;
      few = omega arith;
      col_type = ap (λ (x : Cells). x.col_type) c.in_ok-push_cell.ensures.ok ∙ i.col_type;
      picked = more;
    }

-- values were to be passed, and fewer are there
pub returns-in_err-place-clause-fault : goal.returns-in_err-place-clause-fault
returns-in_err-place-clause-fault c =
    handed_on (Explains c.args.column.now.col_type (length c.args.mask.now) c.args.bytes.now) c.from_residual.result c.in_err-place.field-0.0 c.from_residual.ensures.1
    (picked_unpassed c.args.mask.now c.loop-is_wanted.is_wanted-index c.col_type-col_type.result c.loop-is_wanted.invariant.picked c.col_type-col_type.ensures (omega (arith, c.loop-is_wanted-test.true)) c.in_err-place.field-0.0 c.in_err-place.ensures)

pub returns-in_err-place-clause-spelled : goal.returns-in_err-place-clause-spelled
returns-in_err-place-clause-spelled c = λ values spelling.
    absurd
    (unpassed_unspelled c.args.mask.now c.loop-is_wanted.is_wanted-index c.col_type-col_type.result c.loop-is_wanted.invariant.picked c.col_type-col_type.ensures (omega (arith, c.loop-is_wanted-test.true)) c.in_err-place.field-0.0 c.in_err-place.ensures values spelling)

pub returns-in_err-place-clause-front : goal.returns-in_err-place-clause-front
returns-in_err-place-clause-front c = picked_front c.args.mask.now c.loop-is_wanted.is_wanted-index c.loop-is_wanted.invariant.picked

-- no value begins where a wanted one was to come
stuck : (c : goal.After-from_residual-in_err-cell) → IsFirstFault c.args.column.now.col_type (length c.args.mask.now) c.args.bytes.now c.in_ok-place.place
stuck c =
    let past = picked_past c.col_type-col_type.result c.loop-is_wanted.invariant.picked c.col_type-col_type.ensures c.in_ok-place.ensures in
    picked_stuck c.args.mask.now c.loop-is_wanted.is_wanted-index c.col_type-col_type.result past c.loop-is_wanted-test.true c.col_type-col_type.ensures c.in_err-cell.ensures.1

pub returns-in_err-cell-clause-fault : goal.returns-in_err-cell-clause-fault
returns-in_err-cell-clause-fault c =
    handed_on (Explains c.args.column.now.col_type (length c.args.mask.now) c.args.bytes.now) c.from_residual-in_err-cell.result c.in_err-cell.field-0.0 c.from_residual-in_err-cell.ensures.1
    (subst (Explains c.args.column.now.col_type (length c.args.mask.now) c.args.bytes.now) (sym c.in_err-cell.ensures.0) (stuck c))

pub returns-in_err-cell-clause-spelled : goal.returns-in_err-cell-clause-spelled
returns-in_err-cell-clause-spelled c = λ values spelling.
    absurd (no_spelling c.args.column.now.col_type (length c.args.mask.now) c.args.bytes.now c.in_ok-place.place values (stuck c) spelling)

pub returns-in_err-cell-clause-front : goal.returns-in_err-cell-clause-front
returns-in_err-cell-clause-front c = picked_front c.args.mask.now c.loop-is_wanted.is_wanted-index c.loop-is_wanted.invariant.picked

pub returns-in_err-push_cell-clause-front : goal.returns-in_err-push_cell-clause-front
returns-in_err-push_cell-clause-front c =
    subst (GainsFrontWhere c.args.mask.now c.args.bytes.now c.args.column.now) (sym c.in_err-push_cell.ensures.err) (picked_front c.args.mask.now c.loop-is_wanted.is_wanted-index c.loop-is_wanted.invariant.picked)

-- after the mask
pub returns-in_err-end-clause-fault : goal.returns-in_err-end-clause-fault
returns-in_err-end-clause-fault c =
    handed_on (Explains c.args.column.now.col_type (length c.args.mask.now) c.args.bytes.now) c.from_residual-in_err-end.result c.in_err-end.field-0.0 c.from_residual-in_err-end.ensures.1
    (picked_unpassed c.args.mask.now c.loop-is_wanted.is_wanted-index c.col_type-col_type.result c.loop-is_wanted.invariant.picked c.col_type-col_type.ensures c.loop-is_wanted.auto.is_wanted-index-end c.in_err-end.field-0.0 c.in_err-end.ensures)

pub returns-in_err-end-clause-spelled : goal.returns-in_err-end-clause-spelled
returns-in_err-end-clause-spelled c = λ values spelling.
    absurd
    (unpassed_unspelled c.args.mask.now c.loop-is_wanted.is_wanted-index c.col_type-col_type.result c.loop-is_wanted.invariant.picked c.col_type-col_type.ensures c.loop-is_wanted.auto.is_wanted-index-end c.in_err-end.field-0.0 c.in_err-end.ensures values spelling)

pub returns-in_err-end-clause-front : goal.returns-in_err-end-clause-front
returns-in_err-end-clause-front c = picked_front c.args.mask.now c.loop-is_wanted.is_wanted-index c.loop-is_wanted.invariant.picked

-- all values are gone over
whole : (c : goal.After-end_at) → ArePicked c.args.mask.now 0 c.args.bytes.now c.in_ok-end.end c.args.column.now c.loop-is_wanted.column
whole c =
    picked_past c.col_type-col_type.result (picked_whole c.args.mask.now c.loop-is_wanted.is_wanted-index c.loop-is_wanted-test.false c.loop-is_wanted.invariant.picked) c.col_type-col_type.ensures c.in_ok-end.ensures

pub returns-clause-read : goal.returns-clause-read
returns-clause-read c = pick_read c.end_at.result c.end_at.ensures (whole c)

pub returns-clause-spelled : goal.returns-clause-spelled
returns-clause-spelled c = λ values spelling. pick_spelled c.end_at.result values c.end_at.ensures (whole c) spelling

pub returns-clause-fault : goal.returns-clause-fault
returns-clause-fault c = pick_fault c.end_at.result c.end_at.ensures (whole c)

pub returns-clause-front : goal.returns-clause-front
returns-clause-front c = picked_front c.args.mask.now c.loop-is_wanted.is_wanted-index c.loop-is_wanted.invariant.picked
