use Rattle.std.proofs.Common.{◌-◌, ap, sym, ◌∙◌, arith}
use Rattle.std.specs.Ordering.{is_lt}
use Rattle.mt_values.specs.Cells.{value_of}
use Rattle.primary_marks.proofs.Rising.{rising_more}
use Rattle.primary_marks.proofs.marks.rises.Goals as goal

pub loop-place-preserved : goal.loop-place-preserved
loop-place-preserved c =
    rising_more c.args.column.now.values c.loop-place.place (c.loop-place.place - 1) (value_of c.at.result) (value_of c.at-in-loop-place.result) (omega (arith, c.loop-place.auto.place)) c.at.ensures c.at-in-loop-place.ensures
    (sym (ap is_lt c.cmp_cells.ensures) ∙ sym c.is_lt.ensures ∙ c.if-is_lt.false) c.loop-place.invariant
