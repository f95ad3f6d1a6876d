use Rattle.std.proofs.Common.{length, ap, arith}
use Rattle.primary_marks.proofs.GranuleBoxes.{among_found, among_passed, among_past}
use Rattle.primary_marks.proofs.choosing.KeyRanges.known_among.Goals as goal

pub returns-then-column-self : goal.returns-then-column-self
returns-then-column-self c =
    among_past c.args.primary.now c.args.self.now c.args.place c.loop-column.column c.loop-column.invariant
    (omega (arith, c.if-column-self.true, c.self.invariant.2, ap length c.self.view_is))

pub returns-then-own-place : goal.returns-then-own-place
returns-then-own-place c =
    among_found c.args.primary.now c.args.self.now c.args.place c.loop-column.column c.range.result c.loop-column.invariant c.loop-column-test.true
    (omega (arith, c.if-column-self.false, c.self.invariant.2, ap length c.self.view_is)) c.if-own-place.true c.range.ensures

pub loop-column-preserved : goal.loop-column-preserved
loop-column-preserved c =
    among_passed c.args.primary.now c.args.self.now c.args.place c.loop-column.column c.loop-column.invariant c.loop-column-test.true
    (omega (arith, c.if-column-self.false, c.self.invariant.2, ap length c.self.view_is)) c.if-own-place.false
