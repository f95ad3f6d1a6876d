use Rattle.std.proofs.Common.{arith}
use Rattle.std.proofs.lemmas.List.{take_rest}
use Rattle.data_lines.proofs.LineRuns.{line_goes_on, line_marked, line_unmarked}
use Rattle.data_lines.proofs.lines.line_end.Goals as goal

pub returns-in_default-clause-parts : goal.returns-in_default-clause-parts
returns-in_default-clause-parts c = line_unmarked c.args.text.now c.marks.at (omega arith) c.marks.invariant (rw take_rest at c.in_default.ensures)

pub returns-then-text-mark-eq10-clause-parts : goal.returns-then-text-mark-eq10-clause-parts
returns-then-text-mark-eq10-clause-parts c =
    let found = rw take_rest at c.in-Some.ensures in
    line_marked c.args.text.now c.marks.at c.in-Some.plain c.marks.invariant found.0 c.if-text-mark-eq10.true

pub marks-preserved : goal.marks-preserved
marks-preserved c =
    let found = rw take_rest at c.in-Some.ensures in
    line_goes_on c.args.text.now c.marks.at c.in-Some.plain c.marks.invariant found.0 c.if-text-mark-eq10.false found.1
