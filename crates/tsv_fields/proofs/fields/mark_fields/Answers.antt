use Rattle.std.proofs.lemmas.List.{take_rest}
use Rattle.std.proofs.lemmas.Result.{err_from_is_err_and}
use Rattle.tsv_fields.proofs.MarkingRuns.{marks_feed, marks_more, marks_tab, marks_taken, no_marks, unmarked}
use Rattle.tsv_fields.proofs.fields.mark_fields.Goals as goal

-- out of memory
pub returns-in_err-push : goal.returns-in_err-push
returns-in_err-push c = let p = err_from_is_err_and c.from_residual.result c.from_residual.ensures.1 in rw p.1 (record { line = tt; within = tt; fields = tt })

pub returns-in_err-push-2 : goal.returns-in_err-push-2
returns-in_err-push-2 c = let p = err_from_is_err_and c.from_residual-in_err-push-2.result c.from_residual-in_err-push-2.ensures.1 in rw p.1 (record { line = tt; within = tt; fields = tt })

pub returns-in_err-push-3 : goal.returns-in_err-push-3
returns-in_err-push-3 c = let p = err_from_is_err_and c.from_residual-in_err-push-3.result c.from_residual-in_err-push-3.ensures.1 in rw p.1 (record { line = tt; within = tt; fields = tt })

pub marks-init : goal.marks-init
marks-init c = rw c.clear.ensures.items (no_marks c.args.text.now c.args.lines)

pub marks-preserved-then-text-mark-eq92 : goal.marks-preserved-then-text-mark-eq92
marks-preserved-then-text-mark-eq92 c =
    let found = rw take_rest at c.in-Some.ensures in
    marks_taken c.args.text.now c.args.lines c.marks.ends.items c.marks.at c.marks.invariant c.in-Some.plain found.0 c.min-at.result c.if-text-mark-eq92.true c.min-at.ensures

pub marks-preserved-then-text-mark-eq9 : goal.marks-preserved-then-text-mark-eq9
marks-preserved-then-text-mark-eq9 c =
    let found = rw take_rest at c.in-Some.ensures in
    rw c.in_ok-push.ensures.items (marks_tab c.args.text.now c.args.lines c.marks.ends.items c.marks.at c.marks.invariant c.in-Some.plain found.0 c.if-text-mark-eq9.true)

pub marks-preserved : goal.marks-preserved
marks-preserved c =
    let found = rw take_rest at c.in-Some.ensures in
    marks_more c.args.text.now c.args.lines c.marks.ends.items c.marks.at c.marks.invariant c.in-Some.plain found.0 c.if-text-mark-eq92.false c.if-text-mark-eq9.false found.1 c.if-lines.false

pub returns-then-lines-clause-line : goal.returns-then-lines-clause-line
returns-then-lines-clause-line c =
    let found = rw take_rest at c.in-Some.ensures in
    let feed = marks_feed c.args.text.now c.args.lines c.marks.ends.items c.marks.at c.marks.invariant c.in-Some.plain found.0 c.if-text-mark-eq92.false c.if-text-mark-eq9.false found.1 c.if-lines.true in
    feed.0

pub returns-then-lines-clause-fields : goal.returns-then-lines-clause-fields
returns-then-lines-clause-fields c =
    let found = rw take_rest at c.in-Some.ensures in
    let feed = marks_feed c.args.text.now c.args.lines c.marks.ends.items c.marks.at c.marks.invariant c.in-Some.plain found.0 c.if-text-mark-eq92.false c.if-text-mark-eq9.false found.1 c.if-lines.true in
    rw c.in_ok-push-2.ensures.items feed.1

pub returns-clause-line : goal.returns-clause-line
returns-clause-line c =
    let nowhere = rw take_rest at c.in_default.ensures in
    let whole = unmarked c.args.text.now c.args.lines c.marks.ends.items c.marks.at c.marks.invariant nowhere in
    whole.0

pub returns-clause-fields : goal.returns-clause-fields
returns-clause-fields c =
    let nowhere = rw take_rest at c.in_default.ensures in
    let whole = unmarked c.args.text.now c.args.lines c.marks.ends.items c.marks.at c.marks.invariant nowhere in
    rw c.in_ok-push-3.ensures.items whole.1
