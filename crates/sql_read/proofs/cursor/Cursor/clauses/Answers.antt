use Rattle.std.proofs.Common.{Err, List, refl, subst}
use Rattle.mt_values.specs.declared.statement.Clause.{Clause}
use Rattle.sql_read.specs.Parts.{next_clause}
use Rattle.sql_read.specs.Reads.{Reads}
use Rattle.sql_read.proofs.NextClauses.{clause_stops, clauses_all, clauses_more, clauses_over}
use Rattle.sql_read.proofs.cursor.Cursor.clauses.Goals as goal

pub loop-count-init : goal.loop-count-init
loop-count-init c = rw c.new-seen.ensures (λ next. refl)

pub returns-in_err-clause : goal.returns-in_err-clause
returns-in_err-clause c =
    clause_stops c.loop-count.count c.loop-count.seen c.args.self.now c.loop-count.self c.loop-count.invariant c.loop-count-test.true c.next_clause.new.self
    c.in_err-clause.field-0.0 (subst (λ (seen : List Clause). Reads (next_clause seen) c.loop-count.self (Err c.in_err-clause.field-0.0) c.next_clause.new.self) c.as_slice.ensures c.in_err-clause.ensures) _ c.from_residual.ensures.1

pub returns-in-None : goal.returns-in-None
returns-in-None c =
    clauses_over c.loop-count.count c.loop-count.seen c.args.self.now c.loop-count.self c.loop-count.invariant c.loop-count-test.true c.next_clause.new.self
    (rw c.in-None.is at (rw c.as_slice.ensures at c.in_ok-clause.ensures))

pub loop-count-preserved : goal.loop-count-preserved
loop-count-preserved c =
    rw c.in_ok-push-in-Some.ensures.ok
    (clauses_more c.loop-count.count c.loop-count.seen c.args.self.now c.loop-count.self c.loop-count.invariant c.loop-count-test.true c.next_clause.new.self
    c.in-Some.clause (rw c.in-Some.is at (rw c.as_slice.ensures at c.in_ok-clause.ensures)))

pub returns : goal.returns
returns c = clauses_all c.loop-count.count c.loop-count.seen c.args.self.now c.loop-count.self c.loop-count.invariant c.loop-count-test.false
