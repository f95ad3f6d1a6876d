-- at most so many clauses as are left may come after those that were read
use Rattle.std.proofs.Common.{◌≡◌, ◌-◌, List}
use Rattle.mt_values.specs.declared.statement.Clause.{Clause}
use Rattle.mt_values.specs.declared.statement.Statement.{Statement}
use Rattle.mt_values.specs.Grammar.{clauses, clauses_within}
use Rattle.mt_values.specs.Readers.{Reader}
use Rattle.sql_read.proofs.cursor.Cursor.clauses.Given as goal

abbrev pub invariant-loop-count : goal.invariant-loop-count
invariant-loop-count l = (next : List Clause → Reader Statement) → clauses_within (4 - l.count) l.seen next l.self ≡ clauses next l.initial.self
