use Rattle.std.proofs.Common.{◌≡◌, ◌≤◌, List, length}
use Rattle.mt_values.specs.declared.expr.Literal.{Literal}
use Rattle.mt_values.specs.declared.statement.Statement.{Statement}
use Rattle.mt_values.specs.Grammar.{list_of, literal}
use Rattle.mt_values.specs.Readers.{Reader}
use Rattle.sql_read.proofs.Listed.{items_from}
use Rattle.sql_read.proofs.cursor.Cursor.literals.Given as goal

abbrev pub invariant-literals : goal.invariant-literals
invariant-literals l = ((next : List Literal → Reader Statement) → items_from literal l.literals next l.self ≡ list_of literal next l.initial.self) × (length l.self ≤ length l.initial.self)

abbrev pub decreases-literals : goal.decreases-literals
decreases-literals l = length l.self
