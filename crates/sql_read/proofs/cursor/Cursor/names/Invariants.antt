use Rattle.std.proofs.Common.{◌≡◌, ℕ, List, length}
use Rattle.mt_values.specs.declared.statement.Statement.{Statement}
use Rattle.mt_values.specs.Grammar.{list_of, one_name}
use Rattle.mt_values.specs.Readers.{Reader}
use Rattle.sql_read.proofs.Listed.{items_from}
use Rattle.sql_read.proofs.cursor.Cursor.names.Given as goal

abbrev pub invariant-names : goal.invariant-names
invariant-names l = (next : List (List ℕ) → Reader Statement) → items_from one_name l.names next l.self ≡ list_of one_name next l.initial.self

abbrev pub decreases-names : goal.decreases-names
decreases-names l = length l.self
