use Rattle.std.proofs.Common.{◌≡◌, List, length}
use Rattle.mt_values.specs.declared.statement.Element.{Element}
use Rattle.mt_values.specs.declared.statement.Statement.{Statement}
use Rattle.mt_values.specs.Grammar.{list_of, table_element}
use Rattle.mt_values.specs.Readers.{Reader}
use Rattle.sql_read.proofs.Listed.{items_from}
use Rattle.sql_read.proofs.cursor.Cursor.elements.Given as goal

abbrev pub invariant-elements : goal.invariant-elements
invariant-elements l = (next : List Element → Reader Statement) → items_from table_element l.elements next l.self ≡ list_of table_element next l.initial.self

abbrev pub decreases-elements : goal.decreases-elements
decreases-elements l = length l.self
