-- What the grammar gives the statements of each script (docs/definitions.md, "Histories").
use Rattle.std.specs.Prelude.{◌≡◌, ◌++◌, ℕ, List, [], true, false, Some, Ok, Err, codes}
use Rattle.std.specs.List.{list_all}
use Rattle.mt_values.specs.declared.statement.CreateText.{CreateText}
use Rattle.mt_values.specs.declared.statement.Statement.{Statement}
use Rattle.mt_values.specs.declared.statement.Statement.TheVariants as statement
use Rattle.mt_values.specs.Tokens.{in_word, word_begins}
use Rattle.mt_values.specs.Grammar.{is_reserved}
use Rattle.mt_values.specs.Script.{Item, next_statement}
use Rattle.mt_model.specs.Clauses.{NamesKeys}

-- a name as the grammar has it: a letter or an underscore, then letters, digits and underscores, and no reserved word
pub record IsName (name : List ℕ) : Type 0 where
  pub begins : word_begins name ≡ true
  pub goes_on : list_all in_word name ≡ true
  pub free : is_reserved name ≡ false

-- what the grammar gives a CREATE: it names at least one column in each of its keys, its table's name is a name, and its text, with a semicolon after it, is read as it alone
pub record IsCreateText (c : CreateText) : Type 0 where
  pub keys : NamesKeys c.clauses
  pub named : IsName c.table
  pub again : next_statement (c.text ++ codes ";") ≡ Some (Ok (statement.Create c), [])

-- what it gives a statement
abbrev pub IsStatementText : Statement → Type 0
IsStatementText (statement.Create c) = IsCreateText c
IsStatementText (statement.Insert i) = Unit {0}
IsStatementText (statement.Select s) = Unit {0}
IsStatementText (statement.Explain s) = Unit {0}
IsStatementText (statement.Optimize o) = Unit {0}

-- so it is of a text that is a statement
abbrev pub IsWritten : Item → Type 0
IsWritten (Ok s) = IsStatementText s
IsWritten (Err why) = Unit {0}
