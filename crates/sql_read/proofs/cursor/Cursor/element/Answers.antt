use Rattle.std.proofs.Common.{◌∙◌, sym}
use Rattle.sql_read.proofs.TableElements.{reads_column, reads_index}
use Rattle.sql_read.proofs.cursor.Cursor.element.Goals as goal

pub returns-then-at_keyword-clause-read : goal.returns-then-at_keyword-clause-read
returns-then-at_keyword-clause-read c =
    reads_index c.args.self.now c.index.result c.index.new.self (sym c.at_keyword.ensures ∙ c.if-at_keyword.true) c.index.ensures.read

pub returns-clause-read : goal.returns-clause-read
returns-clause-read c =
    reads_column c.args.self.now c.column.result c.column.new.self (sym c.at_keyword.ensures ∙ c.if-at_keyword.false) c.column.ensures.read
