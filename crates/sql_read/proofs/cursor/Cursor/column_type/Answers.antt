use Rattle.std.proofs.Common.{◌∙◌, sym}
use Rattle.sql_read.proofs.TableElements.{reads_aggregated, reads_plain}
use Rattle.sql_read.proofs.cursor.Cursor.column_type.Goals as goal

pub returns-then-at_exactly-clause-read : goal.returns-then-at_exactly-clause-read
returns-then-at_exactly-clause-read c =
    reads_aggregated c.args.self.now c.aggregated_type.result c.aggregated_type.new.self (sym c.at_exactly.ensures ∙ c.if-at_exactly.true) c.aggregated_type.ensures.read

pub returns-clause-read : goal.returns-clause-read
returns-clause-read c =
    reads_plain c.args.self.now c.plain_type.result c.plain_type.new.self (sym c.at_exactly.ensures ∙ c.if-at_exactly.false) c.plain_type.ensures.read
