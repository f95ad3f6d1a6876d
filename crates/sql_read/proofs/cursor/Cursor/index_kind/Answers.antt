use Rattle.std.proofs.Common.{◌∙◌, sym}
use Rattle.sql_read.proofs.TableElements.{reads_minmax, reads_set}
use Rattle.sql_read.proofs.cursor.Cursor.index_kind.Goals as goal

pub returns-then-at_exactly-clause-read : goal.returns-then-at_exactly-clause-read
returns-then-at_exactly-clause-read c =
    reads_minmax c.args.self.now c.minmax_kind.result c.minmax_kind.new.self (sym c.at_exactly.ensures ∙ c.if-at_exactly.true) c.minmax_kind.ensures.read

pub returns-clause-read : goal.returns-clause-read
returns-clause-read c =
    reads_set c.args.self.now c.set_kind.result c.set_kind.new.self (sym c.at_exactly.ensures ∙ c.if-at_exactly.false) c.set_kind.ensures.read
