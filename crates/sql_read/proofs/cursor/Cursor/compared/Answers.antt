use Rattle.std.proofs.Common.{◌∙◌, sym}
use Rattle.sql_read.proofs.Terms.{reads_comparing, reads_membership}
use Rattle.sql_read.proofs.cursor.Cursor.compared.Goals as goal

pub returns-then-at_keyword-clause-read : goal.returns-then-at_keyword-clause-read
returns-then-at_keyword-clause-read c =
    reads_membership c.args.self.now c.membership.result c.membership.new.self (sym c.at_keyword.ensures ∙ c.if-at_keyword.true) c.membership.ensures.read

pub returns-clause-read : goal.returns-clause-read
returns-clause-read c =
    reads_comparing c.args.self.now c.comparing.result c.comparing.new.self (sym c.at_keyword.ensures ∙ c.if-at_keyword.false) c.comparing.ensures.read
