use Rattle.std.proofs.Common.{◌∙◌, sym}
use Rattle.sql_read.proofs.Terms.{reads_number, reads_text}
use Rattle.sql_read.proofs.cursor.Cursor.literal.Goals as goal

pub returns-then-at_text-clause-read : goal.returns-then-at_text-clause-read
returns-then-at_text-clause-read c =
    reads_text c.args.self.now c.place-at.result c.place-at.ensures c.text_at.result c.text_at.new.self (sym c.at_text.ensures ∙ c.if-at_text.true) c.text_at.ensures.read

pub returns-clause-read : goal.returns-clause-read
returns-clause-read c =
    reads_number c.args.self.now c.place-at.result c.place-at.ensures c.number_at.result c.number_at.new.self (sym c.at_text.ensures ∙ c.if-at_text.false) c.number_at.ensures.read
