use Rattle.std.proofs.Common.{◌∙◌, refl}
use Rattle.mt_values.specs.declared.statement.Statement.TheVariants as statement
use Rattle.mt_values.specs.Grammar.{ends, select, select_text}
use Rattle.sql_read.proofs.Chains.{is_read_end, is_read_stop}
use Rattle.sql_read.proofs.cursor.Cursor.select.Goals as goal

pub returns-in_err-asked : goal.returns-in_err-asked
returns-in_err-asked c =
    is_read_stop select select_text (λ asked. ends (statement.Select asked)) c.args.self.now c.args.self.now
    (refl)
    c.in_err-asked.field-0.0 c.select_text.new.self c.in_err-asked.ensures _ c.from_residual.ensures.1

pub returns-in_err-end : goal.returns-in_err-end
returns-in_err-end c =
    is_read_end select (statement.Select c.in_ok-asked.asked) c.args.self.now c.select_text.new.self
    (c.in_ok-asked.ensures (λ asked. ends (statement.Select asked)))
    c.in_err-end.field-0.0 c.end.new.self c.in_err-end.ensures _ c.from_residual-in_err-end.ensures.1

pub returns : goal.returns
returns c = c.in_ok-asked.ensures (λ asked. ends (statement.Select asked)) ∙ c.in_ok-end.ensures (statement.Select c.in_ok-asked.asked)
