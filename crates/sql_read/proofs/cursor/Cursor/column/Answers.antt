use Rattle.std.proofs.Common.{◌∙◌}
use Rattle.mt_values.specs.Grammar.{column, column_type}
use Rattle.sql_read.proofs.Chains.{reads_stop}
use Rattle.sql_read.proofs.TableElements.{column_said}
use Rattle.sql_read.proofs.cursor.Cursor.column.Goals as goal

pub returns-in_err-col_type-clause-read : goal.returns-in_err-col_type-clause-read
returns-in_err-col_type-clause-read c =
    reads_stop column column_type (λ next t. next (column_said c.in_ok-name.name t)) c.args.self.now c.name.new.self
    (λ next. c.in_ok-name.ensures.read (λ n. column_type (λ t. next (column_said n t))))
    c.in_err-col_type.field-0.0 c.column_type.new.self c.in_err-col_type.ensures.read _ c.from_residual-in_err-col_type.ensures.1

pub returns-clause-read : goal.returns-clause-read
returns-clause-read c = λ next.
    c.in_ok-name.ensures.read (λ n. column_type (λ t. next (column_said n t)))
    ∙ c.in_ok-col_type.ensures.read (λ t. next (column_said c.in_ok-name.name t))
