use Rattle.std.proofs.Common.{◌∙◌}
use Rattle.mt_values.specs.Grammar.{compared, test}
use Rattle.sql_read.proofs.Chains.{reads_stop}
use Rattle.sql_read.proofs.cursor.Cursor.test.Goals as goal

pub returns-in_err-comparison-clause-read : goal.returns-in_err-comparison-clause-read
returns-in_err-comparison-clause-read c =
    reads_stop test compared (λ next found. next (record { column = c.in_ok-column.column; comparison = found.0; literals = found.1 })) c.args.self.now c.name.new.self
    (λ next. c.in_ok-column.ensures.read (λ column. compared (λ found. next (record { column = column; comparison = found.0; literals = found.1 }))))
    c.in_err-comparison.field-0.0 c.compared.new.self c.in_err-comparison.ensures.read _ c.from_residual-in_err-comparison.ensures.1

pub returns-clause-read : goal.returns-clause-read
returns-clause-read c = λ next.
    c.in_ok-column.ensures.read (λ column. compared (λ found. next (record { column = column; comparison = found.0; literals = found.1 })))
    ∙ c.in_ok-comparison.ensures.read (λ found. next (record { column = c.in_ok-column.column; comparison = found.0; literals = found.1 }))
