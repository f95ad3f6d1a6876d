use Rattle.std.proofs.Common.{None, refl}
use Rattle.mt_values.specs.Grammar.{plain, plain_type}
use Rattle.mt_values.specs.Readers.{expect}
use Rattle.sql_read.proofs.Chains.{reads_stop}
use Rattle.sql_read.proofs.cursor.Cursor.plain_type.Goals as goal

pub returns-in_err-col_type-clause-read : goal.returns-in_err-col_type-clause-read
returns-in_err-col_type-clause-read c =
    reads_stop plain_type (expect plain) (λ next t. next (t, None)) c.args.self.now c.args.self.now (λ next. refl)
    c.in_err-col_type.field-0.0 c.plain.new.self c.in_err-col_type.ensures.read _ c.from_residual.ensures.1

pub returns-clause-read : goal.returns-clause-read
returns-clause-read c = λ next. c.in_ok-col_type.ensures.read (λ t. next (t, None))
