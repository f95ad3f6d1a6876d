use Rattle.std.proofs.Common.{codes, refl}
use Rattle.mt_values.specs.declared.statement.KindText.TheVariants as kind
use Rattle.mt_values.specs.Grammar.{exactly}
use Rattle.mt_values.specs.Readers.{expect}
use Rattle.sql_read.specs.Parts.{minmax_kind}
use Rattle.sql_read.proofs.Chains.{reads_stop}
use Rattle.sql_read.proofs.cursor.Cursor.minmax_kind.Goals as goal

pub returns-in_err-exactly-clause-read : goal.returns-in_err-exactly-clause-read
returns-in_err-exactly-clause-read c =
    reads_stop minmax_kind (expect (exactly (codes "minmax"))) (λ next u. next kind.MinMax) c.args.self.now c.args.self.now (λ next. refl)
    c.in_err-exactly.field-0.0 c.exactly.new.self c.in_err-exactly.ensures.read _ c.from_residual.ensures.1

pub returns-clause-read : goal.returns-clause-read
returns-clause-read c = λ next. c.in_ok-exactly.ensures.read (λ u. next kind.MinMax)
