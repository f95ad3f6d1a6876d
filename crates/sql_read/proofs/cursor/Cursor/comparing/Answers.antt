use Rattle.std.proofs.Common.{◌∙◌, ◌∷◌, []}
use Rattle.mt_values.specs.Grammar.{comparing, literal}
use Rattle.sql_read.proofs.Chains.{reads_stop}
use Rattle.sql_read.proofs.cursor.Cursor.comparing.Goals as goal

pub returns-in_err-literal-clause-read : goal.returns-in_err-literal-clause-read
returns-in_err-literal-clause-read c =
    reads_stop comparing literal (λ next l. next (c.in_ok-comparison.comparison, l ∷ [])) c.args.self.now c.operator.new.self
    (λ next. c.in_ok-comparison.ensures.read (λ found. literal (λ l. next (found, l ∷ []))))
    c.in_err-literal.field-0.0 c.literal.new.self c.in_err-literal.ensures.read _ c.from_residual-in_err-literal.ensures.1

pub returns-clause-read : goal.returns-clause-read
returns-clause-read c =
    rw (c.in_ok-push.ensures.ok, c.new-literals.ensures)
    (λ next.
    c.in_ok-comparison.ensures.read (λ found. literal (λ l. next (found, l ∷ [])))
    ∙ c.in_ok-literal.ensures.read (λ l. next (c.in_ok-comparison.comparison, l ∷ [])))
