use Rattle.std.proofs.Common.{◌∙◌}
use Rattle.mt_values.specs.declared.expr.LiteralText.TheVariants as literal_text
use Rattle.mt_values.specs.Grammar.{number, number_at}
use Rattle.mt_values.specs.Readers.{expect}
use Rattle.sql_read.proofs.Chains.{reads_stop}
use Rattle.sql_read.proofs.cursor.Cursor.number_at.Goals as goal

pub returns-in_err-digits-clause-read : goal.returns-in_err-digits-clause-read
returns-in_err-digits-clause-read c =
    reads_stop (number_at c.args.at) (expect number) (λ next digits. next (record { at = c.args.at; text = literal_text.Number c.sign-negative.result digits })) c.args.self.now c.sign-negative.new.self
    (λ next. c.sign-negative.ensures.read (λ b. expect number (λ digits. next (record { at = c.args.at; text = literal_text.Number b digits }))))
    c.in_err-digits.field-0.0 c.number.new.self c.in_err-digits.ensures.read _ c.from_residual.ensures.1

pub returns-clause-read : goal.returns-clause-read
returns-clause-read c = λ next.
    c.sign-negative.ensures.read (λ b. expect number (λ digits. next (record { at = c.args.at; text = literal_text.Number b digits })))
    ∙ c.in_ok-digits.ensures.read (λ digits. next (record { at = c.args.at; text = literal_text.Number c.sign-negative.result digits }))
