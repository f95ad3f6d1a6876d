use Rattle.std.proofs.Common.{◌∙◌, codes}
use Rattle.mt_values.specs.declared.statement.Clause.TheVariants as clause
use Rattle.mt_values.specs.declared.token.Symbol.TheVariants as symbol
use Rattle.mt_values.specs.Grammar.{exactly, number, settings, the}
use Rattle.mt_values.specs.Readers.{expect}
use Rattle.sql_read.proofs.Chains.{reads_stop}
use Rattle.sql_read.proofs.cursor.Cursor.settings.Goals as goal

pub returns-in_err-exactly : goal.returns-in_err-exactly
returns-in_err-exactly c =
    reads_stop settings (expect (exactly (codes "index_granularity"))) (λ next u. expect (the symbol.Equal) (λ v. expect number (λ digits. next (clause.Granularity digits)))) c.args.self.now c.keyword.new.self
    (λ next. c.in_ok-keyword.ensures.read _)
    c.in_err-exactly.field-0.0 c.exactly.new.self c.in_err-exactly.ensures.read _ c.from_residual-in_err-exactly.ensures.1

pub returns-in_err-symbol : goal.returns-in_err-symbol
returns-in_err-symbol c =
    reads_stop settings (expect (the symbol.Equal)) (λ next u. expect number (λ digits. next (clause.Granularity digits))) c.args.self.now c.exactly.new.self
    (λ next. c.in_ok-keyword.ensures.read _ ∙ c.in_ok-exactly.ensures.read _)
    c.in_err-symbol.field-0.0 c.symbol.new.self c.in_err-symbol.ensures.read _ c.from_residual-in_err-symbol.ensures.1

pub returns-in_err-digits : goal.returns-in_err-digits
returns-in_err-digits c =
    reads_stop settings (expect number) (λ next digits. next (clause.Granularity digits)) c.args.self.now c.symbol.new.self
    (λ next. c.in_ok-keyword.ensures.read _ ∙ (c.in_ok-exactly.ensures.read _ ∙ c.in_ok-symbol.ensures.read _))
    c.in_err-digits.field-0.0 c.number.new.self c.in_err-digits.ensures.read _ c.from_residual-in_err-digits.ensures.1

pub returns : goal.returns
returns c = λ next.
    c.in_ok-keyword.ensures.read _
    ∙ (c.in_ok-exactly.ensures.read _ ∙ (c.in_ok-symbol.ensures.read _ ∙ c.in_ok-digits.ensures.read (λ digits. next (clause.Granularity digits))))
