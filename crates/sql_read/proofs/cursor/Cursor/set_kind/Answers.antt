use Rattle.std.proofs.Common.{◌∙◌}
use Rattle.mt_values.specs.declared.statement.KindText.TheVariants as kind
use Rattle.mt_values.specs.declared.token.Symbol.TheVariants as symbol
use Rattle.mt_values.specs.Grammar.{number, set_kind, the}
use Rattle.mt_values.specs.Readers.{expect}
use Rattle.sql_read.proofs.Chains.{reads_stop}
use Rattle.sql_read.proofs.cursor.Cursor.set_kind.Goals as goal

pub returns-in_err-symbol-clause-read : goal.returns-in_err-symbol-clause-read
returns-in_err-symbol-clause-read c =
    reads_stop set_kind (expect (the symbol.Open)) (λ next u. expect number (λ digits. expect (the symbol.Close) (λ v. next (kind.Set digits)))) c.args.self.now c.exactly.new.self
    (λ next. c.in_ok-exactly.ensures.read (λ u. expect (the symbol.Open) (λ v. expect number (λ digits. expect (the symbol.Close) (λ w. next (kind.Set digits))))))
    c.in_err-symbol.field-0.0 c.symbol.new.self c.in_err-symbol.ensures.read _ c.from_residual-in_err-symbol.ensures.1

pub returns-in_err-digits-clause-read : goal.returns-in_err-digits-clause-read
returns-in_err-digits-clause-read c =
    reads_stop set_kind (expect number) (λ next digits. expect (the symbol.Close) (λ v. next (kind.Set digits))) c.args.self.now c.symbol.new.self
    (λ next.
    c.in_ok-exactly.ensures.read (λ u. expect (the symbol.Open) (λ v. expect number (λ digits. expect (the symbol.Close) (λ w. next (kind.Set digits)))))
    ∙ c.in_ok-symbol.ensures.read (λ v. expect number (λ digits. expect (the symbol.Close) (λ w. next (kind.Set digits)))))
    c.in_err-digits.field-0.0 c.number.new.self c.in_err-digits.ensures.read _ c.from_residual-in_err-digits.ensures.1

pub returns-in_err-symbol-2-clause-read : goal.returns-in_err-symbol-2-clause-read
returns-in_err-symbol-2-clause-read c =
    reads_stop set_kind (expect (the symbol.Close)) (λ next v. next (kind.Set c.in_ok-digits.digits)) c.args.self.now c.number.new.self
    (λ next.
    c.in_ok-exactly.ensures.read (λ u. expect (the symbol.Open) (λ v. expect number (λ digits. expect (the symbol.Close) (λ w. next (kind.Set digits)))))
    ∙ (c.in_ok-symbol.ensures.read (λ v. expect number (λ digits. expect (the symbol.Close) (λ w. next (kind.Set digits))))
    ∙ c.in_ok-digits.ensures.read (λ digits. expect (the symbol.Close) (λ w. next (kind.Set digits)))))
    c.in_err-symbol-2.field-0.0 c.symbol-2.new.self c.in_err-symbol-2.ensures.read _ c.from_residual-in_err-symbol-2.ensures.1

pub returns-clause-read : goal.returns-clause-read
returns-clause-read c = λ next.
    c.in_ok-exactly.ensures.read (λ u. expect (the symbol.Open) (λ v. expect number (λ digits. expect (the symbol.Close) (λ w. next (kind.Set digits)))))
    ∙ (c.in_ok-symbol.ensures.read (λ v. expect number (λ digits. expect (the symbol.Close) (λ w. next (kind.Set digits))))
    ∙ (c.in_ok-digits.ensures.read (λ digits. expect (the symbol.Close) (λ w. next (kind.Set digits)))
    ∙ c.in_ok-symbol-2.ensures.read (λ w. next (kind.Set c.in_ok-digits.digits))))
