use Rattle.std.proofs.Common.{◌∙◌}
use Rattle.mt_values.specs.declared.token.Symbol.TheVariants as symbol
use Rattle.mt_values.specs.Grammar.{name, the, two_names}
use Rattle.mt_values.specs.Readers.{expect}
use Rattle.sql_read.proofs.Chains.{reads_stop}
use Rattle.sql_read.proofs.cursor.Cursor.two_names.Goals as goal

pub returns-in_err-symbol : goal.returns-in_err-symbol
returns-in_err-symbol c =
    reads_stop two_names (expect (the symbol.Comma)) (λ next u. expect name (λ n. next (c.in_ok-first.first, n))) c.args.self.now c.name.new.self
    (λ next. c.in_ok-first.ensures.read (λ m. expect (the symbol.Comma) (λ u. expect name (λ n. next (m, n)))))
    c.in_err-symbol.field-0.0 c.symbol.new.self c.in_err-symbol.ensures.read _ c.from_residual-in_err-symbol.ensures.1

pub returns-in_err-second : goal.returns-in_err-second
returns-in_err-second c =
    reads_stop two_names (expect name) (λ next n. next (c.in_ok-first.first, n)) c.args.self.now c.symbol.new.self
    (λ next.
    c.in_ok-first.ensures.read (λ m. expect (the symbol.Comma) (λ u. expect name (λ n. next (m, n))))
    ∙ c.in_ok-symbol.ensures.read (λ u. expect name (λ n. next (c.in_ok-first.first, n))))
    c.in_err-second.field-0.0 c.name-2.new.self c.in_err-second.ensures.read _ c.from_residual-in_err-second.ensures.1

pub returns : goal.returns
returns c = λ next.
    c.in_ok-first.ensures.read (λ m. expect (the symbol.Comma) (λ u. expect name (λ n. next (m, n))))
    ∙ (c.in_ok-symbol.ensures.read (λ u. expect name (λ n. next (c.in_ok-first.first, n))) ∙ c.in_ok-second.ensures.read (λ n. next (c.in_ok-first.first, n)))
