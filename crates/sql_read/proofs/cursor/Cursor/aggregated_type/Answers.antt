use Rattle.std.proofs.Common.{◌∙◌, Some, refl, codes}
use Rattle.mt_values.specs.declared.token.Symbol.TheVariants as symbol
use Rattle.mt_values.specs.Grammar.{aggregated_type, exactly, function, plain, the}
use Rattle.mt_values.specs.Readers.{expect}
use Rattle.sql_read.proofs.Chains.{reads_stop}
use Rattle.sql_read.proofs.TableElements.{aggregated_end}
use Rattle.sql_read.proofs.cursor.Cursor.aggregated_type.Goals as goal

pub returns-in_err-exactly-clause-read : goal.returns-in_err-exactly-clause-read
returns-in_err-exactly-clause-read c =
    reads_stop aggregated_type (expect (exactly (codes "SimpleAggregateFunction"))) (λ next u. expect (the symbol.Open) (λ v. expect function (aggregated_end next))) c.args.self.now c.args.self.now
    (λ next. refl)
    c.in_err-exactly.field-0.0 c.exactly.new.self c.in_err-exactly.ensures.read _ c.from_residual.ensures.1

pub returns-in_err-symbol-clause-read : goal.returns-in_err-symbol-clause-read
returns-in_err-symbol-clause-read c =
    reads_stop aggregated_type (expect (the symbol.Open)) (λ next v. expect function (aggregated_end next)) c.args.self.now c.exactly.new.self
    (λ next.
    c.in_ok-exactly.ensures.read (λ u. expect (the symbol.Open) (λ v. expect function (aggregated_end next))))
    c.in_err-symbol.field-0.0 c.symbol.new.self c.in_err-symbol.ensures.read _ c.from_residual-in_err-symbol.ensures.1

pub returns-in_err-function-clause-read : goal.returns-in_err-function-clause-read
returns-in_err-function-clause-read c =
    reads_stop aggregated_type (expect function) (λ next. aggregated_end next) c.args.self.now c.symbol.new.self
    (λ next.
    c.in_ok-exactly.ensures.read (λ u. expect (the symbol.Open) (λ v. expect function (aggregated_end next)))
    ∙ (c.in_ok-symbol.ensures.read (λ v. expect function (aggregated_end next))))
    c.in_err-function.field-0.0 c.function.new.self c.in_err-function.ensures.read _ c.from_residual-in_err-function.ensures.1

pub returns-in_err-symbol-2-clause-read : goal.returns-in_err-symbol-2-clause-read
returns-in_err-symbol-2-clause-read c =
    reads_stop aggregated_type (expect (the symbol.Comma)) (λ next u. expect plain (λ t. expect (the symbol.Close) (λ v. next (t, Some c.in_ok-function.function)))) c.args.self.now c.function.new.self
    (λ next.
    c.in_ok-exactly.ensures.read (λ u. expect (the symbol.Open) (λ v. expect function (aggregated_end next)))
    ∙ (c.in_ok-symbol.ensures.read (λ v. expect function (aggregated_end next))
    ∙ (c.in_ok-function.ensures.read (aggregated_end next))))
    c.in_err-symbol-2.field-0.0 c.symbol-2.new.self c.in_err-symbol-2.ensures.read _ c.from_residual-in_err-symbol-2.ensures.1

pub returns-in_err-col_type-clause-read : goal.returns-in_err-col_type-clause-read
returns-in_err-col_type-clause-read c =
    reads_stop aggregated_type (expect plain) (λ next t. expect (the symbol.Close) (λ v. next (t, Some c.in_ok-function.function))) c.args.self.now c.symbol-2.new.self
    (λ next.
    c.in_ok-exactly.ensures.read (λ u. expect (the symbol.Open) (λ v. expect function (aggregated_end next)))
    ∙ (c.in_ok-symbol.ensures.read (λ v. expect function (aggregated_end next))
    ∙ (c.in_ok-function.ensures.read (aggregated_end next)
    ∙ (c.in_ok-symbol-2.ensures.read (λ u. expect plain (λ t. expect (the symbol.Close) (λ v. next (t, Some c.in_ok-function.function))))))))
    c.in_err-col_type.field-0.0 c.plain.new.self c.in_err-col_type.ensures.read _ c.from_residual-in_err-col_type.ensures.1

pub returns-in_err-symbol-3-clause-read : goal.returns-in_err-symbol-3-clause-read
returns-in_err-symbol-3-clause-read c =
    reads_stop aggregated_type (expect (the symbol.Close)) (λ next v. next (c.in_ok-col_type.col_type, Some c.in_ok-function.function)) c.args.self.now c.plain.new.self
    (λ next.
    c.in_ok-exactly.ensures.read (λ u. expect (the symbol.Open) (λ v. expect function (aggregated_end next)))
    ∙ (c.in_ok-symbol.ensures.read (λ v. expect function (aggregated_end next))
    ∙ (c.in_ok-function.ensures.read (aggregated_end next)
    ∙ (c.in_ok-symbol-2.ensures.read (λ u. expect plain (λ t. expect (the symbol.Close) (λ v. next (t, Some c.in_ok-function.function))))
    ∙ (c.in_ok-col_type.ensures.read (λ t. expect (the symbol.Close) (λ v. next (t, Some c.in_ok-function.function))))))))
    c.in_err-symbol-3.field-0.0 c.symbol-3.new.self c.in_err-symbol-3.ensures.read _ c.from_residual-in_err-symbol-3.ensures.1

pub returns-clause-read : goal.returns-clause-read
returns-clause-read c = λ next.
    c.in_ok-exactly.ensures.read (λ u. expect (the symbol.Open) (λ v. expect function (aggregated_end next)))
    ∙ (c.in_ok-symbol.ensures.read (λ v. expect function (aggregated_end next))
    ∙ (c.in_ok-function.ensures.read (aggregated_end next)
    ∙ (c.in_ok-symbol-2.ensures.read (λ u. expect plain (λ t. expect (the symbol.Close) (λ v. next (t, Some c.in_ok-function.function))))
    ∙ (c.in_ok-col_type.ensures.read (λ t. expect (the symbol.Close) (λ v. next (t, Some c.in_ok-function.function)))
    ∙ (c.in_ok-symbol-3.ensures.read (λ v. next (c.in_ok-col_type.col_type, Some c.in_ok-function.function)))))))
