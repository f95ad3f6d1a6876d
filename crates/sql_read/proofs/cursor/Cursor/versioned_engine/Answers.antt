use Rattle.std.proofs.Common.{◌∙◌, List, ℕ}
use Rattle.mt_values.specs.declared.statement.EngineText.{EngineText}
use Rattle.mt_values.specs.declared.statement.EngineText.TheVariants as engine_text
use Rattle.mt_values.specs.declared.statement.Statement.{Statement}
use Rattle.mt_values.specs.declared.token.Symbol.TheVariants as symbol
use Rattle.mt_values.specs.Grammar.{the, two_names, versioned_engine}
use Rattle.mt_values.specs.Readers.{Reader, expect}
use Rattle.sql_read.proofs.Chains.{reads_stop}
use Rattle.sql_read.proofs.cursor.Cursor.versioned_engine.Goals as goal

-- what follows the names
abbrev said : (EngineText → Reader Statement) → List ℕ × List ℕ → Reader Statement
said next names = expect (the symbol.Close) (λ w. next (engine_text.Versioned names.0 names.1))

pub returns-in_err-symbol : goal.returns-in_err-symbol
returns-in_err-symbol c =
    reads_stop versioned_engine (expect (the symbol.Open)) (λ next u. two_names (said next)) c.args.self.now c.exactly.new.self
    (λ next. c.in_ok-exactly.ensures.read (λ u. expect (the symbol.Open) (λ v. two_names (said next))))
    c.in_err-symbol.field-0.0 c.symbol.new.self c.in_err-symbol.ensures.read _ c.from_residual-in_err-symbol.ensures.1

pub returns-in_err-sign : goal.returns-in_err-sign
returns-in_err-sign c =
    reads_stop versioned_engine two_names said c.args.self.now c.symbol.new.self
    (λ next. c.in_ok-exactly.ensures.read (λ u. expect (the symbol.Open) (λ v. two_names (said next))) ∙ c.in_ok-symbol.ensures.read (λ v. two_names (said next)))
    c.in_err-sign.field-0.0 c.two_names.new.self c.in_err-sign.ensures _ c.from_residual-in_err-sign.ensures.1

pub returns-in_err-symbol-2 : goal.returns-in_err-symbol-2
returns-in_err-symbol-2 c =
    reads_stop versioned_engine (expect (the symbol.Close)) (λ next v. next (engine_text.Versioned c.in_ok-sign.sign c.in_ok-sign.version)) c.args.self.now c.two_names.new.self
    (λ next.
    c.in_ok-exactly.ensures.read (λ u. expect (the symbol.Open) (λ v. two_names (said next)))
    ∙ (c.in_ok-symbol.ensures.read (λ v. two_names (said next)) ∙ c.in_ok-sign.ensures (said next)))
    c.in_err-symbol-2.field-0.0 c.symbol-2.new.self c.in_err-symbol-2.ensures.read _ c.from_residual-in_err-symbol-2.ensures.1

pub returns : goal.returns
returns c = λ next.
    c.in_ok-exactly.ensures.read (λ u. expect (the symbol.Open) (λ v. two_names (said next)))
    ∙ (c.in_ok-symbol.ensures.read (λ v. two_names (said next))
    ∙ (c.in_ok-sign.ensures (said next)
    ∙ c.in_ok-symbol-2.ensures.read (λ w. next (engine_text.Versioned c.in_ok-sign.sign c.in_ok-sign.version))))
