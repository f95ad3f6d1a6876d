use Rattle.std.proofs.Common.{◌∙◌, refl, codes}
use Rattle.mt_values.specs.declared.statement.EngineText.TheVariants as engine_text
use Rattle.mt_values.specs.declared.token.Symbol.TheVariants as symbol
use Rattle.mt_values.specs.Grammar.{collapsing_engine, exactly, name, the}
use Rattle.mt_values.specs.Readers.{expect}
use Rattle.sql_read.proofs.Chains.{reads_stop}
use Rattle.sql_read.proofs.cursor.Cursor.collapsing_engine.Goals as goal

pub returns-in_err-exactly : goal.returns-in_err-exactly
returns-in_err-exactly c =
    reads_stop collapsing_engine (expect (exactly (codes "CollapsingMergeTree"))) (λ next u. expect (the symbol.Open) (λ v. expect name (λ n. expect (the symbol.Close) (λ w. next (engine_text.Collapsing n))))) c.args.self.now c.args.self.now (λ next. refl)
    c.in_err-exactly.field-0.0 c.exactly.new.self c.in_err-exactly.ensures.read _ c.from_residual.ensures.1

pub returns-in_err-symbol : goal.returns-in_err-symbol
returns-in_err-symbol c =
    reads_stop collapsing_engine (expect (the symbol.Open)) (λ next u. expect name (λ n. expect (the symbol.Close) (λ v. next (engine_text.Collapsing n)))) c.args.self.now c.exactly.new.self
    (λ next. c.in_ok-exactly.ensures.read (λ u. expect (the symbol.Open) (λ v. expect name (λ n. expect (the symbol.Close) (λ w. next (engine_text.Collapsing n))))))
    c.in_err-symbol.field-0.0 c.symbol.new.self c.in_err-symbol.ensures.read _ c.from_residual-in_err-symbol.ensures.1

pub returns-in_err-sign : goal.returns-in_err-sign
returns-in_err-sign c =
    reads_stop collapsing_engine (expect name) (λ next n. expect (the symbol.Close) (λ v. next (engine_text.Collapsing n))) c.args.self.now c.symbol.new.self
    (λ next.
    c.in_ok-exactly.ensures.read (λ u. expect (the symbol.Open) (λ v. expect name (λ n. expect (the symbol.Close) (λ w. next (engine_text.Collapsing n)))))
    ∙ c.in_ok-symbol.ensures.read (λ v. expect name (λ n. expect (the symbol.Close) (λ w. next (engine_text.Collapsing n)))))
    c.in_err-sign.field-0.0 c.name.new.self c.in_err-sign.ensures.read _ c.from_residual-in_err-sign.ensures.1

pub returns-in_err-symbol-2 : goal.returns-in_err-symbol-2
returns-in_err-symbol-2 c =
    reads_stop collapsing_engine (expect (the symbol.Close)) (λ next v. next (engine_text.Collapsing c.in_ok-sign.sign)) c.args.self.now c.name.new.self
    (λ next.
    c.in_ok-exactly.ensures.read (λ u. expect (the symbol.Open) (λ v. expect name (λ n. expect (the symbol.Close) (λ w. next (engine_text.Collapsing n)))))
    ∙ (c.in_ok-symbol.ensures.read (λ v. expect name (λ n. expect (the symbol.Close) (λ w. next (engine_text.Collapsing n))))
    ∙ c.in_ok-sign.ensures.read (λ n. expect (the symbol.Close) (λ w. next (engine_text.Collapsing n)))))
    c.in_err-symbol-2.field-0.0 c.symbol-2.new.self c.in_err-symbol-2.ensures.read _ c.from_residual-in_err-symbol-2.ensures.1

pub returns : goal.returns
returns c = λ next.
    c.in_ok-exactly.ensures.read (λ u. expect (the symbol.Open) (λ v. expect name (λ n. expect (the symbol.Close) (λ w. next (engine_text.Collapsing n)))))
    ∙ (c.in_ok-symbol.ensures.read (λ v. expect name (λ n. expect (the symbol.Close) (λ w. next (engine_text.Collapsing n))))
    ∙ (c.in_ok-sign.ensures.read (λ n. expect (the symbol.Close) (λ w. next (engine_text.Collapsing n)))
    ∙ c.in_ok-symbol-2.ensures.read (λ w. next (engine_text.Collapsing c.in_ok-sign.sign))))
