use Rattle.std.proofs.Common.{◌∙◌, []}
use Rattle.mt_values.specs.declared.token.Symbol.TheVariants as symbol
use Rattle.mt_values.specs.Grammar.{key, optional, the}
use Rattle.mt_values.specs.Readers.{expect}
use Rattle.sql_read.proofs.Chains.{reads_stop}
use Rattle.sql_read.proofs.EngineWays.{argument_along, reads_none}
use Rattle.sql_read.proofs.cursor.Cursor.optional_key.Goals as goal

pub returns-then-not-opens_argument : goal.returns-then-not-opens_argument
returns-then-not-opens_argument c =
    rw c.new.ensures (reads_none [] key c.args.self.now c.opens_argument.new.self c.opens_argument.result c.opens_argument.ensures c.if-not-opens_argument.true)

pub returns-in_err-names : goal.returns-in_err-names
returns-in_err-names c =
    reads_stop (optional [] key) key (λ next names. expect (the symbol.Close) (λ u. next names)) c.args.self.now c.opens_argument.new.self
    (argument_along [] key c.args.self.now c.opens_argument.new.self c.opens_argument.result c.opens_argument.ensures c.if-not-opens_argument.false)
    c.in_err-names.field-0.0 c.key.new.self c.in_err-names.ensures _ c.from_residual.ensures.1

pub returns-in_err-symbol : goal.returns-in_err-symbol
returns-in_err-symbol c =
    reads_stop (optional [] key) (expect (the symbol.Close)) (λ next u. next c.in_ok-names.names) c.args.self.now c.key.new.self
    (λ next.
    argument_along [] key c.args.self.now c.opens_argument.new.self c.opens_argument.result c.opens_argument.ensures c.if-not-opens_argument.false next
    ∙ c.in_ok-names.ensures (λ names. expect (the symbol.Close) (λ u. next names)))
    c.in_err-symbol.field-0.0 c.symbol.new.self c.in_err-symbol.ensures.read _ c.from_residual-in_err-symbol.ensures.1

pub returns : goal.returns
returns c = λ next.
    argument_along [] key c.args.self.now c.opens_argument.new.self c.opens_argument.result c.opens_argument.ensures c.if-not-opens_argument.false next
    ∙ (c.in_ok-names.ensures (λ names. expect (the symbol.Close) (λ u. next names)) ∙ c.in_ok-symbol.ensures.read (λ u. next c.in_ok-names.names))
