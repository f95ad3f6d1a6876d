use Rattle.std.proofs.Common.{◌∙◌, Some, None}
use Rattle.mt_values.specs.declared.token.Symbol.TheVariants as symbol
use Rattle.mt_values.specs.Grammar.{name, optional, some_name, the}
use Rattle.mt_values.specs.Readers.{expect}
use Rattle.sql_read.proofs.Chains.{reads_stop}
use Rattle.sql_read.proofs.EngineWays.{argument_along, reads_none}
use Rattle.sql_read.proofs.cursor.Cursor.optional_name.Goals as goal

pub returns-then-not-opens_argument : goal.returns-then-not-opens_argument
returns-then-not-opens_argument c =
    reads_none None some_name c.args.self.now c.opens_argument.new.self c.opens_argument.result c.opens_argument.ensures c.if-not-opens_argument.true

pub returns-in_err-name : goal.returns-in_err-name
returns-in_err-name c =
    reads_stop (optional None some_name) (expect name) (λ next n. expect (the symbol.Close) (λ u. next (Some n))) c.args.self.now c.opens_argument.new.self
    (argument_along None some_name c.args.self.now c.opens_argument.new.self c.opens_argument.result c.opens_argument.ensures c.if-not-opens_argument.false)
    c.in_err-name.field-0.0 c.name.new.self c.in_err-name.ensures.read _ c.from_residual.ensures.1

pub returns-in_err-symbol : goal.returns-in_err-symbol
returns-in_err-symbol c =
    reads_stop (optional None some_name) (expect (the symbol.Close)) (λ next u. next (Some c.in_ok-name.name)) c.args.self.now c.name.new.self
    (λ next.
    argument_along None some_name c.args.self.now c.opens_argument.new.self c.opens_argument.result c.opens_argument.ensures c.if-not-opens_argument.false next
    ∙ c.in_ok-name.ensures.read (λ n. expect (the symbol.Close) (λ u. next (Some n))))
    c.in_err-symbol.field-0.0 c.symbol.new.self c.in_err-symbol.ensures.read _ c.from_residual-in_err-symbol.ensures.1

pub returns : goal.returns
returns c = λ next.
    argument_along None some_name c.args.self.now c.opens_argument.new.self c.opens_argument.result c.opens_argument.ensures c.if-not-opens_argument.false next
    ∙ (c.in_ok-name.ensures.read (λ n. expect (the symbol.Close) (λ u. next (Some n))) ∙ c.in_ok-symbol.ensures.read (λ u. next (Some c.in_ok-name.name)))
