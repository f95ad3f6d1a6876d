use Rattle.std.proofs.Common.{◌∙◌}
use Rattle.mt_values.specs.declared.statement.EngineText.TheVariants as engine_text
use Rattle.mt_values.specs.Grammar.{aggregating_engine}
use Rattle.sql_read.specs.Parts.{empty_arguments}
use Rattle.sql_read.proofs.Chains.{reads_stop}
use Rattle.sql_read.proofs.cursor.Cursor.aggregating_engine.Goals as goal

pub returns-in_err-empty_arguments : goal.returns-in_err-empty_arguments
returns-in_err-empty_arguments c =
    reads_stop aggregating_engine empty_arguments (λ next u. next engine_text.Aggregating) c.args.self.now c.exactly.new.self
    (λ next. c.in_ok-exactly.ensures.read (λ u. empty_arguments (λ v. next engine_text.Aggregating)))
    c.in_err-empty_arguments.field-0.0 c.empty_arguments.new.self c.in_err-empty_arguments.ensures _ c.from_residual-in_err-empty_arguments.ensures.1

pub returns : goal.returns
returns c = λ next.
    c.in_ok-exactly.ensures.read (λ u. empty_arguments (λ v. next engine_text.Aggregating)) ∙ c.in_ok-empty_arguments.ensures (λ v. next engine_text.Aggregating)
