use Rattle.std.proofs.Common.{◌∙◌, None}
use Rattle.mt_values.specs.declared.statement.EngineText.TheVariants as engine_text
use Rattle.mt_values.specs.Grammar.{optional, replacing_engine, some_name}
use Rattle.sql_read.proofs.Chains.{reads_stop}
use Rattle.sql_read.proofs.cursor.Cursor.replacing_engine.Goals as goal

pub returns-in_err-version : goal.returns-in_err-version
returns-in_err-version c =
    reads_stop replacing_engine (optional None some_name) (λ next version. next (engine_text.Replacing version)) c.args.self.now c.exactly.new.self
    (λ next. c.in_ok-exactly.ensures.read (λ u. optional None some_name (λ version. next (engine_text.Replacing version))))
    c.in_err-version.field-0.0 c.optional_name.new.self c.in_err-version.ensures _ c.from_residual-in_err-version.ensures.1

pub returns : goal.returns
returns c = λ next.
    c.in_ok-exactly.ensures.read (λ u. optional None some_name (λ version. next (engine_text.Replacing version))) ∙ c.in_ok-version.ensures (λ version. next (engine_text.Replacing version))
