use Rattle.std.proofs.Common.{◌∙◌, []}
use Rattle.mt_values.specs.declared.statement.EngineText.TheVariants as engine_text
use Rattle.mt_values.specs.Grammar.{key, optional, summing_engine}
use Rattle.sql_read.proofs.Chains.{reads_stop}
use Rattle.sql_read.proofs.cursor.Cursor.summing_engine.Goals as goal

pub returns-in_err-names : goal.returns-in_err-names
returns-in_err-names c =
    reads_stop summing_engine (optional [] key) (λ next names. next (engine_text.Summing names)) c.args.self.now c.exactly.new.self
    (λ next. c.in_ok-exactly.ensures.read (λ u. optional [] key (λ names. next (engine_text.Summing names))))
    c.in_err-names.field-0.0 c.optional_key.new.self c.in_err-names.ensures _ c.from_residual-in_err-names.ensures.1

pub returns : goal.returns
returns c = λ next.
    c.in_ok-exactly.ensures.read (λ u. optional [] key (λ names. next (engine_text.Summing names))) ∙ c.in_ok-names.ensures (λ names. next (engine_text.Summing names))
