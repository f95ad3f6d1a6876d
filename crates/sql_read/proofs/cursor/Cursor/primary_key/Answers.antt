use Rattle.std.proofs.Common.{refl, codes}
use Rattle.mt_values.specs.declared.statement.Clause.TheVariants as clause
use Rattle.mt_values.specs.Grammar.{primary_key}
use Rattle.sql_read.specs.Parts.{key_after}
use Rattle.sql_read.proofs.Chains.{reads_stop}
use Rattle.sql_read.proofs.cursor.Cursor.primary_key.Goals as goal

pub returns-in_err-names : goal.returns-in_err-names
returns-in_err-names c =
    reads_stop primary_key (key_after (codes "PRIMARY") (codes "KEY")) (λ next names. next (clause.PrimaryKey names)) c.args.self.now c.args.self.now
    (λ next. refl)
    c.in_err-names.field-0.0 c.key_after.new.self c.in_err-names.ensures _ c.from_residual.ensures.1

pub returns : goal.returns
returns c = λ next. c.in_ok-names.ensures (λ names. next (clause.PrimaryKey names))
