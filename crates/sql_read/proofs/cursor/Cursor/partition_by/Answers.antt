use Rattle.std.proofs.Common.{refl, codes}
use Rattle.mt_values.specs.declared.statement.Clause.TheVariants as clause
use Rattle.mt_values.specs.Grammar.{partition_by}
use Rattle.sql_read.specs.Parts.{name_after}
use Rattle.sql_read.proofs.Chains.{reads_stop}
use Rattle.sql_read.proofs.cursor.Cursor.partition_by.Goals as goal

pub returns-in_err-name : goal.returns-in_err-name
returns-in_err-name c =
    reads_stop partition_by (name_after (codes "PARTITION") (codes "BY")) (λ next name. next (clause.PartitionBy name)) c.args.self.now c.args.self.now
    (λ next. refl)
    c.in_err-name.field-0.0 c.name_after.new.self c.in_err-name.ensures _ c.from_residual.ensures.1

pub returns : goal.returns
returns c = λ next. c.in_ok-name.ensures (λ name. next (clause.PartitionBy name))
