use Rattle.std.proofs.Common.{◌∙◌, ℕ, Bool, true, false, List, Option, refl, codes}
use Rattle.mt_values.specs.declared.statement.Statement.{Statement}
use Rattle.mt_values.specs.declared.statement.Statement.TheVariants as statement
use Rattle.mt_values.specs.Grammar.{ends, final, optimize, partition_id}
use Rattle.mt_values.specs.Readers.{Reader}
use Rattle.sql_read.specs.Parts.{name_after}
use Rattle.sql_read.proofs.Chains.{is_read_end, is_read_stop}
use Rattle.sql_read.proofs.Choices.{either_told}
use Rattle.sql_read.proofs.cursor.Cursor.optimize.Goals as goal

abbrev made : List ℕ → Option (List ℕ) → Bool → Statement
made table id whole = statement.Optimize (record { table = table; partition = id; whole = whole })

abbrev then_final : List ℕ → Option (List ℕ) → Reader Statement
then_final table id = final (λ whole. ends (made table id whole))

pub returns-in_err-table : goal.returns-in_err-table
returns-in_err-table c =
    is_read_stop optimize (name_after (codes "OPTIMIZE") (codes "TABLE")) (λ table. partition_id (then_final table)) c.args.self.now c.args.self.now
    (refl)
    c.in_err-table.field-0.0 c.name_after.new.self c.in_err-table.ensures _ c.from_residual.ensures.1

pub returns-in_err-partition : goal.returns-in_err-partition
returns-in_err-partition c =
    is_read_stop optimize partition_id (then_final c.in_ok-table.table) c.args.self.now c.name_after.new.self
    (c.in_ok-table.ensures (λ table. partition_id (then_final table)))
    c.in_err-partition.field-0.0 c.partition_id.new.self c.in_err-partition.ensures _ c.from_residual-in_err-partition.ensures.1

pub returns-in_err-end : goal.returns-in_err-end
returns-in_err-end c =
    let make = made c.in_ok-table.table c.in_ok-partition.partition in
    is_read_end optimize (make c.skip_keyword-whole.result) c.args.self.now c.skip_keyword-whole.new.self
    (c.in_ok-table.ensures (λ table. partition_id (then_final table))
    ∙ (c.in_ok-partition.ensures (then_final c.in_ok-table.table)
    ∙ (c.skip_keyword-whole.ensures.way (λ u. ends (make true)) (ends (make false))
    ∙ either_told c.skip_keyword-whole.result (λ whole. ends (make whole)) c.skip_keyword-whole.new.self)))
    c.in_err-end.field-0.0 c.end.new.self c.in_err-end.ensures _ c.from_residual-in_err-end.ensures.1

pub returns : goal.returns
returns c =
    let make = made c.in_ok-table.table c.in_ok-partition.partition in
    c.in_ok-table.ensures (λ table. partition_id (then_final table))
    ∙ (c.in_ok-partition.ensures (then_final c.in_ok-table.table)
    ∙ (c.skip_keyword-whole.ensures.way (λ u. ends (make true)) (ends (make false))
    ∙ (either_told c.skip_keyword-whole.result (λ whole. ends (make whole)) c.skip_keyword-whole.new.self
    ∙ c.in_ok-end.ensures (make c.skip_keyword-whole.result))))
