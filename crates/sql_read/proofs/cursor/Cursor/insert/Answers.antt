use Rattle.std.proofs.Common.{◌∙◌, refl, codes}
use Rattle.mt_values.specs.declared.statement.Statement.TheVariants as statement
use Rattle.mt_values.specs.Grammar.{insert}
use Rattle.sql_read.specs.Parts.{inserted_format, name_after}
use Rattle.sql_read.proofs.Chains.{is_read_last, is_read_stop}
use Rattle.sql_read.proofs.cursor.Cursor.insert.Goals as goal

pub returns-in_err-table : goal.returns-in_err-table
returns-in_err-table c =
    is_read_stop (insert c.args.lines.now c.args.ended) (name_after (codes "INSERT") (codes "INTO")) _ c.args.self.now c.args.self.now
    (refl)
    c.in_err-table.field-0.0 c.name_after.new.self c.in_err-table.ensures _ c.from_residual.ensures.1

pub returns-in_err-inserted_format : goal.returns-in_err-inserted_format
returns-in_err-inserted_format c =
    is_read_last (insert c.args.lines.now c.args.ended) inserted_format (λ u. statement.Insert (record { table = c.in_ok-table.table; lines = c.args.lines.now; ended = c.args.ended })) c.args.self.now c.name_after.new.self
    (c.in_ok-table.ensures _)
    c.in_err-inserted_format.field-0.0 c.inserted_format.new.self c.in_err-inserted_format.ensures _ c.from_residual-in_err-inserted_format.ensures.1

pub returns : goal.returns
returns c =
    rw c.in_ok-lines.ensures (c.in_ok-table.ensures _ ∙ c.in_ok-inserted_format.ensures (λ u. statement.Insert (record { table = c.in_ok-table.table; lines = c.args.lines.now; ended = c.args.ended })))
