use Rattle.std.proofs.Common.{◌∙◌, ℕ, Bool, true, false, List}
use Rattle.mt_values.specs.Conditions.{Condition}
use Rattle.mt_values.specs.declared.expr.TestText.{TestText}
use Rattle.mt_values.specs.declared.statement.SelectText.{SelectText}
use Rattle.mt_values.specs.declared.statement.Selected.{Selected}
use Rattle.mt_values.specs.Grammar.{final, select_text, selection, where_part}
use Rattle.mt_values.specs.Readers.{Reader}
use Rattle.sql_read.specs.Parts.{selected_table}
use Rattle.sql_read.proofs.Chains.{reads_stop}
use Rattle.sql_read.proofs.Choices.{either_told}
use Rattle.sql_read.proofs.cursor.Cursor.select_text.Goals as goal

abbrev asked : Selected → List ℕ → Bool → Condition TestText → SelectText
asked columns table is_final condition = record { columns = columns; table = table; is_final = is_final; condition = condition }

abbrev then_where : {S : Type 0} → Selected → List ℕ → (SelectText → Reader S) → Bool → Reader S
then_where columns table next is_final = where_part (λ condition. next (asked columns table is_final condition))

abbrev then_final : {S : Type 0} → Selected → (SelectText → Reader S) → List ℕ → Reader S
then_final columns next table = final (then_where columns table next)

abbrev then_table : {S : Type 0} → (SelectText → Reader S) → Selected → Reader S
then_table next columns = selected_table (then_final columns next)

pub returns-in_err-columns : goal.returns-in_err-columns
returns-in_err-columns c =
    reads_stop select_text selection then_table c.args.self.now c.keyword.new.self
    (λ next. c.in_ok-keyword.ensures.read _)
    c.in_err-columns.field-0.0 c.selection.new.self c.in_err-columns.ensures _ c.from_residual-in_err-columns.ensures.1

pub returns-in_err-table : goal.returns-in_err-table
returns-in_err-table c =
    reads_stop select_text selected_table (then_final c.in_ok-columns.columns) c.args.self.now c.selection.new.self
    (λ next. c.in_ok-keyword.ensures.read _ ∙ c.in_ok-columns.ensures (then_table next))
    c.in_err-table.field-0.0 c.selected_table.new.self c.in_err-table.ensures _ c.from_residual-in_err-table.ensures.1

pub returns-in_err-condition : goal.returns-in_err-condition
returns-in_err-condition c =
    let columns = c.in_ok-columns.columns in
    let table = c.in_ok-table.table in
    let is_final = c.skip_keyword-is_final.result in
    reads_stop select_text where_part (λ next condition. next (asked columns table is_final condition)) c.args.self.now c.skip_keyword-is_final.new.self
    (λ next.
    c.in_ok-keyword.ensures.read _
    ∙ (c.in_ok-columns.ensures (then_table next)
    ∙ (c.in_ok-table.ensures (then_final columns next)
    ∙ (c.skip_keyword-is_final.ensures.way (λ u. then_where columns table next true) (then_where columns table next false)
    ∙ either_told is_final (then_where columns table next) c.skip_keyword-is_final.new.self))))
    c.in_err-condition.field-0.0 c.condition.new.self c.in_err-condition.ensures _ c.from_residual-in_err-condition.ensures.1

pub returns : goal.returns
returns c = λ next.
    let columns = c.in_ok-columns.columns in
    let table = c.in_ok-table.table in
    let is_final = c.skip_keyword-is_final.result in
    c.in_ok-keyword.ensures.read _
    ∙ (c.in_ok-columns.ensures (then_table next)
    ∙ (c.in_ok-table.ensures (then_final columns next)
    ∙ (c.skip_keyword-is_final.ensures.way (λ u. then_where columns table next true) (then_where columns table next false)
    ∙ (either_told is_final (then_where columns table next) c.skip_keyword-is_final.new.self
    ∙ c.in_ok-condition.ensures (λ condition. next (asked columns table is_final condition))))))
