use Rattle.std.proofs.Common.{◌∙◌, refl, codes}
use Rattle.mt_values.specs.declared.statement.Statement.TheVariants as statement
use Rattle.mt_values.specs.Grammar.{clauses, create, ends}
use Rattle.sql_read.specs.Parts.{created_elements, created_engine, name_after}
use Rattle.sql_read.proofs.Chains.{is_read_stop, is_read_end}
use Rattle.sql_read.proofs.cursor.Cursor.create.Goals as goal

pub returns-in_err-table : goal.returns-in_err-table
returns-in_err-table c =
    is_read_stop (create c.args.text.now) (name_after (codes "CREATE") (codes "TABLE")) _ c.args.self.now c.args.self.now
    (refl)
    c.in_err-table.field-0.0 c.name_after.new.self c.in_err-table.ensures _ c.from_residual.ensures.1

pub returns-in_err-elements : goal.returns-in_err-elements
returns-in_err-elements c =
    is_read_stop (create c.args.text.now) created_elements _ c.args.self.now c.name_after.new.self
    (c.in_ok-table.ensures _)
    c.in_err-elements.field-0.0 c.created_elements.new.self c.in_err-elements.ensures _ c.from_residual-in_err-elements.ensures.1

pub returns-in_err-engine : goal.returns-in_err-engine
returns-in_err-engine c =
    is_read_stop (create c.args.text.now) created_engine _ c.args.self.now c.created_elements.new.self
    (c.in_ok-table.ensures _ ∙ c.in_ok-elements.ensures _)
    c.in_err-engine.field-0.0 c.created_engine.new.self c.in_err-engine.ensures _ c.from_residual-in_err-engine.ensures.1

pub returns-in_err-clauses : goal.returns-in_err-clauses
returns-in_err-clauses c =
    is_read_stop (create c.args.text.now) clauses (λ cs. ends (statement.Create (record { text = c.args.text.now; table = c.in_ok-table.table; elements = c.in_ok-elements.elements; engine = c.in_ok-engine.engine; clauses = cs }))) c.args.self.now c.created_engine.new.self
    (c.in_ok-table.ensures _ ∙ (c.in_ok-elements.ensures _ ∙ c.in_ok-engine.ensures (λ e. clauses (λ cs. ends (statement.Create (record { text = c.args.text.now; table = c.in_ok-table.table; elements = c.in_ok-elements.elements; engine = e; clauses = cs }))))))
    c.in_err-clauses.field-0.0 c.clauses.new.self c.in_err-clauses.ensures _ c.from_residual-in_err-clauses.ensures.1

pub returns-in_err-end : goal.returns-in_err-end
returns-in_err-end c =
    is_read_end (create c.args.text.now) (statement.Create (record { text = c.args.text.now; table = c.in_ok-table.table; elements = c.in_ok-elements.elements; engine = c.in_ok-engine.engine; clauses = c.in_ok-clauses.clauses })) c.args.self.now c.clauses.new.self
    (c.in_ok-table.ensures _ ∙ (c.in_ok-elements.ensures _ ∙ (c.in_ok-engine.ensures (λ e. clauses (λ cs. ends (statement.Create (record { text = c.args.text.now; table = c.in_ok-table.table; elements = c.in_ok-elements.elements; engine = e; clauses = cs })))) ∙ c.in_ok-clauses.ensures (λ cs. ends (statement.Create (record { text = c.args.text.now; table = c.in_ok-table.table; elements = c.in_ok-elements.elements; engine = c.in_ok-engine.engine; clauses = cs }))))))
    c.in_err-end.field-0.0 c.end.new.self c.in_err-end.ensures _ c.from_residual-in_err-end.ensures.1

pub returns : goal.returns
returns c =
    rw c.in_ok-text.ensures
    (c.in_ok-table.ensures _
    ∙ (c.in_ok-elements.ensures _
    ∙ (c.in_ok-engine.ensures (λ e. clauses (λ cs. ends (statement.Create (record { text = c.args.text.now; table = c.in_ok-table.table; elements = c.in_ok-elements.elements; engine = e; clauses = cs }))))
    ∙ (c.in_ok-clauses.ensures (λ cs. ends (statement.Create (record { text = c.args.text.now; table = c.in_ok-table.table; elements = c.in_ok-elements.elements; engine = c.in_ok-engine.engine; clauses = cs })))
    ∙ c.in_ok-end.ensures (statement.Create (record { text = c.args.text.now; table = c.in_ok-table.table; elements = c.in_ok-elements.elements; engine = c.in_ok-engine.engine; clauses = c.in_ok-clauses.clauses }))))))
