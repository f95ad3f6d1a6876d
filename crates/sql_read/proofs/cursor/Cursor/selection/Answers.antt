use Rattle.std.proofs.Common.{◌∙◌, true, false}
use Rattle.mt_values.specs.declared.statement.Selected.TheVariants as selected
use Rattle.mt_values.specs.declared.token.Symbol.TheVariants as symbol
use Rattle.mt_values.specs.Grammar.{is_symbol, list_of, one_name, selection}
use Rattle.sql_read.specs.Reads.{Skips}
use Rattle.sql_read.proofs.Chains.{reads_stop}
use Rattle.sql_read.proofs.cursor.Cursor.selection.Goals as goal

pub returns-then-skip : goal.returns-then-skip
returns-then-skip c =
    let star : Skips (is_symbol symbol.Star) c.args.self.now true c.skip.new.self = rw c.if-skip.true at c.skip.ensures.way in
    λ next. star (λ u. next selected.All) (list_of one_name (λ names. next (selected.Named names)))

pub returns-in_err-names : goal.returns-in_err-names
returns-in_err-names c =
    let none : Skips (is_symbol symbol.Star) c.args.self.now false c.skip.new.self = rw c.if-skip.false at c.skip.ensures.way in
    reads_stop selection (list_of one_name) (λ next names. next (selected.Named names)) c.args.self.now c.skip.new.self
    (λ next. none (λ u. next selected.All) (list_of one_name (λ names. next (selected.Named names))))
    c.in_err-names.field-0.0 c.names.new.self c.in_err-names.ensures _ c.from_residual.ensures.1

pub returns : goal.returns
returns c =
    let none : Skips (is_symbol symbol.Star) c.args.self.now false c.skip.new.self = rw c.if-skip.false at c.skip.ensures.way in
    λ next. none (λ u. next selected.All) (list_of one_name (λ names. next (selected.Named names))) ∙ c.in_ok-names.ensures _
