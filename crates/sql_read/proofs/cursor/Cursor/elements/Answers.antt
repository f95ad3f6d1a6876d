use Rattle.std.proofs.Common.{◌∙◌, sym, true, false, Err}
use Rattle.std.proofs.lemmas.Result.{err_from_is_err_and}
use Rattle.mt_values.specs.declared.token.Symbol.TheVariants as symbol
use Rattle.mt_values.specs.Grammar.{is_symbol, list_of, table_element}
use Rattle.sql_read.specs.Reads.{Skips}
use Rattle.sql_read.proofs.TableElements.{element_takes}
use Rattle.sql_read.proofs.Listed.{items_from, items_next, items_stop, Reads_along}
use Rattle.sql_read.proofs.cursor.Cursor.elements.Goals as goal

pub returns-in_err-element : goal.returns-in_err-element
returns-in_err-element c =
    let p = err_from_is_err_and c.from_residual.result c.from_residual.ensures.1 in
    rw (p.1, p.2)
    (Reads_along (items_from table_element c.elements.elements) (list_of table_element) c.elements.self c.args.self.now (Err c.in_err-element.field-0.0) c.element.new.self c.elements.invariant
    (items_stop table_element element_takes c.elements.elements c.elements.self c.in_err-element.field-0.0 c.element.new.self c.in_err-element.ensures.read))

pub returns-then-not-skip : goal.returns-then-not-skip
returns-then-not-skip c =
    let none : Skips (is_symbol symbol.Comma) c.element.new.self false c.skip.new.self = rw c.if-not-skip.true at c.skip.ensures.way in
    rw c.in_ok-push.ensures.ok
    (λ next.
    sym (c.elements.invariant next)
    ∙ items_next table_element element_takes c.elements.elements c.elements.self c.element.new.self c.in_ok-element.element c.in_ok-element.ensures.read false c.skip.new.self none next)

pub elements-preserved : goal.elements-preserved
elements-preserved c =
    let comma : Skips (is_symbol symbol.Comma) c.element.new.self true c.skip.new.self = rw c.if-not-skip.false at c.skip.ensures.way in
    rw c.in_ok-push.ensures.ok
    (λ next.
    sym (items_next table_element element_takes c.elements.elements c.elements.self c.element.new.self c.in_ok-element.element c.in_ok-element.ensures.read true c.skip.new.self comma next)
    ∙ c.elements.invariant next)
