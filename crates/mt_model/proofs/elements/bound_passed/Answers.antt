-- one more element passes no bound
use Rattle.mt_model.proofs.ElementLists.{column_gone_over, index_gone_over}
use Rattle.mt_model.proofs.elements.bound_passed.Goals as goal

pub loop-element-preserved-then-is_column : goal.loop-element-preserved-then-is_column
loop-element-preserved-then-is_column c =
    column_gone_over c.args.elements.now c.loop-element.element-index c.loop-element.columns c.loop-element.indexes c.element-item.result
    c.loop-element-test.true c.element-item.is c.loop-element.invariant c.is_column.result c.is_column.ensures c.if-is_column.true c.if-columns-eq-COLUMN_LIMIT.false

pub loop-element-preserved : goal.loop-element-preserved
loop-element-preserved c =
    index_gone_over c.args.elements.now c.loop-element.element-index c.loop-element.columns c.loop-element.indexes c.element-item.result
    c.loop-element-test.true c.element-item.is c.loop-element.invariant c.is_column.result c.is_column.ensures c.if-is_column.false c.if-indexes-eq-INDEX_LIMIT.false
