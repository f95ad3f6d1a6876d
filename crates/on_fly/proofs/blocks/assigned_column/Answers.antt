use Rattle.std.proofs.Common.{◌≡◌, ◌<◌, ◌≤◌, List, Some, ap, arith, filter_map, length, slice_get, subst, sym, ◌∙◌}
use Rattle.std.proofs.lemmas.List.{take_all}
use Rattle.mt_values.specs.declared.value.Value.{Value}
use Rattle.mt_values.specs.Cells.{value_of}
use Rattle.mt_values.specs.Grid.{Cells, column_of}
use Rattle.mt_values.specs.Values.{Row}
use Rattle.mt_values.proofs.OrderBy.{length_column}
use Rattle.on_fly.specs.Updates.{put_value}
use Rattle.on_fly.proofs.ByColumns.{kept_more, new_typed, old_typed, put_more}
use Rattle.on_fly.proofs.blocks.assigned_column.Goals as goal

pub loop-row-init : goal.loop-row-init
loop-row-init c = record {
  typed = c.column-old.ensures.col_type ∙ ap Some (sym (ap (λ (x : Cells). x.col_type) c.new-column.ensures ∙ c.col_type.ensures));
  values = λ meets asked. ap (λ (x : Cells). x.values) c.new-column.ensures;
}

pub at-requires : goal.at-requires
at-requires c =
    let block = c.args.block.now in
    subst (λ (vs : List Value). c.loop-row.row < length vs) (sym c.column-old.ensures.values)
    (omega (arith, length_column block.types block.rows c.args.place c.len-rows.ensures.typed c.requires.place, c.loop-row-test.true, c.len-rows.ensures.count))

pub push_cell-requires : goal.push_cell-requires
push_cell-requires c =
    let block = c.args.block.now in
    let i = c.loop-row.row in
    let lt : i < length block.rows = omega (arith, c.loop-row-test.true, c.len-rows.ensures.count) in
    let v = value_of c.at.result in
    let here : slice_get (column_of c.args.place block.rows) i ≡ Some v = ap (λ (vs : List Value). slice_get vs i) (sym c.column-old.ensures.values) ∙ c.at.ensures in
    old_typed block.types block.rows c.len-rows.ensures.typed c.args.place c.requires.place i lt c.loop-row.column.col_type v c.loop-row.invariant.typed here

pub loop-row-preserved-then-not-met-row : goal.loop-row-preserved-then-not-met-row
loop-row-preserved-then-not-met-row c =
    let block = c.args.block.now in
    let i = c.loop-row.row in
    let lt : i < length block.rows = omega (arith, c.loop-row-test.true, c.len-rows.ensures.count) in
    let v = value_of c.at.result in
    let pushed = c.in_ok-push_cell.ensures.ok in
    let here : slice_get (column_of c.args.place block.rows) i ≡ Some v = ap (λ (vs : List Value). slice_get vs i) (sym c.column-old.ensures.values) ∙ c.at.ensures in
    record {
      typed = c.loop-row.invariant.typed ∙ ap Some (sym (ap (λ (x : Cells). x.col_type) pushed));
      values = λ meets asked.
          ap (λ (x : Cells). x.values) pushed
          ∙ kept_more block.types block.rows c.len-rows.ensures.typed c.args.place c.requires.place i lt c.args.assigned.now meets c.args.met.now asked v c.loop-row.column.values
          c.if-not-met-row.true here (c.loop-row.invariant.values meets asked);
    }

pub assigned_value-requires-clause-typed : goal.assigned_value-requires-clause-typed
assigned_value-requires-clause-typed c = (c.loop-row.column.col_type, c.requires.typed c.loop-row.column.col_type c.loop-row.invariant.typed)

pub push-requires : goal.push-requires
push-requires c =
    let block = c.args.block.now in
    let i = c.loop-row.row in
    let lt : i < length block.rows = omega (arith, c.loop-row-test.true, c.len-rows.ensures.count) in
    new_typed block.types block.rows c.len-rows.ensures.typed c.args.place c.requires.place i lt c.args.assigned.now c.loop-row.column.col_type c.in_ok-assigned_value.field-0
    (c.requires.typed c.loop-row.column.col_type c.loop-row.invariant.typed) c.in_ok-assigned_value.ensures

pub loop-row-preserved : goal.loop-row-preserved
loop-row-preserved c =
    let block = c.args.block.now in
    let i = c.loop-row.row in
    let lt : i < length block.rows = omega (arith, c.loop-row-test.true, c.len-rows.ensures.count) in
    let v = c.in_ok-assigned_value.field-0 in
    let pushed = c.in_ok-push.ensures.ok in
    record {
      typed = c.loop-row.invariant.typed ∙ ap Some (sym (ap (λ (x : Cells). x.col_type) pushed));
      values = λ meets asked.
          ap (λ (x : Cells). x.values) pushed
          ∙ put_more block.types block.rows c.len-rows.ensures.typed c.args.place c.requires.place i lt c.args.assigned.now meets c.args.met.now asked v c.loop-row.column.values
          c.if-not-met-row.false c.in_ok-assigned_value.ensures (c.loop-row.invariant.values meets asked);
    }

pub returns-clause-values : goal.returns-clause-values
returns-clause-values c = λ meets asked.
    let rows = c.args.block.now.rows in
    let past : length rows ≤ c.loop-row.row = omega (arith, c.loop-row-test.false, c.len-rows.ensures.count) in
    c.loop-row.invariant.values meets asked
    ∙ ap (λ (rs : List Row). filter_map (λ row. put_value c.args.place c.args.assigned.now (meets row) row) rs) (take_all c.loop-row.row rows past)
