use Rattle.std.proofs.Common.{[], ◌∷◌, ◌++◌, List, ap, ap₂, arith, sym, ◌∙◌, take}
use Rattle.std.proofs.lemmas.List.{take_all, take_more}
use Rattle.std.proofs.lemmas.Option.{get_or_from_slice_get, slice_get_within}
use Rattle.mt_values.specs.Cells.{value_of}
use Rattle.mt_values.specs.Grid.{Cells}
use Rattle.mt_values.specs.declared.value.Value.{Value}
use Rattle.mt_values.proofs.Columns.{typed_at}
use Rattle.mt_values.proofs.column.ColumnDataTwin.twin.Goals as goal

pub loop-place-init : goal.loop-place-init
loop-place-init c = record {
  col_type = ap (λ (x : Cells). x.col_type) c.new-copy.ensures ∙ c.col_type.ensures;
  values = ap (λ (x : Cells). x.values) c.new-copy.ensures;
}

pub push_cell-requires : goal.push_cell-requires
push_cell-requires c = typed_at c.args.self.now c.loop-place.place (value_of c.at.result) c.len-count.ensures.typed c.at.ensures ∙ sym c.loop-place.invariant.col_type

pub loop-place-preserved : goal.loop-place-preserved
loop-place-preserved c =
    let pushed = c.in_ok-push_cell.ensures.ok in
    let values = c.args.self.now.values in
    let i = c.loop-place.place in
    let v = value_of c.at.result in
    record {
      col_type = ap (λ (x : Cells). x.col_type) pushed ∙ c.loop-place.invariant.col_type;
      values = ap (λ (x : Cells). x.values) pushed ∙ ap (λ (vs : List Value). vs ++ v ∷ []) c.loop-place.invariant.values
          ∙ sym (take_more values i v (slice_get_within values i v c.at.ensures) ∙ ap (λ (x : Value). take i values ++ x ∷ []) (get_or_from_slice_get values i v v c.at.ensures));
    }

pub returns : goal.returns
returns c =
    let values = c.args.self.now.values in
    ap₂ (λ t vs. record { col_type = t; values = vs }) c.loop-place.invariant.col_type
    (c.loop-place.invariant.values ∙ take_all c.loop-place.place values (omega (arith, c.len-count.ensures.count, c.loop-place-test.false)))
