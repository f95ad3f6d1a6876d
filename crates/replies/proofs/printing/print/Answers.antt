use Rattle.std.proofs.Common.{◌≡◌, ◌<◌, ◌∙◌, ◌++◌, ℕ, List, All, ap, ap₂, flat_map, length, subst, sym}
use Rattle.std.proofs.lemmas.List.{length-map}
use Rattle.mt_values.specs.Grid.{Cells, Grid, picked}
use Rattle.mt_values.specs.Order.{key_of}
use Rattle.mt_values.specs.Printing.{line}
use Rattle.mt_model.specs.Refusals.{code_of}
use Rattle.mt_model.specs.Reply.{rows_line}
use Rattle.replies.specs.Lines.{Printed}
use Rattle.mt_values.proofs.Grids.{places_below}
use Rattle.replies.proofs.printing.print.Goals as goal

-- the block has a column at each position that is shown
within : (types : ℕ) (columns : List Cells) (shown : List ℕ) → types ≡ length columns → All (λ at. at < length columns) shown → All (λ at. at < types) shown
within types columns shown wide below = subst (λ n. All (λ at. at < n) shown) (sym wide) below

pub order_by-requires : goal.order_by-requires
order_by-requires c =
    within (length c.of_columns-block.result.types) c.args.columns.items c.args.shown.now
    (ap (λ (g : Grid). length g.types) c.of_columns-block.ensures ∙ length-map c.args.columns.items (λ (x : Cells). x.col_type)) c.requires.shown

pub write_rows-requires-clause-within : goal.write_rows-requires-clause-within
write_rows-requires-clause-within c =
    subst (All (λ place. place < length c.of_columns-block.result.rows)) (sym c.as_slice.ensures.value) (places_below _ c.of_columns-block.result.rows c.in_ok-order.order.items c.in_ok-order.ensures)

pub write_rows-requires-clause-chosen : goal.write_rows-requires-clause-chosen
write_rows-requires-clause-chosen c =
    within (length c.of_columns-block.result.types) c.args.columns.items c.args.shown.now
    (ap (λ (g : Grid). length g.types) c.of_columns-block.ensures ∙ length-map c.args.columns.items (λ (x : Cells). x.col_type)) c.requires.shown

-- rows are no refusal
pub answer-requires : goal.answer-requires
answer-requires c = ap code_of (c.in_ok-write_rows.ensures ∙ ap (λ (xs : List ℕ). xs ++ lines) c.in_ok-bytes.ensures)
  where
    lines : List ℕ
    lines = flat_map (λ row. line (key_of c.args.shown.now row)) (picked c.of_columns-block.result.rows c.as_slice.result.now)

-- the lines are those of the rows in the order of the columns that are shown
pub returns : goal.returns
returns c =
    let block = c.of_columns-block.result in
    let shown = c.args.shown.now in
    let head = c.in_ok-bytes.ensures ∙ ap (λ n. rows_line n c.args.place) c.len.ensures.count in
    let rows = ap (λ (qs : List ℕ). flat_map (λ row. line (key_of shown row)) (picked block.rows qs)) c.as_slice.ensures.value in
    subst (λ (b : Grid). Printed b shown c.args.place c.answer.result) c.of_columns-block.ensures (record {
      order = c.in_ok-order.order.items;
      by = c.in_ok-order.ensures;
      typed = c.len.ensures.typed;
      reply_is = c.answer.ensures ∙ (c.in_ok-write_rows.ensures ∙ ap₂ (λ (xs ys : List ℕ). xs ++ ys) head rows);
    })
