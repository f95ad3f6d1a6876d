use Rattle.std.proofs.Common.{◌≡◌, ◌<◌, ◌+◌, ◌∙◌, Some, [], ap, drop, get_or, length, sym}
use Rattle.std.specs.Ordering.{ordering_then}
use Rattle.std.proofs.lemmas.List.{get_or_default}
use Rattle.mt_values.specs.Cells.{value_of}
use Rattle.mt_values.specs.Order.{key_cmp}
use Rattle.mt_values.proofs.OrderBy.{key_cmp-drop, length_column, then_eq, then_ne, value_at}
use Rattle.row_merge.proofs.heads.cmp_row_with.Goals as goal
use Rattle.row_merge.proofs.heads.cmp_row_with.Goals.{After-cmp_cells-found}

pub at-value-requires : goal.at-value-requires
at-value-requires c = c.requires.own c.loop-place.place-index 0 c.loop-place-test.true

pub prove_eq-unreachable-requires : goal.prove_eq-unreachable-requires
prove_eq-unreachable-requires c =
    let block = c.args.block.now in
    let place = get_or c.args.places.now c.loop-place.place-index 0 in
    let inside : place < length block.types = c.requires.other c.loop-place.place-index 0 c.loop-place-test.true in
    let len = ap length c.column-column.ensures.values ∙ length_column block.types block.rows place c.len-rows.ensures.typed inside in
    c.if-prove_eq.true (c.len.ensures.count ∙ len ∙ sym c.len-rows.ensures.count)

-- this column decides, or else those after it
step : (c : After-cmp_cells-found) → key_cmp (drop c.loop-place.place-index c.args.places.now) c.args.row.now (get_or c.args.block.now.rows c.args.at [])
    ≡ ordering_then c.cmp_cells-found.result (key_cmp (drop (c.loop-place.place-index + 1) c.args.places.now) c.args.row.now (get_or c.args.block.now.rows c.args.at []))
step c =
    let row = c.args.row.now in
    let block = c.args.block.now in
    let index = c.loop-place.place-index in
    let place = get_or c.args.places.now index 0 in
    let inside : place < length block.types = c.requires.other index 0 c.loop-place-test.true in
    let first = c.at-value.ensures ∙ ap Some (sym c.of.ensures) in
    let second = value_at block.types block.rows place c.args.at (value_of c.at.result) c.len-rows.ensures.typed inside (rw c.column-column.ensures.values at c.at.ensures) in
    let read : place ≡ get_or c.args.places.now index place = get_or_default c.args.places.now index 0 place c.loop-place-test.true in
    key_cmp-drop c.args.places.now index place row (get_or block.rows c.args.at []) (value_of c.of.result) (value_of c.at.result) c.loop-place-test.true read first second
    ∙ ap (λ o. ordering_then o (key_cmp (drop (index + 1) c.args.places.now) row (get_or block.rows c.args.at []))) (sym c.cmp_cells-found.ensures)

pub returns-then-is_ne : goal.returns-then-is_ne
returns-then-is_ne c =
    let rest = key_cmp (drop (c.loop-place.place-index + 1) c.args.places.now) c.args.row.now (get_or c.args.block.now.rows c.args.at []) in
    sym (then_ne c.cmp_cells-found.result rest (sym c.is_ne.ensures ∙ c.if-is_ne.true))
    ∙ sym (step (goal.at.returns-then-is_ne c).After-cmp_cells-found)
    ∙ c.loop-place.invariant

pub loop-place-preserved : goal.loop-place-preserved
loop-place-preserved c =
    let rest = key_cmp (drop (c.loop-place.place-index + 1) c.args.places.now) c.args.row.now (get_or c.args.block.now.rows c.args.at []) in
    sym (then_eq c.cmp_cells-found.result rest (sym c.is_ne.ensures ∙ c.if-is_ne.false))
    ∙ sym (step (goal.at.loop-place-preserved c).After-cmp_cells-found)
    ∙ c.loop-place.invariant
