use Rattle.std.proofs.Common.{◌≡◌, ◌<◌, ◌+◌, ◌∙◌, [], ap, drop, get_or, length, sym}
use Rattle.std.specs.Ordering.{ordering_then}
use Rattle.std.proofs.lemmas.List.{get_or_default}
use Rattle.mt_values.specs.Cells.{value_of}
use Rattle.mt_values.specs.Order.{key_cmp}
use Rattle.mt_values.proofs.OrderBy.{key_cmp-drop, length_column, then_eq, then_ne, value_at}
use Rattle.row_merge.proofs.heads.cmp_rows_of.Goals as goal
use Rattle.row_merge.proofs.heads.cmp_rows_of.Goals.{After-cmp_cells-found}

pub prove_eq-unreachable-requires : goal.prove_eq-unreachable-requires
prove_eq-unreachable-requires c =
    let block = c.args.left.now in
    let place = get_or c.args.places.now c.loop-place.place-index 0 in
    let inside : place < length block.types = c.requires.own c.loop-place.place-index 0 c.loop-place-test.true in
    let len = ap length c.column-column.ensures.values ∙ length_column block.types block.rows place c.len-rows.ensures.typed inside in
    c.if-prove_eq.true (c.len.ensures.count ∙ len ∙ sym c.len-rows.ensures.count)

pub prove_eq-unreachable-requires-in-loop-place : goal.prove_eq-unreachable-requires-in-loop-place
prove_eq-unreachable-requires-in-loop-place c =
    let block = c.args.right.now in
    let place = get_or c.args.places.now c.loop-place.place-index 0 in
    let inside : place < length block.types = c.requires.other c.loop-place.place-index 0 c.loop-place-test.true in
    let len = ap length c.column-other.ensures.values ∙ length_column block.types block.rows place c.len-others.ensures.typed inside in
    c.if-prove_eq-2.true (c.len-in-loop-place.ensures.count ∙ len ∙ sym c.len-others.ensures.count)

-- this column decides, or else those after it
step : (c : After-cmp_cells-found) → key_cmp (drop c.loop-place.place-index c.args.places.now) (get_or c.args.left.now.rows c.args.a []) (get_or c.args.right.now.rows c.args.b [])
    ≡ ordering_then c.cmp_cells-found.result (key_cmp (drop (c.loop-place.place-index + 1) c.args.places.now) (get_or c.args.left.now.rows c.args.a []) (get_or c.args.right.now.rows c.args.b []))
step c =
    let left = c.args.left.now in
    let right = c.args.right.now in
    let index = c.loop-place.place-index in
    let place = get_or c.args.places.now index 0 in
    let own : place < length left.types = c.requires.own index 0 c.loop-place-test.true in
    let other : place < length right.types = c.requires.other index 0 c.loop-place-test.true in
    let first = value_at left.types left.rows place c.args.a (value_of c.at.result) c.len-rows.ensures.typed own (rw c.column-column.ensures.values at c.at.ensures) in
    let second = value_at right.types right.rows place c.args.b (value_of c.at-in-loop-place.result) c.len-others.ensures.typed other (rw c.column-other.ensures.values at c.at-in-loop-place.ensures) in
    let read : place ≡ get_or c.args.places.now index place = get_or_default c.args.places.now index 0 place c.loop-place-test.true in
    key_cmp-drop c.args.places.now index place (get_or left.rows c.args.a []) (get_or right.rows c.args.b []) (value_of c.at.result) (value_of c.at-in-loop-place.result) c.loop-place-test.true read first second
    ∙ ap (λ o. ordering_then o (key_cmp (drop (index + 1) c.args.places.now) (get_or left.rows c.args.a []) (get_or right.rows c.args.b []))) (sym c.cmp_cells-found.ensures)

pub returns-then-is_ne : goal.returns-then-is_ne
returns-then-is_ne c =
    let rest = key_cmp (drop (c.loop-place.place-index + 1) c.args.places.now) (get_or c.args.left.now.rows c.args.a []) (get_or c.args.right.now.rows c.args.b []) in
    sym (then_ne c.cmp_cells-found.result rest (sym c.is_ne.ensures ∙ c.if-is_ne.true))
    ∙ sym (step (goal.at.returns-then-is_ne c).After-cmp_cells-found)
    ∙ c.loop-place.invariant

pub loop-place-preserved : goal.loop-place-preserved
loop-place-preserved c =
    let rest = key_cmp (drop (c.loop-place.place-index + 1) c.args.places.now) (get_or c.args.left.now.rows c.args.a []) (get_or c.args.right.now.rows c.args.b []) in
    sym (then_eq c.cmp_cells-found.result rest (sym c.is_ne.ensures ∙ c.if-is_ne.false))
    ∙ sym (step (goal.at.loop-place-preserved c).After-cmp_cells-found)
    ∙ c.loop-place.invariant
