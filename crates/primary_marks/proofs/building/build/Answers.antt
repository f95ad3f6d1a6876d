use Rattle.std.proofs.Common.{◌≡◌, ◌+◌, ◌<◌, ◌≤◌, All, List, ℕ, ap, sym, ◌∙◌, subst, arith, filter_map, get_or, length, map, slice_get, take}
use Rattle.std.proofs.lemmas.List.{get_or_default, take_all}
use Rattle.mt_values.specs.Grid.{Cells, column_of, picked, rows_of}
use Rattle.mt_values.specs.Values.{Row}
use Rattle.column_file.specs.Marks.{with_final}
use Rattle.primary_marks.specs.Columns.{HaveKeys}
use Rattle.primary_marks.proofs.MarkedRows.{All-with_final, column_length, columns_have, column_picked, keys_kept, length-picked_within, reach_all, values_more, values_of}
use Rattle.primary_marks.proofs.building.build.Goals as goal

-- the place is one of the block's columns
own : (primary : List ℕ) (items : List ℕ) (i n : ℕ) → items ≡ primary → i < length items → All (λ place. place < n) primary → get_or items i 0 < n
own primary items i n e below all = subst (λ (xs : List ℕ). get_or xs i 0 < n) (sym e) (all i 0 (omega (arith, ap length e)))

pub prove_eq-unreachable-requires : goal.prove_eq-unreachable-requires
prove_eq-unreachable-requires c =
    c.if-prove_eq.true
    (c.len-in-loop-place.ensures.count
    ∙ column_length c.args.block.now.types c.args.block.now.rows (get_or c.as_slice-place-items.result.now c.loop-place.place-index 0) c.column-cells.result.now.values c.len-rows.ensures.typed
    (own c.args.schema.now.primary c.as_slice-place-items.result.now c.loop-place.place-index (length c.args.block.now.types) c.as_slice-place-items.ensures c.loop-place-test.true c.requires.primary) c.column-cells.ensures.values
    ∙ sym c.len-rows.ensures.count)

pub picked_cells-requires-clause-places : goal.picked_cells-requires-clause-places
picked_cells-requires-clause-places c =
    let size : length c.args.block.now.rows ≡ length c.column-cells.result.now.values = sym c.len-rows.ensures.count ∙ sym c.if-prove_eq.false ∙ c.len-in-loop-place.ensures.count in
    let marked = All-with_final (λ p. p < length c.args.block.now.rows) c.args.schema.now.granularity c.args.order.now c.requires.places in
    subst (All (λ place. place < length c.column-cells.result.now.values)) (sym (c.as_slice.ensures ∙ c.in_ok-places.ensures))
    (subst (λ n. All (λ place. place < n) (with_final c.args.schema.now.granularity c.args.order.now)) size marked)

pub push_reserved-requires : goal.push_reserved-requires
push_reserved-requires c = omega (arith, c.loop-place.invariant.count, c.loop-place.invariant.room, c.loop-place-test.true, ap length c.as_slice-place-items.ensures)

pub loop-place-preserved : goal.loop-place-preserved
loop-place-preserved c =
    let primary = c.args.schema.now.primary in
    let items = c.as_slice-place-items.result.now in
    let i = c.loop-place.place-index in
    let p = get_or items i 0 in
    let same = c.as_slice-place-items.ensures in
    let below : i < length primary = omega (arith, c.loop-place-test.true, ap length same) in
    let there : p ≡ get_or primary i p = get_or_default items i 0 p c.loop-place-test.true ∙ ap (λ (xs : List ℕ). get_or xs i p) same in
    let block = c.args.block.now in
    let mine = own primary items i (length block.types) same c.loop-place-test.true c.requires.primary in
    let marked = with_final c.args.schema.now.granularity c.args.order.now in
    let values : c.in_ok-picked_cells.field-0.values ≡ column_of p (picked block.rows marked) =
    column_picked block.types block.rows marked p c.column-cells.result.now.values c.in_ok-picked_cells.field-0.values c.len-rows.ensures.typed mine c.column-cells.ensures.values
    (c.in_ok-picked_cells.ensures ∙ ap (filter_map (slice_get c.column-cells.result.now.values)) (c.as_slice.ensures ∙ c.in_ok-places.ensures)) in
    record {
      values = values_more c.loop-place.columns.items c.push_reserved.new.self.items c.in_ok-picked_cells.field-0 primary i p (picked block.rows marked) below there c.loop-place.invariant.values c.push_reserved.ensures.items values;
      count = c.push_reserved.ensures.len ∙ ap (λ n. n + 1) c.loop-place.invariant.count;
      room = c.push_reserved.ensures.capacity ∙ c.loop-place.invariant.room;
    }

-- all columns are there
all : (columns : List Cells) (primary items : List ℕ) (i : ℕ) (rows : List Row) → values_of columns ≡ map (λ p. column_of p rows) (take i primary) → length items ≤ i → items ≡ primary → values_of columns ≡ map (λ p. column_of p rows) primary
all columns primary items i rows so_far past same = so_far ∙ ap (map (λ p. column_of p rows)) (take_all i primary (omega (arith, past, ap length same)))

pub of_columns-requires : goal.of_columns-requires
of_columns-requires c =
    let block = c.args.block.now in
    let marked = with_final c.args.schema.now.granularity c.args.order.now in
    let size : length (picked block.rows marked) ≡ c.len-2.result =
    length-picked_within block.rows marked (All-with_final (λ p. p < length block.rows) c.args.schema.now.granularity c.args.order.now c.requires.places) ∙ sym (c.len-2.ensures ∙ ap length c.in_ok-places.ensures) in
    subst (HaveKeys c.loop-place.columns.items) size (columns_have c.loop-place.columns.items c.args.schema.now.primary (picked block.rows marked) (all c.loop-place.columns.items c.args.schema.now.primary c.as_slice-place-items.result.now c.loop-place.place-index (picked block.rows (with_final c.args.schema.now.granularity c.args.order.now)) c.loop-place.invariant.values c.loop-place-test.false c.as_slice-place-items.ensures) (reach_all block.types block.rows marked c.args.schema.now.primary c.len-rows.ensures.typed c.requires.primary))

pub returns : goal.returns
returns c =
    let block = c.args.block.now in
    c.of_columns.ensures ∙ ap (rows_of c.loop-place.columns.items) (c.len-2.ensures ∙ ap length c.in_ok-places.ensures)
    ∙ keys_kept c.loop-place.columns.items block.types c.args.schema.now.primary c.args.schema.now.granularity block.rows c.args.order.now c.len-rows.ensures.typed c.requires.primary c.requires.places (all c.loop-place.columns.items c.args.schema.now.primary c.as_slice-place-items.result.now c.loop-place.place-index (picked block.rows (with_final c.args.schema.now.granularity c.args.order.now)) c.loop-place.invariant.values c.loop-place-test.false c.as_slice-place-items.ensures)
