use Rattle.std.proofs.Common.{◌≡◌, ◌<◌, ◌≤◌, ◌∷◌, ◌+◌, ◌++◌, [], List, length, take, get_or, slice_get, filter_map, All, arith, sym, ◌∙◌, ap, ap₂, subst}
use Rattle.std.proofs.lemmas.List.{take_all, take_more, length-take-le}
use Rattle.std.proofs.lemmas.Option.{get_or_from_slice_get}
use Rattle.mt_values.specs.declared.value.ColType.TheVariants.{UInt8}
use Rattle.mt_values.specs.declared.value.Value.{Value}
use Rattle.mt_values.specs.Grid.{Cells, column_of, picked}
use Rattle.mt_values.proofs.Grids.{AreEven, columns_from, columns_from-push, column_of-picked, even_picked, grid_picked}
use Rattle.mt_values.proofs.OrderBy.{all_reach, length_column}
use Rattle.mt_values.proofs.block.Block.pick.Goals as goal
use Rattle.mt_values.proofs.block.Block.pick.Goals.{After-loop-place}

pub pick-requires : goal.pick-requires
pick-requires c =
    let block = c.args.self.now in
    let order = c.args.order.now in
    let place = c.loop-place.place in
    let below : place < length block.types = omega arith in
    let len : length (column_of place block.rows) ≡ length block.rows = length_column block.types block.rows place c.len-rows.ensures.typed below in
    subst (λ (vs : List Value). All (λ k. k < length vs) order) (sym c.column.ensures.values) (subst (λ n. All (λ k. k < n) order) (sym len) c.requires.within)

pub loop-place-preserved : goal.loop-place-preserved
loop-place-preserved c =
    let block = c.args.self.now in
    let types = block.types in
    let order = c.args.order.now in
    let place = c.loop-place.place in
    let rows = picked block.rows order in
    let column = c.column.result.now in
    let below : place < length types = omega arith in
    let kind : get_or types place UInt8 ≡ column.col_type = get_or_from_slice_get types place column.col_type UInt8 c.column.ensures.col_type in
    let values : filter_map (slice_get column.values) order ≡ column_of place rows =
    ap (λ (vs : List Value). filter_map (slice_get vs) order) c.column.ensures.values ∙ column_of-picked place block.rows order (all_reach types block.rows place c.len-rows.ensures.typed below) in
    let same : c.in_ok-pick.field-0 ≡ record { col_type = get_or types place UInt8; values = column_of place rows } =
    c.in_ok-pick.ensures ∙ ap₂ (λ t vs. record { col_type = t; values = vs }) (sym kind) values in
    let len : length (take place types) ≡ place = length-take-le place types (omega arith) in
    record {
      made =
          c.push_reserved.ensures.items
          ∙ ap₂ (λ (cs : List Cells) (x : Cells). cs ++ x ∷ []) c.loop-place.invariant.made same
          ∙ sym (columns_from-push 0 (take place types) (get_or types place UInt8) rows place (omega arith))
          ∙ ap (λ ts. columns_from 0 ts rows) (sym (take_more types place UInt8 below));
      count = c.push_reserved.ensures.len ∙ ap (λ n. n + 1) c.loop-place.invariant.count;
      room = c.push_reserved.ensures.capacity ∙ c.loop-place.invariant.room;
    }

-- the columns are those of the picked rows
made : (c : After-loop-place) → c.loop-place.columns.items ≡ columns_from 0 c.args.self.now.types (picked c.args.self.now.rows c.args.order.now)
made c =
    let past : length c.args.self.now.types ≤ c.loop-place.place = omega arith in
    c.loop-place.invariant.made ∙ ap (λ ts. columns_from 0 ts (picked c.args.self.now.rows c.args.order.now)) (take_all c.loop-place.place c.args.self.now.types past)

even : (c : After-loop-place) → AreEven c.loop-place.columns.items (length c.args.order.now)
even c = even_picked c.args.self.now.types c.args.self.now.rows c.args.order.now c.len-rows.ensures.typed c.requires.within c.loop-place.columns.items (made c)

pub of_columns-requires-clause-even : goal.of_columns-requires-clause-even
of_columns-requires-clause-even c = even c

pub returns : goal.returns
returns c =
    c.of_columns.ensures
    ∙ grid_picked c.args.self.now.types c.args.self.now.rows c.args.order.now c.len-rows.ensures.typed c.requires.within c.loop-place.columns.items (made (goal.at.returns c).After-loop-place)
