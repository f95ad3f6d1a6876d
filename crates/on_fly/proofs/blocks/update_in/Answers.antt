use Rattle.std.proofs.Common.{◌≡◌, ◌<◌, ◌≤◌, ◌+◌, ◌++◌, ◌∷◌, [], List, ap, ap₂, arith, get_or, length, map, sym, take, ◌∙◌}
use Rattle.std.proofs.lemmas.List.{length-map, length-take-le, take_all, take_more}
use Rattle.std.proofs.lemmas.Option.{get_or_from_slice_get}
use Rattle.mt_values.specs.declared.value.ColType.TheVariants.{UInt8}
use Rattle.mt_values.specs.Grid.{Cells, column_of}
use Rattle.mt_values.specs.Tests.{eval}
use Rattle.mt_values.proofs.Grids.{columns_from, columns_from-push}
use Rattle.on_fly.specs.Updates.{updated_if}
use Rattle.on_fly.proofs.ByColumns.{even_updated, grid_updated}
use Rattle.on_fly.proofs.blocks.update_in.Goals as goal
use Rattle.on_fly.proofs.blocks.update_in.Goals.{After-loop-place}

pub updated_column-requires-clause-count : goal.updated_column-requires-clause-count
updated_column-requires-clause-count c =
    let rows = c.args.block.now.rows in
    ap length (c.deref.ensures.value ∙ c.in_ok-met.ensures) ∙ length-map rows (eval c.args.condition.now)

pub loop-place-preserved : goal.loop-place-preserved
loop-place-preserved c =
    let block = c.args.block.now in
    let types = block.types in
    let place = c.loop-place.place in
    let rows = map (updated_if c.args.assignments.now c.args.condition.now) block.rows in
    let column = c.in_ok-updated_column.field-0 in
    let below : place < length types = omega arith in
    let kind : get_or types place UInt8 ≡ column.col_type = get_or_from_slice_get types place column.col_type UInt8 c.in_ok-updated_column.ensures.col_type in
    let values : column.values ≡ column_of place rows = c.in_ok-updated_column.ensures.values c.args.condition.now (c.deref.ensures.value ∙ c.in_ok-met.ensures) in
    let same : column ≡ record { col_type = get_or types place UInt8; values = column_of place rows } = ap₂ (λ t vs. record { col_type = t; values = vs }) (sym kind) values in
    let len : length (take place types) ≡ place = length-take-le place types (omega arith) in
    record {
      made =
          c.push_reserved.ensures.items
          ∙ ap₂ (λ (cs : List Cells) (x : Cells). cs ++ x ∷ []) c.loop-place.invariant.made same
          ∙ sym (columns_from-push 0 (take place types) (get_or types place UInt8) rows place (omega arith))
          ∙ ap (λ ts. columns_from 0 ts rows) (sym (take_more types place UInt8 below));
      count = c.push_reserved.ensures.len ∙ ap (λ n. n + 1) c.loop-place.invariant.count;
      room = c.push_reserved.ensures.capacity ∙ c.loop-place.invariant.room;
    }

-- the columns are those of the updated rows
made : (c : After-loop-place) → c.loop-place.columns.items ≡ columns_from 0 c.args.block.now.types (map (updated_if c.args.assignments.now c.args.condition.now) c.args.block.now.rows)
made c =
    let past : length c.args.block.now.types ≤ c.loop-place.place = omega arith in
    c.loop-place.invariant.made
    ∙ ap (λ ts. columns_from 0 ts (map (updated_if c.args.assignments.now c.args.condition.now) c.args.block.now.rows)) (take_all c.loop-place.place c.args.block.now.types past)

pub of_columns-requires-clause-even : goal.of_columns-requires-clause-even
of_columns-requires-clause-even c =
    let block = c.args.block.now in
    even_updated block.types c.args.assignments.now c.args.condition.now block.rows c.len-rows.ensures.typed c.loop-place.columns.items c.len-rows.result c.len-rows.ensures.count (made c)

pub returns : goal.returns
returns c =
    let block = c.args.block.now in
    c.of_columns.ensures
    ∙ grid_updated block.types c.args.assignments.now c.args.condition.now block.rows c.len-rows.ensures.typed c.loop-place.columns.items c.len-rows.result c.len-rows.ensures.count
    (made (goal.at.returns c).After-loop-place)
