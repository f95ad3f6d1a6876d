use Rattle.std.proofs.Common.{◌≡◌, ◌∷◌, ◌+◌, ◌++◌, [], List, length, take, get_or, zero-add, arith, sym, ◌∙◌, ap, ap₂}
use Rattle.std.proofs.lemmas.List.{take_all, take_more, length-take-le}
use Rattle.mt_values.specs.declared.value.ColType.TheVariants.{UInt8}
use Rattle.std.proofs.lemmas.Option.{slice_get-get_or}
use Rattle.mt_values.specs.Grid.{Cells, column_of, grid_of}
use Rattle.mt_values.proofs.Grids.{columns_from, columns_from-push, AreEven, AreEven-columns_from, types-columns_from, rows_of-columns_from, lengths_typed, HaveTypeAt-typed}
use Rattle.mt_values.proofs.block.Block.from_rows.Goals as goal
use Rattle.mt_values.proofs.block.Block.from_rows.Goals.{After-loop-place}

pub push_values-requires : goal.push_values-requires
push_values-requires c =
    rw c.new-column.ensures
    (HaveTypeAt-typed c.args.types.now c.args.rows.now c.loop-place.place _ c.requires.typed
    (slice_get-get_or c.args.types.now c.loop-place.place UInt8 c.loop-place-test.true))

pub loop-place-preserved : goal.loop-place-preserved
loop-place-preserved c =
    let types = c.args.types.now in
    let rows = c.args.rows.now in
    let place = c.loop-place.place in
    let invariant : c.loop-place.columns.items ≡ columns_from 0 (take place types) rows = c.loop-place.invariant.made in
    let same : c.push_values.new.column ≡ record { col_type = get_or types place UInt8; values = column_of place rows } =
    c.in_ok-push_values.ensures ∙ ap (λ (x : Cells). record { col_type = x.col_type; values = x.values ++ column_of place rows }) c.new-column.ensures in
    let len : length (take place types) ≡ place = length-take-le place types (omega (arith, c.loop-place-test.true)) in
    record {
      made =
          c.push_reserved.ensures.items
          ∙ ap₂ (λ (cs : List Cells) (x : Cells). cs ++ x ∷ []) invariant same
          ∙ sym (columns_from-push 0 (take place types) (get_or types place UInt8) rows place (omega arith))
          ∙ ap (λ ts. columns_from 0 ts rows) (sym (take_more types place UInt8 c.loop-place-test.true));
      count = c.push_reserved.ensures.len ∙ ap (λ n. n + 1) c.loop-place.invariant.count;
      room = c.push_reserved.ensures.capacity ∙ c.loop-place.invariant.room;
    }

-- the columns are those of the rows
made : (c : After-loop-place) → c.loop-place.columns.items ≡ columns_from 0 c.args.types.now c.args.rows.now
made c = c.loop-place.invariant.made ∙ ap (λ ts. columns_from 0 ts c.args.rows.now) (take_all c.loop-place.place c.args.types.now c.loop-place-test.false)

even : (c : After-loop-place) → AreEven c.loop-place.columns.items (length c.args.rows.now)
even c =
    rw (made c) (AreEven-columns_from 0 c.args.types.now c.args.rows.now (rw (← zero-add (length c.args.types.now)) at (lengths_typed c.args.types.now c.args.rows.now c.requires.typed)))

pub of_columns-requires-clause-even : goal.of_columns-requires-clause-even
of_columns-requires-clause-even c = even c

pub returns : goal.returns
returns c =
    let types = c.args.types.now in
    let rows = c.args.rows.now in
    c.of_columns.ensures
    ∙ ap (λ cs. grid_of cs (length rows)) (made (goal.at.returns c).After-loop-place)
    ∙ ap₂ (λ ts rs. record { types = ts; rows = rs }) (types-columns_from 0 types rows) (rows_of-columns_from types rows (lengths_typed types rows c.requires.typed))
