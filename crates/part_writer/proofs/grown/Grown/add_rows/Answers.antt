use Rattle.std.proofs.Common.{◌≡◌, ◌<◌, All, List, ap, arith, length, length-append, map, subst, sym, ◌∙◌}
use Rattle.std.specs.List.{range_with_len}
use Rattle.std.proofs.lemmas.List.Elements.{All-append}
use Rattle.mt_values.specs.declared.value.ColType.{ColType}
use Rattle.mt_values.specs.Grid.{AreRowsOf, Cells, picked}
use Rattle.mt_values.specs.Schemas.{column_types}
use Rattle.mt_values.specs.Values.{Row, types_of}
use Rattle.mt_values.proofs.Grids.{length_picked_within}
use Rattle.part_writer.specs.Growing.{type_at, with_rows}
use Rattle.part_writer.proofs.Contents.{content_length}
use Rattle.part_writer.proofs.Filling.{picked_typed}
use Rattle.part_writer.proofs.Granules.{columns_types, rows_more}
use Rattle.part_writer.proofs.KeptRows.{all_within, refilled}
use Rattle.part_writer.proofs.grown.Grown.add_rows.Goals as goal
use Rattle.part_writer.proofs.grown.Grown.add_rows.Goals.{After-deref}

pub overflow_cast-len : goal.overflow_cast-len
overflow_cast-len c = omega (arith, c.requires.some.keeps.table.few, content_length c.args.self.now.schema, c.len-2.ensures)

-- the places of all columns
places_are : (c : After-deref) → c.deref.result.now ≡ range_with_len 0 (length c.args.self.now.schema.columns)
places_are c = c.deref.ensures.value ∙ c.in_ok-all.ensures ∙ ap (range_with_len 0) c.len-2.ensures

pub add_rows-requires-clause-places : goal.add_rows-requires-clause-places
add_rows-requires-clause-places c =
    let at = (goal.at.add_rows-requires-clause-places c).After-deref in
    subst (λ (ts : List ColType). All (λ p. p < length ts) c.deref.result.now) (sym c.requires.types)
    (subst (All (λ p. p < length (column_types c.args.self.now.schema))) (sym (places_are at)) (all_within c.args.self.now.schema))

pub add_rows-requires-clause-types : goal.add_rows-requires-clause-types
add_rows-requires-clause-types c =
    let at = (goal.at.add_rows-requires-clause-types c).After-deref in
    let types = column_types c.args.self.now.schema in
    let places = range_with_len 0 (length c.args.self.now.schema.columns) in
    ap (map (λ (x : Cells). x.col_type)) (c.deref_mut.ensures.value ∙ c.requires.some.keeps.pending_are)
    ∙ columns_types types places c.requires.some.pending
    ∙ ap (λ (ts : List ColType). map (type_at ts) places) (sym c.requires.types)
    ∙ ap (map (type_at c.args.block.now.types)) (sym (places_are at))

pub returns-clause-rows : goal.returns-clause-rows
returns-clause-rows c = λ written keyed pending keeps.
    let at = (goal.at.returns-clause-rows c).After-deref in
    let schema = c.args.self.now.schema in
    let types = column_types schema in
    let block = c.args.block.now in
    let more : List Row = picked block.rows c.args.order.now in
    let places = range_with_len 0 (length schema.columns) in
    let own = c.args.self.now.pending in
    let long : length c.add_rows.new.columns ≡ own.len = omega (arith, c.add_rows.auto.columns, ap length c.deref_mut.ensures.value, own.ok.0) in
    let typed : AreRowsOf types more = subst (λ (ts : List ColType). AreRowsOf ts more) c.requires.types (picked_typed block.types block.rows c.args.order.now c.len.ensures.typed c.requires.places) in
    record {
      table = keeps.table;
      typed = keeps.typed;
      typed_pending = All-append (λ (r : Row). types_of r ≡ types) pending more keeps.typed_pending typed;
      rows = keeps.rows;
      columns = keeps.columns;
      keys = keeps.keys;
      indexes = keeps.indexes;
      pending_are =
          refilled own.items c.add_rows.new.columns own.len long
          ∙ c.in_ok-add_rows.ensures
          ∙ ap (λ ps. with_rows more ps c.deref_mut.result.now) (places_are at)
          ∙ ap (λ (cs : List Cells). with_rows more places cs) (c.deref_mut.ensures.value ∙ keeps.pending_are)
          ∙ rows_more types places pending more;
      count = omega (arith, c.in-Some.ensures, keeps.count, length-append pending more, length_picked_within block.rows c.args.order.now c.requires.places);
      fit = keeps.fit;
    }
