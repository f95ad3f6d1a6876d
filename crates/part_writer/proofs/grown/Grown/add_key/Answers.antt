use Rattle.std.proofs.Common.{◌≡◌, ◌∷◌, [], List, ap, arith, length, map, sym, ◌∙◌}
use Rattle.std.proofs.lemmas.Result.{on_ok_weaker}
use Rattle.mt_values.specs.declared.value.ColType.{ColType}
use Rattle.mt_values.specs.Grid.{Cells, picked}
use Rattle.mt_values.specs.Schemas.{column_types}
use Rattle.mt_values.specs.Values.{Row}
use Rattle.part_writer.specs.Growing.{type_at, with_rows}
use Rattle.part_writer.proofs.Granules.{columns_types, rows_more}
use Rattle.part_writer.proofs.KeptRows.{refilled}
use Rattle.part_writer.proofs.grown.Grown.add_key.Goals as goal

pub add_rows-requires-clause-types : goal.add_rows-requires-clause-types
add_rows-requires-clause-types c =
    let schema = c.args.self.now.schema in
    ap (map (λ (x : Cells). x.col_type)) (c.deref_mut.ensures.value ∙ c.requires.some.keeps.keys)
    ∙ columns_types (column_types schema) schema.primary c.requires.some.keyed
    ∙ ap (λ (ts : List ColType). map (type_at ts) schema.primary) (sym c.requires.types)
    ∙ ap (map (type_at c.args.block.now.types)) (sym c.as_slice.ensures)

pub returns-clause-rows : goal.returns-clause-rows
returns-clause-rows c = λ written keyed pending keeps.
    let schema = c.args.self.now.schema in
    let own = c.args.self.now.keys in
    let long : length c.add_rows.new.columns ≡ own.len = omega (arith, c.add_rows.auto.columns, ap length c.deref_mut.ensures.value, own.ok.0) in
    let more : List Row = picked c.args.block.now.rows (c.args.place ∷ []) in
    on_ok_weaker c.add_rows.result
    (λ is. record {
      table = keeps.table;
      typed = keeps.typed;
      typed_pending = keeps.typed_pending;
      rows = keeps.rows;
      columns = keeps.columns;
      keys =
          refilled own.items c.add_rows.new.columns own.len long
          ∙ is
          ∙ ap (λ ps. with_rows more ps c.deref_mut.result.now) c.as_slice.ensures
          ∙ ap (λ (cs : List Cells). with_rows more schema.primary cs) (c.deref_mut.ensures.value ∙ keeps.keys)
          ∙ rows_more (column_types schema) schema.primary keyed more;
      indexes = keeps.indexes;
      pending_are = keeps.pending_are;
      count = keeps.count;
      fit = keeps.fit;
    })
    c.add_rows.ensures
