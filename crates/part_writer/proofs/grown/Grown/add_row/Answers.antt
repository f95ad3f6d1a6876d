use Rattle.std.proofs.Common.{◌≡◌, ◌∷◌, [], List, ap, arith, length, map, sym, ◌∙◌}
use Rattle.std.specs.List.{range_with_len}
use Rattle.std.proofs.lemmas.List.{length_push, length-map}
use Rattle.std.proofs.lemmas.List.Elements.{All-push}
use Rattle.mt_values.specs.Grid.{Cells}
use Rattle.mt_values.specs.Schemas.{column_types}
use Rattle.mt_values.specs.Values.{Row, type_of, types_of}
use Rattle.part_writer.specs.Growing.{with_rows}
use Rattle.part_writer.proofs.Granules.{rows_more}
use Rattle.part_writer.proofs.KeptRows.{refilled, table_types, width_is}
use Rattle.part_writer.proofs.grown.Grown.add_row.Goals as goal

pub add_row-requires : goal.add_row-requires
add_row-requires c =
    let keeps = c.requires.some.keeps in
    ap (map (λ (x : Cells). x.col_type)) (c.deref_mut.ensures.value ∙ keeps.pending_are) ∙ table_types c.args.self.now.schema c.requires.some.pending ∙ sym c.requires.typed

pub returns-clause-rows : goal.returns-clause-rows
returns-clause-rows c = λ written keyed pending keeps.
    let schema = c.args.self.now.schema in
    let types = column_types schema in
    let row = c.args.row.now in
    let n = length schema.columns in
    let own = c.args.self.now.pending in
    let long : length c.add_row.new.columns ≡ own.len = omega (arith, c.add_row.auto.columns, ap length c.deref_mut.ensures.value, own.ok.0) in
    let wide : length row ≡ n = sym (length-map row type_of) ∙ ap length c.requires.typed ∙ width_is schema in
    record {
      table = keeps.table;
      typed = keeps.typed;
      typed_pending = All-push (λ (r : Row). types_of r ≡ types) pending row keeps.typed_pending c.requires.typed;
      rows = keeps.rows;
      columns = keeps.columns;
      keys = keeps.keys;
      indexes = keeps.indexes;
      pending_are =
          refilled own.items c.add_row.new.columns own.len long
          ∙ c.in_ok-add_row.ensures
          ∙ ap (λ m. with_rows (row ∷ []) (range_with_len 0 m) c.deref_mut.result.now) wide
          ∙ ap (λ (cs : List Cells). with_rows (row ∷ []) (range_with_len 0 n) cs) (c.deref_mut.ensures.value ∙ keeps.pending_are)
          ∙ rows_more types (range_with_len 0 n) pending (row ∷ []);
      count = omega (arith, c.in-Some.ensures, keeps.count, length_push pending row);
      fit = keeps.fit;
    }
