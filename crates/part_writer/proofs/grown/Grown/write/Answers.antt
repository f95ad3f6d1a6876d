use Rattle.std.proofs.Common.{◌≡◌, ◌<◌, ◌++◌, All, List, ap, arith, length, length-append, map, subst, sym, take, ◌∙◌}
use Rattle.std.proofs.lemmas.List.Elements.{All-append, All-take}
use Rattle.std.proofs.lemmas.List.FromFn.{length-map-range_with_len}
use Rattle.mt_values.specs.declared.value.ColType.{ColType}
use Rattle.mt_values.specs.Grid.{Cells, picked}
use Rattle.mt_values.specs.Schemas.{column_types}
use Rattle.mt_values.specs.Values.{FitsType, Row, types_of}
use Rattle.mt_values.proofs.Grids.{length_picked_within}
use Rattle.skip_index.specs.Blocks.{index_of}
use Rattle.part_writer.specs.Growing.{KeepsColumns, type_at, with_rows}
use Rattle.part_writer.proofs.Contents.{content_length}
use Rattle.part_writer.proofs.Granules.{columns_types, rows_more}
use Rattle.part_writer.proofs.KeptRows.{first_picked, refilled}
use Rattle.part_writer.proofs.grown.Grown.write.Goals as goal

pub write_columns-requires-clause-few_columns : goal.write_columns-requires-clause-few_columns
write_columns-requires-clause-few_columns g c κs within = omega (arith, c.requires.some.keeps.table.few, content_length c.args.self.now.schema)

pub add_granules-requires-clause-each : goal.add_granules-requires-clause-each
add_granules-requires-clause-each g c =
    let schema = c.args.self.now.schema in
    ap length (c.deref_mut-2.ensures.value ∙ c.requires.some.keeps.indexes) ∙ length-map-range_with_len (λ n. index_of schema n c.requires.some.written) 0 (length schema.indexes)

pub add_granules-requires-clause-few_indexes : goal.add_granules-requires-clause-few_indexes
add_granules-requires-clause-few_indexes g c = omega (arith, c.requires.some.keeps.table.few, content_length c.args.self.now.schema)

pub add_rows-requires-clause-order : goal.add_rows-requires-clause-order
add_rows-requires-clause-order g c = All-take (λ p. p < length c.args.block.now.rows) 1 c.args.order.now c.requires.places

pub add_rows-requires-clause-types : goal.add_rows-requires-clause-types
add_rows-requires-clause-types g c =
    let schema = c.args.self.now.schema in
    ap (map (λ (x : Cells). x.col_type)) (c.deref_mut-3.ensures.value ∙ c.requires.some.keeps.keys)
    ∙ columns_types (column_types schema) schema.primary c.requires.some.keyed
    ∙ ap (λ (ts : List ColType). map (type_at ts) schema.primary) (sym c.requires.types)
    ∙ ap (map (type_at c.args.block.now.types)) (sym c.as_slice.ensures)

pub returns-clause-rows : goal.returns-clause-rows
returns-clause-rows g c = λ written keyed whole has.
    let schema = c.args.self.now.schema in
    let types = column_types schema in
    let block = c.args.block.now in
    let order = c.args.order.now in
    let more : List Row = picked block.rows order in
    let keeps = has.keeps in
    let first = first_picked block.rows order c.requires.places in
    let now = c.in_ok-write_columns.ensures in
    let columns = c.args.self.now.columns in
    let keys = c.args.self.now.keys in
    let indexes = c.args.self.now.indexes in
    let columns_are = refilled columns.items c.write_columns.new.columns columns.len (omega (arith, c.write_columns.auto.columns, ap length c.deref_mut.ensures.value, columns.ok.0)) in
    let keys_are = refilled keys.items c.add_rows.new.columns keys.len (omega (arith, c.add_rows.auto.columns, ap length c.deref_mut-3.ensures.value, keys.ok.0)) in
    let indexes_are = refilled indexes.items c.add_granules.new.indexes indexes.len (omega (arith, c.add_granules.auto.indexes, ap length c.deref_mut-2.ensures.value, indexes.ok.0)) in
    record {
      files = now.files written has.files;
      keeps = record {
        table = keeps.table;
        typed = All-append (λ (r : Row). types_of r ≡ types) written more keeps.typed now.typed;
        typed_pending = keeps.typed_pending;
        rows = omega (arith, c.in-Some.ensures, keeps.rows, length-append written more, length_picked_within block.rows order c.requires.places);
        columns = subst (KeepsColumns schema (written ++ more)) (sym columns_are) (now.kept written keeps.typed whole (subst (KeepsColumns schema written) (sym c.deref_mut.ensures.value) keeps.columns));
        keys =
            keys_are
            ∙ c.in_ok-add_rows.ensures
            ∙ ap (λ (rs : List Row). with_rows rs c.as_slice.result.now c.deref_mut-3.result.now) first
            ∙ ap (λ ps. with_rows (take 1 more) ps c.deref_mut-3.result.now) c.as_slice.ensures
            ∙ ap (λ (cs : List Cells). with_rows (take 1 more) schema.primary cs) (c.deref_mut-3.ensures.value ∙ keeps.keys)
            ∙ rows_more types schema.primary keyed (take 1 more);
        indexes = indexes_are ∙ c.in_ok-add_granules.ensures written keeps.typed whole (c.deref_mut-2.ensures.value ∙ keeps.indexes);
        pending_are = keeps.pending_are;
        count = keeps.count;
        fit = All-append (λ (r : Row). All FitsType r) written more keeps.fit now.encodable;
      };
    }
