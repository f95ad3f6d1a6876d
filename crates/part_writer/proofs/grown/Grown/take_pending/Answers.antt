use Rattle.std.proofs.Common.{◌≡◌, ◌<◌, All, Global, [], List, Vec, ap, ap₂, arith, length, subst, sym, refl, ◌∙◌}
use Rattle.std.specs.List.{range_with_len}
use Rattle.std.proofs.lemmas.List.Elements.{All-nil}
use Rattle.mt_values.specs.declared.column.ColumnData.{ColumnData}
use Rattle.mt_values.specs.Grid.{Cells, grid_of}
use Rattle.mt_values.specs.Schemas.{column_types}
use Rattle.mt_values.specs.Values.{Row, types_of}
use Rattle.part_writer.specs.Growing.{columns_of}
use Rattle.part_writer.proofs.Contents.{content_length}
use Rattle.part_writer.proofs.KeptRows.{all_within, block_of, even_columns, own_within}
use Rattle.part_writer.proofs.grown.Grown.take_pending.Goals as goal

pub overflow_cast-len : goal.overflow_cast-len
overflow_cast-len c = omega (arith, c.requires.some.keeps.table.few, content_length c.args.self.now.schema, c.len.ensures)

pub empty_columns-requires : goal.empty_columns-requires
empty_columns-requires c =
    let all = c.deref.ensures.value ∙ c.in_ok-all.ensures ∙ ap (range_with_len 0) c.len.ensures in
    subst (All (λ p. p < length c.args.self.now.schema.columns)) (sym all) (own_within c.args.self.now.schema)

pub of_columns-requires-clause-even : goal.of_columns-requires-clause-even
of_columns-requires-clause-even c =
    let schema = c.args.self.now.schema in
    let keeps = c.requires.some.keeps in
    let are = ap (λ (v : Vec ColumnData Global). v.items) c.replace-columns.ensures.value ∙ keeps.pending_are in
    let even = even_columns (column_types schema) c.requires.some.pending keeps.typed_pending (range_with_len 0 (length schema.columns)) (all_within schema) in
    subst (λ n. All (λ (x : Cells). length x.values ≡ n) c.replace-columns.result.items) (sym keeps.count) (subst (All (λ (x : Cells). length x.values ≡ length c.requires.some.pending)) (sym are) even)

pub returns-clause-rows : goal.returns-clause-rows
returns-clause-rows c = λ written keyed pending keeps.
    let schema = c.args.self.now.schema in
    let types = column_types schema in
    let are = ap (λ (v : Vec ColumnData Global). v.items) c.replace-columns.ensures.value ∙ keeps.pending_are in
    let all = c.deref.ensures.value ∙ c.in_ok-all.ensures ∙ ap (range_with_len 0) c.len.ensures in
    let none = ap (λ (v : Vec ColumnData Global). v.items) c.replace-columns.ensures.after ∙ c.in_ok-none.ensures ∙ ap (λ ps. columns_of types ps []) all in (
      c.of_columns.ensures ∙ ap₂ (λ (cs : List Cells) n. grid_of cs n) are keeps.count ∙ block_of schema pending keeps.typed_pending,
      record {
        table = keeps.table;
        typed = keeps.typed;
        typed_pending = All-nil (λ (r : Row). types_of r ≡ types);
        rows = keeps.rows;
        columns = keeps.columns;
        keys = keeps.keys;
        indexes = keeps.indexes;
        pending_are = none;
        count = refl;
        fit = keeps.fit;
      },
    )
