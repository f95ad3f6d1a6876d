-- what is kept of the files gone over is taken, and of the others it is there
use Rattle.std.proofs.Common.{◌≡◌, ℕ, ◌≤◌, List, map, slice_get}
use Rattle.std.specs.List.{range_with_len}
use Rattle.mt_values.specs.declared.schema.Schema.{Schema}
use Rattle.mt_values.specs.ColumnBytes.{column_bytes}
use Rattle.mt_values.specs.Grid.{column_of}
use Rattle.mt_values.specs.Values.{Row}
use Rattle.primary_marks.specs.column_file.Granules.{marks_of}
use Rattle.part_writer.specs.Growing.{KeepsColumns}
use Rattle.part_writer.specs.PartFiles.{mark_of}
use Rattle.part_writer.proofs.column_out.take_columns.Given as goal

abbrev pub invariant-loop-number : goal.invariant-loop-number
invariant-loop-number l = record {
  rest : (k : ℕ) → l.number ≤ k → slice_get l.columns k ≡ slice_get l.initial.columns k;
  places : (schema : Schema) (rows : List Row) → KeepsColumns schema rows l.initial.columns → l.places ≡ map (λ n. marks_of schema.granularity (column_of n rows)) (range_with_len 0 l.number);
  marks : (schema : Schema) (rows : List Row) → KeepsColumns schema rows l.initial.columns → l.marks ≡ map (λ n. mark_of (column_bytes (column_of n rows))) (range_with_len 0 l.number);
}
