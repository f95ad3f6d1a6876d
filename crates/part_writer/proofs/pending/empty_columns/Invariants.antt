-- the columns gone over are made, and there is room for the others
use Rattle.std.proofs.Common.{◌≡◌, [], length, take, vec_len, vec_capacity}
use Rattle.mt_values.specs.Schemas.{column_types}
use Rattle.part_writer.specs.Growing.{columns_of}
use Rattle.part_writer.proofs.pending.empty_columns.Given as goal

abbrev pub invariant-loop-place : goal.invariant-loop-place
invariant-loop-place l = record {
  made : l.columns.items ≡ columns_of (column_types l.schema) (take l.place-index l.places) [];
  count : vec_len l.columns ≡ l.place-index;
  room : vec_capacity l.columns ≡ length l.places;
}
