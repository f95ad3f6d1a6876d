-- a column without values for each type gone over, and room for the others
use Rattle.std.proofs.Common.{◌≡◌, length, take, vec_capacity, vec_len}
use Rattle.primary_marks.specs.Columns.{HaveKeys, key_types}
use Rattle.primary_marks.proofs.reading.empty_columns.Given as goal

abbrev pub invariant-loop-col_type : goal.invariant-loop-col_type
invariant-loop-col_type l = record {
  types : key_types l.columns.items ≡ take l.col_type-index l.types;
  empty : HaveKeys l.columns.items 0;
  count : vec_len l.columns ≡ l.col_type-index;
  room : vec_capacity l.columns ≡ length l.types;
}
