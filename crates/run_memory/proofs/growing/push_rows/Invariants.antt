-- the part was not left by a refused call, and is of the same table
use Rattle.std.proofs.Common.{◌≡◌}
use Rattle.row_merge.specs.part_writer.Growing.{IsWhole}
use Rattle.run_memory.proofs.growing.push_rows.Given as goal

abbrev pub invariant-loop-place : goal.invariant-loop-place
invariant-loop-place l = record {
  whole : IsWhole l.out;
  schema : l.out.grown.schema ≡ l.initial.out.grown.schema;
}
