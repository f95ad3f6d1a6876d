-- the granules gone over are written
use Rattle.std.proofs.Common.{◌≡◌}
use Rattle.std.specs.Slice.Iter.{chunks_rest, chunks_size}
use Rattle.column_file.proofs.Writing.{AreWritten}
use Rattle.column_file.proofs.encoding.encode_cells.Given as goal

abbrev pub invariant-loop-granule : goal.invariant-loop-granule
invariant-loop-granule l = record {
  size : chunks_size l.granule-iterator ≡ l.granularity;
  written : AreWritten l.cells.values l.order l.granularity l.bytes l.marks (chunks_rest l.granule-iterator);
}
