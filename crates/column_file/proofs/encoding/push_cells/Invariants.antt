-- the bytes of the values at the places gone over are added
use Rattle.std.proofs.Common.{◌≡◌}
use Rattle.std.specs.Slice.Iter.{chunks_rest, chunks_size}
use Rattle.column_file.proofs.Ahead.{ArePushed}
use Rattle.column_file.proofs.encoding.push_cells.Given as goal

abbrev pub invariant-loop-part : goal.invariant-loop-part
invariant-loop-part l = record {
  size : chunks_size l.part-iterator ≡ 256;
  pushed : ArePushed l.cells.values l.places l.initial.bytes l.bytes (chunks_rest l.part-iterator);
}
