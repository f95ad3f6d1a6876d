-- the blocks gone over are kept
use Rattle.std.proofs.Common.{◌≡◌}
use Rattle.std.specs.Slice.Iter.{chunks_rest, chunks_size}
use Rattle.skip_index.proofs.Keeping.{AreKept}
use Rattle.skip_index.proofs.building.kept_blocks.Given as goal

abbrev pub invariant-loop-places : goal.invariant-loop-places
invariant-loop-places l = record {
  size : chunks_size l.places-iterator ≡ l.size;
  kept : AreKept l.kind l.cells.values l.order l.size l.blocks (chunks_rest l.places-iterator);
}
