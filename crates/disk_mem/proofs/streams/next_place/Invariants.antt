use Rattle.std.proofs.Common.{◌≡◌, ◌≤◌, ◌-◌, length}
use Rattle.disk_mem.specs.Pieces.{ready, first, left_pieces}
use Rattle.disk_mem.proofs.streams.next_place.Given as goal

abbrev pub invariant-loop-piece : goal.invariant-loop-piece
invariant-loop-piece l = record {
  within : l.piece ≤ length l.pieces;
  inside : l.place ≤ length (first (left_pieces l.pieces l.piece 0));
  rest : ready (left_pieces l.pieces l.piece l.place) ≡ ready (left_pieces l.pieces l.initial.piece l.initial.place);
}

abbrev pub decreases-loop-piece : goal.decreases-loop-piece
decreases-loop-piece l = length l.pieces - l.piece
