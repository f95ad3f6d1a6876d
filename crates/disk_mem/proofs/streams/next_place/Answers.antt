use Rattle.std.proofs.Common.{◌∙◌, arith}
use Rattle.disk_mem.proofs.PieceReads.{at_piece}
use Rattle.disk_mem.proofs.streams.next_place.Goals as goal

pub returns-then-place-len-clause-ready : goal.returns-then-place-len-clause-ready
returns-then-place-len-clause-ready c =
    at_piece c.args.pieces.now c.loop-piece.piece c.loop-piece.place c.index-pieces-piece.result c.loop-piece-test.true c.index-pieces-piece.is (omega arith)
    ∙ c.loop-piece.invariant.rest
