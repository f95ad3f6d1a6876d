use Rattle.std.proofs.Common.{◌∙◌}
use Rattle.sql_read.proofs.Pieces.{piece_shorter, said_more, said_all, said_nothing}
use Rattle.sql_read.proofs.escapes.string.Goals as goal

pub pieces-smaller : goal.pieces-smaller
pieces-smaller c = piece_shorter c.in-Byte.byte c.in-Byte.more c.pieces.rest.now c.in-Byte.ensures

pub pieces-preserved : goal.pieces-preserved
pieces-preserved c =
    rw c.in_ok-push-in-Byte.ensures.ok (said_more c.pieces.said c.in-Byte.byte c.in-Byte.more c.pieces.rest.now c.in-Byte.ensures ∙ c.pieces.invariant)

pub returns-in-End : goal.returns-in-End
returns-in-End c = said_all c.pieces.said c.in-End.more c.pieces.rest.now c.in-End.ensures ∙ c.pieces.invariant

pub returns-in-Faulty : goal.returns-in-Faulty
returns-in-Faulty c = said_nothing c.pieces.said c.pieces.rest.now c.in-Faulty.ensures ∙ c.pieces.invariant
