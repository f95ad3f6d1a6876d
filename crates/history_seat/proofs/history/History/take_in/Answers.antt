use Rattle.std.proofs.Common.{length}
use Rattle.history_seat.proofs.Turning.{takes_front}
use Rattle.history_seat.proofs.history.History.take_in.Goals as goal

pub returns-clause-begins : goal.returns-clause-begins
returns-clause-begins g c =
    takes_front (length g.B.Room.before) c.length.result c.args.lock.now c.args.note c.meet.new.seat c.requires.lock.1 c.meet.ensures c.length.ensures.learned
