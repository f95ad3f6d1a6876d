use Rattle.std.proofs.Common.{length, subst, sym}
use Rattle.history_seat.specs.Turns.{Holds}
use Rattle.history_seat.proofs.Turning.{turn_begins}
use Rattle.history_seat.proofs.history.History.take_pen.Goals as goal

pub returns-clause-seat : goal.returns-clause-seat
returns-clause-seat g c =
    subst (λ v. Holds c.args.seat.now c.args.lock.now v) (sym c.length.ensures.same)
    (turn_begins (length g.B.Room.before) c.length.result c.args.lock.now c.args.seat.now c.note-note.result c.meet.new.seat
    c.requires.session c.requires.lock c.note-note.ensures.note c.meet.ensures c.length.ensures.learned)
