use Rattle.std.proofs.Common.{sym, ◌∙◌}
use Rattle.history_seat.proofs.Ruled.{has_word, may_meet}
use Rattle.history_seat.proofs.history.History.meet.Goals as goal

pub join_seat-requires : goal.join_seat-requires
join_seat-requires g c =
    let here = c.args.self.now in
    let seat = c.seat.inside.place in
    let note = c.note.inside.place in (
      c.seat.invariant.0 ∙ sym here.table.0,
      c.note.invariant.0 ∙ sym here.table.0,
      c.note.invariant.2,
      has_word here.word.shared.table_id g.B.Room.table here.table.0 here.table.1,
      may_meet here.word.shared.key seat.id seat.me.0 note.id note.me.0 c.seat.invariant.1 c.note.invariant.1,
    )
