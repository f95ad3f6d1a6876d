use Rattle.std.proofs.Common.{sym, ◌∙◌}
use Rattle.history_seat.proofs.Ruled.{has_word, may_note_plainly}
use Rattle.history_seat.proofs.history.History.plain_note.Goals as goal

pub split_seat-requires : goal.split_seat-requires
split_seat-requires g c =
    let here = c.args.self.now in
    let seat = c.seat.inside.place in (
      c.seat.invariant.0 ∙ sym here.table.0,
      has_word here.word.shared.table_id g.B.Room.table here.table.0 here.table.1,
      may_note_plainly here.word.shared.key seat.id seat.me.0 c.seat.invariant.1,
    )
