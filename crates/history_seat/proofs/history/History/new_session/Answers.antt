use Rattle.std.proofs.Common.{ap, arith, sym, ◌∙◌}
use Rattle.history_seat.proofs.Ruled.{has_word, may_make}
use Rattle.history_seat.proofs.history.History.new_session.Goals as goal

pub split_seat-place-requires : goal.split_seat-place-requires
split_seat-place-requires g c =
    let here = c.args.self.now in
    let seat = c.seat.inside.place in
    let is = c.seat.view_is in (
      c.seat.invariant.0 ∙ sym here.table.0,
      has_word here.word.shared.table_id g.B.Room.table here.table.0 here.table.1,
      may_make here.word.shared.key seat.id seat.me.0
          (ap (λ v. v.kind) is ∙ c.requires.session)
          (ap (λ v. v.number) is ∙ c.requires.zero)
          (omega (arith, c.requires.room, ap (λ v. v.made) is)),
    )
