use Rattle.std.proofs.Common.{ap, sym, ◌∙◌}
use Rattle.history_seat.proofs.Ruled.{has_word, may_try}
use Rattle.history_seat.proofs.history.History.set_try.Goals as goal

pub load-requires : goal.load-requires
load-requires g c =
    let here = c.args.self.now in
    let seat = c.seat.inside.place in
    let is = c.seat.view_is in (
      c.seat.invariant.0 ∙ sym here.table.0,
      has_word here.word.shared.table_id g.B.Room.table here.table.0 here.table.1,
      may_try here.word.shared.key here.word.shared.table_id.slots seat.id seat.me g.T.Entered.entry
          (ap (λ v. v.kind) is ∙ c.requires.session)
          (c.requires.named ∙ sym (ap (λ v. v.number) is))
          (ap (λ v. v.pen) is ∙ c.requires.pen),
    )
