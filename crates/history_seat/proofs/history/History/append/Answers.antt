use Rattle.std.proofs.Common.{length, All, arith, ap, subst, sym, ◌∙◌}
use Rattle.history_seat.specs.declared.view.View.{View}
use Rattle.history_seat.specs.Views.{Begins}
use Rattle.history_seat.proofs.Ruled.{has_word, may_add}
use Rattle.history_seat.proofs.history.History.append.Goals as goal

pub fetch_add-requires : goal.fetch_add-requires
fetch_add-requires g c =
    let here = c.args.self.now in
    let seat = c.seat.inside.place in
    let is = c.seat.view_is in (
      c.seat.invariant.0 ∙ sym here.table.0,
      has_word here.word.shared.table_id g.B.Room.table here.table.0 here.table.1,
      may_add here.word.shared.key here.word.shared.table_id.slots seat.id seat.me g.T.Entered.entry
          (ap (λ v. v.kind) is ∙ c.requires.session)
          (c.requires.named ∙ sym (ap (λ v. v.number) is))
          (ap (λ v. v.pen) is ∙ c.requires.pen)
          (omega (arith, c.requires.room, here.base, ap (λ v. length v.list) is)),
    )

pub returns-clause-olds : goal.returns-clause-olds
returns-clause-olds g c = subst (λ (v : View). All (λ o. Begins o v.list) v.olds) c.seat.view_is c.fetch_add.ensures.2.2
