use Rattle.std.proofs.Common.{◌≡◌, ℕ, length, subst, sym, ◌∙◌}
use Rattle.atomic_table.specs.Table.{Allows, Me}
use Rattle.history_seat.specs.declared.view.View.{View}
use Rattle.history_seat.specs.Turns.{Learned}
use Rattle.history_seat.proofs.Ruled.{Ruled, has_word, may_load}
use Rattle.history_seat.proofs.history.History.length.Goals as goal

pub load-requires : goal.load-requires
load-requires g c =
    let here = c.args.self.now in
    let seat = c.seat.inside.place in
    let base = length g.B.Room.before in (
      c.seat.invariant.0 ∙ sym here.table.0,
      has_word here.word.shared.table_id g.B.Room.table here.table.0 here.table.1,
      subst
          (λ n. Allows (Ruled n) here.word.shared.table_id.slots seat.id seat.me 0 (λ m. m) (λ m (next : Me ℕ View). (next ≡ seat.me) × Learned base seat.me.0 m))
          (sym here.base)
          (may_load base here.word.shared.table_id.slots seat.id seat.me),
    )
