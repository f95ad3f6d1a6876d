use Rattle.std.proofs.Common.{[], ap, arith, subst, sym}
use Rattle.atomic_table.specs.Table.{Splits}
use Rattle.history_seat.specs.Views.{lock_view, session_view}
use Rattle.history_seat.proofs.Ruled.{Ruled, may_open}
use Rattle.history_seat.proofs.opening.Blank.open.Goals as goal

pub split_seat-zero-requires : goal.split_seat-zero-requires
split_seat-zero-requires g c =
    let i = c.self.invariant in
    let first = c.self.inside.first in
    let base = c.self.inside.word.shared.key in
    (i.0, omega (arith, i.1), subst (λ v. Splits (Ruled base) first.id v lock_view (session_view 0 [])) (sym (ap (λ m. m.0) i.2)) (may_open base first.id))
