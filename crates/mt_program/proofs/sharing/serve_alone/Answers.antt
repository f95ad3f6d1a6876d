use Rattle.std.proofs.Common.{◌++◌, ◌∙◌, [], ◌∷◌, List, All, inl, inr, refl, sym, ap, subst, arith}
use Rattle.std.proofs.lemmas.List.Elements.{All-cons, All-nil}
use Rattle.session.specs.shared_store.history_seat.declared.view.View.{View}
use Rattle.session.specs.shared_store.history_seat.Turns.{IsSession}
use Rattle.session.specs.shared_store.Sharing.{Finished}
use Rattle.session.specs.shared_store.Tallies.{Tally, tally}
use Rattle.session.specs.Answers.{KnowsOwn, having}
use Rattle.mt_program.specs.SeatServing.{SeatServes}
use Rattle.mt_program.specs.Serving.{Output}
use Rattle.mt_program.specs.Worlds.{storage_of}
use Rattle.mt_program.proofs.SeatScripts.{stays_of}
use Rattle.mt_program.proofs.sharing.serve_alone.Goals as goal

-- memory ran out before it was shared
pub returns-in-Err-clause-left : goal.returns-in-Err-clause-left
returns-in-Err-clause-left g c = inr (refl, refl, c.requires.root.shared.started_is, refl, refl)

-- session 0 as it is made
pub serve_session-end-requires-clause-session : goal.serve_session-end-requires-clause-session
serve_session-end-requires-clause-session g c κs within = subst IsSession (sym c.new-shared.ensures.seat) (refl, refl)

pub serve_session-end-requires-clause-own : goal.serve_session-end-requires-clause-own
serve_session-end-requires-clause-own g c κs within = subst KnowsOwn (sym c.new-shared.ensures.seat) refl

pub serve_session-end-requires-clause-parts : goal.serve_session-end-requires-clause-parts
serve_session-end-requires-clause-parts g c κs within = let is = ap (λ (t : Tally). t.parts) c.new-shared.ensures.share in omega (arith, is, c.requires.parts)

pub serve_session-end-requires-clause-out : goal.serve_session-end-requires-clause-out
serve_session-end-requires-clause-out g c κs within = ap (λ (t : Tally). t.out) c.new-shared.ensures.share

-- it is given back as a session
pub finish-disk-requires-after_bounds : goal.finish-disk-requires-after_bounds
finish-disk-requires-after_bounds g c κs within =
    let s = c.serve_session-end.ensures.run in
    let session = subst IsSession (sym c.new-shared.ensures.seat) (refl, refl) in
    let own_is = subst KnowsOwn (sym c.new-shared.ensures.seat) refl in
    let items = c.push_reserved.ensures.items ∙ ap (λ (l : List View). l ++ c.serve_session-end.new.seat ∷ []) c.in-Ok.ensures.items in
    subst (λ (l : List View). All IsSession l) (sym items)
    (All-cons IsSession c.serve_session-end.new.seat [] (stays_of g.F.Dir.files g.B.Names.given g.B.Room.before g.B.Names.opening g.B.Names.ledgers.parts _ _ _ _ _ session own_is s.ran).session (All-nil IsSession))

pub returns-clause-left : goal.returns-clause-left
returns-clause-left g c =
    let output : Output = record { before = g.K.Sink.written c.args.sink.now; after = g.K.Sink.written c.serve_session-end.new.sink } in
    let seat = c.serve_session-end.new.seat in
    let share = c.serve_session-end.new.share in
    let arm_was = g.R.Arm.failed c.args.arm.now in
    let arm = g.R.Arm.failed c.serve_session-end.new.arm in
    let parts = g.B.Names.ledgers.parts in
    let items = c.push_reserved.ensures.items ∙ ap (λ (l : List View). l ++ seat ∷ []) c.in-Ok.ensures.items in
    inl (
      seat,
      share,
      subst (λ (l : List View). Finished g.F.Dir.files g.B.Names.given g.B.Room.before g.B.Names.opening parts (storage_of g.D.Disk g.A.Annals (c.finish-disk.result.0, c.finish-disk.result.1)) (g.D.Disk.started c.finish-disk.result.0) l share) items c.finish-disk.ensures,
      subst (λ (v : View). SeatServes g.F.Dir.files g.B.Names.given g.B.Room.before g.B.Names.opening parts c.serve_session-end.result c.args.script.now (having v (tally parts 0 0 0 0) arm_was) (having seat share arm) output) c.new-shared.ensures.seat
          (subst (λ (t : Tally). SeatServes g.F.Dir.files g.B.Names.given g.B.Room.before g.B.Names.opening parts c.serve_session-end.result c.args.script.now (having c.new-shared.result.1 t arm_was) (having seat share arm) output) c.new-shared.ensures.share c.serve_session-end.ensures.run),
    )
