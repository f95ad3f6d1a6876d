use Rattle.std.proofs.Common.{◌≡◌, ◌<◌, ◌+◌, ◌-◌, ℕ, zero, suc, refl, ap, sym, ◌∙◌, subst, arith}
use Rattle.history_seat.specs.Views.{Begins}
use Rattle.root_commits.specs.Commits.{cause_of}
use Rattle.shared_store.specs.Handed.{Handing, MayPut}
use Rattle.shared_store.specs.Sharing.{Shown, shown}
use Rattle.shared_store.specs.Tallies.{Tally, levels_by, stops_by, tally}
use Rattle.shared_store.specs.Turns.{CountsTurn, ShowsPut}
use Rattle.shared_store.specs.Works.{PutsWork}
use Rattle.shared_store.proofs.Keeping.{IsAudited}
use Rattle.shared_store.proofs.Putting.{put_back, put_turn, shared_put}
use Rattle.shared_store.proofs.Risen.{tally_as}
use Rattle.shared_store.proofs.locked.Locked.put_work.Goals as goal

-- an amount stands on a part
has_part : (parts amount : ℕ) → (parts ≡ 0 → amount ≡ 0) → 0 < amount → 0 < parts
has_part zero amount backed some = absurd (let n = backed refl in omega (arith, n, some))
has_part (suc parts) amount backed some = omega arith

pub add-requires : goal.add-requires
add-requires g c =
    let has = ap (λ (t : Tally). t.out) c.share.view_is in
    let part = has_part c.share.inside.works.parts c.share.inside.works.amount c.audit.ensures.backed (omega (arith, c.requires.out, has)) in
    omega (arith, part, c.share.invariant.0)

pub count_faults-requires-clause-parts : goal.count_faults-requires-clause-parts
count_faults-requires-clause-parts g c =
    let has = ap (λ (t : Tally). t.out) c.share.view_is in
    let part = has_part c.share.inside.works.parts c.share.inside.works.amount c.audit.ensures.backed (omega (arith, c.requires.out, has)) in
    omega (arith, part, c.share.invariant.2)

pub add-requires-2 : goal.add-requires-2
add-requires-2 g c =
    let has = ap (λ (t : Tally). t.out) c.share.view_is in
    let part = has_part c.share.inside.works.parts c.share.inside.works.amount c.audit.ensures.backed (omega (arith, c.requires.out, has)) in
    omega (arith, part, c.share.invariant.1)

pub invariant_of-self : goal.invariant_of-self
invariant_of-self g c =
    let i = c.self.inside in
    let x = c.self.invariant in
    let work = c.work.inside in
    let part = c.args.part in
    let may = subst (λ (h : Handing g.row.F.Denot). MayPut g.B.Names.given g.B.Room.before h.note.list h.taken part.sealed part.loaded) (sym c.work.view_is) c.requires.may in
    let was : Shown g.row.F.Denot = shown i.engine i.seat.list i.seat.begun i.out i.stops.total i.levels.total i.faults.total in
    let now : Shown g.row.F.Denot = shown c.put_work-answer.new.self c.take_in.new.lock.list c.take_in.new.lock.begun i.out c.add.new.self.total c.add-2.new.self.total c.count_faults.new.book.total in
    let has = ap (λ (t : Tally). t.out) c.share.view_is in (
      x.0 ∙ sym c.audit.ensures.total,
      c.take_in.ensures.lock,
      shared_put g.F.Dir.files g.B.Names.given g.B.Room.before g.B.Names.opening was now x.2 c.put_work-answer.ensures.goes_on c.take_in.ensures.list c.take_in.ensures.begun work.taken part.sealed part.loaded part work.note.list c.take_in.ensures.begins c.work.invariant may
          c.put_work-answer.result c.put_work-answer.ensures.puts (omega (arith, x.0, c.audit.ensures.bound, c.requires.out, has))
          (c.add.ensures.total ∙ (ap (λ (n : ℕ). n + c.stops_of.result) c.audit-2.ensures.total ∙ ap (λ (n : ℕ). i.stops.total + n) c.stops_of.ensures)) (c.add-2.ensures.total ∙ ap (λ (n : ℕ). i.levels.total + n) c.levels_of.ensures)
          (omega (arith, c.count_faults.ensures.total, c.audit-3.ensures.total, c.faults-now.ensures, c.faults-before.ensures)),
    )

pub returns-clause-turn : goal.returns-clause-turn
returns-clause-turn g c =
    let i = c.self.inside in
    let work = c.work.inside in
    let part = c.args.part in
    let may = subst (λ (h : Handing g.row.F.Denot). MayPut g.B.Names.given g.B.Room.before h.note.list h.taken part.sealed part.loaded) (sym c.work.view_is) c.requires.may in
    let was : Shown g.row.F.Denot = shown i.engine i.seat.list i.seat.begun i.out i.stops.total i.levels.total i.faults.total in
    let now : Shown g.row.F.Denot = shown c.put_work-answer.new.self c.take_in.new.lock.list c.take_in.new.lock.begun i.out c.add.new.self.total c.add-2.new.self.total c.count_faults.new.book.total in
    let least : IsAudited g.B.Names.ledgers.parts c.args.share.now was = subst (λ (t : Tally). IsAudited g.B.Names.ledgers.parts t was) c.share.view_is (record { stops = c.audit-2.ensures.bound; faults = c.audit-3.ensures.bound; all = λ all. c.audit-3.ensures.whole (c.share.invariant.2 ∙ all) }) in
    let result = c.put_work-answer.result in
    let v = c.share.view_is in
    let counted : c.end_work.new.share ≡ tally c.args.share.now.parts (c.args.share.now.out - 1) (c.args.share.now.stops + stops_by result) (c.args.share.now.levels + levels_by result) (c.args.share.now.faults + (now.root.storage.failed - was.root.storage.failed)) =
    c.end_work.ensures.counted
    ∙ tally_as c.audit.new.share.parts c.args.share.now.parts (c.audit.new.share.amount - 1) (c.args.share.now.out - 1) c.add.new.share.amount (c.args.share.now.stops + stops_by result) c.add-2.new.share.amount (c.args.share.now.levels + levels_by result) c.count_faults.new.share.amount (c.args.share.now.faults + (now.root.storage.failed - was.root.storage.failed))
    (c.audit.ensures.parts ∙ ap (λ (t : Tally). t.parts) v) (ap (λ (n : ℕ). n - 1) (c.audit.ensures.amount ∙ ap (λ (t : Tally). t.out) v))
    (let same = ap (λ (t : Tally). t.stops) v in omega (arith, same, c.add.ensures.amount, c.audit-2.ensures.amount, c.stops_of.ensures))
    (let same = ap (λ (t : Tally). t.levels) v in omega (arith, same, c.add-2.ensures.amount, c.levels_of.ensures))
    (let same = ap (λ (t : Tally). t.faults) v in omega (arith, same, c.count_faults.ensures.amount, c.audit-3.ensures.amount, c.faults-now.ensures, c.faults-before.ensures)) in
    subst (λ (h : Handing g.row.F.Denot). CountsTurn g.F.Dir.files g.B.Names.given g.B.Room.before g.B.Names.opening c.args.self.now.list g.B.Names.ledgers.parts part.sealed.failed (c.args.share.now.out - 1) (cause_of result) (ShowsPut h.taken result) c.args.share.now c.end_work.new.share) c.work.view_is
    (subst (λ (s : Shown g.row.F.Denot). CountsTurn g.F.Dir.files g.B.Names.given g.B.Room.before g.B.Names.opening s.list g.B.Names.ledgers.parts part.sealed.failed (c.args.share.now.out - 1) (cause_of result) (ShowsPut work.taken result) c.args.share.now c.end_work.new.share) c.self.view_is
    (put_turn g.F.Dir.files g.B.Names.given g.B.Room.before g.B.Names.opening was now c.self.invariant.2 c.put_work-answer.ensures.goes_on c.take_in.ensures.list c.take_in.ensures.begun work.taken part.sealed part.loaded part work.note.list c.take_in.ensures.begins c.work.invariant may
    g.B.Names.ledgers.parts c.args.share.now c.end_work.new.share least result c.put_work-answer.ensures.puts counted))

-- what it did to the root: the work was put, and then marks may have been taken away
pub returns-clause-puts : goal.returns-clause-puts
returns-clause-puts g c = (
  c.put_work-answer.new.self,
  subst (λ (s : Shown g.row.F.Denot). PutsWork g.F.Dir.files c.args.work.taken c.args.part.sealed c.args.part.loaded s.root c.put_work-answer.new.self c.args.part c.put_work-answer.result) c.self.view_is
      (subst (λ (h : Handing g.row.F.Denot). PutsWork g.F.Dir.files h.taken c.args.part.sealed c.args.part.loaded c.self.inside.engine c.put_work-answer.new.self c.args.part c.put_work-answer.result) c.work.view_is c.put_work-answer.ensures.puts),
  c.end_work.ensures.frees,
)

pub returns-clause-begins : goal.returns-clause-begins
returns-clause-begins g c = subst (λ (s : Shown g.row.F.Denot). Begins c.args.work.note.list s.list) c.self.view_is
    (subst (λ (h : Handing g.row.F.Denot). Begins h.note.list c.self.inside.seat.list) c.work.view_is c.take_in.ensures.begins)

pub returns-clause-back : goal.returns-clause-back
returns-clause-back g c =
    let part = c.args.part in
    put_back g.F.Dir.files c.work.inside.taken part.sealed part.loaded c.self.inside.engine c.put_work-answer.new.self part c.put_work-answer.ensures.goes_on c.put_work-answer.result c.put_work-answer.ensures.puts
