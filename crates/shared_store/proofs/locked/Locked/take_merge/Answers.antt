use Rattle.std.proofs.Common.{◌+◌, ℕ, List, Option, Ok, refl, sym, ap, ap₂, ◌∙◌, subst, arith}
use Rattle.mt_values.specs.declared.command.Entry.{Entry}
use Rattle.history_seat.specs.declared.view.View.{View}
use Rattle.history_seat.specs.Turns.{IsLock}
use Rattle.root_commits.specs.part_set.declared.run.Run.{Run}
use Rattle.merge_select.specs.Picks.{NoneIn}
use Rattle.shared_store.specs.declared.work.Work.{Work}
use Rattle.shared_store.specs.Engines.{choice_by, choice_of}
use Rattle.shared_store.specs.Handed.{IsHanded}
use Rattle.shared_store.specs.Sharing.{IsShared, Shown, shown}
use Rattle.shared_store.specs.Tallies.{Tally, tally}
use Rattle.shared_store.specs.Turns.{AtTurn}
use Rattle.shared_store.specs.Works.{HasPair, IsPicked, TakesPair, TakesWork}
use Rattle.shared_store.proofs.Handing.{handed, pair_low}
use Rattle.shared_store.proofs.Keeping.{IsAudited, shared_taken}
use Rattle.shared_store.proofs.Taking.{none_found, pair_found}
use Rattle.shared_store.proofs.locked.Locked.take_merge.Goals as goal

-- memory was wanting
pub invariant_of-self : goal.invariant_of-self
invariant_of-self g c =
    let i = c.self.inside in
    let x = c.self.invariant in (
      x.0,
      x.1,
      subst (λ (s : Shown g.row.F.Denot). IsShared g.F.Dir.files g.B.Names.given g.B.Room.before g.B.Names.opening s)
          (sym (λ j. shown (c.in_err-taken.ensures.takes j) i.seat.list i.seat.begun i.out (c.audit.ensures.total j) i.levels.total (c.audit-2.ensures.total j))) x.2,
    )

-- there is no pair
pub invariant_of-self-in_default : goal.invariant_of-self-in_default
invariant_of-self-in_default g c =
    let i = c.self.inside in
    let x = c.self.invariant in
    let takes = subst (λ (o : Option (Work g.row.F.Denot)). TakesPair c.args.scope i.engine c.take_merge.new.self (Ok o)) c.in_default.is c.in_ok-taken.ensures.takes in (
      x.0,
      x.1,
      subst (λ (s : Shown g.row.F.Denot). IsShared g.F.Dir.files g.B.Names.given g.B.Room.before g.B.Names.opening s) (sym (λ j. shown (takes.1 j) i.seat.list i.seat.begun i.out (c.audit.ensures.total j) i.levels.total (c.audit-2.ensures.total j))) x.2,
    )

pub returns-in_default-clause-none : goal.returns-in_default-clause-none
returns-in_default-clause-none g c =
    let i = c.self.inside in
    let h = c.share.inside in
    let takes = subst (λ (o : Option (Work g.row.F.Denot)). TakesPair c.args.scope i.engine c.take_merge.new.self (Ok o)) c.in_default.is c.in_ok-taken.ensures.takes in
    let was : Shown g.row.F.Denot = shown i.engine i.seat.list i.seat.begun i.out i.stops.total i.levels.total i.faults.total in
    let least : IsAudited g.B.Names.ledgers.parts c.args.share.now was = subst (λ (t : Tally). IsAudited g.B.Names.ledgers.parts t was) c.share.view_is (record { stops = c.audit.ensures.bound; faults = c.audit-2.ensures.bound; all = λ all. c.audit-2.ensures.whole (c.share.invariant.2 ∙ all) }) in (
      subst (λ (s : Shown g.row.F.Denot). NoneIn (choice_of s.root) c.args.scope) c.self.view_is takes.0,
      (λ j. shown (takes.1 j) i.seat.list i.seat.begun i.out (c.audit.ensures.total j) i.levels.total (c.audit-2.ensures.total j)) ∙ c.self.view_is,
      ap₂ (λ (a b : ℕ). tally h.works.parts h.works.amount a h.levels.amount b) c.audit.ensures.amount c.audit-2.ensures.amount ∙ c.share.view_is,
      subst (λ (s : Shown g.row.F.Denot). AtTurn g.F.Dir.files g.B.Names.given g.B.Room.before g.B.Names.opening s.list g.B.Names.ledgers.parts c.args.share.now (λ store failed. NoneIn (choice_by g.B.Names.opening.policy store) c.args.scope)) c.self.view_is
          (none_found g.F.Dir.files g.B.Names.given g.B.Room.before g.B.Names.opening was c.self.invariant.2 g.B.Names.ledgers.parts c.args.share.now least c.args.scope takes.0),
    )

-- what is known of the work as it is handed out
pub invariant_of-work : goal.invariant_of-work
invariant_of-work g c =
    let i = c.self.inside in
    let x = c.self.invariant in
    let was : Shown g.row.F.Denot = shown i.engine i.seat.list i.seat.begun i.out i.stops.total i.levels.total i.faults.total in
    let takes = subst (λ (o : Option (Work g.row.F.Denot)). TakesPair c.args.scope i.engine c.take_merge.new.self (Ok o)) c.in-Some.is c.in_ok-taken.ensures.takes in
    subst (λ (l : List Entry). IsHanded g.F.Dir.files g.B.Names.given g.B.Room.before g.B.Names.opening l c.in-Some.taken) (sym (ap (λ (v : View). v.list) c.plain_note-note.ensures.note))
    (handed g.F.Dir.files g.B.Names.given g.B.Room.before g.B.Names.opening was x.2 c.take_merge.ensures.goes_on.found c.take_merge.new.self.store c.in-Some.taken takes.0 takes.2.takes)

-- a work is out more
pub invariant_of-self-2 : goal.invariant_of-self-2
invariant_of-self-2 g c =
    let i = c.self.inside in
    let x = c.self.invariant in
    let takes = subst (λ (o : Option (Work g.row.F.Denot)). TakesPair c.args.scope i.engine c.take_merge.new.self (Ok o)) c.in-Some.is c.in_ok-taken.ensures.takes in
    let was : Shown g.row.F.Denot = shown i.engine i.seat.list i.seat.begun i.out i.stops.total i.levels.total i.faults.total in
    let now : Shown g.row.F.Denot = shown c.take_merge.new.self c.plain_note-note.new.seat.list c.plain_note-note.new.seat.begun (i.out + 1) c.audit.new.self.total i.levels.total c.audit-2.new.self.total in (
      (let added = c.add.ensures.total in omega (arith, x.0, added)),
      subst IsLock (sym c.plain_note-note.ensures.seat) x.1,
      shared_taken g.F.Dir.files g.B.Names.given g.B.Room.before g.B.Names.opening was now x.2 c.take_merge.ensures.goes_on (ap (λ (v : View). v.list) c.plain_note-note.ensures.seat) (ap (λ (v : View). v.begun) c.plain_note-note.ensures.seat) c.in-Some.taken takes.0 takes.2 (omega arith) c.audit.ensures.total refl c.audit-2.ensures.total,
    )

pub returns-clause-work : goal.returns-clause-work
returns-clause-work g c =
    let i = c.self.inside in
    let takes = subst (λ (o : Option (Work g.row.F.Denot)). TakesPair c.args.scope i.engine c.take_merge.new.self (Ok o)) c.in-Some.is c.in_ok-taken.ensures.takes in
    subst (λ (s : Shown g.row.F.Denot). (run : Run) × IsPicked (choice_of s.root) c.args.scope c.in-Some.taken run × TakesWork s.root c.take_merge.new.self c.in-Some.taken run) c.self.view_is takes

-- none of its sources has the greatest level
pub returns-clause-low : goal.returns-clause-low
returns-clause-low g c =
    let i = c.self.inside in
    let takes = subst (λ (o : Option (Work g.row.F.Denot)). TakesPair c.args.scope i.engine c.take_merge.new.self (Ok o)) c.in-Some.is c.in_ok-taken.ensures.takes in
    pair_low i.engine c.take_merge.new.self c.in-Some.taken c.args.scope takes.0 takes.1 takes.2

-- it is the pair that the policy takes
pub returns-clause-of : goal.returns-clause-of
returns-clause-of g c =
    let i = c.self.inside in
    let takes = subst (λ (o : Option (Work g.row.F.Denot)). TakesPair c.args.scope i.engine c.take_merge.new.self (Ok o)) c.in-Some.is c.in_ok-taken.ensures.takes in
    let was : Shown g.row.F.Denot = shown i.engine i.seat.list i.seat.begun i.out i.stops.total i.levels.total i.faults.total in
    let least : IsAudited g.B.Names.ledgers.parts c.args.share.now was = subst (λ (t : Tally). IsAudited g.B.Names.ledgers.parts t was) c.share.view_is (record { stops = c.audit.ensures.bound; faults = c.audit-2.ensures.bound; all = λ all. c.audit-2.ensures.whole (c.share.invariant.2 ∙ all) }) in
    subst (λ (s : Shown g.row.F.Denot). AtTurn g.F.Dir.files g.B.Names.given g.B.Room.before g.B.Names.opening s.list g.B.Names.ledgers.parts c.args.share.now (λ store failed. HasPair g.B.Names.opening.policy c.args.scope store c.in-Some.taken)) c.self.view_is
    (pair_found g.F.Dir.files g.B.Names.given g.B.Room.before g.B.Names.opening was c.self.invariant.2 g.B.Names.ledgers.parts c.args.share.now least c.take_merge.new.self c.args.scope c.in-Some.taken takes.0 takes.1 takes.2)
