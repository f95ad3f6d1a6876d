use Rattle.std.proofs.Common.{◌≡◌, ◌+◌, List, Option, Some, None, Ok, refl, sym, ap, ◌∙◌, subst, arith}
use Rattle.mt_values.specs.declared.command.Entry.{Entry}
use Rattle.history_seat.specs.declared.view.View.{View}
use Rattle.history_seat.specs.Turns.{IsLock}
use Rattle.root_commits.specs.part_set.declared.run.Run.{Run}
use Rattle.shared_store.specs.declared.work.TakeFault.{TakeFault}
use Rattle.shared_store.specs.declared.work.TakeFault.TheVariants as fault
use Rattle.shared_store.specs.declared.work.Work.{Work}
use Rattle.shared_store.specs.Handed.{IsHanded, KeepsFrom}
use Rattle.shared_store.specs.Sharing.{IsShared, Shown, shown}
use Rattle.shared_store.specs.Tallies.{Tally, tally}
use Rattle.shared_store.specs.Turns.{AtTurn}
use Rattle.shared_store.specs.Works.{AnswersWhole, HasAll, TakesWhole, TakesWork}
use Rattle.shared_store.proofs.Busy.{handed_on, not_busy, whole_keeps, whole_left}
use Rattle.shared_store.proofs.Handing.{handed}
use Rattle.shared_store.proofs.Keeping.{IsAudited, at_turn, shared_taken}
use Rattle.shared_store.proofs.Taking.{all_found}
use Rattle.shared_store.proofs.locked.Locked.take_all.Goals as goal

-- as many works are out as may be
pub invariant_of-self : goal.invariant_of-self
invariant_of-self g c =
    let i = c.self.inside in
    let x = c.self.invariant in (
      x.0 ∙ sym c.audit.ensures.total,
      x.1,
      subst (λ (s : Shown g.row.F.Denot). IsShared g.F.Dir.files g.B.Names.given g.B.Room.before g.B.Names.opening s) (sym (λ j. shown i.engine i.seat.list i.seat.begun i.out (c.audit-2.ensures.total j) i.levels.total (c.audit-3.ensures.total j))) x.2,
    )

pub returns-then-self-clause-err : goal.returns-then-self-clause-err
returns-then-self-clause-err g c =
    let i = c.self.inside in
    let h = c.share.inside in
    let was : Shown g.row.F.Denot = shown i.engine i.seat.list i.seat.begun i.out i.stops.total i.levels.total i.faults.total in
    let least : IsAudited g.B.Names.ledgers.parts c.args.share.now was = subst (λ (t : Tally). IsAudited g.B.Names.ledgers.parts t was) c.share.view_is (record { stops = c.audit-2.ensures.bound; faults = c.audit-3.ensures.bound; all = λ all. c.audit-3.ensures.whole (c.share.invariant.2 ∙ all) }) in (
      tt,
      (λ j. shown i.engine i.seat.list i.seat.begun i.out (c.audit-2.ensures.total j) i.levels.total (c.audit-3.ensures.total j)) ∙ c.self.view_is,
      (λ j. tally (c.audit.ensures.parts j) (c.audit.ensures.amount j) (c.audit-2.ensures.amount j) h.levels.amount (c.audit-3.ensures.amount j)) ∙ c.share.view_is,
      subst (λ (s : Shown g.row.F.Denot). AtTurn g.F.Dir.files g.B.Names.given g.B.Room.before g.B.Names.opening s.list g.B.Names.ledgers.parts c.args.share.now (λ store failed. Unit {0})) c.self.view_is
          (at_turn g.F.Dir.files g.B.Names.given g.B.Room.before g.B.Names.opening was c.self.invariant.2 g.B.Names.ledgers.parts c.args.share.now least (λ store failed. Unit {0}) tt),
    )

-- none was taken up
pub invariant_of-self-in_err-taken : goal.invariant_of-self-in_err-taken
invariant_of-self-in_err-taken g c =
    let i = c.self.inside in
    let x = c.self.invariant in
    let left = whole_left c.args.table.now c.args.partition i.engine c.take_all.new.self _ c.in_err-taken.ensures.takes in (
      x.0 ∙ sym c.audit.ensures.total,
      x.1,
      subst (λ (s : Shown g.row.F.Denot). IsShared g.F.Dir.files g.B.Names.given g.B.Room.before g.B.Names.opening s) (sym (λ j. shown (left j) i.seat.list i.seat.begun i.out (c.audit-2.ensures.total j) i.levels.total (c.audit-3.ensures.total j))) x.2,
    )

pub returns-in_err-taken-clause-err : goal.returns-in_err-taken-clause-err
returns-in_err-taken-clause-err g c =
    let i = c.self.inside in
    let h = c.share.inside in
    let why = c.in_err-taken.field-0.0 in
    let left = whole_left c.args.table.now c.args.partition i.engine c.take_all.new.self why c.in_err-taken.ensures.takes in
    let keeps = whole_keeps c.args.table.now c.args.partition i.engine c.take_all.new.self why c.in_err-taken.ensures.takes in
    let was : Shown g.row.F.Denot = shown i.engine i.seat.list i.seat.begun i.out i.stops.total i.levels.total i.faults.total in
    let least : IsAudited g.B.Names.ledgers.parts c.args.share.now was = subst (λ (t : Tally). IsAudited g.B.Names.ledgers.parts t was) c.share.view_is (record { stops = c.audit-2.ensures.bound; faults = c.audit-3.ensures.bound; all = λ all. c.audit-3.ensures.whole (c.share.invariant.2 ∙ all) }) in
    handed_on _ c.from_residual.result why c.from_residual.ensures.1 (
      subst (λ (s : Shown g.row.F.Denot). KeepsFrom s.root.store c.args.table.now c.args.partition why) c.self.view_is keeps,
      (λ j. shown (left j) i.seat.list i.seat.begun i.out (c.audit-2.ensures.total j) i.levels.total (c.audit-3.ensures.total j)) ∙ c.self.view_is,
      (λ j. tally (c.audit.ensures.parts j) (c.audit.ensures.amount j) (c.audit-2.ensures.amount j) h.levels.amount (c.audit-3.ensures.amount j)) ∙ c.share.view_is,
      subst (λ (s : Shown g.row.F.Denot). AtTurn g.F.Dir.files g.B.Names.given g.B.Room.before g.B.Names.opening s.list g.B.Names.ledgers.parts c.args.share.now (λ store failed. KeepsFrom store c.args.table.now c.args.partition why)) c.self.view_is
          (at_turn g.F.Dir.files g.B.Names.given g.B.Room.before g.B.Names.opening was c.self.invariant.2 g.B.Names.ledgers.parts c.args.share.now least (λ store failed. KeepsFrom store c.args.table.now c.args.partition why) keeps),
    )

-- a share with every part knows that no work is out
pub returns-in_err-taken-clause-alone : goal.returns-in_err-taken-clause-alone
returns-in_err-taken-clause-alone g c = λ whole none.
    let i = c.self.inside in
    let x = c.self.invariant in
    let all = ap (λ (t : Tally). t.parts) c.share.view_is ∙ whole in
    let out = ap (λ (t : Tally). t.out) c.share.view_is ∙ none in
    let zero : i.out ≡ 0 = x.0 ∙ (sym (c.audit.ensures.whole all) ∙ out) in
    let why = c.in_err-taken.field-0.0 in
    handed_on (λ (e : TakeFault). e ≡ fault.NoMemory) c.from_residual.result why c.from_residual.ensures.1 (not_busy c.args.table.now c.args.partition i.engine c.take_all.new.self why (x.2.idle zero) c.in_err-taken.ensures.takes)

-- none may be
pub invariant_of-self-in_default : goal.invariant_of-self-in_default
invariant_of-self-in_default g c =
    let i = c.self.inside in
    let x = c.self.invariant in
    let takes = subst (λ (o : Option (Work g.row.F.Denot)). TakesWhole c.args.table.now c.args.partition i.engine c.take_all.new.self (Ok o)) c.in_default.is c.in_ok-taken.ensures.takes in (
      x.0 ∙ sym c.audit.ensures.total,
      x.1,
      subst (λ (s : Shown g.row.F.Denot). IsShared g.F.Dir.files g.B.Names.given g.B.Room.before g.B.Names.opening s) (sym (λ j. shown (takes.1 j) i.seat.list i.seat.begun i.out (c.audit-2.ensures.total j) i.levels.total (c.audit-3.ensures.total j))) x.2,
    )

-- what is known of the work as it is handed out
pub invariant_of-work : goal.invariant_of-work
invariant_of-work g c =
    let i = c.self.inside in
    let x = c.self.invariant in
    let was : Shown g.row.F.Denot = shown i.engine i.seat.list i.seat.begun i.out i.stops.total i.levels.total i.faults.total in
    let takes = subst (λ (o : Option (Work g.row.F.Denot)). TakesWhole c.args.table.now c.args.partition i.engine c.take_all.new.self (Ok o)) c.in-Some.is c.in_ok-taken.ensures.takes in
    subst (λ (l : List Entry). IsHanded g.F.Dir.files g.B.Names.given g.B.Room.before g.B.Names.opening l c.in-Some.taken) (sym (ap (λ (v : View). v.list) c.plain_note-note.ensures.note))
    (handed g.F.Dir.files g.B.Names.given g.B.Room.before g.B.Names.opening was x.2 c.take_all.ensures.goes_on.found c.take_all.new.self.store c.in-Some.taken takes.0 takes.4.takes)

-- a work is out more
pub invariant_of-self-2 : goal.invariant_of-self-2
invariant_of-self-2 g c =
    let i = c.self.inside in
    let x = c.self.invariant in
    let takes = subst (λ (o : Option (Work g.row.F.Denot)). TakesWhole c.args.table.now c.args.partition i.engine c.take_all.new.self (Ok o)) c.in-Some.is c.in_ok-taken.ensures.takes in
    let was : Shown g.row.F.Denot = shown i.engine i.seat.list i.seat.begun i.out i.stops.total i.levels.total i.faults.total in
    let now : Shown g.row.F.Denot = shown c.take_all.new.self c.plain_note-note.new.seat.list c.plain_note-note.new.seat.begun (i.out + 1) c.audit-2.new.self.total i.levels.total c.audit-3.new.self.total in (
      (let added = c.add.ensures.total in let same = c.audit.ensures.total in omega (arith, x.0, same, added)),
      subst IsLock (sym c.plain_note-note.ensures.seat) x.1,
      shared_taken g.F.Dir.files g.B.Names.given g.B.Room.before g.B.Names.opening was now x.2 c.take_all.ensures.goes_on (ap (λ (v : View). v.list) c.plain_note-note.ensures.seat) (ap (λ (v : View). v.begun) c.plain_note-note.ensures.seat) c.in-Some.taken takes.0 takes.4 (omega arith) c.audit-2.ensures.total refl c.audit-3.ensures.total,
    )

pub returns-clause-work : goal.returns-clause-work
returns-clause-work g c =
    let i = c.self.inside in
    let takes = subst (λ (o : Option (Work g.row.F.Denot)). TakesWhole c.args.table.now c.args.partition i.engine c.take_all.new.self (Ok o)) c.in-Some.is c.in_ok-taken.ensures.takes in
    subst (λ (s : Shown g.row.F.Denot). (run : Run) × AnswersWhole s.root.store c.args.table.now c.args.partition (Ok (Some run)) × (c.in-Some.taken.table ≡ c.args.table.now) × (c.in-Some.taken.partition ≡ c.args.partition) × TakesWork s.root c.take_all.new.self c.in-Some.taken run)
    c.self.view_is takes

pub returns-in_default-clause-none : goal.returns-in_default-clause-none
returns-in_default-clause-none g c =
    let i = c.self.inside in
    let h = c.share.inside in
    let takes = subst (λ (o : Option (Work g.row.F.Denot)). TakesWhole c.args.table.now c.args.partition i.engine c.take_all.new.self (Ok o)) c.in_default.is c.in_ok-taken.ensures.takes in
    let was : Shown g.row.F.Denot = shown i.engine i.seat.list i.seat.begun i.out i.stops.total i.levels.total i.faults.total in
    let least : IsAudited g.B.Names.ledgers.parts c.args.share.now was = subst (λ (t : Tally). IsAudited g.B.Names.ledgers.parts t was) c.share.view_is (record { stops = c.audit-2.ensures.bound; faults = c.audit-3.ensures.bound; all = λ all. c.audit-3.ensures.whole (c.share.invariant.2 ∙ all) }) in (
      subst (λ (s : Shown g.row.F.Denot). AnswersWhole s.root.store c.args.table.now c.args.partition (Ok None)) c.self.view_is takes.0,
      (λ j. shown (takes.1 j) i.seat.list i.seat.begun i.out (c.audit-2.ensures.total j) i.levels.total (c.audit-3.ensures.total j)) ∙ c.self.view_is,
      (λ j. tally (c.audit.ensures.parts j) (c.audit.ensures.amount j) (c.audit-2.ensures.amount j) h.levels.amount (c.audit-3.ensures.amount j)) ∙ c.share.view_is,
      subst (λ (s : Shown g.row.F.Denot). AtTurn g.F.Dir.files g.B.Names.given g.B.Room.before g.B.Names.opening s.list g.B.Names.ledgers.parts c.args.share.now (λ store failed. AnswersWhole store c.args.table.now c.args.partition (Ok None))) c.self.view_is
          (at_turn g.F.Dir.files g.B.Names.given g.B.Room.before g.B.Names.opening was c.self.invariant.2 g.B.Names.ledgers.parts c.args.share.now least (λ store failed. AnswersWhole store c.args.table.now c.args.partition (Ok None)) takes.0),
    )

-- they are all parts of the partition
pub returns-clause-of : goal.returns-clause-of
returns-clause-of g c =
    let i = c.self.inside in
    let takes = subst (λ (o : Option (Work g.row.F.Denot)). TakesWhole c.args.table.now c.args.partition i.engine c.take_all.new.self (Ok o)) c.in-Some.is c.in_ok-taken.ensures.takes in
    let was : Shown g.row.F.Denot = shown i.engine i.seat.list i.seat.begun i.out i.stops.total i.levels.total i.faults.total in
    let least : IsAudited g.B.Names.ledgers.parts c.args.share.now was = subst (λ (t : Tally). IsAudited g.B.Names.ledgers.parts t was) c.share.view_is (record { stops = c.audit-2.ensures.bound; faults = c.audit-3.ensures.bound; all = λ all. c.audit-3.ensures.whole (c.share.invariant.2 ∙ all) }) in
    subst (λ (s : Shown g.row.F.Denot). AtTurn g.F.Dir.files g.B.Names.given g.B.Room.before g.B.Names.opening s.list g.B.Names.ledgers.parts c.args.share.now (λ store failed. HasAll store c.in-Some.taken)) c.self.view_is
    (all_found g.F.Dir.files g.B.Names.given g.B.Room.before g.B.Names.opening was c.self.invariant.2 g.B.Names.ledgers.parts c.args.share.now least c.take_all.new.self c.args.table.now c.args.partition c.in-Some.taken takes.0 takes.1 takes.2 takes.3 takes.4)
