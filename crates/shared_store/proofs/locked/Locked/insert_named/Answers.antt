use Rattle.std.proofs.Common.{◌≡◌, ◌+◌, ◌++◌, ◌∷◌, [], ℕ, List, Option, Some, None, Ok, Err, length, refl, sym, ap, ◌∙◌, subst, arith}
use Rattle.mt_values.specs.declared.command.Command.{Command}
use Rattle.mt_values.specs.declared.command.Entry.{Entry}
use Rattle.history_seat.specs.Turns.{Added, AddsNone}
use Rattle.root_commits.specs.durable_commit.declared.causes.Refused.{Refused}
use Rattle.root_commits.specs.durable_commit.Commits.{entry_of}
use Rattle.root_commits.specs.Publications.{Adding, adding}
use Rattle.root_commits.specs.Turns.{CommitsPart}
use Rattle.root_commits.specs.root_store.declared.store.Table.{Table}
use Rattle.root_commits.specs.root_store.Stores.{table_at}
use Rattle.shared_store.specs.Engines.{root_in}
use Rattle.shared_store.specs.Handed.{insert_there}
use Rattle.shared_store.specs.Sharing.{Shown, shown}
use Rattle.shared_store.specs.Tallies.{Tally, tally}
use Rattle.shared_store.specs.Turns.{HasTurn, ShowsPart, left_of}
use Rattle.shared_store.proofs.Entering.{insert_same, is_there, kept_there, rows_there, sealed_there}
use Rattle.shared_store.proofs.Keeping.{Counted, IsAudited, part_back, looked_added, looked_none, part_turn, share_counted, shared_added, shared_not_added, turn_done, turn_refused}
use Rattle.shared_store.proofs.locked.Locked.insert_named.Goals as goal

-- the table is there, by the list that the session brings
pub insert-requires-clause-there : goal.insert-requires-clause-there
insert-requires-clause-there g c κs within =
    let a = c.args in
    is_there g.B.Names.given g.B.Room.before g.B.Names.opening.tables a.seat.now.list c.self.inside.seat.list a.table.now a.block a.part.sealed a.part.loaded c.requires.may c.look.ensures.looked.begins c.self.inside.engine.store c.self.invariant.2.fits

pub insert-requires-clause-rows : goal.insert-requires-clause-rows
insert-requires-clause-rows g c κs within = λ t at.
    let a = c.args in
    rows_there g.B.Names.given g.B.Room.before g.B.Names.opening.tables a.seat.now.list c.self.inside.seat.list a.table.now a.block a.part.sealed a.part.loaded c.requires.may c.look.ensures.looked.begins c.self.inside.engine.store c.self.invariant.2.fits t at

pub add-requires-clause-named : goal.add-requires-clause-named
add-requires-clause-named g c κs within = ap (λ (e : Entry). e.session) c.requires.entry ∙ sym c.look.ensures.looked.number

pub end_refused-requires-clause-named : goal.end_refused-requires-clause-named
end_refused-requires-clause-named g c κs within = ap (λ (e : Entry). e.session) c.requires.entry ∙ sym c.look.ensures.looked.number

-- the length has room, since the store's own has
pub add-requires-clause-room : goal.add-requires-clause-room
add-requires-clause-room g c =
    let i = c.self.inside in
    let x = c.self.invariant in
    let a = c.args in
    let there = kept_there g.B.Names.given g.B.Room.before g.B.Names.opening.tables a.seat.now.list i.seat.list a.table.now a.block a.part.sealed a.part.loaded c.requires.may c.look.ensures.looked.begins i.engine.store x.2.fits in
    let long = (c.in-Ok.ensures.commits there.0 there.1).enters.enters.length_is in
    let fits = x.2.fits.length_is in
    let same = ap (λ (l : List Entry). length l) c.look.ensures.list in
    omega (arith, long, fits, same, c.in-Ok.ensures.length)

-- it was done
pub invariant_of-self : goal.invariant_of-self
invariant_of-self g c =
    let i = c.self.inside in
    let x = c.self.invariant in
    let a = c.args in
    let number = a.seat.now.number in
    let there = kept_there g.B.Names.given g.B.Room.before g.B.Names.opening.tables a.seat.now.list i.seat.list a.table.now a.block a.part.sealed a.part.loaded c.requires.may c.look.ensures.looked.begins i.engine.store x.2.fits in
    let sealed = sealed_there g.B.Names.given g.B.Room.before g.B.Names.opening.tables a.seat.now.list i.seat.list a.table.now a.block a.part.sealed a.part.loaded c.requires.may c.look.ensures.looked.begins i.engine.store x.2.fits there.0 there.1 in
    let same = insert_same g.B.Names.given g.B.Room.before g.B.Names.opening.tables a.seat.now.list i.seat.list a.table.now a.block a.part.sealed a.part.loaded c.requires.may c.look.ensures.looked.begins i.engine.store x.2.fits there.0 there.1 in
    let adds : Adding = adding number a.table.now there.0 a.block a.part.sealed a.part.loaded in
    let was : Shown g.row.F.Denot = shown i.engine i.seat.list i.seat.begun i.out i.stops.total i.levels.total i.faults.total in
    let read = c.number.ensures ∙ c.look.ensures.looked.number in
    let now : Shown g.row.F.Denot = shown c.insert.new.self c.add.new.lock.list c.add.new.lock.begun i.out c.audit.new.self.total i.levels.total c.count_faults.new.book.total in
    let d = subst (λ (n : ℕ). CommitsPart g.F.Dir.files (adding n a.table.now there.0 a.block a.part.sealed a.part.loaded) (root_in i.engine) (root_in c.insert.new.self) a.part (Ok c.in-Ok.length)) read (c.in-Ok.ensures.commits there.0 there.1) in
    let list = c.add.ensures.list ∙ (ap (λ (l : List Entry). l ++ g.T.Entered.entry ∷ []) c.look.ensures.list ∙ ap (λ (e : Entry). i.seat.list ++ e ∷ []) (c.requires.entry ∙ ap (λ (m : Command). entry_of number m) same)) in
    let shared = shared_added g.F.Dir.files g.B.Names.given g.B.Room.before g.B.Names.opening adds was now a.part x.2 c.insert.ensures.goes_on sealed c.in-Ok.length d list c.add.ensures.begun refl c.audit.ensures.total refl (omega (arith, c.count_faults.ensures.total, c.audit-2.ensures.total, c.faults-now.ensures, c.faults-before.ensures)) in
    (x.0, c.add.ensures.lock, shared)

pub returns-in-Ok-clause-turn : goal.returns-in-Ok-clause-turn
returns-in-Ok-clause-turn g c =
    let i = c.self.inside in
    let x = c.self.invariant in
    let a = c.args in
    let number = a.seat.now.number in
    let there = kept_there g.B.Names.given g.B.Room.before g.B.Names.opening.tables a.seat.now.list i.seat.list a.table.now a.block a.part.sealed a.part.loaded c.requires.may c.look.ensures.looked.begins i.engine.store x.2.fits in
    let sealed = sealed_there g.B.Names.given g.B.Room.before g.B.Names.opening.tables a.seat.now.list i.seat.list a.table.now a.block a.part.sealed a.part.loaded c.requires.may c.look.ensures.looked.begins i.engine.store x.2.fits there.0 there.1 in
    let same = insert_same g.B.Names.given g.B.Room.before g.B.Names.opening.tables a.seat.now.list i.seat.list a.table.now a.block a.part.sealed a.part.loaded c.requires.may c.look.ensures.looked.begins i.engine.store x.2.fits there.0 there.1 in
    let adds : Adding = adding number a.table.now there.0 a.block a.part.sealed a.part.loaded in
    let was : Shown g.row.F.Denot = shown i.engine i.seat.list i.seat.begun i.out i.stops.total i.levels.total i.faults.total in
    let read = c.number.ensures ∙ c.look.ensures.looked.number in
    let now : Shown g.row.F.Denot = shown c.insert.new.self c.add.new.lock.list c.add.new.lock.begun i.out c.audit.new.self.total i.levels.total c.count_faults.new.book.total in
    let d = subst (λ (n : ℕ). CommitsPart g.F.Dir.files (adding n a.table.now there.0 a.block a.part.sealed a.part.loaded) (root_in i.engine) (root_in c.insert.new.self) a.part (Ok c.in-Ok.length)) read (c.in-Ok.ensures.commits there.0 there.1) in
    let list = c.add.ensures.list ∙ (ap (λ (l : List Entry). l ++ g.T.Entered.entry ∷ []) c.look.ensures.list ∙ ap (λ (e : Entry). i.seat.list ++ e ∷ []) (c.requires.entry ∙ ap (λ (m : Command). entry_of number m) same)) in
    let shared = shared_added g.F.Dir.files g.B.Names.given g.B.Room.before g.B.Names.opening adds was now a.part x.2 c.insert.ensures.goes_on sealed c.in-Ok.length d list c.add.ensures.begun refl c.audit.ensures.total refl (omega (arith, c.count_faults.ensures.total, c.audit-2.ensures.total, c.faults-now.ensures, c.faults-before.ensures)) in
    let e = entry_of number (insert_there g.B.Names.opening.tables a.seat.now.list a.table.now a.block) in
    let found : now.list ≡ was.list ++ e ∷ [] = c.add.ensures.list ∙ (ap (λ (l : List Entry). l ++ g.T.Entered.entry ∷ []) c.look.ensures.list ∙ ap (λ (f : Entry). i.seat.list ++ f ∷ []) c.requires.entry) in
    let least : IsAudited g.B.Names.ledgers.parts a.share.now was = subst (λ (t : Tally). IsAudited g.B.Names.ledgers.parts t was) c.share.view_is (record { stops = c.audit.ensures.bound; faults = c.audit-2.ensures.bound; all = λ all. c.audit-2.ensures.whole (c.share.invariant.2 ∙ all) }) in
    let h = c.share.inside in
    let left : Tally = tally h.works.parts h.works.amount c.audit.new.share.amount h.levels.amount c.count_faults.new.share.amount in
    let counted : Counted a.share.now left None was now = share_counted a.share.now None was now h.works.parts h.works.amount h.stops.amount h.levels.amount h.faults.amount c.audit.new.share.amount c.count_faults.new.share.amount c.share.view_is
    (omega (arith, c.audit.ensures.amount)) (omega (arith, c.count_faults.ensures.amount, c.audit-2.ensures.amount, c.faults-now.ensures, c.faults-before.ensures)) in
    let turn = part_turn g.F.Dir.files g.B.Names.given g.B.Room.before g.B.Names.opening adds was now a.part x.2 c.insert.ensures.goes_on sealed g.B.Names.ledgers.parts a.share.now left least (Ok c.in-Ok.length) d counted in
    let added = subst (λ (l : List Entry). Added c.look.new.seat l e c.add.new.seat) c.look.ensures.list (subst (λ (f : Entry). Added c.look.new.seat c.look.new.lock.list f c.add.new.seat) c.requires.entry c.add.ensures.added) in
    subst (λ (s : Shown g.row.F.Denot). HasTurn g.F.Dir.files g.B.Names.given g.B.Room.before g.B.Names.opening s.list g.B.Names.ledgers.parts a.part.sealed.failed e (ShowsPart a.table.now a.block) a.seat.now c.add.new.seat a.share.now left (Ok c.in-Ok.length)) c.self.view_is
    (turn_done g.F.Dir.files g.B.Names.given g.B.Room.before g.B.Names.opening was now g.B.Names.ledgers.parts a.part.sealed.failed a.share.now left e (ShowsPart a.table.now a.block) a.seat.now c.add.new.seat c.in-Ok.length shared c.in-Ok.ensures.length found
    (looked_added a.seat.now c.look.new.seat c.add.new.seat i.seat.list e c.look.ensures.looked added) turn)

-- it was refused
pub invariant_of-self-in-Err : goal.invariant_of-self-in-Err
invariant_of-self-in-Err g c =
    let i = c.self.inside in
    let x = c.self.invariant in
    let a = c.args in
    let number = a.seat.now.number in
    let there = kept_there g.B.Names.given g.B.Room.before g.B.Names.opening.tables a.seat.now.list i.seat.list a.table.now a.block a.part.sealed a.part.loaded c.requires.may c.look.ensures.looked.begins i.engine.store x.2.fits in
    let sealed = sealed_there g.B.Names.given g.B.Room.before g.B.Names.opening.tables a.seat.now.list i.seat.list a.table.now a.block a.part.sealed a.part.loaded c.requires.may c.look.ensures.looked.begins i.engine.store x.2.fits there.0 there.1 in
    let same = insert_same g.B.Names.given g.B.Room.before g.B.Names.opening.tables a.seat.now.list i.seat.list a.table.now a.block a.part.sealed a.part.loaded c.requires.may c.look.ensures.looked.begins i.engine.store x.2.fits there.0 there.1 in
    let adds : Adding = adding number a.table.now there.0 a.block a.part.sealed a.part.loaded in
    let was : Shown g.row.F.Denot = shown i.engine i.seat.list i.seat.begun i.out i.stops.total i.levels.total i.faults.total in
    let read = c.number.ensures ∙ c.look.ensures.looked.number in
    let now : Shown g.row.F.Denot = shown c.insert.new.self c.end_refused.new.lock.list c.end_refused.new.lock.begun i.out c.add-in-Err.new.self.total i.levels.total c.count_faults-in-Err.new.book.total in
    let d = subst (λ (n : ℕ). CommitsPart {T = ℕ} g.F.Dir.files (adding n a.table.now there.0 a.block a.part.sealed a.part.loaded) (root_in i.engine) (root_in c.insert.new.self) a.part (Err c.in-Err.returned)) read (c.in-Err.ensures.commits there.0 there.1) in (
      x.0,
      c.end_refused.ensures.lock,
      shared_not_added g.F.Dir.files g.B.Names.given g.B.Room.before g.B.Names.opening {T = ℕ} adds was now a.part x.2 c.insert.ensures.goes_on sealed c.in-Err.returned d (c.end_refused.ensures.list ∙ c.look.ensures.list)
          (c.end_refused.ensures.begun
          ∙ (ap (λ (b : Option Entry). left_of c.in-Err.returned.back g.T.Entered.entry b) c.look.ensures.begun ∙ ap (λ (e : Entry). left_of c.in-Err.returned.back e i.seat.begun) (c.requires.entry ∙ ap (λ (m : Command). entry_of number m) same)))
          refl
          (c.add-in-Err.ensures.total ∙ (ap (λ (n : ℕ). n + c.stops_in.result) c.audit.ensures.total ∙ ap (λ (n : ℕ). i.stops.total + n) c.stops_in.ensures)) refl
          (omega (arith, c.count_faults-in-Err.ensures.total, c.audit-2.ensures.total, c.faults-now-in-Err.ensures, c.faults-before.ensures)),
    )

pub returns-in-Err-clause-turn : goal.returns-in-Err-clause-turn
returns-in-Err-clause-turn g c =
    let i = c.self.inside in
    let x = c.self.invariant in
    let a = c.args in
    let number = a.seat.now.number in
    let there = kept_there g.B.Names.given g.B.Room.before g.B.Names.opening.tables a.seat.now.list i.seat.list a.table.now a.block a.part.sealed a.part.loaded c.requires.may c.look.ensures.looked.begins i.engine.store x.2.fits in
    let sealed = sealed_there g.B.Names.given g.B.Room.before g.B.Names.opening.tables a.seat.now.list i.seat.list a.table.now a.block a.part.sealed a.part.loaded c.requires.may c.look.ensures.looked.begins i.engine.store x.2.fits there.0 there.1 in
    let same = insert_same g.B.Names.given g.B.Room.before g.B.Names.opening.tables a.seat.now.list i.seat.list a.table.now a.block a.part.sealed a.part.loaded c.requires.may c.look.ensures.looked.begins i.engine.store x.2.fits there.0 there.1 in
    let adds : Adding = adding number a.table.now there.0 a.block a.part.sealed a.part.loaded in
    let was : Shown g.row.F.Denot = shown i.engine i.seat.list i.seat.begun i.out i.stops.total i.levels.total i.faults.total in
    let read = c.number.ensures ∙ c.look.ensures.looked.number in
    let now : Shown g.row.F.Denot = shown c.insert.new.self c.end_refused.new.lock.list c.end_refused.new.lock.begun i.out c.add-in-Err.new.self.total i.levels.total c.count_faults-in-Err.new.book.total in
    let d = subst (λ (n : ℕ). CommitsPart {T = ℕ} g.F.Dir.files (adding n a.table.now there.0 a.block a.part.sealed a.part.loaded) (root_in i.engine) (root_in c.insert.new.self) a.part (Err c.in-Err.returned)) read (c.in-Err.ensures.commits there.0 there.1) in
    let e = entry_of number (insert_there g.B.Names.opening.tables a.seat.now.list a.table.now a.block) in
    let least : IsAudited g.B.Names.ledgers.parts a.share.now was = subst (λ (t : Tally). IsAudited g.B.Names.ledgers.parts t was) c.share.view_is (record { stops = c.audit.ensures.bound; faults = c.audit-2.ensures.bound; all = λ all. c.audit-2.ensures.whole (c.share.invariant.2 ∙ all) }) in
    let begun = left_of c.in-Err.returned.back in
    let ended = subst (λ (l : List Entry). AddsNone c.look.new.seat l (begun g.T.Entered.entry c.look.new.seat.tried) c.end_refused.new.seat) c.look.ensures.list c.end_refused.ensures.seat in
    let tried = subst (λ (t : Option Entry). AddsNone c.look.new.seat i.seat.list (begun g.T.Entered.entry t) c.end_refused.new.seat) c.look.ensures.looked.tried ended in
    let here = subst (λ (f : Entry). AddsNone c.look.new.seat i.seat.list (begun f a.seat.now.tried) c.end_refused.new.seat) c.requires.entry tried in
    let none = looked_none a.seat.now c.look.new.seat c.end_refused.new.seat i.seat.list (begun e a.seat.now.tried) c.look.ensures.looked here in
    let h = c.share.inside in
    let cause : Option Refused = Some c.in-Err.returned.cause in
    let left : Tally = tally h.works.parts h.works.amount c.add-in-Err.new.share.amount h.levels.amount c.count_faults-in-Err.new.share.amount in
    let counted : Counted a.share.now left cause was now = share_counted a.share.now cause was now h.works.parts h.works.amount h.stops.amount h.levels.amount h.faults.amount c.add-in-Err.new.share.amount c.count_faults-in-Err.new.share.amount c.share.view_is
    (omega (arith, c.add-in-Err.ensures.amount, c.audit.ensures.amount, c.stops_in.ensures)) (omega (arith, c.count_faults-in-Err.ensures.amount, c.audit-2.ensures.amount, c.faults-now-in-Err.ensures, c.faults-before.ensures)) in
    let turn = part_turn g.F.Dir.files g.B.Names.given g.B.Room.before g.B.Names.opening {T = ℕ} adds was now a.part x.2 c.insert.ensures.goes_on sealed g.B.Names.ledgers.parts a.share.now left least (Err c.in-Err.returned) d counted in
    subst (λ (s : Shown g.row.F.Denot). HasTurn g.F.Dir.files g.B.Names.given g.B.Room.before g.B.Names.opening s.list g.B.Names.ledgers.parts a.part.sealed.failed e (ShowsPart a.table.now a.block) a.seat.now c.end_refused.new.seat a.share.now left (Err c.in-Err.returned)) c.self.view_is
    (turn_refused g.F.Dir.files g.B.Names.given g.B.Room.before g.B.Names.opening was now g.B.Names.ledgers.parts a.part.sealed.failed a.share.now left e (ShowsPart a.table.now a.block) a.seat.now c.end_refused.new.seat c.in-Err.returned none turn)

pub returns-in-Err-clause-back : goal.returns-in-Err-clause-back
returns-in-Err-clause-back g c =
    let i = c.self.inside in
    let x = c.self.invariant in
    let a = c.args in
    let number = a.seat.now.number in
    let there = kept_there g.B.Names.given g.B.Room.before g.B.Names.opening.tables a.seat.now.list i.seat.list a.table.now a.block a.part.sealed a.part.loaded c.requires.may c.look.ensures.looked.begins i.engine.store x.2.fits in
    let sealed = sealed_there g.B.Names.given g.B.Room.before g.B.Names.opening.tables a.seat.now.list i.seat.list a.table.now a.block a.part.sealed a.part.loaded c.requires.may c.look.ensures.looked.begins i.engine.store x.2.fits there.0 there.1 in
    let same = insert_same g.B.Names.given g.B.Room.before g.B.Names.opening.tables a.seat.now.list i.seat.list a.table.now a.block a.part.sealed a.part.loaded c.requires.may c.look.ensures.looked.begins i.engine.store x.2.fits there.0 there.1 in
    let adds : Adding = adding number a.table.now there.0 a.block a.part.sealed a.part.loaded in
    let was : Shown g.row.F.Denot = shown i.engine i.seat.list i.seat.begun i.out i.stops.total i.levels.total i.faults.total in
    let read = c.number.ensures ∙ c.look.ensures.looked.number in
    let now : Shown g.row.F.Denot = shown c.insert.new.self c.end_refused.new.lock.list c.end_refused.new.lock.begun i.out c.add-in-Err.new.self.total i.levels.total c.count_faults-in-Err.new.book.total in
    let d = subst (λ (n : ℕ). CommitsPart {T = ℕ} g.F.Dir.files (adding n a.table.now there.0 a.block a.part.sealed a.part.loaded) (root_in i.engine) (root_in c.insert.new.self) a.part (Err c.in-Err.returned)) read (c.in-Err.ensures.commits there.0 there.1) in
    part_back g.F.Dir.files g.B.Names.given g.B.Room.before g.B.Names.opening {T = ℕ} adds was now a.part x.2 c.insert.ensures.goes_on sealed (Err c.in-Err.returned) d

-- what it did to the root
pub returns-in-Ok-clause-commits : goal.returns-in-Ok-clause-commits
returns-in-Ok-clause-commits g c =
    let i = c.self.inside in
    let a = c.args in
    let read = c.number.ensures ∙ c.look.ensures.looked.number in
    subst (λ (s : Shown g.row.F.Denot). (t : Table) → table_at s.root.store a.table.now ≡ Some t → CommitsPart g.F.Dir.files (adding a.seat.now.number a.table.now t a.block a.part.sealed a.part.loaded) (root_in s.root) (root_in c.insert.new.self) a.part (Ok c.in-Ok.length)) c.self.view_is
    (λ t at. subst (λ (n : ℕ). CommitsPart g.F.Dir.files (adding n a.table.now t a.block a.part.sealed a.part.loaded) (root_in i.engine) (root_in c.insert.new.self) a.part (Ok c.in-Ok.length)) read (c.in-Ok.ensures.commits t at))

pub returns-in-Err-clause-commits : goal.returns-in-Err-clause-commits
returns-in-Err-clause-commits g c =
    let i = c.self.inside in
    let a = c.args in
    let read = c.number.ensures ∙ c.look.ensures.looked.number in
    subst (λ (s : Shown g.row.F.Denot). (t : Table) → table_at s.root.store a.table.now ≡ Some t → CommitsPart {T = ℕ} g.F.Dir.files (adding a.seat.now.number a.table.now t a.block a.part.sealed a.part.loaded) (root_in s.root) (root_in c.insert.new.self) a.part (Err c.in-Err.returned)) c.self.view_is
    (λ t at. subst (λ (n : ℕ). CommitsPart {T = ℕ} g.F.Dir.files (adding n a.table.now t a.block a.part.sealed a.part.loaded) (root_in i.engine) (root_in c.insert.new.self) a.part (Err c.in-Err.returned)) read (c.in-Err.ensures.commits t at))
