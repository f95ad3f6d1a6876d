use Rattle.std.proofs.Common.{◌≡◌, ◌+◌, ◌++◌, ◌∷◌, [], ℕ, Option, Some, None, Ok, Err, refl, ap, ◌∙◌, subst, arith}
use Rattle.mt_values.specs.declared.command.Command.TheVariants as command
use Rattle.mt_values.specs.declared.command.Entry.{Entry}
use Rattle.history_seat.specs.Turns.{Added, AddsNone}
use Rattle.root_commits.specs.durable_commit.declared.causes.Refused.{Refused}
use Rattle.root_commits.specs.durable_commit.Commits.{entry_of}
use Rattle.root_commits.specs.Turns.{CommitsCreate}
use Rattle.shared_store.specs.Engines.{root_in}
use Rattle.shared_store.specs.Sharing.{Shown, shown}
use Rattle.shared_store.specs.Tallies.{Tally, tally}
use Rattle.shared_store.specs.Turns.{HasTurn, ShowsCreate, left_of}
use Rattle.shared_store.proofs.Keeping.{Counted, IsAudited, create_back, create_turn, share_counted, shared_created, shared_not_created, turn_done, turn_refused}
use Rattle.shared_store.proofs.locked.Locked.create_named.Goals as goal

-- the session's number, as it reads it
pub add-requires-clause-named : goal.add-requires-clause-named
add-requires-clause-named g c κs within = ap (λ (e : Entry). e.session) c.requires.entry

-- the length has room, since the store's own has
pub add-requires-clause-room : goal.add-requires-clause-room
add-requires-clause-room g c =
    let long = c.in-Ok.ensures.commits.enters.length_is in
    let fits = c.self.invariant.2.fits.length_is in
    omega (arith, long, fits, c.in-Ok.ensures.length)

pub end_refused-requires-clause-named : goal.end_refused-requires-clause-named
end_refused-requires-clause-named g c κs within = ap (λ (e : Entry). e.session) c.requires.entry

-- it was done
pub invariant_of-self : goal.invariant_of-self
invariant_of-self g c =
    let i = c.self.inside in
    let x = c.self.invariant in
    let number = c.args.seat.now.number in
    let create = c.args.create in
    let sealed = c.args.sealed in
    let was : Shown g.row.F.Denot = shown i.engine i.seat.list i.seat.begun i.out i.stops.total i.levels.total i.faults.total in
    let now : Shown g.row.F.Denot = shown c.create.new.self c.add.new.lock.list c.add.new.lock.begun i.out c.audit.new.self.total i.levels.total c.count_faults.new.book.total in
    let d = subst (λ (n : ℕ). CommitsCreate n create sealed (root_in i.engine) (root_in c.create.new.self) sealed (Ok c.in-Ok.length)) c.number.ensures c.in-Ok.ensures.commits in (
      x.0,
      c.add.ensures.lock,
      shared_created g.F.Dir.files g.B.Names.given g.B.Room.before g.B.Names.opening number create sealed was now sealed x.2 c.create.ensures.goes_on c.requires.sealed c.in-Ok.length d
          (c.add.ensures.list ∙ ap (λ (e : Entry). i.seat.list ++ e ∷ []) c.requires.entry) c.add.ensures.begun refl c.audit.ensures.total refl (omega (arith, c.count_faults.ensures.total, c.audit-2.ensures.total, c.faults-now.ensures, c.faults-before.ensures)),
    )

pub returns-in-Ok-clause-turn : goal.returns-in-Ok-clause-turn
returns-in-Ok-clause-turn g c =
    let i = c.self.inside in
    let x = c.self.invariant in
    let number = c.args.seat.now.number in
    let create = c.args.create in
    let sealed = c.args.sealed in
    let e = entry_of number (command.Create create) in
    let was : Shown g.row.F.Denot = shown i.engine i.seat.list i.seat.begun i.out i.stops.total i.levels.total i.faults.total in
    let now : Shown g.row.F.Denot = shown c.create.new.self c.add.new.lock.list c.add.new.lock.begun i.out c.audit.new.self.total i.levels.total c.count_faults.new.book.total in
    let d = subst (λ (n : ℕ). CommitsCreate n create sealed (root_in i.engine) (root_in c.create.new.self) sealed (Ok c.in-Ok.length)) c.number.ensures c.in-Ok.ensures.commits in
    let list : now.list ≡ was.list ++ e ∷ [] = c.add.ensures.list ∙ ap (λ (e : Entry). i.seat.list ++ e ∷ []) c.requires.entry in
    let shared = shared_created g.F.Dir.files g.B.Names.given g.B.Room.before g.B.Names.opening number create sealed was now sealed x.2 c.create.ensures.goes_on c.requires.sealed c.in-Ok.length d list c.add.ensures.begun refl c.audit.ensures.total refl (omega (arith, c.count_faults.ensures.total, c.audit-2.ensures.total, c.faults-now.ensures, c.faults-before.ensures)) in
    let least : IsAudited g.B.Names.ledgers.parts c.args.share.now was = subst (λ (t : Tally). IsAudited g.B.Names.ledgers.parts t was) c.share.view_is (record { stops = c.audit.ensures.bound; faults = c.audit-2.ensures.bound; all = λ all. c.audit-2.ensures.whole (c.share.invariant.2 ∙ all) }) in
    let h = c.share.inside in
    let left : Tally = tally h.works.parts h.works.amount c.audit.new.share.amount h.levels.amount c.count_faults.new.share.amount in
    let counted : Counted c.args.share.now left None was now = share_counted c.args.share.now None was now h.works.parts h.works.amount h.stops.amount h.levels.amount h.faults.amount c.audit.new.share.amount c.count_faults.new.share.amount c.share.view_is
    (omega (arith, c.audit.ensures.amount)) (omega (arith, c.count_faults.ensures.amount, c.audit-2.ensures.amount, c.faults-now.ensures, c.faults-before.ensures)) in
    let turn = create_turn g.F.Dir.files g.B.Names.given g.B.Room.before g.B.Names.opening number create sealed was now sealed x.2 c.create.ensures.goes_on c.requires.sealed g.B.Names.ledgers.parts c.args.share.now left least (Ok c.in-Ok.length) d counted in
    subst (λ (s : Shown g.row.F.Denot). HasTurn g.F.Dir.files g.B.Names.given g.B.Room.before g.B.Names.opening s.list g.B.Names.ledgers.parts sealed.failed e (ShowsCreate create.table) c.args.seat.now c.add.new.seat c.args.share.now left (Ok c.in-Ok.length)) c.self.view_is
    (turn_done g.F.Dir.files g.B.Names.given g.B.Room.before g.B.Names.opening was now g.B.Names.ledgers.parts sealed.failed c.args.share.now left e (ShowsCreate create.table) c.args.seat.now c.add.new.seat c.in-Ok.length shared c.in-Ok.ensures.length list
    (subst (λ (e : Entry). Added c.args.seat.now i.seat.list e c.add.new.seat) c.requires.entry c.add.ensures.added) turn)

-- it was refused
pub invariant_of-self-in-Err : goal.invariant_of-self-in-Err
invariant_of-self-in-Err g c =
    let i = c.self.inside in
    let x = c.self.invariant in
    let number = c.args.seat.now.number in
    let create = c.args.create in
    let sealed = c.args.sealed in
    let was : Shown g.row.F.Denot = shown i.engine i.seat.list i.seat.begun i.out i.stops.total i.levels.total i.faults.total in
    let now : Shown g.row.F.Denot = shown c.create.new.self c.end_refused.new.lock.list c.end_refused.new.lock.begun i.out c.add-in-Err.new.self.total i.levels.total c.count_faults-in-Err.new.book.total in
    let d = subst (λ (n : ℕ). CommitsCreate {T = ℕ} n create sealed (root_in i.engine) (root_in c.create.new.self) sealed (Err c.in-Err.returned)) c.number.ensures c.in-Err.ensures.commits in (
      x.0,
      c.end_refused.ensures.lock,
      shared_not_created g.F.Dir.files g.B.Names.given g.B.Room.before g.B.Names.opening {T = ℕ} number create sealed was now sealed x.2 c.create.ensures.goes_on c.requires.sealed c.in-Err.returned d c.end_refused.ensures.list (c.end_refused.ensures.begun ∙ ap (λ (e : Entry). left_of c.in-Err.returned.back e i.seat.begun) c.requires.entry) refl
          (c.add-in-Err.ensures.total ∙ (ap (λ (n : ℕ). n + c.stops_in.result) c.audit.ensures.total ∙ ap (λ (n : ℕ). i.stops.total + n) c.stops_in.ensures)) refl
          (omega (arith, c.count_faults-in-Err.ensures.total, c.audit-2.ensures.total, c.faults-now-in-Err.ensures, c.faults-before.ensures)),
    )

pub returns-in-Err-clause-turn : goal.returns-in-Err-clause-turn
returns-in-Err-clause-turn g c =
    let i = c.self.inside in
    let x = c.self.invariant in
    let number = c.args.seat.now.number in
    let create = c.args.create in
    let sealed = c.args.sealed in
    let e = entry_of number (command.Create create) in
    let was : Shown g.row.F.Denot = shown i.engine i.seat.list i.seat.begun i.out i.stops.total i.levels.total i.faults.total in
    let now : Shown g.row.F.Denot = shown c.create.new.self c.end_refused.new.lock.list c.end_refused.new.lock.begun i.out c.add-in-Err.new.self.total i.levels.total c.count_faults-in-Err.new.book.total in
    let d = subst (λ (n : ℕ). CommitsCreate {T = ℕ} n create sealed (root_in i.engine) (root_in c.create.new.self) sealed (Err c.in-Err.returned)) c.number.ensures c.in-Err.ensures.commits in
    let least : IsAudited g.B.Names.ledgers.parts c.args.share.now was = subst (λ (t : Tally). IsAudited g.B.Names.ledgers.parts t was) c.share.view_is (record { stops = c.audit.ensures.bound; faults = c.audit-2.ensures.bound; all = λ all. c.audit-2.ensures.whole (c.share.invariant.2 ∙ all) }) in
    let h = c.share.inside in
    let cause : Option Refused = Some c.in-Err.returned.cause in
    let left : Tally = tally h.works.parts h.works.amount c.add-in-Err.new.share.amount h.levels.amount c.count_faults-in-Err.new.share.amount in
    let counted : Counted c.args.share.now left cause was now = share_counted c.args.share.now cause was now h.works.parts h.works.amount h.stops.amount h.levels.amount h.faults.amount c.add-in-Err.new.share.amount c.count_faults-in-Err.new.share.amount c.share.view_is
    (omega (arith, c.add-in-Err.ensures.amount, c.audit.ensures.amount, c.stops_in.ensures)) (omega (arith, c.count_faults-in-Err.ensures.amount, c.audit-2.ensures.amount, c.faults-now-in-Err.ensures, c.faults-before.ensures)) in
    let turn = create_turn g.F.Dir.files g.B.Names.given g.B.Room.before g.B.Names.opening {T = ℕ} number create sealed was now sealed x.2 c.create.ensures.goes_on c.requires.sealed g.B.Names.ledgers.parts c.args.share.now left least (Err c.in-Err.returned) d counted in
    subst (λ (s : Shown g.row.F.Denot). HasTurn g.F.Dir.files g.B.Names.given g.B.Room.before g.B.Names.opening s.list g.B.Names.ledgers.parts sealed.failed e (ShowsCreate create.table) c.args.seat.now c.end_refused.new.seat c.args.share.now left (Err c.in-Err.returned)) c.self.view_is
    (turn_refused g.F.Dir.files g.B.Names.given g.B.Room.before g.B.Names.opening was now g.B.Names.ledgers.parts sealed.failed c.args.share.now left e (ShowsCreate create.table) c.args.seat.now c.end_refused.new.seat c.in-Err.returned
    (subst (λ (e : Entry). AddsNone c.args.seat.now i.seat.list (left_of c.in-Err.returned.back e c.args.seat.now.tried) c.end_refused.new.seat) c.requires.entry c.end_refused.ensures.seat) turn)

pub returns-in-Err-clause-back : goal.returns-in-Err-clause-back
returns-in-Err-clause-back g c =
    let i = c.self.inside in
    let x = c.self.invariant in
    let number = c.args.seat.now.number in
    let create = c.args.create in
    let sealed = c.args.sealed in
    let was : Shown g.row.F.Denot = shown i.engine i.seat.list i.seat.begun i.out i.stops.total i.levels.total i.faults.total in
    let now : Shown g.row.F.Denot = shown c.create.new.self c.end_refused.new.lock.list c.end_refused.new.lock.begun i.out c.add-in-Err.new.self.total i.levels.total c.count_faults-in-Err.new.book.total in
    let d = subst (λ (n : ℕ). CommitsCreate {T = ℕ} n create sealed (root_in i.engine) (root_in c.create.new.self) sealed (Err c.in-Err.returned)) c.number.ensures c.in-Err.ensures.commits in
    create_back g.F.Dir.files g.B.Names.given g.B.Room.before g.B.Names.opening {T = ℕ} number create sealed was now sealed x.2 c.create.ensures.goes_on c.requires.sealed (Err c.in-Err.returned) d

-- what it did to the root
pub returns-in-Ok-clause-commits : goal.returns-in-Ok-clause-commits
returns-in-Ok-clause-commits g c =
    let number = c.args.seat.now.number in
    let create = c.args.create in
    let sealed = c.args.sealed in
    subst (λ (s : Shown g.row.F.Denot). CommitsCreate number create sealed (root_in s.root) (root_in c.create.new.self) sealed (Ok c.in-Ok.length)) c.self.view_is
    (subst (λ (n : ℕ). CommitsCreate n create sealed (root_in c.self.inside.engine) (root_in c.create.new.self) sealed (Ok c.in-Ok.length)) c.number.ensures c.in-Ok.ensures.commits)

pub returns-in-Err-clause-commits : goal.returns-in-Err-clause-commits
returns-in-Err-clause-commits g c =
    let number = c.args.seat.now.number in
    let create = c.args.create in
    let sealed = c.args.sealed in
    subst (λ (s : Shown g.row.F.Denot). CommitsCreate {T = ℕ} number create sealed (root_in s.root) (root_in c.create.new.self) sealed (Err c.in-Err.returned)) c.self.view_is
    (subst (λ (n : ℕ). CommitsCreate {T = ℕ} n create sealed (root_in c.self.inside.engine) (root_in c.create.new.self) sealed (Err c.in-Err.returned)) c.number.ensures c.in-Err.ensures.commits)
