use Rattle.std.proofs.Common.{Bool, [], false, Ok, inl, inr, refl, sym, ap, ◌∙◌, subst, arith}
use Rattle.mt_values.specs.Script.{statements_of}
use Rattle.root_log.specs.root_store.Crashes.{Storage}
use Rattle.root_log.specs.root_store.Soundness.{RootStands}
use Rattle.session.specs.replies.Foreseen.{history}
use Rattle.session.specs.shared_store.history_seat.Views.{name}
use Rattle.session.specs.shared_store.Engines.{opened_of}
use Rattle.session.proofs.SharedStoreOpening.{stood_opening, to_be_shared}
use Rattle.mt_program.specs.Crashes.{LeavesForCrashes}
use Rattle.mt_program.specs.declared.serving.Ending.{Ending}
use Rattle.mt_program.specs.Endings.{MetNoDamage}
use Rattle.mt_program.specs.Serving.{Output, ServedBy, Stretch}
use Rattle.mt_program.specs.Sharing.{before_of, begun_of}
use Rattle.mt_program.specs.Worlds.{storage_of}
use Rattle.mt_program.proofs.Alone.{before_long, crashes_alone, served_alone, served_nothing, undamaged_alone}
use Rattle.mt_program.proofs.Crashing.{left_behind}
use Rattle.mt_program.proofs.Gaining.{gained_nothing}
use Rattle.mt_program.proofs.SeatScripts.{stays_of}
use Rattle.mt_program.proofs.sharing.serve_root.Goals as goal

-- memory ran out before anything was shared
pub returns-in-Err-clause-run : goal.returns-in-Err-clause-run
returns-in-Err-clause-run g c = λ kept is tells core rooted.
    let output : Output = record { before = g.K.Sink.written c.args.sink.now; after = g.K.Sink.written c.args.sink.now } in
    let stretch : Stretch = record { opened = c.args.store.opened; root = g.D.Disk.told c.args.disk; now = storage_of g.D.Disk g.A.Annals (c.args.disk, c.args.annals); arm = g.R.Arm.failed c.args.arm.now; full = false } in
    (false, λ bad names there. cc, served_nothing kept c.args.script.now stretch output is core.legal rooted refl)

pub returns-in-Err-clause-undamaged : goal.returns-in-Err-clause-undamaged
returns-in-Err-clause-undamaged g c = λ tells held. tt

pub returns-in-Err-clause-through_crashes : goal.returns-in-Err-clause-through_crashes
returns-in-Err-clause-through_crashes g c = λ kept start is tells core rooted keeps.
    left_behind c.args.store.opened (statements_of c.args.script.now) [] (statements_of c.args.script.now) refl refl keeps (gained_nothing (g.A.Annals.told c.args.annals) kept is)

-- the names are of these blanks
pub serve_alone-requires-clause-word : goal.serve_alone-requires-clause-word
serve_alone-requires-clause-word g c κs within = ap (name c.in-Ok.blanks.word.table) (c.in-Ok.ensures.word ∙ sym (before_long (g.A.Annals.told c.args.annals) c.args.store.length))

pub serve_alone-requires-clause-ledgers : goal.serve_alone-requires-clause-ledgers
serve_alone-requires-clause-ledgers g c κs within = let p = c.in-Ok.ensures.parts in (refl, refl, refl, p.1 ∙ sym p.0, refl, p.2 ∙ sym p.0, refl, p.3 ∙ sym p.0)

pub serve_alone-requires-clause-parts : goal.serve_alone-requires-clause-parts
serve_alone-requires-clause-parts g c κs within = let parts = c.in-Ok.ensures.parts.0 in omega (arith, parts)

-- what is known of it
pub serve_alone-requires-clause-root : goal.serve_alone-requires-clause-root
serve_alone-requires-clause-root g c κs within =
    let told = g.A.Annals.told c.args.annals in
    let was = storage_of g.D.Disk g.A.Annals (c.args.disk, c.args.annals) in
    let folder = g.D.Disk.started c.args.disk in
    let before = before_of told c.args.store.length in
    to_be_shared g.F.Dir.files _ before (begun_of told) c.args.policy c.args.store was folder c.requires.ready c.requires.idle (sym (before_long told c.args.store.length))
    (stood_opening g.F.Dir.files _ before (begun_of told) (opened_of c.args.store c.args.policy was folder))

pub serve_alone-requires-clause-tells : goal.serve_alone-requires-clause-tells
serve_alone-requires-clause-tells g c κs within = λ told. told

-- the script was served
pub returns-clause-run : goal.returns-clause-run
returns-clause-run g c = λ kept is tells core rooted.
    let a = c.args in
    let was = storage_of g.D.Disk g.A.Annals (a.disk, a.annals) in
    let now = storage_of g.D.Disk g.A.Annals (c.serve_alone.result.disk, c.serve_alone.result.annals) in
    let arm_was = g.R.Arm.failed a.arm.now in
    let arm = g.R.Arm.failed c.serve_alone.new.arm in
    let output : Output = record { before = g.K.Sink.written a.sink.now; after = g.K.Sink.written c.serve_alone.new.sink } in
    let stretch : Bool → Stretch = λ full. record { opened = a.store.opened; root = g.D.Disk.told a.disk; now = now; arm = arm; full = full } in
    elim c.serve_alone.ensures.left [
      | inl (seat, share, f, s) ↦ served_alone g.F.Dir.files _ a.store a.policy was (g.D.Disk.started a.disk) kept is core _ now (g.D.Disk.started c.serve_alone.result.disk) seat share f arm_was arm c.serve_alone.result.end a.script.now output s tells rooted
      | inr (end, same, folder, calm, out) ↦ (
        false,
        λ bad names there. cc,
        subst (λ (e : Ending). ServedBy e kept a.script.now (stretch false) output) (sym end)
            (served_nothing kept a.script.now (stretch false) output (ap (λ (x : Storage). x.annals) same ∙ is) core.legal (subst (λ (x : Storage). RootStands x.disk (history kept)) (sym same) rooted) out),
      )
    ]

pub returns-clause-undamaged : goal.returns-clause-undamaged
returns-clause-undamaged g c = λ tells held.
    let a = c.args in
    let was = storage_of g.D.Disk g.A.Annals (a.disk, a.annals) in
    elim c.serve_alone.ensures.left [
      | inl (seat, share, f, s) ↦ undamaged_alone g.F.Dir.files _ a.store a.policy was (g.D.Disk.started a.disk) _ _ _ c.serve_alone.result.end a.script.now _ s (refl, refl) refl tells held
      | inr (end, same, folder, calm, out) ↦ subst (λ (e : Ending). MetNoDamage (Ok e)) (sym end) tt
    ]

pub returns-clause-through_crashes : goal.returns-clause-through_crashes
returns-clause-through_crashes g c = λ kept start is tells core rooted keeps.
    let a = c.args in
    let was = storage_of g.D.Disk g.A.Annals (a.disk, a.annals) in
    let now = storage_of g.D.Disk g.A.Annals (c.serve_alone.result.disk, c.serve_alone.result.annals) in
    elim c.serve_alone.ensures.left [
      | inl (seat, share, f, s) ↦ crashes_alone g.F.Dir.files _ a.store a.policy was (g.D.Disk.started a.disk) kept is core _ now (g.D.Disk.started c.serve_alone.result.disk) seat share f (g.R.Arm.failed a.arm.now) (g.R.Arm.failed c.serve_alone.new.arm) c.serve_alone.result.end
          a.script.now _ s tells rooted start keeps
      | inr (end, same, folder, calm, out) ↦ subst (λ (x : Storage). LeavesForCrashes (statements_of a.script.now) a.store.opened x kept start) (sym same)
          (left_behind a.store.opened (statements_of a.script.now) [] (statements_of a.script.now) refl refl keeps (gained_nothing (g.A.Annals.told a.annals) kept is))
    ]

-- what stays
pub returns-clause-started : goal.returns-clause-started
returns-clause-started g c = elim c.serve_alone.ensures.left [ inl (seat, share, f, s) ↦ sym f.started_is ∙ f.shared.started_is | inr (end, same, folder, calm, out) ↦ folder ]

pub returns-clause-disk_later : goal.returns-clause-disk_later
returns-clause-disk_later g c = elim c.serve_alone.ensures.left [
  | inl (seat, share, f, s) ↦ (let met = f.shared.met in let is = ap (λ (x : Storage). x.failed) f.storage_is in omega (arith, met, is))
  | inr (end, same, folder, calm, out) ↦ (let is = ap (λ (x : Storage). x.failed) same in omega (arith, is))
]

pub returns-clause-arm_later : goal.returns-clause-arm_later
returns-clause-arm_later g c = elim c.serve_alone.ensures.left [
  | inl (seat, share, f, s) ↦ (stays_of _ _ _ _ _ _ _ _ _ _ (refl, refl) refl s.ran).since.arm
  | inr (end, same, folder, calm, out) ↦ omega (arith, calm)
]
