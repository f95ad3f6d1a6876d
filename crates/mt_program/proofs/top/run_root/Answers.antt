use Rattle.std.proofs.Common.{◌≡◌, ◌∙◌, ◌+◌, ℕ, false, List, Option, Result, Err, ap, arith, subst, refl, sym, inl, inr}
use Rattle.std.specs.Prelude.{IsErrOf}
use Rattle.mt_outside.specs.Disk as root
use Rattle.mt_outside.specs.Disk.{names_of}
use Rattle.session.specs.replies.Foreseen.{history}
use Rattle.root_log.specs.root_commits.Turns.{storage}
use Rattle.root_log.specs.root_store.Crashes.{IsCrashSafe, none_begun}
use Rattle.root_log.proofs.RootOpeningImagesShown.{images_opened, shown_opened}
use Rattle.root_log.proofs.RootOpeningOneDamage.{none_told_of}
use Rattle.root_log.proofs.RootOpeningSettled.{raised}
use Rattle.root_log.proofs.RootStoreCrashMarks.{safe_at_start, safe_opened, stands_as_read}
use Rattle.mt_program.specs.declared.status.Status.{Status}
use Rattle.mt_program.specs.Serving.{Output, ServedBy, Stretch}
use Rattle.mt_program.specs.Worlds.{storage_of}
use Rattle.mt_program.proofs.Crashing.{keeps_opened, nothing_of_script, unread}
use Rattle.mt_program.proofs.Gaining.{gained_nothing}
use Rattle.mt_program.proofs.Heading.{root_told, writes_damage, writes_nothing}
use Rattle.mt_program.proofs.Reopened.{images_reopened, images_settled, ready_opened, reopened, shown_reopened, stands_opened}
use Rattle.mt_program.proofs.Undamaged.{not_opened}
use Rattle.mt_program.proofs.top.run_root.Goals as goal

-- an early end with this status
is_err : {T : Type 0} {r : Result T Status} {early s : Status} → r ≡ Err early → early ≡ s → IsErrOf r s
is_err {T} {r} {early} {s} is same = subst (λ (x : Result T Status). IsErrOf x s) (sym is) (ap Err same)

-- the root was not opened
pub returns-in-Err-clause-leaves : goal.returns-in-Err-clause-leaves
returns-in-Err-clause-leaves g c = λ kept names script told is stands tells left. record {
  full = false;
  only = λ full told there. cc;
  left = (
    told,
    writes_nothing c.in-Err.fault c.failed_root.result (g.K.Sink.failed c.args.sink.now) (g.K.Sink.failed c.failed_root.new.sink) (g.K.Sink.written c.args.sink.now) (g.K.Sink.written c.failed_root.new.sink)
        (none_told_of names (history kept) c.in-Err.fault stands (c.in-Err.ensures.damage names is)) c.failed_root.ensures.writes,
    c.in-Err.ensures.disk.told,
  );
}

pub returns-in-Err-clause-opening : goal.returns-in-Err-clause-opening
returns-in-Err-clause-opening g c = λ names damage is damaged. (
  writes_damage _ damage c.in-Err.fault c.failed_root.result (g.K.Sink.failed c.args.sink.now) (g.K.Sink.failed c.failed_root.new.sink) (g.K.Sink.written c.args.sink.now) (g.K.Sink.written c.failed_root.new.sink)
      damaged (c.in-Err.ensures.damage names is) c.failed_root.ensures.writes,
  c.in-Err.ensures.disk.told,
  c.in-Err.ensures.mark,
  refl,
)

pub returns-in-Err-clause-sound : goal.returns-in-Err-clause-sound
returns-in-Err-clause-sound g c = λ kept names told is stands tells. c.failed_root.ensures.damaged (none_told_of names (history kept) c.in-Err.fault stands (c.in-Err.ensures.damage names is))

-- the root is ready
pub serve_root-end-requires-clause-ready : goal.serve_root-end-requires-clause-ready
serve_root-end-requires-clause-ready g c κs within =
    let low = c.requires.opened in
    let later = c.in-Ok.ensures.disk.later in
    ready_opened c.in-Ok.store c.args.opened g.D.Arm.Dir.Dir.files _ (g.D.Disk.told c.open.new.disk) _ (g.D.Disk.failed c.open.new.disk) c.in-Ok.ensures.opens c.in-Ok.ensures.disk.told (omega (arith, low, later)) c.requires.below

pub serve_root-end-requires-clause-idle : goal.serve_root-end-requires-clause-idle
serve_root-end-requires-clause-idle g c κs within = c.in-Ok.ensures.opens.idle

-- the script was not read
pub returns-in-Err-read_script-clause-leaves : goal.returns-in-Err-read_script-clause-leaves
returns-in-Err-read_script-clause-leaves g c = λ kept names script told is stands tells left. record {
  full = false;
  only = λ full told there. cc;
  left = (told, refl, c.in-Ok.ensures.disk.told);
}

pub returns-in-Err-read_script-clause-sound : goal.returns-in-Err-read_script-clause-sound
returns-in-Err-read_script-clause-sound g c = λ kept names told is stands tells bad. c.read_script.ensures.undamaged (is_err c.in-Err-read_script.is bad)

pub returns-in-Err-read_script-clause-damaged : goal.returns-in-Err-read_script-clause-damaged
returns-in-Err-read_script-clause-damaged g c = λ names is tells. inl (λ bad. c.read_script.ensures.undamaged (is_err c.in-Err-read_script.is bad))

-- the script was served
pub returns-clause-leaves : goal.returns-clause-leaves
returns-clause-leaves g c = λ kept names script told is stands tells left.
    let files = g.D.Arm.Dir.Dir.files in
    let settled = root_told (g.D.Disk.told c.open.new.disk) names (history kept) (c.in-Ok.ensures.disk.told ∙ is) stands in
    let core = stands_opened c.in-Ok.store c.args.opened files _ _ names (history kept) c.in-Ok.ensures.opens is stands in
    let output : Output = record { before = g.K.Sink.written c.args.sink.now; after = g.K.Sink.written c.serve_root-end.new.sink } in
    let ran = c.serve_root-end.ensures.run kept told (c.in-Ok.ensures.disk.tells ∙ tells) core settled in
    let now = storage_of g.D.Disk g.A.Annals (c.serve_root-end.result.disk, c.serve_root-end.result.annals) in
    let stretch : Option root.Told → Stretch = λ was. record { opened = c.args.opened; root = was; now = now; arm = g.D.Arm.Arm.failed c.serve_root-end.new.arm; full = ran.0 } in
    record {
      full = ran.0;
      only = ran.1;
      left = subst (λ (ys : List ℕ). ServedBy c.serve_root-end.result.end kept ys (stretch (g.D.Disk.told c.args.disk)) output) (c.deref.ensures.value ∙ c.in-Ok-read_script.ensures.text script left)
          (subst (λ (r : Option root.Told). ServedBy c.serve_root-end.result.end kept c.deref.result.now (stretch r) output) c.in-Ok.ensures.disk.told ran.2);
    }

pub returns-clause-sound : goal.returns-clause-sound
returns-clause-sound g c = λ kept names told is stands tells. c.serve_root-end.ensures.undamaged (c.in-Ok.ensures.disk.tells ∙ tells) (c.in-Ok.ensures.opens.told names is).held

-- damage was met only where the root is damaged
pub returns-in-Err-clause-damaged : goal.returns-in-Err-clause-damaged
returns-in-Err-clause-damaged g c = λ names is tells. not_opened (names_of names) c.in-Err.fault c.failed_root.result (c.in-Err.ensures.damage names is) c.failed_root.ensures.damaged

pub returns-clause-damaged : goal.returns-clause-damaged
returns-clause-damaged g c = λ names is tells.
    inl (c.serve_root-end.ensures.undamaged (c.in-Ok.ensures.disk.tells ∙ tells) (c.in-Ok.ensures.opens.told names is).held)

-- what a crash leaves
pub returns-in-Err-clause-crashes : goal.returns-in-Err-clause-crashes
returns-in-Err-clause-crashes g c = λ kept told is known tells all.
    let now = storage (g.D.Disk.told c.open.new.disk) (g.D.Disk.clock c.open.new.disk) (g.D.Disk.failed c.open.new.disk) (g.A.Annals.told c.args.annals) in
    nothing_of_script told kept now (g.D.Disk.clock c.args.disk) (c.in-Err.ensures.disk.told ∙ known) is (safe_opened told _ _ kept.list all (inl c.in-Err.ensures.mark)) (g.S.Source.left c.args.source.now) c.args.opened

pub returns-in-Err-read_script-clause-crashes : goal.returns-in-Err-read_script-clause-crashes
returns-in-Err-read_script-clause-crashes g c = λ kept told is known tells all.
    let files = g.D.Arm.Dir.Dir.files in
    let start = g.D.Disk.clock c.args.disk in
    let store = reopened c.in-Ok.store c.args.opened in
    let stands = stands_as_read told start (history kept) all in
    let core = stands_opened c.in-Ok.store c.args.opened files _ _ told (history kept) c.in-Ok.ensures.opens known stands in
    let rooted = root_told (g.D.Disk.told c.open.new.disk) told (history kept) (c.in-Ok.ensures.disk.told ∙ known) stands in
    let here = storage (g.D.Disk.told c.open.new.disk) (g.D.Disk.clock c.open.new.disk) (g.D.Disk.failed c.open.new.disk) (g.A.Annals.told c.args.annals) in
    let settled = c.in-Ok.ensures.mark.told told known in
    let images = images_reopened c.in-Ok.store c.args.opened here.disk here.clock (images_opened files c.in-Ok.store told start here.clock (history kept) all (c.in-Ok.ensures.opens.told told known).store_of settled here.disk (c.in-Ok.ensures.disk.told ∙ known)) in
    let keeps = keeps_opened told kept here start (c.in-Ok.ensures.disk.told ∙ known) is (safe_opened told _ _ kept.list all c.in-Ok.ensures.mark.upto) files store core images in
    unread (g.S.Source.left c.args.source.now) keeps (gained_nothing (g.A.Annals.told c.args.annals) kept is)

pub returns-clause-crashes : goal.returns-clause-crashes
returns-clause-crashes g c = λ kept told is known tells all.
    let files = g.D.Arm.Dir.Dir.files in
    let start = g.D.Disk.clock c.args.disk in
    let store = reopened c.in-Ok.store c.args.opened in
    let stands = stands_as_read told start (history kept) all in
    let core = stands_opened c.in-Ok.store c.args.opened files _ _ told (history kept) c.in-Ok.ensures.opens known stands in
    let rooted = root_told (g.D.Disk.told c.open.new.disk) told (history kept) (c.in-Ok.ensures.disk.told ∙ known) stands in
    let here = storage (g.D.Disk.told c.open.new.disk) (g.D.Disk.clock c.open.new.disk) (g.D.Disk.failed c.open.new.disk) (g.A.Annals.told c.args.annals) in
    let settled = c.in-Ok.ensures.mark.told told known in
    let images = images_reopened c.in-Ok.store c.args.opened here.disk here.clock (images_opened files c.in-Ok.store told start here.clock (history kept) all (c.in-Ok.ensures.opens.told told known).store_of settled here.disk (c.in-Ok.ensures.disk.told ∙ known)) in
    let keeps = keeps_opened told kept here start (c.in-Ok.ensures.disk.told ∙ known) is (safe_opened told _ _ kept.list all c.in-Ok.ensures.mark.upto) files store core images in
    record {
      text = c.deref.result.now;
      text_is = λ script left. c.deref.ensures.value ∙ c.in-Ok-read_script.ensures.text script left;
      leaves = c.serve_root-end.ensures.through_crashes kept start is (c.in-Ok.ensures.disk.tells ∙ tells) core rooted keeps;
    }

-- what a crash leaves once the names that were read are settled
pub returns-in-Err-clause-settles : goal.returns-in-Err-clause-settles
returns-in-Err-clause-settles g c = λ kept told is known tells some all stamped.
    let stands = stands_as_read told (g.D.Disk.clock c.args.disk + 1) (history kept) all in
    inl (record {
      names = c.in-Err.ensures.disk.told;
      mark = c.in-Err.ensures.mark;
      list = refl;
      output = writes_nothing c.in-Err.fault c.failed_root.result (g.K.Sink.failed c.args.sink.now) (g.K.Sink.failed c.failed_root.new.sink) (g.K.Sink.written c.args.sink.now) (g.K.Sink.written c.failed_root.new.sink)
          (none_told_of told (history kept) c.in-Err.fault stands (c.in-Err.ensures.damage told known)) c.failed_root.ensures.writes;
    })

pub returns-in-Err-read_script-clause-settles : goal.returns-in-Err-read_script-clause-settles
returns-in-Err-read_script-clause-settles g c = λ kept told is known tells some all stamped.
    let files = g.D.Arm.Dir.Dir.files in
    let start = g.D.Disk.clock c.args.disk + 1 in
    let store = reopened c.in-Ok.store c.args.opened in
    let stands = stands_as_read told start (history kept) all in
    let core = stands_opened c.in-Ok.store c.args.opened files _ _ told (history kept) c.in-Ok.ensures.opens known stands in
    let rooted = root_told (g.D.Disk.told c.open.new.disk) told (history kept) (c.in-Ok.ensures.disk.told ∙ known) stands in
    let mark = c.in-Ok.ensures.mark.told told known ∙ raised (names_of told) (g.D.Disk.clock c.args.disk) some in
    let safe = subst (λ (m : ℕ). IsCrashSafe told m (none_begun kept.list) kept.list start) (sym mark) (safe_at_start told start kept.list all) in
    let here = storage (g.D.Disk.told c.open.new.disk) (g.D.Disk.clock c.open.new.disk) (g.D.Disk.failed c.open.new.disk) (g.A.Annals.told c.args.annals) in
    let images = images_settled store told (g.D.Disk.clock c.args.disk) here.disk here.clock (c.in-Ok.ensures.disk.told ∙ known) mark stamped (shown_reopened c.in-Ok.store c.args.opened (names_of told) (shown_opened files (names_of told) c.in-Ok.store (c.in-Ok.ensures.opens.told told known).store_of)) in
    let keeps = keeps_opened told kept here start (c.in-Ok.ensures.disk.told ∙ known) is safe files store core images in
    inr (unread (g.S.Source.left c.args.source.now) keeps (gained_nothing (g.A.Annals.told c.args.annals) kept is))

pub returns-clause-settles : goal.returns-clause-settles
returns-clause-settles g c = λ kept told is known tells some all stamped.
    let files = g.D.Arm.Dir.Dir.files in
    let start = g.D.Disk.clock c.args.disk + 1 in
    let store = reopened c.in-Ok.store c.args.opened in
    let stands = stands_as_read told start (history kept) all in
    let core = stands_opened c.in-Ok.store c.args.opened files _ _ told (history kept) c.in-Ok.ensures.opens known stands in
    let rooted = root_told (g.D.Disk.told c.open.new.disk) told (history kept) (c.in-Ok.ensures.disk.told ∙ known) stands in
    let mark = c.in-Ok.ensures.mark.told told known ∙ raised (names_of told) (g.D.Disk.clock c.args.disk) some in
    let safe = subst (λ (m : ℕ). IsCrashSafe told m (none_begun kept.list) kept.list start) (sym mark) (safe_at_start told start kept.list all) in
    let here = storage (g.D.Disk.told c.open.new.disk) (g.D.Disk.clock c.open.new.disk) (g.D.Disk.failed c.open.new.disk) (g.A.Annals.told c.args.annals) in
    let images = images_settled store told (g.D.Disk.clock c.args.disk) here.disk here.clock (c.in-Ok.ensures.disk.told ∙ known) mark stamped (shown_reopened c.in-Ok.store c.args.opened (names_of told) (shown_opened files (names_of told) c.in-Ok.store (c.in-Ok.ensures.opens.told told known).store_of)) in
    let keeps = keeps_opened told kept here start (c.in-Ok.ensures.disk.told ∙ known) is safe files store core images in
    inr (record {
      text = c.deref.result.now;
      text_is = λ script left. c.deref.ensures.value ∙ c.in-Ok-read_script.ensures.text script left;
      leaves = c.serve_root-end.ensures.through_crashes kept start is (c.in-Ok.ensures.disk.tells ∙ tells) core rooted keeps;
    })
