use Rattle.std.proofs.Common.{◌≡◌, ◌⊎◌, ◌≤◌, ◌<◌, ℕ, true, false, Err, inl, inr, ◌+◌, refl, ◌∙◌, sym, ap, subst, nat_lt, arith}
use Rattle.std.specs.Prelude.{is_some}
use Rattle.std.proofs.lemmas.Bool.Decides.{nat_tests}
use Rattle.mt_outside.specs.Causes.{Rose}
use Rattle.mt_outside.specs.Disk as root
use Rattle.session.specs.mt_model.Outside.{Outside}
use Rattle.session.specs.replies.Foreseen.{history}
use Rattle.mt_program.specs.Damage.{WritesDamage, damage_line}
use Rattle.mt_program.specs.Endings.{IsAnswered}
use Rattle.mt_program.specs.Headline.{NothingRan}
use Rattle.mt_program.specs.Serving.{MayComeTo}
use Rattle.mt_program.specs.Worlds.{world}
use Rattle.root_log.specs.root_commits.Turns.{storage}
use Rattle.mt_program.proofs.Reopened.{stretch}
use Rattle.mt_program.specs.declared.status.Status.{Status}
use Rattle.mt_program.specs.declared.status.Status.TheVariants as status
use Rattle.session.proofs.RepliesCounting.{risen_back, some_rose}
use Rattle.root_log.specs.root_store.Crashes.{AllStand}
use Rattle.mt_program.specs.Crashes.{LeavesOfScript}
use Rattle.mt_program.proofs.Crashing.{left_moved}
use Rattle.mt_program.proofs.Heading.{answered_calm, answered_served, by_status, disk_fault, early_not_told, ended_early, failed_is, leaves_all, none_answered, none_ran, not_damaged, not_words, output_of, read_fault, root_told, told_fault, too_long, write_fault}
use Rattle.mt_program.proofs.Undamaged.{met_damage}
use Rattle.mt_program.proofs.Unopened.{is_status, status_is, unopened}
use Rattle.mt_program.proofs.top.run_opened.Goals as goal

-- the count rose before the end, or when the names were listed
risen_at_end : (opened first listed last now : ℕ) → opened ≡ first → first ≤ listed → last ≡ now → nat_lt opened last ≡ true → Rose first now
risen_at_end opened first listed last now at low is risen = let lt : opened < last = grind (arith, nat_tests) in omega arith

risen_at_list : (first second third now : ℕ) → first ≤ second → Rose second third → third ≤ now → Rose first now
risen_at_list first second third now low rose later = omega arith

rises_in_root : (first started listed back armed arm : ℕ) → first ≤ started → started ≤ listed → listed ≤ back → (0 < arm → Rose listed back) → Rose started listed ⊎ Rose armed arm → Rose first back
rises_in_root first started listed back armed arm low mid high taken (inl rose) = risen_at_list first started listed back low rose high
rises_in_root first started listed back armed arm low mid high taken (inr rose) = let last = taken (some_rose armed arm rose) in omega arith

-- a count that has not risen is the same
same_count : (opened first last now : ℕ) → opened ≡ first → last ≡ now → first ≤ now → nat_lt opened last ≡ false → now ≡ first
same_count opened first last now at is low calm = let le : last ≤ opened = grind (arith, nat_tests) in omega arith

-- the disk was not started, or no arm was made
pub returns-in-Err-clause-run : goal.returns-in-Err-clause-run
returns-in-Err-clause-run g c =
    let done = c.in-Err.ensures in
    unopened c.args.line.now.folder.now _ _ c.in-Err.end done.status
    (record { disk = done.told; clock = done.clock; annals = refl; source = refl; source_failed = refl; sink = refl; started = done.folder; later = done.later })
    (λ full. status_is c.in-Err.end status.DiskFault (done.full full).1) (λ fault. done.fault (is_status c.in-Err.end status.DiskFault fault))

pub returns-in-Err-clause-full : goal.returns-in-Err-clause-full
returns-in-Err-clause-full g c = λ full. (refl, refl, (c.in-Err.ensures.full full).0, refl)

pub returns-clause-run : goal.returns-clause-run
returns-clause-run g c =
    let run = c.run_root-end.ensures in
    let risen = nat_lt c.faults-opened.result c.faults.result in
    let end = c.run_root-end.result.end in
    let is = c.status_at_end-end.ensures in
    let names = c.in-Ok.ensures.told in
    let mark = c.in-Ok.ensures.clock in
    let back = c.take_back.ensures in
    let first = g.D.Disk.failed c.args.disk in
    let started = g.D.Disk.failed c.started_arm.new.disk in
    let listed = g.D.Disk.failed c.run_root-end.result.disk in
    let last = g.D.Disk.failed c.take_back.new.self in
    let low : first ≤ started = c.in-Ok.ensures.later in
    let mid : started ≤ listed = run.disk_later in
    let high : listed ≤ last = back.later in
    let all : first ≤ last = omega (arith, low, mid, high) in
    record {
      headline = λ kept script written starts.
          let here = c.in-Ok.ensures.told ∙ starts.disk_is in
          let tells = c.in-Ok.ensures.tells ∙ ap is_some starts.disk_is in
          let was = storage (g.D.Disk.told c.args.disk) (g.D.Disk.clock c.args.disk) (g.D.Disk.failed c.args.disk) (g.A.Annals.told c.args.annals) in
          let ran = storage (g.D.Disk.told c.run_root-end.result.disk) (g.D.Disk.clock c.run_root-end.result.disk) (g.D.Disk.failed c.run_root-end.result.disk) (g.A.Annals.told c.run_root-end.result.annals) in
          let now = storage (g.D.Disk.told c.take_back.new.self) (g.D.Disk.clock c.take_back.new.self) (g.D.Disk.failed c.take_back.new.self) (g.A.Annals.told c.run_root-end.result.annals) in
          let before = world was (g.D.Disk.started c.args.disk) (g.S.Source.left c.args.source.now) (g.S.Source.failed c.args.source.now) (g.K.Sink.written c.args.sink.now) (g.K.Sink.failed c.args.sink.now) in
          let after = world now (g.D.Disk.started c.take_back.new.self) (g.S.Source.left c.run_root-end.new.source) (g.S.Source.failed c.run_root-end.new.source) (g.K.Sink.written c.run_root-end.new.sink) (g.K.Sink.failed c.run_root-end.new.sink) in
          let arm = g.D.Arm.Arm.failed c.run_root-end.new.arm in
          let end = c.run_root-end.ensures.leaves kept starts.told script starts.annals_is here starts.stands tells starts.source_is in
          let s = stretch c.faults-opened.result (g.D.Disk.told c.started_arm.new.disk) ran arm end.full in
          let n : Outside = record { opened = before.storage.failed; ended = after.storage.failed; full = end.full; company = false } in
          let opened = c.faults-opened.ensures in
          let later = c.run_root-end.ensures.disk_later in
          let low : c.faults-opened.result ≤ g.D.Disk.failed c.run_root-end.result.disk = omega arith in
          let f : MayComeTo s n = record {
            opened_is = sym c.faults-opened.ensures;
            later = c.take_back.ensures.later;
            risen = λ some. risen_back (g.D.Disk.failed c.args.disk) (g.D.Disk.failed c.run_root-end.result.disk) (g.D.Disk.failed c.take_back.new.self) (omega arith) (c.take_back.ensures.taken some);
            stays = λ is. is;
          } in
          let same : c.run_root-end.result.end ≡ Err status.DiskFault → NothingRan before after none_answered = λ fault.
          let not = early_not_told c.run_root-end.result.end kept script s (output_of before after) fault end.left in
          none_ran before after (
            c.take_back.ensures.told ∙ (not.2 ∙ c.in-Ok.ensures.told),
            c.take_back.ensures.clock ∙ (c.run_root-end.ensures.mark (failed_is c.run_root-end.result.end fault) ∙ c.in-Ok.ensures.clock),
            not.0 ∙ sym starts.annals_is,
            ap g.S.Source.left (c.run_root-end.ensures.unread (failed_is c.run_root-end.result.end fault)),
            not.1,
          ) in
          by_status c.status_at_end-end.ensures
          (leaves_all before after kept script written s n (record { opened = refl; ended = refl; full = λ is told there. end.only is told (sym c.take_back.ensures.told ∙ there); alone = refl }) f refl c.take_back.ensures.told starts.sink_is (nat_lt c.faults-opened.result c.faults.result) c.run_root-end.result.end starts.stands.legal
          (root_told (g.D.Disk.told c.started_arm.new.disk) starts.told (history kept) here starts.stands) (c.run_root-end.ensures.sound kept starts.told starts.annals_is here starts.stands tells) c.run_root-end.ensures.early
          (c.run_root-end.ensures.whole script starts.source_is) same end.left);
      opening = λ told damage known damaged.
          let opened = run.opening told damage (names ∙ known) damaged in
          let P = λ (s : Status). WritesDamage s (damage_line damage) (g.K.Sink.failed c.args.sink.now) (g.K.Sink.failed c.run_root-end.new.sink) (g.K.Sink.written c.args.sink.now) (g.K.Sink.written c.run_root-end.new.sink) in (
            subst P (sym is) (ended_early P risen end opened.0),
            back.told ∙ (opened.1 ∙ names),
            back.clock ∙ (opened.2 ∙ mark),
            opened.3,
          );
      sound = λ kept told listed known stands bad.
          not_damaged risen end (run.sound kept told listed (names ∙ known) stands (c.in-Ok.ensures.tells ∙ ap is_some known)) (sym is ∙ bad);
      damaged = λ told known bad. met_damage (root.names_of told) risen end (run.damaged told (names ∙ known) (c.in-Ok.ensures.tells ∙ ap is_some known)) (sym is ∙ bad);
      crashes =
          let mark : g.D.Disk.clock c.started_arm.new.disk ≡ g.D.Disk.clock c.args.disk = c.in-Ok.ensures.clock in
          let source = g.S.Source.left c.args.source.now in
          let ran = storage (g.D.Disk.told c.run_root-end.result.disk) (g.D.Disk.clock c.run_root-end.result.disk) (g.D.Disk.failed c.run_root-end.result.disk) (g.A.Annals.told c.run_root-end.result.annals) in
          let now = storage (g.D.Disk.told c.take_back.new.self) (g.D.Disk.clock c.take_back.new.self) (g.D.Disk.failed c.take_back.new.self) (g.A.Annals.told c.run_root-end.result.annals) in
          let arm_later = c.in-Ok.ensures.later in
          let root_later = c.run_root-end.ensures.disk_later in
          let back_later = c.take_back.ensures.later in
          let back : now.failed ≡ g.D.Disk.failed c.args.disk → ran.failed ≡ g.D.Disk.failed c.args.disk = λ same. omega (arith, same, arm_later, root_later, back_later) in
          record {
            kept = λ kept told is known all.
                let tells = c.in-Ok.ensures.tells ∙ ap is_some known in
                let left = c.run_root-end.ensures.crashes kept told is (names ∙ known) tells (subst (λ m. AllStand told m (history kept)) (sym mark) all) in
                let from_start = subst (λ m. LeavesOfScript source c.faults-opened.result ran kept m) mark left in
                let from_opened = subst (λ m. LeavesOfScript source m ran kept (g.D.Disk.clock c.args.disk)) c.faults-opened.ensures from_start in
                left_moved ran now c.take_back.ensures.told c.take_back.ensures.clock refl back from_opened;
            settles = λ kept told is known some all stamped.
                let tells = c.in-Ok.ensures.tells ∙ ap is_some known in
                let left = c.run_root-end.ensures.settles kept told is (names ∙ known) tells some (subst (λ m. AllStand told (m + 1) (history kept)) (sym mark) all) (subst (λ m. root.IsStamped m told) (sym mark) stamped) in
                elim left [
                  | inl same ↦ inl (record { names = c.take_back.ensures.told ∙ (same.names ∙ names); mark = c.take_back.ensures.clock ∙ (same.mark ∙ mark); list = same.list; output = same.output })
                  | inr leaves ↦ (
                      let from_start = subst (λ m. LeavesOfScript source c.faults-opened.result ran kept (m + 1)) mark leaves in
                      let from_opened = subst (λ m. LeavesOfScript source m ran kept (g.D.Disk.clock c.args.disk + 1)) c.faults-opened.ensures from_start in
                      inr (left_moved ran now c.take_back.ensures.told c.take_back.ensures.clock refl back from_opened))
                ];
          };
      folder = inl (back.started ∙ (run.started ∙ c.in-Ok.ensures.started));
      full = λ full. let below = c.in-Ok.ensures.below in absurd (omega (arith, below, full));
      whole = λ script left done. answered_served _ risen end (run.whole script left) run.early (subst IsAnswered is done);
      words = λ bad. not_words risen end run.early (sym is ∙ bad);
      read = λ e. run.read (read_fault risen end (sym is ∙ e));
      unfailed = λ other. run.unfailed (λ fault. other (is ∙ told_fault risen end fault));
      write = λ e. run.write (write_fault risen end run.early (sym is ∙ e));
      disk = λ e. elim (disk_fault risen end (sym is ∙ e)) [
        | inl rose ↦ risen_at_end c.faults-opened.result first first c.faults.result last c.faults-opened.ensures (omega arith) c.faults.ensures rose
        | inr failed ↦ rises_in_root first started listed last (g.D.Arm.Arm.failed c.in-Ok.arm) (g.D.Arm.Arm.failed c.run_root-end.new.arm) low mid high back.taken (run.disk failed)
      ];
      long = λ e. run.long (too_long risen end (sym is ∙ e));
      calm = λ done. same_count c.faults-opened.result first c.faults.result last c.faults-opened.ensures c.faults.ensures all (answered_calm risen end run.early (subst IsAnswered is done));
      later = all;
    }

-- a disk whose count stands at its type's end is not started
pub returns-clause-full : goal.returns-clause-full
returns-clause-full g c = λ full. let below = c.in-Ok.ensures.below in absurd (omega (arith, below, full))
