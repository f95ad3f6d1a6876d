use Rattle.std.proofs.Common.{◌≡◌, ◌<◌, ◌^◌, ◌∙◌, List, ℕ, Err, length, sym, subst}
use Rattle.std.specs.Prelude.{IsErrOf}
use Rattle.session.specs.run_streams.declared.streams.SourceStop.{SourceStop}
use Rattle.session.specs.run_streams.declared.streams.SourceStop.TheVariants as unread
use Rattle.mt_program.specs.declared.status.Status.{Status}
use Rattle.mt_program.specs.declared.status.Status.TheVariants as status
use Rattle.mt_program.specs.Endings.{IsEarly, status_of_stop}
use Rattle.mt_program.proofs.Heading.{all_read, nothing_left, stop_early, stop_undamaged, told_stop}
use Rattle.mt_program.proofs.top.read_script.Goals as goal

-- no stop of a source is a fault of the disk
stop_elsewhere : (why : SourceStop) → status_of_stop why ≡ status.DiskFault → ⊥
stop_elsewhere unread.NoMemory h = cc
stop_elsewhere unread.Fault h = cc
stop_elsewhere unread.TooLong h = cc

-- an early end that has this status
is_of : {T : Type 0} {found wanted : Status} → IsErrOf {T = T} (Err found) wanted → found ≡ wanted
is_of same = cc

-- it was read whole
pub returns-in-Ok-clause-text : goal.returns-in-Ok-clause-text
returns-in-Ok-clause-text g c = λ script left.
    let all = c.in-Ok.ensures.all in
    all_read script c.in-Ok.text.items (g.S.Source.left c.args.source.now) (g.S.Source.left c.read_all.new.source) left all.0 all.1

pub returns-in-Ok-clause-whole : goal.returns-in-Ok-clause-whole
returns-in-Ok-clause-whole g c = λ script left.
    let all = c.in-Ok.ensures.all in
    let before = g.S.Source.left c.args.source.now in
    let after = g.S.Source.left c.read_all.new.source in (
      subst (λ (ys : List ℕ). length ys < 2 ^ 40) (all_read script c.in-Ok.text.items before after left all.0 all.1) c.in-Ok.ensures.short,
      nothing_left script c.in-Ok.text.items before after left all.0 all.1,
    )

-- it was not
pub returns-in-Err-clause-early : goal.returns-in-Err-clause-early
returns-in-Err-clause-early g c = subst IsEarly (sym c.failed_reading.ensures) (stop_early c.in-Err.stop)

pub returns-in-Err-clause-undamaged : goal.returns-in-Err-clause-undamaged
returns-in-Err-clause-undamaged g c = λ bad. stop_undamaged c.in-Err.stop (sym c.failed_reading.ensures ∙ is_of bad)

pub returns-in-Err-clause-disk : goal.returns-in-Err-clause-disk
returns-in-Err-clause-disk g c = λ bad. stop_elsewhere c.in-Err.stop (sym c.failed_reading.ensures ∙ is_of bad)

pub returns-in-Err-clause-unfailed : goal.returns-in-Err-clause-unfailed
returns-in-Err-clause-unfailed g c = λ other. c.in-Err.ensures.calm (λ fault. other (told_stop c.in-Err.stop c.failed_reading.result c.failed_reading.ensures fault))
