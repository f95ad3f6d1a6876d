use Rattle.std.proofs.Common.{◌<◌, ◌∙◌, arith, length, sym}
use Rattle.std.proofs.lemmas.Option.{slice_get_within}
use Rattle.mt_outside.proofs.LeftArms.{arm_calm, arm_same, arm_then}
use Rattle.row_merge.specs.Heads.{ahead_of}
use Rattle.row_merge.proofs.Explaining.{all_later, all_stay, explained_before}
use Rattle.row_merge.proofs.FirstGranules.{first_more, first_total}
use Rattle.row_merge.proofs.Nexts.{all_filled, more_filled, none_filled}
use Rattle.row_merge.proofs.Opening.{none_at}
use Rattle.row_merge.proofs.Refilling.{ahead_parts, ahead_rests}
use Rattle.row_merge.proofs.Failing.{handed_fails}
use Rattle.row_merge.proofs.streams.fill_all.Goals as goal

pub loop-number-init : goal.loop-number-init
loop-number-init g c =
    let s = c.args.stream.now in
    record {
      stream = c.requires.stream;
      later = all_stay s.readers.items;
      none = λ j within. none_at (ahead_of s.cursors.items) j c.requires.none;
      rows = λ rows holds. none_filled s rows (ahead_rests g.R.Dir.Dir.files c.args.inputs.now s c.requires.stream rows holds);
      unread = λ all j within. all j;
      first = λ shaped all j below. absurd (omega (arith, below));
      arm = arm_same c.args.arm.now;
    }

pub refill-requires-clause-none : goal.refill-requires-clause-none
refill-requires-clause-none g c = λ κs within. c.loop-number.invariant.none c.loop-number.number (omega arith)

pub returns-in_err-refill-clause-fails : goal.returns-in_err-refill-clause-fails
returns-in_err-refill-clause-fails g c =
    let files = g.R.Dir.Dir.files in
    let i = c.args.inputs.now in
    let olds = c.args.stream.now.readers.items in
    handed_fails c.from_residual.result c.in_err-refill.field-0.0 c.from_residual.ensures.1
    (explained_before files i c.in_err-refill.field-0.0 olds c.loop-number.stream.readers.items c.loop-number.invariant.later c.in_err-refill.ensures.fails.damaged)
    (arm_then c.loop-number.invariant.arm (λ none. none) c.in_err-refill.ensures.fails.leaves)

pub loop-number-preserved : goal.loop-number-preserved
loop-number-preserved g c =
    let i = c.args.inputs.now in
    let mid = c.loop-number.stream in
    let before = c.loop-number.invariant in
    let n = c.loop-number.number in
    record {
      stream = c.in_ok-refill.ensures.stream;
      later = all_later c.args.stream.now.readers.items mid.readers.items c.refill.new.stream.readers.items before.later c.in_ok-refill.ensures.goes_on;
      none = λ j within. c.in_ok-refill.ensures.ahead j (λ e. omega (arith, e, within)) ∙ before.none j (omega (arith, within));
      rows = λ rows holds.
          more_filled c.args.stream.now rows mid c.refill.new.stream n (omega (arith, ahead_parts g.R.Dir.Dir.files i mid before.stream)) (before.none n (omega arith)) (before.rows rows holds) (c.in_ok-refill.ensures.rows rows holds);
      unread = λ all j within r there. before.unread all j (omega (arith, within)) r (sym (c.in_ok-refill.ensures.reads.others j (λ e. omega (arith, e, within))) ∙ there);
      first = λ shaped all.
          first_more i (ahead_of mid.cursors.items) (ahead_of c.refill.new.stream.cursors.items) n (before.first shaped all) (c.in_ok-refill.ensures.reads.first shaped (before.unread all n (omega arith))) c.in_ok-refill.ensures.ahead;
      arm = arm_calm before.arm (λ none. none) c.in_ok-refill.ensures.fails.leaves (λ none. none);
    }

pub returns-clause-rows : goal.returns-clause-rows
returns-clause-rows g c = λ rows holds.
    let i = c.args.inputs.now in
    let s = c.args.stream.now in
    let new = c.loop-number.stream in
    let before = c.loop-number.invariant in
    let files = g.R.Dir.Dir.files in
    all_filled s rows new c.loop-number.number (omega (arith, ahead_parts files i new before.stream)) (before.rows rows holds) c.requires.none (ahead_rests files i s c.requires.stream rows holds)

pub returns-clause-first : goal.returns-clause-first
returns-clause-first g c = λ shaped all.
    let i = c.args.inputs.now in
    let new = c.loop-number.stream in
    let before = c.loop-number.invariant in
    first_total i.schema.now.granularity i.parts.now (ahead_of new.cursors.items) (ahead_parts g.R.Dir.Dir.files i new before.stream)
    (λ j k there. let below : j < length i.parts.now = slice_get_within i.parts.now j k there in before.first shaped all j (omega (arith, below)) k there)

pub returns-clause-most : goal.returns-clause-most
returns-clause-most g c = λ shaped. (c.loop-number.invariant.stream.counts shaped).within

pub returns-clause-fails : goal.returns-clause-fails
returns-clause-fails g c = record {
  damaged = tt;
  leaves = c.loop-number.invariant.arm;
}
