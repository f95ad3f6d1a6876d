use Rattle.std.proofs.Common.{◌+◌, arith}
use Rattle.mt_outside.proofs.LeftArms.{arm_calm}
use Rattle.part_reader.specs.Granules.{column_in}
use Rattle.part_reader.proofs.ChosenColumns.{gains_last, gains_over}
use Rattle.part_reader.proofs.ChosenItems.{run_more, run_none}
use Rattle.part_reader.proofs.granules.add_chosen.Goals as goal

pub loop-granule-preserved-then-is_chosen : goal.loop-granule-preserved-then-is_chosen
loop-granule-preserved-then-is_chosen g c = record {
  before = omega (arith, c.loop-granule.invariant.before);
  run = run_more c.args.chosen.now c.loop-granule.first c.loop-granule.granule c.loop-granule.invariant.before c.loop-granule-test.true c.if-is_chosen.true c.loop-granule.invariant.run;
  gained = c.loop-granule.invariant.gained;
  arm = c.loop-granule.invariant.arm;
}

pub loop-granule-preserved : goal.loop-granule-preserved
loop-granule-preserved g c =
    let i = c.loop-granule.invariant in
    record {
      before = omega arith;
      run = run_none c.args.chosen.now (c.loop-granule.granule + 1);
      gained = gains_over (column_in g.R.Dir.Dir.files c.args.part.now c.args.number) c.args.chosen.now c.loop-granule.first c.loop-granule.granule c.args.column.now c.loop-granule.column c.add_run.new.column i.before c.loop-granule-test.true c.if-is_chosen.false i.run i.gained c.in_ok-add_run.ensures.read;
      arm = arm_calm i.arm (λ none. none) c.in_ok-add_run.ensures.arm (λ fault. cc);
    }

pub returns-clause-gained : goal.returns-clause-gained
returns-clause-gained g c =
    let i = c.loop-granule.invariant in
    gains_last (column_in g.R.Dir.Dir.files c.args.part.now c.args.number) c.args.chosen.now c.loop-granule.first c.loop-granule.granule _ c.args.column.now c.loop-granule.column c.add_run-2.new.column c.add_run-2.result i.before (omega (arith, c.loop-granule-test.false, c.loop-granule.auto.granule-end)) (omega (arith, c.loop-granule-test.false, c.loop-granule.auto.granule-end)) i.run i.gained c.add_run-2.ensures.read
