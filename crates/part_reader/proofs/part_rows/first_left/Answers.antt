use Rattle.std.proofs.Common.{arith}
use Rattle.part_reader.proofs.LeftGranules.{found_first, no_rows, none_at_all, none_passed, not_chosen}
use Rattle.part_reader.proofs.part_rows.first_left.Goals as goal

pub loop-granule-init : goal.loop-granule-init
loop-granule-init c = record { before = none_passed c.args.loaded.now c.args.chosen.now c.args.from c.requires }

pub loop-granule-preserved-then-not-chosen-granule : goal.loop-granule-preserved-then-not-chosen-granule
loop-granule-preserved-then-not-chosen-granule c =
    record { before = not_chosen c.args.loaded.now c.args.chosen.now c.args.from c.requires c.loop-granule.granule (omega arith) (omega arith) c.if-not-chosen-granule.true c.loop-granule.invariant.before }

pub loop-granule-preserved : goal.loop-granule-preserved
loop-granule-preserved c =
    record { before = no_rows c.args.loaded.now c.args.chosen.now c.args.from c.requires c.loop-granule.granule (omega arith) (omega arith) c.if-not-chosen-granule.false (omega (arith, c.granule_rows.ensures.rows, c.if-granule_rows-gt0.false)) c.loop-granule.invariant.before }

pub returns-then-granule_rows-gt0-clause-first : goal.returns-then-granule_rows-gt0-clause-first
returns-then-granule_rows-gt0-clause-first c =
    found_first c.args.loaded.now c.args.chosen.now c.args.from c.requires c.loop-granule.granule (omega arith) (omega arith) c.if-not-chosen-granule.false (omega (arith, c.granule_rows.ensures.rows, c.if-granule_rows-gt0.true)) c.loop-granule.invariant.before

pub returns-clause-first : goal.returns-clause-first
returns-clause-first c =
    none_at_all c.args.loaded.now c.args.chosen.now c.args.from c.requires c.loop-granule.granule (omega arith) c.loop-granule.invariant.before
