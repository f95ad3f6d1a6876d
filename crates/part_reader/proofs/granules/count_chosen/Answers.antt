use Rattle.std.proofs.Common.{◌∙◌, sym, arith}
use Rattle.part_reader.proofs.CutRows.{count_more, count_skip}
use Rattle.part_reader.proofs.granules.count_chosen.Goals as goal

pub loop-granule-preserved-then-not-is_chosen : goal.loop-granule-preserved-then-not-is_chosen
loop-granule-preserved-then-not-is_chosen c =
    let loaded = c.args.loaded.now in
    record { rows = c.loop-granule.invariant.rows ∙ sym (count_skip loaded.schema.granularity loaded.manifest.rows c.args.chosen.now c.loop-granule.granule c.loop-granule-test.true c.if-not-is_chosen.true) }

pub loop-granule-preserved : goal.loop-granule-preserved
loop-granule-preserved c =
    let loaded = c.args.loaded.now in
    let more = count_more loaded.schema.granularity loaded.manifest.rows c.args.chosen.now c.loop-granule.granule c.loop-granule-test.true c.if-not-is_chosen.false in
    record { rows = omega (arith, more, c.granule_rows.ensures.rows, c.loop-granule.invariant.rows, c.in_ok-rows.ensures) }
