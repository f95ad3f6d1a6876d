use Rattle.std.proofs.Common.{◌≤◌, ap, arith, subst, sym, ◌∙◌}
use Rattle.std.specs.Int.{div_ceil}
use Rattle.mt_values.specs.Granules.{granules}
use Rattle.run_memory.proofs.streaming.granule_count.Goals as goal

pub returns : goal.returns
returns c =
    let loaded = c.args.loaded.now in
    subst (λ n. n ≤ granules loaded.schema.granularity loaded.manifest.rows) (sym (c.div_ceil.ensures ∙ ap (div_ceil loaded.manifest.rows) c.from-size.ensures)) (omega arith)
