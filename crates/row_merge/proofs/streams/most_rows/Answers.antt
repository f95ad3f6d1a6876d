use Rattle.std.proofs.Common.{◌≤◌, ap, arith}
use Rattle.part_reader.specs.part_writer.declared.loaded.Loaded.{Loaded}
use Rattle.row_merge.proofs.Checked.{all_of, one_more_most}
use Rattle.row_merge.proofs.streams.most_rows.Goals as goal

pub loop-kept-preserved : goal.loop-kept-preserved
loop-kept-preserved g c =
    let rows_are = ap (λ (l : Loaded). l.manifest.rows) c.deref.ensures in
    one_more_most c.args.parts.now c.loop-kept.kept-index c.loop-kept.most c.max-most.result c.kept-item.result (omega arith) c.kept-item.is c.loop-kept.invariant (omega (arith, c.max-most.ensures)) (omega (arith, rows_are, c.max-most.ensures))

pub returns : goal.returns
returns g c = all_of (λ k. k.part.loaded.manifest.rows ≤ c.loop-kept.most) c.args.parts.now c.loop-kept.kept-index (omega arith) c.loop-kept.invariant
