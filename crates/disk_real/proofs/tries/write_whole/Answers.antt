use Rattle.std.proofs.Common.{arith, length-drop, length-take}
use Rattle.disk_real.proofs.Known.{appends_at}
use Rattle.disk_real.proofs.tries.write_whole.Goals as goal

pub loop-taken-preserved : goal.loop-taken-preserved
loop-taken-preserved g c = record {
  within = omega (arith, simp (length-take, length-drop) at c.in_ok-taken.ensures.bound);
  wrote = appends_at _ _ _ c.args.bytes.now c.loop-taken.taken c.in_ok-taken.field-0 c.loop-taken.invariant.wrote c.in_ok-taken.ensures.bytes;
}
