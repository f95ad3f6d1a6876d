use Rattle.std.proofs.Common.{◌∙◌, take, drop, sym, arith, length-take, length-drop}
use Rattle.std.proofs.lemmas.List.{take-append-drop}
use Rattle.run_streams.proofs.Known.{appends_at, appends_kept}
use Rattle.run_streams.proofs.streams.write_all.Goals as goal

pub loop-at-preserved : goal.loop-at-preserved
loop-at-preserved g c = record {
  wrote = appends_at _ _ _ c.args.bytes.now c.loop-at.at c.in-Ok.count c.loop-at.invariant.wrote c.in-Ok.ensures.bytes;
  within = omega (arith, simp (length-take, length-drop) at c.in-Ok.ensures.bound);
  later = omega (arith, c.in-Ok.ensures.cause.later);
  same = c.in-Ok.ensures.cause.ok ∙ c.loop-at.invariant.same;
}

pub returns-in-Err-clause-front : goal.returns-in-Err-clause-front
returns-in-Err-clause-front g c = (
  take c.loop-at.at c.args.bytes.now,
  drop c.loop-at.at c.args.bytes.now,
  sym (take-append-drop c.loop-at.at c.args.bytes.now),
  appends_kept _ _ _ _ c.loop-at.invariant.wrote c.in-Err.ensures.bytes,
)
