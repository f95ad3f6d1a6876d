use Rattle.std.proofs.Common.{arith}
use Rattle.std.proofs.lemmas.Result.{on_ok_weaker}
use Rattle.mt_outside.proofs.LeftArms.{arm_same}
use Rattle.row_merge.proofs.Explaining.{all_stay}
use Rattle.row_merge.proofs.copied.read_on.Goals as goal

pub returns-then-has_row-clause-goes_on : goal.returns-then-has_row-clause-goes_on
returns-then-has_row-clause-goes_on g c = all_stay c.args.stream.now.readers.items

pub returns-then-has_row-clause-rises : goal.returns-then-has_row-clause-rises
returns-then-has_row-clause-rises g c = omega arith

pub returns-clause-rises : goal.returns-clause-rises
returns-clause-rises g c = on_ok_weaker c.refill.result (λ reads. reads.most) c.refill.ensures.reads

pub returns-then-has_row-clause-fails : goal.returns-then-has_row-clause-fails
returns-then-has_row-clause-fails g c = record {
  damaged = tt;
  leaves = arm_same c.args.arm.now;
}
