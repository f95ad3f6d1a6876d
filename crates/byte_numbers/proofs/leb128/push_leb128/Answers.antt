use Rattle.byte_numbers.proofs.Groups.{bits_left, spelled_more}
use Rattle.byte_numbers.proofs.leb128.push_leb128.Goals as goal

pub loop-group-preserved : goal.loop-group-preserved
loop-group-preserved c = record {
  spelled = spelled_more _ _ _ c.loop-group._group c.loop-group.rest c.loop-group-test.true c.if-rest-lt128.false c.in_ok-push.ensures.ok c.loop-group.invariant.spelled;
  low = bits_left c.loop-group.rest c.loop-group._group c.loop-group-test.true c.loop-group.invariant.low;
}
