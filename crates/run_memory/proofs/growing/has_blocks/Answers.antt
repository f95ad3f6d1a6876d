use Rattle.std.proofs.Common.{arith, sym, ◌∙◌}
use Rattle.run_memory.proofs.growing.has_blocks.Goals as goal

pub returns : goal.returns
returns c = λ told. record {
  own = omega (arith, c.len-width.ensures);
  some = omega arith;
  few = sym c.is_large.ensures ∙ c.if-is_large.false;
}
