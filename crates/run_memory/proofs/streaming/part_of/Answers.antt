use Rattle.std.proofs.Common.{arith, ◌∙◌}
use Rattle.run_memory.proofs.Grown.{first_places}
use Rattle.run_memory.proofs.streaming.part_of.Goals as goal

pub write_part-part-requires-clause-places : goal.write_part-part-requires-clause-places
write_part-part-requires-clause-places c κs =
    first_places c.args.block.now.rows c.len.result c.as_slice.result.now (c.as_slice.ensures.value ∙ c.in_ok-order.ensures) (λ k lt. omega (arith, lt, c.len.ensures.count))
