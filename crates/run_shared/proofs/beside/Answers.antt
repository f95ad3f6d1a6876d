use Rattle.std.proofs.Common.{ap, ◌∙◌, arith}
use Rattle.session.specs.shared_store.Tallies.{Tally}
use Rattle.run_shared.proofs.beside.Goals as goal

pub take_merge-requires-after_bounds : goal.take_merge-requires-after_bounds
take_merge-requires-after_bounds g c κs within = let is = ap (λ (t : Tally). t.parts) c.split-worker.ensures.made in omega (arith, is)

pub say_all-said-requires-clause-parts : goal.say_all-said-requires-clause-parts
say_all-said-requires-clause-parts g c κs within = let is = ap (λ (t : Tally). t.parts) c.split-worker.ensures.left in omega (arith, is, c.requires.parts)

pub say_all-said-requires-clause-out : goal.say_all-said-requires-clause-out
say_all-said-requires-clause-out g c κs within = ap (λ (t : Tally). t.out) c.split-worker.ensures.left ∙ c.requires.out
