-- no part gone over may be rewritten
use Rattle.std.proofs.Common.{ℕ, ◌<◌}
use Rattle.mutation_queue.specs.Queue.{mutations_of}
use Rattle.mutation_queue.specs.Rewrites.{MayRewrite}
use Rattle.mutation_queue.proofs.rewriting.rewrite_in.Given as goal

abbrev pub invariant-loop-first : goal.invariant-loop-first
invariant-loop-first g l = (k : ℕ) → k < l.first → MayRewrite (mutations_of l.queue l.table) l.parts k → ⊥
