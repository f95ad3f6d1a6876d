-- the events so far fit
use Rattle.std.specs.Prelude.{All}
use Rattle.run_memory.specs.Events.{Fits}
use Rattle.run_memory.proofs.answer.Answer.events.Given as goal

abbrev pub invariant-loop-text : goal.invariant-loop-text
invariant-loop-text l = All Fits l.events.items
