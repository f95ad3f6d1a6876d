-- the events so far gave these outcomes
use Rattle.table_core.specs.Core.{IsCore, empty_core}
use Rattle.table_core.specs.Runs.{Runs}
use Rattle.table_core.proofs.running.run.Given as goal

abbrev pub invariant-loop-event : goal.invariant-loop-event
invariant-loop-event l = record {
  ran : Runs empty_core l.yielded l.outcomes.items l.state;
  core : IsCore l.state;
}
