-- no refused call has left the stage
use Rattle.row_merge.specs.part_writer.stage_dir.Stages.{IsIntact}
use Rattle.run_memory.proofs.growing.append_all.Given as goal

abbrev pub invariant-loop-file : goal.invariant-loop-file
invariant-loop-file l = IsIntact l.stage
