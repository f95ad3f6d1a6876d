-- the files gone over are synced, the others as they were, and no call has failed
use Rattle.std.proofs.Common.{◌≡◌}
use Rattle.std.specs.Option.{option_map}
use Rattle.stage_dir.proofs.Settling.{settled_to}
use Rattle.stage_dir.proofs.filling.sync_files.Given as goal

abbrev pub invariant-loop-name : goal.invariant-loop-name
invariant-loop-name g l = record {
  files : g.S.Stage.files l.stage ≡ option_map (settled_to l.name-index) (g.S.Stage.files l.initial.stage);
  count : g.S.Stage.failed l.stage ≡ g.S.Stage.failed l.initial.stage;
}
