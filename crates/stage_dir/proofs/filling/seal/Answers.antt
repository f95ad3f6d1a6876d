use Rattle.std.proofs.Common.{sym, subst}
use Rattle.stage_dir.specs.Stages.{IsIntact}
use Rattle.stage_dir.proofs.Settling.{told_sealed}
use Rattle.stage_dir.proofs.filling.seal.Goals as goal

pub invariant_of-result : goal.invariant_of-result
invariant_of-result g c =
    told_sealed (g.S.Stage.files c.stage.inside.stage) (g.S.Stage.files c.sync_files.new.stage) c.stage.inside.names (subst IsIntact (sym c.stage.view_is) c.requires) c.stage.invariant c.in-Ok.ensures.files

pub sync_files-requires-clause-told : goal.sync_files-requires-clause-told
sync_files-requires-clause-told g c = λ lifetimes outlives. rw c.as_slice.ensures (subst IsIntact (sym c.stage.view_is) c.requires)

pub sync_files-requires-clause-once : goal.sync_files-requires-clause-once
sync_files-requires-clause-once g c = λ lifetimes outlives. rw c.as_slice.ensures c.stage.invariant
