use Rattle.std.proofs.Common.{◌∙◌, ap, subst, sym}
use Rattle.disk_real.specs.Stages.{AreWritten, files_of}
use Rattle.disk_real.proofs.Opened.{same_without, written_without}
use Rattle.disk_real.proofs.folder.RealStage.settle.Goals as goal
use Rattle.disk_real.proofs.folder.RealStage.settle.Goals.{in-Some+in_ok-sync_file, in_default}

pub returns-clause-written : goal.returns-clause-written
returns-clause-written g c =
    elim c.match-get.branch [
      | in-Some+in_ok-sync_file w ↦
          subst AreWritten (sym c.close.ensures) (written_without c.args.file _ (subst (λ s. AreWritten s.handles) (sym w.self-inside-is) c.in_ok-write_out.ensures.written))
      | in_default w ↦
          subst AreWritten (sym c.close.ensures) (written_without c.args.file _ (subst (λ s. AreWritten s.handles) (sym w.self-inside-is) c.in_ok-write_out.ensures.written))
    ]

pub returns-clause-synced : goal.returns-clause-synced
returns-clause-synced g c =
    elim c.match-get.branch [
      | in-Some+in_ok-sync_file w ↦
          ap files_of c.close.ensures ∙ same_without c.args.file _ _ (ap (λ s. files_of s.handles) w.self-inside-is ∙ c.write_out.ensures.same ∙ ap (λ s. files_of s.unsynced) c.self.view_is)
      | in_default w ↦
          ap files_of c.close.ensures ∙ same_without c.args.file _ _ (ap (λ s. files_of s.handles) w.self-inside-is ∙ c.write_out.ensures.same ∙ ap (λ s. files_of s.unsynced) c.self.view_is)
    ]
