use Rattle.std.proofs.Common.{◌∙◌, IsTrue, ap, subst, sym}
use Rattle.disk_real.specs.Stages.{files_of, has}
use Rattle.disk_real.proofs.Opened.{still_has}
use Rattle.disk_real.proofs.folder.RealStage.write.Goals as goal

pub append-requires : goal.append-requires
append-requires g c = subst (λ hs. IsTrue (has c.args.file hs)) (sym (ap (λ s. s.unsynced) c.self.view_is)) c.in_ok-open.ensures.open

pub returns-clause-open : goal.returns-clause-open
returns-clause-open g c = still_has c.append.result c.args.file _ _ (c.append.ensures ∙ ap (λ s. files_of s.unsynced) c.self.view_is) c.in_ok-open.ensures.open
