use Rattle.std.proofs.Common.{◌∙◌, ap, not, rules}
use Rattle.std.proofs.lemmas.Fn.{filter_same}
use Rattle.mt_base.specs.Files.{same_file}
use Rattle.disk_real.specs.Stages.{without}
use Rattle.disk_real.proofs.Opened.{held, held-closed}
use Rattle.disk_real.proofs.handles.Handles.close.Goals as goal

pub returns : goal.returns
returns c =
    let left = filter_same _ (λ o. not (same_file o.0 c.args.file)) _ (λ o b f call. search rules) _ _ c.retain.ensures.filtered in
    ap held left ∙ held-closed c.args.file _ ∙ ap (without c.args.file) c.self.view_is
