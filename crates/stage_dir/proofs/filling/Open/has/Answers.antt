use Rattle.std.proofs.Common.{ap, ◌∙◌}
use Rattle.stage_dir.specs.Stages.{Filling, has_file}
use Rattle.stage_dir.proofs.filling.Open.has.Goals as goal

pub returns : goal.returns
returns g c = c.is_among.ensures ∙ ap (has_file c.args.file) (c.as_slice.ensures ∙ ap (λ (filling : Filling). filling.names) c.self.view_is)
