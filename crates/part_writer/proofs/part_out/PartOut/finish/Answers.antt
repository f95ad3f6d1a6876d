use Rattle.std.proofs.Common.{ap, ◌∙◌}
use Rattle.std.specs.Option.{option_map}
use Rattle.stage_dir.specs.Stages.{settled}
use Rattle.part_writer.specs.Growing.{Growing}
use Rattle.part_writer.proofs.part_out.PartOut.finish.Goals as goal

pub returns-in-Ok-seal-clause-files : goal.returns-in-Ok-seal-clause-files
returns-in-Ok-seal-clause-files g c = λ rows has. c.in-Ok-seal.ensures.files ∙ ap (λ (o : Growing). option_map settled o.stage.files) c.out.view_is ∙ c.in-Ok.ensures.files rows has
