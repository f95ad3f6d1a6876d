use Rattle.std.proofs.Common.{ap, sym, ◌∙◌}
use Rattle.stage_dir.specs.Stages.{has_file}
use Rattle.stage_dir.proofs.Appends.{noted_there}
use Rattle.stage_dir.proofs.filling.note_file.Goals as goal

pub returns-then-is_among-clause-ok : goal.returns-then-is_among-clause-ok
returns-then-is_among-clause-ok c =
    sym (noted_there c.args.file c.args.names.now (ap (has_file c.args.file) (sym c.as_slice.ensures) ∙ sym c.is_among.ensures ∙ c.if-is_among.true))
