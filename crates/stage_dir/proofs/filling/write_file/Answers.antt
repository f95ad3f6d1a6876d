use Rattle.std.proofs.Common.{◌∙◌}
use Rattle.stage_dir.proofs.Appends.{noted_new, on_ok, told_written}
use Rattle.stage_dir.proofs.filling.write_file.Goals as goal

pub returns-clause-names : goal.returns-clause-names
returns-clause-names g c = on_ok c.append_file.result (λ noted. noted ∙ noted_new c.args.file c.args.stage.now.names c.requires.new) c.append_file.ensures.names

pub returns-clause-files : goal.returns-clause-files
returns-clause-files g c =
    on_ok c.append_file.result (λ grown. told_written c.args.stage.now.files c.append_file.new.stage.files c.args.stage.now.names c.args.file c.args.bytes.now grown c.requires.intact c.requires.new)
    c.append_file.ensures.files
