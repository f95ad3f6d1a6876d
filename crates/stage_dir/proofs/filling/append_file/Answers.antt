use Rattle.std.proofs.Common.{ap, ◌∙◌}
use Rattle.std.specs.Option.{option_map}
use Rattle.mt_outside.specs.Files.{appended}
use Rattle.stage_dir.specs.Stages.{Filling, with_file}
use Rattle.stage_dir.proofs.Appends.{intact_grown, once_noted}
use Rattle.stage_dir.proofs.filling.append_file.Goals as goal

pub invariant_of-stage-in_err-append : goal.invariant_of-stage-in_err-append
invariant_of-stage-in_err-append g c = once_noted c.stage.inside.names c.note_file.new.names c.args.file c.stage.invariant c.in_ok-note_file.ensures.ok

pub invariant_of-stage-2 : goal.invariant_of-stage-2
invariant_of-stage-2 g c = once_noted c.stage.inside.names c.note_file.new.names c.args.file c.stage.invariant c.in_ok-note_file.ensures.ok

pub returns-clause-names : goal.returns-clause-names
returns-clause-names g c = c.in_ok-note_file.ensures.ok ∙ ap (λ (f : Filling). with_file c.args.file f.names) c.stage.view_is

pub returns-clause-files : goal.returns-clause-files
returns-clause-files g c = c.in_ok-append.ensures.files ∙ ap (λ (f : Filling). option_map (appended c.args.file c.args.bytes.now) f.files) c.stage.view_is

pub returns-clause-intact : goal.returns-clause-intact
returns-clause-intact g c =
    intact_grown c.args.stage.now.files (g.S.Stage.files c.append.new.self) c.args.stage.now.names c.note_file.new.names c.args.file c.args.bytes.now
    (returns-clause-names g c) (returns-clause-files g c) c.requires
