use Rattle.std.proofs.Common.{◌<◌, length, get_or, ap, ◌∙◌, arith}
use Rattle.std.specs.Option.{option_map}
use Rattle.std.proofs.lemmas.List.{get_or_default}
use Rattle.mt_base.specs.declared.name.FileId.{FileId}
use Rattle.mt_base.specs.declared.name.FileId.TheVariants.{Entry}
use Rattle.stage_dir.specs.Stages.{contents}
use Rattle.stage_dir.proofs.Settling.{after_error, told_more, told_all, told_kept}
use Rattle.stage_dir.proofs.filling.sync_files.Goals as goal

pub loop-name-preserved : goal.loop-name-preserved
loop-name-preserved g c =
    let names = c.args.names.now in
    let i = c.loop-name.name-index in
    let inside : i < length names = omega arith in
    let name : FileId = get_or names i Entry in
    record {
      files =
          told_more (g.S.Stage.files c.args.stage.now) names c.requires.told i (g.S.Stage.files c.loop-name.stage) (g.S.Stage.files c.sync.new.self) name inside (get_or_default names i Entry name inside) c.requires.once
          c.loop-name.invariant.files c.in_ok-sync.ensures.files;
      count = c.in_ok-sync.ensures.cause.ok ∙ c.loop-name.invariant.count;
    }

pub returns-in_err-sync-clause-kept : goal.returns-in_err-sync-clause-kept
returns-in_err-sync-clause-kept g c =
    after_error c.from_residual.result
    (ap (option_map contents) c.in_err-sync.ensures.err ∙ told_kept (g.S.Stage.files c.args.stage.now) (g.S.Stage.files c.loop-name.stage) c.loop-name.name-index c.loop-name.invariant.files)

pub returns-clause-files : goal.returns-clause-files
returns-clause-files g c = told_all (g.S.Stage.files c.args.stage.now) c.args.names.now c.requires.told c.loop-name.name-index (g.S.Stage.files c.loop-name.stage) (omega arith) c.loop-name.invariant.files
