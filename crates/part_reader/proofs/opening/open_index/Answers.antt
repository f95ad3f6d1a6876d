use Rattle.std.proofs.Common.{◌≡◌}
use Rattle.mt_base.specs.declared.name.FileId.TheVariants as file
use Rattle.part_damage.specs.Marks.{mark_for}
use Rattle.part_reader.specs.Damage.{GoesWrongAt}
use Rattle.part_reader.proofs.LongerFiles.{unread_explained, unread_sound}
use Rattle.part_reader.proofs.opening.open_index.Goals as goal

pub returns-in_err-bytes-clause-spelled : goal.returns-in_err-bytes-clause-spelled
returns-in_err-bytes-clause-spelled g c = λ files index known under.
    unread_sound (g.R.Dir.Dir.files c.args.dir.now) files c.mark_at-marked.result (mark_for c.args.schema.now c.args.manifest.now (file.Skip c.args.number)) (file.Skip c.args.number) (λ found. found ≡ index) c.from_residual.result c.in_err-bytes.field-0.0 known c.mark_at-marked.ensures under.marked c.from_residual.ensures.1 c.in_err-bytes.ensures.damaged

pub returns-in_err-bytes-clause-damaged : goal.returns-in_err-bytes-clause-damaged
returns-in_err-bytes-clause-damaged g c =
    unread_explained (g.R.Dir.Dir.files c.args.dir.now) c.mark_at-marked.result (mark_for c.args.schema.now c.args.manifest.now (file.Skip c.args.number)) (file.Skip c.args.number) (GoesWrongAt c.args.schema.now c.args.manifest.now.rows (file.Skip c.args.number)) c.from_residual.result c.in_err-bytes.field-0.0 c.mark_at-marked.ensures c.from_residual.ensures.1 c.in_err-bytes.ensures.damaged
