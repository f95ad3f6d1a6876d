use Rattle.part_damage.specs.Marks.{mark_for}
use Rattle.part_reader.specs.Damage.{GoesWrongAlone}
use Rattle.part_reader.proofs.LongerFiles.{unread_explained}
use Rattle.part_reader.proofs.checking.check_file.Goals as goal

pub returns-in_err-bytes-clause-damaged : goal.returns-in_err-bytes-clause-damaged
returns-in_err-bytes-clause-damaged g c =
    let schema = c.args.loaded.now.schema in
    let manifest = c.args.loaded.now.manifest in
    unread_explained (g.R.Dir.Dir.files c.args.dir.now) c.mark_at-marked.result (mark_for schema manifest c.args.file) c.args.file (GoesWrongAlone schema manifest.rows c.args.file) c.from_residual.result c.in_err-bytes.field-0.0 c.mark_at-marked.ensures c.from_residual.ensures.1 c.in_err-bytes.ensures.damaged
