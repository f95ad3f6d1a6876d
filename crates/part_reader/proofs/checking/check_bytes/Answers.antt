use Rattle.std.proofs.Common.{ℕ}
use Rattle.part_reader.specs.Compared.{IsCompared}
use Rattle.part_reader.specs.Damage.{GoesWrongAlone}
use Rattle.part_reader.specs.Faults.{ExplainsBytes}
use Rattle.part_damage.specs.Marks.{mark_for}
use Rattle.part_reader.proofs.Damages.{error_handed_on, unmarked}
use Rattle.part_reader.proofs.checking.check_bytes.Goals as goal

pub returns-in_err-mark : goal.returns-in_err-mark
returns-in_err-mark c =
    let loaded = c.args.loaded.now in
    let wrong : ℕ → Type 0 = GoesWrongAlone c.args.schema.now loaded.manifest.rows c.args.file c.args.bytes.now in
    error_handed_on (IsCompared c.args.schema.now loaded c.args.file c.args.bytes.now) (ExplainsBytes (mark_for c.args.schema.now loaded.manifest c.args.file) c.args.file wrong c.args.bytes.now) c.from_residual.result c.in_err-mark.field-0.0 c.from_residual.ensures.1
    (unmarked (mark_for c.args.schema.now loaded.manifest c.args.file) c.args.file wrong c.args.bytes.now c.in_err-mark.field-0.0 c.in_err-mark.ensures)
