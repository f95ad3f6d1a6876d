use Rattle.std.proofs.Common.{◌<◌, ap, subst, ◌∙◌}
use Rattle.std.specs.Int.{div_ceil}
use Rattle.mt_values.specs.declared.schema.SkipIndex.{SkipIndex}
use Rattle.column_file.proofs.Fronts.{handed_on}
use Rattle.skip_index.specs.declared.shapes.IndexShape.{IndexShape}
use Rattle.skip_index.specs.Faults.{ExplainsIndex}
use Rattle.skip_index.specs.Files.{shape_of}
use Rattle.skip_index.proofs.Built.{own_is, positive}
use Rattle.skip_index.proofs.OneWay.{index_refused, one_index}
use Rattle.skip_index.proofs.FileShapes.{file_is, shape_is}
use Rattle.skip_index.proofs.reading.read.Goals as goal
use Rattle.skip_index.proofs.reading.read.Goals.{In_err-read_blocks}

pub read_blocks-requires : goal.read_blocks-requires
read_blocks-requires c =
    let same = own_is c.args.schema.now c.args.index c.at-own.result.now c.at-own.ensures in
    positive c.args.schema.now.granularity c.at-own.result.now.granularity c.requires.granularity (subst (λ (i : SkipIndex). 0 < i.granularity) same c.requires.span)

-- the fault that is handed on explains the bytes of the table's skip index
explains : (c : In_err-read_blocks) → ExplainsIndex (shape_of c.args.schema.now c.args.index c.args.rows) c.args.bytes.now c.in_err-read_blocks.field-0.0
explains c =
    let same = shape_is c.args.schema.now c.args.index c.args.rows c.at-own.result.now c.at.result.now c.at-own.ensures c.at.ensures in
    subst (λ (s : IndexShape). ExplainsIndex s c.args.bytes.now c.in_err-read_blocks.field-0.0) same c.in_err-read_blocks.ensures.fault

pub returns-in_err-read_blocks-clause-spelled : goal.returns-in_err-read_blocks-clause-spelled
returns-in_err-read_blocks-clause-spelled c = λ kept p.
    index_refused (shape_of c.args.schema.now c.args.index c.args.rows) c.args.bytes.now kept c.from_residual.result c.in_err-read_blocks.field-0.0 c.requires.few c.from_residual.ensures.1 (explains (goal.at.returns-in_err-read_blocks-clause-spelled c).In_err-read_blocks) p

pub returns-in_err-read_blocks-clause-fault : goal.returns-in_err-read_blocks-clause-fault
returns-in_err-read_blocks-clause-fault c =
    handed_on (ExplainsIndex (shape_of c.args.schema.now c.args.index c.args.rows) c.args.bytes.now) c.from_residual.result c.in_err-read_blocks.field-0.0 c.from_residual.ensures.1 (explains (goal.at.returns-in_err-read_blocks-clause-fault c).In_err-read_blocks)

pub returns-clause-read : goal.returns-clause-read
returns-clause-read c =
    let same = shape_is c.args.schema.now c.args.index c.args.rows c.at-own.result.now c.at.result.now c.at-own.ensures c.at.ensures in
    file_is _ (shape_of c.args.schema.now c.args.index c.args.rows) c.args.bytes.now c.in_ok-read_blocks.field-0 c.div_ceil.result same c.in_ok-read_blocks.ensures.kept c.in_ok-read_blocks.ensures.spelled
    (c.div_ceil.ensures ∙ ap (div_ceil c.args.rows) c.from.ensures)

pub returns-clause-spelled : goal.returns-clause-spelled
returns-clause-spelled c = λ kept p. one_index (shape_of c.args.schema.now c.args.index c.args.rows) c.args.bytes.now _ kept c.requires.few (returns-clause-read c) p
