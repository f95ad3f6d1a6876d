use Rattle.mt_values.specs.Cells.{value_of}
use Rattle.mt_values.specs.declared.value.ColType.TheVariants as type
use Rattle.column_file.proofs.Wanted.{between_fewer, between_more, between_none, between_within}
use Rattle.column_file.proofs.Reading.{handed_on}
use Rattle.column_file.proofs.picking.pass_texts.Goals as goal

pub loop-value-init : goal.loop-value-init
loop-value-init c = record { within = c.requires; passed = between_none type.Text c.args.bytes.now c.args.at }

pub loop-value-preserved : goal.loop-value-preserved
loop-value-preserved c =
    let more = between_more (value_of c.in_ok-_text._text) c.in_ok-_text.size c.loop-value.invariant.passed c.in_ok-_text.ensures.0 c.in_ok-_text.ensures.1 in
    record { within = between_within more c.requires; passed = more }

pub returns-in_err-_text : goal.returns-in_err-_text
returns-in_err-_text c =
    rw (handed_on c.from_residual.result c.in_err-_text.field-0.0 c.loop-value.end c.from_residual.ensures.1 c.in_err-_text.ensures.0)
    (between_fewer c.loop-value.invariant.passed c.loop-value-test.true c.in_err-_text.ensures.1)
