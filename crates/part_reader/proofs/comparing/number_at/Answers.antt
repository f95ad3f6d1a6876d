use Rattle.mt_values.specs.Cells.{value_of}
use Rattle.part_reader.proofs.NumberMarks.{number_found, number_there}
use Rattle.part_reader.proofs.comparing.number_at.Goals as goal

pub returns-in-Ok-clause-number : goal.returns-in-Ok-clause-number
returns-in-Ok-clause-number c = λ values s.
    number_found c.args.col_type c.args.count c.args.bytes.now values c.requires.number s c.in_ok-at.field-0 c.args.place c.in-Ok._size (value_of c.in-Ok.cell) c.in_ok-at.ensures.1 c.if-place-count.false c.in-Ok.ensures.0 c.in-Ok.ensures.1

pub returns-in-Err-clause-number : goal.returns-in-Err-clause-number
returns-in-Err-clause-number c = λ values s.
    absurd (number_there c.args.col_type c.args.count c.args.bytes.now values c.requires.number s c.in_ok-at.field-0 c.args.place c.in_ok-at.ensures.1 c.if-place-count.false c.in-Err.ensures.1)
