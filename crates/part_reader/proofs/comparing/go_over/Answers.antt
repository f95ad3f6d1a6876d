use Rattle.std.proofs.Common.{ap, arith, refl}
use Rattle.mt_values.specs.Cells.{value_of}
use Rattle.mt_values.specs.Grid.{Cells}
use Rattle.part_reader.proofs.MarkedValues.{granule_begins, within_granule}
use Rattle.part_reader.proofs.comparing.go_over.Goals as goal

pub returns-then-left-gt0-clause-begun : goal.returns-then-left-gt0-clause-begun
returns-then-left-gt0-clause-begun c = λ values here begun. within_granule c.args.granularity values (value_of c.args.cell) c.args.found.now c.args.left _ begun c.if-left-gt0.true refl

pub returns-clause-begun : goal.returns-clause-begun
returns-clause-begun c = λ values here begun.
    granule_begins c.args.granularity values (value_of c.args.cell) c.args.found.now _ c.args.left _ c.args.at c.requires.granularity begun (omega (arith, c.if-left-gt0.false)) here c.in_ok-push.ensures.ok (ap (λ (x : Cells). x.values) c.in_ok-push_cell.ensures.ok) refl
