use Rattle.std.proofs.Common.{◌+◌, drop, inl, refl, subst, sym, ◌∙◌}
use Rattle.std.proofs.lemmas.List.{drop-drop}
use Rattle.column_file.specs.byte_numbers.Fronts.{Begins}
use Rattle.column_file.specs.byte_numbers.declared.faults.FormatFault.TheVariants.{Malformed}
use Rattle.mt_values.specs.Cells.{value_of}
use Rattle.mt_values.specs.ColumnBytes.{value_bytes}
use Rattle.column_file.proofs.Fronts.{handed}
use Rattle.skip_index.specs.Faults.{ExplainsRange}
use Rattle.skip_index.proofs.BlocksRead.{begins_within, no_end, other_end}
use Rattle.skip_index.proofs.reading.read_range.Goals as goal

pub cell_at-requires-2 : goal.cell_at-requires-2
cell_at-requires-2 c = begins_within (value_bytes (value_of c.in_ok-least.least)) c.in_ok-least.first c.args.at c.args.bytes.now c.requires c.in_ok-least.ensures.1

pub returns-in_err-least-clause-fault : goal.returns-in_err-least-clause-fault
returns-in_err-least-clause-fault c =
    handed (ExplainsRange c.args.block c.args.at (drop c.args.at c.args.bytes.now)) c.from_residual.result c.in_err-least.field-0.0 (Malformed c.args.at) c.from_residual.ensures.1 c.in_err-least.ensures.0
    (inl (refl, c.in_err-least.ensures.1))

pub returns-in_err-greatest-clause-fault : goal.returns-in_err-greatest-clause-fault
returns-in_err-greatest-clause-fault c =
    let rest = drop c.args.at c.args.bytes.now in
    let lo = value_of c.in_ok-least.least in
    let size = c.in_ok-least.first in
    handed (ExplainsRange c.args.block c.args.at rest) c.from_residual-in_err-greatest.result c.in_err-greatest.field-0.0 (Malformed (c.args.at + size)) c.from_residual-in_err-greatest.ensures.1 c.in_err-greatest.ensures.0
    (no_end c.args.block c.args.at rest lo size (c.args.at + size) c.in_ok-least.ensures.0 c.in_ok-least.ensures.1 refl
    (λ v left typed may e. c.in_err-greatest.ensures.1 v left typed (sym (drop-drop size c.args.at c.args.bytes.now) ∙ e)))

pub returns-then-not-may_end-clause-fault : goal.returns-then-not-may_end-clause-fault
returns-then-not-may_end-clause-fault c =
    let rest = drop c.args.at c.args.bytes.now in
    let size = c.in_ok-least.first in
    let hi = value_of c.in_ok-greatest.greatest in
    other_end c.args.block c.args.at rest (value_of c.in_ok-least.least) hi size c.in_ok-greatest.second (c.args.at + size) c.in_ok-least.ensures.0 c.in_ok-greatest.ensures.0 c.in_ok-least.ensures.1
    (subst (Begins (value_bytes hi) c.in_ok-greatest.second) (sym (drop-drop size c.args.at c.args.bytes.now)) c.in_ok-greatest.ensures.1) refl (λ may.
    let t = c.may_end.ensures.1 may in
    let f = rw c.if-not-may_end.true at t in
    cc)
