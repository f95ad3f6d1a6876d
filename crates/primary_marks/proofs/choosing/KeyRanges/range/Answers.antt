use Rattle.std.proofs.Common.{Some, slice_get, length, sym, ap, ap₂, ◌∙◌, subst, ◌<◌}
use Rattle.mt_values.specs.Cells.{value_of}
use Rattle.predicate.specs.declared.extent.Known.TheVariants as known
use Rattle.primary_marks.specs.Choosing.{key_at}
use Rattle.primary_marks.proofs.GranuleBoxes.{column_within, key_has, key_reaches, range_there}
use Rattle.primary_marks.proofs.choosing.KeyRanges.range.Goals as goal

pub key_cell-least-requires-clause-column : goal.key_cell-least-requires-clause-column
key_cell-least-requires-clause-column c =
    let keys = c.self.inside.marks.now in
    let within = column_within (key_at keys c.self.inside.first) (key_at keys c.self.inside.last) c.args.self.now c.args.column c.self.view_is c.requires in
    key_reaches keys c.self.inside.first c.args.column c.self.invariant.0 within.0

pub key_cell-greatest-requires-clause-column : goal.key_cell-greatest-requires-clause-column
key_cell-greatest-requires-clause-column c =
    let keys = c.self.inside.marks.now in
    let within = column_within (key_at keys c.self.inside.first) (key_at keys c.self.inside.last) c.args.self.now c.args.column c.self.view_is c.requires in
    key_reaches keys c.self.inside.last c.args.column c.self.invariant.1 within.1

pub returns : goal.returns
returns c =
    let keys = c.self.inside.marks.now in
    let least = key_has keys c.self.inside.first c.args.column (value_of c.key_cell-least.result) c.self.invariant.0 c.key_cell-least.ensures in
    let greatest = key_has keys c.self.inside.last c.args.column (value_of c.key_cell-greatest.result) c.self.invariant.1 c.key_cell-greatest.ensures in
    let below : c.args.column < length c.args.self.now = c.requires in
    ap (λ rs. slice_get rs c.args.column) (sym c.self.view_is)
    ∙ range_there (key_at keys c.self.inside.first) (key_at keys c.self.inside.last) c.args.column (value_of c.key_cell-least.result) (value_of c.key_cell-greatest.result)
    (subst (λ rs. c.args.column < length rs) (sym c.self.view_is) below) least greatest
    ∙ ap₂ (λ x y. Some (known.Range x y)) (sym c.in_ok-to_value.ensures) (sym c.in_ok-to_value-2.ensures)
