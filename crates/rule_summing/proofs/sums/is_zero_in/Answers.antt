use Rattle.std.proofs.Common.{◌≡◌, ◌<◌, ◌≤◌, ◌∙◌, [], ap, arith, get_or, length, pos, sym}
use Rattle.std.proofs.Math.IntN.{+ℤ_idr}
use Rattle.std.specs.List.{cons_option}
use Rattle.std.specs.Ordering.{int_eq}
use Rattle.std.proofs.lemmas.Option.{slice_get_past}
use Rattle.mt_values.specs.Cells.{value_of}
use Rattle.mt_values.proofs.Grids.{lengths_typed}
use Rattle.mt_values.proofs.OrderBy.{length_column, value_at}
use Rattle.rule_law.specs.mt_model.Rules.{integer_of, total}
use Rattle.rule_summing.proofs.sums.is_zero_in.Goals as goal

-- there is no such column
pub returns-then-place-width : goal.returns-then-place-width
returns-then-place-width c =
    let block = c.args.block.now in
    let row = get_or block.rows c.args.at [] in
    let long : length row ≡ length block.types = lengths_typed block.types block.rows c.len-rows.ensures.typed c.args.at [] c.requires in
    let past : length row ≤ c.args.place = omega (arith, long, c.width.ensures) in
    sym (ap (λ o. int_eq (total (cons_option o [])) (pos 0)) (slice_get_past row c.args.place past))

pub prove_eq-unreachable-requires : goal.prove_eq-unreachable-requires
prove_eq-unreachable-requires c =
    let block = c.args.block.now in
    let inside : c.args.place < length block.types = omega (arith, c.width.ensures) in
    let len = ap length c.column-column.ensures.values ∙ length_column block.types block.rows c.args.place c.len-rows.ensures.typed inside in
    c.if-prove_eq.true (c.len.ensures.count ∙ len ∙ sym c.len-rows.ensures.count)

pub returns : goal.returns
returns c =
    let block = c.args.block.now in
    let v = value_of c.at.result in
    let inside : c.args.place < length block.types = omega (arith, c.width.ensures) in
    let found = value_at block.types block.rows c.args.place c.args.at v c.len-rows.ensures.typed inside (rw c.column-column.ensures.values at c.at.ensures) in
    c.is_zero_cell.ensures ∙ ap (λ z. int_eq z (pos 0)) (sym (ap (λ o. total (cons_option o [])) found ∙ +ℤ_idr (integer_of v)))
