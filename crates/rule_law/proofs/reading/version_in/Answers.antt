use Rattle.std.proofs.Common.{◌≡◌, ◌<◌, ◌≤◌, ◌∙◌, [], ap, arith, get_or, length, sym}
use Rattle.std.proofs.lemmas.Option.{slice_get_past}
use Rattle.mt_values.specs.Cells.{value_of}
use Rattle.mt_values.specs.Tables.{number_at}
use Rattle.mt_values.proofs.Grids.{lengths_typed}
use Rattle.mt_values.proofs.OrderBy.{length_column, value_at}
use Rattle.rule_law.proofs.reading.version_in.Goals as goal

-- there is no such column
pub returns-then-place-width : goal.returns-then-place-width
returns-then-place-width c =
    let block = c.args.block.now in
    let long : length (get_or block.rows c.args.at []) ≡ length block.types = lengths_typed block.types block.rows c.len-rows.ensures.typed c.args.at [] c.requires in
    let past : length (get_or block.rows c.args.at []) ≤ c.args.place = omega (arith, long, c.width.ensures) in
    sym (ap number_at (slice_get_past (get_or block.rows c.args.at []) c.args.place past))

pub prove_eq-unreachable-requires : goal.prove_eq-unreachable-requires
prove_eq-unreachable-requires c =
    let block = c.args.block.now in
    let inside : c.args.place < length block.types = omega (arith, c.width.ensures) in
    let len = ap length c.column-column.ensures.values ∙ length_column block.types block.rows c.args.place c.len-rows.ensures.typed inside in
    c.if-prove_eq.true (c.len.ensures.count ∙ len ∙ sym c.len-rows.ensures.count)

pub returns : goal.returns
returns c =
    let block = c.args.block.now in
    let inside : c.args.place < length block.types = omega (arith, c.width.ensures) in
    let found = value_at block.types block.rows c.args.place c.args.at (value_of c.at.result) c.len-rows.ensures.typed inside (rw c.column-column.ensures.values at c.at.ensures) in
    c.number.ensures ∙ sym (ap number_at found)
