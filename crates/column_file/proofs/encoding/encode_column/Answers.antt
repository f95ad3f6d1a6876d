use Rattle.std.proofs.Common.{◌≡◌, ◌<◌, All, IfOk, List, ap, length, subst, sym, ◌∙◌}
use Rattle.mt_values.proofs.Grids.{length-column_of}
use Rattle.mt_values.proofs.OrderBy.{all_reach}
use Rattle.mt_values.specs.ColumnBytes.{column_bytes}
use Rattle.mt_values.specs.Values.{FitsType}
use Rattle.mt_values.specs.declared.value.Value.{Value}
use Rattle.column_file.specs.Granules.{marks_of}
use Rattle.column_file.specs.declared.encoding.ColumnBytes.{ColumnBytes}
use Rattle.column_file.proofs.Writing.{rows_spelled, values_of_rows}
use Rattle.column_file.proofs.encoding.encode_column.Goals as goal

pub prove_eq-unreachable-requires : goal.prove_eq-unreachable-requires
prove_eq-unreachable-requires c =
    let block = c.args.block.now in
    let reach = all_reach block.types block.rows c.args.column c.len-2.ensures.typed c.requires.column in
    c.if-prove_eq.true (c.len.ensures.count ∙ ap length c.column-cells.ensures.values ∙ length-column_of c.args.column block.rows reach ∙ sym c.len-2.ensures.count)

pub returns-clause-bytes : goal.returns-clause-bytes
returns-clause-bytes c =
    let these = values_of_rows c.args.block.now.types c.args.block.now.rows c.args.column c.column-cells.result.now.values c.args.order.now c.len-2.ensures.typed c.requires.column c.column-cells.ensures.values in
    subst (λ (vs : List Value). IfOk c.encode_cells.result (λ (r : ColumnBytes). r.bytes ≡ column_bytes vs)) these c.encode_cells.ensures.bytes

pub returns-clause-marks : goal.returns-clause-marks
returns-clause-marks c =
    let these = values_of_rows c.args.block.now.types c.args.block.now.rows c.args.column c.column-cells.result.now.values c.args.order.now c.len-2.ensures.typed c.requires.column c.column-cells.ensures.values in
    subst (λ (vs : List Value). IfOk c.encode_cells.result (λ (r : ColumnBytes). r.marks ≡ marks_of c.args.granularity vs)) these c.encode_cells.ensures.marks

pub returns-clause-encodable : goal.returns-clause-encodable
returns-clause-encodable c =
    let these = values_of_rows c.args.block.now.types c.args.block.now.rows c.args.column c.column-cells.result.now.values c.args.order.now c.len-2.ensures.typed c.requires.column c.column-cells.ensures.values in
    subst (λ (vs : List Value). IfOk c.encode_cells.result (λ _. All FitsType vs)) these c.encode_cells.ensures.encodable

pub returns-clause-spelled : goal.returns-clause-spelled
returns-clause-spelled c =
    let these = values_of_rows c.args.block.now.types c.args.block.now.rows c.args.column c.column-cells.result.now.values c.args.order.now c.len-2.ensures.typed c.requires.column c.column-cells.ensures.values in
    let count = sym c.len-2.ensures.count ∙ sym c.if-prove_eq.false ∙ c.len.ensures.count in
    rows_spelled c.args.block.now.types c.args.column c.column-cells.result.now c.args.order.now _ c.encode_cells.result c.len.ensures.typed c.column-cells.ensures.col_type
    (subst (λ n. All (λ place. place < n) c.args.order.now) count c.requires.places) these (returns-clause-bytes c) (returns-clause-encodable c)
