use Rattle.std.proofs.Common.{◌≡◌, ◌<◌, ◌++◌, All, List, OnOk, ap, filter_map, length, slice_get, subst, sym, ◌∙◌}
use Rattle.std.proofs.lemmas.Option.{get_or_from_slice_get}
use Rattle.mt_values.specs.declared.value.ColType.TheVariants as type
use Rattle.mt_values.specs.declared.value.Value.{Value}
use Rattle.mt_values.specs.Grid.{column_of, picked}
use Rattle.mt_values.proofs.Grids.{column_of-picked, length-column_of}
use Rattle.mt_values.proofs.OrderBy.{all_reach}
use Rattle.part_writer.proofs.pending.add_column.Goals as goal

pub prove_eq-unreachable-requires : goal.prove_eq-unreachable-requires
prove_eq-unreachable-requires c =
    let block = c.args.block.now in
    let reach = all_reach block.types block.rows c.args.place c.len-2.ensures.typed c.requires.place in
    c.if-prove_eq.true (c.len.ensures.count ∙ ap length c.column-cells.ensures.values ∙ length-column_of c.args.place block.rows reach ∙ sym c.len-2.ensures.count)

pub add_cells-requires-clause-within : goal.add_cells-requires-clause-within
add_cells-requires-clause-within c =
    let size = sym c.len-2.ensures.count ∙ sym c.if-prove_eq.false ∙ c.len.ensures.count in
    subst (λ n. All (λ place. place < n) c.args.order.now) size c.requires.order

pub add_cells-requires-clause-same : goal.add_cells-requires-clause-same
add_cells-requires-clause-same c =
    let block = c.args.block.now in
    c.requires.same ∙ get_or_from_slice_get block.types c.args.place c.column-cells.result.now.col_type type.UInt8 c.column-cells.ensures.col_type

pub returns : goal.returns
returns c =
    let block = c.args.block.now in
    let old = c.args.column.now in
    let order = c.args.order.now in
    let reach = all_reach block.types block.rows c.args.place c.len-2.ensures.typed c.requires.place in
    let same : filter_map (slice_get c.column-cells.result.now.values) order ≡ column_of c.args.place (picked block.rows order) =
    ap (λ (vs : List Value). filter_map (slice_get vs) order) c.column-cells.ensures.values ∙ column_of-picked c.args.place block.rows order reach in
    subst (λ (vs : List Value). OnOk c.add_cells.result (c.add_cells.new.column ≡ record { col_type = old.col_type; values = old.values ++ vs })) same c.add_cells.ensures
