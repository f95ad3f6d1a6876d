use Rattle.std.proofs.Common.{◌<◌, All, ap, length, subst, sym, ◌∙◌, arith}
use Rattle.mt_values.specs.declared.schema.SkipIndex.{SkipIndex}
use Rattle.mt_values.specs.Grid.{picked}
use Rattle.mt_values.proofs.Grids.{length-column_of}
use Rattle.mt_values.proofs.OrderBy.{all_reach}
use Rattle.skip_index.proofs.Built.{built, index_counted, length_types, own_is, positive}
use Rattle.skip_index.proofs.building.build.Goals as goal

pub column-cells-requires : goal.column-cells-requires
column-cells-requires c =
    let same = own_is c.args.schema.now c.args.index c.at-own.result.now c.at-own.ensures in
    omega (arith, c.requires.there.own, ap (λ (i : SkipIndex). i.column) same, length_types c.args.schema.now, ap length c.requires.types)

pub prove_eq-unreachable-requires : goal.prove_eq-unreachable-requires
prove_eq-unreachable-requires c =
    let block = c.args.block.now in
    let column = c.at-own.result.now.column in
    let same = own_is c.args.schema.now c.args.index c.at-own.result.now c.at-own.ensures in
    let below : column < length block.types = omega (arith, c.requires.there.own, ap (λ (i : SkipIndex). i.column) same, length_types c.args.schema.now, ap length c.requires.types) in
    let reach = all_reach block.types block.rows column c.len-2.ensures.typed below in
    c.if-prove_eq.true (c.len.ensures.count ∙ ap length c.column-cells.ensures.values ∙ length-column_of column block.rows reach ∙ sym c.len-2.ensures.count)

pub kept_blocks-requires-clause-places : goal.kept_blocks-requires-clause-places
kept_blocks-requires-clause-places c =
    let size = sym c.len-2.ensures.count ∙ sym c.if-prove_eq.false ∙ c.len.ensures.count in
    subst (λ n. All (λ place. place < n) c.args.order.now) size c.requires.places

pub kept_blocks-requires-clause-size : goal.kept_blocks-requires-clause-size
kept_blocks-requires-clause-size c =
    let same = own_is c.args.schema.now c.args.index c.at-own.result.now c.at-own.ensures in
    positive c.args.schema.now.granularity c.at-own.result.now.granularity c.requires.there.granularity (subst (λ (i : SkipIndex). 0 < i.granularity) same c.requires.there.span)

pub returns-clause-kept : goal.returns-clause-kept
returns-clause-kept c =
    let block = c.args.block.now in
    let column = c.at-own.result.now.column in
    let same = own_is c.args.schema.now c.args.index c.at-own.result.now c.at-own.ensures in
    let below : column < length block.types = omega (arith, c.requires.there.own, ap (λ (i : SkipIndex). i.column) same, length_types c.args.schema.now, ap length c.requires.types) in
    built c.args.schema.now c.args.index c.at-own.result.now block.types block.rows c.column-cells.result.now.values c.args.order.now c.div_ceil.result c.in_ok-kept_blocks.field-0
    c.at-own.ensures c.len-2.ensures.typed below c.column-cells.ensures.values c.requires.places c.div_ceil.ensures c.in_ok-kept_blocks.ensures

pub returns-clause-counted : goal.returns-clause-counted
returns-clause-counted c = index_counted c.args.schema.now c.args.index (picked c.args.block.now.rows c.args.order.now) _ c.requires.there.few (returns-clause-kept c)
