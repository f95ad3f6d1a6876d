use Rattle.std.proofs.Common.{◌≡◌, ◌<◌, ◌/◌, ◌++◌, ◌∷◌, [], List, ap, length, slice_get, subst, sym, ◌∙◌, arith}
use Rattle.mt_values.specs.declared.schema.SkipIndex.{SkipIndex}
use Rattle.mt_values.specs.Grid.{column_of, picked}
use Rattle.mt_values.specs.Schemas.{column_types}
use Rattle.mt_values.proofs.Grids.{AreRowsOf_picked_within, length-column_of, length_picked_within}
use Rattle.mt_values.proofs.OrderBy.{all_reach}
use Rattle.predicate.specs.declared.extent.Known.{Known}
use Rattle.column_file.proofs.Writing.{values_at, values_of_rows}
use Rattle.skip_index.specs.Blocks.{IsBegun}
use Rattle.skip_index.proofs.Built.{length_types, own_is}
use Rattle.skip_index.proofs.Grown.{index_more}
use Rattle.skip_index.proofs.growing.add_granule.Goals as goal

pub prove_eq-unreachable-requires : goal.prove_eq-unreachable-requires
prove_eq-unreachable-requires c =
    let block = c.args.block.now in
    let column = c.at-own.result.now.column in
    let same = own_is c.args.schema.now c.args.place c.at-own.result.now c.at-own.ensures in
    let below : column < length block.types = omega (arith, c.requires.there.own, ap (λ (i : SkipIndex). i.column) same, length_types c.args.schema.now, ap length c.requires.types) in
    let reach = all_reach block.types block.rows column c.len-2.ensures.typed below in
    c.if-prove_eq.true (c.len.ensures.count ∙ ap length c.column-cells.ensures.values ∙ length-column_of column block.rows reach ∙ sym c.len-2.ensures.count)

pub nonzero_div-whole : goal.nonzero_div-whole
nonzero_div-whole c =
    let same = own_is c.args.schema.now c.args.place c.at-own.result.now c.at-own.ensures in
    subst (λ (i : SkipIndex). 0 < i.granularity) same c.requires.there.span

pub returns : goal.returns
returns c = λ rows typed whole is.
    let schema = c.args.schema.now in
    let types = column_types schema in
    let block = c.args.block.now in
    let order = c.args.order.now in
    let old = c.args.index.now in
    let own = c.at-own.result.now in
    let known = c.in_ok-known.known in
    let more = picked block.rows order in
    let new = values_at c.column-cells.result.now.values order in
    let same = own_is schema c.args.place own c.at-own.ensures in
    let within : own.column < length types = omega (arith, c.requires.there.own, ap (λ (i : SkipIndex). i.column) same, length_types schema) in
    let below : own.column < length block.types = omega (arith, within, ap length c.requires.types) in
    let many : length more ≡ length order = length_picked_within block.rows order c.requires.places in
    let new_are : new ≡ column_of own.column more = values_of_rows block.types block.rows own.column c.column-cells.result.now.values order c.len-2.ensures.typed below c.column-cells.ensures.values in
    let long : length new ≡ length more =
    ap length new_are ∙ length-column_of own.column more (all_reach block.types more own.column (AreRowsOf_picked_within block.types block.rows order c.requires.places c.len-2.ensures.typed) below) in
    index_more schema c.args.place own types rows more new old known c.in-Some.granules c.push.new.self
    c.at-own.ensures c.requires.there typed within whole new_are long (omega (arith, many, c.requires.some)) (omega (arith, many, c.requires.few)) is
    (λ values begun. c.in_ok-known.ensures values (subst (λ (ks : List Known). IsBegun own.kind values (slice_get ks (old.granules / own.granularity))) (sym c.as_slice.ensures) begun))
    (omega (arith, c.in-Some.ensures))
    (c.in_ok-push.ensures.ok ∙ ap (λ (ks : List Known). ks ++ known ∷ []) c.truncate.ensures)
