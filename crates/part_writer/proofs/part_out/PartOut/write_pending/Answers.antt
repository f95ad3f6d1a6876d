use Rattle.std.proofs.Common.{◌≡◌, ◌<◌, [], All, List, ap, arith, length, subst, sym, ◌∙◌}
use Rattle.std.specs.List.{range_with_len}
use Rattle.std.proofs.lemmas.List.FromFn.{length-range_with_len}
use Rattle.mt_values.specs.declared.schema.Schema.{Schema}
use Rattle.mt_values.specs.Granules.{granule_starts}
use Rattle.mt_values.specs.Grid.{Grid}
use Rattle.mt_values.specs.Schemas.{column_types}
use Rattle.mt_values.specs.Values.{Row}
use Rattle.skip_index.specs.Blocks.{AreWhole}
use Rattle.part_writer.specs.declared.grown.Grown.{Grown}
use Rattle.part_writer.specs.Growing.{Growing, HasFiles, HasRows, KeepsRows, grown_bytes}
use Rattle.part_writer.proofs.KeptRows.{range_within}
use Rattle.part_writer.proofs.RowsOut.{pending_written}
use Rattle.part_writer.proofs.part_out.PartOut.write_pending.Goals as goal
use Rattle.part_writer.proofs.part_out.PartOut.write_pending.Goals.{After-deref}
use Rattle.part_writer.proofs.part_out.PartOut.write_pending.Given.{Over}

-- the pending rows are taken
module _ (g : Over) (c : After-deref g) where
  grown_is : c.self.inside.grown ≡ c.args.self.now.grown
  grown_is = ap (λ (o : Growing). o.grown) c.self.view_is

  taken : (rows : List Row) (has : HasRows c.args.self.now rows)
      → (c.in_ok-block.block ≡ record { types = column_types c.self.inside.grown.schema; rows = has.pending }) × KeepsRows c.take_pending.new.self has.written (granule_starts c.args.self.now.grown.schema.granularity has.written) []
  taken rows has =
      c.in_ok-block.ensures.rows has.written (granule_starts c.args.self.now.grown.schema.granularity has.written) has.pending
      (subst (λ (x : Grown). KeepsRows x has.written (granule_starts c.args.self.now.grown.schema.granularity has.written) has.pending) (sym grown_is) has.keeps)

  schema_is : c.take_pending.new.self.schema ≡ c.args.self.now.grown.schema
  schema_is = c.in_ok-block.ensures.schema ∙ ap (λ (x : Grown). x.schema) grown_is

  order_is : c.deref.result.now ≡ range_with_len 0 (length c.in_ok-block.block.rows)
  order_is = c.deref.ensures.value ∙ c.in_ok-order.ensures ∙ ap (range_with_len 0) c.len.ensures.count

  count_is : length c.deref.result.now ≡ length c.requires.whole.has.pending
  count_is = ap length order_is ∙ length-range_with_len 0 (length c.in_ok-block.block.rows) ∙ ap (λ (b : Grid). length b.rows) (taken c.requires.whole.rows c.requires.whole.has).0

pub write-requires-clause-some : goal.write-requires-clause-some
write-requires-clause-some g c = λ κs within.
    let at = (goal.at.write-requires-clause-some g c).After-deref in
    let has = c.requires.whole.has in
    record {
      written = has.written;
      keyed = granule_starts c.args.self.now.grown.schema.granularity has.written;
      pending = [];
      keeps = (taken g at c.requires.whole.rows has).1;
    }

pub write-requires-clause-places : goal.write-requires-clause-places
write-requires-clause-places g c = λ κs within.
    let n = length c.in_ok-block.block.rows in
    subst (All (λ p. p < n)) (sym (order_is g (goal.at.write-requires-clause-places g c).After-deref)) (range_within n 0 n (omega arith))

pub write-requires-clause-one : goal.write-requires-clause-one
write-requires-clause-one g c = λ κs within. omega (arith, count_is g (goal.at.write-requires-clause-one g c).After-deref, c.requires.whole.has.keeps.count, c.requires.some)

pub write-requires-clause-few : goal.write-requires-clause-few
write-requires-clause-few g c = λ κs within.
    let at = (goal.at.write-requires-clause-few g c).After-deref in
    omega (arith, count_is g at, c.requires.whole.has.few, ap (λ (s : Schema). s.granularity) (schema_is g at))

pub returns-clause-rows : goal.returns-clause-rows
returns-clause-rows g c = λ rows has.
    let at = (goal.at.returns-clause-rows g c).After-deref in
    let old = c.args.self.now in
    let new : Growing = record { stage = c.write.new.stage; grown = c.write.new.self } in
    let took = taken g at rows has in
    let same = schema_is g at in
    let stage = ap (λ (o : Growing). o.stage) c.self.view_is in
    pending_written old new rows c.in_ok-block.block c.deref.result.now has
    (took.0 ∙ ap (λ (x : Grown). record { types = column_types x.schema; rows = has.pending }) (grown_is g at)) (order_is g at) (c.in_ok-write.ensures.schema ∙ same) c.requires.some
    (c.in_ok-write.ensures.rows has.written (granule_starts old.grown.schema.granularity has.written) (subst (λ (s : Schema). AreWhole s.granularity has.written) (sym same) has.whole)
    (record {
      files = subst (λ (s : Schema). HasFiles s (grown_bytes has.written) c.self.inside.stage) (sym same) (subst (HasFiles old.grown.schema (grown_bytes has.written)) (sym stage) has.files);
      keeps = took.1;
    }))
