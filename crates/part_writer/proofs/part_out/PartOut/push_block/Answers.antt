use Rattle.std.proofs.Common.{◌≡◌, ◌<◌, ◌≤◌, ◌+◌, ◌-◌, ◌++◌, List, ap, append_assoc, arith, drop, is_some, length, subst, sym, take, ◌∙◌}
use Rattle.mt_values.specs.Granules.{granule_starts}
use Rattle.mt_values.specs.Grid.{picked}
use Rattle.mt_values.specs.Values.{Row}
use Rattle.part_writer.specs.declared.grown.Grown.{Grown}
use Rattle.part_writer.specs.Growing.{Growing, HasRows, KeepsRows, TakesRows}
use Rattle.part_writer.proofs.RowsOut.{picked_parts, rows_added, slice_long}
use Rattle.part_writer.proofs.part_out.PartOut.push_block.Goals as goal

pub make_room-requires-after_bounds : goal.make_room-requires-after_bounds
make_room-requires-after_bounds g c κs within = record {
  rows = c.requires.whole.rows ++ picked c.args.block.now.rows (take c.chunks.at c.args.order.now);
  has = c.chunks.invariant.rows c.requires.whole.rows c.requires.whole.has;
}

pub add_rows-requires-clause-some : goal.add_rows-requires-clause-some
add_rows-requires-clause-some g c =
    let rows : List Row = c.requires.whole.rows ++ picked c.args.block.now.rows (take c.chunks.at c.args.order.now) in
    let takes : TakesRows c.make_room.new.self rows c.in_ok-room.room = c.in_ok-room.ensures.rows rows (c.chunks.invariant.rows c.requires.whole.rows c.requires.whole.has) in
    let keyed = granule_starts c.make_room.new.self.grown.schema.granularity takes.written in
    record {
      written = takes.written;
      keyed = keyed;
      pending = takes.pending;
      keeps = subst (λ (x : Grown). KeepsRows x takes.written keyed takes.pending) (sym (ap (λ (o : Growing). o.grown) c.self.view_is)) takes.keeps;
    }

pub chunks-preserved : goal.chunks-preserved
chunks-preserved g c =
    let block = c.args.block.now in
    let order = c.args.order.now in
    let at = c.chunks.at in
    let end = c.min-end.result in
    let room = c.in_ok-room.room in
    let before = c.chunks.invariant in
    let out = c.make_room.new.self in
    let new : Growing = record { stage = c.self.inside.stage; grown = c.add_rows.new.self } in
    let grown = ap (λ (o : Growing). o.grown) c.self.view_is in
    let stage = ap (λ (o : Growing). o.stage) c.self.view_is in
    let same : c.add_rows.new.self.schema ≡ out.grown.schema = c.in_ok-add_rows.ensures.schema ∙ ap (λ (x : Grown). x.schema) grown in
    let inside : end ≤ length order = omega (arith, c.min-end.ensures) in
    let far : end ≤ at + room = omega (arith, c.min-end.ensures, c.saturating_add.ensures) in
    let up : at < end = omega (arith, c.min-end.ensures, c.saturating_add.ensures, c.chunks-test.true, c.in_ok-room.ensures.some) in
    let more : List Row = picked block.rows (take (end - at) (drop at order)) in
    let long : length more ≡ end - at = slice_long block.rows order at end c.requires.places (omega (arith, up)) inside in
    record {
      rows = λ rows has.
          let so_far : List Row = rows ++ picked block.rows (take at order) in
          let added : HasRows new (so_far ++ more) = rows_added out new so_far more room (c.in_ok-room.ensures.rows so_far (before.rows rows has)) same stage
          (λ written keyed pending keeps. c.in_ok-add_rows.ensures.rows written keyed pending (subst (λ (x : Grown). KeepsRows x written keyed pending) (sym grown) keeps))
          (omega (arith, long, up)) (omega (arith, long, far, up)) in
          subst (HasRows new) (append_assoc rows (picked block.rows (take at order)) more ∙ ap (λ (l : List Row). rows ++ l) (sym (picked_parts block.rows order at end (omega (arith, up))))) added;
      within = inside;
      schema = same ∙ c.in_ok-room.ensures.schema ∙ before.schema;
      told = ap (λ (o : Growing). is_some o.stage.files) c.self.view_is ∙ c.in_ok-room.ensures.told ∙ before.told;
      count = ap (λ (o : Growing). o.stage.failed) c.self.view_is ∙ c.in_ok-room.ensures.cause.ok ∙ before.count;
    }
