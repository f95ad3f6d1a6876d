use Rattle.std.proofs.Common.{◌∷◌, [], ap, arith, subst, sym, ◌∙◌}
use Rattle.mt_values.specs.Granules.{granule_starts}
use Rattle.part_writer.specs.declared.grown.Grown.{Grown}
use Rattle.part_writer.specs.Growing.{Growing, KeepsRows, TakesRows}
use Rattle.part_writer.proofs.RowsOut.{rows_added}
use Rattle.part_writer.proofs.part_out.PartOut.push.Goals as goal

pub add_row-requires-clause-some : goal.add_row-requires-clause-some
add_row-requires-clause-some g c =
    let takes : TakesRows c.make_room.new.self c.requires.whole.rows c.in_ok-make_room.field-0 = c.in_ok-make_room.ensures.rows c.requires.whole.rows c.requires.whole.has in
    let keyed = granule_starts c.make_room.new.self.grown.schema.granularity takes.written in
    record {
      written = takes.written;
      keyed = keyed;
      pending = takes.pending;
      keeps = subst (λ (x : Grown). KeepsRows x takes.written keyed takes.pending) (sym (ap (λ (o : Growing). o.grown) c.self.view_is)) takes.keeps;
    }

pub returns-clause-rows : goal.returns-clause-rows
returns-clause-rows g c = λ rows has.
    let out = c.make_room.new.self in
    let new : Growing = record { stage = c.self.inside.stage; grown = c.add_row.new.self } in
    let grown = ap (λ (o : Growing). o.grown) c.self.view_is in
    rows_added out new rows (c.args.row.now ∷ []) c.in_ok-make_room.field-0 (c.in_ok-make_room.ensures.rows rows has) (c.in_ok-add_row.ensures.schema ∙ ap (λ (x : Grown). x.schema) grown) (ap (λ (o : Growing). o.stage) c.self.view_is)
    (λ written keyed pending keeps. c.in_ok-add_row.ensures.rows written keyed pending (subst (λ (x : Grown). KeepsRows x written keyed pending) (sym grown) keeps))
    (omega arith) (omega (arith, c.in_ok-make_room.ensures.some))
