use Rattle.std.proofs.Common.{◌≡◌, ap, arith, subst, sym, ◌∙◌}
use Rattle.mt_values.specs.declared.schema.Schema.{Schema}
use Rattle.part_writer.specs.Growing.{Growing, HasEnded}
use Rattle.part_writer.proofs.RowsOut.{room_new}
use Rattle.part_writer.proofs.part_out.PartOut.make_room.Goals as goal

pub returns-clause-rows : goal.returns-clause-rows
returns-clause-rows g c = λ rows has.
    let room = c.self.inside.grown.schema.granularity in
    let count = ap (λ (o : Growing). o.grown.count) c.self.view_is in
    let size = ap (λ (o : Growing). o.grown.schema.granularity) c.self.view_is in
    let same = ap (λ (s : Schema). s.granularity) c.in_ok-write_pending.ensures.schema in
    let full : c.args.self.now.grown.count ≡ room = omega (arith, count, size, has.few, has.keeps.count, c.if-self-size.false) in
    room_new c.write_pending.new.self rows room c.in_ok-write_pending.field-0
    (subst (λ n. HasEnded c.write_pending.new.self rows n c.in_ok-write_pending.field-0) full (c.in_ok-write_pending.ensures.rows rows has)) (size ∙ sym same)
