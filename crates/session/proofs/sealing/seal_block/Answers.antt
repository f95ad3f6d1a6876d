use Rattle.std.proofs.Common.{◌≡◌, ◌<◌, List, ℕ, Some, All, length, sym, ap, ◌∙◌, subst, arith}
use Rattle.std.proofs.lemmas.List.{length-map}
use Rattle.std.proofs.lemmas.List.Elements.{All-weaker}
use Rattle.mt_values.specs.declared.schema.Column.{Column}
use Rattle.mt_values.specs.declared.value.ColType.{ColType}
use Rattle.mt_values.specs.Tables.{sorting_columns}
use Rattle.replies.proofs.MtModelOwnColumns.{sorting_own}
use Rattle.mt_values.specs.Values.{FitsType, Row}
use Rattle.mt_values.specs.Grid.{picked}
use Rattle.mt_values.proofs.Grids.{places_below}
use Rattle.merge_workers.specs.shared_store.part_writer.PartFiles.{all_synced, files_of_part, loaded_of}
use Rattle.merge_workers.proofs.PartWriterContents.{content_length}
use Rattle.merge_workers.proofs.RootStoreTableIndexes.{has_indexes}
use Rattle.merge_workers.proofs.RootStoreTableMarks.{has_marks}
use Rattle.session.proofs.SealedParts.{sealed_of}
use Rattle.session.proofs.sealing.seal_block.Goals as goal

pub key_order-requires : goal.key_order-requires
key_order-requires g c κs within =
    let schema = c.args.schema.now in
    let types = c.args.block.now.types in
    let count : length types ≡ length schema.columns = ap (λ (ts : List ColType). length ts) c.requires.types ∙ length-map schema.columns (λ (column : Column). column.col_type) in
    All-weaker (λ p. p < length schema.columns) (λ p. p < length types) (λ p lt. omega (arith, count, lt)) (sorting_columns schema) (sorting_own schema c.requires.schema) κs within

pub write_part-requires-clause-places : goal.write_part-requires-clause-places
write_part-requires-clause-places g c κs within =
    subst (All (λ place. place < length c.args.block.now.rows)) (sym c.deref.ensures.value) (places_below (sorting_columns c.args.schema.now) c.args.block.now.rows c.in_ok-order.order.items c.in_ok-order.ensures)

pub write_part-requires-clause-marks : goal.write_part-requires-clause-marks
write_part-requires-clause-marks g c κs within = has_marks c.args.schema.now c.requires.schema

pub write_part-requires-clause-indexes : goal.write_part-requires-clause-indexes
write_part-requires-clause-indexes g c κs within = has_indexes c.args.schema.now c.requires.schema

pub write_part-requires-clause-few : goal.write_part-requires-clause-few
write_part-requires-clause-few g c κs within = omega (arith, content_length c.args.schema.now, c.requires.schema.few, c.requires.schema.few_indexes)

pub returns-clause-sealed : goal.returns-clause-sealed
returns-clause-sealed g c = λ tells.
    let block = c.args.block.now in
    let same = c.deref.ensures.value in
    let w = c.in_ok-write_part.ensures in
    sealed_of c.args.schema.now block c.in_ok-order.order.items c.requires.types c.in_ok-order.ensures c.len.ensures.typed _ _
    (w.files tells ∙ ap (λ (o : List ℕ). Some (all_synced (files_of_part c.args.schema.now (picked block.rows o)))) same)
    (w.loaded ∙ ap (λ (o : List ℕ). loaded_of c.args.schema.now (picked block.rows o)) same)
    (subst (λ (o : List ℕ). All (λ (row : Row). All FitsType row) (picked block.rows o)) same w.encodable)
    w.readable
