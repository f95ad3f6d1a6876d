use Rattle.std.proofs.Common.{◌<◌, All, length, subst, sym}
use Rattle.row_merge.specs.part_writer.declared.loaded.Loaded.{Loaded}
use Rattle.run_memory.proofs.answer.Answer.read_part.Goals as goal

pub tell_granules-requires : goal.tell_granules-requires
tell_granules-requires c =
    subst (All (λ place. place < length c.args.part.now.loaded.schema.columns)) (sym c.as_slice-places.ensures.value)
    (subst (λ (l : Loaded). All (λ place. place < length l.schema.columns) c.in-Some.columns.items) c.deref.ensures c.in-Some.ensures)

pub tell_readers-requires : goal.tell_readers-requires
tell_readers-requires c =
    subst (All (λ place. place < length c.args.part.now.loaded.schema.columns)) (sym c.as_slice-places.ensures.value)
    (subst (λ (l : Loaded). All (λ place. place < length l.schema.columns) c.in-Some.columns.items) c.deref.ensures c.in-Some.ensures)
