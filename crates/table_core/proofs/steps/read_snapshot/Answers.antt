use Rattle.std.proofs.Common.{◌≡◌, ◌<◌, List, get_or, length, subst}
use Rattle.table_core.specs.declared.snapshot.Snapshot.{Snapshot}
use Rattle.table_core.proofs.Keeping.{snapshot_rises}
use Rattle.table_core.proofs.steps.read_snapshot.Goals as goal

pub all_rows-requires : goal.all_rows-requires
all_rows-requires c =
    let number = c.args.number in
    let snapshot = c.in-Some.snapshot.now in
    let found = c.in-Some.ensures.lookup in
    snapshot_rises c.args.store.now number snapshot c.requires
    (subst (λ (ss : List Snapshot). number < length ss) c.deref.ensures.value found.3.0)
    (subst (λ (ss : List Snapshot). snapshot ≡ get_or ss number snapshot) c.deref.ensures.value found.1)
