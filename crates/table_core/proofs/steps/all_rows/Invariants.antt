-- the rows of the parts so far, each part's after the mutations for which it waits
use Rattle.std.proofs.Common.{◌≡◌, take}
use Rattle.part_history.specs.Parts.{rows_seen_of}
use Rattle.table_core.proofs.steps.all_rows.Given as goal

abbrev pub invariant-loop-part : goal.invariant-loop-part
invariant-loop-part l = l.rows.items ≡ rows_seen_of l.snapshot.mutations (take l.part-index l.parts)
