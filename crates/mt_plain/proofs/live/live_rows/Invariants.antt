-- the rows so far, and what the rest does to them
use Rattle.std.proofs.Common.{◌≡◌, drop}
use Rattle.part_history.specs.mt_model.Live.{live, live_from}
use Rattle.mt_plain.proofs.live.live_rows.Given as goal

abbrev pub invariant-loop-entry : goal.invariant-loop-entry
invariant-loop-entry l = live_from l.table l.schema l.rows.items (drop l.entry-index l.entries) ≡ live l.table l.schema l.entries
