-- as many tables as the entries so far made, and no more than there were entries
use Rattle.std.proofs.Common.{◌≡◌, ◌+◌, ◌≤◌, drop}
use Rattle.part_history.specs.mt_model.History.{creates}
use Rattle.mt_plain.proofs.tables.creates.Given as goal

abbrev pub invariant-loop-entry : goal.invariant-loop-entry
invariant-loop-entry l = record {
  so_far : l.count + creates (drop l.entry-index l.entries) ≡ creates l.entries;
  few : l.count ≤ l.entry-index;
}
