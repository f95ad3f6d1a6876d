-- as many numbers as the entries so far drew, and no more than there were entries
use Rattle.std.proofs.Common.{◌≡◌, ◌+◌, ◌≤◌, drop}
use Rattle.part_history.specs.mt_model.Numbers.{last_number}
use Rattle.mt_plain.proofs.tables.last_number.Given as goal

abbrev pub invariant-loop-entry : goal.invariant-loop-entry
invariant-loop-entry l = record {
  so_far : l.last + last_number l.table (drop l.entry-index l.entries) ≡ last_number l.table l.entries;
  few : l.last ≤ l.entry-index;
}
