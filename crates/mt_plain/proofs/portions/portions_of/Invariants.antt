-- the portions so far, and what the rest adds to them; no more numbers were drawn than there were entries
use Rattle.std.proofs.Common.{◌≡◌, ◌≤◌, drop}
use Rattle.mt_plain.specs.Portions.{portions_from, unmerged}
use Rattle.mt_plain.proofs.portions.portions_of.Given as goal

abbrev pub invariant-loop-entry : goal.invariant-loop-entry
invariant-loop-entry l = record {
  so_far : portions_from l.table l.schema l.last l.found.items (drop l.entry-index l.entries) ≡ unmerged l.table l.schema l.entries;
  few : l.last ≤ l.entry-index;
}
