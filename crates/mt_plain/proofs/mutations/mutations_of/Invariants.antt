-- the mutations so far, and what the rest adds to them; no more numbers were drawn than there were entries
use Rattle.std.proofs.Common.{◌≡◌, ◌≤◌, [], drop}
use Rattle.mt_plain.specs.Portions.{mutations_from}
use Rattle.mt_plain.proofs.mutations.mutations_of.Given as goal

abbrev pub invariant-loop-entry : goal.invariant-loop-entry
invariant-loop-entry l = record {
  so_far : mutations_from l.table l.last l.found.items (drop l.entry-index l.entries) ≡ mutations_from l.table 0 [] l.entries;
  few : l.last ≤ l.entry-index;
}
