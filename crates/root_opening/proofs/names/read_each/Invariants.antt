-- the texts gone over are those of the names so far, of which this many are of tables
use Rattle.std.proofs.Common.{◌≡◌, ◌≤◌, take}
use Rattle.root_store.specs.Damage.{most_tables}
use Rattle.root_opening.specs.Names.{AreNamesOf, creates_in}
use Rattle.root_opening.proofs.names.read_each.Given as goal

abbrev pub invariant-loop-place : goal.invariant-loop-place
invariant-loop-place l = record {
  names : AreNamesOf (take l.place l.texts) l.names;
  count : l.tables ≡ creates_in l.names;
  few : l.tables ≤ most_tables;
}
