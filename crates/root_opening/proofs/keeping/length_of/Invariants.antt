-- what was counted, with the tables that are left, makes the whole number
use Rattle.std.proofs.Common.{◌≡◌, ◌+◌, List, ℕ}
use Rattle.std.specs.BTreeMap.{IsOrdered}
use Rattle.std.specs.Cmp.Lexicographic.{slice_cmp}
use Rattle.std.specs.List.{sum_by}
use Rattle.std.specs.Ordering.{nat_cmp}
use Rattle.root_store.specs.declared.store.Table.{Table}
use Rattle.root_opening.proofs.keeping.length_of.Given as goal

abbrev pub invariant-loop-table : goal.invariant-loop-table
invariant-loop-table l = record {
  sum : l.length + sum_by (λ (t : Table). 1 + t.drawn) l.table-iterator ≡ sum_by (λ (e : List ℕ × Table). 1 + e.1.drawn) l.tables.entries;
  ordered : IsOrdered (slice_cmp nat_cmp) l.tables;
}
