-- the columns that the mutations so far assign are marked
use Rattle.std.proofs.Common.{◌≡◌, ℕ, false, take}
use Rattle.std.specs.Prelude.{slice_index_or}
use Rattle.mt_values.specs.Changes.{is_assigned}
use Rattle.on_fly.specs.Updates.{EndsMarked}
use Rattle.on_fly.proofs.unknown.unknown_columns.Given as goal

abbrev pub invariant-loop-mutation : goal.invariant-loop-mutation
invariant-loop-mutation l = record {
  columns : (place : ℕ) → slice_index_or l.unknown.items place false ≡ is_assigned (take l.mutation-index l.mutations) place;
  ends : EndsMarked l.unknown.items;
}
