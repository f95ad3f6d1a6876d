-- room was made, of columns that are not marked
use Rattle.std.proofs.Common.{◌≡◌, ◌⊎◌, ◌+◌, ◌-◌, ◌≤◌, ℕ, false, length, vec_len}
use Rattle.std.specs.Prelude.{slice_index_or}
use Rattle.on_fly.proofs.unknown.mark.Given as goal

abbrev pub invariant-room : goal.invariant-room
invariant-room l = record {
  same : (place : ℕ) → slice_index_or l.unknown.items place false ≡ slice_index_or l.initial.unknown.items place false;
  grown : (length l.unknown.items ≡ length l.initial.unknown.items) ⊎ (length l.unknown.items ≤ l.column + 1);
}

abbrev pub decreases-room : goal.decreases-room
decreases-room l = (l.column + 1) - vec_len l.unknown
