-- the bytes of the key's values gone over are added
use Rattle.std.proofs.Common.{◌≡◌, ◌++◌, All, IfSome, slice_get, take}
use Rattle.mt_values.specs.ColumnBytes.{column_bytes}
use Rattle.mt_values.specs.Values.{FitsType}
use Rattle.primary_marks.proofs.building.push_key.Given as goal

abbrev pub invariant-loop-column : goal.invariant-loop-column
invariant-loop-column l = record {
  written : IfSome (slice_get l.marks l.key) (λ k. l.bytes ≡ l.initial.bytes ++ column_bytes (take l.column k));
  encodable : IfSome (slice_get l.marks l.key) (λ k. All FitsType (take l.column k));
}
