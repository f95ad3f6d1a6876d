-- the bytes of the keys gone over
use Rattle.std.proofs.Common.{◌≡◌, All, take}
use Rattle.mt_values.specs.Values.{FitsType, Row}
use Rattle.column_file.specs.Marks.{keys_bytes}
use Rattle.primary_marks.proofs.building.spell.Given as goal

abbrev pub invariant-loop-key : goal.invariant-loop-key
invariant-loop-key l = record {
  written : l.bytes ≡ keys_bytes (take l.key l.marks);
  encodable : All (λ (k : Row). All FitsType k) (take l.key l.marks);
}
