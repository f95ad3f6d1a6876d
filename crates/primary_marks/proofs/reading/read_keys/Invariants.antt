-- the keys of the granules gone over
use Rattle.std.proofs.Common.{◌≤◌, length}
use Rattle.primary_marks.specs.Columns.{key_types}
use Rattle.primary_marks.proofs.KeysRead.{AreKeysRead}
use Rattle.primary_marks.proofs.reading.read_keys.Given as goal

abbrev pub invariant-loop-granule : goal.invariant-loop-granule
invariant-loop-granule l = record {
  within : l.at ≤ length l.bytes;
  read : AreKeysRead (key_types l.initial.columns.items) l.bytes l.at l._granule l.columns.items;
}
