-- of the parts gone over the first granule was read, and no row of the others is in memory
use Rattle.std.proofs.Common.{◌≡◌, ◌≤◌, ◌<◌, ℕ, List, []}
use Rattle.mt_outside.specs.Leaves.{LeavesArm}
use Rattle.mt_values.specs.Values.{Row}
use Rattle.row_merge.specs.Heads.{ahead_of}
use Rattle.row_merge.specs.MergedParts.{PartsHold}
use Rattle.row_merge.specs.Merging.{ahead_at}
use Rattle.row_merge.specs.Streams.{AreLater, AreShaped, HasFirst, IsStream, IsUnreadAt}
use Rattle.row_merge.proofs.Nexts.{AreFilled}
use Rattle.row_merge.proofs.streams.fill_all.Given as goal

abbrev pub invariant-loop-number : goal.invariant-loop-number
invariant-loop-number g l = record {
  stream : IsStream l.inputs l.stream;
  later : AreLater l.fn.stream.readers.items l.stream.readers.items;
  none : (j : ℕ) → l.number ≤ j → ahead_at (ahead_of l.stream.cursors.items) j ≡ [];
  rows : (rows : List (List Row)) → PartsHold g.R.Dir.Dir.files l.inputs.schema.now l.inputs.parts.now rows → AreFilled l.fn.stream l.stream l.number rows;
  unread : ((j : ℕ) → IsUnreadAt l.fn.stream.readers.items j) → (j : ℕ) → l.number ≤ j → IsUnreadAt l.stream.readers.items j;
  first : AreShaped l.inputs → ((j : ℕ) → IsUnreadAt l.fn.stream.readers.items j) → (j : ℕ) → j < l.number → HasFirst l.inputs j (ahead_of l.stream.cursors.items);
  arm : LeavesArm g.R.Arm l.fn.arm l.arm ⊥;
}
