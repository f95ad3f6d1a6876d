-- a reader of each part gone over
use Rattle.std.proofs.Common.{◌≡◌, length, take}
use Rattle.row_merge.specs.Streams.{chosen_readers, share}
use Rattle.row_merge.proofs.chosen.read_chosen.Given as goal

abbrev pub invariant-loop-number : goal.invariant-loop-number
invariant-loop-number g l = l.readers.items ≡ take l.number (chosen_readers l.schema l.columns (share (length l.parts) (length l.columns)) l.parts l.chosen)
