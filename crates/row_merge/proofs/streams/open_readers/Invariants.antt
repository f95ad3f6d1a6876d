-- a reader of each part gone over
use Rattle.std.proofs.Common.{◌≡◌, length, map, take}
use Rattle.row_merge.specs.Streams.{reader_of, share}
use Rattle.row_merge.proofs.streams.open_readers.Given as goal

abbrev pub invariant-loop-own : goal.invariant-loop-own
invariant-loop-own g l = l.readers.items ≡ map (reader_of l.schema l.plan (share (length l.parts) (length l.plan.columns.items))) (take l.own-index l.parts)
