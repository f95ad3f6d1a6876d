-- as many parts as were counted
use Rattle.std.proofs.Common.{◌≡◌, replicate}
use Rattle.row_merge.specs.Streams.{no_cursor}
use Rattle.row_merge.proofs.streams.no_cursors.Given as goal

abbrev pub invariant-loop-cursor : goal.invariant-loop-cursor
invariant-loop-cursor l = l.cursors.items ≡ replicate l._cursor (no_cursor l.types)
