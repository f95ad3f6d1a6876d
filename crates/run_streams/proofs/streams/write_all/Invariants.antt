-- what was written so far is a front of the bytes
use Rattle.std.proofs.Common.{◌≡◌, ◌≤◌, ◌-◌, take, length}
use Rattle.std.specs.Io.KnownBytes.{Appends}
use Rattle.run_streams.proofs.streams.write_all.Given as goal

abbrev pub invariant-loop-at : goal.invariant-loop-at
invariant-loop-at g l = record {
  wrote : Appends (g.K.Sink.written l.initial.sink) (g.K.Sink.written l.sink) (take l.at l.bytes);
  within : l.at ≤ length l.bytes;
  later : g.K.Sink.failed l.initial.sink ≤ g.K.Sink.failed l.sink;
  same : g.K.Sink.failed l.sink ≡ g.K.Sink.failed l.initial.sink;
}

abbrev pub decreases-loop-at : goal.decreases-loop-at
decreases-loop-at g l = length l.bytes - l.at
