-- the granules gone over may be read ahead
use Rattle.std.proofs.Common.{◌-◌, ◌≤◌}
use Rattle.part_reader.proofs.ahead.end_ahead.Given as goal

abbrev pub invariant-loop-next : goal.invariant-loop-next
invariant-loop-next g l = record {
  from : l.granule.span.end ≤ l.end;
  few : l.end - l.granule.span.start ≤ l.source.most;
}
