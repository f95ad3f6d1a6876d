-- the file is not among those that were looked at
use Rattle.std.proofs.Common.{◌≡◌, drop, map}
use Rattle.disk_real.specs.Stages.{has}
use Rattle.disk_real.proofs.handles.Handles.get.Given as goal

abbrev pub invariant-loop-written : goal.invariant-loop-written
invariant-loop-written l = has l.file (map (λ o. (o.0, o.1.bytes)) (drop l.written-index l.written-items)) ≡ has l.file l.self
