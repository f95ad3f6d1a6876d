-- the merges of the partitions so far were all done
use Rattle.std.proofs.Common.{◌≡◌, Ok, None, take, true}
use Rattle.std.specs.List.{All}
use Rattle.session.specs.Answers.{IsFinalAt, IsOf, MergesAt, TellsOfBusy, TellsOfHanded}
use Rattle.session.proofs.optimizes.merge_partitions.Given as goal

abbrev pub invariant-loop-partition : goal.invariant-loop-partition
invariant-loop-partition g l = record {
  merges : MergesAt g.B.Names.given g.B.Names.opening g.B.Names.ledgers.parts l.initial.share l.share (g.R.Arm.failed l.initial.arm) (g.R.Arm.failed l.arm) true (TellsOfHanded g.F.Dir.files g.B.Names.given g.B.Room.before g.B.Names.opening g.B.Names.ledgers.parts (IsOf l.table)) (TellsOfBusy g.F.Dir.files g.B.Names.given g.B.Room.before g.B.Names.opening g.B.Names.ledgers.parts (IsOf l.table)) (All (IsFinalAt g.F.Dir.files g.B.Names.given g.B.Room.before g.B.Names.opening g.B.Names.ledgers.parts l.table) (take l.partition-index l.partitions)) (Ok None);
  out : l.share.out ≡ l.initial.share.out;
  tells : g.R.Arm.tells l.arm ≡ g.R.Arm.tells l.initial.arm;
}
