use Rattle.std.proofs.Common.{sym}
use Rattle.part_set.proofs.Passes.{stands_as}
use Rattle.part_set.proofs.pass.stand_of.Goals as goal

pub returns-in-Some : goal.returns-in-Some
returns-in-Some c = stands_as c.args.kept.now _ c.args.part.now _ (sym c.in-Some.ensures.value) c.stand_to.ensures
