use Rattle.fault_plan.specs.declared.plan.CallKind.TheVariants.{Read}
use Rattle.fault_plan.proofs.Listings.{fails_listed, passes_unlisted}
use Rattle.disk_mem.proofs.arm.MemArmArm.read.Goals as goal

pub returns-clause-exactly : goal.returns-clause-exactly
returns-clause-exactly c = rw (← c.self.view_is) (passes_unlisted Read c.self.inside.plan c.call.new.self c.copy_at.result c.call.result c.call.ensures.fails c.if-call.false c.call.ensures.plan)

pub returns-then-call-clause-exactly : goal.returns-then-call-clause-exactly
returns-then-call-clause-exactly c = rw (← c.self.view_is) (fails_listed Read c.self.inside.plan c.call.new.self c.call.result c.call.ensures.fails c.if-call.true c.call.ensures.plan)
