use Rattle.std.proofs.Common.{true, inr, refl, sym, ap, ◌∙◌, subst, arith}
use Rattle.merge_workers.specs.shared_store.part_name.PartNames.{part_text}
use Rattle.merge_workers.specs.shared_store.declared.work.TakeFault.{TakeFault}
use Rattle.merge_workers.specs.shared_store.Handed.{KeepsFrom}
use Rattle.merge_workers.specs.shared_store.Tallies.{Tally}
use Rattle.merge_workers.specs.shared_store.Turns.{AtTurn}
use Rattle.merge_workers.specs.shared_store.Works.{HasAll}
use Rattle.session.specs.Answers.{IsThat}
use Rattle.session.proofs.Merges.{all_parts, merges_busy, merges_stay_done, merges_stay_ended, merges_stay_ended_result, of_none, of_some, work_merged}
use Rattle.session.proofs.optimizes.merge_partition.Goals as goal

-- there was no room for the replies
pub returns-in_default-clause-merges : goal.returns-in_default-clause-merges
returns-in_default-clause-merges g c = merges_stay_ended g.B.Names.given g.B.Names.opening g.B.Names.ledgers.parts c.args.share.now c.args.share.now (g.R.Arm.failed c.args.arm.now) _ _ _ _ refl _

-- nothing was taken up
pub returns-in-Ok-None-clause-merges : goal.returns-in-Ok-None-clause-merges
returns-in-Ok-None-clause-merges g c =
    let none = of_none c.in-Ok-None.field-0 _ c.in-Ok-None.field-0-is c.in-Ok-None.ensures.none in
    merges_stay_done g.B.Names.given g.B.Names.opening g.B.Names.ledgers.parts c.args.share.now c.take_all.new.share (g.R.Arm.failed c.args.arm.now) _ _ _ _ none.0 (inr (none.1, c.args.share.now, none.2))

pub returns-in-Ok-None-clause-out : goal.returns-in-Ok-None-clause-out
returns-in-Ok-None-clause-out g c = ap (λ (t : Tally). t.out) (of_none c.in-Ok-None.field-0 _ c.in-Ok-None.field-0-is c.in-Ok-None.ensures.none).0

pub returns-in-Err-NoMemory-clause-merges : goal.returns-in-Err-NoMemory-clause-merges
returns-in-Err-NoMemory-clause-merges g c = merges_stay_ended g.B.Names.given g.B.Names.opening g.B.Names.ledgers.parts c.args.share.now c.take_all.new.share (g.R.Arm.failed c.args.arm.now) _ _ _ _ c.in-Err-NoMemory.ensures.err.0 _

pub returns-in-Err-NoMemory-clause-out : goal.returns-in-Err-NoMemory-clause-out
returns-in-Err-NoMemory-clause-out g c = ap (λ (t : Tally). t.out) c.in-Err-NoMemory.ensures.err.0

-- all parts were
pub merge_work-requires-clause-out : goal.merge_work-requires-clause-out
merge_work-requires-clause-out g c κs within =
    let has = ap (λ (t : Tally). t.out) (of_some c.in-Ok-Some.field-0 c.in-Ok-Some.work _ c.in-Ok-Some.field-0-is c.in-Ok-Some.ensures.work) in
    omega (arith, has)

pub returns-in-Ok-Some-clause-out : goal.returns-in-Ok-Some-clause-out
returns-in-Ok-Some-clause-out g c =
    let has = ap (λ (t : Tally). t.out) (of_some c.in-Ok-Some.field-0 c.in-Ok-Some.work _ c.in-Ok-Some.field-0-is c.in-Ok-Some.ensures.work) in
    let less = c.merge_work.ensures.out in
    omega (arith, has, less)

pub merge_work-requires-clause-table : goal.merge_work-requires-clause-table
merge_work-requires-clause-table g c κs within = sym (of_some c.in-Ok-Some.field-0 c.in-Ok-Some.work _ c.in-Ok-Some.field-0-is c.in-Ok-Some.ensures.of).0

pub returns-in-Ok-Some-clause-merges : goal.returns-in-Ok-Some-clause-merges
returns-in-Ok-Some-clause-merges g c =
    let work = c.in-Ok-Some.work.taken in
    let of = of_some c.in-Ok-Some.field-0 c.in-Ok-Some.work _ c.in-Ok-Some.field-0-is c.in-Ok-Some.ensures.of in
    let up = of_some c.in-Ok-Some.field-0 c.in-Ok-Some.work _ c.in-Ok-Some.field-0-is c.in-Ok-Some.ensures.work in
    work_merged g.F.Dir.files g.B.Names.given g.B.Room.before g.B.Names.opening g.B.Names.ledgers.parts (IsThat c.args.table.now c.args.partition) HasAll all_parts work
    (record { these = (of.0, of.1); list = c.in-Ok-Some.work.note.list; handed = c.taken.ensures.facts; share = c.args.share.now; turn = of.2 }) c.args.share.now c.take_all.new.share c.merge_work.new.share up
    (g.R.Arm.failed c.args.arm.now) (g.R.Arm.failed c.merge_work.new.arm) true (λ any. refl) _ _ c.merge_work.result c.merge_work.ensures.merges

-- one of them is being merged
pub returns-clause-merges : goal.returns-clause-merges
returns-clause-merges g c =
    let table = c.args.table.now in
    let partition = c.args.partition in
    let share = c.args.share.now in
    let part = c.in-Err-Busy.part in
    let line = c.in_ok-reply-in-Err-Busy.ensures in
    let found = c.in-Err-Busy.ensures.err.1 in
    let turn =
    subst (λ (e : TakeFault). AtTurn g.F.Dir.files g.B.Names.given g.B.Room.before g.B.Names.opening found g.B.Names.ledgers.parts share (λ store failed. KeepsFrom store table partition e)) c.in-Err-Busy.field-0-is c.in-Err-Busy.ensures.err.2 in
    merges_busy g.B.Names.given g.B.Names.opening g.B.Names.ledgers.parts share c.take_all.new.share (g.R.Arm.failed c.args.arm.now) true _ _ _ c.in-Err-Busy.ensures.err.0 (part_text part)
    (λ whole. let is = sym c.in-Err-Busy.field-0-is ∙ c.in-Err-Busy.ensures.alone whole c.requires.out in cc) refl c.in_ok-reply-in-Err-Busy.reply line
    (record { table = table; partition = partition; these = (refl, refl); part = part; list = found; share = share; turn = turn; reply_is = line })

pub returns-clause-out : goal.returns-clause-out
returns-clause-out g c = ap (λ (t : Tally). t.out) c.in-Err-Busy.ensures.err.0

pub returns-in_err-reply-in-Err-Busy-clause-merges : goal.returns-in_err-reply-in-Err-Busy-clause-merges
returns-in_err-reply-in-Err-Busy-clause-merges g c =
    merges_stay_ended_result g.B.Names.given g.B.Names.opening g.B.Names.ledgers.parts c.args.share.now c.take_all.new.share (g.R.Arm.failed c.args.arm.now) true _ _ _ c.in-Err-Busy.ensures.err.0 c.from_residual.result c.from_residual.ensures.0

pub returns-in_err-reply-in-Err-Busy-clause-out : goal.returns-in_err-reply-in-Err-Busy-clause-out
returns-in_err-reply-in-Err-Busy-clause-out g c = ap (λ (t : Tally). t.out) c.in-Err-Busy.ensures.err.0
