use Rattle.std.proofs.Common.{◌∙◌, false, inr, refl, sym, ap, arith}
use Rattle.merge_workers.specs.shared_store.mutation_queue.Scopes.{InScope}
use Rattle.merge_workers.specs.shared_store.Tallies.{Tally}
use Rattle.merge_workers.specs.shared_store.Works.{HasPair}
use Rattle.session.proofs.Merges.{merges_stay_done, merges_stay_ended, of_none, of_some, pair_parts, picked_within, work_merged}
use Rattle.session.proofs.optimizes.merge_pair.Goals as goal

-- there was no room for the replies
pub returns-in_default-clause-merges : goal.returns-in_default-clause-merges
returns-in_default-clause-merges g c = merges_stay_ended g.B.Names.given g.B.Names.opening g.B.Names.ledgers.parts c.args.share.now c.args.share.now (g.R.Arm.failed c.args.arm.now) _ _ _ _ refl _

-- nothing was taken up
pub returns-in-Ok-None-clause-merges : goal.returns-in-Ok-None-clause-merges
returns-in-Ok-None-clause-merges g c =
    let none = of_none c.in-Ok-None.field-0 _ c.in-Ok-None.field-0-is c.in-Ok-None.ensures.none in
    merges_stay_done g.B.Names.given g.B.Names.opening g.B.Names.ledgers.parts c.args.share.now c.take_merge.new.share (g.R.Arm.failed c.args.arm.now) _ _ _ _ none.0 (inr (none.1, c.args.share.now, none.2))

pub returns-in-Ok-None-clause-out : goal.returns-in-Ok-None-clause-out
returns-in-Ok-None-clause-out g c = ap (λ (t : Tally). t.out) (of_none c.in-Ok-None.field-0 _ c.in-Ok-None.field-0-is c.in-Ok-None.ensures.none).0

pub returns-in-Err-clause-merges : goal.returns-in-Err-clause-merges
returns-in-Err-clause-merges g c = merges_stay_ended g.B.Names.given g.B.Names.opening g.B.Names.ledgers.parts c.args.share.now c.take_merge.new.share (g.R.Arm.failed c.args.arm.now) _ _ _ _ c.in-Err.ensures.err _

pub returns-in-Err-clause-out : goal.returns-in-Err-clause-out
returns-in-Err-clause-out g c = ap (λ (t : Tally). t.out) c.in-Err.ensures.err

-- a pair was
pub merge_work-requires-clause-out : goal.merge_work-requires-clause-out
merge_work-requires-clause-out g c κs within =
    let has = ap (λ (t : Tally). t.out) (of_some c.in-Ok-Some.field-0 c.in-Ok-Some.work _ c.in-Ok-Some.field-0-is c.in-Ok-Some.ensures.work) in
    omega (arith, has)

pub merge_work-requires-clause-table : goal.merge_work-requires-clause-table
merge_work-requires-clause-table g c κs within =
    let of = of_some c.in-Ok-Some.field-0 c.in-Ok-Some.work _ c.in-Ok-Some.field-0-is c.in-Ok-Some.ensures.of in
    let has = of.shows in
    sym (c.requires.scope c.in-Ok-Some.work.taken.table c.in-Ok-Some.work.taken.partition (picked_within c.args.scope c.in-Ok-Some.work.taken g.B.Names.opening.policy of.store has))

pub returns-in-Ok-Some-clause-out : goal.returns-in-Ok-Some-clause-out
returns-in-Ok-Some-clause-out g c =
    let has = ap (λ (t : Tally). t.out) (of_some c.in-Ok-Some.field-0 c.in-Ok-Some.work _ c.in-Ok-Some.field-0-is c.in-Ok-Some.ensures.work) in
    let less = c.merge_work.ensures.out in
    omega (arith, has, less)

pub returns-in-Ok-Some-clause-merges : goal.returns-in-Ok-Some-clause-merges
returns-in-Ok-Some-clause-merges g c =
    let work = c.in-Ok-Some.work.taken in
    let scope = c.args.scope in
    let policy = g.B.Names.opening.policy in
    let low = of_some c.in-Ok-Some.field-0 c.in-Ok-Some.work _ c.in-Ok-Some.field-0-is c.in-Ok-Some.ensures.low in
    let turn = of_some c.in-Ok-Some.field-0 c.in-Ok-Some.work _ c.in-Ok-Some.field-0-is c.in-Ok-Some.ensures.of in
    let up = of_some c.in-Ok-Some.field-0 c.in-Ok-Some.work _ c.in-Ok-Some.field-0-is c.in-Ok-Some.ensures.work in
    let inside : InScope scope work.table work.partition = picked_within scope work policy turn.store turn.shows in
    work_merged g.F.Dir.files g.B.Names.given g.B.Room.before g.B.Names.opening g.B.Names.ledgers.parts (InScope scope) (HasPair policy scope) (pair_parts policy scope) work
    (record { these = inside; list = c.in-Ok-Some.work.note.list; handed = c.taken.ensures.facts; share = c.args.share.now; turn = turn }) c.args.share.now c.take_merge.new.share c.merge_work.new.share up
    (g.R.Arm.failed c.args.arm.now) (g.R.Arm.failed c.merge_work.new.arm) false (λ any. sym low ∙ any) _ _ c.merge_work.result c.merge_work.ensures.merges
