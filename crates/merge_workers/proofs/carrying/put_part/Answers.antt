use Rattle.std.proofs.Common.{Ok, ◌-◌, refl, ap, ◌∙◌, subst, ℕ, None, Some}
use Rattle.shared_store.specs.declared.work.Put.{Put}
use Rattle.shared_store.specs.part_writer.declared.writing.SealedPart.{SealedPart}
use Rattle.shared_store.specs.root_commits.mt_model.History.{History}
use Rattle.shared_store.specs.Turns.{CountsTurn, PutsBack, ShowsDone, ShowsGone, ShowsPut, ShowsRefused}
use Rattle.merge_workers.proofs.Returning.{arm_stays, back_calm}
use Rattle.merge_workers.proofs.carrying.put_part.Goals as goal

-- it was put
pub returns-in-Ok-Done-clause-turn : goal.returns-in-Ok-Done-clause-turn
returns-in-Ok-Done-clause-turn g c =
    let P = SealedPart g.row.R-Stage.Denot in
    let turn = subst (λ (p : Put P). (found : History)
    × CountsTurn g.F.Dir.files g.B.Names.given g.B.Room.before g.B.Names.opening found g.B.Names.ledgers.parts c.args.part.sealed.failed (c.args.share.now.out - 1) None (ShowsPut {P = P} {S = P} c.args.work.taken (Ok p)) c.args.share.now c.put_work.new.share)
    c.in-Ok-Done.field-0-is c.in-Ok-Done.ensures.turn in
    subst (λ (calls : ℕ). (found : History)
    × CountsTurn g.F.Dir.files g.B.Names.given g.B.Room.before g.B.Names.opening found g.B.Names.ledgers.parts calls (c.args.share.now.out - 1) None (ShowsDone c.args.work.taken) c.args.share.now c.put_work.new.share)
    c.requires.none_failed turn

pub returns-in-Ok-Done-clause-arm : goal.returns-in-Ok-Done-clause-arm
returns-in-Ok-Done-clause-arm g c = arm_stays g.R.Arm c.args.arm.now c.args.arm.now refl refl

-- a part was gone
pub returns-in-Ok-Gone-clause-turn : goal.returns-in-Ok-Gone-clause-turn
returns-in-Ok-Gone-clause-turn g c =
    let P = SealedPart g.row.R-Stage.Denot in
    let turn = subst (λ (p : Put P). (found : History)
    × CountsTurn g.F.Dir.files g.B.Names.given g.B.Room.before g.B.Names.opening found g.B.Names.ledgers.parts c.args.part.sealed.failed (c.args.share.now.out - 1) None (ShowsPut {P = P} {S = P} c.args.work.taken (Ok p)) c.args.share.now c.put_work.new.share)
    c.in-Ok-Gone.field-0-is c.in-Ok-Gone.ensures.turn in
    subst (λ (calls : ℕ). (found : History)
    × CountsTurn g.F.Dir.files g.B.Names.given g.B.Room.before g.B.Names.opening found g.B.Names.ledgers.parts calls (c.args.share.now.out - 1) None (ShowsGone c.args.work.taken c.in-Ok-Gone.name) c.args.share.now c.put_work.new.share)
    c.requires.none_failed turn

pub returns-in-Ok-Gone-clause-arm : goal.returns-in-Ok-Gone-clause-arm
returns-in-Ok-Gone-clause-arm g c =
    let same = subst (λ (p : Put (SealedPart g.row.R-Stage.Denot)). PutsBack c.args.part (Ok p)) c.in-Ok-Gone.field-0-is c.in-Ok-Gone.ensures.back in
    arm_stays g.R.Arm c.args.arm.now c.give_back_part.new.arm c.give_back_part.ensures.tells (c.give_back_part.ensures.none_failed (ap (λ (p : SealedPart g.row.R-Stage.Denot). p.sealed.failed) same ∙ c.requires.none_failed))

-- it was refused
pub returns-in-Err-clause-arm : goal.returns-in-Err-clause-arm
returns-in-Err-clause-arm g c =
    let back = back_calm (λ (p : SealedPart g.row.R-Stage.Denot). p.sealed.failed) c.args.part c.in-Err.field-0.back c.in-Err.ensures.back.same c.requires.none_failed in
    arm_stays g.R.Arm c.args.arm.now c.give_back_part-in-Err.new.arm c.give_back_part-in-Err.ensures.tells (c.give_back_part-in-Err.ensures.none_failed back)

pub returns-in-Err-clause-turn : goal.returns-in-Err-clause-turn
returns-in-Err-clause-turn g c = subst (λ (calls : ℕ). (found : History)
    × CountsTurn g.F.Dir.files g.B.Names.given g.B.Room.before g.B.Names.opening found g.B.Names.ledgers.parts calls (c.args.share.now.out - 1) (Some c.in-Err.field-0.cause) (ShowsRefused c.args.work.taken c.in-Err.field-0.cause) c.args.share.now c.put_work.new.share)
    c.requires.none_failed c.in-Err.ensures.turn
