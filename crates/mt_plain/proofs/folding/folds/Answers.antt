use Rattle.std.proofs.Common.{Bool, length, subst, sym, ◌∙◌, arith}
use Rattle.part_history.specs.mt_model.Rules.{Run}
use Rattle.mt_plain.specs.Outcomes.{FoldsAsWithin}
use Rattle.mt_plain.proofs.Folded.{never_after, never_within}
use Rattle.mt_plain.proofs.Merging.{not_both}
use Rattle.mt_plain.proofs.folding.folds.Goals as goal

pub loop-times-preserved : goal.loop-times-preserved
loop-times-preserved c =
    never_after (Run c.args.engine.now c.args.functions.now) c.args.rows.now c.args.out.now c.loop-times.times (λ leaves. not_both (c.in_ok-leaves_after.ensures.1 leaves) c.if-branch.false) c.loop-times.invariant

pub returns-clause-exact : goal.returns-clause-exact
returns-clause-exact c =
    let run = Run c.args.engine.now c.args.functions.now in
    let rows = c.args.rows.now in
    let out = c.args.out.now in
    let most = length rows in
    let unsettled = sym c.is_settled.ensures ∙ c.if-is_settled.false in
    (λ e. cc, λ h. absurd (never_within run rows out most c.loop-times.times (omega arith) c.loop-times.invariant (subst (λ (b : Bool). FoldsAsWithin most b run rows out) unsettled h)))
