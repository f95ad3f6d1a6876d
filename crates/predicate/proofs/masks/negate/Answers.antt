use Rattle.std.proofs.Common.{false, not, set, get_or, sym, ap, ◌∙◌}
use Rattle.std.proofs.lemmas.List.{map-id, get_or_default}
use Rattle.mt_values.proofs.Masks.{over_all, read_next, write_next}
use Rattle.predicate.proofs.masks.negate.Goals as goal

pub loop-truth-init : goal.loop-truth-init
loop-truth-init c = sym (map-id c.args.mask.now)

pub loop-truth-preserved : goal.loop-truth-preserved
loop-truth-preserved c =
    let old = c.args.mask.now in
    let i = c.loop-truth.truth-index in
    let here = get_or_default old i false (get_or old i false) c.loop-truth-test.true in
    ap (λ b. set c.loop-truth.mask i (not b)) (read_next (λ b. b) not old i (get_or old i false) c.loop-truth.mask c.loop-truth-test.true here c.loop-truth.invariant)
    ∙ write_next (λ b. b) not old i (get_or old i false) c.loop-truth.mask c.loop-truth-test.true here c.loop-truth.invariant

pub returns : goal.returns
returns c = over_all (λ b. b) not c.args.mask.now c.loop-truth.truth-index c.loop-truth.mask c.loop-truth-test.false c.loop-truth.invariant
