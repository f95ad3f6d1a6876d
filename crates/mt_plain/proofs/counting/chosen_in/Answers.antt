use Rattle.std.proofs.Common.{◌+◌, ◌<◌, ◌≤◌, ◌++◌, ◌∷◌, [], Bool, List, drop, length, ap, ap₂, sym, ◌∙◌, append-nil, append_assoc, arith}
use Rattle.part_history.specs.predicate.Boxes.{can}
use Rattle.part_history.specs.predicate.declared.extent.Extent.{Extent}
use Rattle.part_history.specs.predicate.Granules.{box_between, chosen_in}
use Rattle.mt_plain.proofs.Tallying.{chosen_next, few_keys}
use Rattle.mt_plain.proofs.counting.chosen_in.Goals as goal

pub loop-granule-preserved : goal.loop-granule-preserved
loop-granule-preserved c =
    let schema = c.args.schema.now in
    let partition = c.args.partition in
    let condition = c.args.condition.now in
    let keys = c.args.keys.now in
    let i = c.loop-granule.granule in
    let chosen = c.loop-granule.chosen.items in
    let rest = chosen_in schema partition condition (drop (i + 1) keys) in
    let below : i + 1 < length keys = omega (arith, c.loop-granule-test.true, c.saturating_sub-granule-end.ensures) in
    let first = c.index-keys-granule.result in
    let last = c.index-keys-granule-in-loop-granule.result in
    let next = chosen_next schema partition condition keys i first last below in
    let box = c.in_ok-extent.ensures ∙ ap₂ (box_between schema partition) c.index-keys-granule.is c.index-keys-granule-in-loop-granule.is in
    let yes = c.may_match.ensures ∙ ap (λ (e : Extent). (can condition e).yes) box in
    ap (λ (cs : List Bool). cs ++ rest) c.in_ok-push.ensures.items
    ∙ (append_assoc chosen (c.may_match.result ∷ []) rest
    ∙ (ap (λ (b : Bool). chosen ++ b ∷ rest) yes
    ∙ (ap (λ (cs : List Bool). chosen ++ cs) (sym next) ∙ c.loop-granule.invariant)))

pub returns : goal.returns
returns c =
    let chosen = c.loop-granule.chosen.items in
    let past : length c.args.keys.now ≤ c.loop-granule.granule + 1 = omega (arith, c.loop-granule-test.false, c.saturating_sub-granule-end.ensures) in
    let none = few_keys c.args.schema.now c.args.partition c.args.condition.now c.args.keys.now c.loop-granule.granule past in
    sym (append-nil chosen) ∙ (ap (λ (cs : List Bool). chosen ++ cs) (sym none) ∙ c.loop-granule.invariant)
