use Rattle.std.proofs.Common.{◌≡◌, ◌≢◌, ◌∙◌, ◌+◌, List, Some, None, sym, subst}
use Rattle.std.proofs.lemmas.Bool.{false≢true}
use Rattle.std.proofs.lemmas.List.{take_all}
use Rattle.mt_base.specs.declared.partition.Partition.{Partition}
use Rattle.session.proofs.Partitions.{SoFar, all_found, last_same, none_so_far, so_far_more, so_far_same}
use Rattle.session.proofs.optimizes.partitions_of.Goals as goal

pub loop-kept-init : goal.loop-kept-init
loop-kept-init g c = subst (λ (found : List Partition). SoFar c.args.parts.now 0 found None) (sym c.new-found.ensures.items) (none_so_far c.args.parts.now)

-- its partition is the last one again
pub loop-kept-preserved-then-eq : goal.loop-kept-preserved-then-eq
loop-kept-preserved-then-eq g c =
    let l = c.loop-kept in
    let here = c.kept-item.result.name.partition in
    let same : l.last ≡ Some here = (last_same l.last (Some here)).0 (sym c.eq.ensures ∙ c.if-eq.true) in
    so_far_same c.args.parts.now l.kept-index l.found.items l.last l.invariant c.kept-item.result c.loop-kept-test.true c.kept-item.is same

-- it is another
pub loop-kept-preserved : goal.loop-kept-preserved
loop-kept-preserved g c =
    let l = c.loop-kept in
    let here = c.kept-item.result.name.partition in
    let other : l.last ≢ Some here = λ same. false≢true (sym (sym c.eq.ensures ∙ c.if-eq.false) ∙ (last_same l.last (Some here)).1 same) in
    subst (λ (found : List Partition). SoFar c.args.parts.now (l.kept-index + 1) found (Some here)) (sym c.in_ok-push.ensures.items)
    (so_far_more c.args.parts.now l.kept-index l.found.items l.last l.invariant c.kept-item.result c.loop-kept-test.true c.kept-item.is other)

pub returns : goal.returns
returns g c =
    let l = c.loop-kept in
    all_found c.args.parts.now l.kept-index l.found.items l.last (take_all l.kept-index c.args.parts.now c.loop-kept-test.false) c.requires l.invariant
