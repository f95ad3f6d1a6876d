use Rattle.std.proofs.Common.{◌≡◌, List, refl, subst, sym, ◌∙◌}
use Rattle.std.specs.List.{Contains}
use Rattle.std.proofs.lemmas.List.{take_all}
use Rattle.std.proofs.lemmas.List.Elements.{Contains-get_or}
use Rattle.mt_values.specs.Values.{Row}
use Rattle.mt_plain.proofs.Exactly.{contains_none}
use Rattle.mt_plain.proofs.Merging.{not_both, not_more}
use Rattle.mt_plain.proofs.merges.is_among.Goals as goal

pub loop-list-init : goal.loop-list-init
loop-list-init c = contains_none c.args.rows.now

pub loop-list-preserved : goal.loop-list-preserved
loop-list-preserved c =
    not_more c.args.lists.now c.loop-list.list-index c.list-item.result c.list-item.result c.args.rows.now c.loop-list-test.true c.list-item.is
    (λ e. not_both (c.same_rows.ensures.1 (c.as_slice.ensures ∙ e)) c.if-same_rows.false) c.loop-list.invariant

pub returns-then-same_rows : goal.returns-then-same_rows
returns-then-same_rows c =
    let same : c.list-item.result ≡ c.args.rows.now = sym c.as_slice.ensures ∙ c.same_rows.ensures.0 c.if-same_rows.true in
    let own : Contains c.args.lists.now c.list-item.result = subst (Contains c.args.lists.now) (sym c.list-item.is) (Contains-get_or c.args.lists.now c.loop-list.list-index c.list-item.result c.loop-list-test.true) in
    (λ t. subst (Contains c.args.lists.now) same own, λ h. refl)

pub returns : goal.returns
returns c =
    let never = subst (λ (zs : List (List Row)). Contains zs c.args.rows.now → ⊥) (take_all c.loop-list.list-index c.args.lists.now c.loop-list-test.false) c.loop-list.invariant in
    (λ e. cc, λ h. absurd (never h))
