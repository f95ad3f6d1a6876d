use Rattle.std.proofs.Common.{◌≡◌, ◌+◌, ◌∷◌, ◌++◌, [], false, true, List, ap, drop, subst, sym, take, ◌∙◌, arith}
use Rattle.std.proofs.lemmas.List.{take_rest}
use Rattle.mt_values.specs.Values.{Row}
use Rattle.mt_plain.specs.Outcomes.{AreExactly}
use Rattle.mt_plain.proofs.Newest.{IsAmong, newest_exactly, newest_found, newest_not_here, passes}
use Rattle.mt_plain.proofs.replacing.newest_left.Goals as goal

pub loop-place-preserved-then-not-is_newest : goal.loop-place-preserved-then-not-is_newest
loop-place-preserved-then-not-is_newest c =
    let version = c.args.version in
    let rows = c.args.rows.now in
    let i = c.loop-place.place in
    let row = c.index-rows-place.result in
    let test : passes version rows (take i rows) row (drop (i + 1) rows) ≡ false =
    ap (passes version rows (take i rows) row) (sym (take_rest rows (i + 1))) ∙ sym c.is_newest.ensures ∙ c.if-not-is_newest.true in
    newest_not_here version rows c.loop-place.outs.items i row row c.index-rows-place.is test c.loop-place.invariant

pub loop-place-preserved : goal.loop-place-preserved
loop-place-preserved c =
    let version = c.args.version in
    let rows = c.args.rows.now in
    let i = c.loop-place.place in
    let row = c.index-rows-place.result in
    let outs = c.loop-place.outs.items in
    let test : passes version rows (take i rows) row (drop (i + 1) rows) ≡ true =
    ap (passes version rows (take i rows) row) (sym (take_rest rows (i + 1))) ∙ sym c.is_newest.ensures ∙ c.if-not-is_newest.false in
    let left : c.in_ok-single.field-0 ≡ row ∷ [] = c.in_ok-single.ensures ∙ ap (λ (r : Row). r ∷ []) c.in_ok-twin.ensures in
    let items : c.push.new.self.items ≡ outs ++ (row ∷ []) ∷ [] = c.in_ok-push.ensures.items ∙ ap (λ (x : List Row). outs ++ x ∷ []) left in
    subst (λ (zs : List (List Row)). AreExactly zs (IsAmong version rows (i + 1))) (sym items) (newest_found version rows outs i row row c.loop-place-test.true c.index-rows-place.is test c.loop-place.invariant)

pub returns : goal.returns
returns c = newest_exactly c.args.version c.args.rows.now c.loop-place.outs.items c.loop-place.place (omega arith) c.loop-place.invariant
