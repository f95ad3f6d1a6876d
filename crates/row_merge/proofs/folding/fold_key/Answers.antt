use Rattle.std.proofs.Common.{◌∷◌, List, arith, subst, sym, take}
use Rattle.std.specs.Borrow.{Bor}
use Rattle.std.proofs.lemmas.List.{take_all}
use Rattle.std.proofs.lemmas.List.Elements.{All-cons, All-head, All-tail}
use Rattle.std.proofs.lemmas.Result.{IfOk-weaker}
use Rattle.mt_values.specs.Values.{Row}
use Rattle.row_merge.specs.Merged.{rows_of}
use Rattle.row_merge.proofs.Lent.{all_at, all_front, front_and_next}
use Rattle.row_merge.proofs.folding.fold_key.Goals as goal

pub loop-row-preserved : goal.loop-row-preserved
loop-row-preserved g c = λ all.
    let takes = g.Q.RowRule.takes c.args.rule.now in
    let first = c.args.first.now in
    let others = c.args.others.now in
    let i = c.loop-row.row-index in
    let own = All-head takes first (rows_of others) all in
    let later = All-tail takes first (rows_of others) all in
    subst (λ rows. g.Q.RowRule.holds c.args.rule.now c.add.new.state (first ∷ rows)) (sym (front_and_next others i c.row-item.result (omega arith) c.row-item.is))
    (c.in_ok-add.ensures (first ∷ rows_of (take i others)) (All-cons takes first (rows_of (take i others)) own (all_front takes others i later))
    (all_at takes others i c.row-item.result (omega arith) c.row-item.is later) (c.loop-row.invariant all))

pub returns : goal.returns
returns g c =
    let first = c.args.first.now in
    let others = c.args.others.now in
    IfOk-weaker c.end.result _ _
    (λ out left all. left (first ∷ rows_of others) all
    (subst (λ (rows : List (Bor Row)). g.Q.RowRule.holds c.args.rule.now c.loop-row.state (first ∷ rows_of rows)) (take_all c.loop-row.row-index others (omega arith)) (c.loop-row.invariant all)))
    c.end.ensures
