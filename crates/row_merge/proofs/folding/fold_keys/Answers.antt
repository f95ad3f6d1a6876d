use Rattle.std.proofs.Common.{◌≡◌, ℕ, ◌+◌, ◌-◌, ◌∙◌, ◌++◌, ◌∷◌, [], All, List, ap, append-nil, arith, drop, length, subst, sym, take}
use Rattle.std.specs.Borrow.{Bor}
use Rattle.std.proofs.lemmas.List.{drop_all}
use Rattle.std.proofs.lemmas.List.Elements.{All-append, All-cons, All-same}
use Rattle.mt_values.specs.Order.{HasPlaces, key_cmp, key_of}
use Rattle.mt_values.specs.declared.value.ColType.{ColType}
use Rattle.mt_values.specs.Values.{Row, types_of}
use Rattle.row_merge.specs.Merged.{IsFoldOf, rows_of}
use Rattle.row_merge.proofs.Folds.{added, fold_none, keys_go_on}
use Rattle.row_merge.proofs.Lent.{all_at, all_back, all_front, rest_is}
use Rattle.row_merge.proofs.Sorted.{how_many}
use Rattle.row_merge.proofs.folding.fold_keys.Goals as goal

pub loop-at-preserved : goal.loop-at-preserved
loop-at-preserved g c = record {
  within = omega (arith, c.count_up_to-count.ensures.within, c.loop-at.invariant.within, ap length later_is);
  folds = λ apart ordered takes rest h.
      let rule = c.args.rule.now in
      let places = c.args.places.now in
      let has_places = all_at (HasPlaces places) rows at first (omega arith) c.index-rows-at.is ordered.whole in
      let later_have = all_back (HasPlaces places) rows (at + 1) ordered.whole in
      let counted = c.count_up_to-count.ensures.count has_places (subst (λ (lent : List (Bor Row)). All (HasPlaces places) (rows_of lent)) (sym later_is) later_have) in
      let taken = of_key (g.Q.RowRule.takes rule) takes in
      let ran = ran_on taken in
      subst (IsFoldOf places (g.Q.RowRule.run rule) (rows_of rows)) (added c.loop-at.out.items left c.append.new.self.items rest c.in_ok-append.ensures.items)
      (c.loop-at.invariant.folds apart ordered takes (left ++ rest)
      (keys_go_on places (g.Q.RowRule.run rule) rows at count first left rest (omega arith) c.index-rows-at.is ordered.sorted
      (counted ∙ ap (λ (lent : List (Bor Row)). how_many (key_cmp places) first.now (rows_of lent)) later_is) ran
      (λ all. g.met.Q.RowRule.keeps rule places (key_of places first.now) some left apart (omega arith) taken all ran) h));
  typed = λ types takes own.
      let rule = c.args.rule.now in
      let taken = of_key (g.Q.RowRule.takes rule) takes in
      All-same (HasTypes types) c.append.new.self.items (c.loop-at.out.items ++ left) c.in_ok-append.ensures.items
      (All-append (HasTypes types) c.loop-at.out.items left (c.loop-at.invariant.typed types takes own)
      (g.met.Q.RowRule.stays_taken rule types some left (omega arith) taken (of_key (HasTypes types) own) (ran_on taken)).1);
}
  where
    rows : List (Bor Row)
    rows = c.args.rows.now

    at : ℕ
    at = c.loop-at.at

    count : ℕ
    count = c.count_up_to-count.result

    first : Bor Row
    first = c.index-rows-at.result

    left : List Row
    left = c.in_ok-left.left.items

    some : List Row
    some = first.now ∷ rows_of (take count (drop (at + 1) rows))

    HasTypes : List ColType → Row → Type 0
    HasTypes types row = types_of row ≡ types

    -- what holds of all rows holds of those of the key
    of_key : (P : Row → Type 0) → All P (rows_of rows) → All P some
    of_key P all =
        All-cons P first.now (rows_of (take count (drop (at + 1) rows))) (all_at P rows at first (omega arith) c.index-rows-at.is all)
        (all_front P (drop (at + 1) rows) count (all_back P rows (at + 1) all))

    later_is : take (length c.args.rows.now - (c.loop-at.at + 1)) (drop (c.loop-at.at + 1) c.args.rows.now) ≡ drop (c.loop-at.at + 1) c.args.rows.now
    later_is = rest_is c.args.rows.now (c.loop-at.at + 1) (omega arith)

    ran_on : All (g.Q.RowRule.takes c.args.rule.now) some → g.Q.RowRule.run c.args.rule.now some left
    ran_on taken =
        subst (λ (lent : List (Bor Row)). All (g.Q.RowRule.takes c.args.rule.now) (first.now ∷ rows_of (take count lent)) → g.Q.RowRule.run c.args.rule.now (first.now ∷ rows_of (take count lent)) left) later_is c.in_ok-left.ensures taken

pub returns-clause-folds : goal.returns-clause-folds
returns-clause-folds g c = λ apart ordered takes.
    let run = g.Q.RowRule.run c.args.rule.now in
    let places = c.args.places.now in
    let none : drop c.loop-at.at c.args.rows.now ≡ [] = drop_all c.loop-at.at c.args.rows.now (omega arith) in
    subst (IsFoldOf places run (rows_of c.args.rows.now)) (append-nil c.loop-at.out.items)
    (c.loop-at.invariant.folds apart ordered takes [] (subst (λ (rows : List (Bor Row)). IsFoldOf places run (rows_of rows) []) (sym none) (fold_none places run)))
