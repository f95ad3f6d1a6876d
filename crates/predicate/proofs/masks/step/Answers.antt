use Rattle.std.proofs.Common.{◌∷◌, ◌∙◌, true, sym, ap, subst, length}
use Rattle.std.proofs.lemmas.List.{length-replicate}
use Rattle.mt_values.specs.Grid.{rows_within}
use Rattle.mt_values.specs.Polish.{ComesTo}
use Rattle.predicate.specs.Masks.{MayMask, by_rows}
use Rattle.predicate.proofs.Truths.{all_alike, always_taken, and_taken, length-rows_within, masks_both, masks_more, masks_one, masks_turned, not_taken, or_taken, test_taken, two_on_and, two_on_or}
use Rattle.predicate.proofs.masks.step.Goals as goal
use Rattle.predicate.proofs.masks.step.Goals.{in-Always+in_ok-vec-in-Always+in_ok-push-in-Always, in-Not+in_ok-turn-in-Not, in-And+in_ok-keep_both-in-And, in-Or+in_ok-keep_one-in-Or}

pub keep_both-requires : goal.keep_both-requires
keep_both-requires c =
    let rows = rows_within c.args.asked.now.columns.now c.args.asked.now.from c.args.asked.now.rows in
    two_on_and rows c.args.tests.now c.args.masks.now c.args.masks.now (subst (MayMask rows c.args.tests.now c.args.masks.now) c.in-And.is c.requires.joint) c.requires.masks

pub keep_one-requires : goal.keep_one-requires
keep_one-requires c =
    let rows = rows_within c.args.asked.now.columns.now c.args.asked.now.from c.args.asked.now.rows in
    two_on_or rows c.args.tests.now c.args.masks.now c.args.masks.now (subst (MayMask rows c.args.tests.now c.args.masks.now) c.in-Or.is c.requires.joint) c.requires.masks

pub returns-in-Test-clause-found : goal.returns-in-Test-clause-found
returns-in-Test-clause-found c = λ found rest h.
    let rows = rows_within c.args.asked.now.columns.now c.args.asked.now.from c.args.asked.now.rows in
    test_taken rows c.args.tests.now c.args.masks.now c.push-in-Test.new.self c.index-tests-0.result found rest c.index-tests-0.is
    (c.in_ok-push-in-Test.ensures ∙ ap (λ m. m ∷ c.args.masks.now) c.in_ok-tested-in-Test.ensures)
    (subst (λ j. ComesTo (by_rows rows) found c.args.tests.now c.args.masks.now (j ∷ rest)) c.in-Test.is h)

pub returns-clause-found : goal.returns-clause-found
returns-clause-found c = λ found rest h.
    let rows = rows_within c.args.asked.now.columns.now c.args.asked.now.from c.args.asked.now.rows in
    elim c.match-joint.branch [
      | in-Always+in_ok-vec-in-Always+in_ok-push-in-Always w ↦
          always_taken rows c.args.tests.now c.args.masks.now c.match-joint.masks found rest
          (w.masks-is ∙ (w.in_ok-push-in-Always.ensures ∙ ap (λ m. m ∷ c.args.masks.now) (w.in_ok-vec-in-Always.ensures.items_if_clones_equal (λ y e. e) ∙ all_alike true rows c.args.asked.now.rows (sym (length-rows_within c.args.asked.now.columns.now c.args.asked.now.from c.args.asked.now.rows)))))
          (subst (λ j. ComesTo (by_rows rows) found c.args.tests.now c.args.masks.now (j ∷ rest)) w.in-Always.is h)
      | in-Not+in_ok-turn-in-Not w ↦
          not_taken rows c.args.tests.now c.args.masks.now c.match-joint.masks found rest (w.masks-is ∙ w.in_ok-turn-in-Not.ensures)
          (subst (λ j. ComesTo (by_rows rows) found c.args.tests.now c.args.masks.now (j ∷ rest)) w.in-Not.is h)
      | in-And+in_ok-keep_both-in-And w ↦
          and_taken rows c.args.tests.now c.args.masks.now c.match-joint.masks found rest (w.masks-is ∙ w.in_ok-keep_both-in-And.ensures)
          (subst (λ j. ComesTo (by_rows rows) found c.args.tests.now c.args.masks.now (j ∷ rest)) w.in-And.is h)
      | in-Or+in_ok-keep_one-in-Or w ↦
          or_taken rows c.args.tests.now c.args.masks.now c.match-joint.masks found rest (w.masks-is ∙ w.in_ok-keep_one-in-Or.ensures)
          (subst (λ j. ComesTo (by_rows rows) found c.args.tests.now c.args.masks.now (j ∷ rest)) w.in-Or.is h)
    ]

pub returns-clause-masks : goal.returns-clause-masks
returns-clause-masks c =
    let rows = rows_within c.args.asked.now.columns.now c.args.asked.now.from c.args.asked.now.rows in
    elim c.match-joint.branch [
      | in-Always+in_ok-vec-in-Always+in_ok-push-in-Always w ↦
          masks_more rows w.in_ok-vec-in-Always.field-0.items c.args.masks.now c.match-joint.masks
          (ap length (w.in_ok-vec-in-Always.ensures.items_if_clones_equal (λ y e. e)) ∙ (length-replicate c.args.asked.now.rows true ∙ sym (length-rows_within c.args.asked.now.columns.now c.args.asked.now.from c.args.asked.now.rows)))
          c.requires.masks (w.masks-is ∙ w.in_ok-push-in-Always.ensures)
      | in-Not+in_ok-turn-in-Not w ↦ masks_turned rows c.args.masks.now c.match-joint.masks c.requires.masks (w.masks-is ∙ w.in_ok-turn-in-Not.ensures)
      | in-And+in_ok-keep_both-in-And w ↦ masks_both rows c.args.masks.now c.match-joint.masks c.requires.masks (w.masks-is ∙ w.in_ok-keep_both-in-And.ensures)
      | in-Or+in_ok-keep_one-in-Or w ↦ masks_one rows c.args.masks.now c.match-joint.masks c.requires.masks (w.masks-is ∙ w.in_ok-keep_one-in-Or.ensures)
    ]
