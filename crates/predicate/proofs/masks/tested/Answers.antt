use Rattle.std.proofs.Common.{◌∙◌}
use Rattle.std.proofs.lemmas.Result.{IfOk-weaker}
use Rattle.predicate.proofs.Truths.{long_column, mask_of_column, mask_of_none}
use Rattle.predicate.proofs.masks.tested.Goals as goal

pub tested_within-requires : goal.tested_within-requires
tested_within-requires c =
    let at = c.in-Some.ensures.lookup in
    long_column c.args.asked.now.columns.now c.args.asked.now.from c.args.asked.now.rows c.requires c.args.test.now c.in-Some.column.now at.3.0 at.1

pub returns-in-Some : goal.returns-in-Some
returns-in-Some c =
    let at = c.in-Some.ensures.lookup in
    IfOk-weaker c.tested_within.result _ _ (λ m h. h ∙ mask_of_column c.args.asked.now.columns.now c.args.asked.now.from c.args.asked.now.rows c.requires c.args.test.now c.in-Some.column.now at.3.0 at.1) c.tested_within.ensures

pub returns-in_ok-vec-in-None : goal.returns-in_ok-vec-in-None
returns-in_ok-vec-in-None c =
    c.in_ok-vec-in-None.ensures.items_if_clones_equal (λ y e. e)
    ∙ mask_of_none c.args.asked.now.columns.now c.args.asked.now.from c.args.asked.now.rows c.requires c.args.test.now c.in-None.ensures.lookup.3
