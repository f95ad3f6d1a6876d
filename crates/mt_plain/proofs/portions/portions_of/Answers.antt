use Rattle.std.proofs.Common.{◌≡◌, ◌+◌, ℕ, List, arith, drop, sym, ap, ap₂, subst, ◌∙◌}
use Rattle.std.proofs.lemmas.List.{at_drop_all, at_drop_more}
use Rattle.mt_values.specs.declared.command.Entry.{Entry}
use Rattle.part_history.specs.mt_model.Explain.{Portion, PortionsStand}
use Rattle.mt_plain.specs.Portions.{last_after, portions_after, portions_from, unmerged}
use Rattle.mt_plain.proofs.Standing.{unmerged_stand}
use Rattle.mt_plain.proofs.portions.portions_of.Goals as goal

pub loop-entry-preserved : goal.loop-entry-preserved
loop-entry-preserved c =
    let t = c.args.table.now in
    let k = c.args.schema.now in
    let es = c.args.entries.now in
    let found = c.loop-entry.found.items in
    let last = c.loop-entry.last in
    let rest = drop (c.loop-entry.entry-index + 1) es in
    let step = at_drop_more (portions_from t k last found) es c.loop-entry.entry-index c.entry-item.result c.loop-entry-test.true in
    let item = ap (λ (e : Entry). portions_from t k (last_after t last e.command) (portions_after t k last found e.command) rest) (sym c.entry-item.is) in
    record {
      so_far = ap₂ (λ (n : ℕ) (ps : List Portion). portions_from t k n ps rest) c.last_after-last.ensures.last c.in_ok-add_portion.ensures ∙ sym (step ∙ item) ∙ c.loop-entry.invariant.so_far;
      few = omega (arith, c.last_after-last.ensures.few, c.loop-entry.invariant.few);
    }

pub returns-clause-stand : goal.returns-clause-stand
returns-clause-stand c =
    let t = c.args.table.now in
    let k = c.args.schema.now in
    let es = c.args.entries.now in
    let found = c.loop-entry.found.items in
    let all : found ≡ unmerged t k es = sym (at_drop_all (portions_from t k c.loop-entry.last found) es c.loop-entry.entry-index c.loop-entry-test.false) ∙ c.loop-entry.invariant.so_far in
    subst (PortionsStand es t k) (sym all) (unmerged_stand t k es)
