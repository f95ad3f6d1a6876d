use Rattle.std.proofs.Common.{◌+◌, ℕ, List, arith, drop, sym, ap, ap₂, ◌∙◌}
use Rattle.std.proofs.lemmas.List.{at_drop_all, at_drop_more}
use Rattle.mt_values.specs.declared.command.Entry.{Entry}
use Rattle.mt_values.specs.declared.mutation.Mutation.{Mutation}
use Rattle.mt_plain.specs.Portions.{last_after, mutations_after, mutations_from}
use Rattle.mt_plain.proofs.Pruning.{all_found}
use Rattle.mt_plain.proofs.mutations.mutations_of.Goals as goal

pub loop-entry-preserved : goal.loop-entry-preserved
loop-entry-preserved c =
    let t = c.args.table.now in
    let es = c.args.entries.now in
    let found = c.loop-entry.found.items in
    let last = c.loop-entry.last in
    let rest = drop (c.loop-entry.entry-index + 1) es in
    let step = at_drop_more (mutations_from t last found) es c.loop-entry.entry-index c.entry-item.result c.loop-entry-test.true in
    let item = ap (λ (e : Entry). mutations_from t (last_after t last e.command) (mutations_after t last found e.command) rest) (sym c.entry-item.is) in
    record {
      so_far = ap₂ (λ (n : ℕ) (ms : List Mutation). mutations_from t n ms rest) c.last_after-last.ensures.last c.in_ok-add_mutation.ensures ∙ sym (step ∙ item) ∙ c.loop-entry.invariant.so_far;
      few = omega (arith, c.last_after-last.ensures.few, c.loop-entry.invariant.few);
    }

pub returns : goal.returns
returns c =
    let t = c.args.table.now in
    let es = c.args.entries.now in
    sym (at_drop_all (mutations_from t c.loop-entry.last c.loop-entry.found.items) es c.loop-entry.entry-index c.loop-entry-test.false) ∙ c.loop-entry.invariant.so_far ∙ all_found t es
