use Rattle.std.proofs.Common.{◌∙◌, ap, length, take}
use Rattle.mt_values.proofs.Masks.{length_run}
use Rattle.mt_values.proofs.testing.run_of.Goals as goal

pub returns-clause-run : goal.returns-clause-run
returns-clause-run g c = c.split_at-2.ensures.front ∙ ap (take c.args.count) c.split_at.ensures.back

pub returns-clause-count : goal.returns-clause-count
returns-clause-count g c =
    ap length (c.split_at-2.ensures.front ∙ ap (take c.args.count) c.split_at.ensures.back) ∙ length_run c.args.from c.args.count c.args.items.now c.requires
