use Rattle.std.proofs.Common.{ap, ◌∷◌, [], List, ◌∙◌}
use Rattle.mt_values.specs.Values.{Row}
use Rattle.part_history.specs.mt_model.Rules.{collapsed}
use Rattle.mt_plain.proofs.Exactly.{exactly_itself}
use Rattle.mt_plain.proofs.collapsing.collapsed_left.Goals as goal

pub returns : goal.returns
returns c = exactly_itself c.in_ok-outs.outs.items (collapsed c.args.sign c.args.rows.now) (c.in_ok-outs.ensures ∙ ap (λ (r : List Row). r ∷ []) c.in_ok-own.ensures)
