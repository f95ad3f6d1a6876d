use Rattle.std.proofs.Common.{Some, ap, option_map, sym, ◌∙◌}
use Rattle.mt_values.specs.Sums.{plus}
use Rattle.on_fly.proofs.cells.sum_at.Goals as goal

pub returns : goal.returns
returns c = ap (option_map (λ w. plus w c.args.number.now)) c.in_ok-sum.ensures ∙ ap Some (sym c.add_number.ensures)
