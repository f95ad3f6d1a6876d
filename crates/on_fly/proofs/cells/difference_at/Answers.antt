use Rattle.std.proofs.Common.{Some, ap, option_map, sym, ◌∙◌}
use Rattle.mt_values.specs.Sums.{less}
use Rattle.on_fly.proofs.cells.difference_at.Goals as goal

pub returns : goal.returns
returns c = ap (option_map (λ w. less w c.args.number.now)) c.in_ok-difference.ensures ∙ ap Some (sym c.subtract_number.ensures)
