-- those before the lower bound come after the input, and those from the upper one on do not
use Rattle.std.proofs.Common.{◌≡◌, ◌≤◌, ◌-◌, All, drop, false, length, take}
use Rattle.std.specs.Ordering.{is_lt}
use Rattle.std.specs.declared.cmp.Ordering.TheVariants.{Less}
use Rattle.row_merge.specs.Heads.{ahead_of}
use Rattle.row_merge.specs.Merging.{lead_cmp}
use Rattle.row_merge.proofs.heads.place_of.Given as goal

abbrev pub invariant-halves : goal.invariant-halves
invariant-halves l = record {
  low : l.low ≤ l.high;
  high : l.high ≤ length l.ranked;
  earlier : All (λ x. lead_cmp l.places (ahead_of l.cursors) l.input x ≡ Less) (take l.low l.ranked);
  later : All (λ x. is_lt (lead_cmp l.places (ahead_of l.cursors) l.input x) ≡ false) (drop l.high l.ranked);
}

abbrev pub decreases-halves : goal.decreases-halves
decreases-halves l = l.high - l.low
