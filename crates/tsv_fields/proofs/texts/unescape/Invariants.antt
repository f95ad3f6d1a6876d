-- the bytes gone over are said
use Rattle.std.proofs.Common.{◌≡◌, ◌≤◌, ◌-◌, length, drop}
use Rattle.mt_values.specs.Rows.{unescaped}
use Rattle.mt_values.proofs.Fronts.{fronted}
use Rattle.tsv_fields.proofs.texts.unescape.Given as goal

abbrev pub invariant-loop-at : goal.invariant-loop-at
invariant-loop-at l = record {
  within : l.at ≤ length l.text;
  said : fronted l.out.items (unescaped (drop l.at l.text)) ≡ unescaped l.text;
}

abbrev pub decreases-loop-at : goal.decreases-loop-at
decreases-loop-at l = length l.text - l.at
