-- the bytes gone over are printed, but for the run that stands for itself
use Rattle.std.proofs.Common.{◌≡◌, ◌≤◌, ◌-◌, ◌++◌, take, drop, flat_map}
use Rattle.mt_values.specs.Printing.{escaped}
use Rattle.tsv_fields.proofs.printing.write_text.Given as goal

abbrev pub invariant-loop-at : goal.invariant-loop-at
invariant-loop-at l = record {
  within : l.start ≤ l.at;
  printed : l.out.items ++ take (l.at - l.start) (drop l.start l.text) ≡ l.initial.out.items ++ flat_map escaped (take l.at l.text);
}
