-- the fields so far
use Rattle.std.proofs.Common.{◌≡◌, ◌++◌, ◌∷◌, take}
use Rattle.mt_values.specs.Printing.{fields}
use Rattle.mt_plain.proofs.printing.push_fields.Given as goal

abbrev pub invariant-loop-value : goal.invariant-loop-value
invariant-loop-value l = l.text ≡ l.fn.text ++ fields (l.first ∷ take l.value-index l.others)
