use Rattle.std.proofs.Common.{subst}
use Rattle.primary_marks.specs.Rising.{FirstRises}
use Rattle.primary_marks.proofs.Rising.{seen_rise}
use Rattle.primary_marks.proofs.marks.Marks.of_columns.Goals as goal

pub invariant_of-result : goal.invariant_of-result
invariant_of-result c = (
  c.requires,
  λ h. seen_rise c.args.columns.items c.args.keys c.requires (subst FirstRises c.deref.ensures.value (c.first_rises-rise.ensures h)),
)
