-- Lists of steps keep one history, and what was known stays known.
use Rattle.std.proofs.Common.{◌∷◌, [], ℕ, List, sym, subst}
use Rattle.history_seat.specs.Rule.{OneHistory, Standing}
use Rattle.history_seat.specs.Steps.{Makes, Runs, StaysKnown, Step, start}
use Rattle.history_seat.specs.Views.{Begins}
use Rattle.history_seat.proofs.Fronts.{begins_itself, begins_through}
use Rattle.history_seat.proofs.Keeping.{Grown, keeps, starts}

pub step_keeps : (base : ℕ) (step : Step) (old new : Standing) → OneHistory base old → Makes base step old new → OneHistory base new
step_keeps base step old new h m = (keeps base step old new h m).after

runs_keep : (base : ℕ) (steps : List Step) (old new : Standing) (h : OneHistory base old) → Runs base steps old new → Grown base h.list new
runs_keep base [] old new h same = subst (λ s. Grown base h.list s) (sym same) (record { after = h; grows = begins_itself h.list })
runs_keep base (step ∷ steps) old new h ran =
    let next = keeps base step old ran.0 h ran.1 in
    let last = runs_keep base steps ran.0 new next.after ran.2 in
    record { after = last.after; grows = begins_through h.list next.after.list last.after.list next.grows last.grows }

pub all_steps_keep : (base : ℕ) (steps : List Step) (new : Standing) → Runs base steps (start base) new → OneHistory base new
all_steps_keep base steps new ran = (runs_keep base steps (start base) new (starts base) ran).after

pub all_stays_known : (base : ℕ) (steps : List Step) (old new : Standing) → OneHistory base old → Runs base steps old new → StaysKnown old new
all_stays_known base steps old new h ran i j v w at there pen =
    let last = runs_keep base steps old new h ran in
    subst (λ l. Begins v.list l) (sym ((last.after.each j w there).pen pen).1) (begins_through v.list h.list last.after.list (h.each i v at).front last.grows)
