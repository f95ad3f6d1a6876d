-- the places after those so far
use Rattle.std.proofs.Common.{[], take}
use Rattle.mt_plain.specs.Outcomes.{AddsExactly}
use Rattle.mt_plain.specs.Plain.{OneStandsFrom}
use Rattle.mt_plain.proofs.checking.places_after.Given as goal

abbrev pub invariant-loop-at : goal.invariant-loop-at
invariant-loop-at l = AddsExactly [] l.found.items (OneStandsFrom l.text (take l.at-index l.places) l.replies)
