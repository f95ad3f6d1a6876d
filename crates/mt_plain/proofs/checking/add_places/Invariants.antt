-- the places of the replies so far are added
use Rattle.std.proofs.Common.{◌∷◌, [], take}
use Rattle.mt_plain.specs.Outcomes.{AddsExactly}
use Rattle.mt_plain.specs.Plain.{OneStandsFrom}
use Rattle.mt_plain.proofs.checking.add_places.Given as goal

abbrev pub invariant-loop-reply : goal.invariant-loop-reply
invariant-loop-reply l = AddsExactly l.fn.found.items l.found.items (OneStandsFrom l.text (l.at ∷ []) (take l.reply-index l.replies))
