-- the places of the names gone over
use Rattle.std.proofs.Common.{◌≡◌, take}
use Rattle.mt_model.specs.Clauses.{places_named}
use Rattle.mt_model.proofs.clauses.places_named.Given as goal

abbrev pub invariant-loop-name : goal.invariant-loop-name
invariant-loop-name l = l.places ≡ places_named l.columns (take l.name-index l.names)
