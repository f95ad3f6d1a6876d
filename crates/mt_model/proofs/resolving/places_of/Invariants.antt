-- the places so far, and those of the rest
use Rattle.std.proofs.Common.{◌≡◌, drop}
use Rattle.mt_model.specs.Reply.{places_of}
use Rattle.mt_model.proofs.Naming.{behind}
use Rattle.mt_model.proofs.resolving.places_of.Given as goal

abbrev pub invariant-loop-name : goal.invariant-loop-name
invariant-loop-name l = behind l.places (places_of l.columns (drop l.name-index l.names)) ≡ places_of l.columns l.names
