-- what is left of the bytes has the names that are still to be added
use Rattle.std.proofs.Common.{◌≡◌, ◌++◌, drop}
use Rattle.std.specs.Prelude.{filter}
use Rattle.file_names.specs.Names.{ended_names, is_shown, shown_names}
use Rattle.file_names.proofs.listing.add_shown_names.Given as goal

abbrev pub invariant-loop-byte : goal.invariant-loop-byte
invariant-loop-byte l =
    l.names.items ++ filter is_shown (ended_names l.begun (drop l.byte-index l.ended)) ≡ l.initial.names.items ++ shown_names l.ended
