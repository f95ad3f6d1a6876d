-- the bytes are those of the columns gone over
use Rattle.std.proofs.Common.{◌≡◌, take}
use Rattle.column_file.specs.Marks.{places_bytes}
use Rattle.primary_marks.proofs.places.spell_places.Given as goal

abbrev pub invariant-loop-numbers : goal.invariant-loop-numbers
invariant-loop-numbers l = l.bytes ≡ places_bytes (take l.numbers-index l.places)
