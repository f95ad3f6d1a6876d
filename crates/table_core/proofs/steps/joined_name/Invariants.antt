-- the name of the parts so far
use Rattle.std.proofs.Common.{◌≡◌, take}
use Rattle.std.specs.List.{fold}
use Rattle.part_history.specs.part_name.Merged.{joined_name}
use Rattle.part_history.specs.Merges.{names_of}
use Rattle.table_core.proofs.steps.joined_name.Given as goal

abbrev pub invariant-loop-part : goal.invariant-loop-part
invariant-loop-part l = l.joined ≡ fold joined_name l.fn.first (names_of (take l.part-index l.rest))
