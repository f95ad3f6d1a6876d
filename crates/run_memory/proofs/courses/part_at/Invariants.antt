-- the parts that are left have the part at the place that is left
use Rattle.std.proofs.Common.{◌≡◌, drop}
use Rattle.std.specs.Prelude.{slice_get}
use Rattle.table_core.specs.part_history.Parts.{parts_in}
use Rattle.run_memory.proofs.courses.part_at.Given as goal

abbrev pub invariant-loop-part : goal.invariant-loop-part
invariant-loop-part l = slice_get (parts_in l.partition l.parts) l.place ≡ slice_get (parts_in l.partition (drop l.part-index l.parts)) l.left
