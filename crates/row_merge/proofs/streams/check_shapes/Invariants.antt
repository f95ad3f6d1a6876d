-- the parts gone over are those of the table
use Rattle.std.proofs.Common.{All, take}
use Rattle.row_merge.specs.MergedParts.{HasShape}
use Rattle.row_merge.proofs.streams.check_shapes.Given as goal

abbrev pub invariant-loop-kept : goal.invariant-loop-kept
invariant-loop-kept g l = All (λ k. HasShape l.schema k.part.loaded.schema) (take l.kept-index l.parts)
