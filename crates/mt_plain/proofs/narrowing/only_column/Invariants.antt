-- the columns so far
use Rattle.std.proofs.Common.{◌≡◌, replicate}
use Rattle.part_history.specs.predicate.declared.extent.Known.TheVariants as known
use Rattle.mt_plain.proofs.narrowing.only_column.Given as goal

abbrev pub invariant-loop-place : goal.invariant-loop-place
invariant-loop-place l = record { columns : l.columns ≡ replicate l._place known.Unknown; kept : l.kept ≡ l.fn.kept }
