-- nothing was read ahead of the columns gone over
use Rattle.std.proofs.Common.{◌≡◌, ℕ, All, Option, length}
use Rattle.mt_outside.specs.Files.{Files}
use Rattle.part_reader.specs.declared.ahead.Ahead.{Ahead}
use Rattle.part_reader.specs.Ahead.{IsAhead}
use Rattle.part_reader.proofs.part_rows.none_ahead.Given as goal

abbrev pub invariant-loop-column : goal.invariant-loop-column
invariant-loop-column l = record {
  count : length l.aheads.items ≡ l._column;
  none : (told : Option Files) (most number : ℕ) → All (λ (a : Ahead). IsAhead told most number a) l.aheads.items;
}
