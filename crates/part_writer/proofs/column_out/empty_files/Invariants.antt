-- the files gone over are made, and there is room for the others
use Rattle.std.proofs.Common.{◌≡◌, ℕ, ◌<◌, [], All, vec_len, vec_capacity}
use Rattle.part_writer.specs.Growing.{HasGrown}
use Rattle.part_writer.proofs.column_out.empty_files.Given as goal

abbrev pub invariant-loop : goal.invariant-loop
invariant-loop l = record {
  count : vec_len l.files ≡ l.counter;
  room : vec_capacity l.files ≡ l.count;
  none : All (λ c. (granularity : ℕ) → 0 < granularity → HasGrown granularity [] c) l.files.items;
}
