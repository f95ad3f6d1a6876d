-- the values gone over have their answers, and there is room for the others
use Rattle.std.proofs.Common.{◌≡◌, map, take, vec_capacity, vec_len}
use Rattle.mt_values.specs.Lists.{run_of}
use Rattle.mt_values.specs.Tests.{is_among}
use Rattle.mt_values.proofs.column.ColumnData.sought_within.Given as goal

abbrev pub invariant-loop-place : goal.invariant-loop-place
invariant-loop-place l = record {
  found : l.mask.items ≡ map (is_among l.literals) (take l.place (run_of l.from l.count l.self.values));
  many : vec_len l.mask ≡ l.place;
  room : vec_capacity l.mask ≡ l.count;
}
