-- the groups so far and those of what is left are the number's
use Rattle.std.proofs.Common.{◌≡◌, ◌-◌, ◌*◌, ◌^◌, ◌<◌, ◌++◌}
use Rattle.mt_values.specs.ColumnBytes.{groups_within, leb128}
use Rattle.byte_numbers.proofs.leb128.push_leb128.Given as goal

abbrev pub invariant-loop-group : goal.invariant-loop-group
invariant-loop-group l = record {
  spelled : l.bytes ++ groups_within (9 - l._group) l.rest ≡ l.initial.bytes ++ leb128 l.number;
  low : l.rest < 2 ^ (64 - 7 * l._group);
}
