-- the values of the literals gone over, all of which belong; what is left decides
use Rattle.std.proofs.Common.{◌≡◌, drop, take}
use Rattle.std.specs.List.{filter_map}
use Rattle.mt_model.specs.Queries.{first_alien}
use Rattle.mt_model.proofs.Queries.{value_of}
use Rattle.mt_model.proofs.query.test_in.Given as goal

abbrev pub invariant-loop-literal : goal.invariant-loop-literal
invariant-loop-literal l = record {
  so_far : l.literals ≡ filter_map (value_of l.col_type) (take l.literal-index l.literal-items);
  left : first_alien l.col_type (drop l.literal-index l.literal-items) ≡ first_alien l.col_type l.literal-items;
}
