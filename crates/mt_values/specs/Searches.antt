-- Literals, which are searched in ascending order where they are many (docs/architecture.md, "Conditions").
use Rattle.std.specs.Prelude.{◌≡◌, ◌<◌, Bool, false, ◌&&◌, List, length, Option, Some, None}
use Rattle.std.specs.List.{list_any}
use Rattle.std.specs.List.Sorted.{IsSorted}
use Rattle.std.specs.Ordering.{is_le}
use Rattle.mt_values.specs.declared.value.Value.{Value}
use Rattle.mt_values.specs.Order.{value_cmp}

-- a value stands from a first on up to a second (docs/architecture.md, "Conditions")
abbrev pub lies_within : Value → Value → Value → Bool
lies_within lo hi v = is_le (value_cmp lo v) && is_le (value_cmp v hi)

-- there is a value, and it stands at or below another (docs/architecture.md, "Conditions")
abbrev pub some_up_to : Option Value → Value → Bool
some_up_to None hi = false
some_up_to (Some v) hi = is_le (value_cmp v hi)

-- what is searched in place of a list ascends, and where it is not empty it has the values of the list (docs/architecture.md, "Conditions")
pub record IsSearched (listed ascending : List Value) : Type 0 where
  pub ascends : IsSorted value_cmp ascending
  pub alike : 0 < length ascending → (p : Value → Bool) → list_any p ascending ≡ list_any p listed
