-- One row more, folded into the values that are kept (docs/engines.md, "AggregatingMergeTree").
use Rattle.std.specs.Prelude.{◌≡◌, ◌<◌, ℕ, List, [], ◌∷◌, ◌++◌, All, None, Option, get_or, length}
use Rattle.mt_values.specs.declared.engine.Aggregate.{Aggregate}
use Rattle.mt_values.specs.declared.value.Value.{Value}
pub use Rattle.mt_values.specs.Sums.{plus}
use Rattle.mt_values.specs.Values.{Row, type_of}
pub use Rattle.rule_law.specs.TableRows.{any_value}
use Rattle.rule_law.specs.mt_model.Rules.{IsAggregateOf, function_or_first}

-- where the one is what a function makes of some values, the last is what it makes of them and of one value more of their type (docs/engines.md, "AggregatingMergeTree")
abbrev pub FoldsIn : Aggregate → Value → Value → Value → Type 0
FoldsIn function kept more after = (values : List Value) → All (λ v. type_of v ≡ type_of more) values
    → IsAggregateOf function values kept → IsAggregateOf function (values ++ more ∷ []) after

-- the same of the values of rows at a place, by the function of the column there (docs/engines.md, "AggregatingMergeTree")
abbrev pub FoldsAt : List (Option Aggregate) → Row → Row → Row → ℕ → Type 0
FoldsAt functions kept row after place = place < length functions → place < length row
    → FoldsIn (function_or_first (get_or functions place None)) (get_or kept place any_value) (get_or row place any_value) (get_or after place any_value)
