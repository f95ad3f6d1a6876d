-- Tests of values, and the truth of a condition on a row (ClickHouse, SELECT: WHERE; docs/definitions.md, "Conditions").
use Rattle.std.specs.Prelude.{Bool, true, false, List, ◌∷◌, slice_get, Option, Some, None}
use Rattle.std.specs.List.{list_any}
use Rattle.std.specs.declared.cmp.Ordering.{Ordering}
use Rattle.std.specs.declared.cmp.Ordering.TheVariants as ordering
use Rattle.mt_values.specs.declared.expr.Comparison.{Comparison}
use Rattle.mt_values.specs.declared.expr.Comparison.TheVariants as comparison
use Rattle.mt_values.specs.declared.expr.Joint.{Joint}
use Rattle.mt_values.specs.declared.expr.Test.{Test}
use Rattle.mt_values.specs.declared.value.Value.{Value}
use Rattle.mt_values.specs.Conditions.{Condition, by_truth, truth}
use Rattle.mt_values.specs.Order.{value_cmp}
use Rattle.mt_values.specs.Polish.{ComesTo}
use Rattle.mt_values.specs.Values.{Row}

-- what a comparison says of a value, by how it stands to the literal (ClickHouse, comparison functions)
abbrev pub says : Comparison → Ordering → Bool
says comparison.Equal ordering.Equal = true
says comparison.NotEqual ordering.Less = true
says comparison.NotEqual ordering.Greater = true
says comparison.Less ordering.Less = true
says comparison.LessOrEqual ordering.Less = true
says comparison.LessOrEqual ordering.Equal = true
says comparison.Greater ordering.Greater = true
says comparison.GreaterOrEqual ordering.Greater = true
says comparison.GreaterOrEqual ordering.Equal = true
says c o = false

-- a comparison is =, which IN is too (ClickHouse, IN operators)
abbrev pub is_equal : Comparison → Bool
is_equal comparison.Equal = true
is_equal c = false

-- a value is one of a list (ClickHouse, IN operators)
abbrev pub is_among : List Value → Value → Bool
is_among literals v = list_any (λ literal. says comparison.Equal (value_cmp v literal)) literals

-- a value meets a test: it compares so with some literal of it; IN is = with several (ClickHouse, IN operators)
abbrev pub meets : Test → Value → Bool
meets t v = list_any (λ literal. says t.comparison (value_cmp v literal)) t.literals

-- whether there is a value, and it meets the test (docs/definitions.md, "Conditions")
abbrev pub meets_some : Test → Option Value → Bool
meets_some t None = false
meets_some t (Some v) = meets t v

-- a row meets a test: it has a value in the test's column, and that does (docs/definitions.md, "Conditions")
abbrev pub meets_at : Row → Test → Bool
meets_at row t = meets_some t (slice_get row t.column)

-- the truth of an expression on a row (ClickHouse, SELECT: WHERE)
abbrev pub eval : Condition Test → Row → Bool
eval c row = truth (meets_at row) c

-- joints come to this truth of a row, from the truths that are kept (docs/architecture.md, "Conditions")
abbrev pub ComesToTruth : Row → Bool → List Test → List Bool → List Joint → Type 0
ComesToTruth row found tests before joints = ComesTo (by_truth (meets_at row)) found tests before joints

-- with some joints after this one they come to a truth (docs/architecture.md, "Conditions")
abbrev pub MayAsk : Row → List Test → List Bool → Joint → Type 0
MayAsk row tests before joint = (found : Bool) × (rest : List Joint) × ComesToTruth row found tests before (joint ∷ rest)
