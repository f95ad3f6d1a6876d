-- All that may be left of rows, and the one value that may be made of values (docs/engines.md, "Merges").
use Rattle.std.specs.Prelude.{◌≡◌, ◌⊎◌, ◌↔◌, ◌||◌, ◌&&◌, ◌<◌, ◌≤◌, ◌++◌, ℕ, ℤ, Bool, true, false, List, length, Option, Some, bit_and, bit_or, bit_xor, nat_le, nat_lt}
use Rattle.std.specs.List.{Contains, list_all}
use Rattle.std.specs.Ordering.{int_eq, is_lt}
use Rattle.mt_values.specs.declared.engine.Aggregate.{Aggregate}
use Rattle.mt_values.specs.declared.engine.Aggregate.TheVariants as aggregate
use Rattle.mt_values.specs.declared.engine.Engine.{Engine}
use Rattle.mt_values.specs.declared.value.Value.{Value}
use Rattle.mt_values.specs.Grid.{column_of}
use Rattle.mt_values.specs.Order.{value_cmp}
use Rattle.mt_values.specs.Values.{Row}
use Rattle.part_history.specs.mt_model.Folding.{Leaves, Merges, MergesTimes}
use Rattle.part_history.specs.mt_model.Rules.{Run, is_cancel, is_settled, is_state, total, version_at}

-- these are all of which it holds, and no others (docs/engines.md, "Merges")
abbrev pub AreExactly : {X : Type 0} → List X → (X → Type 0) → Type 0
AreExactly {X} xs P = (x : X) → Contains xs x ↔ P x

-- this is the only one of which it holds; where there is none, it holds of none (docs/engines.md, "AggregatingMergeTree")
abbrev pub IsExactly : {X : Type 0} → Option X → (X → Type 0) → Type 0
IsExactly {X} found P = (x : X) → (found ≡ Some x) ↔ P x

-- whether the rows are all states or all cancels (docs/engines.md, "VersionedCollapsingMergeTree")
abbrev pub has_one_sign : ℕ → List Row → Bool
has_one_sign sign rows = list_all (is_state sign) rows || list_all (is_cancel sign) rows

-- whether a choice of rows may be left: all are of one sign, and the sum of the signs is this one (docs/engines.md, "VersionedCollapsingMergeTree")
abbrev pub may_be_left : ℕ → ℤ → List Row → Bool
may_be_left sign sum rows = has_one_sign sign rows && int_eq (total (column_of sign rows)) sum

-- whether no version of the rows is greater than a number (docs/engines.md, "ReplacingMergeTree")
abbrev pub are_at_most : ℕ → ℕ → List Row → Bool
are_at_most version number rows = list_all (λ row. nat_le (version_at version row) number) rows

-- whether each version of the rows is less than a number (docs/engines.md, "ReplacingMergeTree")
abbrev pub are_below : ℕ → ℕ → List Row → Bool
are_below version number rows = list_all (λ row. nat_lt (version_at version row) number) rows

-- whether a value passes another for the least of values, or for the greatest (docs/engines.md, "AggregatingMergeTree")
abbrev pub passes_by : Aggregate → Value → Value → Bool
passes_by aggregate.Min other best = is_lt (value_cmp other best)
passes_by function other best = is_lt (value_cmp best other)

-- how the bits of two numbers are joined (docs/engines.md, "AggregatingMergeTree")
abbrev pub join_by : Aggregate → ℕ → ℕ → ℕ
join_by aggregate.BitAnd = bit_and
join_by aggregate.BitOr = bit_or
join_by function = bit_xor

-- the second list has what the first has and all of which this holds, and no others (docs/engines.md, "Merges")
abbrev pub AddsExactly : {X : Type 0} → List X → List X → (X → Type 0) → Type 0
AddsExactly {X} xs ys P = (x : X) → Contains ys x ↔ (Contains xs x ⊎ P x)

-- one merge, of a run that begins with the first row (docs/engines.md, "Merges")
pub record MergesFirst (run : List Row → List Row → Type 0) (before after : List Row) : Type 0 where
  pub rows : List Row
  pub out : List Row
  pub back : List Row
  pub some : 0 < length rows
  pub folded : run rows out
  pub before_is : before ≡ rows ++ back
  pub after_is : after ≡ out ++ back

-- one merge of one of these lists (docs/engines.md, "Merges")
abbrev pub MergesOneOf : (List Row → List Row → Type 0) → List (List Row) → List Row → Type 0
MergesOneOf run lists after = (before : List Row) × Contains lists before × Merges run before after

-- what is left after this many merges and a fold of the rest (docs/engines.md, "FINAL")
abbrev pub LeavesAfter : ℕ → (List Row → List Row → Type 0) → List Row → List Row → Type 0
LeavesAfter times run rows out = (merged : List Row) × MergesTimes times run rows merged × Leaves run merged out

-- the same after at most this many merges, where merges may change the fold (docs/engines.md, "FINAL")
abbrev pub FoldsAsWithin : ℕ → Bool → (List Row → List Row → Type 0) → List Row → List Row → Type 0
FoldsAsWithin most true run rows out = run rows out
FoldsAsWithin most false run rows out = (times : ℕ) × (times ≤ most) × LeavesAfter times run rows out

-- what FINAL may leave of at least one row of one key, after at most this many merges (docs/engines.md, "FINAL")
abbrev pub FoldsWithin : ℕ → Engine → List (Option Aggregate) → List Row → List Row → Type 0
FoldsWithin most engine functions rows out = FoldsAsWithin most (is_settled engine rows) (Run engine functions) rows out
