-- What a merge may leave of a run of rows of one key, by each engine's rule (docs/engines.md; ClickHouse, MergeTree family).
use Rattle.std.specs.Prelude.{◌≡◌, ◌⊎◌, ◌&&◌, ◌+◌, ◌<◌, ◌≤◌, ℕ, pos, negsuc, Bool, true, false, if◌then◌else◌, nat_eq, nat_lt, List, [], ◌∷◌, ◌++◌, All, filter, length, take, slice_get, Option, Some, None, bit_and, bit_or, bit_xor}
use Rattle.std.specs.List.{list_all, list_any, reduce}
use Rattle.std.specs.Ordering.{int_eq, is_lt}
use Rattle.mt_values.specs.declared.engine.Aggregate.{Aggregate}
use Rattle.mt_values.specs.declared.engine.Aggregate.TheVariants as aggregate
use Rattle.mt_values.specs.declared.engine.Engine.{Engine}
use Rattle.mt_values.specs.declared.engine.Engine.TheVariants as engine
use Rattle.mt_values.specs.declared.value.Value.{Value}
use Rattle.mt_values.specs.declared.value.Value.TheVariants as value
pub use Rattle.mt_values.specs.Engines.{is_sign}
use Rattle.mt_values.specs.Grid.{column_of}
use Rattle.mt_values.specs.Order.{value_cmp}
pub use Rattle.mt_values.specs.Sums.{integer_of, low_bits, total, wrapped_as}
use Rattle.mt_values.specs.Tables.{number_at}
use Rattle.mt_values.specs.Values.{Row}
use Rattle.mt_model.specs.Folding.{LeavesLater}

-- ---- ReplacingMergeTree

-- the last row is left (ClickHouse, ReplacingMergeTree: ver, "the last in the selection, if ver not set"; docs/engines.md, "ReplacingMergeTree")
pub record LeavesLast (rows out : List Row) : Type 0 where
  pub earlier : List Row
  pub last : Row
  pub rows_are : rows ≡ earlier ++ last ∷ []
  pub out_is : out ≡ last ∷ []

-- the version of a row: the number in a column of unsigned numbers (docs/engines.md, "ReplacingMergeTree")
abbrev pub version_at : ℕ → Row → ℕ
version_at place row = number_at (slice_get row place)

-- the row with the greatest version is left, of those with an equal one the last (ClickHouse, ReplacingMergeTree: ver, "with the maximum version"; docs/engines.md, "ReplacingMergeTree")
pub record LeavesNewest (version : ℕ) (rows out : List Row) : Type 0 where
  pub earlier : List Row
  pub newest : Row
  pub later : List Row
  pub rows_are : rows ≡ earlier ++ newest ∷ later
  pub none_above : All (λ (row : Row). version_at version row ≤ version_at version newest) earlier
  pub all_below : All (λ (row : Row). version_at version row < version_at version newest) later
  pub out_is : out ≡ newest ∷ []

-- ---- SummingMergeTree

-- whether the column at a place is one of these (docs/engines.md, "SummingMergeTree")
abbrev pub is_one_of : List ℕ → ℕ → Bool
is_one_of places place = list_any (nat_eq place) places

-- the value of a column, or the sum of the rows' numbers in it where it is summed (docs/engines.md, "SummingMergeTree")
abbrev pub summed : Bool → Value → List Value → Value
summed true v column = wrapped_as v (total column)
summed false v column = v

-- a row's values from a place on, with the sums of rows in those of the summed columns (docs/engines.md, "SummingMergeTree")
abbrev pub with_sums_from : ℕ → List ℕ → List Row → Row → Row
with_sums_from place places rows [] = []
with_sums_from place places rows (v ∷ vs) = summed (is_one_of places place) v (column_of place rows) ∷ with_sums_from (place + 1) places rows vs

-- a row with the sums of rows in its summed columns (ClickHouse, SummingMergeTree: "which contains summed values for the columns"; docs/engines.md, "SummingMergeTree")
abbrev pub with_sums : List ℕ → List Row → Row → Row
with_sums places rows row = with_sums_from 0 places rows row

-- all of these columns are 0 (docs/engines.md, "SummingMergeTree")
abbrev pub are_zero : List ℕ → Row → Bool
are_zero places row = list_all (λ place. int_eq (total (column_of place (row ∷ []))) (pos 0)) places

-- One of the rows is left with the sums, or none where all sums are 0 (ClickHouse, SummingMergeTree: "If the values were 0 in all of the columns for summation, the row is deleted"; docs/engines.md, "SummingMergeTree").
pub record LeavesSums (places : List ℕ) (rows out : List Row) : Type 0 where
  pub earlier : List Row
  pub carried : Row
  pub later : List Row
  pub rows_are : rows ≡ earlier ++ carried ∷ later
  pub out_is : out ≡ (if are_zero places (with_sums places rows carried) then [] else with_sums places rows carried ∷ [])

-- ---- CollapsingMergeTree

-- a state row has the sign 1 (ClickHouse, CollapsingMergeTree: sign, "1 is a state row"; docs/engines.md, "CollapsingMergeTree")
abbrev pub is_state : ℕ → Row → Bool
is_state sign row = is_sign (pos 1) (slice_get row sign)

-- a cancel row has the sign -1 (ClickHouse, CollapsingMergeTree: sign, "-1 is a cancel row"; docs/engines.md, "CollapsingMergeTree")
abbrev pub is_cancel : ℕ → Row → Bool
is_cancel sign row = is_sign (negsuc 0) (slice_get row sign)

-- the sign of the row is 1 or -1 (docs/engines.md, "CollapsingMergeTree")
abbrev pub HasSign : ℕ → Row → Type 0
HasSign sign row = (is_state sign row ≡ true) ⊎ (is_cancel sign row ≡ true)

-- the first of a list, if it has one, as a list (docs/engines.md, "CollapsingMergeTree")
abbrev pub first_of : List Row → List Row
first_of rows = take 1 rows

-- the last of a list, if it has one, as a list (docs/engines.md, "CollapsingMergeTree")
abbrev pub last_of : List Row → List Row
last_of [] = []
last_of (row ∷ []) = row ∷ []
last_of (row ∷ next ∷ rows) = last_of (next ∷ rows)

-- whether the last row is a state (docs/engines.md, "CollapsingMergeTree")
abbrev pub ends_with_state : ℕ → List Row → Bool
ends_with_state sign rows = list_any (is_state sign) (last_of rows)

-- What is left of rows with these states and cancels. "The first cancel and the last state rows, if the number of state and cancel rows matches and the last row is a state row.
-- The last state row, if there are more state rows. The first cancel row, if there are more cancel rows. None of the rows, in all other cases"
-- (ClickHouse, CollapsingMergeTree: Algorithm; docs/engines.md, "CollapsingMergeTree").
abbrev pub left_of_signs : Bool → List Row → List Row → List Row
left_of_signs state_last states cancels =
    if nat_lt (length cancels) (length states) then last_of states
    else if nat_lt (length states) (length cancels) then first_of cancels
    else if state_last then first_of cancels ++ last_of states
    else []

-- what is left of rows of one key by their signs (ClickHouse, CollapsingMergeTree: Algorithm; docs/engines.md, "CollapsingMergeTree")
abbrev pub collapsed : ℕ → List Row → List Row
collapsed sign rows = left_of_signs (ends_with_state sign rows) (filter (is_state sign) rows) (filter (is_cancel sign) rows)

-- the signs alternate, the first a state's or a cancel's (docs/engines.md, "CollapsingMergeTree")
abbrev pub alternate_from : Bool → ℕ → List Row → Bool
alternate_from state sign [] = true
alternate_from true sign (row ∷ rows) = is_state sign row && alternate_from false sign rows
alternate_from false sign (row ∷ rows) = is_cancel sign row && alternate_from true sign rows

-- each state is cancelled before the next comes (ClickHouse, VersionedCollapsingMergeTree, of CollapsingMergeTree: "only strictly consecutive insertion"; docs/engines.md, "CollapsingMergeTree")
abbrev pub alternate : ℕ → List Row → Bool
alternate sign rows = alternate_from true sign rows

-- ---- VersionedCollapsingMergeTree

-- the list has some of the items of another, in their order (docs/engines.md, "VersionedCollapsingMergeTree")
abbrev pub IsSublist : List Row → List Row → Type 0
IsSublist xs [] = xs ≡ []
IsSublist xs (y ∷ ys) = IsSublist xs ys ⊎ ((rest : List Row) × (xs ≡ y ∷ rest) × IsSublist rest ys)

-- Some of the rows are left, all of one sign, and as many as the sum of the signs says: pairs of different sign are deleted, whatever their order
-- (ClickHouse, VersionedCollapsingMergeTree: Algorithm, "each pair of rows that have the same primary key and version and different Sign"; docs/engines.md, "VersionedCollapsingMergeTree").
pub record LeavesOneSign (sign : ℕ) (rows out : List Row) : Type 0 where
  pub some : IsSublist out rows
  pub alike : All (λ (row : Row). is_state sign row ≡ true) out ⊎ All (λ (row : Row). is_cancel sign row ≡ true) out
  pub sum : total (column_of sign out) ≡ total (column_of sign rows)

-- ---- AggregatingMergeTree

-- a value among values, which no other passes by this test (docs/engines.md, "AggregatingMergeTree")
pub record IsBest (passes : Value → Value → Bool) (values : List Value) (v : Value) : Type 0 where
  pub earlier : List Value
  pub later : List Value
  pub values_are : values ≡ earlier ++ v ∷ later
  pub best : All (λ (other : Value). passes other v ≡ false) values

-- two values of one unsigned type joined bit by bit (docs/engines.md, "AggregatingMergeTree")
abbrev pub joined_bits : (ℕ → ℕ → ℕ) → Value → Value → Value
joined_bits join (value.UInt8 m) (value.UInt8 n) = value.UInt8 (join m n)
joined_bits join (value.UInt16 m) (value.UInt16 n) = value.UInt16 (join m n)
joined_bits join (value.UInt32 m) (value.UInt32 n) = value.UInt32 (join m n)
joined_bits join (value.UInt64 m) (value.UInt64 n) = value.UInt64 (join m n)
joined_bits join v w = v

-- what a function makes of values, of which there is at least one (ClickHouse, SimpleAggregateFunction: any, anyLast, min, max, sum, groupBitAnd, groupBitOr, groupBitXor; docs/engines.md, "AggregatingMergeTree")
abbrev pub IsAggregateOf : Aggregate → List Value → Value → Type 0
IsAggregateOf aggregate.Any values v = (later : List Value) × (values ≡ v ∷ later)
IsAggregateOf aggregate.AnyLast values v = (earlier : List Value) × (values ≡ earlier ++ v ∷ [])
IsAggregateOf aggregate.Min values v = IsBest (λ other best. is_lt (value_cmp other best)) values v
IsAggregateOf aggregate.Max values v = IsBest (λ other best. is_lt (value_cmp best other)) values v
IsAggregateOf aggregate.Sum values v = (first : Value) × (later : List Value) × (values ≡ first ∷ later) × (v ≡ wrapped_as first (total values))
IsAggregateOf aggregate.BitAnd values v = reduce (joined_bits bit_and) values ≡ Some v
IsAggregateOf aggregate.BitOr values v = reduce (joined_bits bit_or) values ≡ Some v
IsAggregateOf aggregate.BitXor values v = reduce (joined_bits bit_xor) values ≡ Some v

-- a column without a function keeps its first value (docs/engines.md, "AggregatingMergeTree")
abbrev pub function_or_first : Option Aggregate → Aggregate
function_or_first None = aggregate.Any
function_or_first (Some function) = function

-- each value of the row is what its column's function makes of the rows' values (docs/engines.md, "AggregatingMergeTree")
abbrev pub AreAggregatesFrom : ℕ → List (Option Aggregate) → List Row → Row → Type 0
AreAggregatesFrom place [] rows row = row ≡ []
AreAggregatesFrom place (function ∷ functions) rows row =
    (v : Value) × (rest : Row) × (row ≡ v ∷ rest) × IsAggregateOf (function_or_first function) (column_of place rows) v
    × AreAggregatesFrom (place + 1) functions rows rest

-- one row is left, whose values are what the functions of the columns make of the rows' values (ClickHouse, AggregatingMergeTree: "replaces all rows with the same primary key with a single row"; docs/engines.md, "AggregatingMergeTree")
pub record LeavesAggregates (functions : List (Option Aggregate)) (rows out : List Row) : Type 0 where
  pub row : Row
  pub aggregates : AreAggregatesFrom 0 functions rows row
  pub out_is : out ≡ row ∷ []

-- ---- all engines

-- what one merge may leave of at least one row of one key, where the columns have these functions (docs/engines.md, "Merges")
abbrev pub Run : Engine → List (Option Aggregate) → List Row → List Row → Type 0
Run engine.Plain functions rows out = out ≡ rows
Run (engine.Replacing None) functions rows out = LeavesLast rows out
Run (engine.Replacing (Some version)) functions rows out = LeavesNewest version rows out
Run (engine.Summing places) functions rows out = LeavesSums places rows out
Run (engine.Collapsing sign) functions rows out = out ≡ collapsed sign rows
Run (engine.Versioned sign version) functions rows out = LeavesOneSign sign rows out
Run engine.Aggregating functions rows out = LeavesAggregates functions rows out

-- What FINAL may leave of at least one row of one key. It is what one merge leaves of all of them, but where the signs of a collapsing key do not alternate: then
-- it is what is left after some merges (ClickHouse, SELECT: FINAL; docs/engines.md, "FINAL").
abbrev pub FoldsAs : Bool → (List Row → List Row → Type 0) → List Row → List Row → Type 0
FoldsAs true run rows out = run rows out
FoldsAs false run rows out = LeavesLater run rows out

-- whether FINAL is one merge of all rows: of collapsing keys only where the signs alternate (docs/engines.md, "FINAL")
abbrev pub is_settled : Engine → List Row → Bool
is_settled (engine.Collapsing sign) rows = alternate sign rows
is_settled engine rows = true

-- what FINAL may leave of at least one row of one key, where the columns have these functions (ClickHouse, SELECT: FINAL; docs/engines.md, "FINAL")
abbrev pub Folds : Engine → List (Option Aggregate) → List Row → List Row → Type 0
Folds engine functions rows out = FoldsAs (is_settled engine rows) (Run engine functions) rows out
