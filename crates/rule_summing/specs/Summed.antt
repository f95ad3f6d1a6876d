-- The sums so far, and a row's numbers added to them (docs/engines.md, "SummingMergeTree").
use Rattle.std.specs.Prelude.{◌≡◌, ◌+◌, ℕ, pos, Bool, if◌then◌else◌, List, [], ◌∷◌, ◌++◌, Option, None, Some, slice_get}
use Rattle.std.specs.Ordering.{int_eq}
use Rattle.mt_values.specs.declared.value.Value.{Value}
use Rattle.mt_values.specs.Grid.{column_of}
pub use Rattle.mt_values.specs.Sums.{plus}
use Rattle.mt_values.specs.Values.{Row}
pub use Rattle.rule_law.specs.TableRows.{any_value}
use Rattle.rule_law.specs.mt_model.Rules.{is_one_of, total, with_sums}

-- one of the rows, with the sums of all of them in its summed columns (docs/engines.md, "SummingMergeTree")
pub record HasSums (places : List ℕ) (rows : List Row) (sums : Row) : Type 0 where
  pub earlier : List Row
  pub carried : Row
  pub later : List Row
  pub rows_are : rows ≡ earlier ++ carried ∷ later
  pub sums_are : sums ≡ with_sums places rows carried

-- the same of a value that another row may have (docs/engines.md, "Sums")
abbrev pub plus_found : Value → Option Value → Value
plus_found v None = v
plus_found v (Some w) = plus v w

-- a sum at a place with what a row has there added, where the column is summed (docs/engines.md, "SummingMergeTree")
abbrev pub added_at : List ℕ → Row → ℕ → Value → Value
added_at places row place v = if is_one_of places place then plus_found v (slice_get row place) else v

-- each value of a row from a place on is changed by its place (docs/engines.md, "SummingMergeTree")
abbrev pub changed_from : (ℕ → Value → Value) → ℕ → Row → Row
changed_from change place [] = []
changed_from change place (v ∷ vs) = change place v ∷ changed_from change (place + 1) vs

-- whether a column is 0 (docs/engines.md, "SummingMergeTree")
abbrev pub is_zero_at : Row → ℕ → Bool
is_zero_at row place = int_eq (total (column_of place (row ∷ []))) (pos 0)
