-- The value of a row in a column, as the column has it.
use Rattle.std.proofs.Common.{◌≡◌, ℕ, ◌<◌, ◌≤◌, List, [], Some, All, sym, ap, ◌∙◌, arith, get_or, length, slice_get, option_and_then}
use Rattle.std.proofs.lemmas.List.Elements.{All-weaker}
use Rattle.std.proofs.lemmas.Option.{slice_get-get_or, slice_get_past}
use Rattle.mt_values.specs.declared.value.ColType.{ColType}
use Rattle.mt_values.specs.declared.value.Value.{Value}
use Rattle.mt_values.specs.Grid.{AreRowsOf, column_of}
use Rattle.mt_values.specs.Tables.{number_at, number_in}
use Rattle.mt_values.specs.Values.{Row}
use Rattle.mt_values.proofs.Grids.{length-column_of, lengths_typed, slice_get-column_of}

module _ (types : List ColType) (rows : List Row) (place k : ℕ) (typed : AreRowsOf types rows) (here : k < length rows) where
  abbrev row : Row
  row = get_or rows k []

  row_length : length row ≡ length types
  row_length = lengths_typed types rows typed k [] here

  -- each row has a value of a column that is there
  all_within : place < length types → All (λ (r : Row). place < length r) rows
  all_within below = All-weaker (λ (r : Row). length r ≡ length types) (λ (r : Row). place < length r) (λ r len. omega (arith, len, below)) rows (lengths_typed types rows typed)

  -- so the column has one for each row
  pub column_has : (values : List Value) → place < length types → values ≡ column_of place rows → k < length values
  column_has values below is =
      let same = ap length is ∙ length-column_of place rows (all_within below) in
      omega (arith, here, same)

  -- and that one is the row's
  value_is : (values : List Value) → place < length types → values ≡ column_of place rows → slice_get values k ≡ slice_get row place
  value_is values below is =
      ap (λ (vs : List Value). slice_get vs k) is
      ∙ slice_get-column_of place rows k (all_within below)
      ∙ ap (option_and_then (λ (r : Row). slice_get r place)) (slice_get-get_or rows k [] here)

  -- a value that the column has is the one by which the row is parted
  pub number_here : (values : List Value) (v : Value) → place < length types → values ≡ column_of place rows → slice_get values k ≡ Some v → number_in v ≡ number_at (slice_get row place)
  number_here values v below is at = ap number_at (sym at ∙ value_is values below is)

  -- and where there is no such column, no number is told
  pub number_past : length types ≤ place → 0 ≡ number_at (slice_get row place)
  number_past past =
      let len = row_length in
      sym (ap number_at (slice_get_past row place (omega (arith, len, past))))
