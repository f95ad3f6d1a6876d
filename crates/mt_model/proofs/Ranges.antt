-- The rows that data is read as: of their columns' types, within these types' ranges, and not too many.
use Rattle.std.proofs.Common.{◌≡◌, ℕ, ◌+◌, ◌^◌, ◌<◌, ◌≤◌, Bool, true, false, cond, List, [], Option, Some, None, Result, Ok, Err, length, All, refl, arith, zero, suc, nat_le, IfOk}
use Rattle.std.proofs.lemmas.Bool.Decides.{nat_tests}
use Rattle.mt_values.specs.declared.row_fault.DataFault.{DataFault}
use Rattle.mt_values.specs.declared.row_fault.DataFault.TheVariants as data_fault
use Rattle.mt_values.specs.declared.row_fault.RowFault.{RowFault}
use Rattle.mt_values.specs.declared.value.ColType.{ColType}
use Rattle.mt_values.specs.Engines.{keeps_sign}
use Rattle.mt_values.specs.Grid.{AreRowsOf}
use Rattle.mt_values.specs.Rows.{signed_row_of_line, row_limit, row_onto, rows_behind, rows_within, inserted_rows}
use Rattle.mt_values.specs.Script.{line_from}
use Rattle.mt_values.specs.Values.{Row, AreValues}
use Rattle.mt_values.proofs.RowValues as values

-- the rows that data is read as are within their types' ranges, where the data is bytes
pub inserted_values : (types : List ColType) (sign : Option ℕ) (lines : List ℕ) (ended : Bool) (rows : List Row) → All (λ (b : ℕ). b < 2 ^ 8) lines → inserted_rows types sign lines ended ≡ Ok rows → AreValues rows
inserted_values types sign lines ended rows bytes is = values.if_ok AreValues (inserted_rows types sign lines ended) rows is (values.inserted_values types sign lines ended bytes)

-- each has a value of each column's type
pub inserted_typed : (types : List ColType) (sign : Option ℕ) (lines : List ℕ) (ended : Bool) (rows : List Row) → inserted_rows types sign lines ended ≡ Ok rows → AreRowsOf types rows
inserted_typed types sign lines ended rows is = values.if_ok (AreRowsOf types) (inserted_rows types sign lines ended) rows is (values.inserted_typed types sign lines ended)

-- each has the sign 1 or -1, where the table has a sign
pub inserted_signed : (types : List ColType) (sign : Option ℕ) (lines : List ℕ) (ended : Bool) (rows : List Row) → inserted_rows types sign lines ended ≡ Ok rows → All (λ (row : Row). keeps_sign sign row ≡ true) rows
inserted_signed types sign lines ended rows is =
    values.if_ok (All (λ (row : Row). keeps_sign sign row ≡ true)) (inserted_rows types sign lines ended) rows is (values.inserted_signed types sign lines ended)

-- ---- how many there are

-- no more than data may have after so many
abbrev AreFew : ℕ → List Row → Type 0
AreFew count rows = length rows + count ≤ row_limit

few_if : (c : Bool) (count : ℕ) (r q : Result (List Row) DataFault) → (c ≡ true → IfOk r (AreFew count)) → (c ≡ false → IfOk q (AreFew count)) → IfOk (cond c r q) (AreFew count)
few_if true count r q h k = h refl
few_if false count r q h k = k refl

still_below : (count : ℕ) → nat_le row_limit count ≡ false → count + 1 ≤ row_limit
still_below count is = grind (arith, nat_tests)

one_more : (count : ℕ) (r : Result Row RowFault) (rest : Result (List Row) DataFault) → IfOk rest (AreFew (count + 1)) → IfOk (row_onto r rest) (AreFew count)
one_more count (Err fault) rest few = tt
one_more count (Ok row) (Err fault) few = tt
one_more count (Ok row) (Ok rows) few = omega (arith, few)

few_behind : (types : List ColType) (sign : Option ℕ) (ended : Bool) (count : ℕ) (f : ℕ → List ℕ → Result (List Row) DataFault) (o : Option (List ℕ × List ℕ)) → count ≤ row_limit
    → ((c : ℕ) (text : List ℕ) → c ≤ row_limit → IfOk (f c text) (AreFew c)) → IfOk (rows_behind f types sign ended count o) (AreFew count)
few_behind types sign ended count f None low more = few_if ended count (Ok []) (Err (data_fault.Unended count)) (λ e. omega arith) (λ e. tt)
few_behind types sign ended count f (Some found) low more =
    few_if (nat_le row_limit count) count (Err data_fault.TooMany) (row_onto (signed_row_of_line types sign (count + 1) found.0) (f (count + 1) found.1)) (λ e. tt)
    (λ e. one_more count (signed_row_of_line types sign (count + 1) found.0) (f (count + 1) found.1) (more (count + 1) found.1 (still_below count e)))

few_within : (n : ℕ) (types : List ColType) (sign : Option ℕ) (ended : Bool) (count : ℕ) (text : List ℕ) → count ≤ row_limit → IfOk (rows_within n types sign ended count text) (AreFew count)
few_within zero types sign ended count text low = omega arith
few_within (suc n) types sign ended count text low = few_behind types sign ended count (rows_within n types sign ended) (line_from false text) low (few_within n types sign ended)

-- there are not too many
pub inserted_few : (types : List ColType) (sign : Option ℕ) (lines : List ℕ) (ended : Bool) (rows : List Row) → inserted_rows types sign lines ended ≡ Ok rows → length rows ≤ row_limit
inserted_few types sign lines ended rows is = let few = values.if_ok (AreFew 0) (inserted_rows types sign lines ended) rows is (few_within (length lines + 1) types sign ended 0 lines (omega arith)) in omega (arith, few)
