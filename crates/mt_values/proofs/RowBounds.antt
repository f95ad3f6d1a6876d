-- Each line of data takes at least one byte, so a bound on their number cuts no row off, and rows are read line by line.
use Rattle.std.proofs.Common.{◌≡◌, ℕ, ◌+◌, ◌<◌, Bool, false, cond, List, length, refl, ap, arith, add-one, zero, suc, Option, Some, None, Result, Err, nat_le}
use Rattle.mt_values.specs.declared.value.ColType.{ColType}
use Rattle.mt_values.specs.declared.row_fault.DataFault.{DataFault}
use Rattle.mt_values.specs.declared.row_fault.DataFault.TheVariants as data_fault
use Rattle.mt_values.specs.Values.{Row}
use Rattle.mt_values.specs.Script.{line_from}
use Rattle.mt_values.specs.Rows.{row_limit, signed_row_of_line, row_onto, rows_behind, rows_within}
use Rattle.mt_values.proofs.Bounds.{ShorterThan, line_shorter}

-- the rows of data after so many others
abbrev pub rows_after : List ColType → Option ℕ → Bool → ℕ → List ℕ → Result (List Row) DataFault
rows_after types sign ended count lines = rows_within (length lines + 1) types sign ended count lines

rows_behind_same : (f g : ℕ → List ℕ → Result (List Row) DataFault) (types : List ColType) (sign : Option ℕ) (ended : Bool) (count k : ℕ) (o : Option (List ℕ × List ℕ)) → ShorterThan k o → ((c : ℕ) (rest : List ℕ) → length rest < k → f c rest ≡ g c rest) → rows_behind f types sign ended count o ≡ rows_behind g types sign ended count o
rows_behind_same f g types sign ended count k None less same = refl
rows_behind_same f g types sign ended count k (Some found) less same =
    ap (λ (more : Result (List Row) DataFault). cond (nat_le row_limit count) (Err data_fault.TooMany) (row_onto (signed_row_of_line types sign (count + 1) found.0) more)) (same (count + 1) found.1 less)

pub rows_same : (n m : ℕ) (types : List ColType) (sign : Option ℕ) (ended : Bool) (count : ℕ) (lines : List ℕ) → length lines < n → length lines < m → rows_within n types sign ended count lines ≡ rows_within m types sign ended count lines
rows_same zero m types sign ended count lines low high = absurd (omega arith)
rows_same (suc n) zero types sign ended count lines low high = absurd (omega arith)
rows_same (suc n) (suc m) types sign ended count lines low high =
    rows_behind_same (rows_within n types sign ended) (rows_within m types sign ended) types sign ended count (length lines) (line_from false lines) (line_shorter false lines) (λ c rest less. rows_same n m types sign ended c rest (omega arith) (omega arith))

-- the rows of data are that of its first line and those of what comes after it
pub rows_after_step : (types : List ColType) (sign : Option ℕ) (ended : Bool) (count : ℕ) (lines : List ℕ) → rows_after types sign ended count lines ≡ rows_behind (rows_after types sign ended) types sign ended count (line_from false lines)
rows_after_step types sign ended count lines =
    rw add-one (rows_behind_same (rows_within (length lines) types sign ended) (rows_after types sign ended) types sign ended count (length lines) (line_from false lines) (line_shorter false lines)
    (λ c rest less. rows_same (length lines) (length rest + 1) types sign ended c rest (omega arith) (omega arith)))
