-- The signs of rows: of one that columns make, and of one that is read.
use Rattle.std.proofs.Common.{◌≡◌, ℕ, zero, suc, ◌<◌, pos, negsuc, Bool, true, false, ◌||◌, cond, List, [], ◌∷◌, length, Option, Some, None, Ok, Err, All, slice_get, refl, sym, ap, ◌∙◌}
use Rattle.std.specs.List.{cons_option}
use Rattle.std.specs.Option.{option_and_then}
use Rattle.std.proofs.lemmas.List.Elements.{All-head, All-tail}
use Rattle.std.proofs.lemmas.Option.{slice_get-get_or}
use Rattle.mt_base.specs.declared.stop.Stop.{Stop}
use Rattle.mt_base.specs.declared.stop.Stop.TheVariants.{NoMemory, Refused}
use Rattle.mt_base.specs.Stops.{Refuses}
use Rattle.mt_values.specs.declared.row_fault.RowFault.{RowFault}
use Rattle.mt_values.specs.declared.row_fault.RowFault.TheVariants as row_fault
use Rattle.mt_values.specs.declared.value.ColType.{ColType}
use Rattle.mt_values.specs.declared.value.Value.{Value}
use Rattle.mt_values.specs.declared.value.Value.TheVariants as value
use Rattle.mt_values.specs.Engines.{is_sign, is_signed, keeps_sign}
use Rattle.mt_values.specs.Grid.{Cells, row_at}
use Rattle.mt_values.specs.Rows.{row_of_line, signed_row_of_line, with_sign}
use Rattle.mt_values.specs.Values.{Row}

-- ---- a row that columns make

any_value : Value
any_value = value.UInt8 0

-- its value at a place is that of the column
value_at : (columns : List Cells) (k place : ℕ) → All (λ (c : Cells). k < length c.values) columns
    → slice_get (row_at columns k) place ≡ option_and_then (λ (c : Cells). slice_get c.values k) (slice_get columns place)
value_at [] k place long = refl
value_at (x ∷ xs) k zero long =
    let there = slice_get-get_or x.values k any_value (All-head (λ (c : Cells). k < length c.values) x xs long) in
    ap (λ o. slice_get (cons_option o (row_at xs k)) 0) there ∙ sym there
value_at (x ∷ xs) k (suc place) long =
    let there = slice_get-get_or x.values k any_value (All-head (λ (c : Cells). k < length c.values) x xs long) in
    ap (λ o. slice_get (cons_option o (row_at xs k)) (suc place)) there ∙ value_at xs k place (All-tail (λ (c : Cells). k < length c.values) x xs long)

-- whether a value is 1 or -1
abbrev pub is_either : Option Value → Bool
is_either o = is_sign (pos 1) o || is_sign (negsuc 0) o

module _ (columns : List Cells) (k sign : ℕ) (long : All (λ (c : Cells). k < length c.values) columns) where
  -- its sign is a value of the sign's column
  pub sign_of_column : (c : Cells) (v : Value) → slice_get columns sign ≡ Some c → slice_get c.values k ≡ Some v → is_signed sign (row_at columns k) ≡ is_either (Some v)
  sign_of_column c v column value = ap is_either (value_at columns k sign long ∙ ap (option_and_then (λ (c : Cells). slice_get c.values k)) column ∙ value)

  -- without such a column it has no sign
  pub sign_of_none : slice_get columns sign ≡ None → is_signed sign (row_at columns k) ≡ false
  sign_of_none none = ap is_either (value_at columns k sign long ∙ ap (option_and_then (λ (c : Cells). slice_get c.values k)) none)

-- ---- a row that is read

module _ (types : List ColType) (sign : Option ℕ) (line : ℕ) (text : List ℕ) where
  signed_by : (row : Row) (keeps : Bool) → row_of_line types line text ≡ Ok row → keeps_sign sign row ≡ keeps → signed_row_of_line types sign line text ≡ cond keeps (Ok row) (Err (row_fault.Sign line))
  signed_by row keeps is same = ap (with_sign sign line) is ∙ ap (λ b. cond b (Ok row) (Err (row_fault.Sign line))) same

  -- its sign is 1 or -1, where there is one
  pub signed_row : (row : Row) → row_of_line types line text ≡ Ok row → keeps_sign sign row ≡ true → signed_row_of_line types sign line text ≡ Ok row
  signed_row row is keeps = signed_by row true is keeps

  -- it is neither
  pub unsigned_row : (row : Row) → row_of_line types line text ≡ Ok row → keeps_sign sign row ≡ false → signed_row_of_line types sign line text ≡ Err (row_fault.Sign line)
  unsigned_row row is other = signed_by row false is other

  -- a line that is no row is none, whatever its sign
  pub refused_row : (why : Stop RowFault) → Refuses (row_of_line types line text) why → Refuses (signed_row_of_line types sign line text) why
  refused_row NoMemory refuses = tt
  refused_row (Refused fault) refuses = ap (with_sign sign line) refuses
