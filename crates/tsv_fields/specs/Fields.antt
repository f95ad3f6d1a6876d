-- Lines parted into fields by places, and what reading a field gives.
use Rattle.std.specs.Prelude.{◌≡◌, ℕ, ◌+◌, ◌-◌, ◌≤◌, Bool, false, List, [], ◌∷◌, length, take, drop, Option, Some, None, Result, Ok, Err, if◌then◌else◌}
use Rattle.std.specs.Option.{option_map}
use Rattle.mt_base.specs.declared.stop.Stop.{Stop}
use Rattle.mt_base.specs.Stops.{Refuses}
use Rattle.mt_values.specs.Cells.{value_of}
use Rattle.mt_values.specs.Rows.{fields_from}
use Rattle.mt_values.specs.Script.{line_from}
use Rattle.mt_values.specs.declared.cell.Cell.{Cell}
use Rattle.mt_values.specs.declared.row_fault.FieldFault.{FieldFault}
use Rattle.mt_values.specs.declared.row_fault.FieldFault.TheVariants as field_fault
use Rattle.mt_values.specs.declared.value.Value.{Value}

-- a line up to its line feed at a place, and what follows that
abbrev pub line_at : List ℕ → Option ℕ → Option (List ℕ × List ℕ)
line_at text feed = option_map (λ k. (take k text, drop (k + 1) text)) feed

-- the line that a text begins with, where lines are looked for
abbrev pub line_found : Bool → List ℕ → Option (List ℕ × List ℕ)
line_found lines text = if lines then line_from false text else None

-- what stands before a line feed, or the whole text where there is none
abbrev pub marked : List ℕ → Option ℕ → List ℕ
marked text None = text
marked text (Some place) = take place text

-- the pieces of a line from a place on that end at these places, with a byte between two pieces
abbrev pub pieces_from : ℕ → List ℕ → List ℕ → List (List ℕ)
pieces_from start [] line = []
pieces_from start (end ∷ ends) line = take (end - start) (drop start line) ∷ pieces_from (end + 1) ends line

-- the ends rise from a place up to the end of the line
abbrev pub EndsRise : ℕ → List ℕ → ℕ → Type 0
EndsRise start [] count = Unit {0}
EndsRise start (end ∷ ends) count = (start ≤ end) × (end ≤ count) × EndsRise (end + 1) ends count

-- the fields of the line end at these places
pub record EndFields (line ends : List ℕ) : Type 0 where
  pub fields : pieces_from 0 ends line ≡ fields_from false line
  pub rise : EndsRise 0 ends (length line)

-- the value that was read, or that the field is not of its type
abbrev pub value_or_none : Option Cell → Result Value FieldFault
value_or_none None = Err field_fault.NotOfType
value_or_none (Some cell) = Ok (value_of cell)

-- the cell that was read is of the wanted value, or the refusal the wanted one, unless memory ran out
abbrev pub IsValueRead : Result Value FieldFault → Result Cell (Stop FieldFault) → Type 0
IsValueRead wanted (Ok cell) = wanted ≡ Ok (value_of cell)
IsValueRead wanted (Err why) = Refuses wanted why
