-- Why a line is no row.
use Rattle.std.specs.Prelude.{ℕ, ◌==◌, Option, Some, None, if◌then◌else◌}
use Rattle.mt_values.specs.declared.row_fault.RowFault.{RowFault}
use Rattle.mt_values.specs.declared.row_fault.RowFault.TheVariants as row_fault

-- a line has another number of fields than there are columns
abbrev pub fault_of_count : ℕ → ℕ → ℕ → Option RowFault
fault_of_count line found wanted = if found == wanted then None else Some (row_fault.Fields line found wanted)
