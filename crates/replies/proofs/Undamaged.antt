-- Replies that do not tell of damage.
use Rattle.std.proofs.Common.{◌≡◌, ℕ, false, List, refl, ap, ◌∙◌}
use Rattle.mt_values.specs.declared.row_fault.DataFault.{DataFault}
use Rattle.mt_values.specs.declared.row_fault.DataFault.TheVariants as data_fault
use Rattle.mt_values.specs.declared.row_fault.RowFault.TheVariants as row_fault
use Rattle.mt_values.specs.declared.statement.Cause.{Cause}
use Rattle.mt_values.specs.declared.statement.Cause.TheVariants as cause
use Rattle.mt_outside.specs.declared.disk.DiskError.{DiskError}
use Rattle.mt_outside.specs.declared.disk.DiskError.TheVariants as failure
use Rattle.mt_model.specs.declared.refusal.Refusal.{Refusal}
use Rattle.mt_model.specs.Refusals.{is_damage, refusal_line, refusal_of_cause, refusal_of_data}
use Rattle.replies.specs.Lines.{IsLineOfStage}

-- a line by its number
pub line_of : (reply : List ℕ) (why : Refusal) → reply ≡ refusal_line why → is_damage (refusal_line why) ≡ false → is_damage reply ≡ false
line_of reply why is none = ap is_damage is ∙ none

-- a text that is no statement, and data that is refused
pub cause_line : (why : Cause) → is_damage (refusal_line (refusal_of_cause why)) ≡ false
cause_line (cause.Grammar place) = refl
cause_line cause.LongStatement = refl
cause_line cause.LongName = refl
cause_line cause.TooDeep = refl

pub data_line : (why : DataFault) → is_damage (refusal_line (refusal_of_data why)) ≡ false
data_line (data_fault.Row (row_fault.Fields line found wanted)) = refl
data_line (data_fault.Row (row_fault.Field line field)) = refl
data_line (data_fault.Row row_fault.Value) = refl
data_line (data_fault.Row (row_fault.Sign line)) = refl
data_line data_fault.TooMany = refl
data_line (data_fault.Unended rows) = refl

-- a stage that was not sealed
pub stage_line : (error : DiskError) (reply : List ℕ) → IsLineOfStage error reply → is_damage reply ≡ false
stage_line failure.NoMemory reply line = absurd line
stage_line failure.Fault reply line = ap is_damage line
