-- The numbers of refusals.
use Rattle.std.proofs.Common.{◌≡◌, refl}
use Rattle.mt_model.specs.declared.refusal.Refusal.{Refusal}
use Rattle.mt_model.specs.declared.refusal.Refusal.TheVariants as refusal
use Rattle.mt_model.specs.Refusals.{code, code_of, refusal_line}

pub code_of_line : (r : Refusal) → code_of (refusal_line r) ≡ code r
code_of_line (refusal.Grammar place) = refl
code_of_line (refusal.NoTable table) = refl
code_of_line (refusal.TableExists table) = refl
code_of_line (refusal.NoColumn column) = refl
code_of_line (refusal.Schema why column) = refl
code_of_line (refusal.Literal column place) = refl
code_of_line (refusal.Fields line found wanted) = refl
code_of_line (refusal.Field line field) = refl
code_of_line (refusal.Past b) = refl
code_of_line (refusal.Full which accepted) = refl
code_of_line (refusal.Unended rows) = refl
code_of_line (refusal.Busy part) = refl
code_of_line refusal.Failed = refl
code_of_line (refusal.Unsettled accepted) = refl
code_of_line (refusal.Stopped opened now accepted) = refl
code_of_line (refusal.Sign line) = refl
code_of_line (refusal.Damaged table part file) = refl
