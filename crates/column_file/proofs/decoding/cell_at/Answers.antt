use Rattle.std.proofs.Common.{◌≡◌, ℕ, Option, Some, None, Result, MatchResult, refl}
use Rattle.std.proofs.lemmas.List.{take_rest}
use Rattle.std.specs.Option.{MatchOption, ok_or}
use Rattle.mt_values.specs.declared.cell.Cell.{Cell}
use Rattle.byte_numbers.specs.declared.faults.FormatFault.{FormatFault}
use Rattle.byte_numbers.specs.declared.faults.FormatFault.TheVariants.{Malformed}
use Rattle.column_file.proofs.decoding.cell_at.Goals as goal

-- a value that was found, or the error in place of none
told : (found : Option (Cell × ℕ)) (r : Result (Cell × ℕ) FormatFault) (N : Type 0) (P : Cell × ℕ → Type 0) (e : FormatFault) → r ≡ ok_or found e → MatchOption found N P → MatchResult r P (λ f. (f ≡ e) × N)
told (Some p) r N P e is h = rw is h
told None r N P e is h = rw is (refl, h)

pub returns : goal.returns
returns c = told c.first_cell.result c.ok_or.result _ _ (Malformed c.args.at) c.ok_or.ensures.value (rw take_rest at c.first_cell.ensures)
