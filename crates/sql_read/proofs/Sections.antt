-- The part of a script that a statement takes, by the numbers of bytes that were found.
use Rattle.std.proofs.Common.{◌≡◌, ℕ, true, List, drop, Some, Result, refl}
use Rattle.mt_values.specs.declared.script.Place.TheVariants.{Outside}
use Rattle.mt_values.specs.declared.statement.Cause.{Cause}
use Rattle.mt_values.specs.declared.statement.Statement.{Statement}
use Rattle.mt_values.specs.Grammar.{takes_data}
use Rattle.mt_values.specs.Script.{line_rest, behind_line, data_of, with_line_rest, complete_or_cut, ended_from}

-- a statement with data was found
pub completed_insert : (script text behind : List ℕ) (said : Result Statement Cause) (used : ℕ) → Some (text, behind) ≡ ended_from Outside script → takes_data text ≡ true →
    said ≡ with_line_rest text (line_rest behind) (data_of (behind_line behind)) → drop used script ≡ (data_of (behind_line behind)).rest → (said, drop used script) ≡ complete_or_cut script (ended_from Outside script)
completed_insert script text behind said used parts takes said_is rest_is = rw (← parts, takes, said_is, rest_is) refl
