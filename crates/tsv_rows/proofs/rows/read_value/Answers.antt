use Rattle.std.proofs.lemmas.Result.{err_from_is_err_and}
use Rattle.tsv_rows.proofs.rows.read_value.Goals as goal

-- out of memory
pub returns-in_err-to_value-in-Ok : goal.returns-in_err-to_value-in-Ok
returns-in_err-to_value-in-Ok c = let p = err_from_is_err_and c.from_residual.result c.from_residual.ensures.1 in rw (p.1, p.2) (record { value = tt; refused = tt })
