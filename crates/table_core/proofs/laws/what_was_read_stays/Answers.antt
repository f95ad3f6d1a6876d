use Rattle.table_core.proofs.Telling.{run_core, run_known, run_tells_left, run_tells_snapshots}
use Rattle.table_core.proofs.Stepping.{gives_core}
use Rattle.table_core.proofs.laws.what_was_read_stays.Goals as goal

pub returns : goal.returns
returns c = record { step = gives_core; run = run_core; read = run_tells_left; taken = run_tells_snapshots; known = run_known }
