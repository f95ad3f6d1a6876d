use Rattle.mt_model.proofs.Determined.{sees_permutes}
use Rattle.mt_model.proofs.laws.plain_tables_show_their_rows.Goals as goal

pub returns : goal.returns
returns c = sees_permutes
