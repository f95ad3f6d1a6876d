use Rattle.mt_model.proofs.Counting.{refused_counts}
use Rattle.mt_model.proofs.laws.refused_statements_add_what_they_count.Goals as goal

pub returns : goal.returns
returns c = refused_counts
