use Rattle.mt_model.proofs.Keys.{statements_are}
use Rattle.mt_model.proofs.Tables.{schema_is, create_allowed}
use Rattle.mt_model.proofs.laws.creates_are_allowed.Goals as goal

pub returns : goal.returns
returns c = record {
  written = statements_are;
  schema = λ text schema some is. schema_is text schema is some;
  next = λ text schema h some is turn. create_allowed text h schema is turn some;
}
