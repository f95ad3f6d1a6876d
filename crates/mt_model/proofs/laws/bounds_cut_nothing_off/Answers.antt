use Rattle.mt_values.specs.declared.token.Symbol.TheVariants as symbol
use Rattle.mt_values.specs.Grammar.{is_symbol, the}
use Rattle.mt_values.proofs.TokenBounds.{tokens_same}
use Rattle.mt_values.proofs.ScriptBounds.{statements_same, data_same, data_ended_same}
use Rattle.mt_values.proofs.RowBounds.{rows_same}
use Rattle.mt_model.proofs.ClauseBounds.{clauses_same}
use Rattle.mt_model.proofs.ConditionBounds.{ands_same, literals_same, ors_same}
use Rattle.mt_model.proofs.TextBounds.{strings_same, texts_same, names_same, elements_same}
use Rattle.mt_model.proofs.laws.bounds_cut_nothing_off.Goals as goal

pub returns : goal.returns
returns c = record {
  statements = statements_same;
  tokens = tokens_same;
  strings = strings_same;
  names = λ n m next ts. names_same n m (is_symbol symbol.Comma) (the symbol.Comma) next ts;
  elements = λ n m next ts. elements_same n m (is_symbol symbol.Comma) (the symbol.Comma) next ts;
  clauses = clauses_same;
  lines = data_same;
  ends = data_ended_same;
  rows = rows_same;
  texts = texts_same;
  literals = λ n m next ts. literals_same n m (is_symbol symbol.Comma) (the symbol.Comma) next ts;
  ands = ands_same;
  ors = ors_same;
}
