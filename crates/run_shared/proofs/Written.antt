-- A statement that was read is what the grammar gives.
use Rattle.std.proofs.Common.{◌≡◌, ◌∷◌, List, ℕ, Ok, Some, All, ap, subst, ◌∙◌}
use Rattle.std.proofs.lemmas.List.Elements.{All-head}
use Rattle.mt_values.proofs.ScriptBounds.{statements_of_step}
use Rattle.mt_values.specs.Script.{next_statement, statement_and, statements_of}
use Rattle.mt_values.specs.declared.statement.Statement.{Statement}
use Rattle.session.proofs.MtModelKeys.{statements_are}
use Rattle.session.specs.mt_model.Written.{IsStatementText, IsWritten}

pub is_statement_text : (script : List ℕ) (s : Statement) (rest : List ℕ) → next_statement script ≡ Some (Ok s, rest) → IsStatementText s
is_statement_text script s rest is =
    let first : statements_of script ≡ Ok s ∷ statements_of rest = statements_of_step script ∙ ap (statement_and statements_of) is in
    All-head IsWritten (Ok s) (statements_of rest) (subst (All IsWritten) first (statements_are script))
