use Rattle.std.proofs.Common.{◌∙◌}
use Rattle.mt_values.specs.Grammar.{engine}
use Rattle.sql_read.specs.Parts.{created_engine}
use Rattle.sql_read.proofs.Chains.{reads_rest}
use Rattle.sql_read.proofs.cursor.Cursor.created_engine.Goals as goal

pub returns : goal.returns
returns c =
    reads_rest created_engine engine c.args.self.now c.symbol.new.self
    (λ next. c.in_ok-keyword.ensures.read _ ∙ c.in_ok-symbol.ensures.read _)
    c.engine.result c.engine.new.self c.engine.ensures
