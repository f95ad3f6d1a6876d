use Rattle.std.proofs.Common.{◌∙◌}
use Rattle.mt_values.specs.Grammar.{key}
use Rattle.sql_read.specs.Parts.{key_after}
use Rattle.sql_read.proofs.Chains.{reads_rest}
use Rattle.sql_read.proofs.cursor.Cursor.key_after.Goals as goal

pub returns : goal.returns
returns c =
    reads_rest (key_after c.args.first.now c.args.second.now) key c.args.self.now c.keyword-2.new.self
    (λ next. c.in_ok-keyword.ensures.read _ ∙ c.in_ok-keyword-2.ensures.read _)
    c.key.result c.key.new.self c.key.ensures
