use Rattle.mt_values.specs.Grammar.{index_kind}
use Rattle.sql_read.specs.Parts.{index_type}
use Rattle.sql_read.proofs.Chains.{reads_rest}
use Rattle.sql_read.proofs.cursor.Cursor.index_type.Goals as goal

pub returns-clause-read : goal.returns-clause-read
returns-clause-read c =
    reads_rest index_type index_kind c.args.self.now c.keyword.new.self (λ next. c.in_ok-keyword.ensures.read (λ u. index_kind next)) c.index_kind.result c.index_kind.new.self c.index_kind.ensures.read
