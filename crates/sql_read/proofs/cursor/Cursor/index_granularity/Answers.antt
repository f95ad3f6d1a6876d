use Rattle.std.proofs.Common.{refl, codes}
use Rattle.mt_values.specs.Grammar.{keyword, number}
use Rattle.mt_values.specs.Readers.{expect}
use Rattle.sql_read.specs.Parts.{index_granularity}
use Rattle.sql_read.proofs.Chains.{reads_rest, reads_stop}
use Rattle.sql_read.proofs.cursor.Cursor.index_granularity.Goals as goal

pub returns-in_err-keyword-clause-read : goal.returns-in_err-keyword-clause-read
returns-in_err-keyword-clause-read c =
    reads_stop index_granularity (expect (keyword (codes "GRANULARITY"))) (λ next u. expect number next) c.args.self.now c.args.self.now (λ next. refl)
    c.in_err-keyword.field-0.0 c.keyword.new.self c.in_err-keyword.ensures.read _ c.from_residual.ensures.1

pub returns-clause-read : goal.returns-clause-read
returns-clause-read c =
    reads_rest index_granularity (expect number) c.args.self.now c.keyword.new.self (λ next. c.in_ok-keyword.ensures.read (λ u. expect number next)) c.number.result c.number.new.self c.number.ensures.read
