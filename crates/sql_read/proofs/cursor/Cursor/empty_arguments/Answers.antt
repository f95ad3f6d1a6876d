use Rattle.std.proofs.Common.{true, false}
use Rattle.mt_values.specs.declared.token.Symbol.TheVariants as symbol
use Rattle.mt_values.specs.Grammar.{is_symbol, the}
use Rattle.mt_values.specs.Readers.{expect}
use Rattle.sql_read.specs.Parts.{empty_arguments}
use Rattle.sql_read.specs.Reads.{Skips}
use Rattle.sql_read.proofs.Chains.{reads_rest}
use Rattle.sql_read.proofs.cursor.Cursor.empty_arguments.Goals as goal

pub returns-then-not-skip : goal.returns-then-not-skip
returns-then-not-skip c =
    let none : Skips (is_symbol symbol.Open) c.args.self.now false c.skip.new.self = rw c.if-not-skip.true at c.skip.ensures.way in
    λ next. none (λ u. expect (the symbol.Close) next) (next tt)

pub returns : goal.returns
returns c =
    let opens : Skips (is_symbol symbol.Open) c.args.self.now true c.skip.new.self = rw c.if-not-skip.false at c.skip.ensures.way in
    reads_rest empty_arguments (expect (the symbol.Close)) c.args.self.now c.skip.new.self
    (λ next. opens (λ u. expect (the symbol.Close) next) (next tt))
    c.symbol.result c.symbol.new.self c.symbol.ensures.read
