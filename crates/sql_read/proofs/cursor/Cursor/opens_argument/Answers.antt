use Rattle.std.proofs.Common.{◌∙◌, true, false}
use Rattle.mt_values.specs.declared.token.Symbol.TheVariants as symbol
use Rattle.mt_values.specs.Grammar.{is_symbol, the}
use Rattle.mt_values.specs.Readers.{choose, expect}
use Rattle.sql_read.specs.Reads.{Skips}
use Rattle.sql_read.proofs.EngineWays.{not_either}
use Rattle.sql_read.proofs.cursor.Cursor.opens_argument.Goals as goal

pub returns-then-not-skip : goal.returns-then-not-skip
returns-then-not-skip c =
    let none : Skips (is_symbol symbol.Open) c.args.self.now false c.skip.new.self = rw c.if-not-skip.true at c.skip.ensures.way in
    λ argument other. none (λ u. choose (is_symbol symbol.Close) (expect (the symbol.Close) (λ v. other)) argument) other

pub returns : goal.returns
returns c =
    let opens : Skips (is_symbol symbol.Open) c.args.self.now true c.skip.new.self = rw c.if-not-skip.false at c.skip.ensures.way in
    λ argument other.
    opens (λ u. choose (is_symbol symbol.Close) (expect (the symbol.Close) (λ v. other)) argument) other
    ∙ (c.skip-2.ensures.way (λ v. other) argument ∙ not_either c.skip-2.result argument other c.skip-2.new.self)
