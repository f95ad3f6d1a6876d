use Rattle.std.proofs.Common.{◌∙◌, true, false}
use Rattle.mt_values.specs.declared.token.Symbol.TheVariants as symbol
use Rattle.mt_values.specs.Grammar.{is_symbol, the}
use Rattle.mt_values.specs.Readers.{choose, expect}
use Rattle.sql_read.specs.Reads.{Skips}
use Rattle.sql_read.proofs.Choices.{either_told}
use Rattle.sql_read.proofs.cursor.Cursor.sign.Goals as goal

pub returns-then-skip-clause-read : goal.returns-then-skip-clause-read
returns-then-skip-clause-read c =
    let plus : Skips (is_symbol symbol.Plus) c.args.self.now true c.skip.new.self = rw c.if-skip.true at c.skip.ensures.way in
    λ next. plus (λ u. next false) (choose (is_symbol symbol.Minus) (expect (the symbol.Minus) (λ v. next true)) (next false))

pub returns-clause-read : goal.returns-clause-read
returns-clause-read c =
    let none : Skips (is_symbol symbol.Plus) c.args.self.now false c.skip.new.self = rw c.if-skip.false at c.skip.ensures.way in
    λ next.
    none (λ u. next false) (choose (is_symbol symbol.Minus) (expect (the symbol.Minus) (λ v. next true)) (next false))
    ∙ (c.skip-2.ensures.way (λ u. next true) (next false) ∙ either_told c.skip-2.result next c.skip-2.new.self)
