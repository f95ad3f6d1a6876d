use Rattle.std.proofs.Common.{◌∙◌}
use Rattle.mt_values.specs.declared.expr.Comparison.TheVariants as comparison
use Rattle.mt_values.specs.declared.token.Symbol.TheVariants as symbol
use Rattle.mt_values.specs.Grammar.{list_of, literal, membership, the}
use Rattle.mt_values.specs.Readers.{expect}
use Rattle.sql_read.proofs.Chains.{reads_stop}
use Rattle.sql_read.proofs.cursor.Cursor.membership.Goals as goal

pub returns-in_err-symbol-clause-read : goal.returns-in_err-symbol-clause-read
returns-in_err-symbol-clause-read c =
    reads_stop membership (expect (the symbol.Open)) (λ next u. list_of literal (λ ls. expect (the symbol.Close) (λ v. next (comparison.Equal, ls)))) c.args.self.now c.keyword.new.self
    (λ next. c.in_ok-keyword.ensures.read (λ u. expect (the symbol.Open) (λ v. list_of literal (λ ls. expect (the symbol.Close) (λ v. next (comparison.Equal, ls))))))
    c.in_err-symbol.field-0.0 c.symbol.new.self c.in_err-symbol.ensures.read _ c.from_residual-in_err-symbol.ensures.1

pub returns-in_err-literals-clause-read : goal.returns-in_err-literals-clause-read
returns-in_err-literals-clause-read c =
    reads_stop membership (list_of literal) (λ next ls. expect (the symbol.Close) (λ v. next (comparison.Equal, ls))) c.args.self.now c.symbol.new.self
    (λ next.
    c.in_ok-keyword.ensures.read (λ u. expect (the symbol.Open) (λ v. list_of literal (λ ls. expect (the symbol.Close) (λ v. next (comparison.Equal, ls)))))
    ∙ c.in_ok-symbol.ensures.read (λ v. list_of literal (λ ls. expect (the symbol.Close) (λ v. next (comparison.Equal, ls)))))
    c.in_err-literals.field-0.0 c.literals.new.self c.in_err-literals.ensures.read _ c.from_residual-in_err-literals.ensures.1

pub returns-in_err-symbol-2-clause-read : goal.returns-in_err-symbol-2-clause-read
returns-in_err-symbol-2-clause-read c =
    reads_stop membership (expect (the symbol.Close)) (λ next v. next (comparison.Equal, c.in_ok-literals.literals)) c.args.self.now c.literals.new.self
    (λ next.
    c.in_ok-keyword.ensures.read (λ u. expect (the symbol.Open) (λ v. list_of literal (λ ls. expect (the symbol.Close) (λ v. next (comparison.Equal, ls)))))
    ∙ (c.in_ok-symbol.ensures.read (λ v. list_of literal (λ ls. expect (the symbol.Close) (λ v. next (comparison.Equal, ls))))
    ∙ c.in_ok-literals.ensures.read (λ ls. expect (the symbol.Close) (λ v. next (comparison.Equal, ls)))))
    c.in_err-symbol-2.field-0.0 c.symbol-2.new.self c.in_err-symbol-2.ensures.read _ c.from_residual-in_err-symbol-2.ensures.1

pub returns-clause-read : goal.returns-clause-read
returns-clause-read c = λ next.
    c.in_ok-keyword.ensures.read (λ u. expect (the symbol.Open) (λ v. list_of literal (λ ls. expect (the symbol.Close) (λ v. next (comparison.Equal, ls)))))
    ∙ (c.in_ok-symbol.ensures.read (λ v. list_of literal (λ ls. expect (the symbol.Close) (λ v. next (comparison.Equal, ls))))
    ∙ (c.in_ok-literals.ensures.read (λ ls. expect (the symbol.Close) (λ v. next (comparison.Equal, ls)))
    ∙ c.in_ok-symbol-2.ensures.read (λ v. next (comparison.Equal, c.in_ok-literals.literals))))
