use Rattle.std.proofs.Common.{◌∙◌, true, false, List, [], ◌∷◌, ℕ}
use Rattle.mt_values.specs.declared.statement.Statement.{Statement}
use Rattle.mt_values.specs.declared.token.Symbol.TheVariants as symbol
use Rattle.mt_values.specs.Grammar.{is_symbol, key, list_of, name, one_name, the}
use Rattle.mt_values.specs.Readers.{Reader, expect}
use Rattle.sql_read.specs.Reads.{Skips}
use Rattle.sql_read.proofs.Chains.{reads_rest, reads_stop}
use Rattle.sql_read.proofs.cursor.Cursor.key.Goals as goal

pub returns-in_err-names : goal.returns-in_err-names
returns-in_err-names c =
    let opens : Skips (is_symbol symbol.Open) c.args.self.now true c.skip.new.self = rw c.if-skip.true at c.skip.ensures.way in
    reads_stop key (list_of one_name) (λ next names. expect (the symbol.Close) (λ v. next names)) c.args.self.now c.skip.new.self
    (λ next. opens (λ u. list_of one_name (λ names. expect (the symbol.Close) (λ v. next names))) (expect name (λ n. next (n ∷ []))))
    c.in_err-names.field-0.0 c.names.new.self c.in_err-names.ensures _ c.from_residual.ensures.1

pub returns-in_err-symbol : goal.returns-in_err-symbol
returns-in_err-symbol c =
    let opens : Skips (is_symbol symbol.Open) c.args.self.now true c.skip.new.self = rw c.if-skip.true at c.skip.ensures.way in
    reads_stop key (expect (the symbol.Close)) (λ next v. next c.in_ok-names.names) c.args.self.now c.names.new.self
    (λ next. opens (λ u. list_of one_name (λ names. expect (the symbol.Close) (λ v. next names))) (expect name (λ n. next (n ∷ []))) ∙ c.in_ok-names.ensures (λ names. expect (the symbol.Close) (λ v. next names)))
    c.in_err-symbol.field-0.0 c.symbol.new.self c.in_err-symbol.ensures.read _ c.from_residual-in_err-symbol.ensures.1

pub returns-then-skip : goal.returns-then-skip
returns-then-skip c =
    let opens : Skips (is_symbol symbol.Open) c.args.self.now true c.skip.new.self = rw c.if-skip.true at c.skip.ensures.way in
    λ next. opens (λ u. list_of one_name (λ names. expect (the symbol.Close) (λ v. next names))) (expect name (λ n. next (n ∷ []))) ∙ (c.in_ok-names.ensures (λ names. expect (the symbol.Close) (λ v. next names)) ∙ c.in_ok-symbol.ensures.read (λ v. next c.in_ok-names.names))

pub returns-in_err-name : goal.returns-in_err-name
returns-in_err-name c =
    let plain : Skips (is_symbol symbol.Open) c.args.self.now false c.skip.new.self = rw c.if-skip.false at c.skip.ensures.way in
    reads_stop key (expect name) (λ next n. next (n ∷ [])) c.args.self.now c.skip.new.self
    (λ next. plain (λ u. list_of one_name (λ names. expect (the symbol.Close) (λ v. next names))) (expect name (λ n. next (n ∷ []))))
    c.in_err-name.field-0.0 c.name.new.self c.in_err-name.ensures.read _ c.from_residual-in_err-name.ensures.1

pub returns : goal.returns
returns c =
    let plain : Skips (is_symbol symbol.Open) c.args.self.now false c.skip.new.self = rw c.if-skip.false at c.skip.ensures.way in
    reads_rest key (λ (next : List (List ℕ) → Reader Statement). next (c.in_ok-name.name ∷ [])) c.args.self.now c.name.new.self
    (λ next. plain (λ u. list_of one_name (λ names. expect (the symbol.Close) (λ v. next names))) (expect name (λ n. next (n ∷ []))) ∙ c.in_ok-name.ensures.read (λ n. next (n ∷ [])))
    c.only.result c.name.new.self (c.only.ensures c.name.new.self)
