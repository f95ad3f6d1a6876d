use Rattle.std.proofs.Common.{◌∙◌, refl}
use Rattle.mt_values.specs.declared.token.Symbol.TheVariants as symbol
use Rattle.mt_values.specs.Grammar.{list_of, table_element, the}
use Rattle.mt_values.specs.Readers.{expect}
use Rattle.sql_read.specs.Parts.{created_elements}
use Rattle.sql_read.proofs.Chains.{reads_stop}
use Rattle.sql_read.proofs.cursor.Cursor.created_elements.Goals as goal

pub returns-in_err-symbol : goal.returns-in_err-symbol
returns-in_err-symbol c =
    reads_stop created_elements (expect (the symbol.Open)) (λ next u. list_of table_element (λ es. expect (the symbol.Close) (λ v. next es))) c.args.self.now c.args.self.now (λ next. refl)
    c.in_err-symbol.field-0.0 c.symbol.new.self c.in_err-symbol.ensures.read _ c.from_residual.ensures.1

pub returns-in_err-elements : goal.returns-in_err-elements
returns-in_err-elements c =
    reads_stop created_elements (list_of table_element) (λ next es. expect (the symbol.Close) (λ v. next es)) c.args.self.now c.symbol.new.self
    (λ next. c.in_ok-symbol.ensures.read (λ u. list_of table_element (λ es. expect (the symbol.Close) (λ v. next es))))
    c.in_err-elements.field-0.0 c.elements.new.self c.in_err-elements.ensures _ c.from_residual-in_err-elements.ensures.1

pub returns-in_err-symbol-2 : goal.returns-in_err-symbol-2
returns-in_err-symbol-2 c =
    reads_stop created_elements (expect (the symbol.Close)) (λ next v. next c.in_ok-elements.elements) c.args.self.now c.elements.new.self
    (λ next.
    c.in_ok-symbol.ensures.read (λ u. list_of table_element (λ es. expect (the symbol.Close) (λ v. next es)))
    ∙ c.in_ok-elements.ensures (λ es. expect (the symbol.Close) (λ v. next es)))
    c.in_err-symbol-2.field-0.0 c.symbol-2.new.self c.in_err-symbol-2.ensures.read _ c.from_residual-in_err-symbol-2.ensures.1

pub returns : goal.returns
returns c = λ next.
    c.in_ok-symbol.ensures.read (λ u. list_of table_element (λ es. expect (the symbol.Close) (λ v. next es)))
    ∙ (c.in_ok-elements.ensures (λ es. expect (the symbol.Close) (λ v. next es)) ∙ c.in_ok-symbol-2.ensures.read (λ v. next c.in_ok-elements.elements))
