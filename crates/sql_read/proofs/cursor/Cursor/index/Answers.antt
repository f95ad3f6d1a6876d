use Rattle.std.proofs.Common.{◌∙◌}
use Rattle.mt_values.specs.Grammar.{index, name}
use Rattle.mt_values.specs.Readers.{expect}
use Rattle.sql_read.specs.Parts.{index_granularity, index_type}
use Rattle.sql_read.proofs.Chains.{reads_stop}
use Rattle.sql_read.proofs.TableElements.{index_said}
use Rattle.sql_read.proofs.cursor.Cursor.index.Goals as goal

pub returns-in_err-name-clause-read : goal.returns-in_err-name-clause-read
returns-in_err-name-clause-read c =
    reads_stop index (expect name) (λ next n. expect name (λ d. index_type (λ k. index_granularity (λ digits. next (index_said n d k digits))))) c.args.self.now c.keyword.new.self
    (λ next. c.in_ok-keyword.ensures.read (λ u. expect name (λ n. expect name (λ d. index_type (λ k. index_granularity (λ digits. next (index_said n d k digits)))))))
    c.in_err-name.field-0.0 c.name.new.self c.in_err-name.ensures.read _ c.from_residual-in_err-name.ensures.1

pub returns-in_err-column-clause-read : goal.returns-in_err-column-clause-read
returns-in_err-column-clause-read c =
    reads_stop index (expect name) (λ next d. index_type (λ k. index_granularity (λ digits. next (index_said c.in_ok-name.name d k digits)))) c.args.self.now c.name.new.self
    (λ next.
    c.in_ok-keyword.ensures.read (λ u. expect name (λ n. expect name (λ d. index_type (λ k. index_granularity (λ digits. next (index_said n d k digits))))))
    ∙ c.in_ok-name.ensures.read (λ n. expect name (λ d. index_type (λ k. index_granularity (λ digits. next (index_said n d k digits))))))
    c.in_err-column.field-0.0 c.name-2.new.self c.in_err-column.ensures.read _ c.from_residual-in_err-column.ensures.1

pub returns-in_err-kind-clause-read : goal.returns-in_err-kind-clause-read
returns-in_err-kind-clause-read c =
    reads_stop index index_type (λ next k. index_granularity (λ digits. next (index_said c.in_ok-name.name c.in_ok-column.column k digits))) c.args.self.now c.name-2.new.self
    (λ next.
    c.in_ok-keyword.ensures.read (λ u. expect name (λ n. expect name (λ d. index_type (λ k. index_granularity (λ digits. next (index_said n d k digits))))))
    ∙ (c.in_ok-name.ensures.read (λ n. expect name (λ d. index_type (λ k. index_granularity (λ digits. next (index_said n d k digits)))))
    ∙ c.in_ok-column.ensures.read (λ d. index_type (λ k. index_granularity (λ digits. next (index_said c.in_ok-name.name d k digits))))))
    c.in_err-kind.field-0.0 c.index_type.new.self c.in_err-kind.ensures.read _ c.from_residual-in_err-kind.ensures.1

pub returns-in_err-granularity-clause-read : goal.returns-in_err-granularity-clause-read
returns-in_err-granularity-clause-read c =
    reads_stop index index_granularity (λ next digits. next (index_said c.in_ok-name.name c.in_ok-column.column c.in_ok-kind.kind digits)) c.args.self.now c.index_type.new.self
    (λ next.
    c.in_ok-keyword.ensures.read (λ u. expect name (λ n. expect name (λ d. index_type (λ k. index_granularity (λ digits. next (index_said n d k digits))))))
    ∙ (c.in_ok-name.ensures.read (λ n. expect name (λ d. index_type (λ k. index_granularity (λ digits. next (index_said n d k digits)))))
    ∙ (c.in_ok-column.ensures.read (λ d. index_type (λ k. index_granularity (λ digits. next (index_said c.in_ok-name.name d k digits))))
    ∙ c.in_ok-kind.ensures.read (λ k. index_granularity (λ digits. next (index_said c.in_ok-name.name c.in_ok-column.column k digits))))))
    c.in_err-granularity.field-0.0 c.index_granularity.new.self c.in_err-granularity.ensures.read _ c.from_residual-in_err-granularity.ensures.1

pub returns-clause-read : goal.returns-clause-read
returns-clause-read c = λ next.
    c.in_ok-keyword.ensures.read (λ u. expect name (λ n. expect name (λ d. index_type (λ k. index_granularity (λ digits. next (index_said n d k digits))))))
    ∙ (c.in_ok-name.ensures.read (λ n. expect name (λ d. index_type (λ k. index_granularity (λ digits. next (index_said n d k digits)))))
    ∙ (c.in_ok-column.ensures.read (λ d. index_type (λ k. index_granularity (λ digits. next (index_said c.in_ok-name.name d k digits))))
    ∙ (c.in_ok-kind.ensures.read (λ k. index_granularity (λ digits. next (index_said c.in_ok-name.name c.in_ok-column.column k digits)))
    ∙ c.in_ok-granularity.ensures.read (λ digits. next (index_said c.in_ok-name.name c.in_ok-column.column c.in_ok-kind.kind digits)))))
