use Rattle.std.proofs.Common.{◌∙◌, true, false, Some, None, codes}
use Rattle.mt_values.specs.Grammar.{is_word, keyword, partition_id, string}
use Rattle.mt_values.specs.Readers.{expect}
use Rattle.mt_values.specs.Tokens.{is_keyword}
use Rattle.sql_read.specs.Reads.{Skips}
use Rattle.sql_read.proofs.Chains.{reads_stop}
use Rattle.sql_read.proofs.cursor.Cursor.partition_id.Goals as goal

pub returns-then-not-skip_keyword : goal.returns-then-not-skip_keyword
returns-then-not-skip_keyword c =
    let none : Skips (is_word (is_keyword (codes "PARTITION"))) c.args.self.now false c.skip_keyword.new.self = rw c.if-not-skip_keyword.true at c.skip_keyword.ensures.way in
    λ next. none (λ u. expect (keyword (codes "ID")) (λ v. expect string (λ id. next (Some id)))) (next None)

pub returns-in_err-keyword : goal.returns-in_err-keyword
returns-in_err-keyword c =
    let written : Skips (is_word (is_keyword (codes "PARTITION"))) c.args.self.now true c.skip_keyword.new.self = rw c.if-not-skip_keyword.false at c.skip_keyword.ensures.way in
    reads_stop partition_id (expect (keyword (codes "ID"))) (λ next v. expect string (λ id. next (Some id))) c.args.self.now c.skip_keyword.new.self
    (λ next. written (λ u. expect (keyword (codes "ID")) (λ v. expect string (λ id. next (Some id)))) (next None))
    c.in_err-keyword.field-0.0 c.keyword.new.self c.in_err-keyword.ensures.read _ c.from_residual.ensures.1

pub returns-in_err-id : goal.returns-in_err-id
returns-in_err-id c =
    let written : Skips (is_word (is_keyword (codes "PARTITION"))) c.args.self.now true c.skip_keyword.new.self = rw c.if-not-skip_keyword.false at c.skip_keyword.ensures.way in
    reads_stop partition_id (expect string) (λ next id. next (Some id)) c.args.self.now c.keyword.new.self
    (λ next.
    written (λ u. expect (keyword (codes "ID")) (λ v. expect string (λ id. next (Some id)))) (next None)
    ∙ c.in_ok-keyword.ensures.read (λ v. expect string (λ id. next (Some id))))
    c.in_err-id.field-0.0 c.string.new.self c.in_err-id.ensures.read _ c.from_residual-in_err-id.ensures.1

pub returns : goal.returns
returns c =
    let written : Skips (is_word (is_keyword (codes "PARTITION"))) c.args.self.now true c.skip_keyword.new.self = rw c.if-not-skip_keyword.false at c.skip_keyword.ensures.way in
    λ next.
    written (λ u. expect (keyword (codes "ID")) (λ v. expect string (λ id. next (Some id)))) (next None)
    ∙ (c.in_ok-keyword.ensures.read (λ v. expect string (λ id. next (Some id))) ∙ c.in_ok-id.ensures.read (λ id. next (Some id)))
