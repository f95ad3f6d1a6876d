use Rattle.std.proofs.Common.{◌∙◌, true, false, codes}
use Rattle.mt_values.specs.Grammar.{format, is_word}
use Rattle.mt_values.specs.Readers.{expect}
use Rattle.mt_values.specs.Tokens.{is_keyword}
use Rattle.sql_read.specs.Parts.{inserted_format}
use Rattle.sql_read.specs.Reads.{Skips}
use Rattle.sql_read.proofs.Chains.{last_ends, last_part_stop}
use Rattle.sql_read.proofs.cursor.Cursor.inserted_format.Goals as goal

pub returns-then-not-skip_keyword : goal.returns-then-not-skip_keyword
returns-then-not-skip_keyword c =
    let none : Skips (is_word (is_keyword (codes "FORMAT"))) c.args.self.now false c.skip_keyword.new.self = rw c.if-not-skip_keyword.true at c.skip_keyword.ensures.way in
    last_ends inserted_format c.args.self.now c.skip_keyword.new.self (λ next. none (λ u. expect format next) (next tt)) c.end.result c.end.new.self c.end.ensures

pub returns-in_err-format : goal.returns-in_err-format
returns-in_err-format c =
    let written : Skips (is_word (is_keyword (codes "FORMAT"))) c.args.self.now true c.skip_keyword.new.self = rw c.if-not-skip_keyword.false at c.skip_keyword.ensures.way in
    last_part_stop inserted_format (expect format) (λ next u. next tt) c.args.self.now c.skip_keyword.new.self
    (λ next. written (λ u. expect format next) (next tt))
    c.in_err-format.field-0.0 c.format.new.self c.in_err-format.ensures.read _ c.from_residual.ensures.1

pub returns : goal.returns
returns c =
    let written : Skips (is_word (is_keyword (codes "FORMAT"))) c.args.self.now true c.skip_keyword.new.self = rw c.if-not-skip_keyword.false at c.skip_keyword.ensures.way in
    last_ends inserted_format c.args.self.now c.format.new.self (λ next. written (λ u. expect format next) (next tt) ∙ c.in_ok-format.ensures.read next) c.end-2.result c.end-2.new.self c.end-2.ensures
