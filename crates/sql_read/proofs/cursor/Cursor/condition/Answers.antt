use Rattle.std.proofs.Common.{true, false, codes}
use Rattle.mt_base.specs.Limits.{depth_limit}
use Rattle.mt_values.specs.Conditions.{Always}
use Rattle.mt_values.specs.Grammar.{expr, is_word, some_of, term_within, where_part}
use Rattle.mt_values.specs.Tokens.{is_keyword}
use Rattle.sql_read.specs.Reads.{Skips}
use Rattle.sql_read.proofs.Chains.{reads_rest}
use Rattle.sql_read.proofs.cursor.Cursor.condition.Goals as goal

pub returns-then-not-skip_keyword : goal.returns-then-not-skip_keyword
returns-then-not-skip_keyword c =
    let none : Skips (is_word (is_keyword (codes "WHERE"))) c.args.self.now false c.skip_keyword.new.self = rw c.if-not-skip_keyword.true at c.skip_keyword.ensures.way in
    rw c.in_ok-always.ensures (λ next. none (λ u. expr next) (next Always))

pub returns : goal.returns
returns c =
    let comes : Skips (is_word (is_keyword (codes "WHERE"))) c.args.self.now true c.skip_keyword.new.self = rw c.if-not-skip_keyword.false at c.skip_keyword.ensures.way in
    reads_rest where_part (some_of (term_within depth_limit)) c.args.self.now c.skip_keyword.new.self
    (λ next. comes (λ u. expr next) (next Always))
    c.some_of.result c.some_of.new.self c.some_of.ensures.read
