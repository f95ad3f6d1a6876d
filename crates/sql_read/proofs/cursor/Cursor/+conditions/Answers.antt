use Rattle.std.proofs.Common.{◌∙◌, ◌-◌, sym, true, false, refl, arith, codes}
use Rattle.mt_values.specs.declared.token.Symbol.TheVariants as symbol
use Rattle.mt_values.specs.Conditions.{And, Not, Or}
use Rattle.mt_values.specs.Grammar.{all_of, holding, is_word, joined_from, opened, some_of, term_within, the}
use Rattle.mt_values.specs.Readers.{expect}
use Rattle.mt_values.specs.Tokens.{is_keyword}
use Rattle.sql_read.specs.Reads.{Skips}
use Rattle.sql_read.proofs.Chains.{reads_rest, reads_stop}
use Rattle.sql_read.proofs.Joined.{joined_more, joined_over, joined_stops}
use Rattle.sql_read.proofs.Takes.{all_of_takes, term_takes}
use Rattle.sql_read.proofs.Terms.{term_holds, term_is_deep, term_opens}
use Rattle.sql_read.proofs.cursor.Cursor.+conditions.Goals as goal

-- ---- term

pub term-returns-then-not-opens-clause-read : goal.term-returns-then-not-opens-clause-read
term-returns-then-not-opens-clause-read t c =
    reads_rest (term_within c.args.within) holding c.args.self.now c.args.self.now
    (λ next. term_holds next c.args.self.now c.args.within (sym c.opens.ensures ∙ c.if-not-opens.true))
    c.holding.result c.holding.new.self c.holding.ensures.read

pub term-returns-then-within-eq0-clause-read : goal.term-returns-then-within-eq0-clause-read
term-returns-then-within-eq0-clause-read t c = λ next. term_is_deep next c.args.self.now c.args.within (omega arith) (sym c.opens.ensures ∙ c.if-not-opens.false)

pub term-returns-clause-read : goal.term-returns-clause-read
term-returns-clause-read t c =
    reads_rest (term_within c.args.within) (opened (term_within (c.args.within - 1))) c.args.self.now c.args.self.now
    (λ next. term_opens next c.args.self.now c.args.within (c.args.within - 1) (omega arith) (sym c.opens.ensures ∙ c.if-not-opens.false))
    c.opened.result c.opened.new.self c.opened.ensures.read

-- ---- all_of

pub all_of-terms-init : goal.all_of-terms-init
all_of-terms-init t c = (λ next. sym (c.in_ok-found.ensures.read (λ x. joined_from (codes "AND") And (term_within c.args.within) x next)), omega (arith, c.in_ok-found.ensures.low), c.in_ok-found.ensures.less)

pub all_of-returns-in_err-found-clause-read : goal.all_of-returns-in_err-found-clause-read
all_of-returns-in_err-found-clause-read t c =
    reads_stop (all_of (term_within c.args.within)) (term_within c.args.within) (λ next x. joined_from (codes "AND") And (term_within c.args.within) x next) c.args.self.now c.args.self.now
    (λ next. refl)
    c.in_err-found.field-0.0 c.term.new.self c.in_err-found.ensures.read _ c.from_residual.ensures.1

pub all_of-returns-in_err-more-clause-read : goal.all_of-returns-in_err-more-clause-read
all_of-returns-in_err-more-clause-read t c =
    let comes : Skips (is_word (is_keyword (codes "AND"))) c.terms.self true c.skip_keyword.new.self = rw c.terms-test.true at c.skip_keyword.ensures.way in
    joined_stops (codes "AND") And (term_within c.args.within) (term_takes c.args.within) c.terms.found c.args.self.now c.terms.self c.terms.invariant.0 c.skip_keyword.new.self comes c.term-in-terms.new.self
    c.in_err-more.field-0.0 c.in_err-more.ensures.read _ c.from_residual-in_err-more.ensures.1

pub all_of-terms-preserved : goal.all_of-terms-preserved
all_of-terms-preserved t c =
    let comes : Skips (is_word (is_keyword (codes "AND"))) c.terms.self true c.skip_keyword.new.self = rw c.terms-test.true at c.skip_keyword.ensures.way in
    rw c.in_ok-both.ensures (
      joined_more (codes "AND") And (term_within c.args.within) (term_takes c.args.within) c.terms.found c.args.self.now c.terms.self c.terms.invariant.0 c.skip_keyword.new.self comes c.term-in-terms.new.self c.in_ok-more.more c.in_ok-more.ensures.read,
      omega (arith, c.terms.invariant.1, c.in_ok-more.ensures.low),
      omega (arith, c.terms.invariant.2, c.skip_keyword.ensures.no_more, c.in_ok-more.ensures.less),
    )

pub all_of-returns-clause-read : goal.all_of-returns-clause-read
all_of-returns-clause-read t c =
    let none : Skips (is_word (is_keyword (codes "AND"))) c.terms.self false c.skip_keyword.new.self = rw c.terms-test.false at c.skip_keyword.ensures.way in
    joined_over (codes "AND") And (term_within c.args.within) (term_takes c.args.within) c.terms.found c.args.self.now c.terms.self c.terms.invariant.0 c.skip_keyword.new.self none

-- ---- some_of

pub some_of-parts-init : goal.some_of-parts-init
some_of-parts-init t c = (λ next. sym (c.in_ok-found.ensures.read (λ x. joined_from (codes "OR") Or (all_of (term_within c.args.within)) x next)), omega (arith, c.in_ok-found.ensures.low), c.in_ok-found.ensures.less)

pub some_of-returns-in_err-found-clause-read : goal.some_of-returns-in_err-found-clause-read
some_of-returns-in_err-found-clause-read t c =
    reads_stop (some_of (term_within c.args.within)) (all_of (term_within c.args.within)) (λ next x. joined_from (codes "OR") Or (all_of (term_within c.args.within)) x next) c.args.self.now c.args.self.now
    (λ next. refl)
    c.in_err-found.field-0.0 c.all_of.new.self c.in_err-found.ensures.read _ c.from_residual.ensures.1

pub some_of-returns-in_err-more-clause-read : goal.some_of-returns-in_err-more-clause-read
some_of-returns-in_err-more-clause-read t c =
    let comes : Skips (is_word (is_keyword (codes "OR"))) c.parts.self true c.skip_keyword.new.self = rw c.parts-test.true at c.skip_keyword.ensures.way in
    joined_stops (codes "OR") Or (all_of (term_within c.args.within)) (all_of_takes (term_within c.args.within) (term_takes c.args.within)) c.parts.found c.args.self.now c.parts.self c.parts.invariant.0 c.skip_keyword.new.self comes c.all_of-in-parts.new.self
    c.in_err-more.field-0.0 c.in_err-more.ensures.read _ c.from_residual-in_err-more.ensures.1

pub some_of-parts-preserved : goal.some_of-parts-preserved
some_of-parts-preserved t c =
    let comes : Skips (is_word (is_keyword (codes "OR"))) c.parts.self true c.skip_keyword.new.self = rw c.parts-test.true at c.skip_keyword.ensures.way in
    rw c.in_ok-either.ensures (
      joined_more (codes "OR") Or (all_of (term_within c.args.within)) (all_of_takes (term_within c.args.within) (term_takes c.args.within)) c.parts.found c.args.self.now c.parts.self c.parts.invariant.0 c.skip_keyword.new.self comes c.all_of-in-parts.new.self c.in_ok-more.more c.in_ok-more.ensures.read,
      omega (arith, c.parts.invariant.1, c.in_ok-more.ensures.low),
      omega (arith, c.parts.invariant.2, c.skip_keyword.ensures.no_more, c.in_ok-more.ensures.less),
    )

pub some_of-returns-clause-read : goal.some_of-returns-clause-read
some_of-returns-clause-read t c =
    let none : Skips (is_word (is_keyword (codes "OR"))) c.parts.self false c.skip_keyword.new.self = rw c.parts-test.false at c.skip_keyword.ensures.way in
    joined_over (codes "OR") Or (all_of (term_within c.args.within)) (all_of_takes (term_within c.args.within) (term_takes c.args.within)) c.parts.found c.args.self.now c.parts.self c.parts.invariant.0 c.skip_keyword.new.self none

-- ---- opened

pub opened-returns-in_err-negated-clause-read : goal.opened-returns-in_err-negated-clause-read
opened-returns-in_err-negated-clause-read t c =
    let comes : Skips (is_word (is_keyword (codes "NOT"))) c.args.self.now true c.skip_keyword.new.self = rw c.if-skip_keyword.true at c.skip_keyword.ensures.way in
    reads_stop (opened (term_within c.args.within)) (term_within c.args.within) (λ next d. next (Not d)) c.args.self.now c.skip_keyword.new.self
    (λ next. comes (λ u. term_within c.args.within (λ d. next (Not d))) (expect (the symbol.Open) (λ u. some_of (term_within c.args.within) (λ d. expect (the symbol.Close) (λ v. next d)))))
    c.in_err-negated.field-0.0 c.term.new.self c.in_err-negated.ensures.read _ c.from_residual.ensures.1

pub opened-returns-then-skip_keyword-clause-read : goal.opened-returns-then-skip_keyword-clause-read
opened-returns-then-skip_keyword-clause-read t c =
    let comes : Skips (is_word (is_keyword (codes "NOT"))) c.args.self.now true c.skip_keyword.new.self = rw c.if-skip_keyword.true at c.skip_keyword.ensures.way in
    rw c.in_ok-negate.ensures.ok
    (λ next.
    comes (λ u. term_within c.args.within (λ d. next (Not d))) (expect (the symbol.Open) (λ u. some_of (term_within c.args.within) (λ d. expect (the symbol.Close) (λ v. next d))))
    ∙ c.in_ok-negated.ensures.read (λ d. next (Not d)))

pub opened-returns-in_err-symbol-clause-read : goal.opened-returns-in_err-symbol-clause-read
opened-returns-in_err-symbol-clause-read t c =
    let none : Skips (is_word (is_keyword (codes "NOT"))) c.args.self.now false c.skip_keyword.new.self = rw c.if-skip_keyword.false at c.skip_keyword.ensures.way in
    reads_stop (opened (term_within c.args.within)) (expect (the symbol.Open)) (λ next u. some_of (term_within c.args.within) (λ d. expect (the symbol.Close) (λ v. next d))) c.args.self.now c.skip_keyword.new.self
    (λ next. none (λ u. term_within c.args.within (λ d. next (Not d))) (expect (the symbol.Open) (λ u. some_of (term_within c.args.within) (λ d. expect (the symbol.Close) (λ v. next d)))))
    c.in_err-symbol.field-0.0 c.symbol.new.self c.in_err-symbol.ensures.read _ c.from_residual-in_err-symbol.ensures.1

pub opened-returns-in_err-found-clause-read : goal.opened-returns-in_err-found-clause-read
opened-returns-in_err-found-clause-read t c =
    let none : Skips (is_word (is_keyword (codes "NOT"))) c.args.self.now false c.skip_keyword.new.self = rw c.if-skip_keyword.false at c.skip_keyword.ensures.way in
    reads_stop (opened (term_within c.args.within)) (some_of (term_within c.args.within)) (λ next d. expect (the symbol.Close) (λ v. next d)) c.args.self.now c.symbol.new.self
    (λ next.
    none (λ u. term_within c.args.within (λ d. next (Not d))) (expect (the symbol.Open) (λ u. some_of (term_within c.args.within) (λ d. expect (the symbol.Close) (λ v. next d))))
    ∙ c.in_ok-symbol.ensures.read (λ u. some_of (term_within c.args.within) (λ d. expect (the symbol.Close) (λ v. next d))))
    c.in_err-found.field-0.0 c.some_of.new.self c.in_err-found.ensures.read _ c.from_residual-in_err-found.ensures.1

pub opened-returns-in_err-symbol-2-clause-read : goal.opened-returns-in_err-symbol-2-clause-read
opened-returns-in_err-symbol-2-clause-read t c =
    let none : Skips (is_word (is_keyword (codes "NOT"))) c.args.self.now false c.skip_keyword.new.self = rw c.if-skip_keyword.false at c.skip_keyword.ensures.way in
    reads_stop (opened (term_within c.args.within)) (expect (the symbol.Close)) (λ next v. next c.in_ok-found.found) c.args.self.now c.some_of.new.self
    (λ next.
    none (λ u. term_within c.args.within (λ d. next (Not d))) (expect (the symbol.Open) (λ u. some_of (term_within c.args.within) (λ d. expect (the symbol.Close) (λ v. next d))))
    ∙ (c.in_ok-symbol.ensures.read (λ u. some_of (term_within c.args.within) (λ d. expect (the symbol.Close) (λ v. next d)))
    ∙ c.in_ok-found.ensures.read (λ d. expect (the symbol.Close) (λ v. next d))))
    c.in_err-symbol-2.field-0.0 c.symbol-2.new.self c.in_err-symbol-2.ensures.read _ c.from_residual-in_err-symbol-2.ensures.1

pub opened-returns-clause-read : goal.opened-returns-clause-read
opened-returns-clause-read t c =
    let none : Skips (is_word (is_keyword (codes "NOT"))) c.args.self.now false c.skip_keyword.new.self = rw c.if-skip_keyword.false at c.skip_keyword.ensures.way in
    λ next.
    none (λ u. term_within c.args.within (λ d. next (Not d))) (expect (the symbol.Open) (λ u. some_of (term_within c.args.within) (λ d. expect (the symbol.Close) (λ v. next d))))
    ∙ (c.in_ok-symbol.ensures.read (λ u. some_of (term_within c.args.within) (λ d. expect (the symbol.Close) (λ v. next d)))
    ∙ (c.in_ok-found.ensures.read (λ d. expect (the symbol.Close) (λ v. next d))
    ∙ c.in_ok-symbol-2.ensures.read (λ v. next c.in_ok-found.found)))
