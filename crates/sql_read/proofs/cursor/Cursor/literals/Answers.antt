use Rattle.std.proofs.Common.{◌∙◌, sym, true, false, Err, arith}
use Rattle.std.proofs.lemmas.Result.{err_from_is_err_and}
use Rattle.mt_values.specs.declared.token.Symbol.TheVariants as symbol
use Rattle.mt_values.specs.Grammar.{is_symbol, list_of, literal}
use Rattle.sql_read.specs.Reads.{Skips}
use Rattle.sql_read.proofs.Takes.{literal_takes}
use Rattle.sql_read.proofs.Listed.{items_from, items_next, items_stop, Reads_along}
use Rattle.sql_read.proofs.cursor.Cursor.literals.Goals as goal

pub returns-in_err-literal-clause-read : goal.returns-in_err-literal-clause-read
returns-in_err-literal-clause-read c =
    let p = err_from_is_err_and c.from_residual.result c.from_residual.ensures.1 in
    rw (p.1, p.2)
    (Reads_along (items_from literal c.literals.literals) (list_of literal) c.literals.self c.args.self.now (Err c.in_err-literal.field-0.0) c.literal.new.self c.literals.invariant.0
    (items_stop literal literal_takes c.literals.literals c.literals.self c.in_err-literal.field-0.0 c.literal.new.self c.in_err-literal.ensures.read))

pub returns-then-not-skip-clause-read : goal.returns-then-not-skip-clause-read
returns-then-not-skip-clause-read c =
    let none : Skips (is_symbol symbol.Comma) c.literal.new.self false c.skip.new.self = rw c.if-not-skip.true at c.skip.ensures.way in
    rw c.in_ok-push.ensures.ok
    (λ next.
    sym (c.literals.invariant.0 next)
    ∙ items_next literal literal_takes c.literals.literals c.literals.self c.literal.new.self c.in_ok-literal.literal c.in_ok-literal.ensures.read false c.skip.new.self none next)

pub returns-then-not-skip-clause-less : goal.returns-then-not-skip-clause-less
returns-then-not-skip-clause-less c = omega (arith, c.literals.invariant.1, c.in_ok-literal.ensures.less, c.skip.ensures.no_more)

pub literals-preserved : goal.literals-preserved
literals-preserved c =
    let comma : Skips (is_symbol symbol.Comma) c.literal.new.self true c.skip.new.self = rw c.if-not-skip.false at c.skip.ensures.way in
    rw c.in_ok-push.ensures.ok (
      λ next.
          sym (items_next literal literal_takes c.literals.literals c.literals.self c.literal.new.self c.in_ok-literal.literal c.in_ok-literal.ensures.read true c.skip.new.self comma next)
          ∙ c.literals.invariant.0 next,
      omega (arith, c.literals.invariant.1, c.in_ok-literal.ensures.less, c.skip.ensures.no_more),
    )
