use Rattle.std.proofs.Common.{◌∙◌, sym, true, false}
use Rattle.mt_values.specs.declared.token.Symbol.TheVariants as symbol
use Rattle.mt_values.specs.Grammar.{one_name, is_symbol}
use Rattle.sql_read.specs.Reads.{Skips}
use Rattle.sql_read.proofs.Listed.{one_name_takes, items_next}
use Rattle.sql_read.proofs.cursor.Cursor.names.Goals as goal

pub names-preserved : goal.names-preserved
names-preserved c =
    let comma : Skips (is_symbol symbol.Comma) c.name.new.self true c.skip.new.self = rw c.if-not-skip.false at c.skip.ensures.way in
    rw c.in_ok-push.ensures.ok
    (λ next.
    sym (items_next one_name one_name_takes c.names.names c.names.self c.name.new.self c.in_ok-name.name c.in_ok-name.ensures.read true c.skip.new.self comma next)
    ∙ c.names.invariant next)

pub returns-then-not-skip : goal.returns-then-not-skip
returns-then-not-skip c =
    let none : Skips (is_symbol symbol.Comma) c.name.new.self false c.skip.new.self = rw c.if-not-skip.true at c.skip.ensures.way in
    rw c.in_ok-push.ensures.ok
    (λ next.
    sym (c.names.invariant next)
    ∙ items_next one_name one_name_takes c.names.names c.names.self c.name.new.self c.in_ok-name.name c.in_ok-name.ensures.read false c.skip.new.self none next)
