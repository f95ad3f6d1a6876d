use Rattle.std.proofs.Common.{◌∙◌, sym}
use Rattle.sql_read.proofs.EngineWays.{reads_aggregating, reads_collapsing, reads_plain, reads_replacing, reads_summing, reads_versioned}
use Rattle.sql_read.proofs.cursor.Cursor.engine.Goals as goal

pub returns-then-at_exactly : goal.returns-then-at_exactly
returns-then-at_exactly c =
    reads_replacing c.args.self.now c.replacing_engine.result c.replacing_engine.new.self (sym c.at_exactly.ensures ∙ c.if-at_exactly.true) c.replacing_engine.ensures

pub returns-then-at_exactly-2 : goal.returns-then-at_exactly-2
returns-then-at_exactly-2 c =
    reads_summing c.args.self.now c.summing_engine.result c.summing_engine.new.self (sym c.at_exactly.ensures ∙ c.if-at_exactly.false)
    (sym c.at_exactly-2.ensures ∙ c.if-at_exactly-2.true) c.summing_engine.ensures

pub returns-then-at_exactly-3 : goal.returns-then-at_exactly-3
returns-then-at_exactly-3 c =
    reads_collapsing c.args.self.now c.collapsing_engine.result c.collapsing_engine.new.self (sym c.at_exactly.ensures ∙ c.if-at_exactly.false)
    (sym c.at_exactly-2.ensures ∙ c.if-at_exactly-2.false) (sym c.at_exactly-3.ensures ∙ c.if-at_exactly-3.true) c.collapsing_engine.ensures

pub returns-then-at_exactly-4 : goal.returns-then-at_exactly-4
returns-then-at_exactly-4 c =
    reads_versioned c.args.self.now c.versioned_engine.result c.versioned_engine.new.self (sym c.at_exactly.ensures ∙ c.if-at_exactly.false)
    (sym c.at_exactly-2.ensures ∙ c.if-at_exactly-2.false) (sym c.at_exactly-3.ensures ∙ c.if-at_exactly-3.false) (sym c.at_exactly-4.ensures ∙ c.if-at_exactly-4.true) c.versioned_engine.ensures

pub returns-then-at_exactly-5 : goal.returns-then-at_exactly-5
returns-then-at_exactly-5 c =
    reads_aggregating c.args.self.now c.aggregating_engine.result c.aggregating_engine.new.self (sym c.at_exactly.ensures ∙ c.if-at_exactly.false)
    (sym c.at_exactly-2.ensures ∙ c.if-at_exactly-2.false) (sym c.at_exactly-3.ensures ∙ c.if-at_exactly-3.false) (sym c.at_exactly-4.ensures ∙ c.if-at_exactly-4.false)
    (sym c.at_exactly-5.ensures ∙ c.if-at_exactly-5.true) c.aggregating_engine.ensures

pub returns : goal.returns
returns c =
    reads_plain c.args.self.now c.plain_engine.result c.plain_engine.new.self (sym c.at_exactly.ensures ∙ c.if-at_exactly.false)
    (sym c.at_exactly-2.ensures ∙ c.if-at_exactly-2.false) (sym c.at_exactly-3.ensures ∙ c.if-at_exactly-3.false) (sym c.at_exactly-4.ensures ∙ c.if-at_exactly-4.false)
    (sym c.at_exactly-5.ensures ∙ c.if-at_exactly-5.false) c.plain_engine.ensures
