use Rattle.std.proofs.Common.{◌∙◌, sym}
use Rattle.std.proofs.lemmas.List.{take_rest}
use Rattle.sql_read.proofs.TextParts.{ended_more, ended_here, ended_none}
use Rattle.sql_read.proofs.script.statement_end.Goals as goal

pub loop-at-preserved : goal.loop-at-preserved
loop-at-preserved c =
    let more = ended_more c.args.text.now c.loop-at.at 0 c.loop-at.place c.loop-at-test.true (sym c.ends_at.ensures ∙ c.if-ends_at.false) in
    rw (rw take_rest at c.place_behind-place.ensures) (more ∙ c.loop-at.invariant)

pub returns-then-ends_at-clause-parts : goal.returns-then-ends_at-clause-parts
returns-then-ends_at-clause-parts c =
    sym (ended_here c.args.text.now c.loop-at.at 0 c.loop-at.place c.loop-at-test.true (sym c.ends_at.ensures ∙ c.if-ends_at.true)) ∙ c.loop-at.invariant

pub returns-clause-parts : goal.returns-clause-parts
returns-clause-parts c = sym (ended_none c.args.text.now c.loop-at.at 0 c.loop-at.place c.loop-at-test.false) ∙ c.loop-at.invariant
