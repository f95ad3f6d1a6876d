use Rattle.std.proofs.Common.{◌+◌, ◌∙◌, sym, take, drop}
use Rattle.std.proofs.lemmas.List.{take_rest}
use Rattle.sql_read.proofs.Sections.{completed_insert}
use Rattle.sql_read.proofs.script.first_section.Goals as goal

pub returns-then-takes_data-clause-said : goal.returns-then-takes_data-clause-said
returns-then-takes_data-clause-said c =
    let said = rw take_rest at c.inserted.ensures.said in
    let rest = rw take_rest at (c.inserted.ensures.rest c.args.script.now (sym (take_rest c.args.script.now (c.in-Some.end + 1)))) in
    completed_insert c.args.script.now (take c.in-Some.end c.args.script.now) (drop (c.in-Some.end + 1) c.args.script.now) _ c.inserted.result.used
    c.in-Some.ensures.parts (sym c.takes_data.ensures ∙ c.if-takes_data.true) said rest
