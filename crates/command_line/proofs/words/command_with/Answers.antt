use Rattle.command_line.proofs.Reading.{one_more}
use Rattle.command_line.proofs.words.command_with.Goals as goal

pub loop-name-preserved : goal.loop-name-preserved
loop-name-preserved c =
    one_more c.args.names.now c.loop-name.name-index _ c.loop-name.command c.in_ok-command.command c.option_named.result c.loop-name-test.true c.loop-name.invariant c.in_ok-command.ensures c.option_named.ensures.plain c.option_named.ensures.rule
