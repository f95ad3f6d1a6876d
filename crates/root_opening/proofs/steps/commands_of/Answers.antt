use Rattle.root_opening.proofs.steps.commands_of.Goals as goal

pub returns : goal.returns
returns c = cc
