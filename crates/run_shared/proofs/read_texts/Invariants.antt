-- what was read so far is what the grammar gives
use Rattle.std.proofs.Common.{All}
use Rattle.session.specs.mt_model.Written.{IsWritten}
use Rattle.run_shared.proofs.read_texts.Given as goal

abbrev pub invariant-loop-text : goal.invariant-loop-text
invariant-loop-text l = All IsWritten l.statements.items
