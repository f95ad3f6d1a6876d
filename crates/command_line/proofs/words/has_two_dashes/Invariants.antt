-- Each word that was looked at is another text.
use Rattle.std.proofs.Common.{take}
use Rattle.std.specs.List.{All}
use Rattle.command_line.specs.Words.{IsOtherText}
use Rattle.command_line.proofs.words.has_two_dashes.Given as goal

abbrev pub invariant-loop-word : goal.invariant-loop-word
invariant-loop-word l = All IsOtherText (take l.word-index l.words)
