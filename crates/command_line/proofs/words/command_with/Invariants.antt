-- The command has the options so far.
use Rattle.std.proofs.Common.{◌≡◌, map, take}
use Rattle.clap.specs.Simple.{app_of}
use Rattle.command_line.specs.Command.{app_with}
use Rattle.command_line.proofs.words.command_with.Given as goal

abbrev pub invariant-loop-name : goal.invariant-loop-name
invariant-loop-name l = app_of l.command ≡ app_with (map (λ n. n.now) (take l.name-index l.names))
