-- What the script itself gives a statement to be refused for (docs/definitions-of-runs.md, "Runs").
use Rattle.std.specs.Prelude.{◌≡◌, ◌⊎◌, List, [], ◌∷◌, ◌++◌, length, Result, Ok, Err}
use Rattle.mt_values.specs.declared.command.Command.{Command}
use Rattle.mt_values.specs.Script.{Item}
use Rattle.mt_model.specs.declared.refusal.Refusal.{Refusal}
use Rattle.mt_model.specs.Commands.{commands_of}
use Rattle.mt_model.specs.History.{History, entered}
use Rattle.mt_model.specs.Session.{TurnRefuses}

-- After a history a statement meets a cause to be refused for what the script says: by its text, its table or its data, or at the turn of a command,
-- once those before it were accepted. How many parts a partition has is left open: merges leave at most one an INSERT (docs/definitions-of-runs.md, "Runs").
abbrev pub MeetsCause : History → Item → Type 0
MeetsCause h (Err why) = Unit {0}
MeetsCause h (Ok s) =
    ((why : Refusal) × (commands_of h s ≡ Err why))
    ⊎ ((done : List Command) × (next : Command) × (rest : List Command) × (why : Refusal) × (commands_of h s ≡ Ok (done ++ next ∷ rest)) × TurnRefuses (entered h 0 done) (length done) next why)

-- the commands, where nothing refuses them (docs/definitions-of-runs.md, "Runs")
abbrev pub commands_or_none : Result (List Command) Refusal → List Command
commands_or_none (Ok commands) = commands
commands_or_none (Err why) = []

-- the commands that a statement gives after a history, where nothing refuses it (docs/definitions-of-runs.md, "Runs")
abbrev pub given : History → Item → List Command
given h (Ok s) = commands_or_none (commands_of h s)
given h (Err why) = []

-- Statements run after a history, each after the commands of those before it, and none of them meets a cause to be refused (docs/definitions-of-runs.md, "Runs").
abbrev pub NoneMeetsCause : History → List Item → Type 0
NoneMeetsCause h [] = Unit {0}
NoneMeetsCause h (s ∷ ss) = (MeetsCause h s → ⊥) × NoneMeetsCause (entered h 0 (given h s)) ss
