-- The turns of an INSERT: one for each partition of its rows, in a turn of its own (docs/definitions-of-runs.md, "Turns").
use Rattle.std.specs.Prelude.{◌≡◌, ℕ, List, map, reverse, Result, Ok, Err}
use Rattle.mt_base.specs.declared.memory.NoMemory.{NoMemory}
use Rattle.mt_values.specs.declared.command.Command.{Command}
use Rattle.mt_values.specs.declared.schema.Schema.{Schema}
use Rattle.replies.specs.mt_model.History.{IsInsertInto}
use Rattle.merge_workers.specs.shared_store.root_commits.Commits.{IsSealedOf, insert_into, insert_of_block, partition_of_block}
use Rattle.session.specs.declared.sealing.SealedBlock.{SealedBlock}
use Rattle.session.specs.declared.turns.TurnReply.{TurnReply}
use Rattle.session.specs.declared.turns.TurnReply.TheVariants.{Accepted, Refused}

-- ---- sealed blocks

-- parts in the order of their turns: the last one of a list has the first turn (docs/definitions-of-runs.md, "Turns")
abbrev pub in_turn : {S : Type 0} → List (SealedBlock S) → List (SealedBlock S)
in_turn parts = reverse parts

-- the block is rows of one partition of a table with this schema (docs/definitions.md, "Partitions")
abbrev pub IsRowsFor : {S : Type 0} → Schema → List ℕ → SealedBlock S → Type 0
IsRowsFor schema table s = IsInsertInto schema (insert_into table (partition_of_block schema s.block) s.block)

-- what was sealed is the block's part (docs/formats.md, "Parts")
abbrev pub IsPartFor : {S : Type 0} → Schema → SealedBlock S → Type 0
IsPartFor schema s = IsSealedOf schema s.block s.part.sealed.files s.part.loaded

-- no call of its stage failed (docs/architecture.md, "Counts of faults")
abbrev pub NoneFailed : {S : Type 0} → SealedBlock S → Type 0
NoneFailed s = s.part.sealed.failed ≡ 0

-- the command that adds the block to its partition (docs/definitions-of-runs.md, "Commands of statements")
abbrev pub part_command : {S : Type 0} → Schema → List ℕ → SealedBlock S → Command
part_command schema table s = insert_of_block table (partition_of_block schema s.block) s.block

-- the commands of parts, in the order of their turns (docs/definitions-of-runs.md, "Turns")
abbrev pub commands_in_turn : {S : Type 0} → Schema → List ℕ → List (SealedBlock S) → List Command
commands_in_turn schema table parts = map (part_command schema table) (in_turn parts)

-- ---- one turn

-- the reply of a turn, whether its command was accepted or not (docs/replies.md)
abbrev pub reply_in : TurnReply → List ℕ
reply_in (Accepted reply) = reply
reply_in (Refused reply) = reply

abbrev pub replied : Result TurnReply NoMemory → Result (List ℕ) NoMemory
replied (Ok x) = Ok (reply_in x)
replied (Err why) = Err why
