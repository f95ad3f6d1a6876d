-- Why a command was not committed, and what is replied (docs/replies.md, "Faults").
use Rattle.std.specs.Prelude.{◌≡◌, List, ℕ, Option, Some, None}
use Rattle.replies.specs.mt_model.declared.refusal.Bound.TheVariants as bound
use Rattle.replies.specs.mt_model.declared.refusal.Refusal.{Refusal}
use Rattle.replies.specs.mt_model.declared.refusal.Refusal.TheVariants as refusal
use Rattle.replies.specs.mt_model.declared.refusal.Room.TheVariants as room
use Rattle.replies.specs.mt_model.Refusals.{refusal_line}
use Rattle.merge_workers.specs.shared_store.durable_commit.declared.causes.Limit.TheVariants as limit
use Rattle.merge_workers.specs.shared_store.durable_commit.declared.causes.Refused.{Refused}
use Rattle.merge_workers.specs.shared_store.durable_commit.declared.causes.Refused.TheVariants as refused

-- what a command on a table, or a merge of its parts, is refused for where it was not committed, after some of its statement's commands were
-- accepted; nothing for want of memory
abbrev pub refusal_of_commit : ℕ → List ℕ → Refused → Option Refusal
refusal_of_commit accepted table refused.NoMemory = None
refusal_of_commit accepted table refused.Disk = Some (refusal.Unsettled accepted)
refusal_of_commit accepted table (refused.Stopped opened now) = Some (refusal.Stopped opened now accepted)
refusal_of_commit accepted table refused.Exists = Some (refusal.TableExists table)
refusal_of_commit accepted table (refused.Limit limit.Tables) = Some (refusal.Past bound.Tables)
refusal_of_commit accepted table (refused.Limit limit.Parts) = Some (refusal.Full room.Parts accepted)
refusal_of_commit accepted table (refused.Limit limit.Numbers) = Some (refusal.Full room.Numbers accepted)
refusal_of_commit accepted table (refused.Limit limit.Levels) = Some (refusal.Past bound.Levels)

abbrev pub IsLineFor : Option Refusal → List ℕ → Type 0
IsLineFor None line = ⊥
IsLineFor (Some why) line = line ≡ refusal_line why

-- the reply where a command on a table was not committed; there is none where memory ran out
abbrev pub IsLineOf : ℕ → List ℕ → Refused → List ℕ → Type 0
IsLineOf accepted table cause line = IsLineFor (refusal_of_commit accepted table cause) line
