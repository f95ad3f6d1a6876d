-- What the outside may refuse a statement for (docs/definitions-of-runs.md, "Faults of the outside").
use Rattle.std.specs.Prelude.{◌≡◌, ◌⊎◌, ℕ, ◌+◌, ◌-◌, ◌≤◌, ◌^◌, min, Bool, true, false, List}
use Rattle.mt_model.specs.declared.refusal.Bound.TheVariants as bound
use Rattle.mt_model.specs.declared.refusal.Refusal.TheVariants as refusal
use Rattle.mt_model.specs.Refusals.{refusal_line}

-- What the outside did in a run: the disk's count of faults as it stood when the root was opened, and as it stands at the end; whether a part
-- has the greatest level then; and whether others ran beside, who may merge the same parts (docs/definitions-of-runs.md, "Faults of the outside").
pub record Outside : Type 0 where
  pub opened : ℕ
  pub ended : ℕ
  pub full : Bool
  pub company : Bool

-- the count is above the one at opening, or stands at its type's end (docs/definitions-of-runs.md, "Faults of the outside")
abbrev pub HasRisen : Outside → ℕ → Type 0
HasRisen n now = min (n.opened + 1) (2 ^ 64 - 1) ≤ now

-- reading parts or writing a stage failed: only where the disk's count rose in the run (docs/definitions-of-runs.md, "Faults of the outside")
abbrev pub ReadOrStageFailed : Outside → List ℕ → Type 0
ReadOrStageFailed n reply = (reply ≡ refusal_line refusal.Failed) × HasRisen n n.ended

-- the commit failed, after some of the statement's commands were accepted: only where the disk's count rose in the run (docs/definitions-of-runs.md, "Faults of the outside")
abbrev pub CommitFailed : Outside → ℕ → List ℕ → Type 0
CommitFailed n accepted reply = (reply ≡ refusal_line (refusal.Unsettled accepted)) × HasRisen n n.ended

-- The store was stopped for writing, after some of the statement's commands were accepted: the count had risen before, and has at the end. Where nobody ran
-- beside it is not below then what it was (docs/definitions-of-runs.md, "Faults of the outside").
abbrev pub WasStopped : Outside → ℕ → List ℕ → Type 0
WasStopped n accepted reply =
    (now : ℕ) × (n.company ≡ false → now ≤ n.ended) × HasRisen n n.ended × HasRisen n now
    × (reply ≡ refusal_line (refusal.Stopped n.opened now accepted))

-- in the turn of a command, after some of the statement's commands were accepted (docs/definitions-of-runs.md, "Faults of the outside")
abbrev pub TurnFailed : Outside → ℕ → List ℕ → Type 0
TurnFailed n accepted reply = CommitFailed n accepted reply ⊎ WasStopped n accepted reply

-- a part that was to be merged had the greatest level: only where a part has it at the end (docs/definitions-of-runs.md, "Faults of the outside")
abbrev pub LevelFailed : Outside → List ℕ → Type 0
LevelFailed n reply = (reply ≡ refusal_line (refusal.Past bound.Levels)) × (n.full ≡ true)

-- a part that was to be merged was being merged already, and the reply names it: only where others ran beside (docs/definitions-of-runs.md, "Faults of the outside")
abbrev pub PartBusy : Outside → List ℕ → Type 0
PartBusy n reply = (n.company ≡ true) × (part : List ℕ) × (reply ≡ refusal_line (refusal.Busy part))
