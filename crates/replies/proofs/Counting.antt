-- What counts of faults foresee, and the replies that they allow.
use Rattle.std.proofs.Common.{◌≡◌, Bool, true, false, ℕ, ◌+◌, ◌-◌, ◌^◌, ◌<◌, ◌≤◌, List, min, refl, sym, ap, ◌∙◌, inl, inr, arith}
use Rattle.mt_outside.specs.declared.disk.DiskError.{DiskError}
use Rattle.mt_outside.specs.declared.disk.DiskError.TheVariants as failure
use Rattle.mt_outside.specs.Causes.{Rose}
use Rattle.mt_model.specs.declared.refusal.Bound.TheVariants as bound
use Rattle.mt_model.specs.declared.refusal.Refusal.TheVariants as refusal
use Rattle.mt_model.specs.Outside.{HasRisen, LevelFailed, Outside, ReadOrStageFailed, TurnFailed}
use Rattle.mt_model.specs.Refusals.{refusal_line}
use Rattle.replies.specs.Foreseen.{Foresees, is_unsettled}
use Rattle.replies.specs.Lines.{IsLineOfStage}

-- counts never fall, and a part of the greatest level stays: what a later state foresees an earlier one does too
pub foresees_before : {full fuller : Bool} (opened disk later arm more : ℕ) (n : Outside) → disk ≤ later → arm ≤ more → (full ≡ true → fuller ≡ true) → Foresees opened later more fuller n → Foresees opened disk arm full n
foresees_before opened disk later arm more n low less kept f = record {
  opened_is = f.opened_is;
  later = let high = f.later in omega arith;
  risen = λ some. f.risen (omega arith);
  stays = λ is. f.stays (kept is);
}

-- a count that rose is some
pub some_rose : (before now : ℕ) → Rose before now → 0 < now
some_rose before now rose = omega arith

-- a count that rose above the one at opening
pub risen_by : {full : Bool} (opened before now disk arm : ℕ) (n : Outside) → opened ≤ before → Rose before now → now ≤ disk → Foresees opened disk arm full n → HasRisen n n.ended
risen_by opened before now disk arm n low rose high f = let is = f.opened_is in let later = f.later in omega arith

pub stage_failed : {full : Bool} (opened disk arm before : ℕ) (reply : List ℕ) (n : Outside) → Rose before arm → reply ≡ refusal_line refusal.Failed → Foresees opened disk arm full n → ReadOrStageFailed n reply
stage_failed opened disk arm before reply n rose is f = (is, f.risen (some_rose before arm rose))

pub commit_failed : {full : Bool} (opened disk arm before accepted : ℕ) (reply : List ℕ) (n : Outside) → opened ≤ before → Rose before disk → reply ≡ refusal_line (refusal.Unsettled accepted) → Foresees opened disk arm full n → TurnFailed n accepted reply
commit_failed opened disk arm before accepted reply n low rose is f = inl (is, risen_by opened before disk disk arm n low rose (omega arith) f)

pub was_stopped : {full : Bool} (opened disk arm now accepted : ℕ) (reply : List ℕ) (n : Outside) → opened < now → now ≤ disk → reply ≡ refusal_line (refusal.Stopped opened now accepted) → Foresees opened disk arm full n → TurnFailed n accepted reply
was_stopped opened disk arm now accepted reply n low high is f =
    let at = f.opened_is in
    let later = f.later in
    inr (now, (λ alone. omega arith), omega arith, omega arith, is ∙ ap (λ o. refusal_line (refusal.Stopped o now accepted)) (sym at))

-- a part of the greatest level stands now
pub level_failed : (opened disk arm : ℕ) (reply : List ℕ) (n : Outside) → reply ≡ refusal_line (refusal.Past bound.Levels) → Foresees opened disk arm true n → LevelFailed n reply
level_failed opened disk arm reply n is f = (is, f.stays refl)

-- a count that rose is not the one at opening
pub not_as_opened : (opened before now : ℕ) → opened ≤ before → opened < 2 ^ 64 - 1 → Rose before now → now ≡ opened → ⊥
not_as_opened opened before now low below rose same = absurd (omega arith)

-- some counts agree with any state
pub some_counts : (opened disk arm : ℕ) (full : Bool) → (n : Outside) × Foresees opened disk arm full n
some_counts opened disk arm full = (
  record { opened = opened; ended = opened + 1 + disk; full = full; company = false },
  record { opened_is = refl; later = omega arith; risen = λ some. omega arith; stays = λ is. is },
)

-- a count that rose when an arm was given back
pub risen_back : (opened before now : ℕ) → opened ≤ before → Rose before now → min (opened + 1) (2 ^ 64 - 1) ≤ now
risen_back opened before now low rose = omega arith

-- a stage that was not sealed, or parts that were not read
pub line_of_stage : {full : Bool} (opened disk arm before : ℕ) (error : DiskError) (reply : List ℕ) (n : Outside) → IsLineOfStage error reply → (error ≡ failure.Fault → Rose before arm) → Foresees opened disk arm full n → ReadOrStageFailed n reply
line_of_stage opened disk arm before failure.NoMemory reply n line rose f = absurd line
line_of_stage opened disk arm before failure.Fault reply n line rose f = stage_failed opened disk arm before reply n (rose refl) line f

-- its reply does not say that a commit failed
pub stage_is_settled : (error : DiskError) (reply : List ℕ) → IsLineOfStage error reply → is_unsettled reply ≡ false
stage_is_settled failure.NoMemory reply line = absurd line
stage_is_settled failure.Fault reply line = ap is_unsettled line
