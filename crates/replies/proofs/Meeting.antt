-- What a session has met foresees, and the replies that it allows.
use Rattle.std.proofs.Common.{◌≡◌, ℕ, ◌+◌, ◌<◌, ◌≤◌, Bool, List, true, false, nat_lt, refl, sym, ap, ◌∙◌, inl, inr, arith}
use Rattle.std.proofs.lemmas.Bool.{false≢true}
use Rattle.std.proofs.lemmas.Bool.Decides.{nat_tests}
use Rattle.mt_outside.specs.Causes.{Rose}
use Rattle.mt_model.specs.declared.refusal.Bound.TheVariants as bound
use Rattle.mt_model.specs.declared.refusal.Refusal.TheVariants as refusal
use Rattle.mt_model.specs.Outside.{LevelFailed, Outside, PartBusy, ReadOrStageFailed, TurnFailed}
use Rattle.mt_model.specs.Refusals.{refusal_line}
use Rattle.replies.specs.Foreseen.{AgreesWith, Foresees, Met, MetSince}
use Rattle.replies.proofs.Counting.{some_rose}

some_above : (m : ℕ) → nat_lt 0 m ≡ true → 0 < m
some_above m is = grind (arith, nat_tests)

-- what agrees with what a session has met agrees with the counts as it knows them
pub met_foresees : (m : Met) (n : Outside) → AgreesWith m n → Foresees m.opened m.disk m.arm (nat_lt 0 m.levels) n
met_foresees m n a = record {
  opened_is = a.opened_is;
  later = a.later;
  risen = a.failed;
  stays = λ some. a.full (some_above m.levels some);
}

-- what agrees with what was met later agrees with what was met before
pub agrees_before : (old new : Met) (n : Outside) → MetSince old new → AgreesWith new n → AgreesWith old n
agrees_before old new n since a = record {
  opened_is = a.opened_is ∙ since.opened_is;
  later = let low = since.disk in let high = a.later in omega (arith, low, high);
  stopped = λ some. a.stopped (let low = since.stops in omega (arith, low, some));
  failed = λ some. a.failed (let low = since.arm in omega (arith, low, some));
  full = λ some. a.full (let low = since.levels in omega (arith, low, some));
  company = λ others. a.company (since.company others);
}

-- some outside agrees with it
pub some_agrees : (m : Met) → (n : Outside) × AgreesWith m n
some_agrees m = (
  record { opened = m.opened; ended = m.opened + 1 + m.disk; full = true; company = true },
  record {
    opened_is = refl;
    later = omega arith;
    stopped = λ some. omega arith;
    failed = λ some. omega arith;
    full = λ some. refl;
    company = λ others. refl;
  },
)

module _ (m : Met) (n : Outside) (a : AgreesWith m n) (reply : List ℕ) where
  -- a call of the arm or of a stage failed
  pub arm_failed : (before : ℕ) → Rose before m.arm → reply ≡ refusal_line refusal.Failed → ReadOrStageFailed n reply
  arm_failed before rose is = (is, a.failed (some_rose before m.arm rose))

  -- a commit failed, which the share has counted
  pub commit_counted : (accepted : ℕ) → 0 < m.stops → reply ≡ refusal_line (refusal.Unsettled accepted) → TurnFailed n accepted reply
  commit_counted accepted some is = inl (is, a.stopped some)

  -- who has no company is alone
  is_alone : n.company ≡ false → m.alone ≡ true
  is_alone none = by m.alone refl
    where
      by : (b : Bool) → m.alone ≡ b → m.alone ≡ true
      by true is = is
      by false is = absurd (false≢true (sym none ∙ a.company is))

  -- the store was stopped, which the share has counted, and who is alone knows a count that is no lower
  pub stop_counted : (now accepted : ℕ) → 0 < m.stops → m.opened < now → (m.alone ≡ true → now ≤ m.disk) → reply ≡ refusal_line (refusal.Stopped m.opened now accepted) → TurnFailed n accepted reply
  stop_counted now accepted some low high is =
      let at = a.opened_is in
      inr (
        now,
        (λ none. let below = high (is_alone none) in let later = a.later in omega (arith, below, later)),
        a.stopped some,
        omega (arith, at, low),
        is ∙ ap (λ o. refusal_line (refusal.Stopped o now accepted)) (sym at),
      )

  -- a part of the greatest level, which the share has counted
  pub level_counted : 0 < m.levels → reply ≡ refusal_line (refusal.Past bound.Levels) → LevelFailed n reply
  level_counted some is = (is, a.full some)

  -- a part is being merged: who is alone never meets one
  pub part_busy : (part : List ℕ) → m.alone ≡ false → reply ≡ refusal_line (refusal.Busy part) → PartBusy n reply
  part_busy part others is = (a.company others, part, is)
