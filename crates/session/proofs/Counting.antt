-- What a reply tells of the disk's count of faults and of levels.
use Rattle.std.proofs.Common.{◌≡◌, ◌==◌, ℕ, ◌+◌, ◌<◌, ◌≤◌, Bool, true, false, cond, List, Option, Some, None, inl, inr, nat_lt, refl, sym, ap, ◌∙◌, subst, arith, eqb-true}
use Rattle.std.proofs.lemmas.Bool.{false≢true}
use Rattle.std.proofs.lemmas.Bool.Decides.{nat_tests}
use Rattle.mt_outside.specs.Files.{Files}
use Rattle.replies.specs.mt_model.declared.refusal.Bound.TheVariants as bound
use Rattle.replies.specs.mt_model.declared.refusal.Refusal.TheVariants as refusal
use Rattle.replies.specs.mt_model.History.{History}
use Rattle.replies.specs.mt_model.Refusals.{code_of, refusal_line}
use Rattle.replies.specs.Foreseen.{Met}
use Rattle.merge_workers.specs.shared_store.durable_commit.declared.causes.Limit.TheVariants as limit
use Rattle.merge_workers.specs.shared_store.durable_commit.declared.causes.Refused.{Refused}
use Rattle.merge_workers.specs.shared_store.durable_commit.declared.causes.Refused.TheVariants as refused
use Rattle.merge_workers.specs.shared_store.durable_commit.Commits.{stopped_by}
use Rattle.merge_workers.specs.shared_store.root_commits.Commits.{IsCause}
use Rattle.merge_workers.specs.shared_store.root_store.declared.store.CoreStore.{CoreStore}
use Rattle.merge_workers.specs.shared_store.Sharing.{AtOpening}
use Rattle.merge_workers.specs.shared_store.Stood.{Premise}
use Rattle.merge_workers.specs.shared_store.Tallies.{Tally, levels_in}
use Rattle.merge_workers.specs.shared_store.Turns.{CountsTurn}
use Rattle.session.specs.Answers.{CountsAt, code_in, met_with}
use Rattle.session.specs.Stops.{IsLineOf}

-- ---- where the disk's count rose in no turn, and no limit of levels was counted

-- a number is none of the two
pub other_code : (reply : List ℕ) (m k : ℕ) → code_of reply ≡ m → (m == k) ≡ false → code_of reply ≡ k → ⊥
other_code reply m k code other is = false≢true (sym other ∙ ap (λ (x : ℕ). x == k) (sym code ∙ is) ∙ same k)
  where
    same : (k : ℕ) → (k == k) ≡ true
    same k = grind (arith, nat_tests)

module _ (old new : Met) (disk : new.disk ≡ old.disk) (levels : new.levels ≡ old.levels) where
  pub counts_calm : (reply : Option (List ℕ)) → (code_in reply ≡ 16 → ⊥) → (code_in reply ≡ 17 → ⊥) → CountsAt old new reply
  counts_calm reply other more = record { unsettled = λ is. absurd (other is); stopped = λ is. absurd (more is); calm = λ no. disk; levels = inl levels }

  pub counts_none : CountsAt old new None
  counts_none = counts_calm None (λ is. cc) (λ is. cc)

  -- by its number
  pub counts_coded : (reply : List ℕ) (m : ℕ) → code_of reply ≡ m → (m == 16) ≡ false → (m == 17) ≡ false → CountsAt old new (Some reply)
  counts_coded reply m is other more = counts_calm (Some reply) (other_code reply m 16 is other) (other_code reply m 17 is more)

-- a reply that tells of neither, where there was none
pub counts_of_none : (old new : Met) → CountsAt old new None → (reply : List ℕ) (m : ℕ) → code_of reply ≡ m → (m == 16) ≡ false → (m == 17) ≡ false → CountsAt old new (Some reply)
counts_of_none old new c reply m is other more =
    let levels : new.levels ≡ old.levels = elim c.levels [ inl same ↦ same | inr (bad, up) ↦ cc ] in
    counts_coded old new (c.calm (λ no. cc)) levels reply m is other more

-- what comes after turns in which the count did not rise
pub counts_then : (old mid new : Met) (reply : Option (List ℕ)) → CountsAt old mid None → mid.opened ≡ old.opened → CountsAt mid new reply → CountsAt old new reply
counts_then old mid new reply first same m =
    let disk : mid.disk ≡ old.disk = first.calm (λ is. cc) in
    let levels : mid.levels ≡ old.levels = elim first.levels [ inl is ↦ is | inr (bad, more) ↦ cc ] in
    record {
      unsettled = λ is. let u = m.unsettled is in (sym disk ∙ (u.0 ∙ same), subst (λ (n : ℕ). n < new.disk) disk u.1);
      stopped = m.stopped;
      calm = λ no. m.calm no ∙ disk;
      levels = elim m.levels [ inl is ↦ inl (is ∙ levels) | inr (told, more) ↦ inr (told, more ∙ ap (λ (n : ℕ). n + 1) levels) ];
    }

-- ---- a turn

module _ {F : Type 0} (files_of : F → Option Files) (given : Premise → Type 0) (before : History) (o : AtOpening) (found : History) (whole calls out : ℕ) (none : calls ≡ 0) where
  -- the disk did not fail in it
  pub turn_calm : (cause : Option Refused) (Shows : CoreStore F → ℕ → Type 0) (old new : Tally) → CountsTurn files_of given before o found whole calls out cause Shows old new → (cause ≡ Some refused.Disk → ⊥) → new.faults ≡ old.faults
  turn_calm cause Shows old new t other = let rise = t.counted.calm none other in let has = ap (λ (x : Tally). x.faults) t.counted.counted in omega (arith, rise, has)

  -- it was not refused
  pub counts_done : (Shows : CoreStore F → ℕ → Type 0) (old new : Tally) (t : CountsTurn files_of given before o found whole calls out None Shows old new) (arm later : ℕ)
      → ((met_with o whole new later).disk ≡ (met_with o whole old arm).disk) × ((met_with o whole new later).levels ≡ (met_with o whole old arm).levels)
  counts_done Shows old new t arm later =
      let faults = turn_calm None Shows old new t (λ is. cc) in
      let has = ap (λ (x : Tally). x.levels) t.counted.counted in
      (omega (arith, faults), omega (arith, has))

  -- it was
  module _ (cause : Refused) (Shows : CoreStore F → ℕ → Type 0) (old new : Tally) (t : CountsTurn files_of given before o found whole calls out (Some cause) Shows old new) (arm later : ℕ)
      (shown : (opened count : ℕ) → cause ≡ refused.Stopped opened count → (opened ≡ o.failed) × (count ≡ t.turn.failed) × (o.failed < t.turn.failed)) (unrisen : cause ≡ refused.Disk → t.turn.failed ≡ t.turn.store.opened) where
    abbrev was : Met
    was = met_with o whole old arm

    abbrev now : Met
    now = met_with o whole new later

    same_faults : (c : Refused) → cause ≡ c → (c ≡ refused.Disk → ⊥) → new.faults ≡ old.faults
    same_faults c is other = turn_calm (Some cause) Shows old new t (λ bad. other (let same : cause ≡ refused.Disk = cc in sym is ∙ same))

    same_disk : (c : Refused) → cause ≡ c → (c ≡ refused.Disk → ⊥) → now.disk ≡ was.disk
    same_disk c is other = let faults = same_faults c is other in omega (arith, faults)

    levels_up : (c : Refused) → cause ≡ c → now.levels ≡ was.levels + levels_in (Some c)
    levels_up c is = ap (λ (x : Tally). x.levels) t.counted.counted ∙ ap (λ (r : Refused). old.levels + levels_in (Some r)) is

    same_levels : (c : Refused) → cause ≡ c → levels_in (Some c) ≡ 0 → now.levels ≡ was.levels
    same_levels c is zero = let up = levels_up c is in omega (arith, up, zero)

    other : (c : Refused) (reply : List ℕ) (m : ℕ) → cause ≡ c → (c ≡ refused.Disk → ⊥) → levels_in (Some c) ≡ 0 → code_of reply ≡ m → (m == 16) ≡ false → (m == 17) ≡ false → CountsAt was now (Some reply)
    other c reply m is calm zero code first second = counts_coded was now (same_disk c is calm) (same_levels c is zero) reply m code first second

    -- the count was the one at opening, and rose
    unsettled : cause ≡ refused.Disk → (was.disk ≡ was.opened) × (was.disk < now.disk)
    unsettled is =
        let x = t.turn in
        let at : x.failed ≡ o.failed = unrisen is ∙ x.opened_is in
        let low = x.since in
        let below = x.below in
        let met = x.met in
        let up = t.counted.rose (ap (λ (c : Refused). Some c) is) in
        let has = ap (λ (x : Tally). x.faults) t.counted.counted in
        (omega (arith, at, low, met), omega (arith, at, below, up, has))

    disk_counts : cause ≡ refused.Disk → (accepted : ℕ) (reply : List ℕ) → reply ≡ refusal_line (refusal.Unsettled accepted) → CountsAt was now (Some reply)
    disk_counts is accepted reply line =
        let code : code_of reply ≡ 16 = ap code_of line in
        record {
          unsettled = λ _. unsettled is;
          stopped = λ bad. absurd (other_code reply 16 17 code refl bad);
          calm = λ no. absurd (no code);
          levels = inl (same_levels refused.Disk is refl);
        }

    stopped_counts : (opened count : ℕ) → cause ≡ refused.Stopped opened count → (accepted : ℕ) (reply : List ℕ) → reply ≡ refusal_line (refusal.Stopped opened count accepted) → CountsAt was now (Some reply)
    stopped_counts opened count is accepted reply line =
        let code : code_of reply ≡ 17 = ap code_of line in
        let s = shown opened count is in
        let disk : now.disk ≡ was.disk = same_disk (refused.Stopped opened count) is (λ bad. cc) in
        let parts : new.parts ≡ old.parts = ap (λ (x : Tally). x.parts) t.counted.counted in
        let line_is : reply ≡ refusal_line (refusal.Stopped o.failed t.turn.failed accepted) = line ∙ ap (λ (n : ℕ). refusal_line (refusal.Stopped n count accepted)) s.0 ∙ ap (λ (n : ℕ). refusal_line (refusal.Stopped o.failed n accepted)) s.1 in
        record {
          unsettled = λ bad. absurd (other_code reply 17 16 code refl bad);
          stopped = λ _. (
            t.turn.failed,
            accepted,
            (subst (λ (n : ℕ). n ≤ t.turn.failed) (sym disk) t.turn.met, λ alone. t.turn.all (sym parts ∙ eqb-true new.parts whole alone) ∙ sym disk),
            s.2,
            ap (λ (r : List ℕ). Some r) line_is,
          );
          calm = λ no. disk;
          levels = inl (same_levels (refused.Stopped opened count) is refl);
        }

    levels_counts : cause ≡ refused.Limit limit.Levels → (reply : List ℕ) → reply ≡ refusal_line (refusal.Past bound.Levels) → CountsAt was now (Some reply)
    levels_counts is reply line =
        let code : code_of reply ≡ 12 = ap code_of line in
        record {
          unsettled = λ bad. absurd (other_code reply 12 16 code refl bad);
          stopped = λ bad. absurd (other_code reply 12 17 code refl bad);
          calm = λ no. same_disk (refused.Limit limit.Levels) is (λ bad. cc);
          levels = inr (ap (λ (r : List ℕ). Some r) line, levels_up (refused.Limit limit.Levels) is);
        }

    pub counts_refused : (accepted : ℕ) (table reply : List ℕ) → IsLineOf accepted table cause reply → CountsAt was now (Some reply)
    counts_refused accepted table reply line = by cause refl line
      where
        by : (c : Refused) → cause ≡ c → IsLineOf accepted table c reply → CountsAt was now (Some reply)
        by refused.NoMemory is line = absurd line
        by refused.Disk is line = disk_counts is accepted reply line
        by (refused.Stopped opened count) is line = stopped_counts opened count is accepted reply line
        by refused.Exists is line = other refused.Exists reply 3 is (λ bad. cc) refl (ap code_of line) refl refl
        by (refused.Limit limit.Tables) is line = other (refused.Limit limit.Tables) reply 12 is (λ bad. cc) refl (ap code_of line) refl refl
        by (refused.Limit limit.Parts) is line = other (refused.Limit limit.Parts) reply 12 is (λ bad. cc) refl (ap code_of line) refl refl
        by (refused.Limit limit.Numbers) is line = other (refused.Limit limit.Numbers) reply 12 is (λ bad. cc) refl (ap code_of line) refl refl
        by (refused.Limit limit.Levels) is line = levels_counts is reply line

-- what a store that is not refused otherwise shows of its stop
pub stop_shown : (opened at failed : ℕ) (cause : Refused) → at ≡ opened → IsCause (stopped_by at failed) (Some cause) → (first count : ℕ) → cause ≡ refused.Stopped first count → (first ≡ opened) × (count ≡ failed) × (opened < failed)
stop_shown opened at failed cause same shown first count is = by (nat_lt at failed) refl shown
  where
    by : (b : Bool) → nat_lt at failed ≡ b → IsCause (cond b (Some (refused.Stopped at failed)) None) (Some cause) → (first ≡ opened) × (count ≡ failed) × (opened < failed)
    by true risen said =
        let both : refused.Stopped first count ≡ refused.Stopped at failed = cc in
        let one : first ≡ at = cc in
        let two : count ≡ failed = cc in
        (one ∙ same, two, grind (arith, nat_tests, risen, same))
    by false risen said = absurd (subst (λ (c : Refused). IsCause None (Some c)) is said)
