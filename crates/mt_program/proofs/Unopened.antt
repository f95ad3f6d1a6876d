-- A run whose disk was not started, or that got no arm of it.
use Rattle.std.proofs.Common.{◌≡◌, ◌⊎◌, ◌≤◌, ◌-◌, ◌^◌, ℕ, List, Some, Err, Result, inl, inr, ap, sym, ◌∙◌, subst}
use Rattle.std.specs.Prelude.{IsErrOf}
use Rattle.mt_outside.specs.Causes.{Rose}
use Rattle.root_log.proofs.RootStoreCrashMarks.{safe_opened}
use Rattle.mt_program.specs.declared.status.Status.{Status}
use Rattle.mt_program.specs.declared.status.Status.TheVariants as status
use Rattle.mt_program.specs.Damage.{WritesDamage, damage_line}
use Rattle.mt_program.specs.Endings.{IsAnswered}
use Rattle.mt_program.specs.Promises.{IsUntouched, LeavesOfRun, OfCrashes}
use Rattle.mt_program.specs.Worlds.{World}
use Rattle.mt_program.proofs.Crashing.{nothing_of_script}
use Rattle.mt_program.proofs.Heading.{early_same, unopened_early, unopened_undamaged}

-- the status of a call that failed
pub status_is : {T : Type 0} (ended s : Status) → IsErrOf {T = T} {E = Status} (Err ended) s → ended ≡ s
status_is {T} ended s is = let same : ◌≡◌ {A = Result T Status} (Err ended) (Err s) = is in cc

pub is_status : {T : Type 0} (ended s : Status) → ended ≡ s → IsErrOf {T = T} {E = Status} (Err ended) s
is_status ended s is = ap Err is

-- what is known is as before, but for the folder that was started and the count of faults of the disk
pub record OnlyStarted (path : List ℕ) (before after : World) : Type 0 where
  pub disk : after.storage.disk ≡ before.storage.disk
  pub clock : after.storage.clock ≡ before.storage.clock
  pub annals : after.storage.annals ≡ before.storage.annals
  pub source : after.source ≡ before.source
  pub source_failed : after.source_failed ≡ before.source_failed
  pub sink : after.sink ≡ before.sink
  pub started : (after.started ≡ Some path) ⊎ (after.started ≡ before.started)
  pub later : before.storage.failed ≤ after.storage.failed

module _ (path : List ℕ) (before after : World) (ended : Status) (why : (ended ≡ status.DiskFault) ⊎ (ended ≡ status.NoMemory)) (same : OnlyStarted path before after) where
  not_other : (s : Status) → (s ≡ status.DiskFault → ⊥) → (s ≡ status.NoMemory → ⊥) → ended ≡ s → ⊥
  not_other s fault memory is = elim why [
    | inl f ↦ fault (sym is ∙ f)
    | inr m ↦ memory (sym is ∙ m)
  ]

  not_answered : IsAnswered ended → ⊥
  not_answered (inl done) = not_other status.Done (λ is. cc) (λ is. cc) done
  not_answered (inr refused) = not_other status.Refused (λ is. cc) (λ is. cc) refused

  no_damage_written : (line : List ℕ) → WritesDamage ended line before.sink_failed after.sink_failed before.sink after.sink
  no_damage_written line = elim why [
    | inl is ↦ subst (λ (s : Status). WritesDamage s line before.sink_failed after.sink_failed before.sink after.sink) (sym is) same.sink
    | inr is ↦ subst (λ (s : Status). WritesDamage s line before.sink_failed after.sink_failed before.sink after.sink) (sym is) same.sink
  ]

  crashes_as_before : OfCrashes before after
  crashes_as_before = record {
    kept = λ kept told is known all.
        nothing_of_script told kept after.storage before.storage.clock (same.disk ∙ known) (same.annals ∙ is) (safe_opened told before.storage.clock after.storage.clock kept.list all (inl same.clock)) before.source before.storage.failed;
    settles = λ kept told is known some all stamped. inl (record { names = same.disk; mark = same.clock; list = same.annals; output = same.sink });
  }

  folder_touched : (after.started ≡ Some path) ⊎ IsUntouched before after
  folder_touched = elim same.started [
    | inl started ↦ inl started
    | inr still ↦ inr (record { started = still; disk = same.disk; clock = same.clock; annals = same.annals; source = same.source; sink = same.sink })
  ]

  pub unopened : (before.storage.failed ≡ 2 ^ 64 - 1 → ended ≡ status.DiskFault) → (ended ≡ status.DiskFault → Rose before.storage.failed after.storage.failed) → LeavesOfRun path before ended after
  unopened full fault = record {
    headline = λ kept script written starts.
        early_same before after kept script written starts (same.disk, same.clock, same.annals, same.source, same.sink) ended (unopened_early ended why) (unopened_undamaged ended why);
    opening = λ told damage known damaged. (no_damage_written (damage_line damage), same.disk, same.clock, same.annals);
    sound = λ kept told listed known stands bad. unopened_undamaged ended why bad;
    damaged = λ told known bad. absurd (unopened_undamaged ended why bad);
    crashes = crashes_as_before;
    folder = folder_touched;
    full = full;
    whole = λ script known done. absurd (not_answered done);
    words = not_other status.NotWords (λ is. cc) (λ is. cc);
    read = λ is. absurd (not_other status.ReadFault (λ s. cc) (λ s. cc) is);
    unfailed = λ other. same.source_failed;
    write = λ is. absurd (not_other status.WriteFault (λ s. cc) (λ s. cc) is);
    disk = fault;
    long = λ is. absurd (not_other status.TooLong (λ s. cc) (λ s. cc) is);
    calm = λ done. absurd (not_answered done);
    later = same.later;
  }
