-- From what a run over a folder leaves, by its status, to all that is promised by its number.
use Rattle.std.proofs.Common.{◌≡◌, ◌⊎◌, ◌≤◌, ℕ, List, Some, None, inl, inr, refl, sym, ◌∙◌, ap, subst, arith, true≢false}
use Rattle.std.specs.Prelude.{String, is_some}
use Rattle.std.specs.declared.alloc.Global.{Global}
use Rattle.root_log.proofs.RootStoreCrashMarks.{safe_at_start}
use Rattle.command_line.specs.Words.{Line, command_of}
use Rattle.mt_program.specs.declared.status.Status.{Status}
use Rattle.mt_program.specs.declared.status.Status.TheVariants as status
use Rattle.mt_program.specs.Promises.{IsComplete, IsUntouched, LeavesOfRun, OfCauses, OfCrashes, OfDamage, OfFolder, Promises}
use Rattle.mt_program.specs.Statuses.{status_number}
use Rattle.mt_program.specs.Worlds.{World}
use Rattle.mt_program.proofs.Completing.{none_refused, not_too_long, zero_or_six}
use Rattle.mt_program.proofs.Crashing.{nothing_of_script}
use Rattle.mt_program.proofs.Heading.{at_most_one_is, by_status, nothing_leaves, same_number}

at_most_eight : (ended : Status) → status_number ended ≤ 8
at_most_eight status.Done = omega arith
at_most_eight status.Refused = omega arith
at_most_eight status.NotWords = omega arith
at_most_eight status.ReadFault = omega arith
at_most_eight status.WriteFault = omega arith
at_most_eight status.DiskFault = omega arith
at_most_eight status.NoMemory = omega arith
at_most_eight status.Damaged = omega arith
at_most_eight status.TooLong = omega arith

pub not_some : {X : Type 0} (x : X) → Some x ≡ None → ⊥
not_some x same = cc

-- the words are a command line
module _ (words : List (String Global)) (line : Line) (says : command_of words ≡ Some line) (before after : World) (ended : Status) (left : LeavesOfRun line.folder before ended after) where
  of_causes : OfCauses words before (status_number ended) after
  of_causes = record {
    number = at_most_eight ended;
    words_only = λ is. absurd (left.words (same_number ended status.NotWords is));
    no_command = λ none. absurd (not_some line (sym says ∙ none));
    read = λ is. left.read (same_number ended status.ReadFault is);
    unfailed = λ other. left.unfailed (λ is. other (subst (λ (e : Status). status_number e ≡ 3) (sym is) refl));
    write = λ is. left.write (same_number ended status.WriteFault is);
    disk = λ is. left.disk (same_number ended status.DiskFault is);
    long = λ is. left.long (same_number ended status.TooLong is);
    whole = λ script is low. left.whole script is (at_most_one_is ended low);
    calm = λ low. left.calm (at_most_one_is ended low);
    full = λ full. inr (inl (subst (λ (e : Status). status_number e ≡ 5) (sym (left.full full)) refl));
  }

  -- nothing stands against the run
  is_complete : IsComplete words before (status_number ended) after
  is_complete kept script written starts nothing calm meets =
      zero_or_six ended left.words (λ is. calm.source (left.read is)) (λ is. calm.sink (left.write is)) (λ is. calm.disk (left.disk is)) (λ is. left.sound kept starts.told starts.annals_is starts.disk_is starts.stands is)
      (λ is. not_too_long script before.source after.source starts.source_is nothing.short (left.long is))
      (λ is. none_refused before after kept script written left.later calm.disk meets nothing.causes (by_status {before = before} {after = after} (sym is) (left.headline kept script written starts)))

  of_damage : OfDamage before (status_number ended) after
  of_damage = record {
    opening = λ told damage known damaged.
        let opened = left.opening told damage known damaged in
        record { ended = ended; number_is = refl; writes = opened.0; disk = opened.1; clock = opened.2; annals = opened.3 };
    damaged = λ told known bad. left.damaged told known (same_number ended status.Damaged bad);
  }

  of_folder : OfFolder words before after
  of_folder = elim left.folder [
    | inl started ↦ inl (record { line = line; says = says; started = started })
    | inr same ↦ inr same
  ]

  pub promised : (number : ℕ) → number ≡ status_number ended → Promises words before number after
  promised number is = subst (λ (n : ℕ). Promises words before n after) (sym is) (record {
    headline = λ kept script written starts. (ended, refl, left.headline kept script written starts);
    complete = is_complete;
    crashes = left.crashes;
    damage = of_damage;
    folder = of_folder;
    causes = of_causes;
  })

untouched : (w : World) → IsUntouched w w
untouched w = record { started = refl; disk = refl; clock = refl; annals = refl; source = refl; sink = refl }

other_crashes : (w : World) → OfCrashes w w
other_crashes w = record {
  kept = λ kept told is known all. nothing_of_script told kept w.storage _ known is (safe_at_start told w.storage.clock kept.list all) w.source _;
  settles = λ kept told is known some all stamped. inl (record { names = refl; mark = refl; list = refl; output = refl });
}

-- The words are none, and all is as it was.
module _ (words : List (String Global)) (none : command_of words ≡ None) (w : World) where
  other_causes : OfCauses words w 2 w
  other_causes = record {
    number = omega arith;
    words_only = λ is. none;
    no_command = λ again. inl refl;
    read = λ is. cc;
    unfailed = λ other. refl;
    write = λ is. cc;
    disk = λ is. cc;
    long = λ is. cc;
    whole = λ script is low. absurd (omega (arith, low));
    calm = λ low. refl;
    full = λ full. inl refl;
  }

  other_damage : OfDamage w 2 w
  other_damage = record {
    opening = λ told damage known damaged. record { ended = status.NotWords; number_is = refl; writes = refl; disk = refl; clock = refl; annals = refl };
    damaged = λ told known bad. cc;
  }

  other_words : Promises words w (status_number status.NotWords) w
  other_words = record {
    headline = λ kept script written starts. (status.NotWords, refl, nothing_leaves w w kept script written starts (refl, refl, refl, refl, refl) status.NotWords (λ ran. ran));
    complete = λ kept script written starts nothing calm meets. absurd (true≢false (sym nothing.words ∙ ap is_some none));
    crashes = other_crashes w;
    damage = other_damage;
    folder = inr (untouched w);
    causes = other_causes;
  }

-- Memory ran out while the words were read, and all is as it was.
module _ (words : List (String Global)) (w : World) where
  memory_causes : OfCauses words w 6 w
  memory_causes = record {
    number = omega arith;
    words_only = λ is. cc;
    no_command = λ none. inr refl;
    read = λ is. cc;
    unfailed = λ other. refl;
    write = λ is. cc;
    disk = λ is. cc;
    long = λ is. cc;
    whole = λ script is low. absurd (omega (arith, low));
    calm = λ low. refl;
    full = λ full. inr (inr refl);
  }

  memory_damage : OfDamage w 6 w
  memory_damage = record {
    opening = λ told damage known damaged. record { ended = status.NoMemory; number_is = refl; writes = refl; disk = refl; clock = refl; annals = refl };
    damaged = λ told known bad. cc;
  }

  memory_ran_out : Promises words w (status_number status.NoMemory) w
  memory_ran_out = record {
    headline = λ kept script written starts. (status.NoMemory, refl, nothing_leaves w w kept script written starts (refl, refl, refl, refl, refl) status.NoMemory (λ ran. refl));
    complete = λ kept script written starts nothing calm meets. inr refl;
    crashes = other_crashes w;
    damage = memory_damage;
    folder = inr (untouched w);
    causes = memory_causes;
  }

-- the run ended at its words
pub unread : (words : List (String Global)) (ended : Status) → ((ended ≡ status.NotWords) × (command_of words ≡ None)) ⊎ (ended ≡ status.NoMemory) → (w : World) (number : ℕ) → number ≡ status_number ended
    → Promises words w number w
unread words ended (inl none) w number is = subst (λ (n : ℕ). Promises words w n w) (sym is) (subst (λ (e : Status). Promises words w (status_number e) w) (sym none.0) (other_words words none.1 w))
unread words ended (inr memory) w number is = subst (λ (n : ℕ). Promises words w n w) (sym is) (subst (λ (e : Status). Promises words w (status_number e) w) (sym memory) (memory_ran_out words w))
