-- From a script that was served to what a run promises.
use Rattle.std.proofs.Common.{◌≡◌, ◌⊎◌, ◌≤◌, ◌<◌, ◌^◌, inl, inr, ◌==◌, if◌then◌else◌, ℕ, Bool, true, false, List, [], ◌++◌, length, map, drop, refl, sym, ap, ◌∙◌, subst, Option, None, Some, Result, Ok, Err, append-nil, arith}
use Rattle.std.specs.Prelude.{IfErr, IsErrAnd, IsErrOf, OnOk}
use Rattle.std.specs.List.{All}
use Rattle.std.specs.Io.KnownBytes.{Appends, Consumes, IsAtEnd}
use Rattle.std.proofs.lemmas.List.{map-append, drop_all}
use Rattle.std.proofs.lemmas.List.Elements.{All-map, All-nil}
use Rattle.std.proofs.Math.Seq.{drop-append_seam}
use Rattle.mt_values.specs.declared.annals.Noted.{Noted}
use Rattle.mt_values.specs.declared.command.Entry.{Entry}
use Rattle.mt_values.specs.Annals.{Told}
use Rattle.mt_values.specs.Script.{statements_of}
use Rattle.mt_outside.specs.Disk as root
use Rattle.session.specs.mt_model.History.{History, IsLegal}
use Rattle.session.specs.mt_model.Outside.{Outside}
use Rattle.session.specs.mt_model.Script.{OwnEntries}
use Rattle.session.specs.mt_model.Session.{AddsNothing}
use Rattle.session.specs.run_streams.declared.streams.SourceStop.{SourceStop}
use Rattle.session.specs.run_streams.declared.streams.SourceStop.TheVariants as unread
use Rattle.mt_program.specs.declared.serving.Ending.{Ending}
use Rattle.mt_program.specs.declared.serving.Ending.TheVariants as ending
use Rattle.session.specs.replies.declared.tally.Tally.{Tally}
use Rattle.mt_program.specs.declared.status.Status.{Status}
use Rattle.mt_program.specs.declared.status.Status.TheVariants as status
use Rattle.session.specs.replies.Foreseen.{history}
use Rattle.mt_program.specs.Endings.{IsAnswered, IsEarly, LeftBy, MetNoDamage, settled, status_of, status_of_stop}
use Rattle.mt_program.specs.Headline.{AnsweredAll, AnsweredRead, EndsBy, Headline, NothingRan}
use Rattle.mt_program.specs.Worlds.{IsOutsideOf, Starts, World}
use Rattle.mt_program.specs.Statuses.{status_number}
use Rattle.mt_program.specs.Courses.{Course, RunOf, course_of}
use Rattle.mt_program.specs.Serving.{MayComeTo, Output, Ran, ServedBy, Stretch}
use Rattle.root_log.specs.root_opening.declared.opening.Damage.{Damage}
use Rattle.root_log.specs.root_opening.declared.opening.OpenFault.{OpenFault}
use Rattle.root_log.specs.root_opening.declared.opening.OpenFault.TheVariants as fault
use Rattle.root_log.proofs.RootOpeningOneDamage.{one_damage}
use Rattle.root_log.specs.root_opening.Opening.{IsNotDamaged, IsRootDamage, TellsDamage}
use Rattle.root_log.specs.root_store.Roots.{Stands}
use Rattle.root_log.specs.root_store.Soundness.{RootStands}
use Rattle.mt_program.specs.Damage.{WritesDamage, WritesFault, damage_line}
use Rattle.session.proofs.RepliesEnds.{added_nothing, length_history}
use Rattle.mt_program.proofs.ServedScripts.{none_stopped}

known_after : (b xs : List ℕ) (before after : Option (List ℕ)) → before ≡ Some b → Appends before after xs → after ≡ Some (b ++ xs)
known_after b xs before None is h = absurd (subst (λ (o : Option (List ℕ)). Appends o None xs) is h)
known_after b xs before (Some ys) is h = ap Some (subst (λ (o : Option (List ℕ)). Appends o (Some ys) xs) is h)

-- all of a source that tells was read
pub all_read : (script text : List ℕ) (before after : Option (List ℕ)) → before ≡ Some script → Consumes before after text → IsAtEnd after → text ≡ script
all_read script text before None is h end = absurd (subst (λ (o : Option (List ℕ)). Consumes o None text) is h)
all_read script text before (Some rest) is h end =
    let whole : script ≡ text ++ rest = subst (λ (o : Option (List ℕ)). Consumes o (Some rest) text) is h in
    sym (whole ∙ (ap (λ ys. text ++ ys) end ∙ append-nil text))

-- the status of a script that was served, by what its replies told and whether the count rose
abbrev of_flags : Bool → Bool → Bool → Status
of_flags damaged risen refused = if damaged then status.Damaged else if risen then status.DiskFault else if refused then status.Refused else status.Done

-- the entries after what was told are session 0's
own_entries : (kept : Told) (s : Stretch) (course : Course) (r : Ran kept s course) → OwnEntries (history r.now) (length kept.list)
own_entries kept s course r =
    let entries = λ (n : Noted). n.entry in
    let all : history r.now ≡ history kept ++ map entries r.more = ap (map entries) r.list_is ∙ map-append entries kept.list r.more in
    let after : drop (length kept.list) (history r.now) ≡ map entries r.more =
    ap (drop (length kept.list)) all ∙ (ap (λ n. drop n (history kept ++ map entries r.more)) (sym (length_history kept)) ∙ drop-append_seam (history kept) (map entries r.more)) in
    subst (All (λ (e : Entry). e.session ≡ 0)) (sym after) (All-map (λ (e : Entry). e.session ≡ 0) entries r.more r.sessions)

abbrev pub none_answered : Course
none_answered = course_of [] [] None

-- what ran, at counts that were foreseen
run_of : (n : Outside) (kept : Told) (s : Stretch) (course : Course) → MayComeTo s n → (r : Ran kept s course) → RunOf n (history r.now) (length kept.list) course
run_of n kept s course f r = record {
  place = r.place;
  each = r.run n f;
  stop = length r.now.list;
  last = r.last;
  nothing_else = subst (λ (m : ℕ). AddsNothing (history r.now) 0 (length r.now.list) m) (sym (length_history r.now)) (added_nothing r.now);
  sessions = own_entries kept s course r;
  stopped = r.stopped n f;
}

-- no statement ran
nothing_ran : (n : Outside) (kept : Told) → RunOf n (history kept) (length kept.list) none_answered
nothing_ran n kept = record {
  place = length kept.list;
  each = refl;
  stop = length kept.list;
  last = refl;
  nothing_else = subst (λ (m : ℕ). AddsNothing (history kept) 0 (length kept.list) m) (sym (length_history kept)) (added_nothing kept);
  sessions = subst (All (λ (e : Entry). e.session ≡ 0)) (sym (drop_all (length kept.list) (history kept) (omega (arith, length_history kept)))) (All-nil (λ (e : Entry). e.session ≡ 0));
  stopped = none_stopped n (history kept) (length kept.list);
}

-- the counts of a run in which no part has the greatest level
abbrev no_level : World → World → Outside
no_level before after = record { opened = before.storage.failed; ended = after.storage.failed; full = false; company = false }

-- a root that stands for a list
pub root_told : (o : Option root.Told) (told : root.Told) (h : History) → o ≡ Some told → Stands (root.names_of told) h → RootStands o h
root_told o told h is stands = (told, is, stands)

-- the run ended before a statement ran
module _ (before after : World) (kept : Told) (script written : List ℕ)
    (legal : IsLegal (history kept)) (annals_is : after.storage.annals ≡ Some kept) (sink_is : after.sink ≡ Some written) (settled : RootStands after.storage.disk (history kept)) where
  early : (ended : Status) → EndsBy ended before after script none_answered (statements_of script) [] → Headline ended before after kept script written
  early ended ends = record {
    now = kept;
    annals_is = annals_is;
    more = [];
    begins = sym (append-nil kept.list);
    legal = legal;
    course = none_answered;
    rest = statements_of script;
    split = refl;
    outside = no_level before after;
    outside_is = record { opened = refl; ended = refl; full = λ is told known. cc; alone = refl };
    ran = nothing_ran (no_level before after) kept;
    begun = inl (refl, refl);
    out = [];
    sink_is = sink_is ∙ ap Some (sym (append-nil written));
    ends = ends;
    settled = λ none. settled;
  }

  none_read : AnsweredRead after.source script none_answered []
  none_read = record { answered = refl; out_is = refl; wholly = λ read rest more is split. refl }

  pub early_leaves : (ended : Status) → IsEarly ended → (ended ≡ status.Damaged → ⊥) → (ended ≡ status.DiskFault → NothingRan before after none_answered) → Headline ended before after kept script written
  early_leaves status.ReadFault is sound same = early status.ReadFault none_read
  early_leaves status.TooLong is sound same = early status.TooLong none_read
  early_leaves status.DiskFault is sound same = early status.DiskFault (inr (same refl))
  early_leaves status.NoMemory is sound same = early status.NoMemory refl
  early_leaves status.Damaged is sound same = absurd (sound refl)
  early_leaves status.Done is sound same = absurd is
  early_leaves status.Refused is sound same = absurd is
  early_leaves status.NotWords is sound same = absurd is
  early_leaves status.WriteFault is sound same = absurd is

-- what is known is the same, the counts of faults aside, and the mark
abbrev pub Same : World → World → Type 0
Same before after = (after.storage.disk ≡ before.storage.disk) × (after.storage.clock ≡ before.storage.clock) × (after.storage.annals ≡ before.storage.annals) × (after.source ≡ before.source) × (after.sink ≡ before.sink)

pub none_ran : (before after : World) → Same before after → NothingRan before after none_answered
none_ran before after same = record { none = refl; answered = refl; disk = same.0; clock = same.1; annals = same.2; source = same.3; sink = same.4 }

-- the run ended before anything was known to change
pub nothing_leaves : (before after : World) (kept : Told) (script written : List ℕ) → Starts before kept script written → Same before after → (ended : Status)
    → (NothingRan before after none_answered → EndsBy ended before after script none_answered (statements_of script) []) → Headline ended before after kept script written
nothing_leaves before after kept script written starts same ended ends =
    early before after kept script written starts.stands.legal (same.2 ∙ starts.annals_is) (same.4 ∙ starts.sink_is) (root_told after.storage.disk starts.told (history kept) (same.0 ∙ starts.disk_is) starts.stands)
    ended (ends (none_ran before after same))

-- the disk failed before the root was opened
pub early_same : (before after : World) (kept : Told) (script written : List ℕ) → Starts before kept script written → Same before after → (ended : Status) → IsEarly ended → (ended ≡ status.Damaged → ⊥)
    → Headline ended before after kept script written
early_same before after kept script written starts same ended is sound =
    early_leaves before after kept script written starts.stands.legal (same.2 ∙ starts.annals_is) (same.4 ∙ starts.sink_is) (root_told after.storage.disk starts.told (history kept) (same.0 ∙ starts.disk_is) starts.stands)
    ended is sound (λ fault. none_ran before after same)

-- what was written to the sink
abbrev pub output_of : World → World → Output
output_of before after = record { before = before.sink; after = after.sink }

-- the script was served
module _ (before after : World) (kept : Told) (script written : List ℕ) (s : Stretch) (n : Outside) (outside_is : IsOutsideOf before after n) (f : MayComeTo s n)
    (annals_is : after.storage.annals ≡ s.now.annals) (disk_is : after.storage.disk ≡ s.now.disk) (is : before.sink ≡ Some written) where
  -- what ran is left, and what was written
  left : (how : Ending) (ended : Status) (by : ServedBy how kept script s (output_of before after)) → EndsBy ended before after script by.course by.rest by.out → Headline ended before after kept script written
  left how ended by ends = record {
    now = by.ran.now;
    annals_is = annals_is ∙ by.ran.told_is;
    more = by.ran.more;
    begins = by.ran.list_is;
    legal = by.ran.legal;
    course = by.course;
    rest = by.rest;
    split = by.split;
    outside = n;
    outside_is = outside_is;
    ran = run_of n kept s by.course f by.ran;
    begun = by.ran.begun n f;
    out = by.out;
    sink_is = known_after written by.out before.sink after.sink is by.wrote;
    ends = ends;
    settled = λ none. subst (λ (o : Option root.Told). RootStands o (history by.ran.now)) (sym disk_is) (by.ran.settled none);
  }

  all_answered : (tally : Tally) (refused : Bool) → tally.refused ≡ refused → tally.damaged ≡ false → (length script < 2 ^ 40) × (after.source ≡ Some [])
      → (by : ServedBy (ending.Done tally) kept script s (output_of before after)) → AnsweredAll refused after.source script by.course by.rest by.out
  all_answered tally refused which sound whole by = record {
    all = by.stops.1;
    answered = by.stops.0;
    out_is = by.stops.3;
    says = record { refusals = sym which ∙ by.stops.2.refusals; damages = sym sound ∙ by.stops.2.damages };
    short = whole.0;
    read = whole.1;
  }

  leaves_done : (tally : Tally) (risen : Bool) → tally.damaged ≡ false → (length script < 2 ^ 40) × (after.source ≡ Some []) → ServedBy (ending.Done tally) kept script s (output_of before after)
      → Headline (settled tally risen) before after kept script written
  leaves_done tally risen sound whole by = subst (λ (d : Bool). Headline (of_flags d risen tally.refused) before after kept script written) (sym sound) (by_flags risen tally.refused refl)
    where
      by_flags : (risen refused : Bool) → tally.refused ≡ refused → Headline (of_flags false risen refused) before after kept script written
      by_flags true refused which = left (ending.Done tally) status.DiskFault by (inl (refused, all_answered tally refused which sound whole by))
      by_flags false true which = left (ending.Done tally) status.Refused by (all_answered tally true which sound whole by)
      by_flags false false which = left (ending.Done tally) status.Done by (all_answered tally false which sound whole by)

  pub leaves_all : (risen : Bool) (ended : Result Ending Status) → IsLegal (history kept) → RootStands s.root (history kept) → MetNoDamage ended → IfErr ended IsEarly → OnOk ended ((length script < 2 ^ 40) × (after.source ≡ Some []))
      → (ended ≡ Err status.DiskFault → NothingRan before after none_answered) → LeftBy ended kept script s (output_of before after) → Headline (status_of risen ended) before after kept script written
  leaves_all risen (Ok (ending.Done tally)) legal stands sound first whole same by = leaves_done tally risen sound whole by
  leaves_all risen (Ok ending.NoMemory) legal stands sound first whole same by = left ending.NoMemory status.NoMemory by by.stops
  leaves_all risen (Ok ending.WriteFault) legal stands sound first whole same by = left ending.WriteFault status.WriteFault by by.stops
  leaves_all risen (Err ended) legal stands sound first whole same by =
      early_leaves before after kept script written legal (annals_is ∙ by.0) (by.1 ∙ is) (subst (λ (o : Option root.Told). RootStands o (history kept)) (sym (disk_is ∙ by.2)) stands) ended first sound (λ fault. same (ap Err fault))

-- what is left by the same status
pub by_status : {before after : World} {kept : Told} {script written : List ℕ} {s t : Status} → s ≡ t → Headline t before after kept script written → Headline s before after kept script written
by_status {before} {after} {kept} {script} {written} same left = subst (λ (e : Status). Headline e before after kept script written) (sym same) left

-- nothing was told or written where the root was not opened
pub early_not_told : (ended : Result Ending Status) (kept : Told) (script : List ℕ) (s : Stretch) (output : Output) → ended ≡ Err status.DiskFault → LeftBy ended kept script s output
    → (s.now.annals ≡ Some kept) × (output.after ≡ output.before) × (s.now.disk ≡ s.root)
early_not_told (Ok e) kept script s output is left = cc
early_not_told (Err e) kept script s output is left = left

pub failed_is : (ended : Result Ending Status) → ended ≡ Err status.DiskFault → IsErrOf ended status.DiskFault
failed_is (Ok e) is = cc
failed_is (Err e) is = is

-- ---- which end has which status

-- a status that a script may have whose statements were all answered
abbrev IsTallied : Status → Type 0
IsTallied status.Done = Unit {0}
IsTallied status.Refused = Unit {0}
IsTallied status.DiskFault = Unit {0}
IsTallied status.Damaged = Unit {0}
IsTallied status.NotWords = ⊥
IsTallied status.ReadFault = ⊥
IsTallied status.WriteFault = ⊥
IsTallied status.NoMemory = ⊥
IsTallied status.TooLong = ⊥

flags_tallied : (damaged risen refused : Bool) → IsTallied (of_flags damaged risen refused)
flags_tallied true risen refused = tt
flags_tallied false true refused = tt
flags_tallied false false true = tt
flags_tallied false false false = tt

tallied_is : (tally : Tally) (risen : Bool) (s : Status) → settled tally risen ≡ s → IsTallied s
tallied_is tally risen s e = subst IsTallied e (flags_tallied tally.damaged risen tally.refused)

pub read_fault : (risen : Bool) (ended : Result Ending Status) → status_of risen ended ≡ status.ReadFault → ended ≡ Err status.ReadFault
read_fault risen (Ok (ending.Done tally)) e = absurd (tallied_is tally risen status.ReadFault e)
read_fault risen (Ok ending.NoMemory) e = cc
read_fault risen (Ok ending.WriteFault) e = cc
read_fault risen (Err s) e = ap Err e

pub too_long : (risen : Bool) (ended : Result Ending Status) → status_of risen ended ≡ status.TooLong → ended ≡ Err status.TooLong
too_long risen (Ok (ending.Done tally)) e = absurd (tallied_is tally risen status.TooLong e)
too_long risen (Ok ending.NoMemory) e = cc
too_long risen (Ok ending.WriteFault) e = cc
too_long risen (Err s) e = ap Err e

pub write_fault : (risen : Bool) (ended : Result Ending Status) → IfErr ended IsEarly → status_of risen ended ≡ status.WriteFault → ended ≡ Ok ending.WriteFault
write_fault risen (Ok (ending.Done tally)) first e = absurd (tallied_is tally risen status.WriteFault e)
write_fault risen (Ok ending.NoMemory) first e = cc
write_fault risen (Ok ending.WriteFault) first e = refl
write_fault risen (Err s) first e = absurd (subst IsEarly e first)

pub not_words : (risen : Bool) (ended : Result Ending Status) → IfErr ended IsEarly → status_of risen ended ≡ status.NotWords → ⊥
not_words risen (Ok (ending.Done tally)) first e = tallied_is tally risen status.NotWords e
not_words risen (Ok ending.NoMemory) first e = cc
not_words risen (Ok ending.WriteFault) first e = cc
not_words risen (Err s) first e = subst IsEarly e first

pub not_damaged : (risen : Bool) (ended : Result Ending Status) → MetNoDamage ended → status_of risen ended ≡ status.Damaged → ⊥
not_damaged risen (Ok (ending.Done tally)) sound e = by risen tally.refused (ap (λ d. of_flags d risen tally.refused) (sym sound) ∙ e)
  where
    by : (risen refused : Bool) → of_flags false risen refused ≡ status.Damaged → ⊥
    by true refused h = cc
    by false true h = cc
    by false false h = cc
not_damaged risen (Ok ending.NoMemory) sound e = cc
not_damaged risen (Ok ending.WriteFault) sound e = cc
not_damaged risen (Err s) sound e = sound e

pub disk_fault : (risen : Bool) (ended : Result Ending Status) → status_of risen ended ≡ status.DiskFault → (risen ≡ true) ⊎ (ended ≡ Err status.DiskFault)
disk_fault risen (Ok (ending.Done tally)) e = inl (by tally.damaged risen tally.refused e)
  where
    by : (damaged risen refused : Bool) → of_flags damaged risen refused ≡ status.DiskFault → risen ≡ true
    by true risen refused h = cc
    by false true refused h = refl
    by false false true h = cc
    by false false false h = cc
disk_fault risen (Ok ending.NoMemory) e = cc
disk_fault risen (Ok ending.WriteFault) e = cc
disk_fault risen (Err s) e = inr (ap Err e)

-- no status by which a run ends before its script is served says that all was answered
not_early : (s : Status) → IsEarly s → IsAnswered s → ⊥
not_early s first (inl e) = subst IsEarly e first
not_early s first (inr e) = subst IsEarly e first

pub answered_calm : (risen : Bool) (ended : Result Ending Status) → IfErr ended IsEarly → IsAnswered (status_of risen ended) → risen ≡ false
answered_calm risen (Ok (ending.Done tally)) first a = by tally.damaged risen tally.refused a
  where
    by : (damaged risen refused : Bool) → IsAnswered (of_flags damaged risen refused) → risen ≡ false
    by true risen refused (inl h) = cc
    by true risen refused (inr h) = cc
    by false true refused (inl h) = cc
    by false true refused (inr h) = cc
    by false false refused h = refl
answered_calm risen (Ok ending.NoMemory) first (inl e) = cc
answered_calm risen (Ok ending.NoMemory) first (inr e) = cc
answered_calm risen (Ok ending.WriteFault) first (inl e) = cc
answered_calm risen (Ok ending.WriteFault) first (inr e) = cc
answered_calm risen (Err s) first a = absurd (not_early s first a)

-- what holds of each script that was served holds where all was answered
pub answered_served : (P : Type 0) (risen : Bool) (ended : Result Ending Status) → OnOk ended P → IfErr ended IsEarly → IsAnswered (status_of risen ended) → P
answered_served P risen (Ok e) h first a = h
answered_served P risen (Err s) h first a = absurd (not_early s first a)

pub ended_early : (P : Status → Type 0) (risen : Bool) (ended : Result Ending Status) → IsErrAnd ended P → P (status_of risen ended)
ended_early P risen (Ok e) h = absurd h
ended_early P risen (Err s) h = h

-- the statuses by their numbers
status_at : ℕ → Option Status
status_at n =
    if n == 0 then Some status.Done
    else if n == 1 then Some status.Refused
    else if n == 2 then Some status.NotWords
    else if n == 3 then Some status.ReadFault
    else if n == 4 then Some status.WriteFault
    else if n == 5 then Some status.DiskFault
    else if n == 6 then Some status.NoMemory
    else if n == 7 then Some status.Damaged
    else if n == 8 then Some status.TooLong
    else None

numbered : (e : Status) → status_at (status_number e) ≡ Some e
unfolding status_at
numbered status.Done = refl
numbered status.Refused = refl
numbered status.NotWords = refl
numbered status.ReadFault = refl
numbered status.WriteFault = refl
numbered status.DiskFault = refl
numbered status.NoMemory = refl
numbered status.Damaged = refl
numbered status.TooLong = refl

pub same_number : (e f : Status) → status_number e ≡ status_number f → e ≡ f
same_number e f same = inj (sym (numbered e) ∙ (ap status_at same ∙ numbered f))
  where
    inj : Some e ≡ Some f → e ≡ f
    inj h = cc

pub at_most_one_is : (e : Status) → status_number e ≤ 1 → IsAnswered e
at_most_one_is status.Done h = inl refl
at_most_one_is status.Refused h = inr refl
at_most_one_is status.NotWords h = absurd (omega arith)
at_most_one_is status.ReadFault h = absurd (omega arith)
at_most_one_is status.WriteFault h = absurd (omega arith)
at_most_one_is status.DiskFault h = absurd (omega arith)
at_most_one_is status.NoMemory h = absurd (omega arith)
at_most_one_is status.Damaged h = absurd (omega arith)
at_most_one_is status.TooLong h = absurd (omega arith)

-- ---- how a run ends before its script is served

pub stop_early : (why : SourceStop) → IsEarly (status_of_stop why)
stop_early unread.NoMemory = tt
stop_early unread.Fault = tt
stop_early unread.TooLong = tt

pub stop_undamaged : (why : SourceStop) → status_of_stop why ≡ status.Damaged → ⊥
stop_undamaged unread.NoMemory h = cc
stop_undamaged unread.Fault h = cc
stop_undamaged unread.TooLong h = cc

pub unopened_early : (s : Status) → (s ≡ status.DiskFault) ⊎ (s ≡ status.NoMemory) → IsEarly s
unopened_early s (inl is) = subst IsEarly (sym is) tt
unopened_early s (inr is) = subst IsEarly (sym is) tt

pub unopened_undamaged : (s : Status) → (s ≡ status.DiskFault) ⊎ (s ≡ status.NoMemory) → s ≡ status.Damaged → ⊥
unopened_undamaged s (inl is) bad = cc
unopened_undamaged s (inr is) bad = cc

-- a source that was read to its end has nothing left
pub nothing_left : (script text : List ℕ) (before after : Option (List ℕ)) → before ≡ Some script → Consumes before after text → IsAtEnd after → after ≡ Some []
nothing_left script text before None is h end = absurd (subst (λ (o : Option (List ℕ)). Consumes o None text) is h)
nothing_left script text before (Some rest) is h end = ap Some end

-- ---- a root that was not opened

-- of a root that is damaged its damage is written, or nothing
pub writes_damage : (names : root.Names) (d : Damage) (f : OpenFault) (ended : Status) (failed failed_now : ℕ) (before after : Option (List ℕ)) → IsRootDamage names d → TellsDamage names f
    → WritesFault f ended failed failed_now before after → WritesDamage ended (damage_line d) failed failed_now before after
writes_damage names d (fault.Damaged found) ended failed failed_now before after is tells wrote =
    subst (λ (x : Damage). WritesDamage ended (damage_line x) failed failed_now before after) (one_damage names found d tells is) wrote
writes_damage names d fault.NoMemory ended failed failed_now before after is tells wrote = subst (λ (x : Status). WritesDamage x (damage_line d) failed failed_now before after) (sym wrote.0) wrote.1
writes_damage names d fault.Disk ended failed failed_now before after is tells wrote = subst (λ (x : Status). WritesDamage x (damage_line d) failed failed_now before after) (sym wrote.0) wrote.1

-- nothing is written of a root that is not damaged
pub writes_nothing : (f : OpenFault) (ended : Status) (failed failed_now : ℕ) (before after : Option (List ℕ)) → IsNotDamaged f → WritesFault f ended failed failed_now before after → after ≡ before
writes_nothing (fault.Damaged d) ended failed failed_now before after sound wrote = absurd sound
writes_nothing fault.NoMemory ended failed failed_now before after sound wrote = wrote.1
writes_nothing fault.Disk ended failed failed_now before after sound wrote = wrote.1

-- a source that failed is told by the status
pub told_fault : (risen : Bool) (ended : Result Ending Status) → IsErrOf ended status.ReadFault → status_of risen ended ≡ status.ReadFault
told_fault risen (Ok ending) fault = absurd cc
told_fault risen (Err early) fault = cc

-- a read that failed is told by the status
pub told_stop : {T U : Type 0} (why : SourceStop) (ended : Status) → ended ≡ status_of_stop why → IsErrOf {T = T} (Err why) unread.Fault → IsErrOf {T = U} (Err ended) status.ReadFault
told_stop unread.Fault ended is fault = ap Err is
told_stop unread.NoMemory ended is fault = absurd cc
told_stop unread.TooLong ended is fault = absurd cc
