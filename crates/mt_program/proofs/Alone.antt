-- From what a session leaves that had all of a root to what is said of its script.
use Rattle.std.proofs.Common.{◌≡◌, ◌==◌, ℕ, Bool, true, false, cond, List, [], ◌∷◌, ◌++◌, length, replicate, Option, None, Some, Ok, inl, refl, sym, ap, ◌∙◌, subst, append-nil, eq-eqb, eqb-true}
use Rattle.std.specs.Io.KnownBytes.{Appends}
use Rattle.std.proofs.lemmas.List.{length-replicate}
use Rattle.std.proofs.lemmas.List.Elements.{All-nil}
use Rattle.mt_base.specs.declared.policy.Policy.{Policy}
use Rattle.mt_values.specs.declared.annals.Noted.{Noted}
use Rattle.mt_values.specs.declared.command.Entry.{Entry}
use Rattle.mt_values.specs.Annals.{Told}
use Rattle.mt_values.specs.Script.{statements_of}
use Rattle.mt_outside.specs.Files.{Files}
use Rattle.root_log.specs.root_store.declared.store.CoreStore.{CoreStore}
use Rattle.root_log.specs.root_store.Crashes.{KeepsThroughCrashes, Storage}
use Rattle.root_log.specs.root_store.Soundness.{HasSoundParts, RootStands}
use Rattle.root_log.specs.root_store.Stores.{CoreStands, table_at}
use Rattle.session.specs.mt_model.History.{History, IsLegal, entries_of}
use Rattle.session.specs.replies.Foreseen.{history}
use Rattle.session.specs.shared_store.history_seat.declared.view.View.{View}
use Rattle.session.specs.shared_store.history_seat.Turns.{IsSession}
use Rattle.session.specs.shared_store.history_seat.Views.{no_entry, session_view}
use Rattle.session.specs.shared_store.Engines.{Opened, opened_of, schema_kept}
use Rattle.session.specs.shared_store.Levels.{has_greatest}
use Rattle.session.specs.shared_store.Sharing.{AtOpening, Finished}
use Rattle.session.specs.shared_store.Stood.{IsListed, Premise, holds_at_opening}
use Rattle.session.specs.shared_store.Tallies.{Tally, tally}
use Rattle.session.specs.Answers.{Having, KnowsOwn, having}
use Rattle.session.proofs.RunsEach.{has_run_each}
use Rattle.session.proofs.RunStreamsKnown.{appends_none}
use Rattle.session.proofs.SharedStoreFinishing.{crashes_after}
use Rattle.mt_program.specs.Courses.{Item, course_of, started}
use Rattle.mt_program.specs.Crashes.{IsGainedBy, LeavesForCrashes}
use Rattle.mt_program.specs.declared.serving.Ending.{Ending}
use Rattle.mt_program.specs.declared.serving.Ending.TheVariants as ending
use Rattle.mt_program.specs.Endings.{MetNoDamage}
use Rattle.mt_program.specs.SeatServing.{GoesBy, SeatServes}
use Rattle.mt_program.specs.Serving.{Output, Ran, ServedBy, StopsBy, Stretch}
use Rattle.mt_program.specs.Sharing.{before_of, begun_of}
use Rattle.mt_program.specs.Worlds.{IsFullOnlyBy}
use Rattle.mt_program.proofs.Crashing.{left_behind}
use Rattle.mt_program.proofs.Reopened.{shows_full}
use Rattle.mt_program.proofs.SeatScripts.{gained_answered, gained_ended, ran_answered, ran_ended}
use Rattle.mt_program.proofs.ServedScripts.{none_stopped}

-- ---- the entries before

pub before_long : (told : Option Told) (many : ℕ) → length (before_of told many) ≡ many
before_long None many = length-replicate many no_entry
before_long (Some told) many = by (length (entries_of told.list) == many) refl
  where
    by : (b : Bool) → (length (entries_of told.list) == many) ≡ b → length (cond b (entries_of told.list) (replicate many no_entry)) ≡ many
    by true same = eqb-true (length (entries_of told.list)) many same
    by false other = length-replicate many no_entry

pub before_is : (annals : Option Told) (many : ℕ) (kept : Told) → annals ≡ Some kept → many ≡ length (history kept) → before_of annals many ≡ history kept
before_is annals many kept is long =
    ap (λ (o : Option Told). before_of o many) is ∙ ap (λ (b : Bool). cond b (history kept) (replicate many no_entry)) (eq-eqb (length (history kept)) many (sym long))

-- ---- nothing ran

pub served_nothing : (kept : Told) (script : List ℕ) (s : Stretch) (output : Output) → s.now.annals ≡ Some kept → IsLegal (history kept) → RootStands s.now.disk (history kept) → output.after ≡ output.before → ServedBy ending.NoMemory kept script s output
served_nothing kept script s output told legal stands same = record {
  course = course_of [] [] None;
  rest = statements_of script;
  out = [];
  split = refl;
  ran = record {
    now = kept;
    more = [];
    told_is = told;
    list_is = sym (append-nil kept.list);
    legal = legal;
    sessions = All-nil (λ (n : Noted). n.entry.session ≡ 0);
    place = length kept.list;
    run = λ n f. refl;
    last = refl;
    stopped = λ n f. none_stopped n (history kept) (length kept.list);
    risen = λ some. cc;
    begun = λ n f. inl (refl, refl);
    settled = λ none. stands;
  };
  wrote = subst (λ (w : Option (List ℕ)). Appends output.before w []) (sym same) (appends_none output.before);
  stops = refl;
}

-- ---- a root as it was opened

module _ {F : Type 0} (files_of : F → Option Files) (tells : Type 0) (store : CoreStore F) (policy : Policy) (was : Storage) (folder : Option (List ℕ)) where
  abbrev pub before : History
  before = before_of was.annals store.length

  abbrev pub begun : Option Entry
  begun = begun_of was.annals

  abbrev pub root_was : Opened F
  root_was = opened_of store policy was folder

  abbrev pub given : Premise → Type 0
  given = holds_at_opening files_of tells before begun root_was

  abbrev pub opening : AtOpening
  opening = record { tables = λ (t : List ℕ). schema_kept (table_at store t); begun = begun; policy = policy; failed = store.opened; shared = was.failed; started = folder }

  -- what the annals list is what stands before
  module _ (kept : Told) (is : was.annals ≡ Some kept) (stands : CoreStands files_of (history kept) store) where
    same : before ≡ history kept
    same = before_is was.annals store.length kept is stands.length_is

    listed : IsListed files_of before begun root_was
    listed = record { kept = kept; annals_is = is; list_is = sym same; begun_is = sym (ap begun_of is); stands = subst (λ (h : History). CoreStands files_of h store) (sym same) stands }

    module _ (whole : ℕ) (now : Storage) (started_now : Option (List ℕ)) (seat : View) (share : Tally) (f : Finished files_of given before opening whole now started_now (seat ∷ []) share) (arm_was arm : ℕ)
        (ended : Ending) (script : List ℕ) (output : Output) (s : SeatServes files_of given before opening whole ended script (having (session_view 0 []) (tally whole 0 0 0 0) arm_was) (having seat share arm) output) (told : tells) where
      full : Bool
      full = has_greatest f.last.root.store

      abbrev stretch : Stretch
      stretch = record { opened = store.opened; root = was.disk; now = now; arm = arm; full = has_greatest f.last.root.store }

      noted : (first : Told) × (was.annals ≡ Some first) × (more : List Noted) × (first.list ≡ kept.list ++ more)
      noted = (kept, is, [], sym (append-nil kept.list))

      begun_same : begun ≡ kept.begun
      begun_same = ap begun_of is

      ran_by : RootStands was.disk (history kept) → (unanswered : Option Item) → GoesBy files_of given before opening whole s.course.ran unanswered s.course.replies (having (session_view 0 []) (tally whole 0 0 0 0) arm_was) (having seat share arm)
          → Ran kept stretch (course_of s.course.ran s.course.replies unanswered)
      ran_by rooted None r =
          ran_answered files_of given before opening whole now started_now seat share f arm_was arm kept told listed noted (subst (RootStands was.disk) (sym same) rooted) same begun_same was.disk s.course.ran s.course.replies r
      ran_by rooted (Some last) e =
          ran_ended files_of given before opening whole now started_now seat share f arm_was arm kept told listed noted (subst (RootStands was.disk) (sym same) rooted) same begun_same was.disk s.course.ran s.course.replies last e

      -- what is answered and written
      pub served_alone : RootStands was.disk (history kept) → (b : Bool) × IsFullOnlyBy now.disk b × ServedBy ended kept script (record { opened = store.opened; root = was.disk; now = now; arm = arm; full = b }) output
      served_alone rooted = (
        has_greatest f.last.root.store,
        λ is_full names there. shows_full f.last.root.store f.last.root.storage.failed names f.last.root.storage.disk f.ready is_full (ap (λ (x : Storage). x.disk) f.storage_is ∙ there),
        record { course = s.course; rest = s.rest; out = s.out; split = s.split; ran = ran_by rooted s.course.unanswered s.ran; wrote = s.wrote; stops = s.stops },
      )

      gained_from : RootStands was.disk (history kept) → (unanswered : Option Item) → GoesBy files_of given before opening whole s.course.ran unanswered s.course.replies (having (session_view 0 []) (tally whole 0 0 0 0) arm_was) (having seat share arm)
          → IsGainedBy (started (course_of s.course.ran s.course.replies unanswered)) now.annals kept
      gained_from rooted None r =
          gained_answered files_of given before opening whole now started_now seat share f arm_was arm kept told listed noted (subst (RootStands was.disk) (sym same) rooted) same begun_same was.disk s.course.ran s.course.replies r
      gained_from rooted (Some last) e =
          gained_ended files_of given before opening whole now started_now seat share f arm_was arm kept told listed noted (subst (RootStands was.disk) (sym same) rooted) same begun_same was.disk s.course.ran s.course.replies last e

      -- what a crash leaves
      pub crashes_alone : RootStands was.disk (history kept) → (start : ℕ) → KeepsThroughCrashes files_of store was kept start → LeavesForCrashes (statements_of script) store.opened now kept start
      crashes_alone rooted start keeps =
          left_behind store.opened (statements_of script) (started s.course) s.rest s.split f.shared.opened_is
          (crashes_after files_of given before opening whole now started_now (seat ∷ []) share f told listed kept start keeps) (gained_from rooted s.course.unanswered s.ran)

  -- nothing damaged was met where each part held rows
  module _ (whole : ℕ) (old new : Having) (ended : Ending) (script : List ℕ) (output : Output) (s : SeatServes files_of given before opening whole ended script old new output) (session : IsSession old.seat) (own_is : KnowsOwn old.seat) (told : tells)
      (held : HasSoundParts files_of store) where
    met_none : (unanswered : Option Item) → GoesBy files_of given before opening whole s.course.ran unanswered s.course.replies old new → (e : Ending) → StopsBy e (course_of s.course.ran s.course.replies unanswered) s.rest s.out → MetNoDamage (Ok e)
    met_none None r (ending.Done t) stops = stops.2.damages ∙ (has_run_each files_of given before opening whole s.course.ran s.course.replies old new session own_is r).sound told held
    met_none (Some last) r (ending.Done t) stops = let bad : Some last ≡ None = stops.0 in cc
    met_none unanswered r ending.NoMemory stops = tt
    met_none unanswered r ending.WriteFault stops = tt

    pub undamaged_alone : MetNoDamage (Ok ended)
    undamaged_alone = met_none s.course.unanswered s.ran ended s.stops
