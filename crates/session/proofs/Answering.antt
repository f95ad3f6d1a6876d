-- What a session's statement is answered, what stays of what the session has, and what accounts for the reply.
use Rattle.std.proofs.Common.{◌≡◌, ◌⊎◌, inl, inr, ◌==◌, ◌||◌, if◌then◌else◌, ℕ, ◌+◌, ◌≤◌, Bool, true, false, List, [], ◌∷◌, ◌++◌, length, Option, Some, None, Result, Ok, Err, IfErr, IfOk, IsErr, refl, sym, ap, ap₂, ◌∙◌, subst, arith, append-nil, append_assoc, eqb-true, length-append}
use Rattle.std.proofs.lemmas.Bool.{false≢true}
use Rattle.std.proofs.lemmas.List.Elements.{All-weaker}
use Rattle.mt_base.specs.declared.memory.NoMemory.{NoMemory}
use Rattle.mt_values.specs.declared.command.Entry.{Entry}
use Rattle.mt_values.specs.declared.statement.Statement.{Statement}
use Rattle.mt_values.specs.Script.{Item}
use Rattle.mt_outside.specs.Causes.{Rose}
use Rattle.replies.specs.mt_model.declared.refusal.Bound.{Bound}
use Rattle.replies.specs.mt_model.declared.refusal.Bound.TheVariants as bound
use Rattle.replies.specs.mt_model.declared.refusal.Refusal.TheVariants as refusal
use Rattle.replies.specs.mt_model.declared.refusal.Room.{Room}
use Rattle.replies.specs.mt_model.declared.refusal.Room.TheVariants as room
use Rattle.replies.specs.mt_model.History.{History}
use Rattle.replies.specs.mt_model.Outside.{Outside}
use Rattle.replies.specs.mt_model.Refusals.{code_of, refusal_line}
use Rattle.replies.specs.mt_model.Reply.{ok_line}
use Rattle.replies.specs.mt_model.Session.{AddsNothing, Takes}
use Rattle.replies.specs.Foreseen.{AgreesWith, MetSince}
use Rattle.replies.proofs.MtModelGrowing.{stays}
use Rattle.merge_workers.specs.shared_store.durable_commit.declared.causes.Limit.TheVariants as limit
use Rattle.merge_workers.specs.shared_store.durable_commit.declared.causes.Refused.{Refused}
use Rattle.merge_workers.specs.shared_store.durable_commit.declared.causes.Refused.TheVariants as refused
use Rattle.merge_workers.specs.shared_store.history_seat.declared.view.View.{View}
use Rattle.merge_workers.specs.shared_store.history_seat.Turns.{Added, AddsNone, IsSession, Looked}
use Rattle.merge_workers.specs.shared_store.history_seat.Views.{Begins}
use Rattle.merge_workers.specs.shared_store.Sharing.{AtOpening}
use Rattle.merge_workers.specs.shared_store.Stood.{Premise, is_listed, is_told}
use Rattle.merge_workers.specs.shared_store.Tallies.{Tally, stops_in, tally}
use Rattle.merge_workers.specs.shared_store.Turns.{Counts}
use Rattle.session.specs.Lapses.{Accounts, still}
use Rattle.session.specs.Answers.{AccountsAt, AnswersAt, CountsAt, Having, KnowsOwn, LacksCommand, StaysSession, having, met_by, met_with, place_of, stops_of}
use Rattle.session.specs.declared.turns.TurnReply.{TurnReply}
use Rattle.session.specs.Stops.{IsLineOf}
use Rattle.session.specs.Turns.{replied}
use Rattle.session.proofs.Counting.{counts_coded}
use Rattle.session.proofs.Seats.{added_own, looked_nothing, looked_own}
use Rattle.session.proofs.Stopping.{commit_line}

-- ---- what is answered

module _ (given : Premise → Type 0) (before : History) (o : AtOpening) (whole : ℕ) (st : Item) (old new : Having) where
  -- a line that is answered as it was formed, where it has what is said of it
  pub answers_line : (line : Result (List ℕ) NoMemory) (P : List ℕ → Type 0) → IfOk line P
      → ((reply : List ℕ) → P reply → given is_told → given is_listed → (n : Outside) → AgreesWith (met_by o whole new) n → Takes n (before ++ new.seat.list) old.seat.number st (place_of before old.seat) (place_of before new.seat) reply)
      → LacksCommand (before ++ new.seat.list) old.seat.number st (place_of before old.seat) (place_of before new.seat) → AnswersAt given before o whole st old new line
  answers_line (Ok reply) P is takes lacks = λ told known n a. takes reply is told known n a
  answers_line (Err e) P is takes lacks = λ told known n a. lacks

-- who had no turn stands where it stood
module _ (before : History) (seat : View) where
  pub here_all : length (before ++ seat.list) ≡ place_of before seat
  here_all = length-append before seat.list

  pub here_nothing : AddsNothing (before ++ seat.list) seat.number (place_of before seat) (place_of before seat)
  here_nothing = let all = here_all in stays (before ++ seat.list) seat.number (place_of before seat) (omega (arith, all))

-- where memory ran out before any turn
pub answers_none : (given : Premise → Type 0) (before : History) (o : AtOpening) (whole : ℕ) (statement : Statement) (seat : View) (share : Tally) (arm later : ℕ) (e : NoMemory)
    → AnswersAt given before o whole (Ok statement) (having seat share arm) (having seat share later) (Err e)
answers_none given before o whole statement seat share arm later e = λ told known n a. inl (here_nothing before seat)

pub answers_none_result : (given : Premise → Type 0) (before : History) (o : AtOpening) (whole : ℕ) (statement : Statement) (seat : View) (share : Tally) (arm later : ℕ) (result : Result (List ℕ) NoMemory) → IsErr result
    → AnswersAt given before o whole (Ok statement) (having seat share arm) (having seat share later) result
answers_none_result given before o whole statement seat share arm later (Ok x) is = cc
answers_none_result given before o whole statement seat share arm later (Err e) is = answers_none given before o whole statement seat share arm later e

-- where memory ran out after a turn that only looked
pub answers_looked : (given : Premise → Type 0) (before : History) (o : AtOpening) (whole : ℕ) (statement : Statement) (seat now : View) (share : Tally) (arm later : ℕ) (e : NoMemory) → Looked seat now.list now → KnowsOwn seat
    → AnswersAt given before o whole (Ok statement) (having seat share arm) (having now share later) (Err e)
answers_looked given before o whole statement seat now share arm later e l own = λ told known n a. inl (looked_nothing before now.list seat now l own)

pub answers_looked_result : (given : Premise → Type 0) (before : History) (o : AtOpening) (whole : ℕ) (statement : Statement) (seat now : View) (share : Tally) (arm later : ℕ) → Looked seat now.list now → KnowsOwn seat
    → (result : Result (List ℕ) NoMemory) → IsErr result → AnswersAt given before o whole (Ok statement) (having seat share arm) (having now share later) result
answers_looked_result given before o whole statement seat now share arm later l own (Ok x) is = cc
answers_looked_result given before o whole statement seat now share arm later l own (Err e) is = answers_looked given before o whole statement seat now share arm later e l own

-- two turns that only looked are as one
pub looked_then : (u v w : View) (first second : List Entry) → Looked u first v → Looked v second w → Looked u second w
looked_then u v w first second a b =
    let on : Begins first second = subst (λ (l : List Entry). Begins l second) a.list b.begins in
    record {
      session = b.session;
      number = b.number ∙ a.number;
      made = b.made ∙ a.made;
      list = b.list;
      begins = begins_then u.list first second a.begins on;
      olds = All-weaker (λ (x : List Entry). Begins x first) (λ (x : List Entry). Begins x second) (λ x front. begins_then x first second front on) u.olds a.olds;
      kept = b.kept ∙ a.kept;
      mine = b.mine;
      named = b.named;
      tried = b.tried ∙ a.tried;
      knows = b.knows;
    }
  where
    begins_then : (x y z : List Entry) → Begins x y → Begins y z → Begins x z
    begins_then x y z (more, is) (rest, was) = (more ++ rest, sym (append_assoc x more rest) ∙ (ap (λ (l : List Entry). l ++ rest) is ∙ was))

-- ---- what stays

module _ (o : AtOpening) (whole : ℕ) where
  -- who only met faults of its arm
  pub stays_itself : (seat : View) (share : Tally) (arm later : ℕ) → IsSession seat → KnowsOwn seat → arm ≤ later → StaysSession o whole (having seat share arm) (having seat share later)
  stays_itself seat share arm later session own more = record {
    session = session;
    number = refl;
    made = refl;
    begins = ([], append-nil seat.list);
    own_is = own;
    parts = refl;
    out = refl;
    since = record { opened_is = refl; disk = omega arith; stops = omega arith; levels = omega arith; arm = more; company = λ others. others };
  }

  pub stays_here : (seat : View) (share : Tally) (arm : ℕ) → IsSession seat → KnowsOwn seat → StaysSession o whole (having seat share arm) (having seat share arm)
  stays_here seat share arm session own = stays_itself seat share arm arm session own (omega arith)

  -- who only looked, and met faults of its arm
  pub stays_looked : (seat now : View) (share : Tally) (arm later : ℕ) → Looked seat now.list now → arm ≤ later → StaysSession o whole (having seat share arm) (having now share later)
  stays_looked seat now share arm later l more = record {
    session = l.session;
    number = l.number;
    made = l.made;
    begins = l.begins;
    own_is = looked_own [] now.list seat now l;
    parts = refl;
    out = refl;
    since = record { opened_is = refl; disk = omega arith; stops = omega arith; levels = omega arith; arm = more; company = λ others. others };
  }

  -- what a share counted in a turn
  module _ (old new : Tally) (arm later stops levels rise : ℕ) (counted : new ≡ tally old.parts old.out (old.stops + stops) levels (old.faults + rise)) (up : old.levels ≤ levels) (more : arm ≤ later) (v w : View) where
    since_turn : MetSince (met_by o whole (having v old arm)) (met_by o whole (having w new later))
    since_turn = subst (λ (t : Tally). MetSince (met_by o whole (having v old arm)) (met_by o whole (having w t later))) (sym counted)
        (record { opened_is = refl; disk = omega arith; stops = omega arith; levels = up; arm = more; company = λ others. others })

    pub looked_stays : {last : Option Entry} (list : List Entry) → AddsNone v list last w → StaysSession o whole (having v old arm) (having w new later)
    looked_stays list l = record {
      session = l.session;
      number = l.number;
      made = l.made;
      begins = subst (Begins v.list) (sym l.list) l.begins;
      own_is = looked_own [] list v w l;
      parts = ap (λ (t : Tally). t.parts) counted;
      out = ap (λ (t : Tally). t.out) counted;
      since = since_turn;
    }

    pub added_stays : (list : List Entry) (e : Entry) → e.session ≡ v.number → KnowsOwn v → Added v list e w → StaysSession o whole (having v old arm) (having w new later)
    added_stays list e own_is knows a = record {
      session = a.session;
      number = a.number;
      made = a.made;
      begins = (a.begins.0 ++ e ∷ [], sym (append_assoc v.list a.begins.0 (e ∷ [])) ∙ (ap (λ (l : List Entry). l ++ e ∷ []) a.begins.1 ∙ sym a.list));
      own_is = added_own [] list v w e own_is a knows;
      parts = ap (λ (t : Tally). t.parts) counted;
      out = ap (λ (t : Tally). t.out) counted;
      since = since_turn;
    }

  -- one statement after another
  pub stays_then : (a b c : Having) → StaysSession o whole a b → StaysSession o whole b c → StaysSession o whole a c
  stays_then a b c first second = record {
    session = second.session;
    number = second.number ∙ first.number;
    made = second.made ∙ first.made;
    begins = (first.begins.0 ++ second.begins.0, sym (append_assoc a.seat.list first.begins.0 second.begins.0) ∙ (ap (λ (l : List Entry). l ++ second.begins.0) first.begins.1 ∙ second.begins.1));
    own_is = second.own_is;
    parts = second.parts ∙ first.parts;
    out = second.out ∙ first.out;
    since = record {
      opened_is = second.since.opened_is ∙ first.since.opened_is;
      disk = let low = first.since.disk in let high = second.since.disk in omega (arith, low, high);
      stops = let low = first.since.stops in let high = second.since.stops in omega (arith, low, high);
      levels = let low = first.since.levels in let high = second.since.levels in omega (arith, low, high);
      arm = let low = first.since.arm in let high = second.since.arm in omega (arith, low, high);
      company = λ others. second.since.company (first.since.company others);
    };
  }

-- ---- what accounts for a reply

-- which stops a line tells of by its number, and that it is no fault of the arm
stops_as : (m stops : ℕ) (reply : List ℕ) → code_of reply ≡ m → stops ≡ stops_of m → (m == 15) ≡ false → (stops ≡ stops_of (code_of reply)) × (code_of reply ≡ 15 → ⊥)
stops_as m stops reply code counted other = (counted ∙ ap stops_of (sym code), λ e. false≢true (sym other ∙ ap (λ (k : ℕ). k == 15) (sym code ∙ e)))

-- the numbers of the lines
unsettled_code : (accepted : ℕ) (reply : List ℕ) → reply ≡ refusal_line (refusal.Unsettled accepted) → code_of reply ≡ 16
unsettled_code accepted reply line = ap code_of line

stopped_code : (opened now accepted : ℕ) (reply : List ℕ) → reply ≡ refusal_line (refusal.Stopped opened now accepted) → code_of reply ≡ 17
stopped_code opened now accepted reply line = ap code_of line

exists_code : (table reply : List ℕ) → reply ≡ refusal_line (refusal.TableExists table) → code_of reply ≡ 3
exists_code table reply line = ap code_of line

past_code : (b : Bound) (reply : List ℕ) → reply ≡ refusal_line (refusal.Past b) → code_of reply ≡ 12
past_code b reply line = ap code_of line

full_code : (r : Room) (accepted : ℕ) (reply : List ℕ) → reply ≡ refusal_line (refusal.Full r accepted) → code_of reply ≡ 12
full_code r accepted reply line = ap code_of line

pub failed_code : (reply : List ℕ) → reply ≡ refusal_line refusal.Failed → code_of reply ≡ 15
failed_code reply line = ap code_of line

pub damaged_code : (table part file reply : List ℕ) → reply ≡ refusal_line (refusal.Damaged table part file) → code_of reply ≡ 19
damaged_code table part file reply line = ap code_of line

-- the same of the line of a command that was refused in its turn
pub line_stops : (accepted : ℕ) (table : List ℕ) (cause : Refused) (reply : List ℕ) → IsLineOf accepted table cause reply → (stops_in (Some cause) ≡ stops_of (code_of reply)) × (code_of reply ≡ 15 → ⊥)
line_stops accepted table refused.NoMemory reply line = absurd line
line_stops accepted table refused.Disk reply line = stops_as 16 1 reply (unsettled_code accepted reply line) refl refl
line_stops accepted table (refused.Stopped opened now) reply line = stops_as 17 1 reply (stopped_code opened now accepted reply line) refl refl
line_stops accepted table refused.Exists reply line = stops_as 3 0 reply (exists_code table reply line) refl refl
line_stops accepted table (refused.Limit limit.Tables) reply line = stops_as 12 0 reply (past_code bound.Tables reply line) refl refl
line_stops accepted table (refused.Limit limit.Parts) reply line = stops_as 12 0 reply (full_code room.Parts accepted reply line) refl refl
line_stops accepted table (refused.Limit limit.Numbers) reply line = stops_as 12 0 reply (full_code room.Numbers accepted reply line) refl refl
line_stops accepted table (refused.Limit limit.Levels) reply line = stops_as 12 0 reply (past_code bound.Levels reply line) refl refl

-- ---- what is counted

-- where the disk did not fail, and no call before the turn had, no fault was counted
pub no_rise : (failed calls out : ℕ) (cause : Option Refused) (old new : Tally) → Counts failed calls out cause old new → calls ≡ 0 → (cause ≡ Some refused.Disk → ⊥) → new.faults ≡ old.faults
no_rise failed calls out cause old new c none other =
    let still = c.calm none other in
    let counted = ap (λ (t : Tally). t.faults) c.counted in
    omega (arith, still, counted)

pub disk_alone : (c : Refused) → (c ≡ refused.Disk → ⊥) → Some c ≡ Some refused.Disk → ⊥
disk_alone c other is = let same : c ≡ refused.Disk = cc in other same

module _ (o : AtOpening) (whole : ℕ) (old new : Having) (Damage : List ℕ → Type 0) (later : old.arm ≤ new.arm) where
  -- by its number
  pub accounts_coded : (reply : List ℕ) (m : ℕ) → code_of reply ≡ m → (m ≡ 15 → Rose old.arm new.arm) → new.share.stops ≡ old.share.stops + stops_of m → CountsAt (met_by o whole old) (met_by o whole new) (Some reply) → (m == 19) ≡ false
      → AccountsAt o whole old new Damage (Ok reply)
  accounts_coded reply m is rose counted counts none = record {
    failed = λ e. rose (sym is ∙ e);
    stops = counted ∙ ap (λ (k : ℕ). old.share.stops + stops_of k) (sym is);
    counts = counts;
    damaged = λ bad. absurd (false≢true (sym none ∙ (ap (λ (k : ℕ). k == 19) (sym is) ∙ bad)));
    memory = tt;
    later = later;
  }

  -- what was accepted, where nothing was counted
  pub accounts_accepted : (reply : List ℕ) (place : ℕ) → reply ≡ ok_line place → new.share.stops ≡ old.share.stops + 0 → new.share.faults ≡ old.share.faults → new.share.levels ≡ old.share.levels → AccountsAt o whole old new Damage (Ok reply)
  accounts_accepted reply place ok counted faults levels = accounts_coded reply 0 (ap code_of ok) (λ no. cc) counted (counts_coded (met_by o whole old) (met_by o whole new) (ap (λ (k : ℕ). o.shared + k) faults) levels reply 0 (ap code_of ok) refl refl) refl

  -- a command that was, in its turn
  pub accounts_added : (failed calls out : ℕ) → Counts failed calls out None old.share new.share → calls ≡ 0 → (reply : List ℕ) (place : ℕ) → reply ≡ ok_line place → AccountsAt o whole old new Damage (Ok reply)
  accounts_added failed calls out c none reply place ok =
      let levels = ap (λ (t : Tally). t.levels) c.counted in
      accounts_accepted reply place ok (ap (λ (t : Tally). t.stops) c.counted) (no_rise failed calls out None old.share new.share c none (λ no. cc)) (omega (arith, levels))

  -- where none was formed
  pub accounts_without : (e : NoMemory) → new.arm ≡ old.arm → new.share.faults ≡ old.share.faults → AccountsAt o whole old new Damage (Err e)
  accounts_without e calm faults = record { failed = tt; stops = tt; counts = tt; damaged = tt; memory = (calm, faults); later = later }

  -- a command that was refused in its turn
  pub accounts_refused : (accepted : ℕ) (table : List ℕ) (cause : Refused) (reply : List ℕ) → IsLineOf accepted table cause reply → new.share.stops ≡ old.share.stops + stops_in (Some cause) → CountsAt (met_by o whole old) (met_by o whole new) (Some reply)
      → AccountsAt o whole old new Damage (Ok reply)
  accounts_refused accepted table cause reply line counted counts =
      let is = line_stops accepted table cause reply line in
      record {
        failed = λ e. absurd (is.1 e);
        stops = counted ∙ ap (λ (n : ℕ). old.share.stops + n) is.0;
        counts = counts;
        damaged = λ bad. absurd (false≢true (sym (commit_line accepted table cause reply line) ∙ bad));
        memory = tt;
        later = later;
      }

-- a line that was formed, where this is said of it
pub accounts_said : (o : AtOpening) (whole : ℕ) (old new : Having) (Damage : List ℕ → Type 0) → old.arm ≤ new.arm → new.arm ≡ old.arm → (line : Result (List ℕ) NoMemory) (P : List ℕ → Type 0) → IfOk line P
    → ((reply : List ℕ) → P reply → AccountsAt o whole old new Damage (Ok reply)) → IfErr line (λ _. new.share.faults ≡ old.share.faults) → AccountsAt o whole old new Damage line
accounts_said o whole old new Damage later calm (Ok reply) P is says faults = says reply is
accounts_said o whole old new Damage later calm (Err e) P is says faults = accounts_without o whole old new Damage later e calm faults

-- a turn that ended without a reply
pub accounts_ended : (o : AtOpening) (whole : ℕ) (old new : Having) (Damage : List ℕ → Type 0) → new.arm ≡ old.arm → new.share.faults ≡ old.share.faults → (result : Result TurnReply NoMemory) → IsErr result → AccountsAt o whole old new Damage (replied result)
accounts_ended o whole old new Damage calm faults (Ok x) is = cc
accounts_ended o whole old new Damage calm faults (Err e) is = accounts_without o whole old new Damage (omega (arith, calm)) e calm faults

pub accounts_none_at : (o : AtOpening) (whole : ℕ) (seat : View) (share : Tally) (arm : ℕ) (Damage : List ℕ → Type 0) (e : NoMemory) → AccountsAt o whole (having seat share arm) (having seat share arm) Damage (Err e)
accounts_none_at o whole seat share arm Damage e = accounts_without o whole (having seat share arm) (having seat share arm) Damage (omega arith) e refl refl

pub accounts_looked : (o : AtOpening) (whole : ℕ) (seat now : View) (share : Tally) (arm : ℕ) (Damage : List ℕ → Type 0) (e : NoMemory) → AccountsAt o whole (having seat share arm) (having now share arm) Damage (Err e)
accounts_looked o whole seat now share arm Damage e = accounts_without o whole (having seat share arm) (having now share arm) Damage (omega arith) e refl refl

pub accounts_looked_result : (o : AtOpening) (whole : ℕ) (seat now : View) (share : Tally) (arm : ℕ) (Damage : List ℕ → Type 0) (result : Result (List ℕ) NoMemory) → IsErr result → AccountsAt o whole (having seat share arm) (having now share arm) Damage result
accounts_looked_result o whole seat now share arm Damage (Ok x) is = cc
accounts_looked_result o whole seat now share arm Damage (Err e) is = accounts_looked o whole seat now share arm Damage e

-- a call that took no commit tells of no stop
none_stopped : (m : ℕ) → (m ≡ 16 → ⊥) → (m ≡ 17 → ⊥) → stops_of m ≡ 0
none_stopped m not other = by (m == 16) refl (m == 17) refl
  where
    by : (a : Bool) → (m == 16) ≡ a → (b : Bool) → (m == 17) ≡ b → stops_of m ≡ 0
    by true is b two = absurd (not (eqb-true m 16 is))
    by false is true two = absurd (other (eqb-true m 17 two))
    by false is false two = ap₂ (λ (a b : Bool). if a || b then 1 else 0) is two

module _ (o : AtOpening) (whole : ℕ) (seat now : View) (share : Tally) (before after : ℕ) (Damage : List ℕ → Type 0) where
  pub accounts_still_at : (result : Result (List ℕ) NoMemory) → ((opened disk : ℕ) → Accounts (still opened disk before after) Damage result) → AccountsAt o whole (having seat share before) (having now share after) Damage result
  accounts_still_at (Ok reply) has =
      let first = has 0 0 in
      let not_failed : code_of reply ≡ 16 → ⊥ = λ is. (let rose = (first.causes.unsettled is).1 in absurd (omega (arith, rose))) in
      let not_stopped : code_of reply ≡ 17 → ⊥ = λ is. (let risen = (first.causes.stopped is).risen in absurd (omega (arith, risen))) in
      let none : stops_of (code_of reply) ≡ 0 = none_stopped (code_of reply) not_failed not_stopped in
      record {
        failed = first.causes.failed;
        stops = omega (arith, none);
        counts = record { unsettled = λ is. absurd (not_failed is); stopped = λ is. absurd (not_stopped is); calm = λ no. refl; levels = inl refl };
        damaged = first.damaged;
        memory = tt;
        later = first.later;
      }
  accounts_still_at (Err e) has = let first = has 0 0 in record { failed = tt; stops = tt; counts = tt; damaged = tt; memory = (first.memory.1, refl); later = first.later }

-- ---- one turn after another

tally_same : (a b : Tally) → a.parts ≡ b.parts → a.out ≡ b.out → a.stops ≡ b.stops → a.levels ≡ b.levels → a.faults ≡ b.faults → a ≡ b
tally_same a b parts out stops levels faults =
    ap (λ (n : ℕ). tally n a.out a.stops a.levels a.faults) parts
    ∙ (ap (λ (n : ℕ). tally b.parts n a.stops a.levels a.faults) out
    ∙ (ap (λ (n : ℕ). tally b.parts b.out n a.levels a.faults) stops
    ∙ (ap (λ (n : ℕ). tally b.parts b.out b.stops n a.faults) levels ∙ ap (λ (n : ℕ). tally b.parts b.out b.stops b.levels n) faults)))

some_same : (x y : List ℕ) → Some x ≡ Some y → x ≡ y
some_same x y is = cc

-- nothing is counted where a command was accepted
pub accepted_share : (o : AtOpening) (whole : ℕ) (old new : Having) (Damage : List ℕ → Type 0) (reply : List ℕ) (place : ℕ) → reply ≡ ok_line place → AccountsAt o whole old new Damage (Ok reply) → StaysSession o whole old new → new.share ≡ old.share
accepted_share o whole old new Damage reply place ok has stays =
    let code : code_of reply ≡ 0 = ap code_of ok in
    let none : stops_of (code_of reply) ≡ 0 = ap stops_of code in
    let counted = has.stops in
    let disk = has.counts.calm (λ is. let bad : 0 ≡ 16 = sym code ∙ is in cc) in
    tally_same new.share old.share stays.parts stays.out (omega (arith, counted, none)) (levels code has.counts.levels) (omega (arith, disk))
  where
    levels : code_of reply ≡ 0 → (new.share.levels ≡ old.share.levels) ⊎ ((Some reply ≡ Some (refusal_line (refusal.Past bound.Levels))) × (new.share.levels ≡ old.share.levels + 1)) → new.share.levels ≡ old.share.levels
    levels code (inl same) = same
    levels code (inr past) =
        let line : reply ≡ refusal_line (refusal.Past bound.Levels) = some_same reply (refusal_line (refusal.Past bound.Levels)) past.0 in
        let bad : 0 ≡ 12 = sym code ∙ past_code bound.Levels reply line in
        cc

-- from before turns that counted nothing, and in which no call of the arm failed, to the same arm
module _ (o : AtOpening) (whole : ℕ) (a b : Having) (seat : View) (share : Tally) (mid later : ℕ) (Damage : List ℕ → Type 0) (shares : b.share ≡ a.share) (arm : b.arm ≡ a.arm) (same : later ≡ mid) where
  counts_from : (reply : Option (List ℕ)) → CountsAt (met_by o whole b) (met_by o whole (having seat share mid)) reply → CountsAt (met_by o whole a) (met_by o whole (having seat share later)) reply
  counts_from reply has =
      let was = subst (λ (t : Tally). CountsAt (met_with o whole t b.arm) (met_with o whole share mid) reply) shares has in
      record { unsettled = was.unsettled; stopped = was.stopped; calm = was.calm; levels = was.levels }

  pub accounts_from : (result : Result (List ℕ) NoMemory) → AccountsAt o whole b (having seat share mid) Damage result → AccountsAt o whole a (having seat share later) Damage result
  accounts_from (Ok reply) has = record {
    failed = λ is. let rose = has.failed is in omega (arith, rose, arm, same);
    stops = has.stops ∙ ap (λ (t : Tally). t.stops + stops_of (code_of reply)) shares;
    counts = counts_from (Some reply) has.counts;
    damaged = has.damaged;
    memory = tt;
    later = let low = has.later in omega (arith, low, arm, same);
  }
  accounts_from (Err e) has = record {
    failed = tt;
    stops = tt;
    counts = tt;
    damaged = tt;
    memory = (same ∙ (has.memory.0 ∙ arm), has.memory.1 ∙ ap (λ (t : Tally). t.faults) shares);
    later = let low = has.later in omega (arith, low, arm, same);
  }

-- the same with another count of the arm that equals it
pub stays_arm : (o : AtOpening) (whole : ℕ) (old : Having) (seat : View) (share : Tally) (mid later : ℕ) → later ≡ mid → StaysSession o whole old (having seat share mid) → StaysSession o whole old (having seat share later)
stays_arm o whole old seat share mid later same stays = subst (λ (n : ℕ). StaysSession o whole old (having seat share n)) (sym same) stays
