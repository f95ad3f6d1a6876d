-- The turns of an INSERT's parts in a session, one after another, until all were accepted or one was not.
use Rattle.std.proofs.Common.{◌≡◌, ◌⊎◌, ℕ, ◌+◌, ◌-◌, ◌≤◌, List, [], ◌∷◌, ◌++◌, All, length, map, take, Some, Ok, Err, inl, inr, refl, sym, ap, ◌∙◌, subst, arith, append-nil, append_assoc, length-append, Option, Result}
use Rattle.std.proofs.lemmas.List.{length-map, length-reverse, map-append, take_all, take_at}
use Rattle.std.proofs.lemmas.List.Elements.{All-head, All-tail}
use Rattle.mt_base.specs.declared.memory.NoMemory.{NoMemory}
use Rattle.mt_values.specs.declared.command.Command.{Command}
use Rattle.mt_values.specs.declared.command.Entry.{Entry}
use Rattle.mt_values.specs.declared.schema.Schema.{Schema}
use Rattle.mt_values.specs.declared.statement.Statement.{Statement}
use Rattle.replies.specs.mt_model.Commands.{commands_of}
use Rattle.replies.specs.mt_model.History.{History}
use Rattle.replies.specs.mt_model.Outside.{Outside}
use Rattle.replies.specs.mt_model.Reply.{ok_line}
use Rattle.replies.specs.mt_model.Session.{Accepts, Adds, AddsNothing, IsNextCommand, RefusedInTurn, StopsAfter, TakesCommands, TurnAllows}
use Rattle.replies.specs.Foreseen.{AgreesWith}
use Rattle.replies.proofs.MtModelGrowing.{accepts_more, nothing_more, stays}
use Rattle.merge_workers.specs.shared_store.durable_commit.Commits.{entry_of}
use Rattle.merge_workers.specs.shared_store.history_seat.declared.view.View.{View}
use Rattle.merge_workers.specs.shared_store.history_seat.Turns.{Added, AddsNone}
use Rattle.merge_workers.specs.shared_store.history_seat.Views.{Begins, own as own_entries}
use Rattle.merge_workers.specs.shared_store.Handed.{MayEnter}
use Rattle.merge_workers.specs.shared_store.Sharing.{AtOpening, schema_there}
use Rattle.merge_workers.specs.shared_store.Stood.{Premise, is_listed, is_told}
use Rattle.session.specs.declared.sealing.SealedBlock.{SealedBlock}
use Rattle.session.specs.declared.turns.TurnReply.{TurnReply}
use Rattle.session.specs.declared.turns.TurnReply.TheVariants.{Accepted, Refused}
use Rattle.session.specs.Answers.{Having, LacksCommand, MayHaveTurnsAt, SaysTried, StaysSession, TriesCommand, TriesFrom, TriesNone, TurnAt, met_by, place_of}
use Rattle.session.specs.Turns.{IsPartFor, IsRowsFor, commands_in_turn, in_turn, part_command, replied}
use Rattle.merge_workers.proofs.SharedStoreSchemas.{there_begins}
use Rattle.session.proofs.Answering.{stays_then}
use Rattle.session.proofs.Commits.{added_front, looked_at}
use Rattle.session.proofs.Seats.{added_one}
use Rattle.session.proofs.Stacking.{all_after, first_turn}

-- one more command is accepted after others
pub accepts_last : (h : History) (s : ℕ) (done : List Command) (c : Command) (from place to : ℕ) → Accepts h s done from place → TurnAllows (take (to - 1) h) c → Adds h s c place to → Accepts h s (done ++ c ∷ []) from to
accepts_last h s [] c from place to a turn added = (to, turn, subst (λ (m : ℕ). Adds h s c m to) (sym a) added, refl)
accepts_last h s (d ∷ done) c from place to a turn added = (a.0, a.1, a.2, accepts_last h s done c a.0 place to a.3 turn added)

-- ---- commands that were accepted, by what seats know

-- from one moment to another the session's turns accepted these commands and no others
abbrev pub AcceptsTo : History → ℕ → List Command → View → View → Type 0
AcceptsTo before number done v w = Accepts (before ++ w.list) number done (place_of before v) (place_of before w)

module _ (before : History) (number : ℕ) (done : List Command) (u v w : View) (b : Begins v.list w.list) (own_is : v.number ≡ number) (accepts : AcceptsTo before number done u v) where
  more_is : (before ++ v.list) ++ b.0 ≡ before ++ w.list
  more_is = append_assoc before v.list b.0 ∙ ap (λ (l : History). before ++ l) b.1

  -- they stay so
  pub accepted_before : Accepts (before ++ w.list) number done (place_of before u) (place_of before v)
  accepted_before = subst (λ (h : History). Accepts h number done (place_of before u) (place_of before v)) more_is (accepts_more (before ++ v.list) b.0 number done (place_of before u) (place_of before v) accepts)

  -- and one more is
  pub accepts_one : (c : Command) (found : History) (a : Added v found (entry_of v.number c) w) → v.mine ≡ own_entries v.number v.list → TurnAllows (before ++ found) c → AcceptsTo before number (done ++ c ∷ []) u w
  accepts_one c found a knows allows =
      let e = entry_of v.number c in
      let turn : TurnAllows (take (place_of before w - 1) (before ++ w.list)) c = subst (λ (h : History). TurnAllows h c) (sym (added_front before found v w e a)) allows in
      let adds : Adds (before ++ w.list) number c (place_of before v) (place_of before w) = subst (λ (s : ℕ). Adds (before ++ w.list) s c (place_of before v) (place_of before w)) own_is (added_one before found v w e refl a knows) in
      accepts_last (before ++ w.list) number done c (place_of before u) (place_of before v) (place_of before w) accepted_before turn adds

-- ---- what was tried, one turn after another

pub tries_then : (old mid new : Having) → TriesNone old mid → TriesNone mid new → TriesNone old new
tries_then old mid new first (inr none) = inr none
tries_then old mid new (inl (was, kept)) (inl (is, same)) = inl (is ∙ was, same ∙ kept)
tries_then old mid new (inr none) (inl (is, same)) = inr (is ∙ none)

-- ---- a statement whose first commands were accepted

module _ (before : History) (number : ℕ) (said : Statement) (from : ℕ) (u w : View) (b : Begins u.list w.list) (nothing : AddsNothing (before ++ u.list) number from (place_of before u)) where
  abbrev h : History
  h = before ++ w.list

  since : (before ++ u.list) ++ b.0 ≡ h
  since = append_assoc before u.list b.0 ∙ ap (λ (l : History). before ++ l) b.1

  nothing_then : AddsNothing h number from (place_of before u)
  nothing_then = subst (λ (x : History). AddsNothing x number from (place_of before u)) since (nothing_more (before ++ u.list) b.0 number from (place_of before u) nothing)

  front_is : take (place_of before u) h ≡ before ++ u.list
  front_is = ap (take (place_of before u)) (sym since) ∙ take_at (before ++ u.list) b.0 (place_of before u) (length-append before u.list)

  whole_is : take (place_of before w) h ≡ h
  whole_is = let all = length-append before w.list in take_all (place_of before w) h (omega (arith, all))

  -- all of them were
  pub all_of : (n : Outside) (commands : List Command) (reply : List ℕ) → commands_of (before ++ u.list) said ≡ Ok commands → AcceptsTo before number commands u w → reply ≡ ok_line (place_of before w)
      → TakesCommands n h number said from (place_of before w) reply
  all_of n commands reply gives accepts ok = inl (
    ok,
    record {
      seen = place_of before u;
      commands = commands;
      nothing = nothing_then;
      gives = ap (λ (x : History). commands_of x said) front_is ∙ gives;
      accepted = accepts;
    },
  )

  -- the next one was not
  module _ (v : View) (done : List Command) (next : Command) (rest : List Command) (gives : commands_of (before ++ u.list) said ≡ Ok (done ++ next ∷ rest))
      (accepts : Accepts h number done (place_of before u) (place_of before v)) (no_more : AddsNothing h number (place_of before v) (place_of before w)) where
    pub stops_at : StopsAfter h number said from (place_of before w) done (next ∷ rest)
    stops_at = record {
      seen = place_of before u;
      place = place_of before v;
      nothing = nothing_then;
      gives = ap (λ (x : History). commands_of x said) front_is ∙ gives;
      accepted = accepts;
      no_more = no_more;
    }

    pub refused_next : (n : Outside) (reply : List ℕ) (accepted : ℕ) → accepted ≡ length done → RefusedInTurn n h accepted next reply → TakesCommands n h number said from (place_of before w) reply
    refused_next n reply accepted count turn =
        inr (inr (inr (done, next, rest, stops_at, subst (λ (k : ℕ). RefusedInTurn n (take (place_of before w) h) k next reply) count (subst (λ (x : History). RefusedInTurn n x accepted next reply) (sym whole_is) turn))))

    pub is_next : IsNextCommand h number (Ok said) from (place_of before w) next
    is_next = (done, rest, stops_at)

    pub lacks_next : LacksCommand h number (Ok said) from (place_of before w)
    lacks_next = inr (next, is_next)

-- ---- the turns of parts

-- From what a session had, the turns of parts of a table were taken as far as what it has: some parts are left, and so many were accepted.
pub record Ran {S : Type 0} (given : Premise → Type 0) (before : History) (o : AtOpening) (whole : ℕ) (table : List ℕ) (all left : List (SealedBlock S)) (old here : Having) (accepted : ℕ) : Type 0 where
  pub done : List (SealedBlock S)
  pub split : in_turn all ≡ done ++ in_turn left
  pub count : accepted ≡ length done
  pub stays : StaysSession o whole old here
  pub accepts : (schema : Schema) → schema_there o.tables old.seat.list table ≡ Some schema → given is_told → given is_listed → AcceptsTo before old.seat.number (map (part_command schema table) done) old.seat here.seat

module _ {S : Type 0} (given : Premise → Type 0) (before : History) (o : AtOpening) (whole : ℕ) (table : List ℕ) (all : List (SealedBlock S)) (old : Having) where
  -- no turn was taken
  pub ran_none : StaysSession o whole old old → Ran given before o whole table all all old old 0
  ran_none same = record { done = []; split = refl; count = refl; stays = same; accepts = λ schema there told known. refl }

  module _ (left : List (SealedBlock S)) (here : Having) (accepted : ℕ) (r : Ran given before o whole table all left old here accepted) where
    -- all turns were taken
    all_commands : (schema : Schema) → left ≡ [] → commands_in_turn schema table all ≡ map (part_command schema table) r.done
    all_commands schema none = ap (map (part_command schema table)) (r.split ∙ (ap (λ (ps : List (SealedBlock S)). r.done ++ in_turn ps) none ∙ append-nil r.done))

    pub ran_all : (schema : Schema) → schema_there o.tables old.seat.list table ≡ Some schema → left ≡ [] → (said : Statement) → commands_of (before ++ old.seat.list) said ≡ Ok (commands_in_turn schema table all)
        → (from : ℕ) → AddsNothing (before ++ old.seat.list) old.seat.number from (place_of before old.seat) → (n : Outside) (reply : List ℕ) → reply ≡ ok_line (place_of before here.seat) → given is_told → given is_listed
        → TakesCommands n (before ++ here.seat.list) old.seat.number said from (place_of before here.seat) reply
    ran_all schema there none said gives from nothing n reply ok told known =
        all_of before old.seat.number said from old.seat here.seat r.stays.begins nothing n (map (part_command schema table) r.done) reply (gives ∙ ap Ok (all_commands schema none)) (r.accepts schema there told known) ok

    -- the table has its schema still
    pub still_there : (schema : Schema) → schema_there o.tables old.seat.list table ≡ Some schema → schema_there o.tables here.seat.list table ≡ Some schema
    still_there schema there = there_begins o.tables old.seat.list here.seat.list table schema r.stays.begins there

    -- a part has its turn
    module _ (rest : List (SealedBlock S)) (s : SealedBlock S) (popped : left ≡ rest ++ s ∷ []) where
      next_split : in_turn all ≡ r.done ++ s ∷ in_turn rest
      next_split = r.split ∙ ap (λ (ps : List (SealedBlock S)). r.done ++ ps) (first_turn left rest s popped)

      -- what all parts have it has, and so do those that are left
      pub of_next : (P : SealedBlock S → Type 0) → All P (in_turn all) → P s
      of_next P has = All-head P s (in_turn rest) (all_after P r.done (s ∷ in_turn rest) (subst (All P) next_split has))

      pub of_rest : (P : SealedBlock S → Type 0) → All P (in_turn all) → All P (in_turn rest)
      of_rest P has = All-tail P s (in_turn rest) (all_after P r.done (s ∷ in_turn rest) (subst (All P) next_split has))

      -- so many were accepted that one more can be counted
      pub ran_counted : accepted + 1 ≤ length all
      ran_counted =
          let parts = ap length next_split in
          let turns = length-append r.done (s ∷ in_turn rest) in
          let turned = length-reverse all in
          let count = r.count in
          omega (arith, parts, turns, turned, count)

      -- it may be added
      pub may_enter : MayHaveTurnsAt given o.tables old.seat.list table all → MayEnter given o.tables here.seat.list table s.block s.part.sealed s.part.loaded
      may_enter may = record {
        schema = may.schema;
        there = still_there may.schema may.there;
        rows = of_next (IsRowsFor may.schema table) may.rows;
        sealed_is = λ told. of_next (IsPartFor may.schema) (may.sealed told);
      }

      module _ (new : Having) (turn : StaysSession o whole here new) where
        ran_stays : StaysSession o whole old new
        ran_stays = stays_then o whole old here new r.stays turn

        -- it was accepted
        pub ran_on : (line : List ℕ) → ((schema : Schema) → schema_there o.tables here.seat.list table ≡ Some schema → TurnAt given before o whole (part_command schema table s) accepted here new (Ok (Accepted line)))
            → Ran given before o whole table all rest old new (accepted + 1)
        ran_on line turns = record {
          done = r.done ++ s ∷ [];
          split = next_split ∙ sym (append_assoc r.done (s ∷ []) (in_turn rest));
          count = let count = r.count in omega (arith, count, length-append r.done (s ∷ []));
          stays = ran_stays;
          accepts = λ schema there told known.
              let f = part_command schema table in
              let t = turns schema (still_there schema there) in
              subst (λ (cs : List Command). AcceptsTo before old.seat.number cs old.seat new.seat) (sym (map-append f r.done (s ∷ [])))
              (accepts_one before old.seat.number (map f r.done) old.seat here.seat new.seat turn.begins r.stays.number (r.accepts schema there told known) (f s) t.0 t.1 r.stays.own_is (t.3 told known));
        }

        -- it was not
        module _ (schema : Schema) (there : schema_there o.tables old.seat.list table ≡ Some schema) (said : Statement) (gives : commands_of (before ++ old.seat.list) said ≡ Ok (commands_in_turn schema table all))
            (from : ℕ) (nothing : AddsNothing (before ++ old.seat.list) old.seat.number from (place_of before old.seat)) where
          abbrev f : SealedBlock S → Command
          f = part_command schema table

          gives_next : commands_of (before ++ old.seat.list) said ≡ Ok (map f r.done ++ f s ∷ map f (in_turn rest))
          gives_next = gives ∙ ap Ok (ap (map f) next_split ∙ map-append f r.done (s ∷ in_turn rest))

          accepts_then : given is_told → given is_listed → Accepts (before ++ new.seat.list) old.seat.number (map f r.done) (place_of before old.seat) (place_of before here.seat)
          accepts_then told known = accepted_before before old.seat.number (map f r.done) old.seat here.seat new.seat turn.begins r.stays.number (r.accepts schema there told known)

          looked_here : {last : Option Entry} (found : History) → AddsNone here.seat found last new.seat → AddsNothing (before ++ new.seat.list) old.seat.number (place_of before here.seat) (place_of before new.seat)
          looked_here found l = subst (λ (k : ℕ). AddsNothing (before ++ new.seat.list) k (place_of before here.seat) (place_of before new.seat)) r.stays.number (looked_at before found here.seat new.seat l r.stays.own_is)

          pub ran_refused : (reply : List ℕ) → TurnAt given before o whole (f s) accepted here new (Ok (Refused reply)) → (n : Outside) → AgreesWith (met_by o whole new) n → given is_told → given is_listed
              → TakesCommands n (before ++ new.seat.list) old.seat.number said from (place_of before new.seat) reply
          ran_refused reply (found, last, l, refuses) n agrees told known =
              refused_next before old.seat.number said from old.seat new.seat ran_stays.begins nothing here.seat (map f r.done) (f s) (map f (in_turn rest)) gives_next (accepts_then told known) (looked_here found l) n reply accepted
              (r.count ∙ sym (length-map r.done f)) (subst (λ (x : History). RefusedInTurn n (before ++ x) accepted (f s) reply) (sym l.list) (refuses told known n agrees))

          nothing_by : (new.seat ≡ here.seat) ⊎ ((found : History) × (last : Option Entry) × AddsNone here.seat found last new.seat) → AddsNothing (before ++ new.seat.list) old.seat.number (place_of before here.seat) (place_of before new.seat)
          nothing_by (inl same) =
              subst (λ (v : View). AddsNothing (before ++ new.seat.list) old.seat.number (place_of before v) (place_of before new.seat)) same
              (let all = length-append before new.seat.list in stays (before ++ new.seat.list) old.seat.number (place_of before new.seat) (omega (arith, all)))
          nothing_by (inr (found, last, l)) = looked_here found l

          -- it is the next command of its statement
          next_here : AddsNothing (before ++ new.seat.list) old.seat.number (place_of before here.seat) (place_of before new.seat) → given is_told → given is_listed
              → IsNextCommand (before ++ new.seat.list) old.seat.number (Ok said) from (place_of before new.seat) (f s)
          next_here no_more told known = is_next before old.seat.number said from old.seat new.seat ran_stays.begins nothing here.seat (map f r.done) (f s) (map f (in_turn rest)) gives_next (accepts_then told known) no_more

          -- memory ran out
          pub ran_ended : (e : NoMemory) → TurnAt given before o whole (f s) accepted here new (Err e) → given is_told → given is_listed → LacksCommand (before ++ new.seat.list) old.seat.number (Ok said) from (place_of before new.seat)
          ran_ended e ended told known =
              lacks_next before old.seat.number said from old.seat new.seat ran_stays.begins nothing here.seat (map f r.done) (f s) (map f (in_turn rest)) gives_next (accepts_then told known) (nothing_by ended)

        -- what the statement tried, by what the turn did
        module _ (schema : Schema) (there : schema_there o.tables old.seat.list table ≡ Some schema) (said : Statement) (gives : given is_told → given is_listed → commands_of (before ++ old.seat.list) said ≡ Ok (commands_in_turn schema table all))
            (from : ℕ) (nothing : AddsNothing (before ++ old.seat.list) old.seat.number from (place_of before old.seat)) where
          abbrev tried_now : Command
          tried_now = part_command schema table s

          tried_by : (result : Result TurnReply NoMemory) → TurnAt given before o whole tried_now accepted here new result
              → (new.seat.tried ≡ Some (entry_of here.seat.number tried_now)) × (new.seat.mine ≡ here.seat.mine) × SaysTried new.share.stops (replied result) → TriesFrom given before (Ok said) from old new (replied result)
          tried_by (Ok (Accepted reply)) (found, added, ok, allows) tried = inl (inr added.tried)
          tried_by (Ok (Refused reply)) (found, last, l, refuses) tried =
              inr (tried_now, tried.0 ∙ ap (λ (k : ℕ). Some (entry_of k tried_now)) r.stays.number, tried.2, λ told known. let is = gives told known in next_here schema there said is from nothing (looked_here schema there said is from nothing found l) told known)
          tried_by (Err e) at tried =
              inr (tried_now, tried.0 ∙ ap (λ (k : ℕ). Some (entry_of k tried_now)) r.stays.number, tried.2, λ told known. let is = gives told known in next_here schema there said is from nothing (nothing_by schema there said is from nothing at) told known)

          pub ran_tries : (result : Result TurnReply NoMemory) → TurnAt given before o whole tried_now accepted here new result → TriesNone old here → TriesCommand tried_now here new (replied result) → TriesFrom given before (Ok said) from old new (replied result)
          ran_tries result at was (inl none) = inl (tries_then old here new was none)
          ran_tries result at was (inr tried) = tried_by result at tried
