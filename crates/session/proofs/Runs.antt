-- One more statement of a session.
use Rattle.std.proofs.Common.{◌≡◌, ◌⊎◌, ◌==◌, ◌||◌, if◌then◌else◌, ℕ, ◌+◌, ◌<◌, Bool, true, false, List, [], ◌∷◌, ◌++◌, length, take, Ok, Err, inl, inr, refl, sym, ap, ◌∙◌, subst, arith, append_assoc, append-nil, length-append, reverse, Option, Result}
use Rattle.std.specs.List.{list_any}
use Rattle.std.proofs.lemmas.List.{reverse-append, take_all, take-append-le}
use Rattle.mt_base.specs.declared.memory.NoMemory.{NoMemory}
use Rattle.mt_values.specs.declared.command.Entry.{Entry}
use Rattle.mt_values.specs.Script.{Item}
use Rattle.mt_outside.specs.Files.{Files}
use Rattle.replies.specs.mt_model.History.{History}
use Rattle.replies.specs.mt_model.Refusals.{code_of, is_damage}
use Rattle.replies.specs.mt_model.Session.{IsNextCommand, SessionReplies, Takes, Unanswered}
use Rattle.replies.specs.Foreseen.{is_unsettled}
use Rattle.replies.proofs.Meeting.{agrees_before, some_agrees}
use Rattle.replies.proofs.MtModelGained.{next_more}
use Rattle.replies.proofs.MtModelReplies.{replies_append, replies_more}
use Rattle.merge_workers.specs.shared_store.durable_commit.Commits.{entry_of}
use Rattle.merge_workers.specs.shared_store.history_seat.Turns.{IsSession}
use Rattle.merge_workers.specs.shared_store.history_seat.Views.{Begins, own}
use Rattle.merge_workers.specs.shared_store.history_seat.declared.view.View.{View}
use Rattle.merge_workers.specs.shared_store.Sharing.{AtOpening}
use Rattle.merge_workers.specs.shared_store.Stood.{Premise, is_held, is_told}
use Rattle.merge_workers.specs.shared_store.Tallies.{Tally}
use Rattle.session.specs.Runs.{EndsRun, HasRun, IsTried, RanTo, StandsStill, TriedLast, stops_told}
use Rattle.session.specs.Answers.{AccountsAt, AnswersAt, Having, KnowsOwn, LacksCommand, StaysSession, SaysTried, StaysStopped, TellsAt, TriesAt, having, met_by, place_of, stops_of}
use Rattle.session.proofs.Answering.{stays_here, stays_then}
use Rattle.session.proofs.Running.{tries_then}
use Rattle.session.proofs.Undamaged.{tells_not}

-- ---- lists of replies

pub any_last : {X : Type 0} (p : X → Bool) (xs : List X) (y : X) → list_any p (xs ++ y ∷ []) ≡ (list_any p xs || p y)
any_last p [] y = or_none (p y)
  where
    or_none : (b : Bool) → (b || false) ≡ b
    or_none true = refl
    or_none false = refl
any_last p (x ∷ xs) y = ap (λ b. p x || b) (any_last p xs y) ∙ or_assoc (p x) (list_any p xs) (p y)
  where
    or_assoc : (a b c : Bool) → (a || (b || c)) ≡ ((a || b) || c)
    or_assoc true b c = refl
    or_assoc false b c = refl

-- an item of a list with one more at its end is that one, or one before it
pub last_or_earlier : {X : Type 0} (xs : List X) (y : X) (front : List X) (x : X) (more : List X) → xs ++ y ∷ [] ≡ front ++ x ∷ more
    → ((xs ≡ front) × (y ≡ x) × (more ≡ [])) ⊎ ((rest : List X) × (xs ≡ front ++ x ∷ rest) × (more ≡ rest ++ y ∷ []))
last_or_earlier [] y [] x [] is = let same : y ≡ x = cc in inl (refl, same, refl)
last_or_earlier [] y [] x (z ∷ more) is = cc
last_or_earlier [] y (z ∷ []) x more is = cc
last_or_earlier [] y (z ∷ w ∷ front) x more is = cc
last_or_earlier (z ∷ xs) y [] x more is =
    let same : z ≡ x = cc in
    let rest : more ≡ xs ++ y ∷ [] = cc in
    inr (xs, ap (λ w. w ∷ xs) same, rest)
last_or_earlier (z ∷ xs) y (w ∷ front) x more is =
    let same : z ≡ w = cc in
    let rest : xs ++ y ∷ [] ≡ front ++ x ∷ more = cc in
    elim (last_or_earlier xs y front x more rest) [
      | inl both ↦ inl (ap (λ ws. z ∷ ws) both.0 ∙ ap (λ v. v ∷ front) same, both.1, both.2)
      | inr before ↦ inr (before.0, ap (λ ws. z ∷ ws) before.1 ∙ ap (λ v. v ∷ (front ++ x ∷ before.0)) same, before.2)
    ]

told_last : (replies : List (List ℕ)) (reply : List ℕ) → stops_told (replies ++ reply ∷ []) ≡ stops_told replies + stops_of (code_of reply)
told_last [] reply = omega arith
told_last (x ∷ replies) reply = let rest = told_last replies reply in omega (arith, rest)

-- which stop a reply tells of where it says that a commit failed
one_told : (reply : List ℕ) → is_unsettled reply ≡ true → stops_of (code_of reply) ≡ 1
one_told reply is = ap (λ (b : Bool). if b || (code_of reply == 17) then 1 else 0) is

pub some_told : (front rest : List (List ℕ)) (reply : List ℕ) → is_unsettled reply ≡ true → 0 < stops_told (front ++ reply ∷ rest)
some_told [] rest reply is = let one = one_told reply is in omega (arith, one)
some_told (x ∷ front) rest reply is = let some = some_told front rest reply is in omega (arith, some)

-- where one of the replies says that a commit failed, they tell of a stop
pub any_told : (replies : List (List ℕ)) → list_any is_unsettled replies ≡ true → 0 < stops_told replies
any_told [] some = cc
any_told (reply ∷ replies) some = by (is_unsettled reply) refl (λ (later : list_any is_unsettled replies ≡ true). any_told replies later)
  where
    by : (b : Bool) → is_unsettled reply ≡ b → (list_any is_unsettled replies ≡ true → 0 < stops_told replies) → 0 < stops_of (code_of reply) + stops_told replies
    by true is more = let one = one_told reply is in omega (arith, one)
    by false is more = let rest = more (ap (λ (b : Bool). b || list_any is_unsettled replies) (sym is) ∙ some) in omega (arith, rest)

-- ---- statements that are left, the last of them the next

pub reverse_twice : {X : Type 0} (xs : List X) → reverse (reverse xs) ≡ xs
reverse_twice [] = refl
reverse_twice (x ∷ xs) = ap reverse (reverse-append (x ∷ []) xs) ∙ (reverse-append (reverse xs) (x ∷ []) ∙ ap (λ ys. x ∷ ys) (reverse_twice xs))

pub next_first : {X : Type 0} (all rest : List X) (x : X) → all ≡ rest ++ x ∷ [] → reverse all ≡ x ∷ reverse rest
next_first all rest x is = ap reverse is ∙ reverse-append rest (x ∷ [])

-- ---- nothing ran yet

pub has_run_none : (given : Premise → Type 0) (before : History) (o : AtOpening) (whole : ℕ) (seat : View) (share : Tally) (arm : ℕ) → IsSession seat → KnowsOwn seat
    → HasRun given before o whole [] [] (having seat share arm) (having seat share arm)
has_run_none given before o whole seat share arm session own_is = record {
  each = λ told known n a. refl;
  many = refl;
  stays = stays_here o whole seat share arm session own_is;
  stops = omega arith;
  stopped = none;
  tried = inl (inl (refl, refl));
  sound = λ told held. refl;
}
  where
    none : (front more : List (List ℕ)) (reply : List ℕ) → [] ≡ front ++ reply ∷ more → is_unsettled reply ≡ true
        → StandsStill given before o whole (take (length front + 1) []) (front ++ reply ∷ []) (having seat share arm) (having seat share arm) × (list_any is_unsettled more ≡ false)
    none [] more reply is said = cc
    none (x ∷ front) more reply is said = cc

-- ---- one more

module _ (given : Premise → Type 0) (before : History) (o : AtOpening) (whole : ℕ) (ran : List Item) (replies : List (List ℕ)) (old mid new : Having) (r : HasRun given before o whole ran replies old mid) (stays : StaysSession o whole mid new) where
  grown : (before ++ mid.seat.list) ++ stays.begins.0 ≡ before ++ new.seat.list
  grown = append_assoc before mid.seat.list stays.begins.0 ∙ ap (λ (l : History). before ++ l) stays.begins.1

  -- what ran so far ran so over the history as it is then
  pub longer : (statements : List Item) (said : List (List ℕ)) (place : ℕ) → RanTo given before o whole statements said old mid place → RanTo given before o whole statements said old new place
  longer statements said place was = λ told known n a.
      subst (λ (h : History). SessionReplies n h old.seat.number statements (place_of before old.seat) place said) grown
      (replies_more n (before ++ mid.seat.list) stays.begins.0 old.seat.number statements (place_of before old.seat) place said (was told known n (agrees_before (met_by o whole mid) (met_by o whole new) n stays.since a)))

  -- what was stopped before is stopped still
  module _ (kept : 0 < mid.share.stops → new.seat.mine ≡ mid.seat.mine) where
    same_own : 0 < mid.share.stops → own old.seat.number new.seat.list ≡ own old.seat.number mid.seat.list
    same_own some =
        let here : mid.seat.mine ≡ own old.seat.number mid.seat.list = r.stays.own_is ∙ ap (λ (n : ℕ). own n mid.seat.list) r.stays.number in
        let then_is : new.seat.mine ≡ own old.seat.number new.seat.list = stays.own_is ∙ ap (λ (n : ℕ). own n new.seat.list) (stays.number ∙ r.stays.number) in
        sym then_is ∙ (kept some ∙ here)

    begins_on : (front : History) → Begins front mid.seat.list → Begins front new.seat.list
    begins_on front b = (b.0 ++ stays.begins.0, sym (append_assoc front b.0 stays.begins.0) ∙ (ap (λ (l : History). l ++ stays.begins.0) b.1 ∙ stays.begins.1))

    pub still : (statements : List Item) (said : List (List ℕ)) → 0 < mid.share.stops → StandsStill given before o whole statements said old mid → StandsStill given before o whole statements said old new
    still statements said some s = record {
      list = s.list;
      begins = begins_on s.list s.begins;
      own_is = same_own some ∙ s.own_is;
      ran = longer statements said (length before + length s.list) s.ran;
    }

  -- what was tried before stays so, where nothing of the session's own was accepted since
  module _ (kept : new.seat.mine ≡ mid.seat.mine) (more : List Item) (said : List (List ℕ)) (e : Entry) (t : IsTried given before o whole ran replies old mid e) where
    -- what was tried has a reply, since all that ran has
    has_reply : ((replies ≡ t.answers) × (mid.share.stops ≡ 0)) ⊎ ((reply : List ℕ) × (later : List (List ℕ)) × (replies ≡ t.answers ++ reply ∷ later) × (is_unsettled reply ≡ true))
        → ((replies ++ said ≡ t.answers) × (new.share.stops ≡ 0)) ⊎ ((reply : List ℕ) × (later : List (List ℕ)) × (replies ++ said ≡ t.answers ++ reply ∷ later) × (is_unsettled reply ≡ true))
    has_reply (inl (is, none)) =
        let count = r.many in
        let size : length replies ≡ length t.answers = ap length is in
        let fronts = t.many in
        let items : length ran ≡ length (t.front ++ t.said ∷ t.after) = ap length t.split in
        let parts = length-append t.front (t.said ∷ t.after) in
        absurd (omega (arith, count, size, fronts, items, parts))
    has_reply (inr (reply, later, is, unsettled)) = inr (reply, later ++ said, ap (λ (rs : List (List ℕ)). rs ++ said) is ∙ append_assoc t.answers (reply ∷ later) said, unsettled)

    same_own_list : own old.seat.number new.seat.list ≡ own old.seat.number mid.seat.list
    same_own_list =
        let here : mid.seat.mine ≡ own old.seat.number mid.seat.list = r.stays.own_is ∙ ap (λ (n : ℕ). own n mid.seat.list) r.stays.number in
        let then_is : new.seat.mine ≡ own old.seat.number new.seat.list = stays.own_is ∙ ap (λ (n : ℕ). own n new.seat.list) (stays.number ∙ r.stays.number) in
        sym then_is ∙ (kept ∙ here)

    pub still_tried : IsTried given before o whole (ran ++ more) (replies ++ said) old new e
    still_tried = record {
      command = t.command;
      entry_is = t.entry_is;
      front = t.front;
      said = t.said;
      after = t.after ++ more;
      split = ap (λ (xs : List Item). xs ++ more) t.split ∙ append_assoc t.front (t.said ∷ t.after) more;
      answers = t.answers;
      many = t.many;
      first = t.first;
      ran = longer t.front t.answers (length before + length t.first) t.ran;
      list = t.list;
      begins = (t.begins.0 ++ stays.begins.0, sym (append_assoc t.list t.begins.0 stays.begins.0) ∙ (ap (λ (l : History). l ++ stays.begins.0) t.begins.1 ∙ stays.begins.1));
      own_is = same_own_list ∙ t.own_is;
      next = λ told known.
          subst (λ (h : History). IsNextCommand h old.seat.number t.said (length before + length t.first) (length before + length t.list) t.command) grown
          (next_more (before ++ mid.seat.list) stays.begins.0 old.seat.number t.said (length before + length t.first) (length before + length t.list) t.command (t.next told known));
      says = has_reply t.says;
    }

  -- a statement after those that ran, by what it tried
  module _ (st : Item) (said : List (List ℕ)) (result : Result (List ℕ) NoMemory) (tries : TriesAt given before st mid new result)
      (says : SaysTried new.share.stops result → ((replies ++ said ≡ replies) × (new.share.stops ≡ 0)) ⊎ ((reply : List ℕ) × (later : List (List ℕ)) × (replies ++ said ≡ replies ++ reply ∷ later) × (is_unsettled reply ≡ true))) where
    pub tried_then : TriedLast given before o whole (ran ++ st ∷ []) (replies ++ said) old new
    tried_then = by tries r.tried
      where
        by : TriesAt given before st mid new result → TriedLast given before o whole ran replies old mid → TriedLast given before o whole (ran ++ st ∷ []) (replies ++ said) old new
        by (inl none) (inl before_it) = inl (tries_then old mid new before_it none)
        by (inl (inl (same, kept))) (inr (e, is, t)) = inr (e, same ∙ is, still_tried kept (st ∷ []) said e t)
        by (inl (inr none)) (inr was) = inl (inr none)
        by (inr (c, is, is_said, next)) was =
            inr (
              entry_of mid.seat.number c,
              is,
              record {
                command = c;
                entry_is = ap (λ (k : ℕ). entry_of k c) r.stays.number;
                front = ran;
                said = st;
                after = [];
                split = refl;
                answers = replies;
                many = r.many;
                first = mid.seat.list;
                ran = longer ran replies (place_of before mid.seat) r.each;
                list = new.seat.list;
                begins = ([], append-nil new.seat.list);
                own_is = refl;
                next = λ told known. subst (λ (k : ℕ). IsNextCommand (before ++ new.seat.list) k st (place_of before mid.seat) (place_of before new.seat) c) r.stays.number (next told known);
                says = says is_said;
              },
            )

  -- a statement that was answered
  module _ {F : Type 0} (files_of : F → Option Files) (st : Item) (reply : List ℕ) (answers : AnswersAt given before o whole st mid new (Ok reply)) (accounts : AccountsAt o whole mid new (TellsAt files_of given before o whole new.seat.list st) (Ok reply)) (stops : StaysStopped mid new (Ok reply)) (tries : TriesAt given before st mid new (Ok reply)) where
    all : RanTo given before o whole (ran ++ st ∷ []) (replies ++ reply ∷ []) old new (place_of before new.seat)
    all = λ told known n a.
        replies_append n (before ++ new.seat.list) old.seat.number ran st (place_of before old.seat) (place_of before mid.seat) (place_of before new.seat) replies reply (longer ran replies (place_of before mid.seat) r.each told known n a)
        (subst (λ (k : ℕ). Takes n (before ++ new.seat.list) k st (place_of before mid.seat) (place_of before new.seat) reply) r.stays.number (answers told known n a))

    as_many : length (replies ++ reply ∷ []) ≡ length (ran ++ st ∷ [])
    as_many = let were = r.many in let one = length-append replies (reply ∷ []) in let two = length-append ran (st ∷ []) in omega (arith, were, one, two)

    stopped_more : (front more : List (List ℕ)) (x : List ℕ) → replies ++ reply ∷ [] ≡ front ++ x ∷ more → is_unsettled x ≡ true
        → StandsStill given before o whole (take (length front + 1) (ran ++ st ∷ [])) (front ++ x ∷ []) old new × (list_any is_unsettled more ≡ false)
    stopped_more front more x is said = elim (last_or_earlier replies reply front x more is) [
      | inl last ↦ (
          let count = r.many in
          let as_long : length replies ≡ length front = ap length last.0 in
          let long = length-append ran (st ∷ []) in
          let whole_is : take (length front + 1) (ran ++ st ∷ []) ≡ ran ++ st ∷ [] = take_all (length front + 1) (ran ++ st ∷ []) (omega (arith, count, as_long, long)) in
          let replies_are : replies ++ reply ∷ [] ≡ front ++ x ∷ [] = ap (λ (xs : List (List ℕ)). xs ++ reply ∷ []) last.0 ∙ ap (λ (y : List ℕ). front ++ y ∷ []) last.1 in
          let here : StandsStill given before o whole (ran ++ st ∷ []) (replies ++ reply ∷ []) old new = record { list = new.seat.list; begins = ([], append-nil new.seat.list); own_is = refl; ran = all } in (
            subst (λ (ss : List Item). StandsStill given before o whole ss (front ++ x ∷ []) old new) (sym whole_is) (subst (λ (rs : List (List ℕ)). StandsStill given before o whole (ran ++ st ∷ []) rs old new) replies_are here),
            ap (list_any is_unsettled) last.2,
          ))
      | inr first ↦ (
          let stop = r.stopped front first.0 x first.1 said in
          let some : 0 < mid.share.stops = (
          let counted = r.stops in
          let told : 0 < stops_told replies = subst (λ (rs : List (List ℕ)). 0 < stops_told rs) (sym first.1) (some_told front first.0 x said) in
          omega (arith, counted, told)
          ) in
          let size : length replies ≡ length (front ++ x ∷ first.0) = ap length first.1 in
          let parts = length-append front (x ∷ first.0) in
          let count = r.many in
          let front_is : take (length front + 1) (ran ++ st ∷ []) ≡ take (length front + 1) ran = take-append-le (length front + 1) ran (st ∷ []) (omega (arith, count, size, parts)) in (
            subst (λ (ss : List Item). StandsStill given before o whole ss (front ++ x ∷ []) old new) (sym front_is) (still (λ any. (stops any).0) (take (length front + 1) ran) (front ++ x ∷ []) some stop.0),
            ap (list_any is_unsettled) first.2 ∙ (any_last is_unsettled first.0 reply ∙ (ap (λ (b : Bool). b || is_unsettled reply) stop.1 ∙ (stops some).1)),
          ))
    ]

    pub has_run_more : HasRun given before o whole (ran ++ st ∷ []) (replies ++ reply ∷ []) old new
    has_run_more = record {
      each = all;
      many = as_many;
      stays = stays_then o whole old mid new r.stays stays;
      stops = (let first = r.stops in let next = accounts.stops in let both = told_last replies reply in omega (arith, first, next, both));
      stopped = stopped_more;
      tried = tried_then st (reply ∷ []) (Ok reply) tries (λ unsettled. inr (reply, [], refl, unsettled));
      sound = λ told held. any_last is_damage replies reply ∙ (ap (λ (b : Bool). b || is_damage reply) (r.sound told held) ∙ calm told held (is_damage reply) refl);
    }
      where
        calm : given is_told → given is_held → (b : Bool) → is_damage reply ≡ b → b ≡ false
        calm told held true is = absurd (tells_not files_of given before o whole new.seat.list st reply told held (accounts.damaged is))
        calm told held false is = refl

  -- a statement that was not
  module _ (st : Item) (e : NoMemory) (answers : AnswersAt given before o whole st mid new (Err e)) (stops : StaysStopped mid new (Err e)) (tries : TriesAt given before st mid new (Err e)) where
    lacks : (s : Item) (h : History) (number from to : ℕ) → LacksCommand h number s from to → Unanswered h number s from to
    lacks (Ok said) h number from to (inl nothing) = inl nothing
    lacks (Ok said) h number from to (inr (next, (done, rest, is))) = inr (done, next ∷ rest, is)
    lacks (Err why) h number from to (inl nothing) = nothing
    lacks (Err why) h number from to (inr (next, is)) = absurd is

    pub run_ends : EndsRun given before o whole ran st replies old new
    run_ends = let some = some_agrees (met_by o whole new) in (
      mid,
      r,
      stays,
      λ any. (stops any).0,
      subst (λ (rs : List (List ℕ)). TriedLast given before o whole (ran ++ st ∷ []) rs old new) (append-nil replies) (tried_then st [] (Err e) tries (λ none. inl (append-nil replies, none))),
      λ told known.
          subst (λ (k : ℕ). Unanswered (before ++ new.seat.list) k st (place_of before mid.seat) (place_of before new.seat)) r.stays.number
          (lacks st (before ++ new.seat.list) mid.seat.number (place_of before mid.seat) (place_of before new.seat) (answers told known some.0 some.1)),
    )
