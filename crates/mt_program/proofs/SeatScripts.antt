-- What a script that session 0 ran alone over a shared root leaves, once the root is given back.
use Rattle.std.proofs.Common.{◌≡◌, ◌==◌, ℕ, ◌+◌, ◌<◌, ◌≤◌, Bool, true, false, cond, List, [], ◌∷◌, ◌++◌, All, length, map, take, Option, Some, refl, sym, ap, ◌∙◌, subst, arith, length-append, eq-eqb, None, ◌⊎◌, ◌||◌, ap₂, inl, inr, IfSome, slice_get, Ok, Err}
use Rattle.std.specs.List.{list_any}
use Rattle.std.proofs.lemmas.Bool.{false≢true}
use Rattle.std.proofs.lemmas.List.{map-append, take_all}
use Rattle.std.proofs.Math.Seq.{take-append_seam}
use Rattle.std.proofs.lemmas.List.Elements.{All-cons, All-head, All-nil, All-tail}
use Rattle.mt_values.specs.declared.annals.Noted.{Noted}
use Rattle.mt_values.specs.declared.command.Command.{Command}
use Rattle.mt_values.specs.declared.command.Entry.{Entry}
use Rattle.mt_values.specs.declared.schema.Schema.{Schema}
use Rattle.mt_values.specs.declared.statement.Statement.TheVariants as statement
use Rattle.mt_values.specs.Annals.{Told}
use Rattle.mt_outside.specs.Disk as root
use Rattle.mt_outside.specs.Files.{Files}
use Rattle.session.specs.mt_model.Commands.{none_on}
use Rattle.session.specs.mt_model.History.{History, IsLegal, schema_of}
use Rattle.session.specs.mt_model.Outside.{Outside}
use Rattle.session.specs.mt_model.Session.{IsNextCommand, SessionGives, SessionReplies}
use Rattle.root_log.specs.root_store.Crashes.{Storage}
use Rattle.root_log.specs.root_store.Soundness.{RootStands}
use Rattle.session.specs.Answers.{unsettles, Having, KnowsOwn, StaysSession, having, met_by, place_of}
use Rattle.session.specs.replies.Foreseen.{AgreesWith, history, is_unsettled}
use Rattle.session.specs.shared_store.history_seat.declared.view.View.{View}
use Rattle.session.specs.shared_store.history_seat.Turns.{IsSession}
use Rattle.session.specs.shared_store.history_seat.Views.{Begins, KnowsBegun, own, session_view}
use Rattle.session.specs.shared_store.Levels.{has_greatest}
use Rattle.session.specs.shared_store.Sharing.{AtOpening, Finished, KnowsAll, begun_now}
use Rattle.session.specs.shared_store.Stood.{ListsMore, Premise, is_listed, is_noted, is_rooted, is_told}
use Rattle.session.specs.shared_store.Tallies.{Tally, tally}
use Rattle.session.specs.Runs.{EndsRun, HasRun, IsTried, RanEach, RanOut, RanTo, StandsStill, TriedLast, stops_told}
use Rattle.session.proofs.MtModelGained.{gives_append, replies_give}
use Rattle.session.proofs.RepliesCounting.{some_counts}
use Rattle.session.proofs.RepliesEnds.{length_history}
use Rattle.session.proofs.Answering.{stays_then}
use Rattle.session.proofs.Runs.{any_told, longer, some_told, still}
use Rattle.session.proofs.RunsEach.{has_run_each, run_ends_each, stays_each}
use Rattle.session.proofs.SharedStoreFinishing.{annals_list, annals_more, faults_are, levels_full, log_legal, stands_after, stops_rose}
use Rattle.mt_program.specs.Courses.{AreSettled, AreStopped, GoesUnanswered, IsBegunBy, IsNextOf, Item, any_unsettles, course_of, started}
use Rattle.mt_program.specs.Crashes.{IsGainedBy, MayBeBegunBy}
use Rattle.mt_program.specs.SeatServing.{GoesBy}
use Rattle.mt_program.specs.Serving.{MayComeTo, Ran, Stretch}

-- ---- lists

-- all entries of a list are of session 0
abbrev AllOfZero : List Entry → Type 0
AllOfZero list = All (λ (e : Entry). e.session ≤ 0) list

own_all : (list : List Entry) → AllOfZero list → own 0 list ≡ list
own_all [] all = refl
own_all (e ∷ list) all =
    let first = All-head (λ (x : Entry). x.session ≤ 0) e list all in
    let is : (e.session == 0) ≡ true = eq-eqb e.session 0 (omega (arith, first)) in
    ap (λ (b : Bool). cond b (e ∷ own 0 list) (own 0 list)) is ∙ ap (λ (l : List Entry). e ∷ l) (own_all list (All-tail (λ (x : Entry). x.session ≤ 0) e list all))

front_of_zero : (front rest : List Entry) → AllOfZero (front ++ rest) → AllOfZero front
front_of_zero [] rest all = All-nil (λ (x : Entry). x.session ≤ 0)
front_of_zero (e ∷ front) rest all =
    All-cons (λ (x : Entry). x.session ≤ 0) e front (All-head (λ (x : Entry). x.session ≤ 0) e (front ++ rest) all) (front_of_zero front rest (All-tail (λ (x : Entry). x.session ≤ 0) e (front ++ rest) all))

-- a front that has the same entries of session 0 is the whole, where all are its
front_is_all : (front list : List Entry) → Begins front list → AllOfZero list → own 0 list ≡ own 0 front → front ≡ list
front_is_all front list b all same =
    let of_front : AllOfZero front = front_of_zero front b.0 (subst AllOfZero (sym b.1) all) in
    sym (own_all front of_front) ∙ (sym same ∙ own_all list all)

-- two lists with the same front are the same after it
same_after : {X : Type 0} (front xs ys : List X) → front ++ xs ≡ front ++ ys → xs ≡ ys
same_after [] xs ys is = is
same_after (x ∷ front) xs ys is = same_after front xs ys (let rest : front ++ xs ≡ front ++ ys = cc in rest)

all_noted : (more : List Noted) → AllOfZero (map (λ (n : Noted). n.entry) more) → All (λ (n : Noted). n.entry.session ≡ 0) more
all_noted [] all = All-nil (λ (n : Noted). n.entry.session ≡ 0)
all_noted (n ∷ more) all =
    let first = All-head (λ (x : Entry). x.session ≤ 0) n.entry (map (λ (m : Noted). m.entry) more) all in
    All-cons (λ (m : Noted). m.entry.session ≡ 0) n more (omega (arith, first)) (all_noted more (All-tail (λ (x : Entry). x.session ≤ 0) n.entry (map (λ (m : Noted). m.entry) more) all))

-- ---- replies, and which of them says what

-- those of the statements before one are the first of all
abbrev Says : List (List ℕ) → List (List ℕ) → ℕ → Type 0
Says replies answers stops = ((replies ≡ answers) × (stops ≡ 0)) ⊎ ((reply : List ℕ) × (more : List (List ℕ)) × (replies ≡ answers ++ reply ∷ more) × (is_unsettled reply ≡ true))

answers_front : {stops : ℕ} (replies answers : List (List ℕ)) (k : ℕ) → length answers ≡ k → Says replies answers stops → take k replies ≡ answers
answers_front replies answers k many (inl (same, none)) = ap (take k) same ∙ take_all k answers (omega (arith, many))
answers_front replies answers k many (inr (reply, more, same, unsettled)) = ap (take k) same ∙ (ap (λ (m : ℕ). take m (answers ++ reply ∷ more)) (sym many) ∙ take-append_seam answers (reply ∷ more))

get_seam : (xs more : List (List ℕ)) (y : List ℕ) → slice_get (xs ++ y ∷ more) (length xs) ≡ Some y
get_seam [] more y = refl
get_seam (x ∷ xs) more y = get_seam xs more y

get_end : (xs : List (List ℕ)) → slice_get xs (length xs) ≡ None
get_end [] = refl
get_end (x ∷ xs) = get_end xs

answer_says : {stops : ℕ} (replies answers : List (List ℕ)) (k : ℕ) → length answers ≡ k → Says replies answers stops → (reply : List ℕ) → slice_get replies k ≡ Some reply → is_unsettled reply ≡ true
answer_says replies answers k many (inl (same, none)) reply there =
    let end : slice_get replies k ≡ None = ap₂ slice_get same (sym many) ∙ get_end answers in
    let bad : Some reply ≡ None = sym there ∙ end in
    cc
answer_says replies answers k many (inr (x, more, same, unsettled)) reply there =
    let at : slice_get replies k ≡ Some x = ap₂ slice_get same (sym many) ∙ get_seam answers more x in
    let both : Some x ≡ Some reply = sym at ∙ there in
    let is : x ≡ reply = cc in
    subst (λ (r : List ℕ). is_unsettled r ≡ true) is unsettled

-- a statement that has a next command is no OPTIMIZE, so its reply counts
next_unsettles : (h : History) (st : Item) (from to : ℕ) (c : Command) → IsNextCommand h 0 st from to c → (reply : List ℕ) → is_unsettled reply ≡ true → unsettles st reply ≡ true
next_unsettles h (Ok (statement.Create x)) from to c next reply is = is
next_unsettles h (Ok (statement.Insert x)) from to c next reply is = is
next_unsettles h (Ok (statement.Select x)) from to c next reply is = is
next_unsettles h (Ok (statement.Explain x)) from to c next reply is = is
next_unsettles h (Ok (statement.Optimize x)) from to c (done, rest, stops) reply is = absurd (by (schema_of x.table (take stops.seen h)) stops.gives)
  where
    by : (o : Option Schema) → none_on x.table o ≡ Ok (done ++ c ∷ rest) → ⊥
    by None gives = cc
    by (Some schema) gives =
        let none : [] ≡ done ++ c ∷ rest = cc in
        let long : 0 ≡ length (done ++ c ∷ rest) = ap length none in
        let parts = length-append done (c ∷ rest) in
        absurd (omega (arith, long, parts))
next_unsettles h (Err why) from to c next reply is = is

any_at : (front : List Item) (said : Item) (after : List Item) (answers : List (List ℕ)) (reply : List ℕ) (more : List (List ℕ)) → length answers ≡ length front → unsettles said reply ≡ true → any_unsettles (front ++ said ∷ after) (answers ++ reply ∷ more) ≡ true
any_at [] said after [] reply more many is = ap (λ (b : Bool). b || any_unsettles after more) is
any_at [] said after (x ∷ answers) reply more many is = absurd (omega (arith, many))
any_at (s ∷ front) said after [] reply more many is = absurd (omega (arith, many))
any_at (s ∷ front) said after (x ∷ answers) reply more many is = ap (λ (b : Bool). unsettles s x || b) (any_at front said after answers reply more (omega (arith, many)) is) ∙ or_true (unsettles s x)
  where
    or_true : (b : Bool) → (b || true) ≡ true
    or_true true = refl
    or_true false = refl

-- a statement without a reply counts for none
any_started : (ran : List Item) (replies : List (List ℕ)) (unanswered : Option Item) → length replies ≡ length ran → any_unsettles (started (course_of ran replies unanswered)) replies ≡ any_unsettles ran replies
any_started ran replies None many = refl
any_started ran replies (Some last) many = by ran replies many
  where
    by : (ss : List Item) (rs : List (List ℕ)) → length rs ≡ length ss → any_unsettles (ss ++ last ∷ []) rs ≡ any_unsettles ss rs
    by [] [] same = refl
    by [] (x ∷ rs) same = absurd (omega (arith, same))
    by (s ∷ ss) [] same = refl
    by (s ∷ ss) (x ∷ rs) same = ap (λ (b : Bool). unsettles s x || b) (by ss rs (omega (arith, same)))

-- what statements gave, and one that has no reply
gives_started : (h : History) (ran : List Item) (unanswered : Option Item) (from place to : ℕ) → SessionGives h 0 ran from place → GoesUnanswered h unanswered place to → SessionGives h 0 (started (course_of ran [] unanswered)) from to
gives_started h ran None from place to gives same = subst (λ (m : ℕ). SessionGives h 0 ran from m) same gives
gives_started h ran (Some last) from place to gives goes = gives_append h 0 ran last from place to gives goes

-- what stays of a session whose statements ran
pub stays_of : {F : Type 0} (files_of : F → Option Files) (given : Premise → Type 0) (before : History) (o : AtOpening) (whole : ℕ) (ran : List Item) (unanswered : Option Item) (replies : List (List ℕ)) (old new : Having) → IsSession old.seat → KnowsOwn old.seat
    → GoesBy files_of given before o whole ran unanswered replies old new → StaysSession o whole old new
stays_of files_of given before o whole ran None replies old new session own_is r = stays_each files_of given before o whole ran replies old new session own_is r
stays_of files_of given before o whole ran (Some last) replies old new session own_is (mid, r, (why, one)) = stays_then o whole old mid new (stays_each files_of given before o whole ran replies old mid session own_is r) one.stays

-- ---- the end of a run

module _ {F : Type 0} (files_of : F → Option Files) (given : Premise → Type 0) (before : History) (o : AtOpening) (whole : ℕ) (now : Storage) (folder : Option (List ℕ)) (seat : View) (share : Tally)
    (f : Finished files_of given before o whole now folder (seat ∷ []) share) (arm_was arm : ℕ) where
  -- what session 0 had at the opening, and what it has
  abbrev pub first_had : Having
  first_had = having (session_view 0 []) (tally whole 0 0 0 0) arm_was

  abbrev pub has_now : Having
  has_now = having seat share arm

  -- what was met, over what a disk told before
  abbrev pub stretch : Option root.Told → Stretch
  stretch told = record { opened = o.failed; root = told; now = now; arm = arm; full = has_greatest f.last.root.store }

  -- what was tried last is of the statements that ran, as nothing was before
  if_tried : (statements : List Item) (replies : List (List ℕ)) (new : Having) → TriedLast given before o whole statements replies first_had new → IfSome new.seat.tried (IsTried given before o whole statements replies first_had new)
  if_tried statements replies new (inl (inl (same, kept))) = subst (λ (t : Option Entry). IfSome t (IsTried given before o whole statements replies first_had new)) (sym same) tt
  if_tried statements replies new (inl (inr none)) = subst (λ (t : Option Entry). IfSome t (IsTried given before o whole statements replies first_had new)) (sym none) tt
  if_tried statements replies new (inr (e, is, t)) = subst (λ (t : Option Entry). IfSome t (IsTried given before o whole statements replies first_had new)) (sym is) t

  module _ (stays : StaysSession o whole first_had has_now) where
    knows : KnowsAll f.last.list f.last.tried seat
    knows = All-head (KnowsAll f.last.list f.last.tried) seat [] f.seats_known

    -- what was tried last was tried by session 0
    tried_is : (e : Entry) → f.last.tried ≡ Some e → seat.tried ≡ Some e
    tried_is e is =
        let k = subst (KnowsBegun seat) is knows.knows in
        let low = k.1 stays.number in
        let made = stays.made in
        let number = stays.number in
        k.0 (omega (arith, low, made, number))

    all_zero : AllOfZero f.last.list
    all_zero = subst (λ (m : ℕ). All (λ (e : Entry). e.session ≤ m) f.last.list) stays.made (knows.named stays.number)

    -- the seat knows the whole list
    pub whole_list : seat.list ≡ f.last.list
    whole_list =
        front_is_all seat.list f.last.list knows.begins all_zero
        (ap (λ (n : ℕ). own n f.last.list) (sym stays.number) ∙ (sym knows.own_is ∙ (stays.own_is ∙ ap (λ (n : ℕ). own n seat.list) stays.number)))

    -- what a run may come to agrees with what the session has met
    pub agrees : (told : Option root.Told) (n : Outside) → MayComeTo (stretch told) n → AgreesWith (met_by o whole has_now) n
    agrees told n c =
        let parts : share.parts ≡ whole = stays.parts in
        let count = faults_are files_of given before o whole now folder (seat ∷ []) share f parts in
        let opened = c.opened_is in
        let later = c.later in
        record {
          opened_is = c.opened_is;
          later = omega (arith, count, later);
          stopped = λ some. let rose = stops_rose files_of given before o whole now folder (seat ∷ []) share f parts some in omega (arith, rose, opened, later);
          failed = c.risen;
          full = λ some. c.stays (levels_full files_of given before o whole now folder (seat ∷ []) share f parts some);
          company = λ others. let bad : true ≡ false = sym (eq-eqb share.parts whole parts) ∙ others in cc;
        }

    -- what the annals list
    module _ (kept : Told) (told : given is_told) (known : given is_listed) (noted : given (is_noted kept)) (before_is : before ≡ history kept) (begun_first : o.begun ≡ kept.begun) where
      pub gains : ListsMore kept now.annals
      gains = annals_more files_of given before o whole now folder (seat ∷ []) share f kept noted

      abbrev pub listed : Told
      listed = gains.0

      lists : history listed ≡ before ++ seat.list
      lists =
          let list = annals_list files_of given before o whole now folder (seat ∷ []) share f told known in
          let both : Some listed ≡ Some list.0 = sym gains.1 ∙ list.1 in
          let same : listed ≡ list.0 = cc in
          ap history same ∙ (list.2 ∙ ap (λ (l : History). before ++ l) (sym whole_list))

      long : length before ≡ length kept.list
      long = ap length before_is ∙ length_history kept

      -- where the session stands is the end of what they list
      end : place_of before seat ≡ length listed.list
      end = sym (length-append before seat.list) ∙ (ap length (sym lists) ∙ length_history listed)

      begin : place_of before first_had.seat ≡ length kept.list
      begin = let is = long in omega (arith, is)

      zeros : All (λ (n : Noted). n.entry.session ≡ 0) gains.2
      zeros =
          let entries = λ (n : Noted). n.entry in
          let both : history kept ++ map entries gains.2 ≡ history kept ++ seat.list = sym (map-append entries kept.list gains.2) ∙ (ap (map entries) (sym gains.3) ∙ (lists ∙ ap (λ (h : History). h ++ seat.list) before_is)) in
          all_noted gains.2 (subst AllOfZero (sym whole_list ∙ sym (same_after (history kept) (map entries gains.2) seat.list both)) all_zero)

      -- what is begun
      begun_is : listed.begun ≡ begun_now o.begun f.last.list f.last.tried
      begun_is =
          let list = annals_list files_of given before o whole now folder (seat ∷ []) share f told known in
          let both : Some listed ≡ Some list.0 = sym gains.1 ∙ list.1 in
          let same : listed ≡ list.0 = cc in
          ap (λ (t : Told). t.begun) same ∙ list.3

      -- what ran to a place, over what they list
      module _ (root_told : Option root.Told) where
        ran_there : (statements : List Item) (replies : List (List ℕ)) (place : ℕ) → RanTo given before o whole statements replies first_had has_now place
            → (n : Outside) → MayComeTo (stretch root_told) n → SessionReplies n (history listed) 0 statements (length kept.list) place replies
        ran_there statements replies place ran n c =
            subst (λ (m : ℕ). SessionReplies n (history listed) 0 statements m place replies) begin
            (subst (λ (h : History). SessionReplies n h 0 statements (place_of before first_had.seat) place replies) (sym lists) (ran told known n (agrees root_told n c)))

        module _ (ran : List Item) (replies : List (List ℕ)) (unanswered : Option Item) (place : ℕ) (each : RanTo given before o whole ran replies first_had has_now place)
            (last : GoesUnanswered (before ++ seat.list) unanswered place (place_of before seat))
            (stopped : (front more : List (List ℕ)) (x : List ℕ) → replies ≡ front ++ x ∷ more → is_unsettled x ≡ true
            → StandsStill given before o whole (take (length front + 1) ran) (front ++ x ∷ []) first_had has_now × (list_any is_unsettled more ≡ false))
            (counted : list_any is_unsettled replies ≡ true → 0 < share.stops) where
          are_stopped : (n : Outside) → MayComeTo (stretch root_told) n → AreStopped n (history listed) (length kept.list) ran replies
          are_stopped n c = λ front more x is said.
              let stop = stopped front more x is said in
              let list_is : stop.0.list ≡ seat.list = front_is_all stop.0.list seat.list stop.0.begins (subst AllOfZero (sym whole_list) all_zero) stop.0.own_is in
              let at : length before + length stop.0.list ≡ length (history listed) = (let front_long = ap length list_is in let all = length-append before seat.list in let are = ap length lists in omega (arith, front_long, all, are)) in (
                subst (λ (m : ℕ). SessionReplies n (history listed) 0 (take (length front + 1) ran) (length kept.list) m (front ++ x ∷ [])) at
                    (ran_there (take (length front + 1) ran) (front ++ x ∷ []) (length before + length stop.0.list) stop.0.ran n c),
                stop.1,
              )

          module _ (statements : List Item) (started_is : started (course_of ran replies unanswered) ≡ statements) (tried : IfSome seat.tried (IsTried given before o whole statements replies first_had has_now)) where
            -- what was tried, of what was begun
            tried_at : (e : Entry) → f.last.tried ≡ Some e → IsTried given before o whole statements replies first_had has_now e
            tried_at e is = subst (λ (t : Option Entry). IfSome t (IsTried given before o whole statements replies first_had has_now)) (tried_is e is) tried

            next_there : (e : Entry) (t : IsTried given before o whole statements replies first_had has_now e) → IsNextCommand (history listed) 0 t.said (length before + length t.first) (length (history listed)) t.command
            next_there e t =
                let list_is : t.list ≡ seat.list = front_is_all t.list seat.list t.begins (subst AllOfZero (sym whole_list) all_zero) t.own_is in
                let at : length before + length t.list ≡ length (history listed) = (let front_long = ap length list_is in let all = length-append before seat.list in let are = ap length lists in omega (arith, front_long, all, are)) in
                subst (λ (m : ℕ). IsNextCommand (history listed) 0 t.said (length before + length t.first) m t.command) at
                (subst (λ (h : History). IsNextCommand h 0 t.said (length before + length t.first) (length before + length t.list) t.command) (sym lists) (t.next told known))

            next_of_tried : (n : Outside) → MayComeTo (stretch root_told) n → (e : Entry) (t : IsTried given before o whole statements replies first_had has_now e) → IsNextOf n (history listed) (length kept.list) (course_of ran replies unanswered) t.command
            next_of_tried n c e t =
                let place = length before + length t.first in
                record {
                  before = t.front;
                  said = t.said;
                  after = t.after;
                  split = started_is ∙ t.split;
                  place = place;
                  ran = subst (λ (rs : List (List ℕ)). SessionReplies n (history listed) 0 t.front (length kept.list) place rs) (sym (answers_front replies t.answers (length t.front) t.many t.says)) (ran_there t.front t.answers place t.ran n c);
                  next = next_there e t;
                  says = answer_says replies t.answers (length t.front) t.many t.says;
                }

            begun_by : (n : Outside) → MayComeTo (stretch root_told) n → IsBegunBy n kept listed (course_of ran replies unanswered)
            begun_by n c = by f.last.list refl f.last.tried refl
              where
                by : (l : List Entry) → f.last.list ≡ l → (b : Option Entry) → f.last.tried ≡ b → IsBegunBy n kept listed (course_of ran replies unanswered)
                by l list (Some e) is =
                    let t = tried_at e is in
                    inr (inr (
                      t.command,
                      begun_is ∙ (ap₂ (λ (x : List Entry) (y : Option Entry). begun_now o.begun x y) list is ∙ ap Some t.entry_is),
                      next_of_tried n c e t,
                    ))
                by [] list None is =
                    let none : length seat.list ≡ 0 = ap length (whole_list ∙ list) in
                    let at = end in
                    let from = begin in
                    inl (begun_is ∙ (ap₂ (λ (x : List Entry) (y : Option Entry). begun_now o.begun x y) list is ∙ begun_first), omega (arith, none, at, from))
                by (x ∷ l) list None is =
                    let some : length seat.list ≡ length (x ∷ l) = ap length (whole_list ∙ list) in
                    let at = end in
                    let from = begin in
                    inr (inl (begun_is ∙ ap₂ (λ (y : List Entry) (z : Option Entry). begun_now o.begun y z) list is, omega (arith, some, at, from)))

            -- what the annals gained is of these statements
            some_n : (n : Outside) × MayComeTo (stretch root_told) n
            some_n = some_counts o.failed now.failed arm (has_greatest f.last.root.store)

            gives_there : (front : List Item) (answers : List (List ℕ)) (to : ℕ) → RanTo given before o whole front answers first_had has_now to → SessionGives (history listed) 0 front (length kept.list) to
            gives_there front answers to ran_to = replies_give some_n.0 (history listed) 0 front (length kept.list) to answers (ran_there front answers to ran_to some_n.0 some_n.1)

            may_begin : MayBeBegunBy kept listed statements
            may_begin = by f.last.list refl f.last.tried refl
              where
                by : (l : List Entry) → f.last.list ≡ l → (b : Option Entry) → f.last.tried ≡ b → MayBeBegunBy kept listed statements
                by l list (Some e) is =
                    let t = tried_at e is in
                    let place = length before + length t.first in
                    inr (inr (
                      t.command,
                      begun_is ∙ (ap₂ (λ (x : List Entry) (y : Option Entry). begun_now o.begun x y) list is ∙ ap Some t.entry_is),
                      record { before = t.front; said = t.said; after = t.after; split = t.split; place = place; gives = gives_there t.front t.answers place t.ran; next = next_there e t },
                    ))
                by [] list None is =
                    let none : length seat.list ≡ 0 = ap length (whole_list ∙ list) in
                    let at = end in
                    let from = begin in
                    inl (begun_is ∙ (ap₂ (λ (x : List Entry) (y : Option Entry). begun_now o.begun x y) list is ∙ begun_first), omega (arith, none, at, from))
                by (x ∷ l) list None is = inr (inl (begun_is ∙ ap₂ (λ (y : List Entry) (z : Option Entry). begun_now o.begun y z) list is))

            pub gained_by : IsGainedBy statements now.annals kept
            gained_by = record {
              now = listed;
              annals_is = gains.1;
              more = gains.2;
              more_is = gains.3;
              sessions = zeros;
              gives = subst (λ (ss : List Item). SessionGives (history listed) 0 ss (length kept.list) (length listed.list)) started_is
                  (gives_started (history listed) ran unanswered (length kept.list) place (length listed.list) (gives_there ran replies place each)
                  (subst (λ (m : ℕ). GoesUnanswered (history listed) unanswered place m) end (subst (λ (h : History). GoesUnanswered h unanswered place (place_of before seat)) (sym lists) last)));
              begun = may_begin;
            }

            -- whether the root stands
            settled_by : given is_rooted → length replies ≡ length ran → AreSettled (course_of ran replies unanswered) now.disk (history listed)
            settled_by rooted many none =
                subst (RootStands now.disk) (ap (λ (l : History). before ++ l) (sym whole_list) ∙ sym lists)
                (stands_after files_of given before o whole now folder (seat ∷ []) share f stays.parts told known rooted (by f.last.tried refl))
              where
                by : (b : Option Entry) → f.last.tried ≡ b → (share.stops ≡ 0) ⊎ (f.last.tried ≡ None)
                by None is = inr is
                by (Some e) is = of_says (tried_at e is) (tried_at e is).says
                  where
                    of_says : (t : IsTried given before o whole statements replies first_had has_now e) → ((replies ≡ t.answers) × (share.stops ≡ 0)) ⊎ ((reply : List ℕ) × (more : List (List ℕ)) × (replies ≡ t.answers ++ reply ∷ more) × (is_unsettled reply ≡ true))
                        → (share.stops ≡ 0) ⊎ (f.last.tried ≡ None)
                    of_says t (inl (same, calm)) = inl calm
                    of_says t (inr (reply, more, same, unsettled)) =
                        let says = any_at t.front t.said t.after t.answers reply more t.many (next_unsettles (before ++ seat.list) t.said (length before + length t.first) (length before + length t.list) t.command (t.next told known) reply unsettled) in
                        let all : any_unsettles statements replies ≡ true = ap₂ any_unsettles t.split same ∙ says in
                        absurd (false≢true (sym none ∙ (sym (any_started ran replies unanswered many) ∙ (ap (λ (ss : List Item). any_unsettles ss replies) started_is ∙ all))))

            pub ran_alone : given is_rooted → length replies ≡ length ran → Ran kept (stretch root_told) (course_of ran replies unanswered)
            ran_alone rooted many = record {
              now = listed;
              more = gains.2;
              told_is = gains.1;
              list_is = gains.3;
              legal = subst IsLegal (ap (λ (l : History). before ++ l) (sym whole_list) ∙ sym lists) (log_legal files_of given before o whole now folder (seat ∷ []) share f told known);
              sessions = zeros;
              place = place;
              run = ran_there ran replies place each;
              last = subst (λ (m : ℕ). GoesUnanswered (history listed) unanswered place m) end (subst (λ (h : History). GoesUnanswered h unanswered place (place_of before seat)) (sym lists) last);
              stopped = are_stopped;
              risen = λ some. stops_rose files_of given before o whole now folder (seat ∷ []) share f stays.parts (counted some);
              begun = begun_by;
              settled = settled_by rooted many;
            }

  -- ---- by how the statements ended

  module _ (kept : Told) (told : given is_told) (known : given is_listed) (noted : given (is_noted kept)) (rooted : given is_rooted) (before_is : before ≡ history kept) (begun_first : o.begun ≡ kept.begun) (root_told : Option root.Told)
      (ran : List Item) (replies : List (List ℕ)) where
    -- each had a reply
    module _ (each : RanEach files_of given before o whole ran replies first_had has_now) where
      r : HasRun given before o whole ran replies first_had has_now
      r = has_run_each files_of given before o whole ran replies first_had has_now (refl, refl) refl each

      counted_all : list_any is_unsettled replies ≡ true → 0 < share.stops
      counted_all some = let counted = r.stops in let told_of = any_told replies some in omega (arith, counted, told_of)

      pub ran_answered : Ran kept (stretch root_told) (course_of ran replies None)
      ran_answered = ran_alone r.stays kept told known noted before_is begun_first root_told ran replies None (place_of before seat) r.each refl r.stopped counted_all ran refl (if_tried ran replies has_now r.tried) rooted r.many

      pub gained_answered : IsGainedBy ran now.annals kept
      gained_answered = gained_by r.stays kept told known noted before_is begun_first root_told ran replies None (place_of before seat) r.each refl r.stopped counted_all ran refl (if_tried ran replies has_now r.tried)

    -- one more had none
    module _ (last : Item) (out : RanOut files_of given before o whole ran last replies first_had has_now) where
      e : EndsRun given before o whole ran last replies first_had has_now
      e = run_ends_each files_of given before o whole ran last replies first_had has_now (refl, refl) refl out

      both : StaysSession o whole first_had has_now
      both = stays_then o whole first_had e.0 has_now e.1.stays e.2

      stopped_then : (front more : List (List ℕ)) (x : List ℕ) → replies ≡ front ++ x ∷ more → is_unsettled x ≡ true
          → StandsStill given before o whole (take (length front + 1) ran) (front ++ x ∷ []) first_had has_now × (list_any is_unsettled more ≡ false)
      stopped_then front more x is said =
          let stop = e.1.stopped front more x is said in
          let counted = e.1.stops in
          let told_of : 0 < stops_told replies = subst (λ (rs : List (List ℕ)). 0 < stops_told rs) (sym is) (some_told front more x said) in (
            still given before o whole ran replies first_had e.0 has_now e.1 e.2 e.3 (take (length front + 1) ran) (front ++ x ∷ []) (omega (arith, counted, told_of)) stop.0,
            stop.1,
          )

      counted_some : list_any is_unsettled replies ≡ true → 0 < share.stops
      counted_some some = let counted = e.1.stops in let told_of = any_told replies some in let more = e.2.since.stops in omega (arith, counted, told_of, more)

      each_longer : RanTo given before o whole ran replies first_had has_now (place_of before e.0.seat)
      each_longer = longer given before o whole ran replies first_had e.0 has_now e.1 e.2 ran replies (place_of before e.0.seat) e.1.each

      pub ran_ended : Ran kept (stretch root_told) (course_of ran replies (Some last))
      ran_ended =
          ran_alone both kept told known noted before_is begun_first root_told ran replies (Some last) (place_of before e.0.seat) each_longer (e.5 told known) stopped_then counted_some (ran ++ last ∷ []) refl (if_tried (ran ++ last ∷ []) replies has_now e.4) rooted e.1.many

      pub gained_ended : IsGainedBy (ran ++ last ∷ []) now.annals kept
      gained_ended =
          gained_by both kept told known noted before_is begun_first root_told ran replies (Some last) (place_of before e.0.seat) each_longer (e.5 told known) stopped_then counted_some (ran ++ last ∷ []) refl (if_tried (ran ++ last ∷ []) replies has_now e.4)
