-- A run that nothing stands against is answered whole, or wants memory.
use Rattle.std.proofs.Common.{◌≡◌, ◌⊎◌, ◌+◌, ◌-◌, ◌<◌, ◌≤◌, ◌^◌, ◌++◌, ◌∷◌, ◌||◌, ℕ, Bool, true, false, List, [], length, min, Option, Some, None, Ok, Err, inl, inr, refl, sym, ap, ◌∙◌, subst, arith, length-append, append-nil, map, take}
use Rattle.std.proofs.lemmas.Bool.{cases_lt, false≢true}
use Rattle.std.specs.Io.KnownBytes.{Consumes}
use Rattle.std.specs.List.{list_any}
use Rattle.std.proofs.lemmas.Bool.Decides.{nat_tests}
use Rattle.std.proofs.lemmas.List.{map-append}
use Rattle.std.proofs.Math.Seq.{take-append_seam}
use Rattle.mt_values.specs.declared.annals.Noted.{Noted}
use Rattle.mt_values.specs.declared.statement.Statement.TheVariants as statement
use Rattle.mt_values.specs.Annals.{Told}
use Rattle.session.specs.mt_model.History.{History}
use Rattle.session.proofs.RepliesEnds.{length_history}
use Rattle.mt_values.specs.Script.{statements_of}
use Rattle.mt_outside.specs.Causes.{Rose}
use Rattle.session.specs.mt_model.Causes.{NoneMeetsCause}
use Rattle.session.proofs.MtModelCauses.{told_of_script}
use Rattle.session.proofs.MtModelUnrefused.{none_refused as calm_script}
use Rattle.session.specs.mt_model.Outside.{Outside}
use Rattle.session.specs.replies.Foreseen.{history, is_unsettled}
use Rattle.session.specs.mt_model.Script.{ScriptReplies}
use Rattle.session.specs.mt_model.Session.{AddsNothing, SessionReplies, Takes}
use Rattle.session.specs.Answers.{unsettles}
use Rattle.mt_program.specs.Courses.{Course, GoesUnanswered, Item, RunOf, any_unsettles, started, with_unanswered}
use Rattle.mt_program.specs.Headline.{AnsweredAll, Headline}
use Rattle.mt_program.specs.Promises.{MeetsNoFullPart, merges_all}
use Rattle.mt_program.specs.Worlds.{HasNoFullPart, World}
use Rattle.mt_program.specs.Statuses.{status_number}
use Rattle.session.specs.run_streams.Streams.{ConsumesMost}
use Rattle.mt_program.specs.declared.status.Status.{Status}
use Rattle.mt_program.specs.declared.status.Status.TheVariants as status

-- neither is so, where it is not so that one is
neither : (a b : Bool) → (a || b) ≡ false → (a ≡ false) × (b ≡ false)
neither true b h = cc
neither false b h = (refl, h)

-- of a status that is none of the others
pub zero_or_six : (s : Status) → (s ≡ status.NotWords → ⊥) → (s ≡ status.ReadFault → ⊥) → (s ≡ status.WriteFault → ⊥) → (s ≡ status.DiskFault → ⊥) → (s ≡ status.Damaged → ⊥) → (s ≡ status.TooLong → ⊥)
    → (s ≡ status.Refused → ⊥) → (status_number s ≡ 0) ⊎ (status_number s ≡ 6)
zero_or_six status.Done words read write disk damaged long refused = inl refl
zero_or_six status.Refused words read write disk damaged long refused = absurd (refused refl)
zero_or_six status.NotWords words read write disk damaged long refused = absurd (words refl)
zero_or_six status.ReadFault words read write disk damaged long refused = absurd (read refl)
zero_or_six status.WriteFault words read write disk damaged long refused = absurd (write refl)
zero_or_six status.DiskFault words read write disk damaged long refused = absurd (disk refl)
zero_or_six status.NoMemory words read write disk damaged long refused = inr refl
zero_or_six status.Damaged words read write disk damaged long refused = absurd (damaged refl)
zero_or_six status.TooLong words read write disk damaged long refused = absurd (long refl)

-- a script under the bound has not so many bytes
pub not_too_long : (script : List ℕ) (before after : Option (List ℕ)) → before ≡ Some script → length script < 2 ^ 40 → ConsumesMost before after → ⊥
not_too_long script before after is short most = by before after is most.2
  where
    by : (o p : Option (List ℕ)) → o ≡ Some script → Consumes o p most.0 → ⊥
    by None p none c = cc
    by (Some s) None some c = absurd c
    by (Some s) (Some rest) some c =
        let same : s ≡ script = cc in
        let count = ap length (sym same ∙ c) ∙ length-append most.0 rest in
        let many = most.1 in
        omega (arith, short, many, count)

-- a count that did not rise, and does not stand at its type's end, is as it was
not_risen : (before now : ℕ) → before ≤ now → (Rose before now → ⊥) → (now ≡ before) × (now < 2 ^ 64 - 1)
not_risen before now later calm = elim (cases_lt now (min (before + 1) (2 ^ 64 - 1))) [
  | inl below ↦ (omega (arith, later, below), omega (arith, below))
  | inr rose ↦ absurd (calm rose)
]

-- the entries that were there before come first
front_is : (kept now : Told) (more : List Noted) → now.list ≡ kept.list ++ more → take (length kept.list) (history now) ≡ history kept
front_is kept now more is =
    let entries = λ (n : Noted). n.entry in
    let all : history now ≡ history kept ++ map entries more = ap (map entries) is ∙ map-append entries kept.list more in
    ap (take (length kept.list)) all ∙ (ap (λ (m : ℕ). take m (history kept ++ map entries more)) (sym (length_history kept)) ∙ take-append_seam (history kept) (map entries more))

-- where no count rose, no reply says that a commit failed
module _ (n : Outside) (still : n.ended ≡ n.opened) (below : n.ended < 2 ^ 64 - 1) where
  settled_reply : (h : History) (s : Item) (from to : ℕ) (reply : List ℕ) → Takes n h 0 s from to reply → is_unsettled reply ≡ false
  settled_reply h s from to reply takes = elim (told_of_script n h 0 s from to reply still below takes) [
    | inl none ↦ grind (arith, none, nat_tests)
    | inr refuses ↦ grind (arith, refuses, nat_tests)
  ]

  not_unsettled : (s : Item) (reply : List ℕ) → is_unsettled reply ≡ false → unsettles s reply ≡ false
  not_unsettled (Ok (statement.Create c)) reply is = is
  not_unsettled (Ok (statement.Insert i)) reply is = is
  not_unsettled (Ok (statement.Select t)) reply is = is
  not_unsettled (Ok (statement.Explain t)) reply is = is
  not_unsettled (Ok (statement.Optimize o)) reply is = refl
  not_unsettled (Err why) reply is = is

  none_unsettled : (h : History) (ss : List Item) (from to : ℕ) (replies : List (List ℕ)) → SessionReplies n h 0 ss from to replies → any_unsettles ss replies ≡ false
  none_unsettled h [] from to [] r = refl
  none_unsettled h [] from to (x ∷ xs) r = absurd r
  none_unsettled h (s ∷ ss) from to [] r = absurd r
  none_unsettled h (s ∷ ss) from to (x ∷ xs) r =
      ap (λ b. b || any_unsettles ss xs) (not_unsettled s x (settled_reply h s from r.0 x r.1)) ∙ none_unsettled h ss r.0 to xs r.2

-- a test that can't pass fails
not_passed : (b : Bool) → (b ≡ true → ⊥) → b ≡ false
not_passed true never = absurd (never refl)
not_passed false never = refl

-- what the outside did, where no part has the greatest level
abbrev none_full : Outside → Outside
none_full n = record { opened = n.opened; ended = n.ended; full = false; company = n.company }

-- a part of the greatest level is no matter to a statement that is no OPTIMIZE with FINAL
takes_without : (n : Outside) (h : History) (s : Item) (from to : ℕ) (reply : List ℕ) → merges_all s ≡ false → Takes n h 0 s from to reply → Takes (none_full n) h 0 s from to reply
takes_without n h (Ok (statement.Create c)) from to reply is t = t
takes_without n h (Ok (statement.Insert i)) from to reply is t = t
takes_without n h (Ok (statement.Select s)) from to reply is t = t
takes_without n h (Ok (statement.Explain s)) from to reply is t = t
takes_without n h (Ok (statement.Optimize o)) from to reply is (inl (gives, nothing, inl ok)) = inl (gives, nothing, inl ok)
takes_without n h (Ok (statement.Optimize o)) from to reply is (inl (gives, nothing, inr (inl unread))) = inl (gives, nothing, inr (inl unread))
takes_without n h (Ok (statement.Optimize o)) from to reply is (inl (gives, nothing, inr (inr (inl (whole, level))))) = absurd (false≢true (sym is ∙ whole))
takes_without n h (Ok (statement.Optimize o)) from to reply is (inl (gives, nothing, inr (inr (inr turn)))) = inl (gives, nothing, inr (inr (inr turn)))
takes_without n h (Ok (statement.Optimize o)) from to reply is (inr refused) = inr refused
takes_without n h (Err why) from to reply is t = t

replies_without : (n : Outside) (h : History) (ss : List Item) (from to : ℕ) (replies : List (List ℕ)) → list_any merges_all ss ≡ false → SessionReplies n h 0 ss from to replies → SessionReplies (none_full n) h 0 ss from to replies
replies_without n h [] from to [] is r = r
replies_without n h [] from to (x ∷ xs) is r = absurd r
replies_without n h (s ∷ ss) from to [] is r = absurd r
replies_without n h (s ∷ ss) from to (x ∷ xs) is r =
    let both = neither (merges_all s) (list_any merges_all ss) is in
    (r.0, takes_without n h s from r.0 x both.0 r.1, replies_without n h ss r.0 to xs both.1 r.2)

script_without : (n : Outside) (ss : List Item) (h : History) (base : ℕ) (replies : List (List ℕ)) → list_any merges_all ss ≡ false → ScriptReplies n ss h base replies → ScriptReplies (none_full n) ss h base replies
script_without n ss h base replies is each = record { last = each.last; run = replies_without n h ss base each.last replies is each.run; nothing_else = each.nothing_else; sessions = each.sessions }

-- where no statement meets a cause, none was refused
module _ (before after : World) (kept : Told) (script written : List ℕ) where
  whole_run : (n : Outside) (refused : Bool) (now : Told) (course : Course) (rest : List Item) (out : List ℕ) → statements_of script ≡ started course ++ rest
      → RunOf n (history now) (length kept.list) course → AnsweredAll refused after.source script course rest out → ScriptReplies n (statements_of script) (history now) (length kept.list) course.replies
  whole_run n refused now course rest out split ran all = by course.unanswered all.answered split ran.last
    where
      by : (u : Option Item) → u ≡ None → statements_of script ≡ with_unanswered course.ran u ++ rest → GoesUnanswered (history now) u ran.place ran.stop
          → ScriptReplies n (statements_of script) (history now) (length kept.list) course.replies
      by (Some last) none split goes = cc
      by None none split goes = record {
        last = ran.place;
        run = subst (λ (ss : List Item). SessionReplies n (history now) 0 ss (length kept.list) ran.place course.replies) (sym (split ∙ (ap (λ (ss : List Item). course.ran ++ ss) all.all ∙ append-nil course.ran))) ran.each;
        nothing_else = subst (λ (k : ℕ). AddsNothing (history now) 0 k (length (history now))) (sym goes) ran.nothing_else;
        sessions = ran.sessions;
      }

  module _ (left : Headline status.Refused before after kept script written) (still : after.storage.failed ≡ before.storage.failed) (below : after.storage.failed < 2 ^ 64 - 1) where
    same : left.outside.ended ≡ left.outside.opened
    same = left.outside_is.ended ∙ (still ∙ sym left.outside_is.opened)

    low : left.outside.ended < 2 ^ 64 - 1
    low = subst (λ (m : ℕ). m < 2 ^ 64 - 1) (sym left.outside_is.ended) below

    -- the root is known then, and so are its names
    room : HasNoFullPart after → left.outside.full ≡ false
    room free = not_passed left.outside.full (λ full.
        let root = left.settled (none_unsettled left.outside same low (history left.now) left.course.ran (length kept.list) left.ran.place left.course.replies left.ran.each) in
        free root.0 root.1 (left.outside_is.full full root.0 root.1))

    all_run : ScriptReplies left.outside (statements_of script) (history left.now) (length kept.list) left.course.replies
    all_run = whole_run left.outside true left.now left.course left.rest left.out left.split left.ran left.ends

    -- whatever the outside did but for its counts
    calm_run : (m : Outside) → m.ended ≡ m.opened → m.ended < 2 ^ 64 - 1 → m.full ≡ false → m.company ≡ false → ScriptReplies m (statements_of script) (history left.now) (length kept.list) left.course.replies
        → NoneMeetsCause (history kept) (statements_of script) → ⊥
    calm_run m calm under free alone run none_meets =
        let causes : NoneMeetsCause (take (length kept.list) (history left.now)) (statements_of script) = subst (λ (h : History). NoneMeetsCause h (statements_of script)) (sym (front_is kept left.now left.more left.begins)) none_meets in
        let none = calm_script m (statements_of script) (history left.now) (length kept.list) left.course.replies calm under free alone run causes in
        false≢true (sym none ∙ sym left.ends.says.refusals)

    not_refused : MeetsNoFullPart script after → NoneMeetsCause (history kept) (statements_of script) → ⊥
    not_refused meets none_meets = by (list_any merges_all (statements_of script)) refl
      where
        by : (b : Bool) → list_any merges_all (statements_of script) ≡ b → ⊥
        by true is = calm_run left.outside same low (room (meets is)) left.outside_is.alone all_run none_meets
        by false is = calm_run (none_full left.outside) same low refl left.outside_is.alone (script_without left.outside (statements_of script) (history left.now) (length kept.list) left.course.replies is all_run) none_meets

  pub none_refused : before.storage.failed ≤ after.storage.failed → (Rose before.storage.failed after.storage.failed → ⊥) → MeetsNoFullPart script after
      → NoneMeetsCause (history kept) (statements_of script) → Headline status.Refused before after kept script written → ⊥
  none_refused later calm meets none_meets left =
      let still = not_risen before.storage.failed after.storage.failed later calm in
      not_refused left still.0 still.1 meets none_meets
