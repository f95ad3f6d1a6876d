-- What a session's turns add to the history, by what its seat knows.
use Rattle.std.proofs.Common.{◌≡◌, ℕ, ◌+◌, ◌-◌, ◌==◌, Bool, true, false, cond, List, [], ◌∷◌, ◌++◌, Option, Some, length, map, take, drop, refl, sym, ap, ◌∙◌, subst, arith, append_assoc, length-append, eq-eqb}
use Rattle.std.specs.Prelude.{slice_get}
use Rattle.std.proofs.lemmas.List.{take_all}
use Rattle.std.proofs.lemmas.List.Elements.{filter-append}
use Rattle.mt_values.specs.declared.command.Command.{Command}
use Rattle.mt_values.specs.declared.command.Entry.{Entry}
use Rattle.replies.specs.mt_model.History.{History, own}
use Rattle.replies.specs.mt_model.Session.{Adds, AddsNothing}
use Rattle.replies.proofs.MtModelGrowing.{adds_last, nothing_more}
use Rattle.merge_workers.specs.shared_store.history_seat.declared.view.View.{View}
use Rattle.merge_workers.specs.shared_store.history_seat.Turns.{Added, AddsNone}
use Rattle.merge_workers.specs.shared_store.history_seat.Views.{Begins, own as own_entries}
use Rattle.session.specs.Answers.{KnowsOwn}

-- ---- lists

drop_front : {X : Type 0} (xs ys : List X) → drop (length xs) (xs ++ ys) ≡ ys
drop_front [] ys = refl
drop_front (x ∷ xs) ys = drop_front xs ys

-- what comes after a list that stays the same is nothing
none_after : {X : Type 0} (xs ys : List X) → xs ++ ys ≡ xs → ys ≡ []
none_after [] ys is = is
none_after (x ∷ xs) ys is = none_after xs ys (let rest : xs ++ ys ≡ xs = cc in rest)

-- lists with the same last item are the same before it
same_before : {X : Type 0} (xs ys : List X) (x : X) → xs ++ x ∷ [] ≡ ys ++ x ∷ [] → xs ≡ ys
same_before [] [] x is = refl
same_before [] (y ∷ ys) x is = absurd (let long = ap length is in let more = length-append ys (x ∷ []) in omega (arith, long, more))
same_before (z ∷ xs) [] x is = absurd (let long = ap length is in let more = length-append xs (x ∷ []) in omega (arith, long, more))
same_before (z ∷ xs) (y ∷ ys) x is =
    let first : z ≡ y = cc in
    let rest = same_before xs ys x (let tail : xs ++ x ∷ [] ≡ ys ++ x ∷ [] = cc in tail) in
    λ i. first i ∷ rest i

-- the commands of a session are those of its entries
own_commands : (s : ℕ) (list : History) → own s list ≡ map (λ (e : Entry). e.command) (own_entries s list)
own_commands s [] = refl
own_commands s (e ∷ es) = by (e.session == s) (own_commands s es)
  where
    by : (b : Bool) → own s es ≡ map (λ (x : Entry). x.command) (own_entries s es)
        → cond b (e.command ∷ own s es) (own s es) ≡ map (λ (x : Entry). x.command) (cond b (e ∷ own_entries s es) (own_entries s es))
    by true more = ap (λ (cs : List Command). e.command ∷ cs) more
    by false more = more

-- ---- turns

-- no entry was added since by a session of which a longer list has the same entries
module _ (before first list : History) (s : ℕ) (b : Begins first list) (same : own_entries s list ≡ own_entries s first) where
  rest_none : own_entries s b.0 ≡ []
  rest_none = none_after (own_entries s first) (own_entries s b.0) (sym (filter-append (λ (e : Entry). e.session == s) first b.0) ∙ (ap (own_entries s) b.1 ∙ same))

  pub nothing_since : AddsNothing (before ++ list) s (length before + length first) (length before + length list)
  nothing_since =
      let front = before ++ first in
      let rest = b.0 in
      let from = length before + length first in
      let to = length before + length list in
      let long : length list ≡ length first + length rest = ap length (sym b.1) ∙ length-append first rest in
      let ahead : length front ≡ from = length-append before first in
      let all = length-append front rest in
      subst (λ (h : History). AddsNothing h s from to) (append_assoc before first rest ∙ ap (λ (x : History). before ++ x) b.1)
      (record {
        later = omega (arith, long);
        there = omega (arith, long, ahead, all);
        none = ap (λ (n : ℕ). own s (take (to - from) (drop n (front ++ rest)))) (sym ahead)
            ∙ (ap (λ (x : History). own s (take (to - from) x)) (drop_front front rest)
            ∙ (ap (own s) (take_all (to - from) rest (omega (arith, long))) ∙ (own_commands s rest ∙ ap (map (λ (e : Entry). e.command)) rest_none)));
      })

module _ (before list : History) (old new : View) where
  -- a turn that added nothing
  pub looked_nothing : {last : Option Entry} → AddsNone old list last new → KnowsOwn old → AddsNothing (before ++ list) old.number (length before + length old.list) (length before + length list)
  looked_nothing l knows =
      nothing_since before old.list list old.number l.begins (ap (λ (n : ℕ). own_entries n list) (sym l.number) ∙ (sym l.mine ∙ (l.kept ∙ knows)))

  pub looked_own : {last : Option Entry} → AddsNone old list last new → KnowsOwn new
  looked_own l = l.mine ∙ ap (own_entries new.number) (sym l.list)

  -- a turn that added an entry of the session added it alone
  module _ (e : Entry) (own_is : e.session ≡ old.number) (a : Added old list e new) (knows : KnowsOwn old) where
    found_own : own_entries old.number list ≡ own_entries old.number old.list
    found_own =
        let s = old.number in
        let one : own_entries s (e ∷ []) ≡ e ∷ [] = ap (λ (b : Bool). cond b (e ∷ []) []) (eq-eqb e.session s own_is) in
        let parts : own_entries s (list ++ e ∷ []) ≡ own_entries s list ++ e ∷ [] = filter-append (λ (x : Entry). x.session == s) list (e ∷ []) ∙ ap (λ (x : History). own_entries s list ++ x) one in
        let all : own_entries s (list ++ e ∷ []) ≡ old.mine ++ e ∷ [] = ap (λ (n : ℕ). own_entries n (list ++ e ∷ [])) (sym a.number) ∙ (sym a.mine ∙ a.kept) in
        same_before (own_entries s list) old.mine e (sym parts ∙ all) ∙ knows

    pub added_one : Adds (before ++ new.list) old.number e.command (length before + length old.list) (length before + length new.list)
    added_one =
        let whole : (before ++ list) ++ e ∷ [] ≡ before ++ new.list = append_assoc before list (e ∷ []) ∙ ap (λ (x : History). before ++ x) (sym a.list) in
        let long : length new.list ≡ length list + 1 = ap length a.list ∙ length-append list (e ∷ []) in
        let to : length before + length new.list ≡ length (before ++ list) + 1 = (let both = length-append before list in omega (arith, long, both)) in
        let last = adds_last (before ++ list) e old.number own_is in
        let nothing : AddsNothing ((before ++ list) ++ e ∷ []) old.number (length before + length old.list) (length before + length list) =
        nothing_more (before ++ list) (e ∷ []) old.number (length before + length old.list) (length before + length list) (nothing_since before old.list list old.number a.begins found_own) in
        subst (λ (h : History). Adds h old.number e.command (length before + length old.list) (length before + length new.list)) whole
        (record {
          later = omega (arith, long);
          before = subst (λ (n : ℕ). AddsNothing ((before ++ list) ++ e ∷ []) old.number (length before + length old.list) n) (omega (arith, long)) nothing;
          there = subst (λ (n : ℕ). slice_get ((before ++ list) ++ e ∷ []) (n - 1) ≡ Some (record { session = old.number; command = e.command })) (sym to) last.there;
        })

    pub added_own : KnowsOwn new
    added_own = a.mine ∙ ap (own_entries new.number) (sym a.list)
