-- Commands at their turns at the end of a history: which of them are accepted.
use Rattle.std.proofs.Common.{◌≡◌, ℕ, ◌+◌, ◌-◌, Bool, true, false, cond, nat_le, List, [], ◌∷◌, ◌++◌, Option, Some, None, length, map, take, refl, sym, ap, subst, ◌∙◌, append_assoc, append-nil, length-append, arith}
use Rattle.std.proofs.lemmas.List.{take-append-le, take_all}
use Rattle.std.proofs.lemmas.List.Elements.{All-nil, All-cons, All-append}
use Rattle.mt_values.specs.declared.command.Command.{Command}
use Rattle.mt_values.specs.declared.command.Command.TheVariants as command
use Rattle.mt_values.specs.declared.command.Entry.{Entry}
use Rattle.part_history.specs.mt_model.declared.refusal.Refusal.{Refusal}
use Rattle.part_history.specs.mt_model.declared.refusal.Refusal.TheVariants as refusal
use Rattle.part_history.specs.mt_model.declared.refusal.Room.TheVariants as room
use Rattle.part_history.specs.mt_model.History.{History, entered, inserts}
use Rattle.part_history.specs.mt_model.Numbers.{last_number}
use Rattle.part_history.specs.mt_model.Reply.{insert_turn, number_turn}
use Rattle.part_history.specs.mt_model.Session.{Accepts, Adds, TurnAllows, TurnRefuses}
use Rattle.part_history.proofs.MtModelGrowing.{adds_last, adds_more}
use Rattle.mt_plain.specs.Plain.{AfterTurns, Grows, after_turns, unless_turn_refuses, unmerged_turn}

-- the entries of a history that others were added to
pub front_of : (h more x : History) → x ≡ h ++ more → take (length h) x ≡ h
front_of h more x is = ap (take (length h)) is ∙ take-append-le (length h) h more (omega arith) ∙ take_all (length h) h (omega arith)

pub whole : (h : History) → take (length h) h ≡ h
whole h = take_all (length h) h (omega arith)

-- ---- one command after another

-- the next command is accepted
pub turn_taken : (accepted : ℕ) (c : Command) (cs left : List Command) (h new : History) (end : AfterTurns) → left ≡ c ∷ cs → after_turns accepted left h ≡ end → unmerged_turn h accepted c ≡ None → new ≡ entered h 0 (c ∷ []) → after_turns (accepted + 1) cs new ≡ end
turn_taken accepted c cs left h new end left_is so_far turn new_is =
    let rest : AfterTurns = after_turns (accepted + 1) cs (entered h 0 (c ∷ [])) in
    ap (after_turns (accepted + 1) cs) new_is
    ∙ sym (ap (λ (o : Option Refusal). unless_turn_refuses o h rest) turn)
    ∙ sym (ap (λ (l : List Command). after_turns accepted l h) left_is)
    ∙ so_far

-- ---- histories that grow

pub grows_one : (old h new : History) (c : Command) → Grows old h → new ≡ entered h 0 (c ∷ []) → Grows old new
grows_one old h new c grows is =
    let last : History = record { session = 0; command = c } ∷ [] in
    record {
      more = grows.more ++ last;
      is = is ∙ ap (λ (x : History). x ++ last) grows.is ∙ append_assoc old grows.more last;
      own = All-append (λ (e : Entry). e.session ≡ 0) grows.more last grows.own (All-cons (λ (e : Entry). e.session ≡ 0) (record { session = 0; command = c }) [] refl (All-nil (λ (e : Entry). e.session ≡ 0)));
    }

-- ---- turns

allowed_none : (parts drawn accepted : ℕ) → insert_turn parts drawn accepted ≡ None → insert_turn parts drawn 0 ≡ None
allowed_none parts drawn accepted none = by (nat_le 3000 parts) (nat_le 4294967295 drawn) none
  where
    by : (a b : Bool) → cond a (Some (refusal.Full room.Parts accepted)) (cond b (Some (refusal.Full room.Numbers accepted)) None) ≡ None → cond a (Some (refusal.Full room.Parts 0)) (cond b (Some (refusal.Full room.Numbers 0)) None) ≡ None
    by true b e = cc
    by false true e = cc
    by false false e = refl

numbered_none : (drawn accepted : ℕ) → number_turn drawn accepted ≡ None → number_turn drawn 0 ≡ None
numbered_none drawn accepted none = by (nat_le 4294967295 drawn) none
  where
    by : (b : Bool) → cond b (Some (refusal.Full room.Numbers accepted)) None ≡ None → cond b (Some (refusal.Full room.Numbers 0)) None ≡ None
    by true e = cc
    by false e = refl

turn_allows : (h : History) (accepted : ℕ) (c : Command) → unmerged_turn h accepted c ≡ None → TurnAllows h c
turn_allows h accepted (command.Create c) none = none
turn_allows h accepted (command.Insert i) none =
    (inserts i.table i.partition h, omega arith, allowed_none (inserts i.table i.partition h) (last_number i.table h) accepted none)
turn_allows h accepted (command.Alter a) none = numbered_none (last_number a.table h) accepted none

pub turn_refuses : (h : History) (accepted : ℕ) (c : Command) (why : Refusal) → unmerged_turn h accepted c ≡ Some why → TurnRefuses h accepted c why
turn_refuses h accepted (command.Create c) why is = is
turn_refuses h accepted (command.Insert i) why is = (inserts i.table i.partition h, omega arith, is)
turn_refuses h accepted (command.Alter a) why is = is

-- ---- all commands of a statement

-- there is no command left, or the next one's turn refuses it
abbrev pub EndsBy : History → Option Refusal → List Command → ℕ → Type 0
EndsBy h None rest accepted = rest ≡ []
EndsBy h (Some why) rest accepted = (next : Command) × (more : List Command) × (rest ≡ next ∷ more) × (unmerged_turn h accepted next ≡ Some why)

-- the first of the commands were accepted, each at its turn
pub record Ends (accepted : ℕ) (cs : List Command) (h : History) (end : AfterTurns) : Type 0 where
  pub done : List Command
  pub rest : List Command
  pub are : cs ≡ done ++ rest
  pub is : end.history ≡ entered h 0 done
  pub accepts : Accepts end.history 0 done (length h) (length end.history)
  pub ending : EndsBy end.history end.refused rest (accepted + length done)

entries_of : List Command → History
entries_of cs = map (λ (c : Command). record { session = 0; command = c }) cs

ends_later : (accepted : ℕ) (c : Command) (cs : List Command) (h : History) (end : AfterTurns) → unmerged_turn h accepted c ≡ None → Ends (accepted + 1) cs (entered h 0 (c ∷ [])) end → Ends accepted (c ∷ cs) h end
unfolding entries_of
ends_later accepted c cs h end turn later =
    let e : Entry = record { session = 0; command = c } in
    let one = entered h 0 (c ∷ []) in
    let more = entries_of later.done in
    let longer : length one ≡ length h + 1 = length-append h (e ∷ []) in
    let is : end.history ≡ h ++ e ∷ more = later.is ∙ append_assoc h (e ∷ []) more in
    let back : length h + 1 - 1 ≡ length h = omega arith in
    let front : take (length h + 1 - 1) end.history ≡ h = ap (λ (n : ℕ). take n end.history) back ∙ front_of h (e ∷ more) end.history is in
    let adds : Adds end.history 0 c (length h) (length h + 1) = subst (λ (x : History). Adds x 0 c (length h) (length h + 1)) (sym later.is) (adds_more one more 0 c (length h) (length h + 1) (adds_last h e 0 refl)) in
    let sum : accepted + 1 + length later.done ≡ accepted + length (c ∷ later.done) = omega arith in
    record {
      done = c ∷ later.done;
      rest = later.rest;
      are = ap (λ (l : List Command). c ∷ l) later.are;
      is = is;
      accepts = (
        length h + 1,
        subst (λ (x : History). TurnAllows x c) (sym front) (turn_allows h accepted c turn),
        adds,
        subst (λ (n : ℕ). Accepts end.history 0 later.done n (length end.history)) longer later.accepts,
      );
      ending = subst (EndsBy end.history end.refused later.rest) sum later.ending;
    }

pub ends : (accepted : ℕ) (cs : List Command) (h : History) → Ends accepted cs h (after_turns accepted cs h)
ends accepted [] h = record { done = []; rest = []; are = refl; is = sym (append-nil h); accepts = refl; ending = refl }
ends accepted (c ∷ cs) h = by (ends (accepted + 1) cs (entered h 0 (c ∷ []))) (unmerged_turn h accepted c) refl
  where
    by : Ends (accepted + 1) cs (entered h 0 (c ∷ [])) (after_turns (accepted + 1) cs (entered h 0 (c ∷ []))) → (o : Option Refusal) → unmerged_turn h accepted c ≡ o → Ends accepted (c ∷ cs) h (unless_turn_refuses o h (after_turns (accepted + 1) cs (entered h 0 (c ∷ []))))
    by later (Some why) e =
        let here : accepted ≡ accepted + 0 = omega arith in
        record { done = []; rest = c ∷ cs; are = refl; is = sym (append-nil h); accepts = refl; ending = (c, cs, refl, subst (λ (n : ℕ). unmerged_turn h n c ≡ Some why) here e) }
    by later None e = ends_later accepted c cs h (after_turns (accepted + 1) cs (entered h 0 (c ∷ []))) e later
