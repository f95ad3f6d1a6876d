-- A script's run after a base is determined: what its statements do is a function of the history before them.
use Rattle.std.proofs.Common.{◌≡◌, ◌⊎◌, ℕ, Bool, true, false, cond, nat_le, ◌+◌, ◌-◌, ◌<◌, ◌≤◌, ◌^◌, List, [], ◌∷◌, ◌++◌, All, Option, Some, None, Result, Ok, Err, length, map, filter, take, drop, slice_get, refl, sym, ap, ◌∙◌, subst, inl, inr, append_assoc, append-nil, arith, suc}
use Rattle.std.proofs.lemmas.List.{drop-drop, length-take-le, take_all, length-drop, take-append-drop}
use Rattle.std.proofs.lemmas.List.Elements.{All-head, All-tail, All-take, All-drop}
use Rattle.std.proofs.lemmas.Bool.{false≢true}
use Rattle.std.proofs.lemmas.Bool.Decides.{nat_tests}
use Rattle.mt_values.specs.declared.command.Entry.{Entry}
use Rattle.mt_values.specs.declared.command.Command.{Command}
use Rattle.mt_values.specs.declared.command.Command.TheVariants as command
use Rattle.mt_values.specs.declared.schema.Schema.{Schema}
use Rattle.mt_values.specs.declared.statement.Cause.{Cause}
use Rattle.mt_values.specs.declared.statement.Statement.{Statement}
use Rattle.mt_values.specs.declared.statement.Statement.TheVariants as statement
use Rattle.mt_values.specs.declared.statement.OptimizeText.{OptimizeText}
use Rattle.mt_values.specs.declared.statement.SelectText.{SelectText}
use Rattle.mt_values.specs.Order.{key_of, row_cmp}
use Rattle.mt_values.specs.Printing.{line}
use Rattle.mt_values.specs.Tests.{eval}
use Rattle.mt_model.specs.Commands.{commands_of}
use Rattle.mt_model.specs.History.{History, ArePlain, FewInserts, entered, own, schema_of}
use Rattle.mt_model.specs.Live.{live, sorted}
use Rattle.mt_model.specs.Numbers.{last_number}
use Rattle.mt_model.specs.Answer.{Answer, Prints}
use Rattle.mt_model.specs.Queries.{query_for, query_of, query_of_select}
use Rattle.mt_model.specs.declared.query.Query.{Query}
use Rattle.mt_model.specs.declared.refusal.Refusal.{Refusal}
use Rattle.mt_model.specs.declared.refusal.Refusal.TheVariants as refusal
use Rattle.mt_model.specs.declared.refusal.Room.TheVariants as room
use Rattle.mt_model.specs.Outside.{Outside, HasRisen, ReadOrStageFailed, TurnFailed}
use Rattle.mt_model.specs.Refusals.{refusal_line, refusal_of_cause}
use Rattle.mt_model.specs.Reply.{ok_line, rows_reply, create_turn, insert_turn, number_turn}
use Rattle.mt_model.specs.Session.{AddsNothing, Adds, Accepts, TurnAllows, TurnRefuses, Selects, RefusedAs, MergeFailed, SelectRefused, TakesCommands, TakesOptimize, Takes, SessionRun}
use Rattle.mt_model.specs.Script.{HasNoExplain, IsNoExplain, OwnEntries, ScriptRun}
use Rattle.mt_model.proofs.Lists.{take_got}
use Rattle.mt_model.proofs.Places.{stops_places, takes_places}
use Rattle.mt_model.proofs.Determined.{answers_once, row_total}
use Rattle.mt_model.proofs.Histories.{few_front, plain_front}
use Rattle.mt_model.proofs.Merged.{sees_itself}
use Rattle.mt_model.proofs.Sorting.{sorted_permutes, sorted_rises}

-- ---- where all entries are session 0's, its places are the lengths of the history

all_own : (h : History) → All (λ (e : Entry). e.session ≡ 0) h → length (own 0 h) ≡ length h
all_own [] each = refl
all_own (e ∷ h) each = rw (All-head (λ (e : Entry). e.session ≡ 0) e h each) (ap suc (all_own h (All-tail (λ (e : Entry). e.session ≡ 0) e h each)))

own_past : (h : History) (base from : ℕ) → base ≤ from → OwnEntries h base → All (λ (e : Entry). e.session ≡ 0) (drop from h)
own_past h base from past each =
    let there : base + (from - base) ≡ from = omega arith in
    subst (λ (n : ℕ). All (λ (e : Entry). e.session ≡ 0) (drop n h)) there
    (subst (All (λ (e : Entry). e.session ≡ 0)) (drop-drop (from - base) base h) (All-drop (λ (e : Entry). e.session ≡ 0) (from - base) (drop base h) each))

-- who adds nothing stays where it is
pub stays_there : (h : History) (base from to : ℕ) → OwnEntries h base → base ≤ from → AddsNothing h 0 from to → to ≡ from
stays_there h base from to each past a =
    let part = take (to - from) (drop from h) in
    let own_part : length (own 0 part) ≡ length part = all_own part (All-take (λ (e : Entry). e.session ≡ 0) (to - from) (drop from h) (own_past h base from past each)) in
    let none : length (own 0 part) ≡ 0 = ap length a.none in
    let fits : to - from ≤ length (drop from h) = omega (arith, length-drop from h, a.there, a.later) in
    let long : length part ≡ to - from = length-take-le (to - from) (drop from h) fits in
    omega (arith, own_part, none, long, a.later)

-- who adds one command adds the next entry
pub adds_next : (h : History) (base from to : ℕ) (c : Command) → OwnEntries h base → base ≤ from → Adds h 0 c from to → (to - 1 ≡ from) × (to ≡ from + 1)
adds_next h base from to c each past a =
    let back : to - 1 ≡ from = stays_there h base from (to - 1) each past a.before in
    (back, omega (arith, a.later))

-- the history after one command
one_entered : (h : History) (base from to : ℕ) (c : Command) → OwnEntries h base → base ≤ from → Adds h 0 c from to → take to h ≡ entered (take from h) 0 (c ∷ [])
one_entered h base from to c each past a =
    let next = adds_next h base from to c each past a in
    let e : Entry = record { session = 0; command = c } in
    let there : slice_get h from ≡ Some e = subst (λ (n : ℕ). slice_get h n ≡ Some e) next.0 a.there in
    ap (λ (n : ℕ). take n h) next.1 ∙ take_got h from e there

entered_more : (h : History) (s : ℕ) (c : Command) (cs : List Command) → entered (entered h s (c ∷ [])) s cs ≡ entered h s (c ∷ cs)
entered_more h s c cs = append_assoc h (record { session = s; command = c } ∷ []) (map (λ (d : Command). record { session = s; command = d }) cs)

-- the history after commands
pub all_entered : (h : History) (base from to : ℕ) (cs : List Command) → OwnEntries h base → base ≤ from → Accepts h 0 cs from to → take to h ≡ entered (take from h) 0 cs
all_entered h base from to [] each past a = ap (λ (n : ℕ). take n h) (sym a) ∙ sym (append-nil (take from h))
all_entered h base from to (c ∷ cs) each past a =
    let next = adds_next h base from a.0 c each past a.2 in
    let later : base ≤ a.0 = omega (arith, next.1, past) in
    all_entered h base a.0 to cs each later a.3
    ∙ (ap (λ (x : History). entered x 0 cs) (one_entered h base from a.0 c each past a.2) ∙ entered_more (take from h) 0 c cs)

-- ---- what a statement but an EXPLAIN does after a history

-- its reply, by the place that it comes to, and the commands that are accepted
record Step : Type 0 where
  reply : ℕ → List ℕ
  commands : List Command

abbrev refused : Refusal → Step
refused why = record { reply = λ to. refusal_line why; commands = [] }

-- of a partition with fewer INSERTs than 3000, of which no turn is refused for its parts
abbrev turn_of : ℕ → Command → History → Option Refusal
turn_of accepted (command.Create c) h = create_turn c.table h
turn_of accepted (command.Insert i) h = insert_turn 0 (last_number i.table h) accepted
turn_of accepted (command.Alter a) h = number_turn (last_number a.table h) accepted

abbrev turn_or : Option Refusal → Command → Step → Step
turn_or (Some why) c rest = refused why
turn_or None c rest = record { reply = rest.reply; commands = c ∷ rest.commands }

-- commands, one after another, so many of which were accepted before
abbrev turns : ℕ → List Command → History → Step
turns accepted [] h = record { reply = ok_line; commands = [] }
turns accepted (c ∷ cs) h = turn_or (turn_of accepted c h) c (turns (accepted + 1) cs (entered h 0 (c ∷ [])))

abbrev commands_step : Result (List Command) Refusal → History → Step
commands_step (Err why) h = refused why
commands_step (Ok cs) h = turns 0 cs h

abbrev lines_at : SelectText → Schema → Query → History → List (List ℕ)
lines_at t schema query h = map line (sorted row_cmp (map (key_of query.places) (filter (eval query.condition) (live t.table schema h))))

abbrev select_query : SelectText → History → Schema → Result Query Refusal → Step
select_query t h schema (Err why) = refused why
select_query t h schema (Ok query) = record { reply = rows_reply (lines_at t schema query h); commands = [] }

abbrev select_step : SelectText → History → Option Schema → Step
select_step t h None = refused (refusal.NoTable t.table)
select_step t h (Some schema) = select_query t h schema (query_of schema.columns t)

abbrev step_of : Result Statement Cause → History → Step
step_of (Ok (statement.Create c)) h = commands_step (commands_of h (statement.Create c)) h
step_of (Ok (statement.Insert i)) h = commands_step (commands_of h (statement.Insert i)) h
step_of (Ok (statement.Select t)) h = select_step t h (schema_of t.table h)
step_of (Ok (statement.Explain t)) h = commands_step (commands_of h (statement.Explain t)) h
step_of (Ok (statement.Optimize o)) h = commands_step (commands_of h (statement.Optimize o)) h
step_of (Err why) h = refused (refusal_of_cause why)

-- a statement that is neither a SELECT nor an EXPLAIN, or a text that is refused as it is read
abbrev pub IsNoQuery : Result Statement Cause → Type 0
IsNoQuery (Ok (statement.Select t)) = ⊥
IsNoQuery (Ok (statement.Explain t)) = ⊥
IsNoQuery item = Unit {0}

-- the history after a statement
abbrev after : Result Statement Cause → History → History
after s h = entered h 0 (step_of s h).commands

-- what statements print after a history, and the history that they come to
abbrev out_of : List (Result Statement Cause) → History → List ℕ
out_of [] h = []
out_of (s ∷ ss) h = (step_of s h).reply (length (after s h)) ++ out_of ss (after s h)

abbrev end_of : List (Result Statement Cause) → History → History
end_of [] h = h
end_of (s ∷ ss) h = end_of ss (after s h)

-- the lines of an answer are those of the selected columns of the live rows that meet the condition, in order
lines_are : (h : History) (schema : Schema) (t : SelectText) (lines : List (List ℕ)) → ArePlain h → schema_of t.table h ≡ Some schema → (answer : Answer h schema t lines) → lines ≡ lines_at t schema answer.query h
lines_are h schema t lines plain there answer =
    let rows = live t.table schema h in
    let shown = map (key_of answer.query.places) (filter (eval answer.query.condition) rows) in
    let prints : Prints shown (lines_at t schema answer.query h) = record { order = sorted row_cmp shown; same = sorted_permutes row_cmp row_total shown; rising = sorted_rises row_cmp row_total shown; lines_are = refl } in
    let own_answer : Answer h schema t (lines_at t schema answer.query h) = record { query = answer.query; asked = answer.asked; rows = rows; seen = sees_itself schema t.is_final rows (plain t.table schema there); prints = prints } in
    answers_once h schema t lines (lines_at t schema answer.query h) (plain t.table schema there) answer own_answer

-- ---- where no count rose and no part has the greatest level, the outside refuses nothing

-- the count stands where it stood at opening, and not at its type's end; no part has the greatest level; and nobody ran beside
pub record IsCalm (n : Outside) : Type 0 where
  pub still : n.ended ≡ n.opened
  pub below : n.ended < 2 ^ 64 - 1
  pub room : n.full ≡ false
  pub alone : n.company ≡ false

never_rose : (n : Outside) (now : ℕ) → IsCalm n → now ≤ n.ended → HasRisen n now → ⊥
never_rose n now calm low rose = let still : n.ended ≡ n.opened = calm.still in let below : n.ended < 2 ^ 64 - 1 = calm.below in omega arith

pub never_failed : (n : Outside) (reply : List ℕ) → IsCalm n → ReadOrStageFailed n reply → ⊥
never_failed n reply calm failed = never_rose n n.ended calm (omega arith) failed.1

pub never_in_turn : (n : Outside) (accepted : ℕ) (reply : List ℕ) → IsCalm n → TurnFailed n accepted reply → ⊥
never_in_turn n accepted reply calm (inl failed) = never_rose n n.ended calm (omega arith) failed.1
never_in_turn n accepted reply calm (inr (now, low, ended, rose, is)) = never_rose n n.ended calm (omega arith) ended

pub never_merging : (n : Outside) (o : OptimizeText) (reply : List ℕ) → IsCalm n → MergeFailed n o reply → ⊥
never_merging n o reply calm (inl failed) = never_failed n reply calm failed
never_merging n o reply calm (inr (inl (whole, inl failed))) = false≢true (sym calm.room ∙ failed.1)
never_merging n o reply calm (inr (inl (whole, inr busy))) = false≢true (sym calm.alone ∙ busy.0)
never_merging n o reply calm (inr (inr failed)) = never_in_turn n 0 reply calm failed

-- ---- where a partition has fewer INSERTs than 3000, a turn is determined

turn_same : (parts drawn accepted : ℕ) → parts < 3000 → insert_turn parts drawn accepted ≡ insert_turn 0 drawn accepted
turn_same parts drawn accepted few = let low : nat_le 3000 parts ≡ false = grind (arith, nat_tests) in rw low refl

allowed_any : (drawn accepted : ℕ) → insert_turn 0 drawn 0 ≡ None → insert_turn 0 drawn accepted ≡ None
allowed_any drawn accepted none = by (nat_le 4294967295 drawn) none
  where
    by : (b : Bool) → cond b (Some (refusal.Full room.Numbers 0)) None ≡ None → cond b (Some (refusal.Full room.Numbers accepted)) None ≡ None
    by true e = cc
    by false e = refl

allows_turn : (h : History) (accepted : ℕ) (c : Command) → FewInserts h → TurnAllows h c → turn_of accepted c h ≡ None
allows_turn h accepted (command.Create c) few turn = turn
allows_turn h accepted (command.Insert i) few turn =
    let low : turn.0 < 3000 = omega (arith, few i.table i.partition, turn.1) in
    allowed_any (last_number i.table h) accepted (sym (turn_same turn.0 (last_number i.table h) 0 low) ∙ turn.2)
allows_turn h accepted (command.Alter a) few turn = allowed_any (last_number a.table h) accepted turn

refuses_turn : (h : History) (accepted : ℕ) (c : Command) (why : Refusal) → FewInserts h → TurnRefuses h accepted c why → turn_of accepted c h ≡ Some why
refuses_turn h accepted (command.Create c) why few turn = turn
refuses_turn h accepted (command.Insert i) why few turn =
    let low : turn.0 < 3000 = omega (arith, few i.table i.partition, turn.1) in
    sym (turn_same turn.0 (last_number i.table h) accepted low) ∙ turn.2
refuses_turn h accepted (command.Alter a) why few turn = turn

-- ---- what is known of a history, or of the one that the statements come to, and of each front with it

-- the history has it, or the one that the statements come to
abbrev EndsAs : (History → Type 0) → History → List (Result Statement Cause) → ℕ → Type 0
EndsAs P h ss from = P h ⊎ P (end_of ss (take from h))

-- the history has it, or the one that the commands come to
abbrev TurnsAs : (History → Type 0) → History → ℕ → List Command → History → Type 0
TurnsAs P h accepted cs x = P h ⊎ P (entered x 0 (turns accepted cs x).commands)

module _ (P : History → Type 0) (front : (h more : History) → P (h ++ more) → P h) where
  front_take : (n : ℕ) (h : History) → P h → P (take n h)
  front_take n h known = front (take n h) (drop n h) (subst P (sym (take-append-drop n h)) known)

  front_end : (ss : List (Result Statement Cause)) (h : History) → P (end_of ss h) → P h
  front_end [] h known = known
  front_end (s ∷ ss) h known = front h (map (λ (c : Command). record { session = 0; command = c }) (step_of s h).commands) (front_end ss (after s h) known)

  known_so_far : (h : History) (ss : List (Result Statement Cause)) (from : ℕ) → EndsAs P h ss from → P (take from h)
  known_so_far h ss from (inl known) = front_take from h known
  known_so_far h ss from (inr known) = front_end ss (take from h) known

  known_next : (h : History) (s : Result Statement Cause) (ss : List (Result Statement Cause)) (from place : ℕ) → take place h ≡ after s (take from h) → EndsAs P h (s ∷ ss) from → EndsAs P h ss place
  known_next h s ss from place is (inl known) = inl known
  known_next h s ss from place is (inr known) = inr (subst (λ (x : History). P (end_of ss x)) (sym is) known)

  known_now : (h : History) (accepted : ℕ) (cs : List Command) (from : ℕ) → TurnsAs P h accepted cs (take from h) → P (take from h)
  known_now h accepted cs from (inl known) = front_take from h known
  known_now h accepted cs from (inr known) = front (take from h) (map (λ (c : Command). record { session = 0; command = c }) (turns accepted cs (take from h)).commands) known

abbrev TurnsFew : History → ℕ → List Command → History → Type 0
TurnsFew h accepted cs x = TurnsAs FewInserts h accepted cs x

few_now : (h : History) (accepted : ℕ) (cs : List Command) (from : ℕ) → TurnsFew h accepted cs (take from h) → FewInserts (take from h)
few_now h accepted cs from few = known_now FewInserts few_front h accepted cs from few

-- the turns of commands, the first of which is allowed
turns_next : (accepted : ℕ) (c : Command) (cs : List Command) (x : History) → turn_of accepted c x ≡ None → turns accepted (c ∷ cs) x ≡ turn_or None c (turns (accepted + 1) cs (entered x 0 (c ∷ [])))
turns_next accepted c cs x none = ap (λ o. turn_or o c (turns (accepted + 1) cs (entered x 0 (c ∷ [])))) none

turns_few : (h : History) (accepted : ℕ) (c : Command) (cs : List Command) (x y : History) → turn_of accepted c x ≡ None → y ≡ entered x 0 (c ∷ []) → TurnsFew h accepted (c ∷ cs) x → TurnsFew h (accepted + 1) cs y
turns_few h accepted c cs x y none is (inl few) = inl few
turns_few h accepted c cs x y none is (inr few) =
    let rest = turns (accepted + 1) cs (entered x 0 (c ∷ [])) in
    let same : entered x 0 (turns accepted (c ∷ cs) x).commands ≡ entered (entered x 0 (c ∷ [])) 0 rest.commands =
    ap (λ (s : Step). entered x 0 s.commands) (turns_next accepted c cs x none) ∙ sym (entered_more x 0 c rest.commands) in
    inr (subst (λ (z : History). FewInserts (entered z 0 (turns (accepted + 1) cs z).commands)) (sym is) (subst FewInserts same few))

module _ (h : History) (base : ℕ) (each : OwnEntries h base) where
  -- commands of which all are accepted
  all_turns : (accepted : ℕ) (cs : List Command) (from to : ℕ) → base ≤ from → TurnsFew h accepted cs (take from h) → Accepts h 0 cs from to → turns accepted cs (take from h) ≡ record { reply = ok_line; commands = cs }
  all_turns accepted [] from to past few a = refl
  all_turns accepted (c ∷ cs) from to past few a =
      let next = adds_next h base from a.0 c each past a.2 in
      let later : base ≤ a.0 = omega (arith, next.1, past) in
      let grown : take a.0 h ≡ entered (take from h) 0 (c ∷ []) = one_entered h base from a.0 c each past a.2 in
      let allows : TurnAllows (take from h) c = subst (λ (n : ℕ). TurnAllows (take n h) c) next.0 a.1 in
      let none : turn_of accepted c (take from h) ≡ None = allows_turn (take from h) accepted c (few_now h accepted (c ∷ cs) from few) allows in
      let rest = all_turns (accepted + 1) cs a.0 to later (turns_few h accepted c cs (take from h) (take a.0 h) none grown few) a.3 in
      turns_next accepted c cs (take from h) none
      ∙ ap (turn_or None c) (ap (turns (accepted + 1) cs) (sym grown) ∙ rest)

  -- commands of which the first are accepted, and the next is refused
  stopped_turns : (accepted : ℕ) (done rest : List Command) (next : Command) (why : Refusal) (from to : ℕ) → base ≤ from → TurnsFew h accepted (done ++ next ∷ rest) (take from h) → Accepts h 0 done from to
      → TurnRefuses (take to h) (accepted + length done) next why → turns accepted (done ++ next ∷ rest) (take from h) ≡ record { reply = λ place. refusal_line why; commands = done }
  stopped_turns accepted [] rest next why from to past few a turn =
      let none : accepted + 0 ≡ accepted = omega arith in
      let here : TurnRefuses (take from h) accepted next why = subst (λ (n : ℕ). TurnRefuses (take from h) n next why) none (subst (λ (n : ℕ). TurnRefuses (take n h) (accepted + 0) next why) (sym a) turn) in
      let stop : turn_of accepted next (take from h) ≡ Some why = refuses_turn (take from h) accepted next why (few_now h accepted (next ∷ rest) from few) here in
      ap (λ o. turn_or o next (turns (accepted + 1) rest (entered (take from h) 0 (next ∷ [])))) stop
  stopped_turns accepted (c ∷ done) rest next why from to past few a turn =
      let after_one = adds_next h base from a.0 c each past a.2 in
      let later : base ≤ a.0 = omega (arith, after_one.1, past) in
      let grown : take a.0 h ≡ entered (take from h) 0 (c ∷ []) = one_entered h base from a.0 c each past a.2 in
      let allows : TurnAllows (take from h) c = subst (λ (n : ℕ). TurnAllows (take n h) c) after_one.0 a.1 in
      let none : turn_of accepted c (take from h) ≡ None = allows_turn (take from h) accepted c (few_now h accepted (c ∷ (done ++ next ∷ rest)) from few) allows in
      let count : accepted + length (c ∷ done) ≡ accepted + 1 + length done = omega arith in
      let stop : TurnRefuses (take to h) (accepted + 1 + length done) next why = subst (λ (n : ℕ). TurnRefuses (take to h) n next why) count turn in
      let more = stopped_turns (accepted + 1) done rest next why a.0 to later (turns_few h accepted c (done ++ next ∷ rest) (take from h) (take a.0 h) none grown few) a.3 stop in
      turns_next accepted c (done ++ next ∷ rest) (take from h) none
      ∙ ap (turn_or None c) (ap (turns (accepted + 1) (done ++ next ∷ rest)) (sym grown) ∙ more)

-- ---- a statement that was taken did this

record Did (h : History) (from to : ℕ) (reply : List ℕ) (step : Step) : Type 0 where
  reply_is : reply ≡ step.reply to
  more_is : take to h ≡ entered (take from h) 0 step.commands

module _ (n : Outside) (calm : IsCalm n) (h : History) (base from to : ℕ) (each : OwnEntries h base) (past : base ≤ from) where
  stay : AddsNothing h 0 from to → to ≡ from
  stay a = stays_there h base from to each past a

  did_nothing : (reply : List ℕ) (step : Step) → AddsNothing h 0 from to → reply ≡ step.reply to → step.commands ≡ [] → Did h from to reply step
  did_nothing reply step a is none =
      record { reply_is = is; more_is = ap (λ (k : ℕ). take k h) (stay a) ∙ (sym (append-nil (take from h)) ∙ ap (entered (take from h) 0) (sym none)) }

  -- what was asked up to its place was asked of the entries before it
  asked : {X : Type 0} (f : History → X) (x : X) → f (take to h) ≡ x → to ≡ from → f (take from h) ≡ x
  asked f x is same = ap (λ (k : ℕ). f (take k h)) (sym same) ∙ is

  did_refused : (why : Refusal) (reply : List ℕ) (step : Step) → RefusedAs h 0 from to why reply → step ≡ refused why → Did h from to reply step
  did_refused why reply step r is = subst (Did h from to reply) (sym is) (did_nothing reply (refused why) r.nothing r.line refl)

  did_commands : (st : Statement) (reply : List ℕ) → ((cs : List Command) → commands_of (take from h) st ≡ Ok cs → TurnsFew h 0 cs (take from h)) → TakesCommands n h 0 st from to reply → Did h from to reply (commands_step (commands_of (take from h) st) (take from h))
  did_commands st reply few (inl (is, a)) =
      let seen : a.seen ≡ from = stays_there h base from a.seen each past a.nothing in
      let gives : commands_of (take from h) st ≡ Ok a.commands = subst (λ (k : ℕ). commands_of (take k h) st ≡ Ok a.commands) seen a.gives in
      let accepted : Accepts h 0 a.commands from to = subst (λ (k : ℕ). Accepts h 0 a.commands k to) seen a.accepted in
      let step : commands_step (commands_of (take from h) st) (take from h) ≡ record { reply = ok_line; commands = a.commands } =
      ap (λ r. commands_step r (take from h)) gives ∙ all_turns h base each 0 a.commands from to past (few a.commands gives) accepted in
      subst (Did h from to reply) (sym step) (record { reply_is = is; more_is = all_entered h base from to a.commands each past accepted })
  did_commands st reply few (inr (inl (why, is, r))) =
      did_refused why reply _ r (ap (λ o. commands_step o (take from h)) (asked (λ x. commands_of x st) (Err why) is (stay r.nothing)))
  did_commands st reply few (inr (inr (inl (commands, is, some, a, failed)))) = absurd (never_failed n reply calm failed)
  did_commands st reply few (inr (inr (inr (done, next, rest, a, inl (why, turn, line))))) =
      let cs = done ++ next ∷ rest in
      let seen : a.seen ≡ from = stays_there h base from a.seen each past a.nothing in
      let gives : commands_of (take from h) st ≡ Ok cs = subst (λ (k : ℕ). commands_of (take k h) st ≡ Ok cs) seen a.gives in
      let accepted : Accepts h 0 done from a.place = subst (λ (k : ℕ). Accepts h 0 done k a.place) seen a.accepted in
      let between = stops_places h 0 st from to done (next ∷ rest) a in
      let place : to ≡ a.place = stays_there h base a.place to each (omega (arith, past, between.first, between.later)) a.no_more in
      let here : Accepts h 0 done from to = subst (λ (k : ℕ). Accepts h 0 done from k) (sym place) accepted in
      let count : length done ≡ 0 + length done = omega arith in
      let stop : TurnRefuses (take to h) (0 + length done) next why = subst (λ (k : ℕ). TurnRefuses (take to h) k next why) count turn in
      let step : commands_step (commands_of (take from h) st) (take from h) ≡ record { reply = λ k. refusal_line why; commands = done } =
      ap (λ r. commands_step r (take from h)) gives ∙ stopped_turns h base each 0 done rest next why from to past (few cs gives) here stop in
      subst (Did h from to reply) (sym step) (record { reply_is = line; more_is = all_entered h base from to done each past here })
  did_commands st reply few (inr (inr (inr (done, next, rest, a, inr (allows, failed))))) = absurd (never_in_turn n (length done) reply calm failed)

  did_select : (t : SelectText) (reply : List ℕ) → ArePlain (take from h) → Selects h t to reply → AddsNothing h 0 from to → Did h from to reply (step_of (Ok (statement.Select t)) (take from h))
  did_select t reply plain r a =
      let x = take from h in
      let there : schema_of t.table x ≡ Some r.schema = asked (schema_of t.table) (Some r.schema) r.there (stay a) in
      let answer : Answer x r.schema t r.lines = subst (λ (k : ℕ). Answer (take k h) r.schema t r.lines) (stay a) r.answer in
      let lines : r.lines ≡ lines_at t r.schema answer.query x = lines_are x r.schema t r.lines plain there answer in
      let step : step_of (Ok (statement.Select t)) x ≡ select_query t x r.schema (Ok answer.query) =
      ap (select_step t x) there ∙ ap (select_query t x r.schema) answer.asked in
      subst (Did h from to reply) (sym step)
      (did_nothing reply (select_query t x r.schema (Ok answer.query)) a (r.reply_is ∙ ap (λ (zs : List (List ℕ)). rows_reply zs to) lines) refl)

  refused_query : (t : SelectText) (g : History) (why : Refusal) (o : Option Schema) → query_for t o ≡ Err why → select_step t g o ≡ refused why
  refused_query t g why None is = let same : refusal.NoTable t.table ≡ why = cc in ap refused same
  refused_query t g why (Some schema) is = ap (select_query t g schema) is

  did_not_select : (t : SelectText) (reply : List ℕ) → SelectRefused n h 0 t from to reply → Did h from to reply (step_of (Ok (statement.Select t)) (take from h))
  did_not_select t reply (inl (why, is, r)) =
      did_refused why reply _ r (refused_query t (take from h) why (schema_of t.table (take from h)) (asked (query_of_select t) (Err why) is (stay r.nothing)))
  did_not_select t reply (inr (query, is, a, failed)) = absurd (never_failed n reply calm failed)

  did_optimize : (o : OptimizeText) (reply : List ℕ) → TakesOptimize n h 0 o from to reply → Did h from to reply (step_of (Ok (statement.Optimize o)) (take from h))
  did_optimize o reply (inl (is, a, inl ok)) =
      let x = take from h in
      let gives : commands_of x (statement.Optimize o) ≡ Ok [] = asked (λ y. commands_of y (statement.Optimize o)) (Ok []) is (stay a) in
      subst (Did h from to reply) (sym (ap (λ r. commands_step r x) gives)) (did_nothing reply (commands_step (Ok []) x) a ok refl)
  did_optimize o reply (inl (is, a, inr failed)) = absurd (never_merging n o reply calm failed)
  did_optimize o reply (inr (why, is, r)) =
      did_refused why reply _ r (ap (λ p. commands_step p (take from h)) (asked (λ y. commands_of y (statement.Optimize o)) (Err why) is (stay r.nothing)))

  -- the history that a statement's commands come to has few INSERTs, where the statements come to one that has
  few_commands : (ss : List (Result Statement Cause)) (st : Statement) (cs : List Command) → step_of (Ok st) (take from h) ≡ commands_step (commands_of (take from h) st) (take from h) → EndsAs FewInserts h (Ok st ∷ ss) from
      → commands_of (take from h) st ≡ Ok cs → TurnsFew h 0 cs (take from h)
  few_commands ss st cs same (inl few) is = inl few
  few_commands ss st cs same (inr few) is =
      inr (subst (λ (s : Step). FewInserts (entered (take from h) 0 s.commands)) (same ∙ ap (λ r. commands_step r (take from h)) is) (front_end FewInserts few_front ss (after (Ok st) (take from h)) few))

  -- a statement but a SELECT and an EXPLAIN
  did_other : (ss : List (Result Statement Cause)) (st : Result Statement Cause) (reply : List ℕ) → IsNoQuery st → EndsAs FewInserts h (st ∷ ss) from → Takes n h 0 st from to reply → Did h from to reply (step_of st (take from h))
  did_other ss (Ok (statement.Create c)) reply other few t = did_commands (statement.Create c) reply (λ cs is. few_commands ss (statement.Create c) cs refl few is) t
  did_other ss (Ok (statement.Insert i)) reply other few t = did_commands (statement.Insert i) reply (λ cs is. few_commands ss (statement.Insert i) cs refl few is) t
  did_other ss (Ok (statement.Select t)) reply other few r = absurd other
  did_other ss (Ok (statement.Explain t)) reply other few r = absurd other
  did_other ss (Ok (statement.Optimize o)) reply other few t = did_optimize o reply t
  did_other ss (Err why) reply other few r = did_refused (refusal_of_cause why) reply _ r refl

  did : (ss : List (Result Statement Cause)) (st : Result Statement Cause) (reply : List ℕ) → IsNoExplain st → EndsAs FewInserts h (st ∷ ss) from → EndsAs ArePlain h (st ∷ ss) from → Takes n h 0 st from to reply
      → Did h from to reply (step_of st (take from h))
  did ss (Ok (statement.Create c)) reply other few plain t = did_other ss (Ok (statement.Create c)) reply tt few t
  did ss (Ok (statement.Insert i)) reply other few plain t = did_other ss (Ok (statement.Insert i)) reply tt few t
  did ss (Ok (statement.Select t)) reply other few plain (inl (r, a)) = did_select t reply (known_so_far ArePlain plain_front h (Ok (statement.Select t) ∷ ss) from plain) r a
  did ss (Ok (statement.Select t)) reply other few plain (inr r) = did_not_select t reply r
  did ss (Ok (statement.Explain t)) reply other few plain r = absurd other
  did ss (Ok (statement.Optimize o)) reply other few plain t = did_optimize o reply t
  did ss (Err why) reply other few plain r = did_refused (refusal_of_cause why) reply _ r refl

-- ---- runs

run_rises : (n : Outside) (h : History) (ss : List (Result Statement Cause)) (from to : ℕ) (out : List ℕ) → SessionRun n h 0 ss from to out → from ≤ to
run_rises n h [] from to out r = let e : from ≡ to = r.0 in omega arith
run_rises n h (s ∷ ss) from to out r =
    let one = takes_places n h 0 s from r.0 r.1 r.3 in
    let rest = run_rises n h ss r.0 to r.2 r.4 in
    omega (arith, one.0, rest)

-- the output of a run and the history at its end
record Ran (h : History) (ss : List (Result Statement Cause)) (from to : ℕ) (out : List ℕ) : Type 0 where
  out_is : out ≡ out_of ss (take from h)
  end_is : take to h ≡ end_of ss (take from h)

ran : (n : Outside) → IsCalm n → (h : History) (base : ℕ) (ss : List (Result Statement Cause)) (from to : ℕ) (out : List ℕ) → OwnEntries h base → base ≤ from → HasNoExplain ss → EndsAs FewInserts h ss from → EndsAs ArePlain h ss from → SessionRun n h 0 ss from to out → Ran h ss from to out
ran n calm h base [] from to out each past others few plain r = record { out_is = r.1; end_is = ap (λ (m : ℕ). take m h) (sym r.0) }
ran n calm h base (s ∷ ss) from to out each past others few plain r =
    let place = r.0 in
    let places = takes_places n h 0 s from place r.1 r.3 in
    let one = did n calm h base from place each past ss s r.1 (All-head IsNoExplain s ss others) few plain r.3 in
    let rest = ran n calm h base ss place to r.2 each (omega (arith, places.0)) (All-tail IsNoExplain s ss others) (known_next FewInserts few_front h s ss from place one.more_is few) (known_next ArePlain plain_front h s ss from place one.more_is plain) r.4 in
    let more = after s (take from h) in
    let length_is : length more ≡ place = ap length (sym one.more_is) ∙ length-take-le place h places.1 in
    record {
      out_is = r.5 ∙ ap (λ (zs : List ℕ). zs ++ r.2) (one.reply_is ∙ ap (step_of s (take from h)).reply (sym length_is))
          ∙ ap (λ (zs : List ℕ). (step_of s (take from h)).reply (length more) ++ zs) (rest.out_is ∙ ap (out_of ss) one.more_is);
      end_is = rest.end_is ∙ ap (end_of ss) one.more_is;
    }

script_ran : (n : Outside) → IsCalm n → (h : History) (ss : List (Result Statement Cause)) (base : ℕ) (out : List ℕ) → HasNoExplain ss → EndsAs FewInserts h ss base → EndsAs ArePlain h ss base → ScriptRun n ss h base out → (out ≡ out_of ss (take base h)) × (h ≡ end_of ss (take base h))
script_ran n calm h ss base out others few plain r =
    let rises = run_rises n h ss base r.last out r.run in
    let all : length h ≡ r.last = stays_there h base r.last (length h) r.sessions rises r.nothing_else in
    let found = ran n calm h base ss base r.last out r.sessions (omega arith) others few plain r.run in
    let whole : take r.last h ≡ h = take_all r.last h (omega arith) in
    (found.out_is, sym whole ∙ found.end_is)

-- what a script without an EXPLAIN prints after a base, and each command that is accepted, are determined where no count rose, no part has the greatest level, and one of the histories has few INSERTs and plain tables alone
pub one_way : (n : Outside) (script : List (Result Statement Cause)) (h g : History) (base : ℕ) (a b : List ℕ) → n.ended ≡ n.opened → n.ended < 2 ^ 64 - 1 → n.full ≡ false → n.company ≡ false → FewInserts h → ArePlain h → HasNoExplain script → take base h ≡ take base g → ScriptRun n script h base a → ScriptRun n script g base b → (a ≡ b) × (h ≡ g)
one_way n script h g base a b still below room alone few plain others same one two =
    let calm : IsCalm n = record { still = still; below = below; room = room; alone = alone } in
    let left = script_ran n calm h script base a others (inl few) (inl plain) one in
    let end : h ≡ end_of script (take base g) = left.1 ∙ ap (end_of script) same in
    let right = script_ran n calm g script base b others (inr (subst FewInserts end few)) (inr (subst ArePlain end plain)) two in
    (left.0 ∙ ap (out_of script) same ∙ sym right.0, end ∙ sym right.1)

-- ---- one statement over two histories

-- A statement but a SELECT and an EXPLAIN is replied the same, and leaves the same entries, in each history that goes on from the same
-- ones by entries of session 0, where one of the two has few INSERTs.
pub same_step : (n : Outside) (calm : IsCalm n) (g h : History) (from to place : ℕ) (st : Result Statement Cause) (a b : List ℕ) → IsNoQuery st → FewInserts g → OwnEntries g from → OwnEntries h from → take from g ≡ take from h
    → Takes n g 0 st from to a → Takes n h 0 st from place b → (a ≡ b) × (take to g ≡ take place h)
same_step n calm g h from to place st a b other few own also same one two =
    let step = step_of st (take from g) in
    let left = did_other n calm g from from to own (omega arith) [] st a other (inl few) one in
    let so_far : FewInserts (after st (take from h)) = subst FewInserts (left.more_is ∙ ap (after st) same) (front_take FewInserts few_front to g few) in
    let right = did_other n calm h from from place also (omega arith) [] st b other (inr so_far) two in
    let end : take to g ≡ take place h = left.more_is ∙ ap (after st) same ∙ sym right.more_is in
    let low = takes_places n g 0 st from to a one in
    let high = takes_places n h 0 st from place b two in
    let long : to ≡ place = sym (length-take-le to g low.1) ∙ ap length end ∙ length-take-le place h high.1 in
    (left.reply_is ∙ ap step.reply long ∙ ap (λ (x : History). (step_of st x).reply place) same ∙ sym right.reply_is, end)
