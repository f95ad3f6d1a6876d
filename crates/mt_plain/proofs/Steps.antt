-- What one statement comes to, run after the last entry of a history, over an outside without faults.
use Rattle.std.proofs.Common.{◌≡◌, ℕ, ◌+◌, ◌≤◌, List, [], ◌∷◌, ◌++◌, Option, Some, None, Result, Ok, Err, length, take, All, sym, ap, subst, ◌∙◌, inl, inr, arith, append-nil, length-append}
use Rattle.std.specs.Prelude.{IfOk}
use Rattle.std.proofs.lemmas.List.Elements.{All-append}
use Rattle.mt_values.specs.declared.command.Command.{Command}
use Rattle.mt_values.specs.declared.command.Entry.{Entry}
use Rattle.mt_values.specs.declared.statement.Cause.{Cause}
use Rattle.mt_values.specs.declared.statement.Statement.{Statement}
use Rattle.mt_values.specs.declared.statement.Statement.TheVariants as statement
use Rattle.mt_values.specs.declared.statement.OptimizeText.{OptimizeText}
use Rattle.mt_values.specs.declared.statement.SelectText.{SelectText}
use Rattle.mt_values.specs.declared.schema.Schema.{Schema}
use Rattle.part_history.specs.mt_model.Answer.{Answer}
use Rattle.part_history.specs.mt_model.Reply.{ok_line, rows_reply}
use Rattle.part_history.specs.mt_model.Commands.{commands_of, none_on}
use Rattle.part_history.specs.mt_model.declared.refusal.Refusal.{Refusal}
use Rattle.part_history.specs.mt_model.declared.refusal.Refusal.TheVariants as refusal
use Rattle.part_history.specs.mt_model.History.{History, entered, schema_of}
use Rattle.part_history.specs.mt_model.Refusals.{refusal_line}
use Rattle.part_history.specs.mt_model.Queries.{query_for, query_of_select}
use Rattle.part_history.specs.mt_model.Session.{AddsNothing, Accepts, StopsAfter, TurnRefuses, RefusedAs, SessionRun, Takes, TakesCommands, TakesStatement}
use Rattle.part_history.specs.mt_model.Script.{ScriptRun}
use Rattle.part_history.proofs.MtModelGrowing.{run_append, run_more, stays}
use Rattle.mt_plain.specs.Plain.{Grows, TookTurns, calm, reply_at, unmerged_turn}
use Rattle.mt_plain.proofs.Turning.{Ends, ends, front_of, turn_refuses, whole}

here : (h : History) → AddsNothing h 0 (length h) (length h)
here h = stays h 0 (length h) (omega arith)

pub when_ok : {A E : Type 0} (r : Result A E) (P Q : A → Type 0) → ((x : A) → P x → Q x) → IfOk r P → IfOk r Q
when_ok (Ok x) P Q then held = then x held
when_ok (Err e) P Q then held = tt

refused_here : (h : History) (why : Refusal) (reply : List ℕ) → reply ≡ refusal_line why → RefusedAs h 0 (length h) (length h) why reply
refused_here h why reply is = record { line = is; nothing = here h }

-- ---- CREATE and INSERT

-- the commands of a statement came to their turns
pub commands_take : (h new : History) (s : Statement) (cs : List Command) (reply : List ℕ) → commands_of h s ≡ Ok cs → TookTurns cs h new reply → TakesCommands calm new 0 s (length h) (length new) reply
commands_take h new s cs reply gives took =
    by took.refused (subst (Ends 0 cs h) took.after (ends 0 cs h)) took.reply_is
  where
    by : (o : Option Refusal) → Ends 0 cs h (record { history = new; refused = o }) → reply ≡ reply_at (length new) o → TakesCommands calm new 0 s (length h) (length new) reply
    by None ended line =
        let front : take (length h) new ≡ h = front_of h (entered [] 0 ended.done) new ended.is in
        let below : length h ≤ length new = let long = ap length ended.is in omega (arith, long, length-append h (entered [] 0 ended.done)) in
        let all : ended.done ≡ cs = sym (ended.are ∙ ap (λ (l : List Command). ended.done ++ l) ended.ending ∙ append-nil ended.done) in
        inl (
          line,
          record {
            seen = length h;
            commands = cs;
            nothing = stays new 0 (length h) below;
            gives = subst (λ (x : History). commands_of x s ≡ Ok cs) (sym front) gives;
            accepted = subst (λ (l : List Command). Accepts new 0 l (length h) (length new)) all ended.accepts;
          },
        )
    by (Some why) ended line =
        let next = ended.ending.0 in
        let more = ended.ending.1 in
        let front : take (length h) new ≡ h = front_of h (entered [] 0 ended.done) new ended.is in
        let below : length h ≤ length new = let long = ap length ended.is in omega (arith, long, length-append h (entered [] 0 ended.done)) in
        let are : cs ≡ ended.done ++ next ∷ more = ended.are ∙ ap (λ (l : List Command). ended.done ++ l) ended.ending.2 in
        let stops : StopsAfter new 0 s (length h) (length new) ended.done (next ∷ more) = record {
          seen = length h;
          place = length new;
          nothing = stays new 0 (length h) below;
          gives = subst (λ (x : History). commands_of x s ≡ Ok (ended.done ++ next ∷ more)) (sym front) (gives ∙ ap Ok are);
          accepted = ended.accepts;
          no_more = here new;
        } in
        let sum : 0 + length ended.done ≡ length ended.done = omega arith in
        let refuses = subst (λ (n : ℕ). unmerged_turn new n next ≡ Some why) sum ended.ending.3 in
        let turn : TurnRefuses (take (length new) new) (length ended.done) next why =
        subst (λ (x : History). TurnRefuses x (length ended.done) next why) (sym (whole new)) (turn_refuses new (length ended.done) next why refuses) in
        inr (inr (inr (ended.done, next, more, stops, inl (why, turn, line))))

-- ---- SELECT

pub unselected_takes : (h : History) (t : SelectText) (why : Refusal) (reply : List ℕ) → query_of_select t h ≡ Err why → reply ≡ refusal_line why → TakesStatement calm h 0 (statement.Select t) (length h) (length h) reply
unselected_takes h t why reply is line = inr (inl (why, subst (λ (x : History). query_of_select t x ≡ Err why) (sym (whole h)) is, refused_here h why reply line))

pub answer_takes : (h : History) (schema : Schema) (t : SelectText) (lines : List (List ℕ)) (reply : List ℕ) → schema_of t.table h ≡ Some schema → Answer h schema t lines → reply ≡ rows_reply lines (length h)
    → TakesStatement calm h 0 (statement.Select t) (length h) (length h) reply
answer_takes h schema t lines reply there answer is =
    inl (
      record {
        schema = schema;
        lines = lines;
        there = ap (schema_of t.table) (whole h) ∙ there;
        answer = subst (λ (x : History). Answer x schema t lines) (sym (whole h)) answer;
        reply_is = is;
      },
      here h,
    )

-- ---- EXPLAIN

unexplained_takes : (h : History) (t : SelectText) (why : Refusal) (reply : List ℕ) → query_of_select t h ≡ Err why → reply ≡ refusal_line why → TakesStatement calm h 0 (statement.Explain t) (length h) (length h) reply
unexplained_takes h t why reply is line = inr (why, subst (λ (x : History). query_of_select t x ≡ Err why) (sym (whole h)) is, refused_here h why reply line)

pub no_table_explained : (h : History) (t : SelectText) (reply : List ℕ) → schema_of t.table h ≡ None → reply ≡ refusal_line (refusal.NoTable t.table) → TakesStatement calm h 0 (statement.Explain t) (length h) (length h) reply
no_table_explained h t reply none line = unexplained_takes h t (refusal.NoTable t.table) reply (ap (query_for t) none) line

-- ---- OPTIMIZE

pub no_table_optimized : (h : History) (o : OptimizeText) (reply : List ℕ) → schema_of o.table h ≡ None → reply ≡ refusal_line (refusal.NoTable o.table) → TakesStatement calm h 0 (statement.Optimize o) (length h) (length h) reply
no_table_optimized h o reply none line =
    inr (refusal.NoTable o.table, ap (λ (x : History). none_on o.table (schema_of o.table x)) (whole h) ∙ ap (none_on o.table) none, refused_here h (refusal.NoTable o.table) reply line)

-- nothing is merged
pub optimized : (h : History) (o : OptimizeText) (schema : Schema) (reply : List ℕ) → schema_of o.table h ≡ Some schema → reply ≡ ok_line (length h) → TakesStatement calm h 0 (statement.Optimize o) (length h) (length h) reply
optimized h o schema reply there line =
    inl (ap (λ (x : History). none_on o.table (schema_of o.table x)) (whole h) ∙ ap (none_on o.table) there, here h, inl line)

-- ---- scripts

-- one statement more
pub ran_more : (old new : History) (ss : List (Result Statement Cause)) (st : Result Statement Cause) (out reply : List ℕ) → Grows old new → SessionRun calm old 0 ss 0 (length old) out → Takes calm new 0 st (length old) (length new) reply
    → SessionRun calm new 0 (ss ++ st ∷ []) 0 (length new) (out ++ reply)
ran_more old new ss st out reply grows run takes =
    run_append calm new 0 ss st 0 (length old) (length new) out reply (subst (λ (x : History). SessionRun calm x 0 ss 0 (length old) out) (sym grows.is) (run_more calm old grows.more 0 ss 0 (length old) out run)) takes

pub own_more : (old new : History) → Grows old new → All (λ (e : Entry). e.session ≡ 0) old → All (λ (e : Entry). e.session ≡ 0) new
own_more old new grows own = subst (All (λ (e : Entry). e.session ≡ 0)) (sym grows.is) (All-append (λ (e : Entry). e.session ≡ 0) old grows.more own grows.own)

pub ran_all : (h : History) (ss : List (Result Statement Cause)) (out : List ℕ) → SessionRun calm h 0 ss 0 (length h) out → All (λ (e : Entry). e.session ≡ 0) h → ScriptRun calm ss h 0 out
ran_all h ss out run own = record { last = length h; run = run; nothing_else = here h; sessions = own }
