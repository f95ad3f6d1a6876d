-- A run stays one as the disk's count of faults rises, a part comes to have the greatest level, and others come to run beside.
use Rattle.std.proofs.Common.{◌≡◌, ℕ, ◌≤◌, Bool, true, false, List, [], ◌∷◌, length, Result, Ok, Err, inl, inr, refl, sym, ◌∙◌, subst, arith}
use Rattle.std.proofs.lemmas.Bool.{false≢true}
use Rattle.mt_values.specs.declared.statement.Cause.{Cause}
use Rattle.mt_values.specs.declared.statement.Statement.{Statement}
use Rattle.mt_values.specs.declared.statement.Statement.TheVariants as statement
use Rattle.mt_values.specs.declared.statement.OptimizeText.{OptimizeText}
use Rattle.mt_values.specs.declared.statement.SelectText.{SelectText}
use Rattle.mt_model.specs.declared.refusal.Refusal.TheVariants as refusal
use Rattle.mt_model.specs.History.{History}
use Rattle.mt_model.specs.Outside.{LevelFailed, Outside, HasRisen, PartBusy, ReadOrStageFailed, TurnFailed}
use Rattle.mt_model.specs.Refusals.{refusal_line}
use Rattle.mt_model.specs.Session.{MergeFailed, SelectRefused, TakesCommands, TakesOptimize, Takes, SessionRun, SessionReplies}
use Rattle.mt_model.specs.Script.{ScriptRun, ScriptReplies}

module _ (n m : Outside) (same : n.opened ≡ m.opened) (later : n.ended ≤ m.ended) (more : n.full ≡ true → m.full ≡ true) (others : n.company ≡ true → m.company ≡ true) where
  rose_more : (now : ℕ) → HasRisen n now → HasRisen m now
  rose_more now rose = omega arith

  ended_more : HasRisen n n.ended → HasRisen m m.ended
  ended_more rose = omega arith

  -- who is alone in the one was alone in the other
  alone_less : m.company ≡ false → n.company ≡ false
  alone_less alone = by n.company refl
    where
      by : (b : Bool) → n.company ≡ b → n.company ≡ false
      by true is = absurd (false≢true (sym alone ∙ others is))
      by false is = is

  stage_more : (reply : List ℕ) → ReadOrStageFailed n reply → ReadOrStageFailed m reply
  stage_more reply failed = (failed.0, ended_more failed.1)

  turn_more : (accepted : ℕ) (reply : List ℕ) → TurnFailed n accepted reply → TurnFailed m accepted reply
  turn_more accepted reply (inl failed) = inl (failed.0, ended_more failed.1)
  turn_more accepted reply (inr (now, low, ended, rose, is)) =
      inr (now, (λ alone. let below = low (alone_less alone) in omega (arith, below, later)), ended_more ended, rose_more now rose, subst (λ (o : ℕ). reply ≡ refusal_line (refusal.Stopped o now accepted)) same is)

  level_more : (reply : List ℕ) → LevelFailed n reply → LevelFailed m reply
  level_more reply failed = (failed.0, more failed.1)

  busy_more : (reply : List ℕ) → PartBusy n reply → PartBusy m reply
  busy_more reply busy = (others busy.0, busy.1, busy.2)

  merge_more : (o : OptimizeText) (reply : List ℕ) → MergeFailed n o reply → MergeFailed m o reply
  merge_more o reply (inl failed) = inl (stage_more reply failed)
  merge_more o reply (inr (inl (whole, inl failed))) = inr (inl (whole, inl (level_more reply failed)))
  merge_more o reply (inr (inl (whole, inr busy))) = inr (inl (whole, inr (busy_more reply busy)))
  merge_more o reply (inr (inr failed)) = inr (inr (turn_more 0 reply failed))

  module _ (h : History) (s from to : ℕ) (reply : List ℕ) where
    commands_risen : (st : Statement) → TakesCommands n h s st from to reply → TakesCommands m h s st from to reply
    commands_risen st (inl taken) = inl taken
    commands_risen st (inr (inl r)) = inr (inl r)
    commands_risen st (inr (inr (inl (cs, is, some, a, failed)))) = inr (inr (inl (cs, is, some, a, stage_more reply failed)))
    commands_risen st (inr (inr (inr (done, next, rest, stops, inl r)))) = inr (inr (inr (done, next, rest, stops, inl r)))
    commands_risen st (inr (inr (inr (done, next, rest, stops, inr (allows, failed))))) = inr (inr (inr (done, next, rest, stops, inr (allows, turn_more (length done) reply failed))))

    select_risen : (t : SelectText) → SelectRefused n h s t from to reply → SelectRefused m h s t from to reply
    select_risen t (inl r) = inl r
    select_risen t (inr (columns, is, a, failed)) = inr (columns, is, a, stage_more reply failed)

    optimize_risen : (o : OptimizeText) → TakesOptimize n h s o from to reply → TakesOptimize m h s o from to reply
    optimize_risen o (inl (is, a, inl ok)) = inl (is, a, inl ok)
    optimize_risen o (inl (is, a, inr failed)) = inl (is, a, inr (merge_more o reply failed))
    optimize_risen o (inr r) = inr r

    pub takes_risen : (st : Result Statement Cause) → Takes n h s st from to reply → Takes m h s st from to reply
    takes_risen (Ok (statement.Create c)) t = commands_risen (statement.Create c) t
    takes_risen (Ok (statement.Insert i)) t = commands_risen (statement.Insert i) t
    takes_risen (Ok (statement.Select t)) (inl taken) = inl taken
    takes_risen (Ok (statement.Select t)) (inr r) = inr (select_risen t r)
    takes_risen (Ok (statement.Explain t)) r = r
    takes_risen (Ok (statement.Optimize o)) t = optimize_risen o t
    takes_risen (Err why) r = r

pub run_risen : (n m : Outside) → n.opened ≡ m.opened → n.ended ≤ m.ended → (n.full ≡ true → m.full ≡ true) → (n.company ≡ true → m.company ≡ true) → (h : History) (s : ℕ) (ss : List (Result Statement Cause)) (from to : ℕ) (out : List ℕ) → SessionRun n h s ss from to out → SessionRun m h s ss from to out
run_risen n m same later more others h s [] from to out r = r
run_risen n m same later more others h s (st ∷ ss) from to out r = (r.0, r.1, r.2, takes_risen n m same later more others h s from r.0 r.1 st r.3, run_risen n m same later more others h s ss r.0 to r.2 r.4, r.5)

pub replies_risen : (n m : Outside) → n.opened ≡ m.opened → n.ended ≤ m.ended → (n.full ≡ true → m.full ≡ true) → (n.company ≡ true → m.company ≡ true) → (h : History) (s : ℕ) (ss : List (Result Statement Cause)) (from to : ℕ) (replies : List (List ℕ)) → SessionReplies n h s ss from to replies → SessionReplies m h s ss from to replies
replies_risen n m same later more others h s [] from to [] r = r
replies_risen n m same later more others h s [] from to (x ∷ xs) r = absurd r
replies_risen n m same later more others h s (st ∷ ss) from to [] r = absurd r
replies_risen n m same later more others h s (st ∷ ss) from to (x ∷ xs) r = (r.0, takes_risen n m same later more others h s from r.0 x st r.1, replies_risen n m same later more others h s ss r.0 to xs r.2)

pub script_risen : (n m : Outside) → n.opened ≡ m.opened → n.ended ≤ m.ended → (n.full ≡ true → m.full ≡ true) → (n.company ≡ true → m.company ≡ true) → (ss : List (Result Statement Cause)) (h : History) (base : ℕ) (out : List ℕ) → ScriptRun n ss h base out → ScriptRun m ss h base out
script_risen n m same later more others ss h base out r = record { last = r.last; run = run_risen n m same later more others h 0 ss base r.last out r.run; nothing_else = r.nothing_else; sessions = r.sessions }

pub script_replies_risen : (n m : Outside) → n.opened ≡ m.opened → n.ended ≤ m.ended → (n.full ≡ true → m.full ≡ true) → (n.company ≡ true → m.company ≡ true) → (ss : List (Result Statement Cause)) (h : History) (base : ℕ) (replies : List (List ℕ)) → ScriptReplies n ss h base replies → ScriptReplies m ss h base replies
script_replies_risen n m same later more others ss h base replies r = record { last = r.last; run = replies_risen n m same later more others h 0 ss base r.last replies r.run; nothing_else = r.nothing_else; sessions = r.sessions }
