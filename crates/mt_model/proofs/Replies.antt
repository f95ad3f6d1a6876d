-- A run reply by reply.
use Rattle.std.proofs.Common.{ℕ, List, [], ◌∷◌, ◌++◌, Result, refl, sym, subst}
use Rattle.std.specs.List.{concat}
use Rattle.mt_values.specs.declared.statement.Cause.{Cause}
use Rattle.mt_values.specs.declared.statement.Statement.{Statement}
use Rattle.mt_model.specs.History.{History}
use Rattle.mt_model.specs.Outside.{Outside}
use Rattle.mt_model.specs.Session.{Takes, SessionRun, SessionReplies}
use Rattle.mt_model.specs.Script.{ScriptRun, ScriptReplies}
use Rattle.mt_model.proofs.Growing.{takes_more}

-- the replies together are what the run prints
pub replies_run : (n : Outside) (h : History) (s : ℕ) (ss : List (Result Statement Cause)) (from to : ℕ) (replies : List (List ℕ)) → SessionReplies n h s ss from to replies → SessionRun n h s ss from to (concat replies)
replies_run n h s [] from to [] r = (r, refl)
replies_run n h s [] from to (x ∷ xs) r = absurd r
replies_run n h s (st ∷ ss) from to [] r = absurd r
replies_run n h s (st ∷ ss) from to (x ∷ xs) r = (r.0, x, concat xs, r.1, replies_run n h s ss r.0 to xs r.2, refl)

pub script_replies_run : (n : Outside) (ss : List (Result Statement Cause)) (h : History) (base : ℕ) (replies : List (List ℕ)) → ScriptReplies n ss h base replies → ScriptRun n ss h base (concat replies)
script_replies_run n ss h base replies r = record { last = r.last; run = replies_run n h 0 ss base r.last replies r.run; nothing_else = r.nothing_else; sessions = r.sessions }

-- they stay a run's as the history grows
pub replies_more : (n : Outside) (h more : History) (s : ℕ) (ss : List (Result Statement Cause)) (from to : ℕ) (replies : List (List ℕ)) → SessionReplies n h s ss from to replies → SessionReplies n (h ++ more) s ss from to replies
replies_more n h more s [] from to [] r = r
replies_more n h more s [] from to (x ∷ xs) r = absurd r
replies_more n h more s (st ∷ ss) from to [] r = absurd r
replies_more n h more s (st ∷ ss) from to (x ∷ xs) r = (r.0, takes_more n h more s st from r.0 x r.1, replies_more n h more s ss r.0 to xs r.2)

-- one more statement joins them at the end
pub replies_append : (n : Outside) (h : History) (s : ℕ) (ss : List (Result Statement Cause)) (st : Result Statement Cause) (from mid to : ℕ) (replies : List (List ℕ)) (reply : List ℕ)
    → SessionReplies n h s ss from mid replies → Takes n h s st mid to reply → SessionReplies n h s (ss ++ st ∷ []) from to (replies ++ reply ∷ [])
replies_append n h s [] st from mid to [] reply r t = (to, subst (λ (p : ℕ). Takes n h s st p to reply) (sym r) t, refl)
replies_append n h s [] st from mid to (x ∷ xs) reply r t = absurd r
replies_append n h s (y ∷ ss) st from mid to [] reply r t = absurd r
replies_append n h s (y ∷ ss) st from mid to (x ∷ xs) reply r t = (r.0, r.1, replies_append n h s ss st r.0 mid to xs reply r.2 t)
