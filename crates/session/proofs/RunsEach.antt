-- Statements of a session that ran one after another, each with its reply, and what follows for all of them together.
use Rattle.std.proofs.Common.{ℕ, List, [], ◌∷◌, ◌++◌, Option, Result, Ok, IfOk, refl, sym, subst, append_assoc, append-nil}
use Rattle.mt_base.specs.declared.memory.NoMemory.{NoMemory}
use Rattle.mt_values.specs.Script.{Item}
use Rattle.mt_outside.specs.Files.{Files}
use Rattle.replies.specs.mt_model.History.{History}
use Rattle.merge_workers.specs.shared_store.history_seat.Turns.{IsSession}
use Rattle.merge_workers.specs.shared_store.Sharing.{AtOpening}
use Rattle.merge_workers.specs.shared_store.Stood.{Premise}
use Rattle.session.specs.Answers.{AccountsAt, AnswersAt, Having, KnowsOwn, ShowsAt, StaysSession, StaysStopped, TellsAt, TriesAt}
use Rattle.session.specs.Runs.{EndsRun, HasRun, RanEach, RanOne, RanOut}
use Rattle.session.proofs.Runs.{has_run_more, has_run_none, run_ends}

module _ {F : Type 0} (files_of : F → Option Files) (given : Premise → Type 0) (before : History) (o : AtOpening) (whole : ℕ) where
  -- what one statement comes to, of what is known of it
  pub ran_one : (st : Item) (old new : Having) (result : Result (List ℕ) NoMemory) → AnswersAt given before o whole st old new result → AccountsAt o whole old new (TellsAt files_of given before o whole new.seat.list st) result
      → IfOk result (ShowsAt files_of given before o whole new.seat.list st) → StaysSession o whole old new → StaysStopped old new result → TriesAt given before st old new result → RanOne files_of given before o whole st old new result
  ran_one st old new result answers accounts shows stays stopped tries = record { answers = answers; accounts = accounts; shows = shows; stays = stays; stopped = stopped; tries = tries }

  -- one more statement, after those that ran
  pub each_more : (sts : List Item) (rs : List (List ℕ)) (old mid new : Having) (st : Item) (reply : List ℕ) → RanEach files_of given before o whole sts rs old mid → RanOne files_of given before o whole st mid new (Ok reply)
      → RanEach files_of given before o whole (sts ++ st ∷ []) (rs ++ reply ∷ []) old new
  each_more [] [] old mid new st reply same one = (new, subst (λ (x : Having). RanOne files_of given before o whole st x new (Ok reply)) same one, refl)
  each_more [] (r ∷ rs) old mid new st reply none one = absurd none
  each_more (s ∷ sts) [] old mid new st reply none one = absurd none
  each_more (s ∷ sts) (r ∷ rs) old mid new st reply (next, first, rest) one = (next, first, each_more sts rs next mid new st reply rest one)

  -- statements that ran after others that did
  pub has_run_then : (done : List Item) (said : List (List ℕ)) (sts : List Item) (rs : List (List ℕ)) (first old new : Having) → HasRun given before o whole done said first old → RanEach files_of given before o whole sts rs old new
      → HasRun given before o whole (done ++ sts) (said ++ rs) first new
  has_run_then done said [] [] first old new r same =
      subst (λ (ss : List Item). HasRun given before o whole ss (said ++ []) first new) (sym (append-nil done))
      (subst (λ (xs : List (List ℕ)). HasRun given before o whole done xs first new) (sym (append-nil said)) (subst (λ (x : Having). HasRun given before o whole done said first x) (sym same) r))
  has_run_then done said [] (reply ∷ rs) first old new r none = absurd none
  has_run_then done said (st ∷ sts) [] first old new r none = absurd none
  has_run_then done said (st ∷ sts) (reply ∷ rs) first old new r (mid, one, rest) =
      subst (λ (ss : List Item). HasRun given before o whole ss (said ++ reply ∷ rs) first new) (append_assoc done (st ∷ []) sts)
      (subst (λ (xs : List (List ℕ)). HasRun given before o whole ((done ++ st ∷ []) ++ sts) xs first new) (append_assoc said (reply ∷ []) rs)
      (has_run_then (done ++ st ∷ []) (said ++ reply ∷ []) sts rs first mid new (has_run_more given before o whole done said first old mid r one.stays files_of st reply one.answers one.accounts one.stopped one.tries) rest))

  -- statements that ran, of a session outside of a turn
  pub has_run_each : (sts : List Item) (rs : List (List ℕ)) (old new : Having) → IsSession old.seat → KnowsOwn old.seat → RanEach files_of given before o whole sts rs old new → HasRun given before o whole sts rs old new
  has_run_each sts rs old new session own_is ran = has_run_then [] [] sts rs old old new (has_run_none given before o whole old.seat old.share old.arm session own_is) ran

  -- and what stays of what it has
  pub stays_each : (sts : List Item) (rs : List (List ℕ)) (old new : Having) → IsSession old.seat → KnowsOwn old.seat → RanEach files_of given before o whole sts rs old new → StaysSession o whole old new
  stays_each sts rs old new session own_is ran = (has_run_each sts rs old new session own_is ran).stays

  -- one more ran after them, in which memory ran out
  pub run_ends_each : (sts : List Item) (last : Item) (rs : List (List ℕ)) (old new : Having) → IsSession old.seat → KnowsOwn old.seat → RanOut files_of given before o whole sts last rs old new → EndsRun given before o whole sts last rs old new
  run_ends_each sts last rs old new session own_is (mid, ran, (why, one)) = run_ends given before o whole sts rs old mid new (has_run_each sts rs old mid session own_is ran) one.stays last why one.answers one.stopped one.tries
