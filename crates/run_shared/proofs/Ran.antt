-- A session whose statements ran is outside of a turn.
use Rattle.std.proofs.Common.{◌≡◌, ℕ, Bool, true, false, List, Option, inl, inr, sym, subst}
use Rattle.mt_values.specs.Script.{Item}
use Rattle.mt_outside.specs.Files.{Files}
use Rattle.session.specs.mt_model.History.{History}
use Rattle.session.specs.shared_store.history_seat.Turns.{IsSession}
use Rattle.session.specs.shared_store.Sharing.{AtOpening}
use Rattle.session.specs.shared_store.Stood.{Premise}
use Rattle.session.specs.shared_store.history_seat.declared.view.View.{View}
use Rattle.session.specs.shared_store.Tallies.{Tally}
use Rattle.session.specs.Answers.{Having, KnowsOwn, having}
use Rattle.session.specs.Runs.{RunsSession}
use Rattle.session.proofs.RunsEach.{stays_each}

module _ {F : Type 0} (files_of : F → Option Files) (given : Premise → Type 0) (before : History) (o : AtOpening) (whole : ℕ) (statements : List Item) (replies : List (List ℕ)) where
  still : (no_memory : Bool) (old new : Having) → RunsSession files_of given before o whole statements replies no_memory old new → IsSession old.seat → KnowsOwn old.seat → IsSession new.seat
  still false old new has session own_is = (stays_each files_of given before o whole statements replies old new session own_is has).session
  still true old new (inl (none, same)) session own_is = subst (λ (x : Having). IsSession x.seat) (sym same) session
  still true old new (inr (ran, rest, last, split, (mid, has, (why, one)))) session own_is = one.stays.session

  pub still_session : (no_memory : Bool) (seat_was : View) (share_was : Tally) (arm_was : ℕ) (seat : View) (share : Tally) (arm : ℕ) → RunsSession files_of given before o whole statements replies no_memory (having seat_was share_was arm_was) (having seat share arm) → IsSession seat_was
      → KnowsOwn seat_was → IsSession seat
  still_session no_memory seat_was share_was arm_was seat share arm ran session own_is = still no_memory (having seat_was share_was arm_was) (having seat share arm) ran session own_is
