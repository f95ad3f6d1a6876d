-- What a script leaves that session 0 ran alone over a root that it shared with nobody (docs/architecture.md, "The lock").
use Rattle.std.specs.Prelude.{◌≡◌, ◌⊎◌, ◌==◌, ℕ, [], ◌∷◌, List, Option, None, Some, replicate, length, cond}
use Rattle.mt_values.specs.declared.command.Entry.{Entry}
use Rattle.mt_values.specs.Annals as keeper
use Rattle.mt_outside.specs.Files.{Files}
use Rattle.session.specs.mt_model.History.{History, entries_of}
use Rattle.root_log.specs.root_store.Crashes.{Storage}
use Rattle.session.specs.shared_store.history_seat.declared.view.View.{View}
use Rattle.session.specs.shared_store.history_seat.Views.{no_entry, session_view}
use Rattle.session.specs.shared_store.Sharing.{AtOpening, Finished}
use Rattle.session.specs.shared_store.Stood.{Premise}
use Rattle.session.specs.shared_store.Tallies.{Tally, tally}
use Rattle.session.specs.Answers.{having}
use Rattle.mt_program.specs.declared.serving.Ending.{Ending}
use Rattle.mt_program.specs.declared.serving.Ending.TheVariants as ending
use Rattle.mt_program.specs.SeatServing.{SeatServes}
use Rattle.mt_program.specs.Serving.{Output}

-- the entries before a history begins: those that annals list, where there are as many, else any as many
abbrev pub listed_before : ℕ → History → History
listed_before many h = cond (length h == many) h (replicate many no_entry)

abbrev pub before_of : Option keeper.Told → ℕ → History
before_of None many = replicate many no_entry
before_of (Some told) many = listed_before many (entries_of told.list)

-- what annals tell of what is begun
abbrev pub begun_of : Option keeper.Told → Option Entry
begun_of None = None
begun_of (Some told) = told.begun

-- The root was given back by a session that had all of it; or memory ran out before it was shared, and all is as it was.
abbrev pub LeavesShared : {F : Type 0} → (F → Option Files) → (Premise → Type 0) → History → AtOpening → ℕ → Ending → List ℕ → Storage → Storage → Option (List ℕ) → ℕ → ℕ → Output → Type 0
LeavesShared files_of given before o whole ended script was now started arm_was arm output =
    ((seat : View) × (share : Tally) × Finished files_of given before o whole now started (seat ∷ []) share
    × SeatServes files_of given before o whole ended script (having (session_view 0 []) (tally whole 0 0 0 0) arm_was) (having seat share arm) output)
    ⊎ ((ended ≡ ending.NoMemory) × (now ≡ was) × (started ≡ o.started) × (arm ≡ arm_was) × (output.after ≡ output.before))
