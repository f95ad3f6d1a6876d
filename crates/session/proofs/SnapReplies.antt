-- What a SELECT and an EXPLAIN of a session are answered, by the snapshot that its turn gave.
use Rattle.std.proofs.Common.{◌≡◌, ◌⊎◌, ℕ, ◌+◌, ◌++◌, List, Option, None, Result, Ok, Err, IfOk, length, inl, inr, sym, ◌∙◌, subst, length-append}
use Rattle.mt_base.specs.declared.memory.NoMemory.{NoMemory}
use Rattle.mt_values.specs.declared.statement.SelectText.{SelectText}
use Rattle.mt_values.specs.declared.statement.Statement.TheVariants as statement
use Rattle.mt_outside.specs.Files.{Files}
use Rattle.replies.specs.mt_model.declared.refusal.Refusal.TheVariants as refusal
use Rattle.replies.specs.mt_model.History.{History, schema_of}
use Rattle.replies.specs.mt_model.Outside.{Outside}
use Rattle.replies.specs.mt_model.Refusals.{refusal_line}
use Rattle.replies.specs.mt_model.Session.{AddsNothing, Takes}
use Rattle.replies.specs.Foreseen.{Explained}
use Rattle.replies.proofs.Refusing.{explain_from, explain_refused, select_from, select_refused}
use Rattle.merge_workers.specs.shared_store.history_seat.declared.view.View.{View}
use Rattle.merge_workers.specs.shared_store.history_seat.Turns.{Looked}
use Rattle.merge_workers.specs.shared_store.part_reader.declared.reading.Part.{Part}
use Rattle.merge_workers.specs.shared_store.part_set.declared.kept.Snap.{Snap}
use Rattle.merge_workers.specs.shared_store.Engines.{IsSnapOf}
use Rattle.merge_workers.specs.shared_store.Handed.{IsPinned, Pins, ShowsTable}
use Rattle.merge_workers.specs.shared_store.Sharing.{AtOpening}
use Rattle.merge_workers.specs.shared_store.Stood.{Premise, is_listed, is_told}
use Rattle.merge_workers.specs.shared_store.Tallies.{Tally}
use Rattle.session.specs.Merges.{IsRefusal}
use Rattle.session.specs.Answers.{AnswersAt, CountsPinned, ExplainsAt, KnowsOwn, SelectsAt, having, place_of}
use Rattle.session.specs.Selects.{CountsPlan, ReadsParts, SelectsFrom}
use Rattle.session.proofs.Asking.{no_query}
use Rattle.session.proofs.Seats.{looked_nothing}

module _ {F : Type 0} (files_of : F → Option Files) (before list : History) (old new : View) (looked : Looked old list new) (own : KnowsOwn old) (text : SelectText) (reply : List ℕ) where
  abbrev h : History
  h = before ++ new.list

  -- it added nothing
  pub nothing : AddsNothing h old.number (place_of before old) (place_of before new)
  nothing = subst (λ (l : History). AddsNothing (before ++ l) old.number (place_of before old) (length before + length l)) (sym looked.list) (looked_nothing before list old new looked own)

  all : length h ≡ place_of before new
  all = length-append before new.list

  nothing_more : AddsNothing h old.number (place_of before old) (length h)
  nothing_more = subst (AddsNothing h old.number (place_of before old)) (sym all) nothing

  -- a reply at the end of what it knows then is one from where it began
  select_at : (n : Outside) → Takes n h old.number (Ok (statement.Select text)) (length h) (length h) reply → Takes n h old.number (Ok (statement.Select text)) (place_of before old) (place_of before new) reply
  select_at n takes = subst (λ (to : ℕ). Takes n h old.number (Ok (statement.Select text)) (place_of before old) to reply) all (select_from n h old.number text reply (place_of before old) nothing_more takes)

  explain_at : (n : Outside) → Takes n h old.number (Ok (statement.Explain text)) (length h) (length h) reply → Takes n h old.number (Ok (statement.Explain text)) (place_of before old) (place_of before new) reply
  explain_at n takes = subst (λ (to : ℕ). Takes n h old.number (Ok (statement.Explain text)) (place_of before old) to reply) all (explain_from n h old.number text reply (place_of before old) nothing_more takes)

  -- there is no such table
  pub select_no_table : (arm : ℕ) → schema_of text.table h ≡ None → reply ≡ refusal_line (refusal.NoTable text.table) → SelectsAt files_of h old.number (place_of before old) (place_of before new) text arm reply
  select_no_table arm none is = record {
    takes = λ n risen. select_at n (select_refused n h old.number text reply (refusal.NoTable text.table) (no_query text h none) is);
    plain = λ _. inl (refusal.NoTable text.table, is);
  }

  pub explain_no_table : schema_of text.table h ≡ None → reply ≡ refusal_line (refusal.NoTable text.table) → ExplainsAt h old.number (place_of before old) (place_of before new) text reply
  explain_no_table none is = λ n. explain_at n (explain_refused n h old.number text reply (refusal.NoTable text.table) (no_query text h none) is)

  -- what is read of a snapshot that shows the table
  pub select_shown : (arm : ℕ) (snap : Snap (Part F)) (shows : ShowsTable files_of h text.table snap) → SelectsFrom files_of shows.store h text arm reply
      → SelectsAt files_of h old.number (place_of before old) (place_of before new) text arm reply
  select_shown arm snap shows from = record {
    takes = λ n risen. select_at n (from.takes n old.number risen);
    plain = λ plain. by (from.plain plain);
  }
    where
      by : IsRefusal reply ⊎ ((s : Snap (Part F)) × IsSnapOf shows.store text.table s × ReadsParts files_of s text reply) → IsRefusal reply ⊎ ((s : Snap (Part F)) × ShowsTable files_of h text.table s × ReadsParts files_of s text reply)
      by (inl why) = inl why
      by (inr (s, is, reads)) = inr (s, record { store = shows.store; stands = shows.stands; snap_is = is }, reads)

  pub explain_shown : Explained h text reply → ExplainsAt h old.number (place_of before old) (place_of before new) text reply
  explain_shown takes = λ n. explain_at n (takes n old.number)

-- the lists have no such table, and neither has the whole history
pub pins_none : {F : Type 0} (files_of : F → Option Files) (given : Premise → Type 0) (before : History) (o : AtOpening) (list : History) (table : List ℕ) → Pins files_of given before o list table None → given is_told → given is_listed → schema_of table (before ++ list) ≡ None
pins_none files_of given before o list table pins told known = pins.0 told known ∙ pins.1

-- the numbers are those of the snapshot
pub counts_pinned : {F : Type 0} (files_of : F → Option Files) (given : Premise → Type 0) (before : History) (o : AtOpening) (list : History) (text : SelectText) (snap : Snap (Part F)) (reply : List ℕ)
    → IsPinned files_of given before o list text.table snap → IsRefusal reply ⊎ CountsPlan snap text reply → CountsPinned files_of given before o list text reply
counts_pinned files_of given before o list text snap reply pinned (inl why) = inl why
counts_pinned files_of given before o list text snap reply pinned (inr counts) = inr (snap, pinned, counts)

-- ---- as a statement

module _ (given : Premise → Type 0) (before : History) (o : AtOpening) (whole : ℕ) (text : SelectText) (v w : View) (share : Tally) (looked : Looked v w.list w) (own : KnowsOwn v) where
  none_added : AddsNothing (before ++ w.list) v.number (place_of before v) (place_of before w)
  none_added = looked_nothing before w.list v w looked own

  pub selected_result : {F : Type 0} (files_of : F → Option Files) (arm later : ℕ) (result : Result (List ℕ) NoMemory)
      → (given is_told → given is_listed → IfOk result (SelectsAt files_of (before ++ w.list) v.number (place_of before v) (place_of before w) text later)) → AnswersAt given before o whole (Ok (statement.Select text)) (having v share arm) (having w share later) result
  selected_result files_of arm later (Ok reply) from = λ told known n a. (from told known).takes n a.failed
  selected_result files_of arm later (Err e) from = λ told known n a. inl none_added

  pub explained_result : (arm : ℕ) (result : Result (List ℕ) NoMemory) → (given is_told → given is_listed → IfOk result (ExplainsAt (before ++ w.list) v.number (place_of before v) (place_of before w) text))
      → AnswersAt given before o whole (Ok (statement.Explain text)) (having v share arm) (having w share arm) result
  explained_result arm (Ok reply) from = λ told known n a. from told known n
  explained_result arm (Err e) from = λ told known n a. inl none_added
