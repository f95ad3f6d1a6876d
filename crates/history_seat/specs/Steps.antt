-- The steps on the history word, one after another (docs/history.md, "The steps").
use Rattle.std.specs.Prelude.{◌≡◌, ◌+◌, ◌<◌, ◌^◌, ◌∷◌, ◌++◌, [], ℕ, true, List, length, slice_set}
use Rattle.mt_values.specs.declared.command.Entry.{Entry}
use Rattle.history_seat.specs.declared.view.Kind.TheVariants as kind
use Rattle.history_seat.specs.declared.view.View.{View}
use Rattle.history_seat.specs.Rule.{Has, SitsAt, Standing, standing}
use Rattle.history_seat.specs.Views.{Begins, counted, grown, is_seat, lock_view, met, newcomer, note_of, plain_note_of, session_view, spent_view, unopened_view, with_try, without_pen}

-- What the seat at a place does: it opens the history, loads the word, adds an entry, tries one whose commit failed, makes a note with its pen or without, takes in the note at another place, makes a
-- session (docs/history.md, "The steps")
pub data Step : Type 0 where
  opens : ℕ → Step
  loads : ℕ → Step
  adds : ℕ → Entry → Step
  tries : ℕ → Entry → Step
  notes : ℕ → Step
  notes_plainly : ℕ → Step
  meets : ℕ → ℕ → Step
  makes : ℕ → Step

-- what each step needs of who makes it, and what it leaves (docs/history.md, "The steps")
abbrev pub Makes : ℕ → Step → Standing → Standing → Type 0
Makes base (opens by) old new =
    Has old.views by unopened_view × (new ≡ standing old.word (slice_set old.views by lock_view ++ session_view 0 [] ∷ []))
Makes base (loads by) old new =
    (v : View) × Has old.views by v × (is_seat v.kind ≡ true) × (new ≡ old)
Makes base (adds by e) old new =
    (v : View) × SitsAt old.views by v × (e.session ≡ v.number) × (v.pen ≡ true) × (base + length v.list + 1 < 2 ^ 64)
    × (new ≡ standing (old.word + 1) (slice_set old.views by (grown v e)))
Makes base (tries by e) old new =
    (v : View) × SitsAt old.views by v × (e.session ≡ v.number) × (v.pen ≡ true) × (new ≡ standing old.word (slice_set old.views by (with_try v e)))
Makes base (notes by) old new =
    (v : View) × Has old.views by v × (is_seat v.kind ≡ true)
    × (new ≡ standing old.word (slice_set old.views by (without_pen v) ++ note_of v ∷ []))
Makes base (notes_plainly by) old new =
    (v : View) × Has old.views by v × (is_seat v.kind ≡ true) × (new ≡ standing old.word (old.views ++ plain_note_of v ∷ []))
Makes base (meets by other) old new =
    (v : View) × (w : View) × Has old.views by v × (is_seat v.kind ≡ true) × Has old.views other w × (w.kind ≡ kind.Note)
    × (new ≡ standing old.word (slice_set (slice_set old.views by (met v w)) other spent_view))
Makes base (makes by) old new =
    (v : View) × SitsAt old.views by v × (v.number ≡ 0) × (v.made + 1 < 2 ^ 64)
    × (new ≡ standing old.word (slice_set old.views by (counted v) ++ newcomer v ∷ []))

-- the steps are made one after another, by whichever seats (docs/history.md, "The steps")
abbrev pub Runs : ℕ → List Step → Standing → Standing → Type 0
Runs base [] old new = new ≡ old
Runs base (step ∷ steps) old new = (next : Standing) × Makes base step old next × Runs base steps next new

-- a history that begins at this number (docs/history.md, "The opening")
abbrev pub start : ℕ → Standing
start base = standing base (unopened_view ∷ [])

-- what was ever known is a front of what the holder of the pen has later (docs/history.md, "One history")
abbrev pub StaysKnown : Standing → Standing → Type 0
StaysKnown old new = (i j : ℕ) (v w : View) → Has old.views i v → Has new.views j w → w.pen ≡ true → Begins v.list w.list
