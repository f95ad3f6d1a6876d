-- The rule of the history word (docs/history.md, "One history").
use Rattle.std.specs.Prelude.{◌≡◌, ◌⊎◌, ◌+◌, ◌≤◌, ◌∷◌, [], ℕ, true, All, List, Option, length}
use mathlib.Core.Option.{some}
use lib.ListN.{get_elem?}
use Rattle.mt_values.specs.declared.command.Entry.{Entry}
use Rattle.history_seat.specs.declared.view.Kind.TheVariants as kind
use Rattle.history_seat.specs.declared.view.View.{View}
use Rattle.history_seat.specs.Views.{Begins, KnowsBegun, own, unopened_view}

-- the word, and the view of each seat and note that was ever made, at the place at which it was made (docs/history.md, "One history")
pub record Standing : Type 0 where
  pub word : ℕ
  pub views : List View

-- a standing by its parts
abbrev pub standing : ℕ → List View → Standing
standing word views = record { word = word; views = views }

-- at this place stands this view
abbrev pub Has : List View → ℕ → View → Type 0
Has views place v = get_elem? views place ≡ some v

-- at this place stands this session
abbrev pub SitsAt : List View → ℕ → View → Type 0
SitsAt views place v = Has views place v × (v.kind ≡ kind.Session)

-- A view fits the one list, and what is begun now: who has the pen stands at the holder's place and has both, the list whole; each list is a front of it, and each old of the
-- view's own list, so of both; what a session has as its own is what the list has of its number; and where what is begun has its number, it is what the session tried last
-- (docs/history.md, "One history")
pub record Fits (holder : ℕ) (list : List Entry) (now : Option Entry) (place : ℕ) (v : View) : Type 0 where
  pub pen : v.pen ≡ true → (place ≡ holder) × (v.list ≡ list)
  pub begun : v.pen ≡ true → v.begun ≡ now
  pub front : Begins v.list list
  pub olds : All (λ o. Begins o v.list) v.olds
  pub mine : v.kind ≡ kind.Session → v.mine ≡ own v.number list
  pub knows : v.kind ≡ kind.Session → KnowsBegun v now

-- Sessions differ in their numbers, and none is above what session 0 has made; no entry is of a session above it (docs/history.md, "One history")
pub record AreNumbered (list : List Entry) (views : List View) : Type 0 where
  pub differ : (i j : ℕ) (v w : View) → SitsAt views i v → SitsAt views j w → v.number ≡ w.number → i ≡ j
  pub bounded : (i j : ℕ) (v zero : View) → SitsAt views i v → SitsAt views j zero → zero.number ≡ 0 → v.number ≤ zero.made
  pub named : (j : ℕ) (zero : View) → SitsAt views j zero → zero.number ≡ 0 → All (λ e. e.session ≤ zero.made) list

-- a history that was opened: there is a session 0, and no view is unopened (docs/history.md, "The opening")
pub record IsOpened (views : List View) : Type 0 where
  pub place : ℕ
  pub zero : View
  pub sits : SitsAt views place zero
  pub number : zero.number ≡ 0
  pub all : (j : ℕ) (v : View) → Has views j v → v.kind ≡ kind.Unopened → ⊥

-- There is one list of which all views are, and at most one entry is begun: the word is the base and the list's length, exactly one view has the pen, and each view fits both. Spent notes
-- need no exception (docs/history.md, "One history")
pub record OneHistory (base : ℕ) (s : Standing) : Type 0 where
  pub list : List Entry
  pub begun : Option Entry
  pub word : s.word ≡ base + length list
  pub holder : ℕ
  pub held : (v : View) × Has s.views holder v × (v.pen ≡ true)
  pub each : (place : ℕ) (v : View) → Has s.views place v → Fits holder list begun place v
  pub numbered : AreNumbered list s.views
  pub opened : (s.views ≡ unopened_view ∷ []) ⊎ IsOpened s.views

-- a table with one word, whose views are of one history (docs/history.md, "One history")
abbrev pub Rule : ℕ → List ℕ → List View → Type 0
Rule base words views = (word : ℕ) × (words ≡ word ∷ []) × OneHistory base (standing word views)
