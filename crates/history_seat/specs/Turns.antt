-- What a load tells, and what a session's turn does (docs/history.md, "Turns").
use Rattle.std.specs.Prelude.{◌≡◌, ◌+◌, ◌≤◌, ◌∷◌, ◌++◌, [], ℕ, true, false, All, List, Option, None, Some, length}
use Rattle.atomic_table.specs.Table.{Me}
use Rattle.mt_values.specs.declared.command.Entry.{Entry}
use Rattle.history_seat.specs.declared.view.Kind.TheVariants as kind
use Rattle.history_seat.specs.declared.view.View.{View}
use Rattle.history_seat.specs.Views.{Begins, KnowsBegun, grown, own, with_try}

-- What a seat learns of a load that found this number: its olds are fronts of its list. With the pen also: the number is the base and its list's length, what it has as its own is what the list has of
-- its number, session 0 made whoever has an entry, and what is begun, where it has the session's number, is what the session tried last (docs/history.md, "The steps")
pub record Learned (base : ℕ) (v : View) (found : ℕ) : Type 0 where
  pub olds : All (λ o. Begins o v.list) v.olds
  pub word : v.pen ≡ true → found ≡ base + length v.list
  pub mine : v.pen ≡ true → v.kind ≡ kind.Session → v.mine ≡ own v.number v.list
  pub named : v.pen ≡ true → v.kind ≡ kind.Session → v.number ≡ 0 → All (λ e. e.session ≤ v.made) v.list
  pub knows : v.pen ≡ true → v.kind ≡ kind.Session → KnowsBegun v v.begun

-- an entry is added, and it is learned that the olds are fronts of the list (docs/history.md, "The steps")
abbrev pub Adds : Entry → Me ℕ View → Me ℕ View → Type 0
Adds e me next = (next.0 ≡ grown me.0 e) × (next.1 ≡ me.1) × All (λ o. Begins o me.0.list) me.0.olds

-- the session tried an entry, which is begun (docs/history.md, "The steps")
abbrev pub Tries : Entry → Me ℕ View → Me ℕ View → Type 0
Tries e me next = (next.0 ≡ with_try me.0 e) × (next.1 ≡ me.1)

-- a session outside of its turns (docs/history.md, "Turns")
abbrev pub IsSession : View → Type 0
IsSession v = (v.kind ≡ kind.Session) × (v.pen ≡ false)

-- the lock's seat outside of turns (docs/history.md, "Turns")
abbrev pub IsLock : View → Type 0
IsLock v = (v.kind ≡ kind.Lock) × (v.pen ≡ true)

-- a session within its turn, in which it has the pen, and the list and what is begun as the lock's seat had them (docs/history.md, "Turns")
pub record Holds (old lock new : View) : Type 0 where
  pub session : new.kind ≡ kind.Session
  pub pen : new.pen ≡ true
  pub number : new.number ≡ old.number
  pub made : new.made ≡ old.made
  pub list : new.list ≡ lock.list
  pub begins : Begins old.list lock.list
  pub olds : All (λ o. Begins o lock.list) old.olds
  pub kept : new.mine ≡ old.mine
  pub mine : new.mine ≡ own new.number lock.list
  pub named : old.number ≡ 0 → All (λ e. e.session ≤ old.made) lock.list
  pub begun : new.begun ≡ lock.begun
  pub tried : new.tried ≡ old.tried
  pub knows : KnowsBegun new new.begun

-- A turn that found this history and added nothing to it: the session's list is the history, it begins with all that the session knew, and the session's own entries are what the history has of its number.
-- This is what the session tried last, and where what is begun has its number, it is that (docs/history.md, "Turns")
pub record AddsNone (old : View) (history : List Entry) (last : Option Entry) (new : View) : Type 0 where
  pub session : IsSession new
  pub number : new.number ≡ old.number
  pub made : new.made ≡ old.made
  pub list : new.list ≡ history
  pub begins : Begins old.list history
  pub olds : All (λ o. Begins o history) old.olds
  pub kept : new.mine ≡ old.mine
  pub mine : new.mine ≡ own new.number history
  pub named : new.number ≡ 0 → All (λ e. e.session ≤ new.made) history
  pub tried : new.tried ≡ last
  pub knows : KnowsBegun new new.begun

-- a turn that only looked: what the session tried last stays (docs/history.md, "Turns")
abbrev pub Looked : View → List Entry → View → Type 0
Looked old history new = AddsNone old history old.tried new

-- a turn in which the session tried an entry, whose commit failed (docs/history.md, "Turns")
abbrev pub Tried : View → List Entry → Entry → View → Type 0
Tried old history e new = AddsNone old history (Some e) new

-- A turn that found this history and added an entry to it: the same, with the entry at the end of the list and of the session's own entries. Nothing is begun then (docs/history.md, "Turns")
pub record Added (old : View) (history : List Entry) (e : Entry) (new : View) : Type 0 where
  pub session : IsSession new
  pub number : new.number ≡ old.number
  pub made : new.made ≡ old.made
  pub list : new.list ≡ history ++ e ∷ []
  pub begins : Begins old.list history
  pub olds : All (λ o. Begins o history) old.olds
  pub kept : new.mine ≡ old.mine ++ e ∷ []
  pub mine : new.mine ≡ own new.number (history ++ e ∷ [])
  pub named : new.number ≡ 0 → All (λ e. e.session ≤ new.made) (history ++ e ∷ [])
  pub tried : new.tried ≡ None
  pub begun : new.begun ≡ None
