-- When a statement may have a reply at the end of what annals list, whatever the outside comes to.
use Rattle.std.specs.Prelude.{◌≡◌, ◌==◌, ℕ, ◌<◌, ◌≤◌, Bool, true, false, List, length, Ok}
use Rattle.mt_values.specs.declared.statement.SelectText.{SelectText}
use Rattle.mt_values.specs.declared.statement.Statement.TheVariants as statement
use Rattle.mt_values.specs.Annals.{Told}
use Rattle.mt_model.specs.History.{History, entries_of}
use Rattle.mt_model.specs.Outside.{HasRisen, Outside}
use Rattle.mt_model.specs.Refusals.{code_of}
use Rattle.mt_model.specs.Session.{Takes}

-- the entries that annals list
abbrev pub history : Told → History
history t = entries_of t.list

-- What the outside did in a run agrees with the disk's count at opening, with the disk's and the arm's counts as they stand now, and with whether
-- a part has the greatest level now: neither count falls, a call of the arm that failed shows in the disk's count once the arm is given back, and
-- a part of the greatest level stays to the end.
pub record Foresees (opened disk arm : ℕ) (full : Bool) (n : Outside) : Type 0 where
  pub opened_is : n.opened ≡ opened
  pub later : disk ≤ n.ended
  pub risen : 0 < arm → HasRisen n n.ended
  pub stays : full ≡ true → n.full ≡ true

-- What a session has met of the outside: the disk's count at opening, and as it was when the session last learned of it; how many answers that the disk
-- failed or that the store was stopped, and how many that a part has the greatest level, its share has counted; its arm's count; and whether nobody runs beside.
pub record Met : Type 0 where
  pub opened : ℕ
  pub disk : ℕ
  pub stops : ℕ
  pub levels : ℕ
  pub arm : ℕ
  pub alone : Bool

-- What the outside did in a run agrees with what a session has met: no count falls, what a share has counted shows at the end, a fault of the arm shows in the
-- disk's count once the arm is given back, and who is not alone has company.
pub record AgreesWith (m : Met) (n : Outside) : Type 0 where
  pub opened_is : n.opened ≡ m.opened
  pub later : m.disk ≤ n.ended
  pub stopped : 0 < m.stops → HasRisen n n.ended
  pub failed : 0 < m.arm → HasRisen n n.ended
  pub full : 0 < m.levels → n.full ≡ true
  pub company : m.alone ≡ false → n.company ≡ true

-- a session has met the one and then the other: no count fell, and who was not alone is not
pub record MetSince (old new : Met) : Type 0 where
  pub opened_is : new.opened ≡ old.opened
  pub disk : old.disk ≤ new.disk
  pub stops : old.stops ≤ new.stops
  pub levels : old.levels ≤ new.levels
  pub arm : old.arm ≤ new.arm
  pub company : old.alone ≡ false → new.alone ≡ false

-- a reply says that a commit failed
abbrev pub is_unsettled : List ℕ → Bool
is_unsettled reply = code_of reply == 16

-- the reply is one that any session's SELECT may have at the end of the history, whatever the outside comes to, so far as a fault of the arm shows in it
abbrev pub Selected : History → SelectText → ℕ → List ℕ → Type 0
Selected h text arm reply =
    (n : Outside) (session : ℕ) → (0 < arm → HasRisen n n.ended) → Takes n h session (Ok (statement.Select text)) (length h) (length h) reply

-- the reply is one that any session's EXPLAIN may have at the end of the history, whatever the outside comes to
abbrev pub Explained : History → SelectText → List ℕ → Type 0
Explained h text reply = (n : Outside) (session : ℕ) → Takes n h session (Ok (statement.Explain text)) (length h) (length h) reply
