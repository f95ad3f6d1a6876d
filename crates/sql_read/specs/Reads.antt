-- What was read of a statement by its productions.
use Rattle.std.specs.Prelude.{◌≡◌, Bool, false, List, [], ◌∷◌, Result, Ok, Err}
use Rattle.mt_values.specs.declared.statement.Slip.{Slip}
use Rattle.mt_values.specs.declared.statement.Statement.{Statement}
use Rattle.mt_values.specs.declared.token.Placed.{Placed}
use Rattle.mt_values.specs.declared.token.Token.{Token}
use Rattle.mt_values.specs.Grammar.{ends, passing}
use Rattle.mt_values.specs.Readers.{Reader, Part, choose, either, expect}
use Rattle.mt_base.specs.declared.stop.Stop.{Stop}
use Rattle.mt_base.specs.declared.stop.Stop.TheVariants as stop

-- the next token passes a test
abbrev pub first_is : (Token → Bool) → List Placed → Bool
first_is test [] = false
first_is test (p ∷ ps) = test p.token

-- A part of a statement was read from some tokens up to others: whatever is to follow it, the definition goes on with it
-- there. Or it stopped: whatever is to follow, the definition refuses the tokens from there on.
abbrev pub Reads : {X : Type 0} → Part Statement X → List Placed → Result X (Stop Slip) → List Placed → Type 0
Reads {X} part from (Ok x) to = (next : X → Reader Statement) → part next from ≡ next x to
Reads {X} part from (Err (stop.Refused s)) to = (next : X → Reader Statement) → part next from ≡ Err (s, to)
Reads {X} part from (Err stop.NoMemory) to = Unit {0}

-- After a token that may be left out, where it passes a test: a production goes the one way where it was taken, and else the other.
abbrev pub Skips : (Token → Bool) → List Placed → Bool → List Placed → Type 0
Skips test from taken to = (this : Unit {0} → Reader Statement) (other : Reader Statement) → choose test (expect (λ t. passing (test t)) this) other from ≡ either taken (this tt) other to

-- the end of a statement was read: whichever it is, it is read there; or it is refused there
abbrev pub Ends : List Placed → Result (Unit {0}) (Stop Slip) → List Placed → Type 0
Ends from (Ok u) to = (s : Statement) → ends s from ≡ Ok s
Ends from (Err (stop.Refused f)) to = (s : Statement) → ends s from ≡ Err (f, to)
Ends from (Err stop.NoMemory) to = Unit {0}

-- the statement that some tokens are, or the tokens from which on they are refused
abbrev pub IsRead : Reader Statement → List Placed → Result Statement (Stop Slip) → List Placed → Type 0
IsRead reader from (Ok s) to = reader from ≡ Ok s
IsRead reader from (Err (stop.Refused f)) to = reader from ≡ Err (f, to)
IsRead reader from (Err stop.NoMemory) to = Unit {0}

-- the last part of a statement was read with the statement's end, whichever statement is made of it; or it is refused there
abbrev pub ReadsEnd : {X : Type 0} → Part Statement X → List Placed → Result X (Stop Slip) → List Placed → Type 0
ReadsEnd {X} part from (Ok x) to = (make : X → Statement) → part (λ y. ends (make y)) from ≡ Ok (make x)
ReadsEnd {X} part from (Err (stop.Refused f)) to = (make : X → Statement) → part (λ y. ends (make y)) from ≡ Err (f, to)
ReadsEnd {X} part from (Err stop.NoMemory) to = Unit {0}
