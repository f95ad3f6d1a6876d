-- How a statement is read token by token, from the left (docs/grammar.md, "Reading").
use Rattle.std.specs.Prelude.{ℕ, zero, suc, ◌+◌, Bool, true, false, List, [], ◌∷◌, ◌++◌, length, Result, Ok, Err}
use Rattle.mt_values.specs.declared.token.Placed.{Placed}
use Rattle.mt_values.specs.declared.token.Token.{Token}
use Rattle.mt_values.specs.declared.statement.Slip.{Slip}
use Rattle.mt_values.specs.declared.statement.Slip.TheVariants as slip

-- what the tokens say as a whole; or why they are refused, and those from the first faulty one on, none where they end too early
abbrev pub Reading : Type 0 → Type 0
Reading S = Result S (Slip × List Placed)

abbrev pub Reader : Type 0 → Type 0
Reader S = List Placed → Reading S

-- what one token says at its place, or why it can't stand there
abbrev pub Test : Type 0 → Type 0
Test X = Token → Result X Slip

-- nothing more may follow
abbrev pub done : {S : Type 0} → S → Reader S
done s [] = Ok s
done s (p ∷ ps) = Err (slip.Wrong, p ∷ ps)

abbrev pub taken : {S X : Type 0} → Result X Slip → (X → Reader S) → Placed → Reader S
taken (Ok x) next p ps = next x ps
taken (Err s) next p ps = Err (s, p ∷ ps)

-- one token, and then what follows it
abbrev pub expect : {S X : Type 0} → Test X → (X → Reader S) → Reader S
expect test next [] = Err (slip.Wrong, [])
expect test next (p ∷ ps) = taken (test p.token) next p ps

abbrev pub either : {S : Type 0} → Bool → Reader S → Reader S → Reader S
either true this other = this
either false this other = other

-- the one way where the next token passes a test, or else the other
abbrev pub choose : {S : Type 0} → (Token → Bool) → Reader S → Reader S → Reader S
choose test this other [] = other []
choose test this other (p ∷ ps) = either (test p.token) this other (p ∷ ps)

-- a part of a statement, and then what follows it
abbrev pub Part : Type 0 → Type 0 → Type 0
Part S X = (X → Reader S) → Reader S

-- the place of the next token; none is read at their end, so that any number stands there
abbrev pub place_of_next : List Placed → ℕ
place_of_next [] = 0
place_of_next (p ∷ ps) = p.at

-- the place of the next token, which stays the next
abbrev pub here : {S : Type 0} → Part S ℕ
here next ts = next (place_of_next ts) ts

-- one part after another, as long as the token between them comes; after those that came before, and at most so many
abbrev pub listed_within : {S X Y : Type 0} → ℕ → (Token → Bool) → Test Y → Part S X → List X → Part S (List X)
listed_within zero more between item front next ts = Err (slip.Wrong, ts)
listed_within (suc n) more between item front next ts =
    item (λ x. choose more (expect between (λ y. listed_within n more between item (front ++ x ∷ []) next)) (next (front ++ x ∷ []))) ts

-- there are no more of them than tokens
abbrev pub listed : {S X Y : Type 0} → (Token → Bool) → Test Y → Part S X → Part S (List X)
listed more between item next ts = listed_within (length ts + 1) more between item [] next ts
