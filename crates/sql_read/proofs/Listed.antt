-- Lists in a statement, one item at a time. Each item takes at least one token, so the bound of the definition cuts none off.
use Rattle.std.proofs.Common.{◌≡◌, ℕ, zero, suc, ◌+◌, ◌<◌, Bool, true, false, List, [], ◌∷◌, ◌++◌, length, Result, Ok, Err, refl, arith, add-one, ◌∙◌, sym}
use Rattle.mt_values.specs.declared.statement.Slip.{Slip}
use Rattle.mt_values.specs.declared.statement.Statement.{Statement}
use Rattle.mt_values.specs.declared.token.Placed.{Placed}
use Rattle.mt_values.specs.declared.token.Symbol.TheVariants as symbol
use Rattle.mt_values.specs.declared.token.Token.{Token}
use Rattle.mt_values.specs.Grammar.{is_symbol, the, name, one_name}
use Rattle.mt_values.specs.Readers.{Reader, Test, Part, taken, expect, either, choose, listed_within}
use Rattle.mt_base.specs.declared.stop.Stop.{Stop}
use Rattle.mt_base.specs.declared.stop.Stop.TheVariants as stop
use Rattle.sql_read.specs.Reads.{Reads, Skips}

-- a part takes at least one token: readers that agree on fewer tokens than these are the same after it
abbrev pub TakesToken : {S X : Type 0} → Part S X → Type 0
TakesToken {S} {X} part =
    (next other : X → Reader S) (ts : List Placed) → ((x : X) (us : List Placed) → length us < length ts → next x us ≡ other x us) → part next ts ≡ part other ts

taken_same : {S X : Type 0} (r : Result X Slip) (next other : X → Reader S) (p : Placed) (ps : List Placed) → ((x : X) → next x ps ≡ other x ps) → taken r next p ps ≡ taken r other p ps
taken_same (Ok x) next other p ps same = same x
taken_same (Err s) next other p ps same = refl

pub expect_takes : {S X : Type 0} (test : Test X) → TakesToken {S = S} (expect test)
expect_takes test next other [] same = refl
expect_takes test next other (p ∷ ps) same = taken_same (test p.token) next other p ps (λ x. same x ps (omega arith))

pub one_name_takes : {S : Type 0} → TakesToken {S = S} one_name
one_name_takes = expect_takes name

either_same : {S : Type 0} (c : Bool) (this that other : Reader S) (ts : List Placed) → this ts ≡ that ts → either c this other ts ≡ either c that other ts
either_same true this that other ts same = same
either_same false this that other ts same = refl

pub choose_same : {S : Type 0} (test : Token → Bool) (this that other : Reader S) (ts : List Placed) → this ts ≡ that ts → choose test this other ts ≡ choose test that other ts
choose_same test this that other [] same = refl
choose_same test this that other (p ∷ ps) same = either_same (test p.token) this that other (p ∷ ps) same

module _ {S X Y : Type 0} (more : Token → Bool) (between : Test Y) (item : Part S X) where
  -- items after those that came before
  abbrev pub listed_from : List X → Part S (List X)
  listed_from front next ts = listed_within (length ts + 1) more between item front next ts

  -- an item was read; others may follow
  abbrev pub listed_behind : (List X → Part S (List X)) → List X → (List X → Reader S) → X → Reader S
  listed_behind others front next x = choose more (expect between (λ y. others (front ++ x ∷ []) next)) (next (front ++ x ∷ []))

  behind_same : (this that : List X → Part S (List X)) (front : List X) (next : List X → Reader S) (x : X) (ts : List Placed) →
      ((us : List Placed) → length us < length ts → this (front ++ x ∷ []) next us ≡ that (front ++ x ∷ []) next us) → listed_behind this front next x ts ≡ listed_behind that front next x ts
  behind_same this that front next x ts same =
      choose_same more (expect between (λ y. this (front ++ x ∷ []) next)) (expect between (λ y. that (front ++ x ∷ []) next)) (next (front ++ x ∷ [])) ts
      (expect_takes between (λ y. this (front ++ x ∷ []) next) (λ y. that (front ++ x ∷ []) next) ts (λ y us less. same us less))

  within_same : TakesToken item → (n m : ℕ) (front : List X) (next : List X → Reader S) (ts : List Placed) → length ts < n → length ts < m → listed_within n more between item front next ts ≡ listed_within m more between item front next ts
  within_same takes zero m front next ts low high = absurd (omega arith)
  within_same takes (suc n) zero front next ts low high = absurd (omega arith)
  within_same takes (suc n) (suc m) front next ts low high =
      takes (listed_behind (listed_within n more between item) front next) (listed_behind (listed_within m more between item) front next) ts
      (λ x us less. behind_same (listed_within n more between item) (listed_within m more between item) front next x us (λ vs fewer. within_same takes n m (front ++ x ∷ []) next vs (omega arith) (omega arith)))

  -- a list is an item, and after it what may follow an item
  pub listed_step : TakesToken item → (front : List X) (next : List X → Reader S) (ts : List Placed) → listed_from front next ts ≡ item (listed_behind listed_from front next) ts
  listed_step takes front next ts =
      rw add-one
      (takes (listed_behind (listed_within (length ts) more between item) front next) (listed_behind listed_from front next) ts
      (λ x us less. behind_same (listed_within (length ts) more between item) listed_from front next x us (λ vs fewer. within_same takes (length ts) (length vs + 1) (front ++ x ∷ []) next vs (omega arith) (omega arith))))

-- ---- by the code

-- items after those that came before, with commas between them
abbrev pub items_from : {X : Type 0} → Part Statement X → List X → Part Statement (List X)
items_from item front = listed_from (is_symbol symbol.Comma) (the symbol.Comma) item front

module _ {X : Type 0} (item : Part Statement X) (takes : TakesToken item) (front : List X) (from mid : List Placed) (x : X) (read : Reads item from (Ok x) mid) where
  behind : (next : List X → Reader Statement) → items_from item front next from ≡ listed_behind (is_symbol symbol.Comma) (the symbol.Comma) item (items_from item) front next x mid
  behind next =
      listed_step (is_symbol symbol.Comma) (the symbol.Comma) item takes front next from
      ∙ read (listed_behind (is_symbol symbol.Comma) (the symbol.Comma) item (items_from item) front next)

  -- the list goes on where a comma follows the item
  pub items_next : (comma : Bool) (to : List Placed) → Skips (is_symbol symbol.Comma) mid comma to → (next : List X → Reader Statement) → items_from item front next from ≡ either comma (items_from item (front ++ x ∷ []) next) (next (front ++ x ∷ [])) to
  items_next comma to skips next = behind next ∙ skips (λ y. items_from item (front ++ x ∷ []) next) (next (front ++ x ∷ []))

-- an item is refused
pub items_stop : {X : Type 0} (item : Part Statement X) → TakesToken item → (front : List X) (from : List Placed) (e : Stop Slip) (to : List Placed) → Reads item from (Err e) to → Reads (items_from item front) from (Err e) to
items_stop item takes front from stop.NoMemory to read = tt
items_stop item takes front from (stop.Refused s) to read = λ next.
    listed_step (is_symbol symbol.Comma) (the symbol.Comma) item takes front next from
    ∙ read (listed_behind (is_symbol symbol.Comma) (the symbol.Comma) item (items_from item) front next)

-- what was read after the first items was read of the list
pub Reads_along : {X : Type 0} (part whole : Part Statement X) (from start : List Placed) (r : Result X (Stop Slip)) (to : List Placed) → ((next : X → Reader Statement) → part next from ≡ whole next start) → Reads part from r to → Reads whole start r to
Reads_along part whole from start (Ok x) to along read = λ next. sym (along next) ∙ read next
Reads_along part whole from start (Err (stop.Refused s)) to along read = λ next. sym (along next) ∙ read next
Reads_along part whole from start (Err stop.NoMemory) to along read = tt
