-- Which way a production goes, by the next token.
use Rattle.std.proofs.Common.{◌≡◌, Bool, true, false, List, [], ◌∷◌, refl}
use Rattle.mt_values.specs.declared.token.Placed.{Placed}
use Rattle.mt_values.specs.declared.token.Token.{Token}
use Rattle.mt_values.specs.Readers.{Reader, choose, either}
use Rattle.sql_read.specs.Reads.{first_is}

pub choose_this : {S : Type 0} (test : Token → Bool) (this other : Reader S) (ts : List Placed) → first_is test ts ≡ true → choose test this other ts ≡ this ts
choose_this test this other [] passes = cc
choose_this test this other (p ∷ ps) passes = rw passes refl

pub choose_other : {S : Type 0} (test : Token → Bool) (this other : Reader S) (ts : List Placed) → first_is test ts ≡ false → choose test this other ts ≡ other ts
choose_other test this other [] fails = refl
choose_other test this other (p ∷ ps) fails = rw fails refl

-- what follows either way is told which of them was taken
pub either_told : {S : Type 0} (taken : Bool) (next : Bool → Reader S) (ts : List Placed) → either taken (next true) (next false) ts ≡ next taken ts
either_told true next ts = refl
either_told false next ts = refl
