-- Where a statement's first fault is (docs/grammar.md, "Reading").
use Rattle.std.specs.Prelude.{◌≡◌, ℕ, true, false, List, [], ◌∷◌, ◌++◌, Ok}
use Rattle.mt_values.specs.declared.token.Placed.{Placed}
use Rattle.mt_values.specs.declared.token.Token.{Token}
use Rattle.mt_values.specs.declared.token.Token.TheVariants as token
use Rattle.mt_values.specs.Grammar.{fits_name, is_reserved, opens}
use Rattle.mt_values.specs.Readers.{Reader}

-- with these tokens some statement goes on: with some tokens after them they are one
abbrev pub GoesOn : {S : Type 0} → Reader S → List Placed → Type 0
GoesOn {S} read front = (more : List Placed) × (s : S) × (read (front ++ more) ≡ Ok s)

-- Some tokens go on up to this rest of them, and with the first token of the rest they don't. There is no rest where they
-- all go on.
pub record FirstFault {S : Type 0} (read : Reader S) (tokens rest : List Placed) : Type 0 where
  pub front : List Placed
  pub parts : tokens ≡ front ++ rest
  pub before : GoesOn read front
  pub there : (p : Placed) (ps : List Placed) → rest ≡ p ∷ ps → ¬ GoesOn read (front ++ p ∷ [])

-- Some tokens go on up to this rest of them, which begins with a name that is too long. In its place any name that fits
-- goes on, and this one doesn't.
pub record LongFault {S : Type 0} (read : Reader S) (tokens rest : List Placed) : Type 0 where
  pub front : List Placed
  pub place : ℕ
  pub word : List ℕ
  pub behind : List Placed
  pub parts : tokens ≡ front ++ rest
  pub here : rest ≡ record { at = place; token = token.Word word } ∷ behind
  pub is_name : is_reserved word ≡ false
  pub is_long : fits_name word ≡ false
  pub before : GoesOn read front
  pub there : ¬ GoesOn read (front ++ record { at = place; token = token.Word word } ∷ [])
  pub shorter : (name : List ℕ) → is_reserved name ≡ false → fits_name name ≡ true → GoesOn read (front ++ record { at = place; token = token.Word name } ∷ [])

-- Some tokens go on up to this rest of them, which begins with a NOT or an open parenthesis. In its place any name that fits
-- goes on, and this token doesn't: as many of them are open as may be.
pub record DeepFault {S : Type 0} (read : Reader S) (tokens rest : List Placed) : Type 0 where
  pub front : List Placed
  pub place : ℕ
  pub opening : Token
  pub behind : List Placed
  pub parts : tokens ≡ front ++ rest
  pub here : rest ≡ record { at = place; token = opening } ∷ behind
  pub is_opening : opens opening ≡ true
  pub before : GoesOn read front
  pub there : ¬ GoesOn read (front ++ record { at = place; token = opening } ∷ [])
  pub shallower : (name : List ℕ) → is_reserved name ≡ false → fits_name name ≡ true → GoesOn read (front ++ record { at = place; token = token.Word name } ∷ [])
