-- What a string says, piece by piece. Each piece takes at least one byte, so the bound of the definition cuts nothing off.
use Rattle.std.proofs.Common.{◌≡◌, ℕ, zero, suc, ◌+◌, ◌<◌, ◌≤◌, Bool, true, false, cond, ◌==◌, List, [], ◌∷◌, ◌++◌, length, get_or, drop, Option, Some, None, refl, ap, arith, add-one, ◌∙◌, sym, subst, append-nil, length-drop}
use Rattle.std.specs.Option.{option_and_then}
use Rattle.mt_values.specs.Escapes.{escape_of}
use Rattle.mt_values.specs.Tokens.{begins_with, byte_onto, escape_onto, quote_behind, string_within}
use Rattle.mt_values.proofs.Bounds.{ShorterThan}
use Rattle.mt_values.proofs.Fronts.{parted, parted_more}
use Rattle.mt_values.proofs.TokenBounds.{escape_shorter}
use Rattle.sql_read.specs.declared.escapes.Piece.{Piece}
use Rattle.sql_read.specs.declared.escapes.Piece.TheVariants.{Byte, End, Faulty}
use Rattle.sql_read.specs.Strings.{said_by, string_from}
use denote.Ref.{Bor}

escape_same : (f g : List ℕ → Option (List ℕ × List ℕ)) (n : ℕ) (o : Option (ℕ × List ℕ)) → ShorterThan n o → ((rest : List ℕ) → length rest < n → f rest ≡ g rest) → option_and_then (escape_onto f) o ≡ option_and_then (escape_onto g) o
escape_same f g n None less same = refl
escape_same f g n (Some p) less same = ap (byte_onto p.0) (same p.1 less)

quote_same : (c : Bool) (f g : List ℕ → Option (List ℕ × List ℕ)) (bs : List ℕ) → f (drop 1 bs) ≡ g (drop 1 bs) → cond c (byte_onto 39 (f (drop 1 bs))) (Some ([], bs)) ≡ cond c (byte_onto 39 (g (drop 1 bs))) (Some ([], bs))
quote_same true f g bs same = ap (byte_onto 39) same
quote_same false f g bs same = refl

cases_same : (quote slash : Bool) (x y z u v w : Option (List ℕ × List ℕ)) → x ≡ u → y ≡ v → z ≡ w → cond quote x (cond slash y z) ≡ cond quote u (cond slash v w)
cases_same quote slash x y z u v w p q r = rw (p, q, r) refl

string_from_same : (f g : List ℕ → Option (List ℕ × List ℕ)) (text : List ℕ) → ((rest : List ℕ) → length rest < length text → f rest ≡ g rest) → string_from f text ≡ string_from g text
string_from_same f g [] same = refl
string_from_same f g (b ∷ bs) same =
    cases_same (b == 39) (b == 92) (quote_behind f bs) (option_and_then (escape_onto f) (escape_of bs)) (byte_onto b (f bs)) (quote_behind g bs) (option_and_then (escape_onto g) (escape_of bs)) (byte_onto b (g bs))
    (quote_same (begins_with 39 bs) f g bs (same (drop 1 bs) (omega (arith, length-drop 1 bs))))
    (escape_same f g (length bs) (escape_of bs) (escape_shorter bs) (λ rest less. same rest (omega arith)))
    (ap (byte_onto b) (same bs (omega arith)))

within_step : (n : ℕ) (text : List ℕ) → string_within (suc n) text ≡ string_from (string_within n) text
within_step n [] = refl
within_step n (b ∷ bs) = refl

string_same : (n m : ℕ) (text : List ℕ) → length text < n → length text < m → string_within n text ≡ string_within m text
string_same zero m text low high = absurd (omega arith)
string_same (suc n) zero text low high = absurd (omega arith)
string_same (suc n) (suc m) text low high =
    within_step n text
    ∙ (string_from_same (string_within n) (string_within m) text (λ rest less. string_same n m rest (omega arith) (omega arith))
    ∙ sym (within_step m text))

-- what a string says of which this is left, and what follows it
abbrev pub string_left : List ℕ → Option (List ℕ × List ℕ)
string_left text = string_within (length text + 1) text

string_left_step : (text : List ℕ) → string_left text ≡ string_from string_left text
string_left_step text =
    rw add-one
    (within_step (length text) text
    ∙ string_from_same (string_within (length text)) string_left text (λ rest less. string_same (length text) (length rest + 1) rest (omega arith) (omega arith)))

-- ---- one piece

-- it is the first piece of this text
abbrev pub IsFirst : Piece → List ℕ → Type 0
IsFirst p text = (more : List ℕ → Option (List ℕ × List ℕ)) → said_by more p ≡ string_from more text

-- a byte more was said
pub said_more : (front : List ℕ) (b : ℕ) (rest : Bor (List ℕ)) (text : List ℕ) → IsFirst (Byte b rest) text → parted (front ++ b ∷ []) (string_left rest.now) ≡ parted front (string_left text)
said_more front b rest text first =
    sym (parted_more front b (string_left rest.now)) ∙ ap (parted front) (first string_left ∙ sym (string_left_step text))

-- the string ends
pub said_all : (front : List ℕ) (rest : Bor (List ℕ)) (text : List ℕ) → IsFirst (End rest) text → Some (front, rest.now) ≡ parted front (string_left text)
said_all front rest text first =
    ap (λ (l : List ℕ). Some (l, rest.now)) (sym (append-nil front)) ∙ ap (parted front) (first string_left ∙ sym (string_left_step text))

-- it is no string
pub said_nothing : (front : List ℕ) (text : List ℕ) → IsFirst Faulty text → None ≡ parted front (string_left text)
said_nothing front text first = ap (parted front) (first string_left ∙ sym (string_left_step text))

-- ---- its length

rest_alone : List ℕ → Option (List ℕ × List ℕ)
rest_alone text = Some ([], text)

escape_leaves : (n : ℕ) (o : Option (ℕ × List ℕ)) → ShorterThan n o → ShorterThan n (option_and_then (escape_onto rest_alone) o)
unfolding rest_alone
escape_leaves n None less = tt
escape_leaves n (Some p) less = less

pieces_leave : (quote slash : Bool) (n : ℕ) (x y z : Option (List ℕ × List ℕ)) → ShorterThan n x → ShorterThan n y → ShorterThan n z → ShorterThan n (cond quote x (cond slash y z))
pieces_leave true slash n x y z p q r = p
pieces_leave false true n x y z p q r = q
pieces_leave false false n x y z p q r = r

quote_leaves : (c : Bool) (n : ℕ) (bs : List ℕ) → length bs < n → ShorterThan n (cond c (byte_onto 39 (rest_alone (drop 1 bs))) (Some ([], bs)))
unfolding rest_alone
quote_leaves true n bs less = omega (arith, length-drop 1 bs)
quote_leaves false n bs less = less

raised : (n m : ℕ) (o : Option (List ℕ × List ℕ)) → n ≤ m → ShorterThan n o → ShorterThan m o
raised n m None most less = tt
raised n m (Some p) most less = omega arith

piece_leaves : (text : List ℕ) → ShorterThan (length text) (string_from rest_alone text)
unfolding rest_alone
piece_leaves [] = tt
piece_leaves (b ∷ bs) =
    pieces_leave (b == 39) (b == 92) (length (b ∷ bs)) (quote_behind rest_alone bs) (option_and_then (escape_onto rest_alone) (escape_of bs)) (byte_onto b (rest_alone bs))
    (quote_leaves (begins_with 39 bs) (length (b ∷ bs)) bs (omega arith))
    (raised (length bs) (length (b ∷ bs)) (option_and_then (escape_onto rest_alone) (escape_of bs)) (omega arith) (escape_leaves (length bs) (escape_of bs) (escape_shorter bs)))
    (omega arith)

-- a piece takes at least one byte
pub piece_shorter : (b : ℕ) (rest : Bor (List ℕ)) (text : List ℕ) → IsFirst (Byte b rest) text → length rest.now < length text
unfolding rest_alone
piece_shorter b rest text first = subst (ShorterThan (length text)) (sym (first rest_alone)) (piece_leaves text)

-- ---- what it is, by its first byte

module _ (more : List ℕ → Option (List ℕ × List ℕ)) where
  -- there is none
  pub piece_none : (text : List ℕ) → length text < 1 → None ≡ string_from more text
  piece_none [] less = refl
  piece_none (b ∷ bs) less = absurd (omega arith)

  -- a quote
  pub piece_quote : (text : List ℕ) → 1 ≤ length text → get_or text 0 0 ≡ 39 → string_from more text ≡ quote_behind more (drop 1 text)
  piece_quote [] some is = absurd (omega arith)
  piece_quote (b ∷ bs) some is = rw is refl

  -- a backslash
  pub piece_slash : (text : List ℕ) → 1 ≤ length text → get_or text 0 0 ≡ 92 → string_from more text ≡ option_and_then (escape_onto more) (escape_of (drop 1 text))
  piece_slash [] some is = absurd (omega arith)
  piece_slash (b ∷ bs) some is = rw is refl

  byte_cases : (quote slash : Bool) (x y z : Option (List ℕ × List ℕ)) → quote ≡ false → slash ≡ false → cond quote x (cond slash y z) ≡ z
  byte_cases quote slash x y z p q = rw (p, q) refl

  -- another byte
  pub piece_byte : (text : List ℕ) → 1 ≤ length text → (get_or text 0 0 == 39) ≡ false → (get_or text 0 0 == 92) ≡ false → string_from more text ≡ byte_onto (get_or text 0 0) (more (drop 1 text))
  piece_byte [] some no_quote no_slash = absurd (omega arith)
  piece_byte (b ∷ bs) some no_quote no_slash = byte_cases (b == 39) (b == 92) (quote_behind more bs) (option_and_then (escape_onto more) (escape_of bs)) (byte_onto b (more bs)) no_quote no_slash
