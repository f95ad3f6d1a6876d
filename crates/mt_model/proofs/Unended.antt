-- A text that no semicolon ends has no semicolon among its tokens.
use Rattle.std.proofs.Common.{◌≡◌, ℕ, ◌+◌, ◌-◌, Bool, true, false, not, cond, ◌&&◌, ◌==◌, zero, suc, List, [], ◌∷◌, length, drop, take_while, All, Option, Some, None, IfSome, refl, ap, sym, subst, arith, ◌∙◌}
use Rattle.std.proofs.lemmas.Bool.{eqb-true}
use Rattle.std.proofs.lemmas.Bool.Decides.{nat_tests}
use Rattle.std.proofs.lemmas.List.Elements.{All-nil, All-cons}
use Rattle.std.specs.Char.{is_ascii_digit}
use Rattle.std.specs.List.{prefix_len}
use Rattle.std.specs.Option.{option_map, option_and_then}
use Rattle.mt_values.specs.declared.script.Place.{Place}
use Rattle.mt_values.specs.declared.script.Place.TheVariants.{Outside, InString, BehindBackslash, InComment}
use Rattle.mt_values.specs.declared.token.Placed.{Placed}
use Rattle.mt_values.specs.declared.token.Symbol.{Symbol}
use Rattle.mt_values.specs.declared.token.Symbol.TheVariants as symbol
use Rattle.mt_values.specs.declared.token.Token.{Token}
use Rattle.mt_values.specs.declared.token.Token.TheVariants as token
use Rattle.mt_values.specs.Escapes.{escape_byte, escape_of, hex_byte, hex_digit, hex_pair}
use Rattle.mt_values.specs.Tokens.{behind, begins_with, is_space, starts_word, in_word, word_begins, number_token, text_token, byte_onto, escape_onto, quote_behind, byte_symbol, pair_symbol, one_byte_token, symbol_token_or, symbol_token, string_within, token_from, unless_stray, token_at, tokens_from, tokens_within, tokens_of}
use Rattle.mt_values.specs.Grammar.{is_symbol, same_symbol}
use Rattle.mt_values.specs.Script.{onto, place_behind, ends_at, ended_from}
use Rattle.mt_model.proofs.Again.{IsFirst, BeginsText, behind_begins}

-- no semicolon ends the text
abbrev pub IsOpen : Place → List ℕ → Type 0
IsOpen place text = ended_from place text ≡ None

open_cases : (c : Bool) (b : ℕ) (bs : List ℕ) (o : Option (List ℕ × List ℕ)) → cond c (Some ([], bs)) (option_map (onto b) o) ≡ None → (c ≡ false) × (o ≡ None)
open_cases true b bs o h = cc
open_cases false b bs None h = (refl, refl)
open_cases false b bs (Some p) h = cc

-- nor the text after its first byte
open_behind : (place : Place) (b : ℕ) (bs : List ℕ) → IsOpen place (b ∷ bs) → IsOpen (place_behind place b bs) bs
open_behind place b bs h = (open_cases (ends_at place b) b bs (ended_from (place_behind place b bs) bs) h).1

open_first : (place : Place) (b : ℕ) (bs : List ℕ) → IsOpen place (b ∷ bs) → ends_at place b ≡ false
open_first place b bs h = (open_cases (ends_at place b) b bs (ended_from (place_behind place b bs) bs) h).0

-- ---- bytes that are passed over

-- a byte that begins neither a string nor a comment
abbrev IsPlain : ℕ → Type 0
IsPlain b = (b == 39 ≡ false) × (b == 45 ≡ false)

plain_stays : (b : ℕ) (bs : List ℕ) → IsPlain b → place_behind Outside b bs ≡ Outside
plain_stays b bs h = rw (h.0, h.1) refl

open_plain : (b : ℕ) (bs : List ℕ) → IsPlain b → IsOpen Outside (b ∷ bs) → IsOpen Outside bs
open_plain b bs plain h = subst (λ (p : Place). IsOpen p bs) (plain_stays b bs plain) (open_behind Outside b bs h)

space_plain : (b : ℕ) → is_space b ≡ true → IsPlain b
space_plain b h = (grind (arith, nat_tests), grind (arith, nat_tests))

digit_plain : (b : ℕ) → is_ascii_digit b ≡ true → IsPlain b
digit_plain b h = (grind (arith, nat_tests), grind (arith, nat_tests))

word_plain : (b : ℕ) → in_word b ≡ true → IsPlain b
word_plain b h = (grind (arith, nat_tests), grind (arith, nat_tests))

place_of : Bool → Place
place_of true = InComment
place_of false = Outside

-- where a comment ends
comment_place : (b : ℕ) (bs : List ℕ) → IsOpen InComment (b ∷ bs) → IsOpen (place_of (not (b == 10))) bs
unfolding place_of
comment_place b bs h = by (b == 10) refl (open_behind InComment b bs h)
  where
    by : (c : Bool) → (b == 10) ≡ c → IsOpen (cond c Outside InComment) bs → IsOpen (place_of (not c)) bs
    by true e h = h
    by false e h = h

dash_cases : (quote dash next : Bool) → (quote ≡ true → dash ≡ true → ⊥) → (dash && next) ≡ true → cond quote InString (cond (dash && next) InComment Outside) ≡ InComment
dash_cases true true next apart h = absurd (apart refl refl)
dash_cases true false next apart h = cc
dash_cases false dash next apart h = rw h refl

dash_begins : (b : ℕ) (bs : List ℕ) → (b == 45 && begins_with 45 bs) ≡ true → place_behind Outside b bs ≡ InComment
dash_begins b bs h = dash_cases (b == 39) (b == 45) (begins_with 45 bs) (λ quote dash. grind (arith, nat_tests)) h

passed_cases : (c d : Bool) (x y z : List ℕ) → (c ≡ true → IsOpen Outside x) → (d ≡ true → IsOpen Outside y) → IsOpen Outside z → IsOpen Outside (cond c x (cond d y z))
passed_cases true d x y z p q r = p refl
passed_cases false true x y z p q r = q refl
passed_cases false false x y z p q r = r

passed_open : (comment : Bool) (text : List ℕ) → IsOpen (place_of comment) text → IsOpen Outside (behind is_space comment text)
unfolding place_of
passed_open comment [] h = refl
passed_open true (b ∷ bs) h = passed_open (not (b == 10)) bs (comment_place b bs h)
passed_open false (b ∷ bs) h =
    passed_cases (is_space b) (b == 45 && begins_with 45 bs) (behind is_space false bs) (behind is_space true bs) (b ∷ bs)
    (λ e. passed_open false bs (open_plain b bs (space_plain b e) h))
    (λ e. passed_open true bs (subst (λ (p : Place). IsOpen p bs) (dash_begins b bs e) (open_behind Outside b bs h)))
    h

-- a run of plain bytes
run_cases : (p : ℕ → Bool) (b : ℕ) (bs : List ℕ) (c : Bool) → p b ≡ c → (p b ≡ true → IsPlain b) → (IsOpen Outside bs → IsOpen Outside (drop (prefix_len p bs) bs)) → IsOpen Outside (b ∷ bs) → IsOpen Outside (drop (cond c (1 + prefix_len p bs) 0) (b ∷ bs))
run_cases p b bs true e plain more h =
    let next : 1 + prefix_len p bs ≡ suc (prefix_len p bs) = omega arith in
    rw next (more (open_plain b bs (plain e) h))
run_cases p b bs false e plain more h = h

run_open : (p : ℕ → Bool) → ((b : ℕ) → p b ≡ true → IsPlain b) → (text : List ℕ) → IsOpen Outside text → IsOpen Outside (drop (prefix_len p text) text)
run_open p plain [] h = refl
run_open p plain (b ∷ bs) h = run_cases p b bs (p b) refl (plain b) (run_open p plain bs) h

-- ---- strings

-- no semicolon ends what follows a part that was found
abbrev LeavesOpen : {A : Type 0} → Place → Option (A × List ℕ) → Type 0
LeavesOpen place None = Unit {0}
LeavesOpen place (Some found) = IsOpen place found.1

no_digit : (h d n : ℕ) → hex_digit n ≡ None → hex_digit h ≡ Some d → (h == n) ≡ false
no_digit h d n none some = by (h == n) refl
  where
    by : (c : Bool) → (h == n) ≡ c → c ≡ false
    by true e =
        let same : h ≡ n = eqb-true h n e in
        let clash : None ≡ Some d = sym none ∙ (ap hex_digit (sym same) ∙ some) in
        cc
    by false e = refl

-- a digit goes on with its string
digit_stays : (h d : ℕ) (bs : List ℕ) → hex_digit h ≡ Some d → place_behind InString h bs ≡ InString
digit_stays h d bs e = rw (no_digit h d 39 refl e, no_digit h d 92 refl e) refl

pair_open : (high low : ℕ) (bs : List ℕ) (h l : Option ℕ) → hex_digit high ≡ h → hex_digit low ≡ l → IsOpen InString (high ∷ low ∷ bs) → LeavesOpen InString (option_map (λ b. (b, bs)) (hex_byte h l))
pair_open high low bs None l e f whole = tt
pair_open high low bs (Some h) None e f whole = tt
pair_open high low bs (Some h) (Some l) e f whole =
    let one : IsOpen InString (low ∷ bs) = subst (λ (p : Place). IsOpen p (low ∷ bs)) (digit_stays high h (low ∷ bs) e) (open_behind InString high (low ∷ bs) whole) in
    subst (λ (p : Place). IsOpen p bs) (digit_stays low l bs f) (open_behind InString low bs one)

hex_open : (bs : List ℕ) → IsOpen InString bs → LeavesOpen InString (hex_pair bs)
hex_open [] h = tt
hex_open (high ∷ []) h = tt
hex_open (high ∷ low ∷ bs) h = pair_open high low bs (hex_digit high) (hex_digit low) refl refl h

escape_cases : (hex none : Bool) (c : ℕ) (bs : List ℕ) → IsOpen InString bs → LeavesOpen InString (cond hex (hex_pair bs) (cond none None (Some (c, bs))))
escape_cases true none c bs h = hex_open bs h
escape_cases false true c bs h = tt
escape_cases false false c bs h = h

escape_open : (bs : List ℕ) → IsOpen BehindBackslash bs → LeavesOpen InString (escape_of bs)
escape_open [] h = tt
escape_open (c ∷ bs) h = escape_cases (c == 120) (c == 78) (escape_byte c) bs (open_behind BehindBackslash c bs h)

onto_open : (b : ℕ) (o : Option (List ℕ × List ℕ)) → LeavesOpen Outside o → LeavesOpen Outside (byte_onto b o)
onto_open b None h = tt
onto_open b (Some p) h = h

module _ (more : List ℕ → Option (List ℕ × List ℕ)) (each : (text : List ℕ) → IsOpen InString text → LeavesOpen Outside (more text)) where
  escaped_open : (o : Option (ℕ × List ℕ)) → LeavesOpen InString o → LeavesOpen Outside (option_and_then (escape_onto more) o)
  escaped_open None h = tt
  escaped_open (Some p) h = onto_open p.0 (more p.1) (each p.1 h)

  quote_cases : (quote : Bool) (other : Place) (c : ℕ) (cs : List ℕ) → IsOpen (cond quote InString other) cs → IsOpen Outside (c ∷ cs) → LeavesOpen Outside (cond quote (byte_onto 39 (more cs)) (Some ([], c ∷ cs)))
  quote_cases true other c cs h k = onto_open 39 (more cs) (each cs h)
  quote_cases false other c cs h k = k

  quote_open : (bs : List ℕ) → IsOpen Outside bs → LeavesOpen Outside (quote_behind more bs)
  quote_open [] h = refl
  quote_open (c ∷ cs) h = quote_cases (c == 39) (cond (c == 45 && begins_with 45 cs) InComment Outside) c cs (open_behind Outside c cs h) h

string_cases : (quote slash : Bool) (bs : List ℕ) (x y z : Option (List ℕ × List ℕ)) → (IsOpen Outside bs → LeavesOpen Outside x) → (IsOpen BehindBackslash bs → LeavesOpen Outside y) → (IsOpen InString bs → LeavesOpen Outside z) →
    IsOpen (cond quote Outside (cond slash BehindBackslash InString)) bs → LeavesOpen Outside (cond quote x (cond slash y z))
string_cases true slash bs x y z p q r h = p h
string_cases false true bs x y z p q r h = q h
string_cases false false bs x y z p q r h = r h

string_open : (n : ℕ) (text : List ℕ) → IsOpen InString text → LeavesOpen Outside (string_within n text)
string_open zero text h = tt
string_open (suc n) [] h = tt
string_open (suc n) (b ∷ bs) h =
    string_cases (b == 39) (b == 92) bs (quote_behind (string_within n) bs) (option_and_then (escape_onto (string_within n)) (escape_of bs)) (byte_onto b (string_within n bs))
    (quote_open (string_within n) (string_open n) bs)
    (λ k. escaped_open (string_within n) (string_open n) (escape_of bs) (escape_open bs k))
    (λ k. onto_open b (string_within n bs) (string_open n bs k))
    (open_behind InString b bs h)

-- ---- one token

-- it is no semicolon, nor does one end what follows it; nothing follows a byte that begins none
abbrev TokenOpen : Token × List ℕ → Type 0
TokenOpen (token.Stray, rest) = Unit {0}
TokenOpen (token.Word w, rest) = IsOpen Outside rest
TokenOpen (token.Number n, rest) = IsOpen Outside rest
TokenOpen (token.Text t, rest) = IsOpen Outside rest
TokenOpen (token.Symbol s, rest) = (same_symbol symbol.Semicolon s ≡ false) × IsOpen Outside rest

number_open : (c : Bool) (digits rest : List ℕ) → IsOpen Outside rest → TokenOpen (cond c (token.Stray, rest) (token.Number digits, rest))
number_open true digits rest h = tt
number_open false digits rest h = h

text_open : (o : Option (List ℕ × List ℕ)) → LeavesOpen Outside o → TokenOpen (text_token o)
text_open None h = tt
text_open (Some p) h = h

-- a symbol that is no semicolon
abbrev NoSemicolon : Symbol → Type 0
NoSemicolon s = same_symbol symbol.Semicolon s ≡ false

byte_case : (c : Bool) (s : Symbol) (o : Option Symbol) → NoSemicolon s → IfSome o NoSemicolon → IfSome (cond c (Some s) o) NoSemicolon
byte_case true s o h k = h
byte_case false s o h k = k

last_case : (c : Bool) → c ≡ false → IfSome (cond c (Some symbol.Semicolon) None) NoSemicolon
last_case true e = cc
last_case false e = tt

byte_symbols : (b : ℕ) → (b == 59) ≡ false → IfSome (byte_symbol b) NoSemicolon
byte_symbols b e =
    byte_case (b == 40) symbol.Open _ refl (byte_case (b == 41) symbol.Close _ refl (byte_case (b == 44) symbol.Comma _ refl
    (byte_case (b == 61) symbol.Equal _ refl (byte_case (b == 60) symbol.Less _ refl (byte_case (b == 62) symbol.Greater _ refl
    (byte_case (b == 42) symbol.Star _ refl (byte_case (b == 43) symbol.Plus _ refl (byte_case (b == 45) symbol.Minus _ refl (last_case (b == 59) e)))))))))

-- the second byte of a symbol is plain
abbrev IsPair : ℕ → Symbol → Type 0
IsPair c s = NoSemicolon s × IsPlain c

pair_case : (a : Bool) (c n : ℕ) (s : Symbol) (o : Option Symbol) → IsPlain n → NoSemicolon s → IfSome o (IsPair c) → IfSome (cond (a && c == n) (Some s) o) (IsPair c)
pair_case false c n s o plain h k = k
pair_case true c n s o plain h k = by (c == n) refl
  where
    by : (d : Bool) → (c == n) ≡ d → IfSome (cond d (Some s) o) (IsPair c)
    by true e = (h, subst IsPlain (sym (eqb-true c n e)) plain)
    by false e = k

pair_symbols : (b c : ℕ) → IfSome (pair_symbol b c) (IsPair c)
pair_symbols b c =
    pair_case (b == 33) c 61 symbol.NotEqual _ (refl, refl) refl (pair_case (b == 60) c 62 symbol.NotEqual _ (refl, refl) refl
    (pair_case (b == 60) c 61 symbol.LessOrEqual _ (refl, refl) refl (pair_case (b == 62) c 61 symbol.GreaterOrEqual None (refl, refl) refl tt)))

one_open : (o : Option Symbol) (bs : List ℕ) → IfSome o NoSemicolon → IsOpen Outside bs → TokenOpen (one_byte_token o bs)
one_open None bs h k = tt
one_open (Some s) bs h k = (h, k)

or_open : (o : Option Symbol) (b c : ℕ) (cs : List ℕ) → (b == 59) ≡ false → IfSome o (IsPair c) → IsOpen Outside (c ∷ cs) → TokenOpen (symbol_token_or o b (c ∷ cs))
or_open (Some s) b c cs e h k = (h.0, open_plain c cs h.1 k)
or_open None b c cs e h k = one_open (byte_symbol b) (c ∷ cs) (byte_symbols b e) k

symbol_open : (b : ℕ) (bs : List ℕ) → (b == 59) ≡ false → IsOpen Outside bs → TokenOpen (symbol_token b bs)
symbol_open b [] e h = one_open (byte_symbol b) [] (byte_symbols b e) h
symbol_open b (c ∷ cs) e h = or_open (pair_symbol b c) b c cs e (pair_symbols b c) h

token_cases : (word digit quote comment : Bool) (bs : List ℕ) (x y z w : Token × List ℕ) → TokenOpen x → TokenOpen y → (IsOpen InString bs → TokenOpen z) → (IsOpen Outside bs → TokenOpen w) →
    comment ≡ false → IsOpen (cond quote InString (cond comment InComment Outside)) bs → TokenOpen (cond word x (cond digit y (cond quote z w)))
token_cases true digit quote comment bs x y z w p q r s e h = p
token_cases false true quote comment bs x y z w p q r s e h = q
token_cases false false true comment bs x y z w p q r s e h = r h
token_cases false false false true bs x y z w p q r s e h = cc
token_cases false false false false bs x y z w p q r s e h = s h

token_open : (b : ℕ) (bs : List ℕ) → IsFirst is_space b bs → IsOpen Outside (b ∷ bs) → TokenOpen (token_from b bs)
token_open b bs first h =
    let rest = drop (prefix_len is_ascii_digit (b ∷ bs)) (b ∷ bs) in
    token_cases (starts_word b) (is_ascii_digit b) (b == 39) (b == 45 && begins_with 45 bs) bs (token.Word (take_while in_word (b ∷ bs)), drop (prefix_len in_word (b ∷ bs)) (b ∷ bs))
    (number_token (take_while is_ascii_digit (b ∷ bs)) rest) (text_token (string_within (length bs + 1) bs)) (symbol_token b bs)
    (run_open in_word word_plain (b ∷ bs) h)
    (number_open (word_begins rest) (take_while is_ascii_digit (b ∷ bs)) rest (run_open is_ascii_digit digit_plain (b ∷ bs) h))
    (λ k. text_open (string_within (length bs + 1) bs) (string_open (length bs + 1) bs k))
    (symbol_open b bs (open_first Outside b bs h)) first.no_comment (open_behind Outside b bs h)

-- ---- the tokens of a text

-- no token is a semicolon
abbrev pub AreNoEnds : List Placed → Type 0
AreNoEnds ps = All (λ p. is_symbol symbol.Semicolon p.token ≡ false) ps

at_no_ends : (more : List ℕ → List Placed) (at : ℕ) (found : Token × List ℕ) → is_symbol symbol.Semicolon found.0 ≡ false → AreNoEnds (unless_stray more found) → AreNoEnds (token_at more at found)
at_no_ends more at found h k = All-cons (λ p. is_symbol symbol.Semicolon p.token ≡ false) _ (unless_stray more found) h k

token_no_ends : (more : List ℕ → List Placed) (at : ℕ) (found : Token × List ℕ) → TokenOpen found → ((rest : List ℕ) → IsOpen Outside rest → AreNoEnds (more rest)) → AreNoEnds (token_at more at found)
token_no_ends more at (token.Stray, rest) h each = at_no_ends more at (token.Stray, rest) refl (All-nil (λ p. is_symbol symbol.Semicolon p.token ≡ false))
token_no_ends more at (token.Word w, rest) h each = at_no_ends more at (token.Word w, rest) refl (each rest h)
token_no_ends more at (token.Number n, rest) h each = at_no_ends more at (token.Number n, rest) refl (each rest h)
token_no_ends more at (token.Text t, rest) h each = at_no_ends more at (token.Text t, rest) refl (each rest h)
token_no_ends more at (token.Symbol s, rest) h each = at_no_ends more at (token.Symbol s, rest) h.0 (each rest h.1)

from_no_ends : (more : List ℕ → List Placed) (size : ℕ) (text : List ℕ) → BeginsText is_space text → IsOpen Outside text → ((rest : List ℕ) → IsOpen Outside rest → AreNoEnds (more rest)) → AreNoEnds (tokens_from more size text)
from_no_ends more size [] first h each = All-nil (λ p. is_symbol symbol.Semicolon p.token ≡ false)
from_no_ends more size (b ∷ bs) first h each = token_no_ends more (size - length (b ∷ bs)) (token_from b bs) (token_open b bs first h) each

within_no_ends : (n size : ℕ) (text : List ℕ) → IsOpen Outside text → AreNoEnds (tokens_within n size text)
unfolding place_of
within_no_ends zero size text h = All-nil (λ p. is_symbol symbol.Semicolon p.token ≡ false)
within_no_ends (suc n) size text h = from_no_ends (tokens_within n size) size (behind is_space false text) (behind_begins is_space false text) (passed_open false text h) (within_no_ends n size)

pub open_no_ends : (text : List ℕ) → IsOpen Outside text → AreNoEnds (tokens_of text)
open_no_ends text h = within_no_ends (length text + 1) (length text) text h
