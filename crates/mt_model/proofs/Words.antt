-- The words of a text are words as the grammar has them, so its names are names.
use Rattle.std.proofs.Common.{◌≡◌, ℕ, ◌+◌, Bool, true, false, cond, ◌||◌, ◌==◌, zero, suc, List, [], ◌∷◌, length, drop, take_while, All, Option, Some, None, IfOk, Ok, Err, refl, ap, ◌∙◌}
use Rattle.std.proofs.lemmas.List.Elements.{All-nil, All-cons, All-push}
use Rattle.std.proofs.lemmas.List.Sums.{take_while-cons}
use Rattle.std.specs.Char.{is_ascii_digit}
use Rattle.std.specs.Int.{is_in_range}
use Rattle.std.specs.List.{list_all, prefix_len}
use Rattle.mt_values.specs.declared.statement.Slip.TheVariants as slip
use Rattle.mt_values.specs.declared.token.Placed.{Placed}
use Rattle.mt_values.specs.declared.token.Symbol.{Symbol}
use Rattle.mt_values.specs.declared.token.Token.{Token}
use Rattle.mt_values.specs.declared.token.Token.TheVariants as token
use Rattle.mt_values.specs.Tokens.{behind, is_space, starts_word, in_word, word_begins, number_token, text_token, byte_symbol, pair_symbol, one_byte_token, symbol_token_or, symbol_token, string_within, token_from, unless_stray, tokens_from, tokens_within, tokens_of}
use Rattle.mt_values.specs.Grammar as grammar
use Rattle.mt_model.specs.Written.{IsName}

-- a word begins and goes on as words do
pub record IsWord (w : List ℕ) : Type 0 where
  pub begins : word_begins w ≡ true
  pub goes_on : list_all in_word w ≡ true

-- so it is of a token that is a word
abbrev pub IsWordToken : Token → Type 0
IsWordToken (token.Word w) = IsWord w
IsWordToken (token.Number n) = Unit {0}
IsWordToken (token.Text t) = Unit {0}
IsWordToken (token.Symbol s) = Unit {0}
IsWordToken token.Stray = Unit {0}

-- ---- one token

also_in : (digit upper lower under : Bool) → (upper || lower) || under ≡ true → ((digit || upper) || lower) || under ≡ true
also_in true upper lower under h = refl
also_in false upper lower under h = h

word_goes_on : (b : ℕ) → starts_word b ≡ true → in_word b ≡ true
word_goes_on b h = also_in (is_in_range 48 57 b) (is_in_range 65 90 b) (is_in_range 97 122 b) (b == 95) h

list_all-if : (p : ℕ → Bool) (c : Bool) (x : ℕ) (xs : List ℕ) → p x ≡ c → list_all p xs ≡ true → list_all p (cond c (x ∷ xs) []) ≡ true
list_all-if p true x xs e h = rw e h
list_all-if p false x xs e h = refl

taken_all : (p : ℕ → Bool) (xs : List ℕ) → list_all p (take_while p xs) ≡ true
taken_all p [] = refl
taken_all p (x ∷ xs) = ap (list_all p) (take_while-cons p x xs) ∙ list_all-if p (p x) x (take_while p xs) refl (taken_all p xs)

taken_begins : (b : ℕ) (bs : List ℕ) → starts_word b ≡ true → word_begins (take_while in_word (b ∷ bs)) ≡ true
taken_begins b bs e = ap word_begins (take_while-cons in_word b bs) ∙ (ap (λ c. word_begins (cond c (b ∷ take_while in_word bs) [])) (word_goes_on b e) ∙ e)

-- a word is taken from a text that begins like one
word_taken : (b : ℕ) (bs : List ℕ) → starts_word b ≡ true → IsWord (take_while in_word (b ∷ bs))
word_taken b bs e = record { begins = taken_begins b bs e; goes_on = taken_all in_word (b ∷ bs) }

abbrev IsWordFound : Token × List ℕ → Type 0
IsWordFound found = IsWordToken found.0

number_no_word : (c : Bool) (digits rest : List ℕ) → IsWordFound (cond c (token.Stray, rest) (token.Number digits, rest))
number_no_word true digits rest = tt
number_no_word false digits rest = tt

text_no_word : (found : Option (List ℕ × List ℕ)) → IsWordFound (text_token found)
text_no_word None = tt
text_no_word (Some p) = tt

one_no_word : (s : Option Symbol) (bs : List ℕ) → IsWordFound (one_byte_token s bs)
one_no_word None bs = tt
one_no_word (Some s) bs = tt

or_no_word : (s : Option Symbol) (b : ℕ) (bs : List ℕ) → IsWordFound (symbol_token_or s b bs)
or_no_word (Some s) b bs = tt
or_no_word None b bs = one_no_word (byte_symbol b) bs

symbol_no_word : (b : ℕ) (bs : List ℕ) → IsWordFound (symbol_token b bs)
symbol_no_word b [] = one_no_word (byte_symbol b) []
symbol_no_word b (c ∷ cs) = or_no_word (pair_symbol b c) b (c ∷ cs)

word_cases : (word digit quote : Bool) (x y z w : Token × List ℕ) → (word ≡ true → IsWordFound x) → IsWordFound y → IsWordFound z → IsWordFound w → IsWordFound (cond word x (cond digit y (cond quote z w)))
word_cases true digit quote x y z w p q r s = p refl
word_cases false true quote x y z w p q r s = q
word_cases false false true x y z w p q r s = r
word_cases false false false x y z w p q r s = s

token_word : (b : ℕ) (bs : List ℕ) → IsWordFound (token_from b bs)
token_word b bs =
    let rest = drop (prefix_len is_ascii_digit (b ∷ bs)) (b ∷ bs) in
    word_cases (starts_word b) (is_ascii_digit b) (b == 39) (token.Word (take_while in_word (b ∷ bs)), drop (prefix_len in_word (b ∷ bs)) (b ∷ bs))
    (number_token (take_while is_ascii_digit (b ∷ bs)) rest) (text_token (string_within (length bs + 1) bs)) (symbol_token b bs) (word_taken b bs)
    (number_no_word (word_begins rest) (take_while is_ascii_digit (b ∷ bs)) rest) (text_no_word (string_within (length bs + 1) bs)) (symbol_no_word b bs)

-- ---- the tokens of a text

abbrev AreWords : List Placed → Type 0
AreWords ps = All (λ p. IsWordToken p.token) ps

unless_words : (more : List ℕ → List Placed) (t : Token) (rest : List ℕ) → AreWords (more rest) → AreWords (unless_stray more (t, rest))
unless_words more (token.Word w) rest h = h
unless_words more (token.Number n) rest h = h
unless_words more (token.Text t) rest h = h
unless_words more (token.Symbol s) rest h = h
unless_words more token.Stray rest h = All-nil (λ p. IsWordToken p.token)

from_words : (more : List ℕ → List Placed) (size : ℕ) (text : List ℕ) → ((rest : List ℕ) → AreWords (more rest)) → AreWords (tokens_from more size text)
from_words more size [] each = All-nil (λ p. IsWordToken p.token)
from_words more size (b ∷ bs) each =
    let found = token_from b bs in
    All-cons (λ p. IsWordToken p.token) _ (unless_stray more found) (token_word b bs) (unless_words more found.0 found.1 (each found.1))

within_words : (n size : ℕ) (text : List ℕ) → AreWords (tokens_within n size text)
within_words zero size text = All-nil (λ p. IsWordToken p.token)
within_words (suc n) size text = from_words (tokens_within n size) size (behind is_space false text) (within_words n size)

-- the words among the tokens of a text are words
pub tokens_words : (text : List ℕ) (terminated : Bool) → AreWords (grammar.tokens_and_end text terminated)
tokens_words text true = All-push (λ p. IsWordToken p.token) (tokens_of text) _ (within_words (length text + 1) (length text) text) tt
tokens_words text false = within_words (length text + 1) (length text) text

-- ---- names

name_cases : (reserved fits : Bool) (w : List ℕ) → IsWord w → grammar.is_reserved w ≡ reserved → IfOk (cond reserved (Err slip.Wrong) (cond fits (Ok w) (Err slip.LongName))) IsName
name_cases true fits w h e = tt
name_cases false true w h e = record { begins = h.begins; goes_on = h.goes_on; free = e }
name_cases false false w h e = tt

-- what the grammar takes for a name is one
pub name_says : (t : Token) → IsWordToken t → IfOk (grammar.name t) IsName
name_says (token.Word w) h = name_cases (grammar.is_reserved w) (grammar.fits_name w) w h refl
name_says (token.Number n) h = tt
name_says (token.Text t) h = tt
name_says (token.Symbol s) h = tt
name_says token.Stray h = tt
