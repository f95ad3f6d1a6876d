-- The tokens of a statement (docs/grammar.md, "Tokens").
use Rattle.std.specs.Prelude.{ℕ, suc, zero, ◌+◌, ◌-◌, Bool, true, false, not, ◌&&◌, ◌||◌, ◌==◌, List, [], ◌∷◌, length, drop, take_while, Option, Some, None, if◌then◌else◌}
use Rattle.std.specs.List.{prefix_len}
use Rattle.std.specs.Option.{option_map, option_and_then}
use Rattle.std.specs.Cmp.Lexicographic.{pointwise}
use Rattle.std.specs.Char.{is_ascii_alphabetic, is_ascii_alphanumeric, is_ascii_digit, eq_ignore_ascii_case}
use Rattle.mt_values.specs.declared.token.Placed.{Placed}
use Rattle.mt_values.specs.declared.token.Symbol.{Symbol}
use Rattle.mt_values.specs.declared.token.Symbol.TheVariants as symbol
use Rattle.mt_values.specs.declared.token.Token.{Token}
use Rattle.mt_values.specs.declared.token.Token.TheVariants as token
use Rattle.mt_values.specs.Escapes.{escape_of}

-- space, tab, line feed or carriage return
abbrev pub is_space : ℕ → Bool
is_space b = b == 32 || b == 9 || b == 10 || b == 13

abbrev pub begins_with : ℕ → List ℕ → Bool
begins_with b [] = false
begins_with b (c ∷ cs) = c == b

-- What is left of a text after bytes that pass the test and comments, which go from two dashes up to a line feed.
-- The flag says that the text begins in a comment.
abbrev pub behind : (ℕ → Bool) → Bool → List ℕ → List ℕ
behind blank comment [] = []
behind blank true (b ∷ bs) = behind blank (not (b == 10)) bs
behind blank false (b ∷ bs) =
    if blank b then behind blank false bs
    else if b == 45 && begins_with 45 bs then behind blank true bs
    else b ∷ bs

-- a word begins with a letter or an underscore
abbrev pub starts_word : ℕ → Bool
starts_word b = is_ascii_alphabetic b || b == 95

-- and goes on with letters, digits and underscores
abbrev pub in_word : ℕ → Bool
in_word b = is_ascii_alphanumeric b || b == 95

abbrev pub word_begins : List ℕ → Bool
word_begins [] = false
word_begins (b ∷ bs) = starts_word b

-- a run of digits is a number where no letter and no underscore follows it
abbrev pub number_token : List ℕ → List ℕ → Token × List ℕ
number_token digits rest = if word_begins rest then (token.Stray, rest) else (token.Number digits, rest)

-- a byte of a string before what the rest of it says
abbrev pub byte_onto : ℕ → Option (List ℕ × List ℕ) → Option (List ℕ × List ℕ)
byte_onto b found = option_map (λ p. (b ∷ p.0, p.1)) found

-- a byte that an escape stands for, before what the rest of the string says
abbrev pub escape_onto : (List ℕ → Option (List ℕ × List ℕ)) → ℕ × List ℕ → Option (List ℕ × List ℕ)
escape_onto more found = byte_onto found.0 (more found.1)

-- a quote ends a string; two of them are one in it
abbrev pub quote_behind : (List ℕ → Option (List ℕ × List ℕ)) → List ℕ → Option (List ℕ × List ℕ)
quote_behind more bs = if begins_with 39 bs then byte_onto 39 (more (drop 1 bs)) else Some ([], bs)

-- What a string says of which this is left, up to its quote, and what follows that; none where it has no end or a faulty
-- escape. It has fewer bytes than this.
abbrev pub string_within : ℕ → List ℕ → Option (List ℕ × List ℕ)
string_within zero bytes = None
string_within (suc n) [] = None
string_within (suc n) (b ∷ bs) =
    if b == 39 then quote_behind (string_within n) bs
    else if b == 92 then option_and_then (escape_onto (string_within n)) (escape_of bs)
    else byte_onto b (string_within n bs)

abbrev pub text_token : Option (List ℕ × List ℕ) → Token × List ℕ
text_token None = (token.Stray, [])
text_token (Some found) = (token.Text found.0, found.1)

-- the symbol that two bytes are
abbrev pub pair_symbol : ℕ → ℕ → Option Symbol
pair_symbol b c =
    if b == 33 && c == 61 then Some symbol.NotEqual
    else if b == 60 && c == 62 then Some symbol.NotEqual
    else if b == 60 && c == 61 then Some symbol.LessOrEqual
    else if b == 62 && c == 61 then Some symbol.GreaterOrEqual
    else None

-- the symbol that one byte is
abbrev pub byte_symbol : ℕ → Option Symbol
byte_symbol b =
    if b == 40 then Some symbol.Open
    else if b == 41 then Some symbol.Close
    else if b == 44 then Some symbol.Comma
    else if b == 61 then Some symbol.Equal
    else if b == 60 then Some symbol.Less
    else if b == 62 then Some symbol.Greater
    else if b == 42 then Some symbol.Star
    else if b == 43 then Some symbol.Plus
    else if b == 45 then Some symbol.Minus
    else if b == 59 then Some symbol.Semicolon
    else None

abbrev pub one_byte_token : Option Symbol → List ℕ → Token × List ℕ
one_byte_token None bs = (token.Stray, bs)
one_byte_token (Some s) bs = (token.Symbol s, bs)

abbrev pub symbol_token_or : Option Symbol → ℕ → List ℕ → Token × List ℕ
symbol_token_or (Some s) b bs = (token.Symbol s, drop 1 bs)
symbol_token_or None b bs = one_byte_token (byte_symbol b) bs

-- a symbol of two bytes where there is one, else of one byte
abbrev pub symbol_token : ℕ → List ℕ → Token × List ℕ
symbol_token b [] = one_byte_token (byte_symbol b) []
symbol_token b (c ∷ cs) = symbol_token_or (pair_symbol b c) b (c ∷ cs)

-- the token that begins with this byte, and what follows it
abbrev pub token_from : ℕ → List ℕ → Token × List ℕ
token_from b bs =
    if starts_word b then (token.Word (take_while in_word (b ∷ bs)), drop (prefix_len in_word (b ∷ bs)) (b ∷ bs))
    else if is_ascii_digit b then number_token (take_while is_ascii_digit (b ∷ bs)) (drop (prefix_len is_ascii_digit (b ∷ bs)) (b ∷ bs))
    else if b == 39 then text_token (string_within (length bs + 1) bs)
    else symbol_token b bs

-- what follows a token; nothing follows a byte that begins none
abbrev pub unless_stray : (List ℕ → List Placed) → Token × List ℕ → List Placed
unless_stray more (token.Stray, rest) = []
unless_stray more (token.Word w, rest) = more rest
unless_stray more (token.Number n, rest) = more rest
unless_stray more (token.Text t, rest) = more rest
unless_stray more (token.Symbol s, rest) = more rest

-- a token at a place, and those that follow it
abbrev pub token_at : (List ℕ → List Placed) → ℕ → Token × List ℕ → List Placed
token_at more at found = record { at = at; token = found.0 } ∷ unless_stray more found

abbrev pub tokens_from : (List ℕ → List Placed) → ℕ → List ℕ → List Placed
tokens_from more size [] = []
tokens_from more size (b ∷ bs) = token_at more (size - length (b ∷ bs)) (token_from b bs)

-- the tokens at the end of a text of this size, of which a part is left that has fewer of them than this
abbrev pub tokens_within : ℕ → ℕ → List ℕ → List Placed
tokens_within zero size text = []
tokens_within (suc n) size text = tokens_from (tokens_within n size) size (behind is_space false text)

-- the tokens of a text, each with its place, up to the first byte that begins none
abbrev pub tokens_of : List ℕ → List Placed
tokens_of text = tokens_within (length text + 1) (length text) text

-- the word is this keyword, in any case of its letters
abbrev pub is_keyword : List ℕ → List ℕ → Bool
is_keyword keyword word = pointwise eq_ignore_ascii_case word keyword
