-- What the code that reads tokens found, without where it lies in memory.
use Rattle.std.specs.Prelude.{ℕ, List, [], ◌∷◌, drop, take_while}
use Rattle.std.specs.Char.{is_ascii_digit}
use Rattle.std.specs.List.{prefix_len}
use denote.Ref.{Bor}
use Rattle.mt_values.specs.declared.token.Token.{Token}
use Rattle.mt_values.specs.declared.token.Token.TheVariants as token
use Rattle.mt_values.specs.Tokens.{in_word, number_token, token_from}

-- a token and what follows it
abbrev pub token_shown : Token × Bor (List ℕ) → Token × List ℕ
token_shown found = (found.0, found.1.now)

-- the word that a text begins with, and what follows it
abbrev pub word_token : List ℕ → Token × List ℕ
word_token text = (token.Word (take_while in_word text), drop (prefix_len in_word text) text)

-- the token of the digits that a text begins with, and what follows it
abbrev pub digits_token : List ℕ → Token × List ℕ
digits_token text = number_token (take_while is_ascii_digit text) (drop (prefix_len is_ascii_digit text) text)

-- the token that a text begins with, and what follows it; a stray one of a text without bytes
abbrev pub first_token : List ℕ → Token × List ℕ
first_token [] = (token.Stray, [])
first_token (b ∷ bs) = token_from b bs
