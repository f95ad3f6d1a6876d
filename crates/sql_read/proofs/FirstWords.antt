-- The first token of a text, where it is a word.
use Rattle.std.proofs.Common.{◌≡◌, ℕ, Bool, true, false, cond, ◌&&◌, ◌==◌, ◌+◌, List, [], ◌∷◌, length, drop, take_while, Option, Some, None, refl, codes}
use Rattle.std.specs.Char.{is_ascii_digit}
use Rattle.std.specs.List.{prefix_len}
use Rattle.mt_values.specs.declared.token.Symbol.{Symbol}
use Rattle.mt_values.specs.declared.token.Token.{Token}
use Rattle.mt_values.specs.declared.token.Token.TheVariants as token
use Rattle.mt_values.specs.Grammar.{is_word, takes_data}
use Rattle.mt_values.specs.Tokens.{behind, is_keyword, is_space, starts_word, in_word, word_begins, number_token, text_token, byte_symbol, pair_symbol, one_byte_token, symbol_token_or, symbol_token, string_within, token_from}
use Rattle.mt_values.proofs.TokenBounds.{tokens_left_step}

module _ (test : List ℕ → Bool) where
  word_in : Token × List ℕ → Bool
  word_in found = is_word test found.0

  number_no_word : (c : Bool) (digits rest : List ℕ) → word_in (cond c (token.Stray, rest) (token.Number digits, rest)) ≡ false
  unfolding word_in
  number_no_word true digits rest = refl
  number_no_word false digits rest = refl

  text_no_word : (found : Option (List ℕ × List ℕ)) → word_in (text_token found) ≡ false
  unfolding word_in
  text_no_word None = refl
  text_no_word (Some p) = refl

  one_no_word : (s : Option Symbol) (bs : List ℕ) → word_in (one_byte_token s bs) ≡ false
  unfolding word_in
  one_no_word None bs = refl
  one_no_word (Some s) bs = refl

  or_no_word : (s : Option Symbol) (b : ℕ) (bs : List ℕ) → word_in (symbol_token_or s b bs) ≡ false
  unfolding word_in
  or_no_word (Some s) b bs = refl
  or_no_word None b bs = one_no_word (byte_symbol b) bs

  symbol_no_word : (b : ℕ) (bs : List ℕ) → word_in (symbol_token b bs) ≡ false
  symbol_no_word b [] = one_no_word (byte_symbol b) []
  symbol_no_word b (c ∷ cs) = or_no_word (pair_symbol b c) b (c ∷ cs)

  word_cases : (word digit quote : Bool) (w rest : List ℕ) (x y z : Token × List ℕ) → word_in x ≡ false → word_in y ≡ false → word_in z ≡ false →
      word_in (cond word (token.Word w, rest) (cond digit x (cond quote y z))) ≡ (word && test w)
  unfolding word_in
  word_cases true digit quote w rest x y z p q r = refl
  word_cases false true quote w rest x y z p q r = p
  word_cases false false true w rest x y z p q r = q
  word_cases false false false w rest x y z p q r = r

  -- a token is a word where it begins like one
  first_word : (b : ℕ) (bs : List ℕ) → is_word test (token_from b bs).0 ≡ (starts_word b && test (take_while in_word (b ∷ bs)))
  unfolding word_in
  first_word b bs =
      word_cases (starts_word b) (is_ascii_digit b) (b == 39) (take_while in_word (b ∷ bs)) (drop (prefix_len in_word (b ∷ bs)) (b ∷ bs))
      (number_token (take_while is_ascii_digit (b ∷ bs)) (drop (prefix_len is_ascii_digit (b ∷ bs)) (b ∷ bs)))
      (text_token (string_within (length bs + 1) bs)) (symbol_token b bs)
      (number_no_word (word_begins (drop (prefix_len is_ascii_digit (b ∷ bs)) (b ∷ bs))) (take_while is_ascii_digit (b ∷ bs)) (drop (prefix_len is_ascii_digit (b ∷ bs)) (b ∷ bs)))
      (text_no_word (string_within (length bs + 1) bs)) (symbol_no_word b bs)

-- no token, no data
pub takes_data_none : (text : List ℕ) → behind is_space false text ≡ [] → takes_data text ≡ false
takes_data_none text none = rw (tokens_left_step (length text) text, none) refl

-- data follows a text that begins with INSERT
pub takes_data_first : (text : List ℕ) (b : ℕ) (bs : List ℕ) → behind is_space false text ≡ b ∷ bs → takes_data text ≡ (starts_word b && is_keyword (codes "INSERT") (take_while in_word (b ∷ bs)))
takes_data_first text b bs some = rw (tokens_left_step (length text) text, some) (first_word (is_keyword (codes "INSERT")) b bs)
