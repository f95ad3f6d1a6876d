-- The tokens of a text, one at a time.
use Rattle.std.proofs.Common.{◌≡◌, ℕ, ◌-◌, ◌+◌, ◌<◌, ◌≤◌, ◌==◌, true, false, eqb, get_or, drop, List, [], ◌∷◌, ◌++◌, length, refl, arith, ◌∙◌, sym, ap, append_assoc}
use Rattle.std.specs.Char.{is_ascii_digit}
use Rattle.mt_values.specs.declared.token.Placed.{Placed}
use Rattle.mt_values.specs.declared.token.Token.{Token}
use Rattle.mt_values.specs.declared.token.Token.TheVariants as token
use Rattle.mt_values.specs.Tokens.{behind, is_space, starts_word, string_within, symbol_token, text_token, token_from, unless_stray, tokens_from, tokens_of}
use Rattle.mt_values.proofs.Bounds.{behind_short}
use Rattle.mt_values.proofs.TokenBounds.{tokens_left, tokens_left_step, token_leaves}
use Rattle.sql_read.specs.FirstTokens.{digits_token, first_token, word_token}

-- the tokens of what is left of a text of this size, whose first token stands first
abbrev pub tokens_here : ℕ → List ℕ → List Placed
tokens_here size rest = tokens_from (tokens_left size) size rest

-- nothing was read yet
pub tokens_start : (text : List ℕ) → [] ++ tokens_here (length text) (behind is_space false text) ≡ tokens_of text
tokens_start text = sym (tokens_left_step (length text) text)

pub some_bytes : (text : List ℕ) → eqb (length text) 0 ≡ false → 0 < length text
some_bytes [] e = cc
some_bytes (b ∷ bs) e = omega arith

behind_token : (size : ℕ) (t : Token) (more : List ℕ) → (t ≡ token.Stray → ⊥) → unless_stray (tokens_left size) (t, more) ≡ tokens_here size (behind is_space false more)
behind_token size token.Stray more usual = absurd (usual refl)
behind_token size (token.Word w) more usual = tokens_left_step size more
behind_token size (token.Number n) more usual = tokens_left_step size more
behind_token size (token.Text t) more usual = tokens_left_step size more
behind_token size (token.Symbol s) more usual = tokens_left_step size more

module _ (front : List Placed) (size : ℕ) (t : Token) (rest more : List ℕ) (some : 0 < length rest) (found : (t, more) ≡ first_token rest) where
  here : Placed
  here = record { at = size - length rest; token = t }

  tokens_by : tokens_here size rest ≡ here ∷ unless_stray (tokens_left size) (t, more)
  unfolding here
  tokens_by = by rest some found
    where
      by : (r : List ℕ) → 0 < length r → (t, more) ≡ first_token r → tokens_here size r ≡ record { at = size - length r; token = t } ∷ unless_stray (tokens_left size) (t, more)
      by [] some found = absurd (omega arith)
      by (b ∷ bs) some found = ap (λ (f : Token × List ℕ). record { at = size - length (b ∷ bs); token = f.0 } ∷ unless_stray (tokens_left size) f) (sym found)

  -- one more token was read
  pub tokens_more : (t ≡ token.Stray → ⊥) → (front ++ record { at = size - length rest; token = t } ∷ []) ++ tokens_here size (behind is_space false more) ≡ front ++ tokens_here size rest
  unfolding here
  tokens_more usual =
      append_assoc front (here ∷ []) (tokens_here size (behind is_space false more))
      ∙ ap (λ (ps : List Placed). front ++ ps) (ap (λ (ps : List Placed). here ∷ ps) (sym (behind_token size t more usual)) ∙ sym tokens_by)

  -- a token takes at least one byte
  pub token_shorter : length (behind is_space false more) < length rest
  token_shorter = by rest some found
    where
      by : (r : List ℕ) → 0 < length r → (t, more) ≡ first_token r → length (behind is_space false more) < length r
      by [] some found = absurd (omega arith)
      by (b ∷ bs) some found = let same : more ≡ (token_from b bs).1 = ap (λ (f : Token × List ℕ). f.1) found in omega (arith, token_leaves b bs, ap (length {A = ℕ}) same, behind_short is_space false more)

-- ---- the first token, by its first byte

pub first_word : (text : List ℕ) → 1 ≤ length text → starts_word (get_or text 0 0) ≡ true → word_token text ≡ first_token text
first_word [] some is = absurd (omega arith)
first_word (b ∷ bs) some is = rw is refl

pub first_digits : (text : List ℕ) → 1 ≤ length text → starts_word (get_or text 0 0) ≡ false → is_ascii_digit (get_or text 0 0) ≡ true → digits_token text ≡ first_token text
first_digits [] some no_word is = absurd (omega arith)
first_digits (b ∷ bs) some no_word is = rw (no_word, is) refl

pub first_quoted : (text : List ℕ) → 1 ≤ length text → starts_word (get_or text 0 0) ≡ false → is_ascii_digit (get_or text 0 0) ≡ false → get_or text 0 0 ≡ 39 →
    text_token (string_within (length (drop 1 text) + 1) (drop 1 text)) ≡ first_token text
first_quoted [] some no_word no_digit is = absurd (omega arith)
first_quoted (b ∷ bs) some no_word no_digit is = rw (no_word, no_digit, is) refl

pub first_symbol : (text : List ℕ) → 1 ≤ length text → starts_word (get_or text 0 0) ≡ false → is_ascii_digit (get_or text 0 0) ≡ false → (get_or text 0 0 == 39) ≡ false →
    symbol_token (get_or text 0 0) (drop 1 text) ≡ first_token text
first_symbol [] some no_word no_digit no_quote = absurd (omega arith)
first_symbol (b ∷ bs) some no_word no_digit no_quote = rw (no_word, no_digit, no_quote) refl
