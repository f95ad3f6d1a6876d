-- Which words begin with dashes, and what stands before an `=`.
use Rattle.std.proofs.Common.{◌≡◌, ◌∙◌, ◌+◌, ◌<◌, ◌&&◌, ◌||◌, ◌⊎◌, inl, inr, ℕ, zero, suc, Bool, true, false, cond, not, refl, sym, ap, subst, arith, List, [], ◌∷◌, ◌++◌, take, drop, length, codes, Option, Some, None, IsUtf8, bytes_eq, find, chars, encode_utf8, encode_utf8_all, slice_get, option_and_then, eqb-true, ne_eqb, true≢false, eqb, T}
use Rattle.std.proofs.Math.Facts.{yes_eqb}
use Rattle.std.specs.List.{after_first, before_first, list_any, prefix_len}
use Rattle.std.proofs.lemmas.Slice.Eq.{bytes_eq-Decides}
use Rattle.std.proofs.lemmas.Str.{chars_past_char, encode_ascii, encodes-chars}
use Rattle.clap.specs.Lexer.{long_of, long_of_rest, short_of, short_of_rest, strip_byte}
use Rattle.command_line.specs.Words.{Given, is_equals, is_given, is_two_dashes, is_value, named, names, options_of, with_option}

-- ---- before an `=`

one_more : (n : ℕ) → 1 + n ≡ suc n
one_more n = omega arith

-- past two dashes the first `=` is that of the rest
pub before_dashes : (rest : List ℕ) → before_first is_equals (45 ∷ 45 ∷ rest) ≡ 45 ∷ 45 ∷ before_first is_equals rest
before_dashes rest =
    let n = prefix_len (λ x. not (is_equals x)) rest in
    let two : 1 + (1 + n) ≡ suc (suc n) = omega arith in
    ap (λ k. take k (45 ∷ 45 ∷ rest)) two

pub after_dashes : (rest : List ℕ) → after_first is_equals (45 ∷ 45 ∷ rest) ≡ after_first is_equals rest
after_dashes rest =
    let n = prefix_len (λ x. not (is_equals x)) rest in
    let two : 1 + (1 + n) + 1 ≡ suc (suc (n + 1)) = omega arith in
    ap (λ k. drop k (45 ∷ 45 ∷ rest)) two

before_step : (b : ℕ) (bs : List ℕ) → (list_any is_equals bs ≡ false → before_first is_equals bs ≡ bs) → list_any is_equals (b ∷ bs) ≡ false → before_first is_equals (b ∷ bs) ≡ b ∷ bs
before_step b bs next none = go (is_equals b) refl
  where
    go : (e : Bool) → is_equals b ≡ e → before_first is_equals (b ∷ bs) ≡ b ∷ bs
    go true is = absurd (true≢false (sym (ap (λ x. x || list_any is_equals bs) is) ∙ none))
    go false is =
        ap (λ x. take (cond (not x) (1 + prefix_len (λ y. not (is_equals y)) bs) 0) (b ∷ bs)) is ∙ ap (λ k. take k (b ∷ bs)) (one_more (prefix_len (λ y. not (is_equals y)) bs))
        ∙ ap (λ xs. b ∷ xs) (next (sym (ap (λ x. x || list_any is_equals bs) is) ∙ none))

-- all stands before the first `=` where there is none
pub before_none : (word : List ℕ) → list_any is_equals word ≡ false → before_first is_equals word ≡ word
before_none [] none = refl
before_none (b ∷ bs) none = before_step b bs (before_none bs) none

-- ---- names that do not begin with two dashes

abbrev pub two_dashes : List ℕ → Bool
two_dashes (a ∷ b ∷ rest) = eqb a 45 && eqb b 45
two_dashes word = false

flipped : (a b : ℕ) → eqb a b ≡ false → eqb b a ≡ false
flipped a b e = ne_eqb b a (λ same. subst T e (yes_eqb (sym same)))

both_false : (x y z : Bool) → (x && y) ≡ false → (x && (y && z)) ≡ false
both_false false y z e = refl
both_false true false z e = refl
both_false true true z e = absurd (true≢false e)

and_false : (x : Bool) → (x && false) ≡ false
and_false true = refl
and_false false = refl

not_both : (a b : ℕ) → (eqb a 45 && eqb b 45) ≡ false → (eqb 45 a && eqb 45 b) ≡ false
not_both a b e = go (eqb a 45) refl
  where
    go : (x : Bool) → eqb a 45 ≡ x → (eqb 45 a && eqb 45 b) ≡ false
    go false is = ap (λ x. x && eqb 45 b) (flipped a 45 is)
    go true is =
        let second : eqb b 45 ≡ false = sym (ap (λ x. x && eqb b 45) is) ∙ e in
        ap (λ y. eqb 45 a && y) (flipped b 45 second) ∙ and_false (eqb 45 a)

other_name : (name word : List ℕ) → two_dashes word ≡ false → bytes_eq (45 ∷ 45 ∷ name) word ≡ false
other_name name [] e = refl
other_name name (a ∷ []) e = and_false (eqb 45 a)
other_name name (a ∷ b ∷ rest) e = both_false (eqb 45 a) (eqb 45 b) _ (not_both a b e)

no_name : (ns : List (List ℕ)) (word : List ℕ) → two_dashes word ≡ false → find (λ name. bytes_eq (45 ∷ 45 ∷ name) word) ns ≡ None
no_name [] word e = refl
no_name (n ∷ ns) word e = ap (λ b. cond b (Some n) (find (λ name. bytes_eq (45 ∷ 45 ∷ name) word) ns)) (other_name n word e) ∙ no_name ns word e

-- such a word names no option
pub no_option : (word : List ℕ) → two_dashes word ≡ false → named word ≡ None
no_option word e = no_name names word e

taken : (n : ℕ) (word : List ℕ) → two_dashes word ≡ false → two_dashes (take n word) ≡ false
taken zero word e = refl
taken (suc n) [] e = refl
taken (suc n) (a ∷ []) e = go n
  where
    go : (k : ℕ) → two_dashes (a ∷ take k []) ≡ false
    go zero = refl
    go (suc k) = refl
taken (suc zero) (a ∷ b ∷ rest) e = refl
taken (suc (suc n)) (a ∷ b ∷ rest) e = e

-- ---- words that name no option

none_twice : {X : Type 0} (b : Bool) (o : Option X) → o ≡ None → cond b o None ≡ None
none_twice true o none = none
none_twice false o none = refl

-- what the words after an option give
abbrev pub then : List (List ℕ) → Option Given → Option Given
then words = option_and_then (λ more. options_of more None words)

none_with : (word value : List ℕ) (given : Given) → named word ≡ None → with_option word value given ≡ None
none_with word value given unknown = ap (option_and_then (λ name. cond (is_given name given) None (Some (given ++ (name, value) ∷ [])))) unknown

pub none_set : (word value : List ℕ) (given : Given) (words : List (List ℕ)) → named word ≡ None → then words (with_option word value given) ≡ None
none_set word value given words unknown = ap (then words) (none_with word value given unknown)

pub none_named : (word : List ℕ) (given : Given) (words : List (List ℕ)) → named word ≡ None → options_of given (Some word) words ≡ None
none_named word given [] unknown = refl
none_named word given (value ∷ words) unknown = none_twice (is_value value) _ (none_set word value given words unknown)

-- a word that does not begin with two dashes is no option
pub not_an_option : (given : Given) (word : List ℕ) (words : List (List ℕ)) → two_dashes word ≡ false → options_of given None (word ∷ words) ≡ None
not_an_option given word words e = go (list_any is_equals word)
  where
    go : (b : Bool) → cond b (then words (with_option (before_first is_equals word) (after_first is_equals word) given)) (options_of given (Some word) words) ≡ None
    go true = none_set (before_first is_equals word) (after_first is_equals word) given words (no_option (before_first is_equals word) (taken _ word e))
    go false = none_named word given words (no_option word e)

-- ---- the sorts of words

-- the word is no flag, and may be a value
pub record IsPlain (word : List ℕ) : Type 0 where
  pub other : is_two_dashes word ≡ false
  pub long : long_of word ≡ None
  pub short : short_of word ≡ None
  pub value : is_value word ≡ true
  pub no_name : two_dashes word ≡ false

-- the word is one dash and more, of which the first is a character
pub record IsShort (word : List ℕ) : Type 0 where
  pub flags : List ℕ
  pub char : ℕ
  pub other : is_two_dashes word ≡ false
  pub long : long_of word ≡ None
  pub short : short_of word ≡ Some flags
  pub is_first : Some char ≡ slice_get (chars flags) 0
  pub some : 0 < length flags
  pub value : is_value word ≡ false
  pub no_name : two_dashes word ≡ false

-- the word is two dashes and more
abbrev pub IsLong : List ℕ → Type 0
IsLong word = (first : ℕ) × (rest : List ℕ) × (word ≡ 45 ∷ 45 ∷ first ∷ rest)

abbrev pub Sort : List ℕ → Type 0
Sort word = IsPlain word ⊎ (IsShort word ⊎ IsLong word)

has_char : (b : ℕ) (bs : List ℕ) → IsUtf8 (45 ∷ b ∷ bs) → (c : ℕ) × (Some c ≡ slice_get (chars (b ∷ bs)) 0)
has_char b bs utf8 = go (chars (b ∷ bs)) refl
  where
    all : List ℕ
    all = 45 ∷ b ∷ bs

    dash : encode_utf8 45 ≡ 45 ∷ []
    dash = encode_ascii 45 (omega arith)

    past : chars (45 ∷ b ∷ bs) ≡ 45 ∷ chars (b ∷ bs)
    past = chars_past_char (45 ∷ b ∷ bs) (b ∷ bs) 45 utf8 (ap (λ xs. xs ++ b ∷ bs) (sym dash))

    go : (cs : List ℕ) → chars (b ∷ bs) ≡ cs → (c : ℕ) × (Some c ≡ slice_get cs 0)
    go (c ∷ cs) is = (c, refl)
    go [] is =
        let back : encode_utf8_all (45 ∷ []) ≡ 45 ∷ b ∷ bs = sym (ap encode_utf8_all (past ∙ ap (λ xs. 45 ∷ xs) is)) ∙ encodes-chars (45 ∷ b ∷ bs) utf8 in
        let short : encode_utf8_all (45 ∷ []) ≡ 45 ∷ [] = ap (λ xs. xs ++ []) dash in
        absurd (omega (arith, ap length (sym short ∙ back)))

plain_empty : IsPlain []
plain_empty = record { other = refl; long = refl; short = refl; value = refl; no_name = refl }

plain_dash : IsPlain (45 ∷ [])
plain_dash = record { other = refl; long = refl; short = refl; value = refl; no_name = refl }

plain_other : (b : ℕ) (bs : List ℕ) → is_two_dashes (b ∷ bs) ≡ false → eqb b 45 ≡ false → IsPlain (b ∷ bs)
plain_other b bs other e = record {
  other = other;
  long = ap (λ x. option_and_then long_of_rest (option_and_then (strip_byte 45) (cond x (Some bs) None))) e;
  short = ap (λ x. option_and_then short_of_rest (cond x (Some bs) None)) e;
  value = go bs;
  no_name = name bs;
}
  where
    go : (xs : List ℕ) → is_value (b ∷ xs) ≡ true
    go [] = refl
    go (x ∷ xs) = ap not e

    name : (xs : List ℕ) → two_dashes (b ∷ xs) ≡ false
    name [] = refl
    name (x ∷ xs) = ap (λ y. y && eqb x 45) e

short_word : (c : ℕ) (cs : List ℕ) → IsUtf8 (45 ∷ c ∷ cs) → is_two_dashes (45 ∷ c ∷ cs) ≡ false → eqb c 45 ≡ false → IsShort (45 ∷ c ∷ cs)
short_word c cs utf8 other e =
    let first = has_char c cs utf8 in
    record {
      flags = c ∷ cs;
      char = first.0;
      other = other;
      long = ap (λ x. option_and_then long_of_rest (cond x (Some cs) None)) e;
      short = ap (λ x. cond x None (Some (c ∷ cs))) e;
      is_first = first.1;
      some = omega arith;
      value = refl;
      no_name = e;
    }

second_dash : (d : ℕ) (ds : List ℕ) (x : Bool) → eqb d 45 ≡ x → IsUtf8 (45 ∷ d ∷ ds) → is_two_dashes (45 ∷ d ∷ ds) ≡ false → Sort (45 ∷ d ∷ ds)
second_dash d ds false e utf8 other = inr (inl (short_word d ds utf8 other e))
second_dash d [] true e utf8 other = absurd (true≢false (sym (ap (λ x. x && true) e) ∙ other))
second_dash d (f ∷ fs) true e utf8 other = inr (inr (f, fs, ap (λ z. 45 ∷ z ∷ f ∷ fs) (eqb-true d 45 e)))

after_dash : (cs : List ℕ) → IsUtf8 (45 ∷ cs) → is_two_dashes (45 ∷ cs) ≡ false → Sort (45 ∷ cs)
after_dash [] utf8 other = inl plain_dash
after_dash (d ∷ ds) utf8 other = second_dash d ds (eqb d 45) refl utf8 other

first_dash : (b : ℕ) (bs : List ℕ) (x : Bool) → eqb b 45 ≡ x → IsUtf8 (b ∷ bs) → is_two_dashes (b ∷ bs) ≡ false → Sort (b ∷ bs)
first_dash b bs false e utf8 other = inl (plain_other b bs other e)
first_dash b bs true e utf8 other =
    subst (λ z. IsUtf8 (z ∷ bs) → is_two_dashes (z ∷ bs) ≡ false → Sort (z ∷ bs)) (sym (eqb-true b 45 e)) (after_dash bs) utf8 other

pub sort : (word : List ℕ) → IsUtf8 word → is_two_dashes word ≡ false → Sort word
sort [] utf8 other = inl plain_empty
sort (b ∷ bs) utf8 other = first_dash b bs (eqb b 45) refl utf8 other

-- ---- two dashes alone

none_both : {X : Type 0} (b : Bool) (x y : Option X) → x ≡ None → y ≡ None → cond b x y ≡ None
none_both true x y one other = one
none_both false x y one other = other

none_then : (rest : List (List ℕ)) → ((given : Given) (waits : Option (List ℕ)) → options_of given waits rest ≡ None) → (o : Option Given) → then rest o ≡ None
none_then rest next None = refl
none_then rest next (Some given) = next given None

dashes_here : (given : Given) (waits : Option (List ℕ)) (rest : List (List ℕ)) → options_of given waits (codes "--" ∷ rest) ≡ None
dashes_here given None rest = none_named (codes "--") given rest refl
dashes_here given (Some option) rest = refl

dashes_more : (word : List ℕ) (rest : List (List ℕ)) → ((given : Given) (waits : Option (List ℕ)) → options_of given waits rest ≡ None) → (given : Given) (waits : Option (List ℕ)) → options_of given waits (word ∷ rest) ≡ None
dashes_more word rest next given None =
    none_both (list_any is_equals word) _ (options_of given (Some word) rest)
    (none_then rest next (with_option (before_first is_equals word) (after_first is_equals word) given)) (next given (Some word))
dashes_more word rest next given (Some option) = none_both (is_value word) _ None (none_then rest next (with_option option word given)) refl

dashes_step : (word : List ℕ) (rest : List (List ℕ)) → (list_any is_two_dashes rest ≡ true → (given : Given) (waits : Option (List ℕ)) → options_of given waits rest ≡ None)
    → list_any is_two_dashes (word ∷ rest) ≡ true → (given : Given) (waits : Option (List ℕ)) → options_of given waits (word ∷ rest) ≡ None
dashes_step word rest next e given waits = go (is_two_dashes word) refl
  where
    go : (b : Bool) → is_two_dashes word ≡ b → options_of given waits (word ∷ rest) ≡ None
    go true is = subst (λ w. options_of given waits (w ∷ rest) ≡ None) (sym ((bytes_eq-Decides word (codes "--")).0 is)) (dashes_here given waits rest)
    go false is = dashes_more word rest (next (sym (ap (λ b. b || list_any is_two_dashes rest) is) ∙ e)) given waits

-- words with two dashes alone among them give nothing
pub dashes_none : (words : List (List ℕ)) → list_any is_two_dashes words ≡ true → (given : Given) (waits : Option (List ℕ)) → options_of given waits words ≡ None
dashes_none [] e = absurd (true≢false (sym e))
dashes_none (word ∷ rest) e = dashes_step word rest (dashes_none rest) e
