-- Each token of a text takes at least one byte, so a bound on their number cuts none off, and tokens are read one by one.
use Rattle.std.proofs.Common.{◌≡◌, ℕ, ◌+◌, ◌-◌, ◌<◌, ◌≤◌, Bool, true, false, cond, ◌||◌, ◌==◌, List, [], ◌∷◌, length, drop, take_while, refl, ap, sym, arith, add-one, zero, suc, Option, Some, None, length-drop}
use Rattle.std.specs.List.{prefix_len}
use Rattle.std.specs.Option.{option_map, option_and_then}
use Rattle.std.specs.Int.{is_in_range}
use Rattle.std.specs.Char.{is_ascii_digit}
use Rattle.mt_values.specs.declared.token.Placed.{Placed}
use Rattle.mt_values.specs.declared.token.Symbol.{Symbol}
use Rattle.mt_values.specs.declared.token.Token.{Token}
use Rattle.mt_values.specs.declared.token.Token.TheVariants as token
use Rattle.mt_values.specs.Escapes.{escape_byte, escape_of, hex_pair, hex_byte, hex_digit}
use Rattle.mt_values.specs.Tokens.{behind, is_space, begins_with, starts_word, in_word, word_begins, number_token, byte_onto, escape_onto, quote_behind, string_within, text_token, pair_symbol, byte_symbol, one_byte_token, symbol_token_or, symbol_token, token_from, unless_stray, tokens_from, tokens_within}
use Rattle.mt_values.proofs.Bounds.{ShorterThan, behind_short}

also_in : (digit upper lower under : Bool) → (upper || lower) || under ≡ true → ((digit || upper) || lower) || under ≡ true
also_in true upper lower under h = refl
also_in false upper lower under h = h

word_goes_on : (b : ℕ) → starts_word b ≡ true → in_word b ≡ true
word_goes_on b h = also_in (is_in_range 48 57 b) (is_in_range 65 90 b) (is_in_range 97 122 b) (b == 95) h

some_passes : (c : Bool) (n : ℕ) → c ≡ true → 0 < cond c (1 + n) 0
some_passes true n h = omega arith
some_passes false n h = cc

-- ---- escapes and strings

pair_shorter : (b : Option ℕ) (n : ℕ) (bs : List ℕ) → length bs < n → ShorterThan n (option_map (λ c. (c, bs)) b)
pair_shorter None n bs less = tt
pair_shorter (Some b) n bs less = less

hex_shorter : (bs : List ℕ) → ShorterThan (suc (length bs)) (hex_pair bs)
hex_shorter [] = tt
hex_shorter (h ∷ []) = tt
hex_shorter (h ∷ l ∷ bs) = pair_shorter (hex_byte (hex_digit h) (hex_digit l)) (suc (length (h ∷ l ∷ bs))) bs (omega arith)

escape_cases : (hex none : Bool) (c : ℕ) (bs : List ℕ) → ShorterThan (suc (length bs)) (cond hex (hex_pair bs) (cond none None (Some (c, bs))))
escape_cases true none c bs = hex_shorter bs
escape_cases false true c bs = tt
escape_cases false false c bs = omega arith

-- an escape takes at least one byte
pub escape_shorter : (bs : List ℕ) → ShorterThan (length bs) (escape_of bs)
escape_shorter [] = tt
escape_shorter (c ∷ bs) = rw (sym (suc_length c bs)) (escape_cases (c == 120) (c == 78) (escape_byte c) bs)
  where
    suc_length : (c : ℕ) (bs : List ℕ) → suc (length bs) ≡ length (c ∷ bs)
    suc_length c bs = omega arith

onto_less : (n m b : ℕ) (found : Option (List ℕ × List ℕ)) → m ≤ n → ShorterThan m found → ShorterThan n (byte_onto b found)
onto_less n m b None most less = tt
onto_less n m b (Some p) most less = omega arith

escape_less : (n m : ℕ) (f : List ℕ → Option (List ℕ × List ℕ)) (found : Option (ℕ × List ℕ)) → m ≤ n → ShorterThan m found → ((rest : List ℕ) → ShorterThan (length rest) (f rest)) → ShorterThan n (option_and_then (escape_onto f) found)
escape_less n m f None most less short = tt
escape_less n m f (Some p) most less short = onto_less n (length p.1) p.0 (f p.1) (omega arith) (short p.1)

quote_less : (c : Bool) (n : ℕ) (f : List ℕ → Option (List ℕ × List ℕ)) (bs : List ℕ) → length bs < n → ((rest : List ℕ) → ShorterThan (length rest) (f rest)) → ShorterThan n (cond c (byte_onto 39 (f (drop 1 bs))) (Some ([], bs)))
quote_less true n f bs less short = onto_less n (length (drop 1 bs)) 39 (f (drop 1 bs)) (omega (arith, length-drop 1 bs)) (short (drop 1 bs))
quote_less false n f bs less short = less

string_cases : (quote slash : Bool) (n : ℕ) (x y z : Option (List ℕ × List ℕ)) → ShorterThan n x → ShorterThan n y → ShorterThan n z → ShorterThan n (cond quote x (cond slash y z))
string_cases true slash n x y z p q r = p
string_cases false true n x y z p q r = q
string_cases false false n x y z p q r = r

-- a string takes at least its quote
pub string_shorter : (n : ℕ) (text : List ℕ) → ShorterThan (length text) (string_within n text)
string_shorter zero text = tt
string_shorter (suc n) [] = tt
string_shorter (suc n) (b ∷ bs) =
    string_cases (b == 39) (b == 92) (length (b ∷ bs)) (quote_behind (string_within n) bs) (option_and_then (escape_onto (string_within n)) (escape_of bs)) (byte_onto b (string_within n bs))
    (quote_less (begins_with 39 bs) (length (b ∷ bs)) (string_within n) bs (omega arith) (string_shorter n))
    (escape_less (length (b ∷ bs)) (length bs) (string_within n) (escape_of bs) (omega arith) (escape_shorter bs) (string_shorter n))
    (onto_less (length (b ∷ bs)) (length bs) b (string_within n bs) (omega arith) (string_shorter n bs))

-- ---- tokens

-- what follows a token is shorter than this
abbrev pub Leaves : ℕ → Token × List ℕ → Type 0
Leaves n found = length found.1 < n

number_leaves : (c : Bool) (n : ℕ) (digits rest : List ℕ) → length rest < n → Leaves n (cond c (token.Stray, rest) (token.Number digits, rest))
number_leaves true n digits rest less = less
number_leaves false n digits rest less = less

text_leaves : (n m : ℕ) (found : Option (List ℕ × List ℕ)) → 0 < n → m ≤ n → ShorterThan m found → Leaves n (text_token found)
text_leaves n m None some most less = some
text_leaves n m (Some p) some most less = omega arith

one_leaves : (s : Option Symbol) (n : ℕ) (bs : List ℕ) → length bs < n → Leaves n (one_byte_token s bs)
one_leaves None n bs less = less
one_leaves (Some s) n bs less = less

or_leaves : (s : Option Symbol) (b n : ℕ) (bs : List ℕ) → length bs < n → Leaves n (symbol_token_or s b bs)
or_leaves (Some s) b n bs less = omega (arith, length-drop 1 bs)
or_leaves None b n bs less = one_leaves (byte_symbol b) n bs less

symbol_leaves : (b n : ℕ) (bs : List ℕ) → length bs < n → Leaves n (symbol_token b bs)
symbol_leaves b n [] less = one_leaves (byte_symbol b) n [] less
symbol_leaves b n (c ∷ cs) less = or_leaves (pair_symbol b c) b n (c ∷ cs) less

token_cases : (word digit quote : Bool) (n : ℕ) (x y z w : Token × List ℕ) → (word ≡ true → Leaves n x) → (digit ≡ true → Leaves n y) → Leaves n z → Leaves n w → Leaves n (cond word x (cond digit y (cond quote z w)))
token_cases true digit quote n x y z w p q r s = p refl
token_cases false true quote n x y z w p q r s = q refl
token_cases false false true n x y z w p q r s = r
token_cases false false false n x y z w p q r s = s

-- a token takes at least one byte
pub token_leaves : (b : ℕ) (bs : List ℕ) → Leaves (length (b ∷ bs)) (token_from b bs)
token_leaves b bs =
    token_cases (starts_word b) (is_ascii_digit b) (b == 39) (length (b ∷ bs))
    (token.Word (take_while in_word (b ∷ bs)), drop (prefix_len in_word (b ∷ bs)) (b ∷ bs))
    (number_token (take_while is_ascii_digit (b ∷ bs)) (drop (prefix_len is_ascii_digit (b ∷ bs)) (b ∷ bs)))
    (text_token (string_within (length bs + 1) bs))
    (symbol_token b bs)
    (λ e. let some : 0 < prefix_len in_word (b ∷ bs) = some_passes (in_word b) (prefix_len in_word bs) (word_goes_on b e) in omega (arith, length-drop (prefix_len in_word (b ∷ bs)) (b ∷ bs)))
    (λ e.
    let some : 0 < prefix_len is_ascii_digit (b ∷ bs) = some_passes (is_ascii_digit b) (prefix_len is_ascii_digit bs) e in
    let rest = drop (prefix_len is_ascii_digit (b ∷ bs)) (b ∷ bs) in
    number_leaves (word_begins rest) (length (b ∷ bs)) (take_while is_ascii_digit (b ∷ bs)) rest (omega (arith, length-drop (prefix_len is_ascii_digit (b ∷ bs)) (b ∷ bs))))
    (text_leaves (length (b ∷ bs)) (length bs) (string_within (length bs + 1) bs) (omega arith) (omega arith) (string_shorter (length bs + 1) bs))
    (symbol_leaves b (length (b ∷ bs)) bs (omega arith))

unless_stray_same : (f g : List ℕ → List Placed) (k : ℕ) (t : Token) (rest : List ℕ) → length rest < k → ((rest : List ℕ) → length rest < k → f rest ≡ g rest) → unless_stray f (t, rest) ≡ unless_stray g (t, rest)
unless_stray_same f g k token.Stray rest less same = refl
unless_stray_same f g k (token.Word w) rest less same = same rest less
unless_stray_same f g k (token.Number n) rest less same = same rest less
unless_stray_same f g k (token.Text t) rest less same = same rest less
unless_stray_same f g k (token.Symbol s) rest less same = same rest less

tokens_from_same : (f g : List ℕ → List Placed) (size : ℕ) (text : List ℕ) → ((rest : List ℕ) → length rest < length text → f rest ≡ g rest) → tokens_from f size text ≡ tokens_from g size text
tokens_from_same f g size [] same = refl
tokens_from_same f g size (b ∷ bs) same =
    ap (λ (ps : List Placed). record { at = size - length (b ∷ bs); token = (token_from b bs).0 } ∷ ps) (unless_stray_same f g (length (b ∷ bs)) (token_from b bs).0 (token_from b bs).1 (token_leaves b bs) same)

pub tokens_same : (n m size : ℕ) (text : List ℕ) → length text < n → length text < m → tokens_within n size text ≡ tokens_within m size text
tokens_same zero m size text low high = absurd (omega arith)
tokens_same (suc n) zero size text low high = absurd (omega arith)
tokens_same (suc n) (suc m) size text low high =
    let short = behind_short is_space false text in
    tokens_from_same (tokens_within n size) (tokens_within m size) size (behind is_space false text) (λ rest less. tokens_same n m size rest (omega arith) (omega arith))

-- the tokens of what is left of a text of this size
abbrev pub tokens_left : ℕ → List ℕ → List Placed
tokens_left size text = tokens_within (length text + 1) size text

-- they are its first one and those of what comes after it
pub tokens_left_step : (size : ℕ) (text : List ℕ) → tokens_left size text ≡ tokens_from (tokens_left size) size (behind is_space false text)
tokens_left_step size text =
    let short = behind_short is_space false text in
    rw add-one (tokens_from_same (tokens_within (length text) size) (tokens_left size) size (behind is_space false text) (λ rest less. tokens_same (length text) (length rest + 1) size rest (omega arith) (omega arith)))
