-- Single tokens of the grammar, and what follows them, tell their first faults.
use Rattle.std.proofs.Common.{◌≡◌, ℕ, suc, Bool, true, false, cond, List, [], Result, Ok, Err, refl, arith, ap, codes}
use Rattle.mt_values.specs.declared.engine.Aggregate.TheVariants as aggregate
use Rattle.mt_values.specs.declared.statement.Slip.{Slip}
use Rattle.mt_values.specs.declared.statement.Slip.TheVariants as slip
use Rattle.mt_values.specs.declared.token.Symbol.{Symbol}
use Rattle.mt_values.specs.declared.token.Symbol.TheVariants as symbol
use Rattle.mt_values.specs.declared.token.Token.{Token}
use Rattle.mt_values.specs.declared.token.Token.TheVariants as token
use Rattle.mt_values.specs.declared.value.ColType.{ColType}
use Rattle.mt_values.specs.declared.value.ColType.TheVariants as type
use Rattle.mt_values.specs.Grammar.{comparison_of, ends, exactly, function, function_named, is_symbol, is_word, keyword, name, number, one_name, operator, passing, plain, same_bytes, string, the, type_named}
use Rattle.mt_values.specs.Readers.{Reader, Test, choose, done, expect}
use Rattle.mt_values.specs.Tokens.{is_keyword}
use Rattle.sql_read.proofs.Faults.{Good, NamesTold, OnlyWrong, done_good, name_names, only_wrong_names, passing_names}
use Rattle.sql_read.proofs.FaultParts.{Apart, Live, Sound, SoundItem, Unnamed, choose_other_sound, choose_unnamed, ends_sound, expect_live_sound, expect_sound, expect_unnamed, live_of, passing_unnamed, sound_fewer, unnamed_apart}

-- a choice of what a word says, which else is wrong
said_or : {X : Type 0} (c : Bool) (x : X) (r : Result X Slip) (s : Slip) → (r ≡ Err s → s ≡ slip.Wrong) → cond c (Ok x) r ≡ Err s → s ≡ slip.Wrong
said_or true x r s wrong e = cc
said_or false x r s wrong e = wrong e

none_said : {X : Type 0} (s : Slip) → ◌≡◌ {A = Result X Slip} (Err slip.Wrong) (Err s) → s ≡ slip.Wrong
none_said s e = cc

type_named_wrong : (w : List ℕ) (s : Slip) → type_named w ≡ Err s → s ≡ slip.Wrong
type_named_wrong w s =
    said_or (same_bytes w (codes "UInt8")) type.UInt8 _ s
    (said_or (same_bytes w (codes "UInt16")) type.UInt16 _ s
    (said_or (same_bytes w (codes "UInt32")) type.UInt32 _ s
    (said_or (same_bytes w (codes "UInt64")) type.UInt64 _ s
    (said_or (same_bytes w (codes "Int8")) type.Int8 _ s
    (said_or (same_bytes w (codes "Int16")) type.Int16 _ s
    (said_or (same_bytes w (codes "Int32")) type.Int32 _ s
    (said_or (same_bytes w (codes "Int64")) type.Int64 _ s
    (said_or (same_bytes w (codes "String")) type.Text (Err slip.Wrong) s (none_said s)))))))))

plain_wrong : OnlyWrong plain
plain_wrong (token.Word w) s e = type_named_wrong w s e
plain_wrong (token.Number d) s e = cc
plain_wrong (token.Text t) s e = cc
plain_wrong (token.Symbol y) s e = cc
plain_wrong token.Stray s e = cc

pub plain_names : NamesTold plain
plain_names = only_wrong_names plain plain_wrong

function_named_wrong : (w : List ℕ) (s : Slip) → function_named w ≡ Err s → s ≡ slip.Wrong
function_named_wrong w s =
    said_or (same_bytes w (codes "any")) aggregate.Any _ s
    (said_or (same_bytes w (codes "anyLast")) aggregate.AnyLast _ s
    (said_or (same_bytes w (codes "min")) aggregate.Min _ s
    (said_or (same_bytes w (codes "max")) aggregate.Max _ s
    (said_or (same_bytes w (codes "sum")) aggregate.Sum _ s
    (said_or (same_bytes w (codes "groupBitAnd")) aggregate.BitAnd _ s
    (said_or (same_bytes w (codes "groupBitOr")) aggregate.BitOr _ s
    (said_or (same_bytes w (codes "groupBitXor")) aggregate.BitXor (Err slip.Wrong) s (none_said s))))))))

function_wrong : OnlyWrong function
function_wrong (token.Word w) s e = function_named_wrong w s e
function_wrong (token.Number d) s e = cc
function_wrong (token.Text t) s e = cc
function_wrong (token.Symbol y) s e = cc
function_wrong token.Stray s e = cc

pub function_names : NamesTold function
function_names = only_wrong_names function function_wrong

number_wrong : OnlyWrong number
number_wrong (token.Word w) s e = cc
number_wrong (token.Number d) s e = cc
number_wrong (token.Text t) s e = cc
number_wrong (token.Symbol y) s e = cc
number_wrong token.Stray s e = cc

pub number_names : NamesTold number
number_names = only_wrong_names number number_wrong

string_wrong : OnlyWrong string
string_wrong (token.Word w) s e = cc
string_wrong (token.Number d) s e = cc
string_wrong (token.Text t) s e = cc
string_wrong (token.Symbol y) s e = cc
string_wrong token.Stray s e = cc

pub string_names : NamesTold string
string_names = only_wrong_names string string_wrong

comparison_wrong : (y : Symbol) (s : Slip) → comparison_of y ≡ Err s → s ≡ slip.Wrong
comparison_wrong symbol.Equal s e = cc
comparison_wrong symbol.NotEqual s e = cc
comparison_wrong symbol.Less s e = cc
comparison_wrong symbol.LessOrEqual s e = cc
comparison_wrong symbol.Greater s e = cc
comparison_wrong symbol.GreaterOrEqual s e = cc
comparison_wrong y s e = cc

operator_wrong : OnlyWrong operator
operator_wrong (token.Word w) s e = cc
operator_wrong (token.Number d) s e = cc
operator_wrong (token.Text t) s e = cc
operator_wrong (token.Symbol y) s e = comparison_wrong y s e
operator_wrong token.Stray s e = cc

pub operator_names : NamesTold operator
operator_names = only_wrong_names operator operator_wrong

-- a test that only refuses says of no token that it is too long a name
wrong_short : {X : Type 0} (test : Test X) → OnlyWrong test → (t : Token) → test t ≡ Err slip.LongName → ⊥
wrong_short test wrong t e = apart (wrong t slip.LongName e)
  where
    apart : slip.LongName ≡ slip.Wrong → ⊥
    apart e = cc

pub operator_short : (t : Token) → operator t ≡ Err slip.LongName → ⊥
operator_short = wrong_short operator operator_wrong

pub plain_short : (t : Token) → plain t ≡ Err slip.LongName → ⊥
plain_short = wrong_short plain plain_wrong

-- a name, a number, a string and a type that begin statements below
abbrev pub a_name : Token
a_name = token.Word (codes "t")

abbrev pub a_number : Token
a_number = token.Number (codes "1")

abbrev pub a_string : Token
a_string = token.Text []

abbrev pub a_type : Token
a_type = token.Word (codes "UInt8")

module _ {S : Type 0} (n : ℕ) where
  -- a token that a test passes, and then what follows it
  pub passes_live : (test : Token → Bool) (t : Token) → test t ≡ true → (next : Unit {0} → Reader S) → Live n (next tt) → Sound n (expect (λ t. passing (test t)) next) t
  passes_live test t is next live =
      sound_fewer n (expect (λ t. passing (test t)) next) t (expect_live_sound n (λ t. passing (test t)) t tt (ap passing is) (passing_names test) next (λ y. live.good) (λ y. live.goes_on))

  pub passes : (test : Token → Bool) (t : Token) → test t ≡ true → (next : Unit {0} → Reader S) (u : Token) → Sound n (next tt) u → Sound n (expect (λ t. passing (test t)) next) t
  passes test t is next u sound = passes_live test t is next (live_of n (next tt) u sound)

  pub names_live : (next : List ℕ → Reader S) → ((w : List ℕ) → Live n (next w)) → Sound n (expect name next) a_name
  names_live next live = sound_fewer n (expect name next) a_name (expect_live_sound n name a_name (codes "t") refl name_names next (λ w. (live w).good) (λ w. (live w).goes_on))

  pub digits_live : (next : List ℕ → Reader S) → ((digits : List ℕ) → Live n (next digits)) → Sound n (expect number next) a_number
  digits_live next live = sound_fewer n (expect number next) a_number (expect_live_sound n number a_number (codes "1") refl number_names next (λ d. (live d).good) (λ d. (live d).goes_on))

  pub strings_live : (next : List ℕ → Reader S) → ((bytes : List ℕ) → Live n (next bytes)) → Sound n (expect string next) a_string
  strings_live next live = sound_fewer n (expect string next) a_string (expect_live_sound n string a_string [] refl string_names next (λ b. (live b).good) (λ b. (live b).goes_on))

  pub types_live : (next : ColType → Reader S) → ((t : ColType) → Live n (next t)) → Sound n (expect plain next) a_type
  types_live next live = sound_fewer n (expect plain next) a_type (expect_live_sound n plain a_type type.UInt8 refl plain_names next (λ t. (live t).good) (λ t. (live t).goes_on))

  pub names_then : (next : List ℕ → Reader S) (u : Token) → ((w : List ℕ) → Sound n (next w) u) → Sound n (expect name next) a_name
  names_then next u sound = sound_fewer n (expect name next) a_name (expect_sound n name a_name (codes "t") refl name_names next u sound)

  pub passing_apart : (tried : Token → Bool) (test : Token → Bool) (next : Unit {0} → Reader S) → Good n (next tt) → Apart n tried (expect (λ t. passing (test t)) next)
  passing_apart tried test next good = unnamed_apart n tried (expect (λ t. passing (test t)) next) (λ p ps less e. passing_unnamed n test next good p ps (omega arith) e)

pub one_name_sound : {S : Type 0} → SoundItem {S = S} one_name a_name
one_name_sound n next good live = expect_live_sound n name a_name (codes "t") refl name_names next good live

-- ---- readers that begin with a token, by what they say of it

-- a reader that begins with this token, and says of no first token that it is too long a name
pub record Begun {S : Type 0} (n : ℕ) (read : Reader S) (t : Token) : Type 0 where
  pub sound : Sound n read t
  pub unnamed : Unnamed n read

module _ {S : Type 0} (n : ℕ) where
  -- a keyword, and then what follows it
  pub keyword_then : (k : List ℕ) → is_keyword k k ≡ true → (next : Reader S) (u : Token) → Sound n next u → Sound n (expect (keyword k) (λ v. next)) (token.Word k)
  keyword_then k is next u sound = passes n (is_word (is_keyword k)) (token.Word k) is (λ v. next) u sound

  pub keyword_unnamed : (k : List ℕ) (next : Reader S) → Good n next → Unnamed n (expect (keyword k) (λ v. next))
  keyword_unnamed k next good p ps less e = passing_unnamed n (is_word (is_keyword k)) (λ v. next) good p ps (omega arith) e

  pub begun : (k : List ℕ) → is_keyword k k ≡ true → (next : Reader S) (u : Token) → Sound n next u → Begun n (expect (keyword k) (λ v. next)) (token.Word k)
  begun k is next u sound = record { sound = keyword_then k is next u sound; unnamed = keyword_unnamed k next sound.good }

  pub begun_live : (k : List ℕ) → is_keyword k k ≡ true → (next : Reader S) → Live n next → Begun n (expect (keyword k) (λ v. next)) (token.Word k)
  begun_live k is next live = record { sound = passes_live n (is_word (is_keyword k)) (token.Word k) is (λ v. next) live; unnamed = keyword_unnamed k next live.good }

  -- a word as it is written, and then what follows it
  pub word_begun : (w : List ℕ) → same_bytes w w ≡ true → (next : Reader S) (u : Token) → Sound n next u → Begun n (expect (exactly w) (λ v. next)) (token.Word w)
  word_begun w is next u sound = record {
    sound = passes n (is_word (same_bytes w)) (token.Word w) is (λ v. next) u sound;
    unnamed = λ p ps less e. passing_unnamed n (is_word (same_bytes w)) (λ v. next) sound.good p ps (omega arith) e;
  }

  -- a symbol, and then what follows it
  pub symbol_begun : (s : Symbol) → is_symbol s (token.Symbol s) ≡ true → (next : Reader S) → Live n next → Begun n (expect (the s) (λ v. next)) (token.Symbol s)
  symbol_begun s is next live = record {
    sound = passes_live n (is_symbol s) (token.Symbol s) is (λ v. next) live;
    unnamed = λ p ps less e. passing_unnamed n (is_symbol s) (λ v. next) live.good p ps (omega arith) e;
  }

  -- a type, and then what follows it
  pub types_begun : (next : ColType → Reader S) → ((t : ColType) → Live n (next t)) → Begun n (expect plain next) a_type
  types_begun next live = record { sound = types_live n next live; unnamed = λ p ps less e. expect_unnamed n plain plain_short next (λ t. (live t).good) p ps (omega arith) e }

  pub begun_fewer : (read : Reader S) (t : Token) → Begun (suc n) read t → Begun n read t
  begun_fewer read t b = record { sound = sound_fewer n read t b.sound; unnamed = λ p ps less e. b.unnamed p ps (omega arith) e }

  pub ends_begun : (s : S) → Begun n (ends s) (token.Symbol symbol.Semicolon)
  ends_begun s = record { sound = ends_sound n s; unnamed = λ p ps less e. passing_unnamed n (is_symbol symbol.Semicolon) (λ v. done s) (done_good n s) p ps (omega arith) e }

  pub choose_begun : (test : Token → Bool) (this other : Reader S) (t u : Token) → test u ≡ false → Begun n this t → Begun n other u → Begun n (choose test this other) u
  choose_begun test this other t u fails first second = record {
    sound = choose_other_sound n test this other u fails first.sound.good first.sound.shallow second.sound (unnamed_apart n test this first.unnamed) (unnamed_apart n test other second.unnamed);
    unnamed = choose_unnamed n test this other first.unnamed second.unnamed;
  }
