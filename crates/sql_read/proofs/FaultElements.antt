-- The elements of a CREATE tell their first faults.
use Rattle.std.proofs.Common.{◌≡◌, ℕ, suc, Bool, true, false, ◌||◌, List, Option, Some, None, refl, ◌∙◌, sym, codes}
use Rattle.mt_values.specs.declared.engine.Aggregate.{Aggregate}
use Rattle.mt_values.specs.declared.engine.Aggregate.TheVariants as aggregate
use Rattle.mt_values.specs.declared.statement.Element.{Element}
use Rattle.mt_values.specs.declared.statement.KindText.{KindText}
use Rattle.mt_values.specs.declared.statement.KindText.TheVariants as kind
use Rattle.mt_values.specs.declared.token.Symbol.TheVariants as symbol
use Rattle.mt_values.specs.declared.token.Token.{Token}
use Rattle.mt_values.specs.declared.token.Token.TheVariants as token
use Rattle.mt_values.specs.declared.value.ColType.{ColType}
use Rattle.mt_values.specs.Grammar.{aggregated_type, column, column_type, function, index, index_kind, is_reserved, is_symbol, is_word, keyword, name, number, plain, plain_type, same_bytes, set_kind, table_element, the}
use Rattle.mt_values.specs.Readers.{Reader, expect}
use Rattle.mt_values.specs.Tokens.{is_keyword}
use Rattle.sql_read.specs.Parts.{index_granularity, index_type, minmax_kind}
use Rattle.sql_read.proofs.TableElements.{aggregated_end, column_said, index_said}
use Rattle.sql_read.proofs.Faults.{name_names, passing_names}
use Rattle.sql_read.proofs.FaultParts.{Apart, Live, Sound, SoundItem, choose_other_sound, choose_this_sound, expect_sound, live_of, sound_fewer}
use Rattle.sql_read.proofs.FaultTokens.{a_name, a_number, a_type, choose_begun, digits_live, function_names, keyword_then, names_then, passes, passes_live, passing_apart, types_begun, types_live, word_begun}

-- ---- columns

-- the word that begins the type of a column that is folded
abbrev aggregated_word : Token
aggregated_word = token.Word (codes "SimpleAggregateFunction")

module _ {S : Type 0} (n : ℕ) (next : ColType × Option Aggregate → Reader S) (live : (t : ColType × Option Aggregate) → Live n (next t)) where
  -- what follows the type in the parentheses, the name of a function, and the word
  abbrev type_end : Aggregate → ColType → Reader S
  type_end a t = expect (the symbol.Close) (λ v. next (t, Some a))

  abbrev function_then : Reader S
  function_then = expect (the symbol.Open) (λ v. expect function (aggregated_end next))

  type_end_live : (a : Aggregate) (t : ColType) → Live n (type_end a t)
  type_end_live a t =
      live_of n (type_end a t) (token.Symbol symbol.Close) (passes_live n (is_symbol symbol.Close) (token.Symbol symbol.Close) refl (λ v. next (t, Some a)) (live (t, Some a)))

  aggregated_end_sound : (a : Aggregate) → Sound n (aggregated_end next a) (token.Symbol symbol.Comma)
  aggregated_end_sound a =
      passes n (is_symbol symbol.Comma) (token.Symbol symbol.Comma) refl (λ v. expect plain (type_end a)) a_type (types_live n (type_end a) (type_end_live a))

  function_then_sound : Sound n function_then (token.Symbol symbol.Open)
  function_then_sound =
      passes n (is_symbol symbol.Open) (token.Symbol symbol.Open) refl (λ v. expect function (aggregated_end next)) (token.Word (codes "any"))
      (sound_fewer n (expect function (aggregated_end next)) (token.Word (codes "any"))
      (expect_sound n function (token.Word (codes "any")) aggregate.Any refl function_names (aggregated_end next) (token.Symbol symbol.Comma) aggregated_end_sound))

  type_sound : Sound n (column_type next) a_type
  type_sound =
      let aggregated = word_begun n (codes "SimpleAggregateFunction") refl function_then (token.Symbol symbol.Open) function_then_sound in
      let plains = types_begun n (λ t. next (t, None)) (λ t. live (t, None)) in
      (choose_begun n (is_word (same_bytes (codes "SimpleAggregateFunction"))) (aggregated_type next) (plain_type next) aggregated_word a_type refl aggregated plains).sound

column_sound : {S : Type 0} → SoundItem {S = S} column a_name
column_sound n next good live =
    expect_sound n name a_name (codes "t") refl name_names (λ w. column_type (λ t. next (column_said w t))) a_type
    (λ w. type_sound n (λ t. next (column_said w t)) (λ t. record { good = good (column_said w t); goes_on = live (column_said w t) }))

-- ---- indexes

-- the words that begin the kinds of an index
abbrev minmax_word : Token
minmax_word = token.Word (codes "minmax")

abbrev set_word : Token
set_word = token.Word (codes "set")

module _ {S : Type 0} (n : ℕ) where
  module _ (next : KindText → Reader S) (live : (k : KindText) → Live n (next k)) where
    -- what follows the number of a set, and what follows the word
    abbrev set_end : List ℕ → Reader S
    set_end digits = expect (the symbol.Close) (λ v. next (kind.Set digits))

    abbrev set_then : Reader S
    set_then = expect (the symbol.Open) (λ v. expect number set_end)

    set_end_live : (digits : List ℕ) → Live n (set_end digits)
    set_end_live digits =
        live_of n (set_end digits) (token.Symbol symbol.Close) (passes_live n (is_symbol symbol.Close) (token.Symbol symbol.Close) refl (λ v. next (kind.Set digits)) (live (kind.Set digits)))

    set_then_sound : Sound n set_then (token.Symbol symbol.Open)
    set_then_sound = passes n (is_symbol symbol.Open) (token.Symbol symbol.Open) refl (λ v. expect number set_end) a_number (digits_live n set_end set_end_live)

    kind_sound : Sound n (index_kind next) minmax_word
    kind_sound =
        choose_this_sound n (is_word (same_bytes (codes "minmax"))) (minmax_kind next) (set_kind next) minmax_word set_word refl
        (passes_live n (is_word (same_bytes (codes "minmax"))) minmax_word refl (λ v. next kind.MinMax) (live kind.MinMax))
        (passes n (is_word (same_bytes (codes "set"))) set_word refl (λ v. set_then) (token.Symbol symbol.Open) set_then_sound)
        (passing_apart n (is_word (same_bytes (codes "minmax"))) (is_word (same_bytes (codes "minmax"))) (λ v. next kind.MinMax) (live kind.MinMax).good)
        (passing_apart n (is_word (same_bytes (codes "minmax"))) (is_word (same_bytes (codes "set"))) (λ v. set_then) set_then_sound.good)

  module _ (next : Element → Reader S) (live : (e : Element) → Live n (next e)) where
    -- what follows the kind of an index
    abbrev sized : List ℕ → List ℕ → KindText → Reader S
    sized w c k = index_granularity (λ digits. next (index_said w c k digits))

    sized_sound : (w c : List ℕ) (k : KindText) → Sound n (sized w c k) (token.Word (codes "GRANULARITY"))
    sized_sound w c k =
        keyword_then n (codes "GRANULARITY") refl (expect number (λ digits. next (index_said w c k digits))) a_number
        (digits_live n (λ digits. next (index_said w c k digits)) (λ digits. live (index_said w c k digits)))

    -- what follows its names
    kinds_sound : (w c : List ℕ) → Sound n (index_type (sized w c)) (token.Word (codes "TYPE"))
    kinds_sound w c =
        keyword_then n (codes "TYPE") refl (index_kind (sized w c)) minmax_word
        (kind_sound (sized w c) (λ k. live_of n (sized w c k) (token.Word (codes "GRANULARITY")) (sized_sound w c k)))

    names_sound : Sound n (expect name (λ w. expect name (λ c. index_type (sized w c)))) a_name
    names_sound =
        names_then n (λ w. expect name (λ c. index_type (sized w c))) a_name
        (λ w. names_then n (λ c. index_type (sized w c)) (token.Word (codes "TYPE")) (kinds_sound w))

index_sound : {S : Type 0} → SoundItem {S = S} index (token.Word (codes "INDEX"))
index_sound n next good live =
    expect_sound n (keyword (codes "INDEX")) (token.Word (codes "INDEX")) tt refl (passing_names (is_word (is_keyword (codes "INDEX")))) (λ u. expect name (λ w. expect name (λ c. index_type (sized n next (λ e. record { good = good e; goes_on = live e }) w c)))) a_name
    (λ u. names_sound n next (λ e. record { good = good e; goes_on = live e }))

-- ---- elements

eighth : (a b c d e f g h : Bool) → (a || b || c || d || e || f || g || h) ≡ false → h ≡ false
eighth true b c d e f g h is = cc
eighth false true c d e f g h is = cc
eighth false false true d e f g h is = cc
eighth false false false true e f g h is = cc
eighth false false false false true f g h is = cc
eighth false false false false false true g h is = cc
eighth false false false false false false true h is = cc
eighth false false false false false false false h is = is

-- a name begins no index
index_free : (w : List ℕ) → is_reserved w ≡ false → is_word (is_keyword (codes "INDEX")) (token.Word w) ≡ false
index_free w free =
    eighth (is_keyword (codes "AND") w) (is_keyword (codes "OR") w) (is_keyword (codes "NOT") w) (is_keyword (codes "IN") w) (is_keyword (codes "FROM") w) (is_keyword (codes "FINAL") w) (is_keyword (codes "WHERE") w) (is_keyword (codes "INDEX") w) free

index_apart : {S : Type 0} (n : ℕ) (read : Reader S) → Apart n (is_word (is_keyword (codes "INDEX"))) read
index_apart n read place word other ps known free less e = index_free other free ∙ sym (index_free word known)

pub element_sound : {S : Type 0} → SoundItem {S = S} table_element a_name
element_sound n next good live =
    let indexes = index_sound n next good live in
    choose_other_sound (suc n) (is_word (is_keyword (codes "INDEX"))) (index next) (column next) a_name refl indexes.good indexes.shallow (column_sound n next good live)
    (index_apart (suc n) (index next)) (index_apart (suc n) (column next))
