-- The keys and the engines of a CREATE tell their first faults.
use Rattle.std.proofs.Common.{◌≡◌, ℕ, false, List, [], ◌∷◌, Some, None, refl, codes}
use Rattle.mt_values.specs.declared.statement.EngineText.{EngineText}
use Rattle.mt_values.specs.declared.statement.EngineText.TheVariants as engine_text
use Rattle.mt_values.specs.declared.token.Symbol.TheVariants as symbol
use Rattle.mt_values.specs.declared.token.Token.{Token}
use Rattle.mt_values.specs.declared.token.Token.TheVariants as token
use Rattle.mt_values.specs.Grammar.{aggregating_engine, collapsing_engine, enclosed, engine, is_symbol, is_word, key, list_of, name, no_arguments, one_name, optional, plain_engine, replacing_engine, same_bytes, some_name, summing_engine, the, two_names, versioned_engine}
use Rattle.mt_values.specs.Readers.{Part, Reader, choose, expect}
use Rattle.sql_read.proofs.EngineWays.{aggregating_way, collapsing_way, summing_way, versioned_way}
use Rattle.sql_read.proofs.Listed.{one_name_takes}
use Rattle.sql_read.proofs.FaultParts.{Live, Sound, choose_other_sound, choose_this_sound, list_sound, live_of, symbol_apart}
use Rattle.sql_read.proofs.FaultTokens.{Begun, a_name, choose_begun, names_live, names_then, one_name_sound, passes, passes_live, word_begun}

-- a part that some tokens go on with, the first of them this one, whatever is to follow it
abbrev SoundPart : {S X : Type 0} → ℕ → Part S X → Token → Type 0
SoundPart {S} {X} n part t = (next : X → Reader S) → ((x : X) → Live n (next x)) → Sound n (part next) t

module _ {S : Type 0} (n : ℕ) where
  -- ---- keys and arguments

  pub key_sound : SoundPart {S = S} n key (token.Symbol symbol.Open)
  key_sound next live =
      let close = λ (names : List (List ℕ)). passes_live n (is_symbol symbol.Close) (token.Symbol symbol.Close) refl (λ v. next names) (live names) in
      let names = list_sound one_name a_name one_name_takes one_name_sound (λ names. expect (the symbol.Close) (λ v. next names)) (token.Symbol symbol.Close) refl n close in
      let open_ = passes n (is_symbol symbol.Open) (token.Symbol symbol.Open) refl (λ v. list_of one_name (λ names. expect (the symbol.Close) (λ v. next names))) a_name names in
      let one = names_live n (λ w. next (w ∷ [])) (λ w. live (w ∷ [])) in
      choose_this_sound n (is_symbol symbol.Open) (expect (the symbol.Open) (λ v. list_of one_name (λ names. expect (the symbol.Close) (λ v. next names)))) (expect name (λ w. next (w ∷ []))) (token.Symbol symbol.Open) a_name refl open_ one
      (symbol_apart n symbol.Open (expect (the symbol.Open) (λ v. list_of one_name (λ names. expect (the symbol.Close) (λ v. next names))))) (symbol_apart n symbol.Open (expect name (λ w. next (w ∷ []))))

  some_name_sound : SoundPart {S = S} n some_name a_name
  some_name_sound next live = names_live n (λ w. next (Some w)) (λ w. live (Some w))

  two_names_sound : SoundPart {S = S} n two_names a_name
  two_names_sound next live =
      let second = λ (m : List ℕ). names_live n (λ w. next (m, w)) (λ w. live (m, w)) in
      let comma = λ (m : List ℕ). passes n (is_symbol symbol.Comma) (token.Symbol symbol.Comma) refl (λ v. expect name (λ w. next (m, w))) a_name (second m) in
      names_then n (λ m. expect (the symbol.Comma) (λ v. expect name (λ w. next (m, w)))) (token.Symbol symbol.Comma) comma

  one_name_live : SoundPart {S = S} n one_name a_name
  one_name_live next live = names_live n next live

  -- a ")", and what follows it
  closed : {X : Type 0} → (X → Reader S) → X → Reader S
  closed next x = expect (the symbol.Close) (λ v. next x)

  closed_live : {X : Type 0} (next : X → Reader S) → ((x : X) → Live n (next x)) → (x : X) → Live n (closed next x)
  unfolding closed
  closed_live next live x = live_of n (expect (the symbol.Close) (λ v. next x)) (token.Symbol symbol.Close) (passes_live n (is_symbol symbol.Close) (token.Symbol symbol.Close) refl (λ v. next x) (live x))

  -- an argument in parentheses
  enclosed_sound : {X : Type 0} (inner : Part S X) (t : Token) → SoundPart n inner t → SoundPart n (enclosed inner) (token.Symbol symbol.Open)
  unfolding closed
  enclosed_sound inner t sound next live =
      passes n (is_symbol symbol.Open) (token.Symbol symbol.Open) refl (λ v. inner (closed next)) t (sound (closed next) (closed_live next live))

  -- arguments may be left out, and so may the parentheses, where no parenthesis follows
  module _ (u : Token) (no_open : is_symbol symbol.Open u ≡ false) where
    opened_sound : (this next : Reader S) (t : Token) → Sound n this t → Sound n next u → Sound n (choose (is_symbol symbol.Open) (expect (the symbol.Open) (λ v. this)) next) u
    opened_sound this next t inner sound =
        let open_ = passes n (is_symbol symbol.Open) (token.Symbol symbol.Open) refl (λ v. this) t inner in
        choose_other_sound n (is_symbol symbol.Open) (expect (the symbol.Open) (λ v. this)) next u no_open open_.good open_.shallow sound
        (symbol_apart n symbol.Open (expect (the symbol.Open) (λ v. this))) (symbol_apart n symbol.Open next)

    no_arguments_sound : (e : EngineText) (next : EngineText → Reader S) → Sound n (next e) u → Sound n (no_arguments e next) u
    no_arguments_sound e next sound =
        opened_sound (expect (the symbol.Close) (λ v. next e)) (next e) (token.Symbol symbol.Close)
        (passes n (is_symbol symbol.Close) (token.Symbol symbol.Close) refl (λ v. next e) u sound) sound

    optional_sound : {X : Type 0} (none : X) (inner : Part S X) (t : Token) → is_symbol symbol.Close t ≡ false → SoundPart n inner t → (next : X → Reader S) → ((x : X) → Sound n (next x) u) → Sound n (optional none inner next) u
    unfolding closed
    optional_sound {X = X} none inner t no_close part next sound =
        let live = λ (x : X). live_of n (next x) u (sound x) in
        let close = passes_live n (is_symbol symbol.Close) (token.Symbol symbol.Close) refl (λ v. next none) (live none) in
        let argument = part (closed next) (closed_live next live) in
        let either_way =
        choose_this_sound n (is_symbol symbol.Close) (closed next none) (inner (closed next)) (token.Symbol symbol.Close) t refl close argument
        (symbol_apart n symbol.Close (closed next none)) (symbol_apart n symbol.Close (inner (closed next))) in
        opened_sound (choose (is_symbol symbol.Close) (closed next none) (inner (closed next))) (next none) (token.Symbol symbol.Close) either_way (sound none)

    -- ---- engines, each by its word

    module _ (next : EngineText → Reader S) (sound : (e : EngineText) → Sound n (next e) u) where
      abbrev live : (e : EngineText) → Live n (next e)
      live e = live_of n (next e) u (sound e)

      plain_begun : Begun n (plain_engine next) (token.Word (codes "MergeTree"))
      plain_begun =
          word_begun n (codes "MergeTree") refl (no_arguments engine_text.Plain next) u (no_arguments_sound engine_text.Plain next (sound engine_text.Plain))

      aggregating_begun : Begun n (aggregating_engine next) (token.Word (codes "AggregatingMergeTree"))
      aggregating_begun =
          word_begun n (codes "AggregatingMergeTree") refl (no_arguments engine_text.Aggregating next) u (no_arguments_sound engine_text.Aggregating next (sound engine_text.Aggregating))

      replacing_begun : Begun n (replacing_engine next) (token.Word (codes "ReplacingMergeTree"))
      replacing_begun =
          word_begun n (codes "ReplacingMergeTree") refl (optional None some_name (λ version. next (engine_text.Replacing version))) u
          (optional_sound None some_name a_name refl some_name_sound (λ version. next (engine_text.Replacing version)) (λ version. sound (engine_text.Replacing version)))

      summing_begun : Begun n (summing_engine next) (token.Word (codes "SummingMergeTree"))
      summing_begun =
          word_begun n (codes "SummingMergeTree") refl (optional [] key (λ names. next (engine_text.Summing names))) u
          (optional_sound [] key (token.Symbol symbol.Open) refl key_sound (λ names. next (engine_text.Summing names)) (λ names. sound (engine_text.Summing names)))

      collapsing_begun : Begun n (collapsing_engine next) (token.Word (codes "CollapsingMergeTree"))
      collapsing_begun =
          word_begun n (codes "CollapsingMergeTree") refl (enclosed one_name (λ sign. next (engine_text.Collapsing sign))) (token.Symbol symbol.Open)
          (enclosed_sound one_name a_name one_name_live (λ sign. next (engine_text.Collapsing sign)) (λ sign. live (engine_text.Collapsing sign)))

      versioned_begun : Begun n (versioned_engine next) (token.Word (codes "VersionedCollapsingMergeTree"))
      versioned_begun =
          word_begun n (codes "VersionedCollapsingMergeTree") refl (enclosed two_names (λ names. next (engine_text.Versioned names.0 names.1))) (token.Symbol symbol.Open)
          (enclosed_sound two_names a_name two_names_sound (λ names. next (engine_text.Versioned names.0 names.1)) (λ names. live (engine_text.Versioned names.0 names.1)))

      -- all of them, of which the last begins with MergeTree
      pub engine_sound : Sound n (engine next) (token.Word (codes "MergeTree"))
      unfolding engine
      engine_sound =
          let last = token.Word (codes "MergeTree") in
          (choose_begun n (is_word (same_bytes (codes "ReplacingMergeTree"))) (replacing_engine next) (summing_way next) (token.Word (codes "ReplacingMergeTree")) last refl replacing_begun
          (choose_begun n (is_word (same_bytes (codes "SummingMergeTree"))) (summing_engine next) (collapsing_way next) (token.Word (codes "SummingMergeTree")) last refl summing_begun
          (choose_begun n (is_word (same_bytes (codes "CollapsingMergeTree"))) (collapsing_engine next) (versioned_way next) (token.Word (codes "CollapsingMergeTree")) last refl collapsing_begun
          (choose_begun n (is_word (same_bytes (codes "VersionedCollapsingMergeTree"))) (versioned_engine next) (aggregating_way next) (token.Word (codes "VersionedCollapsingMergeTree")) last refl versioned_begun
          (choose_begun n (is_word (same_bytes (codes "AggregatingMergeTree"))) (aggregating_engine next) (plain_engine next) (token.Word (codes "AggregatingMergeTree")) last refl aggregating_begun plain_begun))))).sound
