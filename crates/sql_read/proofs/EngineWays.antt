-- Which engine is read, by its word; and its arguments.
use Rattle.std.proofs.Common.{◌≡◌, Bool, true, false, not, List, Result, Ok, refl, ◌∙◌, codes}
use Rattle.mt_base.specs.declared.stop.Stop.{Stop}
use Rattle.mt_values.specs.declared.statement.EngineText.{EngineText}
use Rattle.mt_values.specs.declared.statement.Slip.{Slip}
use Rattle.mt_values.specs.declared.statement.Statement.{Statement}
use Rattle.mt_values.specs.declared.token.Placed.{Placed}
use Rattle.mt_values.specs.declared.token.Symbol.TheVariants as symbol
use Rattle.mt_values.specs.declared.token.Token.{Token}
use Rattle.mt_values.specs.Grammar.{aggregating_engine, collapsing_engine, engine, is_word, optional, plain_engine, replacing_engine, same_bytes, summing_engine, the, versioned_engine}
use Rattle.mt_values.specs.Readers.{Part, Reader, choose, either, expect}
use Rattle.sql_read.specs.Parts.{argument_or}
use Rattle.sql_read.specs.Reads.{Reads, first_is}
use Rattle.sql_read.proofs.Chains.{reads_other, reads_this}

-- the tests of the words
abbrev replacing : Token → Bool
replacing = is_word (same_bytes (codes "ReplacingMergeTree"))

abbrev summing : Token → Bool
summing = is_word (same_bytes (codes "SummingMergeTree"))

abbrev collapsing : Token → Bool
collapsing = is_word (same_bytes (codes "CollapsingMergeTree"))

abbrev versioned : Token → Bool
versioned = is_word (same_bytes (codes "VersionedCollapsingMergeTree"))

abbrev aggregating : Token → Bool
aggregating = is_word (same_bytes (codes "AggregatingMergeTree"))

-- the ways that are left after each test
abbrev pub aggregating_way : {S : Type 0} → Part S EngineText
aggregating_way next = choose aggregating (aggregating_engine next) (plain_engine next)

abbrev pub versioned_way : {S : Type 0} → Part S EngineText
versioned_way next = choose versioned (versioned_engine next) (aggregating_way next)

abbrev pub collapsing_way : {S : Type 0} → Part S EngineText
collapsing_way next = choose collapsing (collapsing_engine next) (versioned_way next)

abbrev pub summing_way : {S : Type 0} → Part S EngineText
summing_way next = choose summing (summing_engine next) (collapsing_way next)

module _ (from : List Placed) (r : Result EngineText (Stop Slip)) (to : List Placed) where
  pub reads_replacing : first_is replacing from ≡ true → Reads replacing_engine from r to → Reads engine from r to
  unfolding engine
  reads_replacing here read = reads_this replacing replacing_engine summing_way from here r to read

  module _ (no_replacing : first_is replacing from ≡ false) where
    after_replacing : Reads summing_way from r to → Reads engine from r to
    unfolding engine
    after_replacing read = reads_other replacing replacing_engine summing_way from no_replacing r to read

    pub reads_summing : first_is summing from ≡ true → Reads summing_engine from r to → Reads engine from r to
    reads_summing here read = after_replacing (reads_this summing summing_engine collapsing_way from here r to read)

    module _ (no_summing : first_is summing from ≡ false) where
      after_summing : Reads collapsing_way from r to → Reads engine from r to
      after_summing read = after_replacing (reads_other summing summing_engine collapsing_way from no_summing r to read)

      pub reads_collapsing : first_is collapsing from ≡ true → Reads collapsing_engine from r to → Reads engine from r to
      reads_collapsing here read = after_summing (reads_this collapsing collapsing_engine versioned_way from here r to read)

      module _ (no_collapsing : first_is collapsing from ≡ false) where
        after_collapsing : Reads versioned_way from r to → Reads engine from r to
        after_collapsing read = after_summing (reads_other collapsing collapsing_engine versioned_way from no_collapsing r to read)

        pub reads_versioned : first_is versioned from ≡ true → Reads versioned_engine from r to → Reads engine from r to
        reads_versioned here read = after_collapsing (reads_this versioned versioned_engine aggregating_way from here r to read)

        module _ (no_versioned : first_is versioned from ≡ false) where
          after_versioned : Reads aggregating_way from r to → Reads engine from r to
          after_versioned read = after_collapsing (reads_other versioned versioned_engine aggregating_way from no_versioned r to read)

          pub reads_aggregating : first_is aggregating from ≡ true → Reads aggregating_engine from r to → Reads engine from r to
          reads_aggregating here read = after_versioned (reads_this aggregating aggregating_engine plain_engine from here r to read)

          pub reads_plain : first_is aggregating from ≡ false → Reads plain_engine from r to → Reads engine from r to
          reads_plain none read = after_versioned (reads_other aggregating aggregating_engine plain_engine from none r to read)

-- ---- arguments

-- of two ways the other is gone
pub not_either : (c : Bool) (this other : Reader Statement) (ts : List Placed) → either c other this ts ≡ either (not c) this other ts
not_either true this other ts = refl
not_either false this other ts = refl

module _ {X : Type 0} (none : X) (inner : Part Statement X) (from mid : List Placed) (follows : Bool) (way : (this other : Reader Statement) → argument_or this other from ≡ either follows this other mid) where
  -- no argument follows
  pub reads_none : follows ≡ false → Reads (optional none inner) from (Ok none) mid
  reads_none is next = way (inner (λ x. expect (the symbol.Close) (λ _. next x))) (next none) ∙ rw is refl

  -- an argument follows, and then a ")"
  pub argument_along : follows ≡ true → (next : X → Reader Statement) → optional none inner next from ≡ inner (λ x. expect (the symbol.Close) (λ _. next x)) mid
  argument_along is next = way (inner (λ x. expect (the symbol.Close) (λ _. next x))) (next none) ∙ rw is refl
