-- Inputs of a merge, and what its table keeps to.
use Rattle.std.proofs.Common.{◌≡◌, ℕ, ◌<◌, ◌++◌, List, [], ◌∷◌, Vec, length, ap, arith, subst, sym, ◌∙◌}
use Rattle.std.specs.List.{All, range_with_len}
use Rattle.std.proofs.lemmas.List.{map_push}
use Rattle.std.proofs.lemmas.List.Elements.{All-push, All-weaker}
use Rattle.mt_values.specs.declared.schema.Schema.{Schema}
use Rattle.mt_values.specs.declared.schema.SkipIndex.{SkipIndex}
use Rattle.mt_values.specs.declared.value.ColType.{ColType}
use Rattle.mt_values.specs.Grid.{AreRowsOf}
use Rattle.mt_values.specs.Values.{Row}
use Rattle.mt_values.proofs.Grids.{All-range}
use Rattle.row_merge.specs.Merged.{inputs_of}
use Rattle.run_memory.specs.Growing.{HasBlocks}

-- one input more
pub one_more : {A : Type 0} (types : List ColType) (inputs news : List (Vec Row A)) (input : Vec Row A) → news ≡ inputs ++ input ∷ [] → All (AreRowsOf types) (inputs_of inputs) → AreRowsOf types input.items
    → All (AreRowsOf types) (inputs_of news)
one_more {A} types inputs news input is all own =
    subst (All (AreRowsOf types)) (sym (ap inputs_of is ∙ map_push (λ (v : Vec Row A). v.items) inputs input)) (All-push (AreRowsOf types) (inputs_of inputs) input.items all own)

-- all places are within
pub places_within : (n m : ℕ) (places : List ℕ) → places ≡ range_with_len 0 n → n ≡ m → All (λ place. place < m) places
places_within n m places is same = subst (All (λ place. place < m)) (sym is) (All-range (λ place. place < m) n (λ k below. omega (arith, below, same)))

-- skip indexes that have blocks are of columns of the table
pub are_indexed : (schema : Schema) → All (HasBlocks schema) schema.indexes → All (λ (index : SkipIndex). index.column < length schema.columns) schema.indexes
are_indexed schema all = All-weaker (HasBlocks schema) (λ (index : SkipIndex). index.column < length schema.columns) (λ index has. has.own) schema.indexes all
