-- The tables of the tests.
use Rattle.std.proofs.Common.{◌≡◌, ℕ, ◌<◌, ◌++◌, List, [], ◌∷◌, Vec, get_or, length, ap, arith, None, subst, sym, ◌∙◌}
use Rattle.std.specs.List.{All, range_with_len}
use Rattle.std.proofs.lemmas.List.{get_or-map, length-map, map_push}
use Rattle.std.proofs.lemmas.List.Elements.{All-cons, All-get_or, All-nil, All-push, All-same}
use Rattle.mt_values.specs.declared.schema.Column.{Column}
use Rattle.mt_values.specs.declared.schema.Schema.{Schema}
use Rattle.mt_values.specs.declared.schema.SkipIndex.{SkipIndex}
use Rattle.mt_values.specs.Grid.{AreRowsOf}
use Rattle.mt_values.specs.Schemas.{column_types, schema_fault}
use Rattle.mt_values.specs.Values.{Row}
use Rattle.mt_values.proofs.Grids.{All-range}
use Rattle.part_history.specs.mt_model.History.{IsTableSchema}
use Rattle.part_reader.specs.part_writer.PartFiles.{HasIndexes}
use Rattle.part_reader.specs.primary_marks.Keys.{HasMarks}
use Rattle.row_merge.specs.Merged.{inputs_of}
use Rattle.row_merge.specs.TestTables.{letters}

module _ (schema : Schema) (types : column_types schema ≡ letters) (key : schema.key ≡ 0 ∷ []) (primary : schema.primary ≡ 0 ∷ []) (indexes : schema.indexes ≡ []) where
  two : length schema.columns ≡ 2
  two = sym (length-map schema.columns (λ (c : Column). c.col_type)) ∙ ap length types

  first_is : (places : List ℕ) → places ≡ 0 ∷ [] → All (λ place. place < length schema.columns) places
  first_is places is =
      All-same (λ place. place < length schema.columns) places (0 ∷ []) is
      (All-cons (λ place. place < length schema.columns) 0 [] (omega (arith, two)) (All-nil (λ place. place < length schema.columns)))

  pub is_table : schema_fault schema ≡ None → IsTableSchema schema
  is_table sound = record {
    sound = sound;
    key = omega (arith, ap length key);
    primary = omega (arith, ap length primary);
    own = first_is schema.key key;
    few = omega (arith, two);
    indexed = All-same (λ (index : SkipIndex). index.column < length schema.columns) schema.indexes [] indexes (All-nil (λ (index : SkipIndex). index.column < length schema.columns));
    few_indexes = omega (arith, ap length indexes);
  }

  pub has_marks : 0 < schema.granularity → HasMarks schema
  has_marks some = record { some = omega (arith, ap length primary); own = first_is schema.primary primary; granularity = some }

  pub has_indexes : HasIndexes schema
  has_indexes = λ n below. absurd (omega (arith, below, ap length indexes))

-- ---- rows of inputs

-- as many places as there are rows
pub places_below : (rows : List Row) (n : ℕ) (places : List ℕ) → places ≡ range_with_len 0 n → n ≡ length rows → All (λ place. place < length rows) places
places_below rows n places is long =
    subst (All (λ place. place < length rows)) (sym is) (All-range (λ place. place < length rows) n (λ k below. omega (arith, below, long)))

-- the rows of one of the inputs
pub typed_at : {A : Type 0} (inputs : List (Vec Row A)) (i : ℕ) (input : Vec Row A) → i < length inputs → input ≡ get_or inputs i input → All (AreRowsOf letters) (inputs_of inputs) → AreRowsOf letters input.items
typed_at {A} inputs i input below is all =
    subst (AreRowsOf letters) (get_or-map (λ (v : Vec Row A). v.items) inputs i input [] below ∙ ap (λ (v : Vec Row A). v.items) (sym is))
    (All-get_or (AreRowsOf letters) (inputs_of inputs) i [] (omega (arith, below, length-map inputs (λ (v : Vec Row A). v.items))) all)

-- one input more
pub one_more : {A : Type 0} (inputs news : List (Vec Row A)) (input : Vec Row A) → news ≡ inputs ++ input ∷ [] → All (AreRowsOf letters) (inputs_of inputs) → AreRowsOf letters input.items → All (AreRowsOf letters) (inputs_of news)
one_more {A} inputs news input is all own =
    subst (All (AreRowsOf letters)) (sym (ap inputs_of is ∙ map_push (λ (v : Vec Row A). v.items) inputs input)) (All-push (AreRowsOf letters) (inputs_of inputs) input.items all own)
