-- What a plan chooses of a part that holds rows is what these rows choose, and so it skips no row that meets the condition.
use Rattle.std.proofs.Common.{◌≡◌, ℕ, zero, suc, ◌+◌, ◌*◌, ◌/◌, ◌<◌, inr, Bool, true, false, List, [], ◌∷◌, All, Some, None, slice_get, get_or, drop, length, map, take, refl, ap, ap₂, ◌∙◌, subst, arith, add-one, mul_comm}
use Rattle.std.specs.List.{filter, fold, range_with_len}
use Rattle.std.proofs.lemmas.Grind.{div_ceil_times}
use Rattle.std.proofs.lemmas.List.{get_or_past}
use Rattle.std.proofs.lemmas.List.FromFn.{length-map-range_with_len}
use Rattle.std.proofs.lemmas.Simd.{map-map}
use Rattle.std.proofs.lemmas.Option.{get_or_from_slice_get, slice_get_within, unwrap_or-slice_get}
use Rattle.mt_base.specs.declared.partition.Partition.{Partition}
use Rattle.mt_values.specs.declared.expr.Test.{Test}
use Rattle.mt_values.specs.declared.schema.Schema.{Schema}
use Rattle.mt_values.specs.declared.schema.SkipIndex.{SkipIndex}
use Rattle.mt_values.specs.Conditions.{Condition, tests_of}
use Rattle.mt_values.specs.Granules.{chosen_of, granules, mark_keys}
use Rattle.mt_values.specs.Schemas.{schema_fault}
use Rattle.mt_values.specs.Tests.{eval}
use Rattle.mt_values.specs.Values.{Row}
use Rattle.merge_workers.specs.shared_store.part_reader.declared.reading.Part.{Part}
use Rattle.merge_workers.specs.shared_store.part_set.declared.kept.Kept.{Kept}
use Rattle.merge_workers.specs.shared_store.part_writer.declared.loaded.Loaded.{Loaded}
use Rattle.merge_workers.specs.shared_store.part_writer.PartFiles.{HasIndexes, indexes_of, loaded_of}
use Rattle.replies.specs.predicate.Boxes.{can, only_column}
use Rattle.replies.specs.predicate.Granules.{chosen_in}
use Rattle.replies.specs.predicate.Indexes.{blocks_kept, chosen_by_index, chosen_of_rows}
use Rattle.replies.specs.predicate.Masks.{both}
use Rattle.replies.proofs.PredicateNarrowing.{narrowed_length, narrowed_skips}
use Rattle.replies.specs.predicate.declared.extent.Known.{Known}
use Rattle.replies.specs.predicate.declared.extent.Known.TheVariants as known
use Rattle.final_fold.specs.select_plan.primary_marks.Choosing.{ArePartOf}
use Rattle.final_fold.specs.select_plan.primary_marks.Keys.{HasMarks}
use Rattle.final_fold.proofs.PrimaryMarksSkippedGranules.{chosen_count, chosen_pass, skipped_empty}
use Rattle.final_fold.specs.select_plan.Plans.{planned_part, read_of}
use Rattle.final_fold.specs.select_plan.skip_index.declared.index.Index.{Index}
use Rattle.final_fold.specs.select_plan.skip_index.Blocks.{index_at, index_of, no_index}
use Rattle.final_fold.specs.select_plan.skip_index.Choosing.{chosen_by, is_unknown, known_by}
use Rattle.final_fold.proofs.SkipIndexSkipped.{skipped_empty as skipped_block}

-- ---- lists

map_shift : {X : Type 0} (f : ℕ → X) (a n : ℕ) → map f (range_with_len (a + 1) n) ≡ map (λ k. f (k + 1)) (range_with_len a n)
map_shift f a zero = refl
map_shift f a (suc n) = ap (λ xs. f (a + 1) ∷ xs) (map_shift f (a + 1) n)

-- what becomes of the places of a list, where of each it is what becomes of its item
by_places : {X Y : Type 0} (f : X → Y) (g : ℕ → Y) (xs : List X) (d : X) → ((n : ℕ) → n < length xs → g n ≡ f (get_or xs n d)) → map g (range_with_len 0 (length xs)) ≡ map f xs
by_places f g [] d each = refl
by_places f g (x ∷ xs) d each =
    ap₂ (λ y ys. y ∷ ys) (each 0 (omega arith))
    (map_shift g 0 (length xs) ∙ by_places f (λ n. g (n + 1)) xs d (λ n below. each (n + 1) (omega (arith, below)) ∙ ap (λ k. f (get_or (x ∷ xs) k d)) (add-one n)))

module _ (schema : Schema) (c : Condition Test) (r : List Row) where
  -- ---- the answers of skip indexes

  known_is : (blocks : List Known) (column block : ℕ) → known_by (is_unknown [] column) (slice_get blocks block) ≡ get_or blocks block known.Unknown
  known_is blocks column block =
      ap (λ u. known_by u (slice_get blocks block)) (get_or_past [] column false (omega arith)) ∙ unwrap_or-slice_get blocks block known.Unknown

  -- by what is kept of an index they are those of the rows
  answers_at : (n : ℕ) → chosen_by (index_of schema n r) c [] ≡ chosen_by_index schema c r (index_at schema n)
  answers_at n =
      let i = index_at schema n in
      let blocks = blocks_kept schema i r in
      let each : (granule : ℕ) → (can c (only_column i.column (known_by (is_unknown [] i.column) (slice_get blocks (granule / i.granularity))))).yes
      ≡ (can c (only_column i.column (get_or blocks (granule / i.granularity) known.Unknown))).yes =
      λ granule. ap (λ (k : Known). (can c (only_column i.column k)).yes) (known_is blocks i.column (granule / i.granularity)) in
      let alike : (λ (granule : ℕ). (can c (only_column i.column (known_by (is_unknown [] i.column) (slice_get blocks (granule / i.granularity))))).yes)
      ≡ (λ (granule : ℕ). (can c (only_column i.column (get_or blocks (granule / i.granularity) known.Unknown))).yes) =
      λ j. λ granule. each granule j in
      ap (λ (f : ℕ → Bool). map f (range_with_len 0 (granules schema.granularity (length r)))) alike

  answers_are : map (λ (index : Index). chosen_by index c []) (indexes_of schema r) ≡ map (chosen_by_index schema c r) schema.indexes
  answers_are =
      map-map (λ (index : Index). chosen_by index c []) (λ n. index_of schema n r) (range_with_len 0 (length schema.indexes))
      ∙ by_places (chosen_by_index schema c r) (λ n. chosen_by (index_of schema n r) c []) schema.indexes no_index (λ n below. answers_at n)

  -- what a plan chooses of a part that holds the rows is what they choose
  pub planned_is : {F : Type 0} (k : Kept (Part F)) → k.part.loaded ≡ loaded_of schema r → planned_part schema c k ≡ chosen_of_rows schema k.name.partition c r
  planned_is k is =
      ap (λ (l : Loaded). fold both (chosen_in schema k.name.partition c l.marks) (map (λ (index : Index). chosen_by index c []) l.indexes)) is
      ∙ ap (fold both (chosen_in schema k.name.partition c (mark_keys schema.primary schema.granularity r))) answers_are

  -- and with FINAL what their marks choose
  pub marked_is : {F : Type 0} (k : Kept (Part F)) → k.part.loaded ≡ loaded_of schema r → read_of schema true c k ≡ chosen_in schema k.name.partition c (mark_keys schema.primary schema.granularity r)
  marked_is k is = ap (λ (l : Loaded). chosen_in schema k.name.partition c l.marks) is

  -- each granule has an answer
  pub rows_count : (partition : Partition) → 0 < schema.granularity → length (chosen_of_rows schema partition c r) ≡ granules schema.granularity (length r)
  rows_count partition some =
      let first = chosen_in schema partition c (mark_keys schema.primary schema.granularity r) in
      narrowed_length (chosen_by_index schema c r) first schema.indexes (granules schema.granularity (length r)) (chosen_count schema partition c schema.primary schema.granularity r some)
      (λ i.
      length-map-range_with_len (λ (granule : ℕ). (can c (only_column i.column (get_or (blocks_kept schema i r) (granule / i.granularity) known.Unknown))).yes) 0 (granules schema.granularity (length r)))

  -- ---- what is skipped

  module _ (partition : Partition) (has : HasMarks schema) (indexed : HasIndexes schema) (sound : schema_fault schema ≡ None) (part : ArePartOf schema partition r)
      (named : All (λ (t : Test). t.column < length schema.columns) (tests_of c)) where
    -- the granules that these answers skip hold no match
    abbrev Skips : List Bool → Type 0
    Skips chosen = (k : ℕ) → slice_get chosen k ≡ Some false → filter (eval c) (take schema.granularity (drop (schema.granularity * k) r)) ≡ []

    index_skips : (n : ℕ) (i : SkipIndex) → slice_get schema.indexes n ≡ Some i → Skips (chosen_by_index schema c r i)
    index_skips n i there =
        let below = slice_get_within schema.indexes n i there in
        let same : chosen_by (index_of schema n r) c [] ≡ chosen_by_index schema c r i =
        answers_at n ∙ ap (chosen_by_index schema c r) (get_or_from_slice_get schema.indexes n i no_index there) in
        subst Skips same (skipped_block schema n c [] r r (indexed n below) part.typed part.typed refl (inr refl) named)

    rows_skip : Skips (chosen_of_rows schema partition c r)
    rows_skip =
        narrowed_skips (λ k. filter (eval c) (take schema.granularity (drop (schema.granularity * k) r)) ≡ []) (chosen_by_index schema c r)
        (chosen_in schema partition c (mark_keys schema.primary schema.granularity r)) schema.indexes (skipped_empty schema partition c r has sound part named) index_skips

    -- so the rows of the others are all that meet the condition
    pub rows_hold : filter (eval c) (chosen_of schema.granularity (chosen_of_rows schema partition c r) r) ≡ filter (eval c) r
    rows_hold =
        let g = schema.granularity in
        let chosen = chosen_of_rows schema partition c r in
        let covers = (div_ceil_times (length r) g has.granularity).0 in
        let turned : g * length chosen ≡ granules g (length r) * g = ap (λ n. g * n) (rows_count partition has.granularity) ∙ mul_comm g (granules g (length r)) in
        chosen_pass (eval c) g chosen r (omega (arith, covers, turned)) rows_skip
