-- Each row that meets a condition is in a granule that the plan chooses, and each of a granule in which a conjunct is not asked meets that.
use Rattle.std.proofs.Common.{◌≡◌, ◌<◌, ◌+◌, ◌*◌, ℕ, suc, Bool, true, false, not, ◌&&◌, List, [], ◌∷◌, length, map, take, drop, slice_get, refl, sym, ap, ◌∙◌, subst, Option, Some, arith, mul-zero}
use Rattle.std.proofs.Math.Nat.{mul-suc}
use Rattle.std.specs.List.{All, AllByRecursion, AllZip, filter, zip as pairs}
use Rattle.std.specs.List.Sorted.{IsSorted}
use Rattle.std.proofs.lemmas.List.{drop-drop}
use Rattle.std.proofs.lemmas.List.Elements.{All-append, All-cons, All-head, All-nil, All-tail, recursion_from_All}
use Rattle.mt_values.specs.declared.expr.Test.{Test}
use Rattle.mt_values.specs.declared.schema.Schema.{Schema}
use Rattle.mt_values.specs.Conditions.{Condition, Always, And, Holds, Not, Or, conjuncts_of, tests_of}
use Rattle.mt_values.specs.Granules.{chosen_of, granules, mark_keys}
use Rattle.mt_values.specs.Tables.{partition_of, sorting_cmp}
use Rattle.mt_values.specs.Tests.{eval}
use Rattle.mt_values.specs.Values.{Row}
use Rattle.mt_outside.specs.Files.{Files}
use Rattle.replies.specs.mt_model.History.{History, IsLegal, IsTableSchema, schema_of}
use Rattle.final_fold.specs.part_history.declared.part.CorePart.{CorePart}
use Rattle.final_fold.specs.part_history.Parts.{PartStands, TableStands}
use Rattle.final_fold.proofs.PartHistoryOwnRows.{own_rows}
use Rattle.merge_workers.specs.shared_store.part_reader.declared.reading.Part.{Part}
use Rattle.merge_workers.specs.shared_store.part_set.declared.kept.Kept.{Kept}
use Rattle.merge_workers.specs.shared_store.part_writer.declared.loaded.Loaded.{Loaded}
use Rattle.merge_workers.specs.shared_store.part_writer.PartFiles.{loaded_of}
use Rattle.replies.specs.predicate.Granules.{asked_in}
use Rattle.replies.specs.predicate.Masks.{both}
use Rattle.final_fold.specs.select_plan.primary_marks.Choosing.{ArePartOf}
use Rattle.final_fold.proofs.PrimaryMarksSkippedGranules.{asked_count, chosen_count, sure_meet}
use Rattle.merge_workers.proofs.RootStoreTableIndexes.{has_indexes}
use Rattle.merge_workers.proofs.RootStoreTableMarks.{has_marks}
use Rattle.merge_workers.specs.shared_store.root_store.Stores.{core_parts}
use Rattle.final_fold.specs.select_plan.Plans.{asked_of, asked_part, planned_part, read_of}
use Rattle.final_fold.proofs.RowMergeHistoryRows.{same_schema}
use Rattle.final_fold.specs.Asked.{MeetUnasked, unasked_of}
use Rattle.final_fold.specs.row_merge.MergedParts.{PartsHold}
use Rattle.session.proofs.Planned.{marked_is, planned_is, rows_count, rows_hold}
use Rattle.session.proofs.Stacking.{all_after, all_before}

module _ {F : Type 0} (files_of : F → Option Files) (schema : Schema) (c : Condition Test) where
  -- a plan says of each granule of a part that holds rows whether it is chosen
  reads_count_of : (is_final : Bool) (k : Kept (Part F)) (r : List Row) → 0 < schema.granularity → k.part.loaded ≡ loaded_of schema r → length (read_of schema is_final c k) ≡ granules schema.granularity (length r)
  reads_count_of true k r some loaded = ap length (marked_is schema c r k loaded) ∙ chosen_count schema k.name.partition c schema.primary schema.granularity r some
  reads_count_of false k r some loaded = ap length (planned_is schema c r k loaded) ∙ rows_count schema c r k.name.partition some

  -- and of each part
  pub reads_count : (is_final : Bool) (kept : List (Kept (Part F))) (rows : List (List Row)) → 0 < schema.granularity → PartsHold files_of schema kept rows
      → AllZip (λ (b : List Bool) (r : List Row). length b ≡ granules schema.granularity (length r)) (map (read_of schema is_final c) kept) rows
  reads_count is_final [] [] some h = tt
  reads_count is_final [] (r ∷ rows) some h = absurd h
  reads_count is_final (k ∷ kept) [] some h = absurd h
  reads_count is_final (k ∷ kept) (r ∷ rows) some h = (reads_count_of is_final k r some h.0.loaded_is, reads_count is_final kept rows some h.1)

  module _ (h : History) (table : List ℕ) (fits : IsTableSchema schema) (there : schema_of table h ≡ Some schema)
      (below : All (λ (t : Test). t.column < length schema.columns) (tests_of c)) where
    -- the rows of a part are of its partition
    abbrev Own : CorePart → Type 0
    Own p = All (λ (r : Row). partition_of schema r ≡ p.name.partition) p.rows

    zip : (kept : List (Kept (Part F))) (rows : List (List Row)) → PartsHold files_of schema kept rows
        → AllByRecursion (λ (p : CorePart). p.table ≡ table) (core_parts table kept rows)
        → AllByRecursion (PartStands h) (core_parts table kept rows) → AllByRecursion Own (core_parts table kept rows)
        → AllZip (λ (b : List Bool) (r : List Row). filter (eval c) (chosen_of schema.granularity b r) ≡ filter (eval c) r) (map (planned_part schema c) kept) rows
    zip [] [] hold tables stands own = tt
    zip [] (r ∷ rows) hold tables stands own = absurd hold
    zip (k ∷ kept) [] hold tables stands own = absurd hold
    zip (k ∷ kept) (r ∷ rows) hold tables stands own =
        let same : stands.0.schema ≡ schema = same_schema stands.0.schema schema (sym stands.0.there ∙ (ap (λ t. schema_of t h) tables.0 ∙ there)) in
        let sorted : ArePartOf schema k.name.partition r = record {
          typed = hold.0.typed;
          rising = subst (λ (s : Schema). IsSorted (sorting_cmp s) r) same stands.0.stands.rising;
          parted = own.0;
        } in (
          ap (λ (b : List Bool). filter (eval c) (chosen_of schema.granularity b r)) (planned_is schema c r k hold.0.loaded_is)
              ∙ rows_hold schema c r k.name.partition (has_marks schema fits) (has_indexes schema fits) fits.sound sorted below,
          zip kept rows hold.1 tables.1 stands.1 own.1,
        )

    -- each match of parts that stand for a table is in a granule that the plan chooses
    pub plans_hold : (kept : List (Kept (Part F))) (rows : List (List Row)) → IsLegal h → PartsHold files_of schema kept rows → TableStands table (core_parts table kept rows) h
        → AllZip (λ (b : List Bool) (r : List Row). filter (eval c) (chosen_of schema.granularity b r) ≡ filter (eval c) r) (map (planned_part schema c) kept) rows
    plans_hold kept rows legal hold stand =
        let ps = core_parts table kept rows in
        zip kept rows hold (recursion_from_All (λ (p : CorePart). p.table ≡ table) ps stand.own) (recursion_from_All (PartStands h) ps stand.each)
        (recursion_from_All Own ps (own_rows h legal table schema ps there stand))

-- ---- where a conjunct is not asked

-- granules that are chosen and not asked have only items of which this holds, where those that are not asked have
sure_chosen : {X : Type 0} (P : X → Type 0) (g : ℕ) (chosen unsure : List Bool) (xs : List X) → length chosen ≡ length unsure
    → ((k : ℕ) → slice_get unsure k ≡ Some false → All P (take g (drop (g * k) xs))) → All P (chosen_of g (unasked_of chosen (both unsure chosen)) xs)
sure_chosen P g [] [] xs even sure = All-nil P
sure_chosen P g [] (u ∷ unsure) xs even sure = absurd (omega (arith, even))
sure_chosen P g (c ∷ chosen) [] xs even sure = absurd (omega (arith, even))
sure_chosen P g (c ∷ chosen) (u ∷ unsure) xs even sure =
    by c u (λ is. subst (λ n. All P (take g (drop n xs))) (mul-zero g) (sure 0 (ap Some is)))
    (sure_chosen P g chosen unsure (drop g xs) (omega (arith, even))
    (λ k is. subst (λ ys. All P (take g ys)) (ap (λ n. drop n xs) (further g k) ∙ sym (drop-drop (g * k) g xs)) (sure (suc k) is)))
  where
    further : (g k : ℕ) → g * suc k ≡ g + g * k
    further g k = omega (arith, mul-suc g k)

    by : (c u : Bool) → (u ≡ false → All P (take g xs)) → All P (chosen_of g (unasked_of chosen (both unsure chosen)) (drop g xs)) → All P (chosen_of g ((c && not (u && c)) ∷ unasked_of chosen (both unsure chosen)) xs)
    by false u own rest = rest
    by true true own rest = rest
    by true false own rest = All-append P (take g xs) (chosen_of g (unasked_of chosen (both unsure chosen)) (drop g xs)) (own refl) rest

-- what holds of each test of a condition holds of those of its conjuncts
conjuncts_all : (P : Test → Type 0) (c : Condition Test) → All P (tests_of c) → All (λ (d : Condition Test). All P (tests_of d)) (conjuncts_of c)
conjuncts_all P Always all = All-cons (λ (d : Condition Test). All P (tests_of d)) Always [] all (All-nil (λ (d : Condition Test). All P (tests_of d)))
conjuncts_all P (Holds t) all = All-cons (λ (d : Condition Test). All P (tests_of d)) (Holds t) [] all (All-nil (λ (d : Condition Test). All P (tests_of d)))
conjuncts_all P (Not a) all = All-cons (λ (d : Condition Test). All P (tests_of d)) (Not a) [] all (All-nil (λ (d : Condition Test). All P (tests_of d)))
conjuncts_all P (Or a b) all = All-cons (λ (d : Condition Test). All P (tests_of d)) (Or a b) [] all (All-nil (λ (d : Condition Test). All P (tests_of d)))
conjuncts_all P (And a b) all =
    All-append (λ (d : Condition Test). All P (tests_of d)) (conjuncts_of a) (conjuncts_of b)
    (conjuncts_all P a (all_before P (tests_of a) (tests_of b) all)) (conjuncts_all P b (all_after P (tests_of a) (tests_of b) all))

-- of each with what is made of it
each_made : {X Y : Type 0} (Q : X → Type 0) (R : X → Y → Type 0) (f : X → Y) → ((x : X) → Q x → R x (f x)) → (xs : List X) → All Q xs → AllZip R xs (map f xs)
each_made Q R f turn [] all = tt
each_made Q R f turn (x ∷ xs) all = (turn x (All-head Q x xs all), each_made Q R f turn xs (All-tail Q x xs all))

module _ {F : Type 0} (files_of : F → Option Files) (schema : Schema) (c : Condition Test) (h : History) (table : List ℕ) (fits : IsTableSchema schema) (there : schema_of table h ≡ Some schema)
    (below : All (λ (t : Test). t.column < length schema.columns) (tests_of c)) where
  -- of a part
  part_sure : (k : Kept (Part F)) (r : List Row) → k.part.loaded ≡ loaded_of schema r → ArePartOf schema k.name.partition r
      → MeetUnasked schema.granularity (planned_part schema c k) (conjuncts_of c) (asked_part schema c k) r
  part_sure k r loaded part =
      let marks : k.part.loaded.marks ≡ mark_keys schema.primary schema.granularity r = ap (λ (l : Loaded). l.marks) loaded in
      let some = (has_marks schema fits).granularity in
      each_made (λ (d : Condition Test). All (λ (t : Test). t.column < length schema.columns) (tests_of d)) (λ d a. All (λ (row : Row). eval d row ≡ true) (chosen_of schema.granularity (unasked_of (planned_part schema c k) a) r)) (asked_of schema c k)
      (λ d named.
      sure_chosen (λ (row : Row). eval d row ≡ true) schema.granularity (planned_part schema c k) (asked_in schema k.name.partition d k.part.loaded.marks) r
      ((ap length (planned_is schema c r k loaded) ∙ rows_count schema c r k.name.partition some)
      ∙ sym (ap (λ keys. length (asked_in schema k.name.partition d keys)) marks ∙ asked_count schema k.name.partition d schema.primary schema.granularity r some))
      (λ granule is. sure_meet schema k.name.partition d r (has_marks schema fits) fits.sound part named granule (ap (λ keys. slice_get (asked_in schema k.name.partition d keys) granule) (sym marks) ∙ is)))
      (conjuncts_of c) (conjuncts_all (λ (t : Test). t.column < length schema.columns) c below)

  zip_sure : (kept : List (Kept (Part F))) (rows : List (List Row)) → PartsHold files_of schema kept rows
      → AllByRecursion (λ (p : CorePart). p.table ≡ table) (core_parts table kept rows)
      → AllByRecursion (PartStands h) (core_parts table kept rows) → AllByRecursion (λ (p : CorePart). All (λ (r : Row). partition_of schema r ≡ p.name.partition) p.rows) (core_parts table kept rows)
      → AllZip (λ (p : List Bool × List (List Bool)) (r : List Row). MeetUnasked schema.granularity p.0 (conjuncts_of c) p.1 r) (pairs (map (planned_part schema c) kept) (map (asked_part schema c) kept)) rows
  zip_sure [] [] hold tables stands own = tt
  zip_sure [] (r ∷ rows) hold tables stands own = absurd hold
  zip_sure (k ∷ kept) [] hold tables stands own = absurd hold
  zip_sure (k ∷ kept) (r ∷ rows) hold tables stands own =
      let same : stands.0.schema ≡ schema = same_schema stands.0.schema schema (sym stands.0.there ∙ (ap (λ t. schema_of t h) tables.0 ∙ there)) in
      let sorted : ArePartOf schema k.name.partition r = record {
        typed = hold.0.typed;
        rising = subst (λ (s : Schema). IsSorted (sorting_cmp s) r) same stands.0.stands.rising;
        parted = own.0;
      } in (
        part_sure k r hold.0.loaded_is sorted,
        zip_sure kept rows hold.1 tables.1 stands.1 own.1,
      )

  -- of parts that stand for a table each row of a chosen granule in which the plan does not ask a conjunct meets it
  pub plans_sure : (kept : List (Kept (Part F))) (rows : List (List Row)) → IsLegal h → PartsHold files_of schema kept rows → TableStands table (core_parts table kept rows) h
      → AllZip (λ (p : List Bool × List (List Bool)) (r : List Row). MeetUnasked schema.granularity p.0 (conjuncts_of c) p.1 r) (pairs (map (planned_part schema c) kept) (map (asked_part schema c) kept)) rows
  plans_sure kept rows legal hold stand =
      let ps = core_parts table kept rows in
      zip_sure kept rows hold (recursion_from_All (λ (p : CorePart). p.table ≡ table) ps stand.own) (recursion_from_All (PartStands h) ps stand.each)
      (recursion_from_All (λ (p : CorePart). All (λ (r : Row). partition_of schema r ≡ p.name.partition) p.rows) ps (own_rows h legal table schema ps there stand))
