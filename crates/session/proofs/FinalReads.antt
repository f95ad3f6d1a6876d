-- What FINAL reads of parts that stand for a table: they stand partition by partition, and the granules that are not read hide no match.
use Rattle.std.proofs.Common.{◌≡◌, ◌⊎◌, inl, inr, ℕ, zero, suc, ◌+◌, ◌<◌, ◌≤◌, Bool, true, false, List, [], ◌∷◌, All, Option, Some, None, get_or, length, map, refl, sym, ap, ◌∙◌, subst, arith}
use Rattle.std.specs.List.{AllByRecursion}
use Rattle.std.specs.List.Sorted.{IsSorted}
use Rattle.std.specs.Cmp.{nat_cmp_is}
use Rattle.std.specs.Ordering.{is_lt, nat_cmp, ordering_then}
use Rattle.std.specs.declared.cmp.Ordering.{Ordering}
use Rattle.std.specs.declared.cmp.Ordering.TheVariants.{Less}
use Rattle.std.proofs.lemmas.Bool.{cases_lt, false≢true}
use Rattle.std.proofs.lemmas.List.Elements.{All-weaker, recursion_from_All}
use Rattle.std.proofs.lemmas.List.Sorted.{sorted_far}
use Rattle.mt_base.specs.declared.partition.Partition.{Partition}
use Rattle.mt_base.specs.declared.partition.Partition.TheVariants.{Whole, Number}
use Rattle.mt_values.specs.declared.expr.Test.{Test}
use Rattle.mt_values.specs.declared.schema.Schema.{Schema}
use Rattle.mt_values.specs.Conditions.{tests_of}
use Rattle.mt_values.specs.Schemas.{column_types, schema_fault}
use Rattle.mt_values.specs.Tables.{partition_of, sorting_cmp}
use Rattle.mt_values.specs.Values.{Row, types_of}
use Rattle.mt_outside.specs.Files.{Files}
use Rattle.replies.specs.mt_model.Final.{FoldsAll}
use Rattle.replies.specs.mt_model.History.{History, IsLegal, schema_of}
use Rattle.replies.specs.mt_model.Live.{live}
use Rattle.replies.specs.mt_model.Partial.{MergesAll, Partly}
use Rattle.replies.proofs.MtModelMerged.{partly_then_folded}
use Rattle.final_fold.specs.part_history.declared.part.CorePart.{CorePart}
use Rattle.final_fold.specs.part_history.Parts.{AreInBlockOrder, PartStands, TableStands, block_cmp, partition_cmp}
use Rattle.final_fold.proofs.PartHistoryOrders.{block_weak}
use Rattle.final_fold.proofs.PartHistoryOwnRows.{own_rows}
use Rattle.merge_workers.specs.shared_store.part_reader.declared.reading.Part.{Part}
use Rattle.merge_workers.specs.shared_store.part_set.Parts.{partition_rank}
use Rattle.merge_workers.specs.shared_store.part_set.declared.kept.Kept.{Kept}
use Rattle.final_fold.specs.select_plan.primary_marks.Choosing.{ArePartOf}
use Rattle.final_fold.specs.select_plan.primary_marks.Keys.{HasMarks}
use Rattle.final_fold.proofs.PrimaryMarksSkippedGranules.{chosen_count}
use Rattle.merge_workers.specs.shared_store.root_store.Stores.{core_part, core_parts}
use Rattle.final_fold.specs.select_plan.Plans.{read_of}
use Rattle.final_fold.proofs.SelectPlanFoldedMatches.{folded_chosen}
use Rattle.final_fold.specs.declared.asking.Wanted.{Wanted}
use Rattle.final_fold.specs.Folded.{AreOfPartitions, SkipNoFold, SkipsNoFold, StandByPartition}
use Rattle.final_fold.specs.row_merge.MergedParts.{PartsHold}
use Rattle.final_fold.specs.Scans.{joined_rows}
use Rattle.final_fold.proofs.FoldedAll.{partly_folds}
use Rattle.final_fold.proofs.HidingGranules.{chosen_hide}
use Rattle.final_fold.specs.rule_law.TableRows.{IsTableRow}
use Rattle.final_fold.proofs.RuleLawPartlyRows.{partly_table}
use Rattle.final_fold.proofs.RowMergeHistoryRows.{are_part_rows, same_schema, table_rows}
use Rattle.session.proofs.Planned.{marked_is}

-- ---- partition by partition

-- a part that does not come before another has no lesser partition
no_lesser : (a b : Partition) (o : Ordering) → is_lt (ordering_then (partition_cmp b a) o) ≡ false → partition_rank a ≤ partition_rank b
no_lesser Whole b o e = omega arith
no_lesser (Number m) Whole o e = cc
no_lesser (Number m) (Number n) o e = by (cases_lt n m)
  where
    by : (n < m) ⊎ (m ≤ n) → m + 1 ≤ n + 1
    by (inl below) =
        let less : Less ≡ nat_cmp n m = nat_cmp_is n m Less below in
        absurd (false≢true (sym e ∙ ap (λ (c : Ordering). is_lt (ordering_then c o)) (sym less)))
    by (inr up) = omega (arith, up)

module _ {F : Type 0} (files_of : F → Option Files) (schema : Schema) (table : List ℕ) where
  name_at : (kept : List (Kept (Part F))) (rows : List (List Row)) → PartsHold files_of schema kept rows → (i : ℕ) (d : Kept (Part F)) (c : CorePart) → c.name ≡ d.name
      → (get_or (core_parts table kept rows) i c).name ≡ (get_or kept i d).name
  name_at [] [] hold i d c same = same
  name_at [] (r ∷ rows) hold i d c same = absurd hold
  name_at (k ∷ kept) [] hold i d c same = absurd hold
  name_at (k ∷ kept) (r ∷ rows) hold zero d c same = refl
  name_at (k ∷ kept) (r ∷ rows) hold (suc i) d c same = name_at kept rows hold.1 i d c same

  as_many : (kept : List (Kept (Part F))) (rows : List (List Row)) → PartsHold files_of schema kept rows → length (core_parts table kept rows) ≡ length kept
  as_many [] [] hold = refl
  as_many [] (r ∷ rows) hold = absurd hold
  as_many (k ∷ kept) [] hold = absurd hold
  as_many (k ∷ kept) (r ∷ rows) hold = ap suc (as_many kept rows hold.1)

  -- parts in block order stand partition by partition
  pub stand_parted : (kept : List (Kept (Part F))) (rows : List (List Row)) → PartsHold files_of schema kept rows → AreInBlockOrder (core_parts table kept rows) → StandByPartition kept
  stand_parted kept rows hold order = λ i j d up below.
      let parts = core_parts table kept rows in
      let c = core_part table d [] in
      let far = sorted_far (λ a b. is_lt (block_cmp a b)) block_weak parts order i j c (omega (arith, up)) (omega (arith, below, as_many kept rows hold)) in
      let first = name_at kept rows hold i d c refl in
      let later = name_at kept rows hold j d c refl in
      let ranks = no_lesser (get_or parts i c).name.partition (get_or parts j c).name.partition (nat_cmp (get_or parts j c).name.min_block (get_or parts i c).name.min_block) far in
      subst (λ n. partition_rank n.partition ≤ partition_rank (get_or kept j d).name.partition) first
      (subst (λ n. partition_rank (get_or parts i c).name.partition ≤ partition_rank n.partition) later ranks)

-- ---- what is not read

module _ {F : Type 0} (files_of : F → Option Files) (w : Wanted) (h : History) (table : List ℕ) (has : HasMarks w.schema.now) (sound : schema_fault w.schema.now ≡ None)
    (there : schema_of table h ≡ Some w.schema.now) (named : All (λ (t : Test). t.column < length w.schema.now.columns) (tests_of w.condition.now)) where
  -- the rows of a part are of its partition
  abbrev Own : CorePart → Type 0
  Own p = All (λ (r : Row). partition_of w.schema.now r ≡ p.name.partition) p.rows

  -- the granules of parts that stand for a table that the marks do not choose hide no match
  pub skip_no_fold : (kept : List (Kept (Part F))) (rows : List (List Row)) → PartsHold files_of w.schema.now kept rows
      → AllByRecursion (λ (p : CorePart). p.table ≡ table) (core_parts table kept rows)
      → AllByRecursion (PartStands h) (core_parts table kept rows) → AllByRecursion Own (core_parts table kept rows)
      → SkipNoFold w (map (read_of w.schema.now true w.condition.now) kept) rows
  skip_no_fold [] [] hold tables stands own = tt
  skip_no_fold [] (r ∷ rows) hold tables stands own = absurd hold
  skip_no_fold (k ∷ kept) [] hold tables stands own = absurd hold
  skip_no_fold (k ∷ kept) (r ∷ rows) hold tables stands own =
      let schema = w.schema.now in
      let c = w.condition.now in
      let same : stands.0.schema ≡ schema = same_schema stands.0.schema schema (sym stands.0.there ∙ (ap (λ t. schema_of t h) tables.0 ∙ there)) in
      let part : ArePartOf schema k.name.partition r = record {
        typed = hold.0.typed;
        rising = subst (λ (s : Schema). IsSorted (sorting_cmp s) r) same stands.0.stands.rising;
        parted = own.0;
      } in
      let marks = marked_is schema c r k hold.0.loaded_is in
      let skips : SkipsNoFold w (read_of schema true c k) r = subst (λ (b : List Bool). SkipsNoFold w b r) (sym marks) (record {
        said = chosen_count schema k.name.partition c schema.primary schema.granularity r has.granularity;
        hides = chosen_hide w k.name.partition r _ (λ row typed parted meets granule any. folded_chosen schema row k.name.partition c r has sound part named typed parted meets granule any) own.0;
      }) in
      (skips, skip_no_fold kept rows hold.1 tables.1 stands.1 own.1)

-- ---- the rows that parts hold

module _ {F : Type 0} (files_of : F → Option Files) (h : History) (legal : IsLegal h) (table : List ℕ) (schema : Schema) (there : schema_of table h ≡ Some schema) where
  parts_own : (kept : List (Kept (Part F))) (rows : List (List Row)) → PartsHold files_of schema kept rows
      → AllByRecursion (λ (p : CorePart). p.table ≡ table) (core_parts table kept rows)
      → AllByRecursion (PartStands h) (core_parts table kept rows) → AllByRecursion (λ (p : CorePart). All (λ (r : Row). partition_of schema r ≡ p.name.partition) p.rows) (core_parts table kept rows)
      → AreOfPartitions schema kept rows
  parts_own [] [] hold tables stands own = tt
  parts_own [] (r ∷ rows) hold tables stands own = absurd hold
  parts_own (k ∷ kept) [] hold tables stands own = absurd hold
  parts_own (k ∷ kept) (r ∷ rows) hold tables stands own =
      (are_part_rows h legal schema (core_part table k r) (ap (λ t. schema_of t h) tables.0 ∙ there) stands.0 own.0, parts_own kept rows hold.1 tables.1 stands.1 own.1)

  -- those of parts that stand for a table are rows of their partitions
  pub are_of_partitions : (kept : List (Kept (Part F))) (rows : List (List Row)) → PartsHold files_of schema kept rows → TableStands table (core_parts table kept rows) h → AreOfPartitions schema kept rows
  are_of_partitions kept rows hold stand =
      let ps = core_parts table kept rows in
      parts_own kept rows hold (recursion_from_All (λ (p : CorePart). p.table ≡ table) ps stand.own) (recursion_from_All (PartStands h) ps stand.each)
      (recursion_from_All (λ (p : CorePart). All (λ (r : Row). partition_of schema r ≡ p.name.partition) p.rows) ps (own_rows h legal table schema ps there stand))

  -- and what a merge of all of them leaves is what FINAL may leave of the table's live rows
  pub folded_of : (rows : List (List Row)) (out : List Row) → Partly schema (live table schema h) (joined_rows rows) → MergesAll schema (joined_rows rows) out → FoldsAll schema (live table schema h) out
  folded_of rows out partly merges = partly_folds schema (live table schema h) (joined_rows rows) out (table_rows h legal table schema there) partly merges

  pub folded_typed : (rows : List (List Row)) (out : List Row) → Partly schema (live table schema h) (joined_rows rows) → MergesAll schema (joined_rows rows) out → All (λ (r : Row). types_of r ≡ column_types schema) out
  folded_typed rows out partly merges =
      All-weaker (IsTableRow schema) (λ (r : Row). types_of r ≡ column_types schema) (λ r is. is.typed) out
      (partly_table schema (live table schema h) out (table_rows h legal table schema there) (partly_then_folded schema (live table schema h) (joined_rows rows) out partly merges))
