-- Rows of a table can always be merged, key by key.
use Rattle.std.proofs.Common.{◌≡◌, ℕ, zero, suc, ◌<◌, ◌≤◌, ◌&&◌, Bool, true, false, not, cond, List, [], ◌∷◌, ◌++◌, All, filter, get_or, length, refl, sym, ap, ap₂, ◌∙◌, subst, subst₂, arith, Option, None, Some}
use Rattle.std.specs.Cmp.Lexicographic.{slice_cmp}
use Rattle.std.specs.FinMap.{slice_cmp-IsAntisymmetric}
use Rattle.std.specs.Ordering.{is_eq}
use Rattle.std.specs.declared.cmp.Ordering.{Ordering}
use Rattle.std.specs.declared.cmp.Ordering.TheVariants.{Less, Equal, Greater}
use Rattle.std.proofs.lemmas.List.Elements.{All-filter, All-head, All-tail, All-weaker, filter_passes}
use Rattle.mt_base.specs.declared.partition.Partition.{Partition}
use Rattle.mt_values.specs.declared.engine.Aggregate.{Aggregate}
use Rattle.mt_values.specs.declared.engine.Engine.{Engine}
use Rattle.mt_values.specs.declared.engine.Engine.TheVariants as engine
use Rattle.mt_values.specs.declared.schema.Schema.{Schema}
use Rattle.mt_values.specs.declared.value.ColType.{ColType}
use Rattle.mt_values.specs.declared.value.Value.{Value}
use Rattle.mt_values.specs.Order.{key_cmp, key_of, value_cmp}
use Rattle.mt_values.specs.Schemas.{column_types}
use Rattle.mt_values.specs.Tables.{partition_of, same_partition, sorting_cmp, sorting_columns}
use Rattle.mt_values.specs.Values.{Row}
use Rattle.mt_values.proofs.Orders.{value_exact}
use Rattle.row_merge.specs.mt_model.Folding.{Leaves}
use Rattle.row_merge.specs.mt_model.History.{IsTableSchema}
use Rattle.row_merge.specs.mt_model.Live.{of_key}
use Rattle.row_merge.specs.mt_model.Partial.{MergesAll, TableRun, functions_of}
use Rattle.row_merge.specs.mt_model.Rules.{Run}
use Rattle.row_merge.proofs.MtModelCommands.{partition_is}
use Rattle.row_merge.specs.rule_law.TableRows.{IsRowOf, IsTableRow}
use Rattle.row_merge.proofs.RuleLawAggregated.{TakesRow, aggregating_keeps}
use Rattle.row_merge.proofs.RuleLawApartColumns.{partition_apart, sorting_apart}
use Rattle.row_merge.proofs.RuleLawKept.{collapsing_keeps, plain_keeps, replacing_keeps, versioned_keeps}
use Rattle.row_merge.proofs.RuleLawOneSum.{summing_keeps}
use Rattle.row_merge.proofs.RuleLawTableRows.{IsApart, even_columns, run_partition}
use Rattle.final_fold.specs.Keys.{SaysOfKeys, is_of_key}
use Rattle.final_fold.proofs.KeyTests.{merged_apart, no_clash, of_itself}
use Rattle.final_fold.proofs.SomeRun.{run_of_some}

equal_is : (o : Ordering) → is_eq o ≡ true → o ≡ Equal
equal_is Less e = cc
equal_is Equal e = refl
equal_is Greater e = cc

-- rows that are alike in the order have one key
pub key_same : (places : List ℕ) (a b : Row) → is_eq (key_cmp places a b) ≡ true → key_of places a ≡ key_of places b
key_same places a b is = slice_cmp-IsAntisymmetric value_exact (key_of places a) (key_of places b) (equal_is (key_cmp places a b) is)

both_left : (a b : Bool) → (a && b) ≡ true → a ≡ true
both_left true b h = refl
both_left false b h = h

both_right : (a b : Bool) → (a && b) ≡ true → b ≡ true
both_right true b h = h
both_right false b h = absurd (no_clash (sym h))

-- ---- one key

module _ (schema : Schema) where
  -- a row of a partition and key has the partition
  pub of_partition : (partition : Partition) (row r : Row) → is_of_key schema partition row r ≡ true → partition_of schema r ≡ partition
  of_partition partition row r is = partition_is (partition_of schema r) partition (both_left (same_partition (partition_of schema r) partition) (is_eq (sorting_cmp schema row r)) is)

  -- and the key
  pub of_sorting : (partition : Partition) (row r : Row) → is_of_key schema partition row r ≡ true → key_of (sorting_columns schema) r ≡ key_of (sorting_columns schema) row
  of_sorting partition row r is =
      sym (key_same (sorting_columns schema) row r (both_right (same_partition (partition_of schema r) partition) (is_eq (sorting_cmp schema row r)) is))

  -- of rows of one partition and key a test by these says the same
  pub same_test : (partition : Partition) (row a b : Row) → partition_of schema a ≡ partition_of schema b → key_of (sorting_columns schema) a ≡ key_of (sorting_columns schema) b
      → is_of_key schema partition row a ≡ is_of_key schema partition row b
  same_test partition row a b p k =
      ap₂ (λ (q : Partition) (key : List Value). same_partition q partition && is_eq (slice_cmp value_cmp (key_of (sorting_columns schema) row) key)) p k

  -- the test of a row's partition and key says the same of all rows of one
  pub says_row : (r : Row) → SaysOfKeys schema (is_of_key schema (partition_of schema r) r)
  says_row r = λ partition row. (
    same_partition partition (partition_of schema r) && is_eq (sorting_cmp schema r row),
    λ x is. ap₂ (λ (q : Partition) (key : List Value). same_partition q (partition_of schema r) && is_eq (slice_cmp value_cmp (key_of (sorting_columns schema) r) key))
        (of_partition partition row x is) (of_sorting partition row x is),
  )

  all_pass : (p : Row → Bool) (rows : List Row) → All (λ x. p x ≡ true) rows → filter p rows ≡ rows
  all_pass p [] all = refl
  all_pass p (x ∷ rows) all =
      ap (λ b. cond b (x ∷ filter p rows) (filter p rows)) (All-head (λ y. p y ≡ true) x rows all) ∙ ap (λ zs. x ∷ zs) (all_pass p rows (All-tail (λ y. p y ≡ true) x rows all))

  all_fail : (p : Row → Bool) (rows : List Row) → All (λ x. p x ≡ false) rows → filter p rows ≡ []
  all_fail p [] all = refl
  all_fail p (x ∷ rows) all =
      ap (λ b. cond b (x ∷ filter p rows) (filter p rows)) (All-head (λ y. p y ≡ false) x rows all) ∙ all_fail p rows (All-tail (λ y. p y ≡ false) x rows all)

  run_leaves : (rows out : List Row) → 0 < length rows → TableRun schema rows out → Leaves (TableRun schema) rows out
  run_leaves [] out some h = absurd (omega arith)
  run_leaves (row ∷ rows) out some h = h

  -- one merge of rows of one key is one of all of them
  merged_key : (r : Row) (rows out : List Row) → 0 < length rows → All (λ x. is_of_key schema (partition_of schema r) r x ≡ true) rows → All (λ x. is_of_key schema (partition_of schema r) r x ≡ true) out
      → TableRun schema rows out → MergesAll schema rows out
  merged_key r rows out some own left run = λ partition row. by partition row (is_of_key schema partition row r) refl
    where
      says : (partition : Partition) (row : Row) (b : Bool) → is_of_key schema partition row r ≡ b → (xs : List Row) → All (λ x. is_of_key schema (partition_of schema r) r x ≡ true) xs
          → All (λ x. is_of_key schema partition row x ≡ b) xs
      says partition row b is xs all =
          All-weaker (λ x. is_of_key schema (partition_of schema r) r x ≡ true) (λ x. is_of_key schema partition row x ≡ b)
          (λ x e. same_test partition row x r (of_partition (partition_of schema r) r x e) (of_sorting (partition_of schema r) r x e) ∙ is) xs all

      by : (partition : Partition) (row : Row) (b : Bool) → is_of_key schema partition row r ≡ b → Leaves (TableRun schema) (of_key schema partition row rows) (of_key schema partition row out)
      by partition row true is =
          subst₂ (Leaves (TableRun schema)) (sym (all_pass (is_of_key schema partition row) rows (says partition row true is rows own)))
          (sym (all_pass (is_of_key schema partition row) out (says partition row true is out left))) (run_leaves rows out some run)
      by partition row false is =
          subst (λ zs. Leaves (TableRun schema) zs (of_key schema partition row out)) (sym (all_fail (is_of_key schema partition row) rows (says partition row false is rows own)))
          (all_fail (is_of_key schema partition row) out (says partition row false is out left))

-- ---- what a merge leaves of a key has the key

module _ (functions : List (Option Aggregate)) (types : List ColType) (even : length functions ≡ length types) (places : List ℕ) (key : List Value) where
  abbrev Keyed : Row → Type 0
  Keyed row = key_of places row ≡ key

  run_keeps : (e : Engine) (rows out : List Row) → All (IsApart e functions) places → 0 < length rows → All (IsRowOf e types) rows → All (λ row. key_of places row ≡ key) rows → Run e functions rows out → All (λ row. key_of places row ≡ key) out
  run_keeps engine.Plain rows out apart some own all h = plain_keeps Keyed rows out all h
  run_keeps (engine.Replacing None) rows out apart some own all h = replacing_keeps Keyed None rows out all h
  run_keeps (engine.Replacing (Some version)) rows out apart some own all h = replacing_keeps Keyed (Some version) rows out all h
  run_keeps (engine.Summing summed) rows out apart some own all h = summing_keeps summed types places key rows out apart all h
  run_keeps (engine.Collapsing sign) rows out apart some own all h = collapsing_keeps Keyed sign rows out all h
  run_keeps (engine.Versioned sign version) rows out apart some own all h = versioned_keeps Keyed sign version rows out all h
  run_keeps engine.Aggregating rows out apart some own all h =
      aggregating_keeps types functions places key rows out apart some (All-weaker (IsRowOf engine.Aggregating types) (TakesRow types functions) (λ r is. (is.typed, even)) rows own) all h

module _ (schema : Schema) (table : IsTableSchema schema) where
  still_of_key : (r : Row) (rows out : List Row) → 0 < length rows → All (IsTableRow schema) rows → All (λ x. is_of_key schema (partition_of schema r) r x ≡ true) rows → TableRun schema rows out
      → All (λ x. is_of_key schema (partition_of schema r) r x ≡ true) out
  still_of_key r rows out some own all h =
      let parted = run_partition schema (partition_of schema r) rows out (partition_apart schema table) some own
      (All-weaker (λ x. is_of_key schema (partition_of schema r) r x ≡ true) (λ x. partition_of schema x ≡ partition_of schema r) (of_partition schema (partition_of schema r) r) rows all) h in
      let keyed = run_keeps (functions_of schema) (column_types schema) (even_columns schema) (sorting_columns schema) (key_of (sorting_columns schema) r) schema.engine rows out (sorting_apart schema table) some own
      (All-weaker (λ x. is_of_key schema (partition_of schema r) r x ≡ true) (λ x. key_of (sorting_columns schema) x ≡ key_of (sorting_columns schema) r) (of_sorting schema (partition_of schema r) r) rows all) h in
      λ k d below. same_test schema (partition_of schema r) r (get_or out k d) r (parted k d below) (keyed k d below) ∙ of_itself schema r

  -- what may be left of one key's rows
  key_merged : (r : Row) (rows : List Row) → 0 < length rows → All (IsTableRow schema) rows → All (λ x. is_of_key schema (partition_of schema r) r x ≡ true) rows → (out : List Row) × MergesAll schema rows out
  key_merged r [] some own all = absurd (omega arith)
  key_merged r (row ∷ rows) some own all =
      let run = run_of_some (functions_of schema) (column_types schema) (even_columns schema) schema.engine row rows own in
      (run.0, merged_key schema r (row ∷ rows) run.0 some all (still_of_key r (row ∷ rows) run.0 some own all run.1) run.1)

  fewer : (p : Row → Bool) (rows : List Row) → length (filter p rows) ≤ length rows
  fewer p [] = omega arith
  fewer p (x ∷ rows) = by (p x) (fewer p rows)
    where
      by : (b : Bool) → length (filter p rows) ≤ length rows → length (cond b (x ∷ filter p rows) (filter p rows)) ≤ length (x ∷ rows)
      by true few = omega (arith, few)
      by false few = omega (arith, few)

  abbrev other : Row → Row → Bool
  other r x = not (is_of_key schema (partition_of schema r) r x)

  -- the rows of the first row's key, and the others
  with_first : (r : Row) (rows : List Row) → All (IsTableRow schema) (r ∷ rows) → (out : List Row) × MergesAll schema (filter (λ x. not (is_of_key schema (partition_of schema r) r x)) (r ∷ rows)) out
      → (out : List Row) × MergesAll schema (r ∷ rows) out
  with_first r rows own two = (one.0 ++ two.0, merged_apart schema of_row (says_row schema r) (r ∷ rows) one.0 two.0 one.1 two.1)
    where
      of_row : Row → Bool
      of_row = is_of_key schema (partition_of schema r) r

      some : 0 < length (filter of_row (r ∷ rows))
      some = subst (λ b. 0 < length (cond b (r ∷ filter of_row rows) (filter of_row rows))) (sym (of_itself schema r)) (omega arith)

      one : (out : List Row) × MergesAll schema (filter of_row (r ∷ rows)) out
      one = key_merged r (filter of_row (r ∷ rows)) some (All-filter of_row (IsTableRow schema) (r ∷ rows) own) (filter_passes of_row (r ∷ rows))

  others_fewer : (n : ℕ) (r : Row) (rows : List Row) → length (r ∷ rows) ≤ suc n → length (filter (other r) (r ∷ rows)) ≤ n
  others_fewer n r rows few =
      subst (λ b. length (cond (not b) (r ∷ filter (other r) rows) (filter (other r) rows)) ≤ n) (sym (of_itself schema r)) (omega (arith, few, fewer (other r) rows))

  exist_of : (n : ℕ) (rows : List Row) → length rows ≤ n → All (IsTableRow schema) rows → (out : List Row) × MergesAll schema rows out
  exist_of n [] few own = ([], λ partition row. refl)
  exist_of zero (r ∷ rows) few own = absurd (omega (arith, few))
  exist_of (suc n) (r ∷ rows) few own =
      with_first r rows own (exist_of n (filter (other r) (r ∷ rows)) (others_fewer n r rows few) (All-filter (other r) (IsTableRow schema) (r ∷ rows) own))

  pub merges_exist : (rows : List Row) → All (IsTableRow schema) rows → (out : List Row) × MergesAll schema rows out
  merges_exist rows own = exist_of (length rows) rows (omega arith) own
