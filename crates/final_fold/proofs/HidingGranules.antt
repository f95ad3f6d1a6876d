-- Granules that are not chosen hide no match, where each granule with a row of a match's key is chosen.
use Rattle.std.proofs.Common.{◌≡◌, ◌*◌, ◌+◌, ℕ, suc, Bool, true, false, List, [], ◌∷◌, All, arith, drop, get_or, refl, sym, ap, ◌∙◌, subst, take, Some, slice_get, mul-zero}
use Rattle.std.specs.Cmp.Lexicographic.{slice_cmp}
use Rattle.std.specs.List.{list_any}
use Rattle.std.specs.Ordering.{is_eq}
use Rattle.std.proofs.lemmas.Cmp.{tied_itself}
use Rattle.std.proofs.lemmas.List.{drop-drop}
use Rattle.std.proofs.lemmas.List.Elements.{All-append, All-drop, All-nil, All-take}
use Rattle.std.proofs.lemmas.List.Folds.{list_any_at}
use Rattle.mt_base.specs.declared.partition.Partition.{Partition}
use Rattle.mt_values.specs.declared.value.Value.{Value}
use Rattle.mt_values.specs.Order.{key_of, value_cmp}
use Rattle.mt_values.specs.Schemas.{column_types}
use Rattle.mt_values.specs.Tables.{partition_of, sorting_cmp, sorting_columns}
use Rattle.mt_values.specs.Tests.{eval}
use Rattle.mt_values.specs.Values.{Row, types_of}
use Rattle.row_merge.proofs.MtModelDetermined.{sorting_total}
use Rattle.final_fold.specs.declared.asking.Wanted.{Wanted}
use Rattle.final_fold.specs.Keys.{is_of_key}
use Rattle.final_fold.specs.Folded.{HidesNoMatch, skipped_of}
use Rattle.final_fold.proofs.MergedRows.{of_partition, of_sorting}

-- what holds of each granule that is not chosen holds of their rows
skipped_all : (P : Row → Type 0) (g : ℕ) (chosen : List Bool) (xs : List Row) → ((granule : ℕ) → slice_get chosen granule ≡ Some false → All P (take g (drop (g * granule) xs))) → All P (skipped_of g chosen xs)
skipped_all P g [] xs each = All-nil P
skipped_all P g (b ∷ chosen) xs each =
    by b (each 0)
    (skipped_all P g chosen (drop g xs) (λ k is.
    let down : g * suc k ≡ g + g * k = omega arith in
    subst (λ ys. All P (take g ys)) (ap (λ n. drop n xs) down ∙ sym (drop-drop (g * k) g xs)) (each (suc k) is)))
  where
    by : (c : Bool) → (Some c ≡ Some false → All P (take g (drop (g * 0) xs))) → All P (skipped_of g chosen (drop g xs)) → All P (skipped_of g (c ∷ chosen) xs)
    by true first rest = rest
    by false first rest = All-append P (take g xs) (skipped_of g chosen (drop g xs)) (subst (λ n. All P (take g (drop n xs))) (mul-zero g) (first refl)) rest

module _ (w : Wanted) (partition : Partition) (rows : List Row) (chosen : List Bool) where
  -- by the law of the marks, which choose each granule with a row of the key of a match
  pub chosen_hide : ((row : Row) → types_of row ≡ column_types w.schema.now → partition_of w.schema.now row ≡ partition → eval w.condition.now row ≡ true → (granule : ℕ)
      → list_any (λ r. is_eq (sorting_cmp w.schema.now row r)) (take w.schema.now.granularity (drop (w.schema.now.granularity * granule) rows)) ≡ true → slice_get chosen granule ≡ Some true)
      → All (λ r. partition_of w.schema.now r ≡ partition) rows → All (HidesNoMatch w) (skipped_of w.schema.now.granularity chosen rows)
  chosen_hide law parted = skipped_all (HidesNoMatch w) w.schema.now.granularity chosen rows each
    where
      no_clash : Some true ≡ Some false → ⊥
      no_clash e = cc

      each : (granule : ℕ) → slice_get chosen granule ≡ Some false → All (HidesNoMatch w) (take w.schema.now.granularity (drop (w.schema.now.granularity * granule) rows))
      each granule skipped k d below = λ other typed is. by other typed is (eval w.condition.now other) refl
        where
          here : List Row
          here = take w.schema.now.granularity (drop (w.schema.now.granularity * granule) rows)

          own : All (λ r. partition_of w.schema.now r ≡ partition) here
          own = All-take (λ r. partition_of w.schema.now r ≡ partition) w.schema.now.granularity (drop (w.schema.now.granularity * granule) rows) (All-drop (λ r. partition_of w.schema.now r ≡ partition) (w.schema.now.granularity * granule) rows parted)

          by : (other : Row) → types_of other ≡ column_types w.schema.now → is_of_key w.schema.now (partition_of w.schema.now (get_or here k d)) (get_or here k d) other ≡ true → (b : Bool) → eval w.condition.now other ≡ b → b ≡ false
          by other typed is true met =
              let r = get_or here k d in
              let key = of_sorting w.schema.now (partition_of w.schema.now r) r other is in
              let alike : is_eq (sorting_cmp w.schema.now other r) ≡ true =
              ap (λ (ks : List Value). is_eq (slice_cmp value_cmp ks (key_of (sorting_columns w.schema.now) r))) key ∙ ap is_eq (tied_itself (sorting_total w.schema.now) r) in
              absurd (no_clash (sym (law other typed (of_partition w.schema.now (partition_of w.schema.now r) r other is ∙ own k d below) met granule (list_any_at (λ x. is_eq (sorting_cmp w.schema.now other x)) here k d below alike)) ∙ skipped))
          by other typed is false met = refl
