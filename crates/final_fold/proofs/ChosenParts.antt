-- The rows of chosen granules: in order where all rows are, and of the parts of one partition the rows of a part.
use Rattle.std.proofs.Common.{◌≡◌, ◌+◌, ◌*◌, ◌<◌, ◌≤◌, ℕ, zero, suc, Bool, true, false, cond, List, [], ◌∷◌, ◌++◌, All, arith, drop, filter, get_or, length, length-drop, refl, sym, ap, ◌∙◌, take, mul_comm}
use Rattle.std.specs.List.Sorted.{IsSorted}
use Rattle.std.specs.Ordering.{is_lt}
use Rattle.std.specs.declared.cmp.Ordering.{Ordering}
use Rattle.std.proofs.lemmas.Grind.{div_ceil_times}
use Rattle.std.proofs.lemmas.List.{nil_from_length, take-append-drop}
use Rattle.std.proofs.lemmas.List.Elements.{All-append, All-cons, All-drop, All-head, All-nil, All-tail, All-weaker, filter-append}
use Rattle.std.proofs.lemmas.List.Sorted.{ranks_by, sorted_far}
use Rattle.mt_base.specs.declared.partition.Partition.{Partition}
use Rattle.mt_values.specs.declared.schema.Schema.{Schema}
use Rattle.mt_values.specs.Tables.{partition_of, sorting_cmp}
use Rattle.mt_values.specs.Values.{Row}
use Rattle.row_merge.specs.column_file.Marks.{granules}
use Rattle.row_merge.proofs.MtModelDetermined.{sorting_total}
use Rattle.row_merge.specs.part_reader.Granules.{chosen_of}
use Rattle.row_merge.proofs.PartReaderCutRows.{chosen_every}
use Rattle.row_merge.specs.rule_law.TableRows.{IsTableRow}
use Rattle.row_merge.proofs.RuleLawAggregated.{all_left, all_right}
use Rattle.row_merge.specs.Merged.{ArePartRows}
use Rattle.final_fold.specs.declared.asking.Wanted.{Wanted}
use Rattle.final_fold.specs.Folded.{HidesNoMatch, SkipNoFold, SkipsNoFold, chosen_inputs, skipped_of}
use Rattle.final_fold.specs.Scans.{joined_rows}

-- ---- order

module _ {X : Type 0} (cmp : X → X → Ordering) where
  -- none of the later ones comes before an item
  abbrev Up : List X → Type 0
  Up [] = Unit {0}
  Up (x ∷ xs) = All (λ y. is_lt (cmp y x) ≡ false) xs × Up xs

  abbrev Far : List X → Type 0
  Far xs = (i j : ℕ) (d : X) → i ≤ j → j < length xs → is_lt (cmp (get_or xs j d) (get_or xs i d)) ≡ false

  up_far : (xs : List X) → Far xs → Up xs
  up_far [] far = tt
  up_far (x ∷ xs) far = (λ k d below. far 0 (suc k) d (omega arith) (omega (arith, below)), up_far xs (λ i j d up below. far (suc i) (suc j) d (omega (arith, up)) (omega (arith, below))))

  sorted_up : (xs : List X) → Up xs → IsSorted cmp xs
  sorted_up [] u k d low high = absurd (omega arith)
  sorted_up (x ∷ []) u k d low high = absurd (omega arith)
  sorted_up (x ∷ y ∷ xs) u zero d low high = All-head (λ z. is_lt (cmp z x) ≡ false) y xs u.0
  sorted_up (x ∷ y ∷ xs) u (suc k) d low high =
      let next : suc k + 1 ≡ suc (k + 1) = omega arith in
      let below : k + 1 < length (y ∷ xs) = omega arith in
      rw next (sorted_up (y ∷ xs) u.1 k d (omega arith) below)

  up_take : (n : ℕ) (xs : List X) → Up xs → Up (take n xs)
  up_take zero xs u = tt
  up_take (suc n) [] u = tt
  up_take (suc n) (x ∷ xs) u = (λ k d below. front n xs u.0 k d below, up_take n xs u.1)
    where
      front : (m : ℕ) (ys : List X) → All (λ y. is_lt (cmp y x) ≡ false) ys → All (λ y. is_lt (cmp y x) ≡ false) (take m ys)
      front zero ys all = All-nil (λ y. is_lt (cmp y x) ≡ false)
      front (suc m) [] all = All-nil (λ y. is_lt (cmp y x) ≡ false)
      front (suc m) (y ∷ ys) all =
          All-cons (λ z. is_lt (cmp z x) ≡ false) y (take m ys) (All-head (λ z. is_lt (cmp z x) ≡ false) y ys all) (front m ys (All-tail (λ z. is_lt (cmp z x) ≡ false) y ys all))

  up_drop : (n : ℕ) (xs : List X) → Up xs → Up (drop n xs)
  up_drop zero xs u = u
  up_drop (suc n) [] u = tt
  up_drop (suc n) (x ∷ xs) u = up_drop n xs u.1

  up_across : (n : ℕ) (xs : List X) → Up xs → All (λ x. All (λ y. is_lt (cmp y x) ≡ false) (drop n xs)) (take n xs)
  up_across zero xs u = All-nil (λ x. All (λ y. is_lt (cmp y x) ≡ false) xs)
  up_across (suc n) [] u = All-nil (λ x. All (λ y. is_lt (cmp y x) ≡ false) [])
  up_across (suc n) (x ∷ xs) u =
      All-cons (λ z. All (λ y. is_lt (cmp y z) ≡ false) (drop n xs)) x (take n xs) (All-drop (λ y. is_lt (cmp y x) ≡ false) n xs u.0) (up_across n xs u.1)

  up_append : (xs ys : List X) → Up xs → Up ys → All (λ x. All (λ y. is_lt (cmp y x) ≡ false) ys) xs → Up (xs ++ ys)
  up_append [] ys u v h = v
  up_append (x ∷ xs) ys u v h = (
    All-append (λ y. is_lt (cmp y x) ≡ false) xs ys u.0 (All-head (λ z. All (λ y. is_lt (cmp y z) ≡ false) ys) x xs h),
    up_append xs ys u.1 v (All-tail (λ z. All (λ y. is_lt (cmp y z) ≡ false) ys) x xs h),
  )

  up_chosen : (g : ℕ) (chosen : List Bool) (xs : List X) → Up xs → Up (chosen_of g chosen xs)
  up_chosen g [] xs u = tt
  up_chosen g (true ∷ chosen) xs u =
      up_append (take g xs) (chosen_of g chosen (drop g xs)) (up_take g xs u) (up_chosen g chosen (drop g xs) (up_drop g xs u))
      (All-weaker (λ x. All (λ y. is_lt (cmp y x) ≡ false) (drop g xs)) (λ x. All (λ y. is_lt (cmp y x) ≡ false) (chosen_of g chosen (drop g xs)))
      (λ x all. chosen_every (λ y. is_lt (cmp y x) ≡ false) g chosen (drop g xs) all) (take g xs) (up_across g xs u))
  up_chosen g (false ∷ chosen) xs u = up_chosen g chosen (drop g xs) (up_drop g xs u)

-- ---- parts

module _ (schema : Schema) (partition : Partition) (g : ℕ) where
  chosen_part : (chosen : List Bool) (rows : List Row) → ArePartRows schema partition rows → ArePartRows schema partition (chosen_of g chosen rows)
  chosen_part chosen rows part = record {
    own = chosen_every (IsTableRow schema) g chosen rows part.own;
    parted = chosen_every (λ r. partition_of schema r ≡ partition) g chosen rows part.parted;
    rising = sorted_up (sorting_cmp schema) (chosen_of g chosen rows) (up_chosen (sorting_cmp schema) g chosen rows
        (up_far (sorting_cmp schema) rows (λ i j d up below. sorted_far (λ x y. is_lt (sorting_cmp schema x y)) (ranks_by (sorting_total schema) (λ (r : Row). r)) rows part.rising i j d up below)));
  }

  -- the rows of chosen granules are those of parts too
  pub chosen_parts : (chosen : List (List Bool)) (rows : List (List Row)) → All (ArePartRows schema partition) rows → All (ArePartRows schema partition) (chosen_inputs g chosen rows)
  chosen_parts [] rows all = All-nil (ArePartRows schema partition)
  chosen_parts (c ∷ chosen) [] all = All-nil (ArePartRows schema partition)
  chosen_parts (c ∷ chosen) (r ∷ rows) all =
      All-cons (ArePartRows schema partition) (chosen_of g c r) (chosen_inputs g chosen rows) (chosen_part c r (All-head (ArePartRows schema partition) r rows all))
      (chosen_parts chosen rows (All-tail (ArePartRows schema partition) r rows all))

  -- the rows of parts are rows of the table
  pub own_joined : (rows : List (List Row)) → All (ArePartRows schema partition) rows → All (IsTableRow schema) (joined_rows rows)
  own_joined [] all = All-nil (IsTableRow schema)
  own_joined (r ∷ rows) all =
      All-append (IsTableRow schema) r (joined_rows rows) (All-head (ArePartRows schema partition) r rows all).own (own_joined rows (All-tail (ArePartRows schema partition) r rows all))

-- ---- what the chosen granules lack

module _ (p : Row → Bool) (g : ℕ) where
  gone : (xs : List Row) → All (λ x. p x ≡ false) xs → filter p xs ≡ []
  gone [] all = refl
  gone (x ∷ xs) all = ap (λ b. cond b (x ∷ filter p xs) (filter p xs)) (All-head (λ y. p y ≡ false) x xs all) ∙ gone xs (All-tail (λ y. p y ≡ false) x xs all)

  -- of a list without granules in which nothing passes, the same pass
  chosen_kept : (chosen : List Bool) (xs : List Row) → length xs ≤ g * length chosen → All (λ x. p x ≡ false) (skipped_of g chosen xs) → filter p (chosen_of g chosen xs) ≡ filter p xs
  chosen_kept [] xs few none = ap (filter p) (sym (nil_from_length xs (omega arith)))
  chosen_kept (true ∷ chosen) xs few none =
      let left : length (drop g xs) ≤ g * length chosen = let one : g * suc (length chosen) ≡ g * length chosen + g = omega arith in omega (arith, few, length-drop g xs) in
      filter-append p (take g xs) (chosen_of g chosen (drop g xs)) ∙ ap (λ ys. filter p (take g xs) ++ ys) (chosen_kept chosen (drop g xs) left none)
      ∙ sym (filter-append p (take g xs) (drop g xs)) ∙ ap (filter p) (take-append-drop g xs)
  chosen_kept (false ∷ chosen) xs few none =
      let left : length (drop g xs) ≤ g * length chosen = let one : g * suc (length chosen) ≡ g * length chosen + g = omega arith in omega (arith, few, length-drop g xs) in
      chosen_kept chosen (drop g xs) left (all_right (λ x. p x ≡ false) (take g xs) (skipped_of g chosen (drop g xs)) none)
      ∙ ap (λ ys. ys ++ filter p (drop g xs)) (sym (gone (take g xs) (all_left (λ x. p x ≡ false) (take g xs) (skipped_of g chosen (drop g xs)) none)))
      ∙ sym (filter-append p (take g xs) (drop g xs)) ∙ ap (filter p) (take-append-drop g xs)

-- the rows of the granules that are not chosen, part after part
abbrev pub all_skipped : ℕ → List (List Bool) → List (List Row) → List Row
all_skipped g (c ∷ chosen) (r ∷ rows) = skipped_of g c r ++ all_skipped g chosen rows
all_skipped g chosen rows = []

module _ (w : Wanted) (large : 0 < w.schema.now.granularity) where
  abbrev size : ℕ
  size = w.schema.now.granularity

  pub all_hide : (chosen : List (List Bool)) (rows : List (List Row)) → SkipNoFold w chosen rows → All (HidesNoMatch w) (all_skipped w.schema.now.granularity chosen rows)
  all_hide [] rows skips = All-nil (HidesNoMatch w)
  all_hide (c ∷ chosen) [] skips = All-nil (HidesNoMatch w)
  all_hide (c ∷ chosen) (r ∷ rows) skips = All-append (HidesNoMatch w) (skipped_of size c r) (all_skipped size chosen rows) skips.0.hides (all_hide chosen rows skips.1)

  covers : (c : List Bool) (r : List Row) → SkipsNoFold w c r → length r ≤ size * length c
  covers c r skips =
      let g = w.schema.now.granularity in
      let most = (div_ceil_times (length r) g large).0 in
      let turned : g * length c ≡ granules g (length r) * g = ap (λ n. g * n) skips.said ∙ mul_comm g (granules g (length r)) in
      omega (arith, most, turned)

  pub all_kept : (p : Row → Bool) (chosen : List (List Bool)) (rows : List (List Row)) → SkipNoFold w chosen rows → All (λ x. p x ≡ false) (all_skipped w.schema.now.granularity chosen rows)
      → filter p (joined_rows (chosen_inputs w.schema.now.granularity chosen rows)) ≡ filter p (joined_rows rows)
  all_kept p [] [] skips none = refl
  all_kept p [] (r ∷ rows) skips none = absurd skips
  all_kept p (c ∷ chosen) [] skips none = absurd skips
  all_kept p (c ∷ chosen) (r ∷ rows) skips none =
      filter-append p (chosen_of size c r) (joined_rows (chosen_inputs size chosen rows))
      ∙ ap (λ ys. ys ++ filter p (joined_rows (chosen_inputs size chosen rows)))
      (chosen_kept p size c r (covers c r skips.0) (all_left (λ x. p x ≡ false) (skipped_of size c r) (all_skipped size chosen rows) none))
      ∙ ap (λ ys. filter p r ++ ys) (all_kept p chosen rows skips.1 (all_right (λ x. p x ≡ false) (skipped_of size c r) (all_skipped size chosen rows) none))
      ∙ sym (filter-append p r (joined_rows rows))
