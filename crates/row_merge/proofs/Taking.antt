-- The steps of a merge that is on its way: it begins, a row is taken, a key ends, nothing is left.
use Rattle.std.proofs.Common.{◌≡◌, ◌⊎◌, inl, inr, ℕ, Bool, true, false, cond, List, [], ◌∷◌, ◌++◌, filter, refl, sym, ap, ◌∙◌, subst, append_assoc, append-nil}
use Rattle.std.specs.Cmp.{IsTotalOrder}
use Rattle.std.specs.List.{All}
use Rattle.std.specs.List.Sorted.{IsSorted}
use Rattle.std.specs.Ordering.{is_eq, is_lt, ordering_reverse}
use Rattle.std.specs.declared.cmp.Ordering.{Ordering}
use Rattle.std.specs.declared.cmp.Ordering.TheVariants.{Less, Equal}
use Rattle.std.proofs.lemmas.List.Elements.{All-append, All-cons, All-head, All-nil, All-same, All-tail, All-weaker, filter-append}
use Rattle.mt_values.specs.Order.{key_cmp, key_of}
use Rattle.mt_values.specs.Values.{Row}
use Rattle.part_history.proofs.MtModelSorting.{sorted_tail}
use Rattle.row_merge.specs.Merged.{IsFoldOf, alike, rows_of_all}
use Rattle.row_merge.specs.Merging.{IsTaken, Merging}
use Rattle.row_merge.proofs.Folds.{equal_is, fold_ends, fold_none, fold_same, same_key}
use Rattle.row_merge.proofs.Keys.{key_total}
use Rattle.row_merge.proofs.Merges.{all_joined}
use Rattle.row_merge.proofs.Sorted.{all_halves, at_most_cases, filter_none, less_is_at_most, less_then, passed_by}

module _ (places : List ℕ) where
  abbrev cmp : Row → Row → Ordering
  cmp = key_cmp places

  o : IsTotalOrder (key_cmp places)
  o = key_total places

  -- a row that comes before others is taken past them: those of each key stay as they were
  pub taken_alike : (current before rows after : List Row) (row : Row) → All (λ x. cmp row x ≡ Less) before → (r : Row)
      → alike places r (current ++ (before ++ row ∷ (rows ++ after))) ≡ alike places r ((current ++ row ∷ []) ++ (before ++ (rows ++ after)))
  taken_alike current before rows after row less r = sym (
      ap (filter p) (append_assoc current (row ∷ []) (before ++ (rows ++ after)))
      ∙ filter-append p current (row ∷ (before ++ (rows ++ after)))
      ∙ ap (λ zs. filter p current ++ cond (p row) (row ∷ zs) zs) (filter-append p before (rows ++ after))
      ∙ ap (λ zs. filter p current ++ zs) (passed_by (p row) row (filter p before) (filter p (rows ++ after)) none)
      ∙ ap (λ zs. filter p current ++ zs) (sym (filter-append p before (row ∷ (rows ++ after))))
      ∙ sym (filter-append p current (before ++ row ∷ (rows ++ after))))
    where
      p : Row → Bool
      p x = is_eq (cmp r x)

      none : p row ≡ true → filter p before ≡ []
      none e = filter_none p before (All-weaker (λ x. cmp row x ≡ Less) (λ x. p x ≡ false) (λ x is. ap is_eq (o.congr r row x (equal_is (cmp r row) e) ∙ is)) before less)

  -- all rows that are left, around the input of the next one
  pub rows_around : (front : List (List Row)) (rows : List Row) (back : List (List Row)) → rows_of_all (front ++ rows ∷ back) ≡ rows_of_all front ++ (rows ++ rows_of_all back)
  rows_around front rows back = all_joined front (rows ∷ back)

  module _ (run : List Row → List Row → Type 0) (inputs : List (List Row)) where
    pub begun : All (IsSorted cmp) inputs → Merging places run inputs [] [] inputs
    begun sorted = record { sorted = sorted; key = []; one_key = All-nil (λ row. key_of places row ≡ []); first = All-nil (λ a. All (λ b. is_lt (cmp b a) ≡ false) (rows_of_all inputs)); folds = λ rest h. h }

    taken_from : (out current : List Row) (front : List (List Row)) (row : Row) (rows : List Row) (back : List (List Row)) → Merging places run inputs out current (front ++ (row ∷ rows) ∷ back)
        → All (λ x. cmp row x ≡ Less) (rows_of_all front) → All (λ x. is_lt (cmp x row) ≡ false) (rows ++ rows_of_all back)
        → All (λ a. key_of places a ≡ key_of places row) current → Merging places run inputs out (current ++ row ∷ []) (front ++ rows ∷ back)
    taken_from out current front row rows back m before after own = record { sorted = sorted; key = key_of places row; one_key = one_key; first = first; folds = folds }
      where
        sorted : All (IsSorted cmp) (front ++ rows ∷ back)
        sorted =
            let halves = all_halves (IsSorted cmp) front ((row ∷ rows) ∷ back) m.sorted in
            All-append (IsSorted cmp) front (rows ∷ back) halves.0
            (All-cons (IsSorted cmp) rows back (sorted_tail cmp row rows (All-head (IsSorted cmp) (row ∷ rows) back halves.1)) (All-tail (IsSorted cmp) (row ∷ rows) back halves.1))

        one_key : All (λ a. key_of places a ≡ key_of places row) (current ++ row ∷ [])
        one_key = All-append (λ a. key_of places a ≡ key_of places row) current (row ∷ []) own (All-cons (λ a. key_of places a ≡ key_of places row) row [] refl (All-nil (λ a. key_of places a ≡ key_of places row)))

        least : All (λ x. is_lt (cmp x row) ≡ false) (rows_of_all (front ++ rows ∷ back))
        least =
            All-same (λ x. is_lt (cmp x row) ≡ false) (rows_of_all (front ++ rows ∷ back)) (rows_of_all front ++ (rows ++ rows_of_all back)) (rows_around front rows back)
            (All-append (λ x. is_lt (cmp x row) ≡ false) (rows_of_all front) (rows ++ rows_of_all back)
            (All-weaker (λ x. cmp row x ≡ Less) (λ x. is_lt (cmp x row) ≡ false) (λ x is. less_is_at_most cmp o row x is) (rows_of_all front) before) after)

        first : All (λ a. All (λ b. is_lt (cmp b a) ≡ false) (rows_of_all (front ++ rows ∷ back))) (current ++ row ∷ [])
        first =
            All-weaker (λ a. key_of places a ≡ key_of places row) (λ a. All (λ b. is_lt (cmp b a) ≡ false) (rows_of_all (front ++ rows ∷ back)))
            (λ a e. All-weaker (λ b. is_lt (cmp b row) ≡ false) (λ b. is_lt (cmp b a) ≡ false) (λ b is. ap is_lt (same_key places a row b e) ∙ is) (rows_of_all (front ++ rows ∷ back)) least) (current ++ row ∷ []) one_key

        folds : (rest : List Row) → IsFoldOf places run ((current ++ row ∷ []) ++ rows_of_all (front ++ rows ∷ back)) rest → IsFoldOf places run (rows_of_all inputs) (out ++ rest)
        folds rest h =
            m.folds rest (subst (λ xs. IsFoldOf places run (current ++ xs) rest) (sym (rows_around front (row ∷ rows) back))
            (fold_same places run ((current ++ row ∷ []) ++ (rows_of_all front ++ (rows ++ rows_of_all back))) (current ++ (rows_of_all front ++ row ∷ (rows ++ rows_of_all back))) rest
            (taken_alike current (rows_of_all front) rows (rows_of_all back) row before)
            (subst (λ xs. IsFoldOf places run ((current ++ row ∷ []) ++ xs) rest) (rows_around front rows back) h)))

    -- the next row is taken: no key is current, or its own
    pub taken : (out current : List Row) (left new : List (List Row)) (row : Row) → Merging places run inputs out current left → IsTaken places left row new
        → All (λ a. key_of places a ≡ key_of places row) current → Merging places run inputs out (current ++ row ∷ []) new
    taken out current left new row m t own =
        subst (Merging places run inputs out (current ++ row ∷ [])) (sym t.new_is)
        (taken_from out current t.front row t.rows t.back (subst (Merging places run inputs out current) t.left_is m) t.before t.after own)

    -- a key ends before the rows that are left
    pub ended : (out some kept : List Row) (first : Row) (left : List (List Row)) → Merging places run inputs out (first ∷ some) left → run (first ∷ some) kept
        → All (λ r. key_of places r ≡ key_of places first) kept → All (λ x. cmp first x ≡ Less) (rows_of_all left) → Merging places run inputs (out ++ kept) [] left
    ended out some kept first left m ran key after = record {
      sorted = m.sorted;
      key = [];
      one_key = All-nil (λ row. key_of places row ≡ []);
      first = All-nil (λ a. All (λ b. is_lt (cmp b a) ≡ false) (rows_of_all left));
      folds = λ rest h.
          let own = All-weaker (λ r. key_of places r ≡ m.key) (λ r. key_of places r ≡ key_of places first) (λ r e. e ∙ sym (All-head (λ a. key_of places a ≡ m.key) first some m.one_key)) (first ∷ some) m.one_key in
          subst (IsFoldOf places run (rows_of_all inputs)) (sym (append_assoc out kept rest)) (m.folds (kept ++ rest) (fold_ends places run first some (rows_of_all left) kept rest own after ran key h));
    }

    -- the rows that are left come after the current ones, where the next of them has another key
    pub next_after : (out some : List Row) (first : Row) (left new : List (List Row)) (row : Row) → Merging places run inputs out (first ∷ some) left → IsTaken places left row new
        → is_eq (cmp row first) ≡ false → All (λ x. cmp first x ≡ Less) (rows_of_all left)
    next_after out some first left new row m t other =
        All-same (λ x. cmp first x ≡ Less) (rows_of_all left) (rows_of_all t.front ++ (row ∷ (t.rows ++ rows_of_all t.back))) (ap rows_of_all t.left_is ∙ rows_around t.front (row ∷ t.rows) t.back)
        (All-append (λ x. cmp first x ≡ Less) (rows_of_all t.front) (row ∷ (t.rows ++ rows_of_all t.back))
        (All-weaker (λ x. cmp row x ≡ Less) (λ x. cmp first x ≡ Less) (λ x is. o.trans first row x less is) (rows_of_all t.front) t.before)
        (All-cons (λ x. cmp first x ≡ Less) row (t.rows ++ rows_of_all t.back) less
        (All-weaker (λ x. is_lt (cmp x row) ≡ false) (λ x. cmp first x ≡ Less) (λ x is. less_then cmp o first row x less is) (t.rows ++ rows_of_all t.back) t.after)))
      where
        among : All (λ b. is_lt (cmp b first) ≡ false) (rows_of_all t.front ++ (row ∷ (t.rows ++ rows_of_all t.back)))
        among =
            All-same (λ b. is_lt (cmp b first) ≡ false) (rows_of_all t.front ++ (row ∷ (t.rows ++ rows_of_all t.back))) (rows_of_all left) (sym (ap rows_of_all t.left_is ∙ rows_around t.front (row ∷ t.rows) t.back))
            (All-head (λ a. All (λ b. is_lt (cmp b a) ≡ false) (rows_of_all left)) first some m.first)

        clash : true ≡ false → ⊥
        clash e = cc

        by : (cmp first row ≡ Less) ⊎ (cmp first row ≡ Equal) → cmp first row ≡ Less
        by (inl less) = less
        by (inr same) = absurd (clash (sym (ap is_eq (o.antisymm row first ∙ ap ordering_reverse same)) ∙ other))

        less : cmp first row ≡ Less
        less = by (at_most_cases cmp o first row (All-head (λ b. is_lt (cmp b first) ≡ false) row (t.rows ++ rows_of_all t.back) (all_halves (λ b. is_lt (cmp b first) ≡ false) (rows_of_all t.front) (row ∷ (t.rows ++ rows_of_all t.back)) among).1))

    -- all rows were taken, and the last key has ended
    pub all_merged : (out : List Row) (left : List (List Row)) → Merging places run inputs out [] left → rows_of_all left ≡ [] → IsFoldOf places run (rows_of_all inputs) out
    all_merged out left m none =
        subst (IsFoldOf places run (rows_of_all inputs)) (append-nil out) (m.folds [] (subst (λ rows. IsFoldOf places run rows []) (sym none) (fold_none places run)))
