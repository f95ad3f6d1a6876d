-- Rows that a rule keeps as they are go out at once, before their key ends: so runs of rows are copied.
use Rattle.std.proofs.Common.{◌≡◌, ℕ, true, false, List, [], ◌∷◌, ◌++◌, filter, get_or, refl, sym, ap, ◌∙◌, subst, append_assoc}
use Rattle.std.specs.Cmp.{IsTotalOrder}
use Rattle.std.specs.List.{All}
use Rattle.std.specs.Ordering.{is_eq, is_lt}
use Rattle.std.specs.declared.cmp.Ordering.{Ordering}
use Rattle.std.specs.declared.cmp.Ordering.TheVariants.{Equal}
use Rattle.std.proofs.lemmas.List.Elements.{All-filter, All-head, All-nil, All-same, All-tail, All-weaker, filter-append, filter_passes}
use Rattle.mt_values.specs.declared.value.Value.{Value}
use Rattle.mt_values.specs.Order.{key_cmp, key_of}
use Rattle.mt_values.specs.Values.{Row}
use Rattle.part_history.specs.mt_model.Folding.{Leaves}
use Rattle.row_merge.specs.Merged.{IsFoldOf, alike, rows_of_all}
use Rattle.row_merge.specs.Merging.{Merging}
use Rattle.row_merge.proofs.Folds.{equal_is, same_key}
use Rattle.row_merge.proofs.Keys.{key_total}
use Rattle.row_merge.proofs.Sorted.{Up, equal_itself, none_passes, sorted_of, up_append, up_of}

module _ (places : List ℕ) (run : List Row → List Row → Type 0) where
  abbrev cmp : Row → Row → Ordering
  cmp = key_cmp places

  o : IsTotalOrder (key_cmp places)
  o = key_total places

  none_of : (rows out : List Row) → rows ≡ [] → Leaves run rows out → out ≡ []
  none_of [] out none h = h
  none_of (row ∷ rows) out none h = cc

  -- what holds of rows, and with each of those that are alike, holds of what folds leave of them
  left_have : (P : Row → Type 0) → ((x row : Row) → cmp x row ≡ Equal → P row → P x) → (rows out : List Row) → IsFoldOf places run rows out → All P rows → All P out
  left_have P same rows out h all k d below = by (alike places x rows) refl
    where
      x : Row
      x = get_or out k d

      clash : true ≡ false → ⊥
      clash e = cc

      not_itself : is_eq (cmp x x) ≡ false → ⊥
      not_itself e = clash (sym (ap is_eq (equal_itself cmp o x)) ∙ e)

      by : (found : List Row) → alike places x rows ≡ found → P x
      by [] none = absurd (not_itself (none_passes (λ r. is_eq (cmp x r)) out (none_of (alike places x rows) (alike places x out) none (h.folded x)) k d below))
      by (row ∷ found) some =
          let passes : All (λ r. is_eq (cmp x r) ≡ true) (row ∷ found) = All-same (λ r. is_eq (cmp x r) ≡ true) (row ∷ found) (alike places x rows) (sym some) (filter_passes (λ r. is_eq (cmp x r)) rows) in
          let own : All P (row ∷ found) = All-same P (row ∷ found) (alike places x rows) (sym some) (All-filter (λ r. is_eq (cmp x r)) P rows all) in
          same x row (equal_is (cmp x row) (All-head (λ r. is_eq (cmp x r) ≡ true) row found passes)) (All-head P row found own)

  up_of_key : (key : List Value) (rows : List Row) → All (λ r. key_of places r ≡ key) rows → Up cmp rows
  up_of_key key [] all = tt
  up_of_key key (row ∷ rows) all =
      let own = All-head (λ r. key_of places r ≡ key) row rows all in
      let others = All-tail (λ r. key_of places r ≡ key) row rows all in (
        All-weaker (λ r. key_of places r ≡ key) (λ r. is_lt (cmp r row) ≡ false) (λ r e. ap is_lt (sym (same_key places r row r (e ∙ sym own)) ∙ equal_itself cmp o r)) rows others,
        up_of_key key rows others,
      )

  module _ (kept_is : (rows out : List Row) → Leaves run rows out → out ≡ rows) (keeps_all : (rows : List Row) → Leaves run rows rows) where
    -- the rows of the key go out as they are, and the key may go on
    pub copied : (inputs : List (List Row)) (out current : List Row) (left : List (List Row)) → Merging places run inputs out current left → Merging places run inputs (out ++ current) [] left
    copied inputs out current left m = record {
      sorted = m.sorted;
      key = [];
      one_key = All-nil (λ row. key_of places row ≡ []);
      first = All-nil (λ a. All (λ b. is_lt (cmp b a) ≡ false) (rows_of_all left));
      folds = λ rest h. subst (IsFoldOf places run (rows_of_all inputs)) (sym (append_assoc out current rest)) (m.folds (current ++ rest) (with_current rest h));
    }
      where
        rows : List Row
        rows = rows_of_all left

        with_current : (rest : List Row) → IsFoldOf places run rows rest → IsFoldOf places run (current ++ rows) (current ++ rest)
        with_current rest h = record { sorted = sorted_of cmp o (current ++ rest) (up_append cmp o current rest (up_of_key m.key current m.one_key) (up_of cmp o rest h.sorted) between); folded = folded }
          where
            between : All (λ a. All (λ b. is_lt (cmp b a) ≡ false) rest) current
            between =
                All-weaker (λ a. All (λ b. is_lt (cmp b a) ≡ false) rows) (λ a. All (λ b. is_lt (cmp b a) ≡ false) rest)
                (λ a least. left_have (λ b. is_lt (cmp b a) ≡ false) (λ x row e is. ap is_lt (o.congr x row a e) ∙ is) rows rest h least) current m.first

            folded : (row : Row) → Leaves run (alike places row (current ++ rows)) (alike places row (current ++ rest))
            folded row =
                let p = λ (other : Row). is_eq (cmp row other) in
                let same : alike places row (current ++ rest) ≡ alike places row (current ++ rows) =
                filter-append p current rest ∙ ap (λ zs. filter p current ++ zs) (kept_is (alike places row rows) (alike places row rest) (h.folded row)) ∙ sym (filter-append p current rows) in
                subst (Leaves run (alike places row (current ++ rows))) (sym same) (keeps_all (alike places row (current ++ rows)))
