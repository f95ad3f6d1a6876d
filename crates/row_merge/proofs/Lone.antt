-- Rows that go out, or are left out, before the rule has seen them: a row that is the only one of its key, and a row that the next one of its key replaces.
use Rattle.std.proofs.Common.{◌≡◌, ℕ, Bool, true, false, cond, List, [], ◌∷◌, ◌++◌, refl, sym, ap, ◌∙◌, subst}
use Rattle.std.specs.List.{All}
use Rattle.std.specs.Ordering.{is_eq, is_lt}
use Rattle.std.specs.declared.cmp.Ordering.TheVariants.{Less, Equal}
use Rattle.std.proofs.lemmas.List.Elements.{All-cons, All-nil}
use Rattle.mt_values.specs.Order.{key_cmp, key_of}
use Rattle.mt_values.specs.Values.{Row}
use Rattle.part_history.specs.mt_model.Folding.{Leaves}
use Rattle.row_merge.specs.Merged.{IsFoldOf, alike, rows_of_all}
use Rattle.row_merge.specs.Merging.{IsTaken, Merging}
use Rattle.row_merge.proofs.Folds.{equal_is}
use Rattle.row_merge.proofs.Keys.{key_total}
use Rattle.row_merge.proofs.Taking.{ended, rows_around, taken, taken_alike}

module _ (places : List ℕ) (run : List Row → List Row → Type 0) (inputs : List (List Row)) where
  -- the next row has a key of its own, and a rule that leaves it as it is: it goes out
  pub goes_alone : (out : List Row) (left after : List (List Row)) (row : Row) → Merging places run inputs out [] left → IsTaken places left row after → All (λ x. key_cmp places row x ≡ Less) (rows_of_all after)
      → run (row ∷ []) (row ∷ []) → Merging places run inputs (out ++ row ∷ []) [] after
  goes_alone out left after row m t last ran =
      ended places run inputs out [] (row ∷ []) row after (taken places run inputs out [] left after row m t (All-nil (λ a. key_of places a ≡ key_of places row))) ran
      (All-cons (λ r. key_of places r ≡ key_of places row) row [] refl (All-nil (λ r. key_of places r ≡ key_of places row))) last

  -- the row after it has its key, and leaves nothing of it, whatever comes then: it is left out
  pub is_left_out : (out : List Row) (left mid after : List (List Row)) (row next : Row) → Merging places run inputs out [] left → IsTaken places left row mid → IsTaken places mid next after → key_cmp places row next ≡ Equal
      → ((rows kept : List Row) → run (next ∷ rows) kept → run (row ∷ next ∷ rows) kept) → Merging places run inputs out [] mid
  is_left_out out left mid after row next m first second same replaces = record {
    sorted = on.sorted;
    key = [];
    one_key = All-nil (λ r. key_of places r ≡ []);
    first = All-nil (λ a. All (λ b. is_lt (key_cmp places b a) ≡ false) mids);
    folds = λ rest h. on.folds rest (with_row rest h);
  }
    where
      mids : List Row
      mids = rows_of_all mid

      on : Merging places run inputs out (row ∷ []) mid
      on = taken places run inputs out [] left mid row m first (All-nil (λ a. key_of places a ≡ key_of places row))

      with_row : (rest : List Row) → IsFoldOf places run mids rest → IsFoldOf places run (row ∷ mids) rest
      with_row rest h = record { sorted = h.sorted; folded = λ r. by r (is_eq (key_cmp places r row)) refl }
        where
          others : List Row
          others = rows_of_all second.front ++ (second.rows ++ rows_of_all second.back)

          -- of the rows of the key that are left the next one is the first
          next_first : (r : Row) → is_eq (key_cmp places r row) ≡ true → alike places r mids ≡ next ∷ alike places r others
          next_first r e =
              ap (alike places r) (ap rows_of_all second.left_is ∙ rows_around places second.front (next ∷ second.rows) second.back)
              ∙ taken_alike places [] (rows_of_all second.front) second.rows (rows_of_all second.back) next second.before r
              ∙ ap (λ c. cond c (next ∷ alike places r others) (alike places r others)) (ap is_eq ((key_total places).congr r row next (equal_is (key_cmp places r row) e) ∙ same))

          by : (r : Row) (b : Bool) → is_eq (key_cmp places r row) ≡ b → Leaves run (alike places r (row ∷ mids)) (alike places r rest)
          by r false e = subst (λ zs. Leaves run zs (alike places r rest)) (sym (ap (λ c. cond c (row ∷ alike places r mids) (alike places r mids)) e)) (h.folded r)
          by r true e =
              subst (λ zs. Leaves run zs (alike places r rest)) (sym (ap (λ c. cond c (row ∷ alike places r mids) (alike places r mids)) e ∙ ap (λ zs. row ∷ zs) (next_first r e)))
              (replaces (alike places r others) (alike places r rest) (subst (λ zs. Leaves run zs (alike places r rest)) (next_first r e) (h.folded r)))
