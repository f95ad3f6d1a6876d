-- Several rows of one input are taken at once, and go out as they are.
use Rattle.std.proofs.Common.{◌≡◌, ℕ, false, List, [], ◌∷◌, ◌++◌, refl, sym, subst, append_assoc, append-nil}
use Rattle.std.specs.List.{All}
use Rattle.std.specs.List.Sorted.{IsSorted}
use Rattle.std.specs.Ordering.{is_lt}
use Rattle.std.proofs.lemmas.List.Elements.{All-append, All-head, All-nil, All-tail}
use Rattle.mt_values.specs.Order.{key_cmp, key_of}
use Rattle.mt_values.specs.Values.{Row}
use Rattle.part_history.specs.mt_model.Folding.{Leaves}
use Rattle.row_merge.specs.Merged.{rows_of_all}
use Rattle.row_merge.specs.Merging.{AreTaken, IsTaken, Leads, Merging}
use Rattle.row_merge.proofs.Copying.{copied}
use Rattle.row_merge.proofs.Keys.{key_total}
use Rattle.row_merge.proofs.Sorted.{Up, all_halves, up_of}
use Rattle.row_merge.proofs.Taking.{taken}

module _ (places : List ℕ) (front back : List (List Row)) where
  -- of an input in order such a row is taken first
  leads_taken : (row : Row) (rows : List Row) → Leads places front back row → All (IsSorted (key_cmp places)) (front ++ (row ∷ rows) ∷ back) → IsTaken places (front ++ (row ∷ rows) ∷ back) row (front ++ rows ∷ back)
  leads_taken row rows lead sorted =
      let own : IsSorted (key_cmp places) (row ∷ rows) = All-head (IsSorted (key_cmp places)) (row ∷ rows) back (all_halves (IsSorted (key_cmp places)) front ((row ∷ rows) ∷ back) sorted).1 in
      let up : Up (key_cmp places) (row ∷ rows) = up_of (key_cmp places) (key_total places) (row ∷ rows) own in
      record {
        front = front;
        rows = rows;
        back = back;
        left_is = refl;
        new_is = refl;
        before = lead.before;
        after = All-append (λ x. is_lt (key_cmp places x row) ≡ false) rows (rows_of_all back) up.0 lead.after;
      }

  module _ (run : List Row → List Row → Type 0) (kept_is : (rows out : List Row) → Leaves run rows out → out ≡ rows) (keeps_all : (rows : List Row) → Leaves run rows rows) (inputs : List (List Row)) where
    -- by a rule that keeps all rows a run of such rows goes out, one after another
    pub run_copied : (some rows out : List Row) → All (Leads places front back) some → Merging places run inputs out [] (front ++ (some ++ rows) ∷ back) → Merging places run inputs (out ++ some) [] (front ++ rows ∷ back)
    run_copied [] rows out lead m = subst (λ xs. Merging places run inputs xs [] (front ++ rows ∷ back)) (sym (append-nil out)) m
    run_copied (row ∷ some) rows out lead m =
        let t = leads_taken row (some ++ rows) (All-head (Leads places front back) row some lead) m.sorted in
        let on = taken places run inputs out [] (front ++ (row ∷ (some ++ rows)) ∷ back) (front ++ (some ++ rows) ∷ back) row m t (All-nil (λ a. key_of places a ≡ key_of places row)) in
        let gone = copied places run kept_is keeps_all inputs out (row ∷ []) (front ++ (some ++ rows) ∷ back) on in
        subst (λ xs. Merging places run inputs xs [] (front ++ rows ∷ back)) (append_assoc out (row ∷ []) some) (run_copied some rows (out ++ row ∷ []) (All-tail (Leads places front back) row some lead) gone)

-- the same, wherever the input of the rows stands
pub are_copied : (places : List ℕ) (run : List Row → List Row → Type 0) → ((rows out : List Row) → Leaves run rows out → out ≡ rows) → ((rows : List Row) → Leaves run rows rows) → (inputs left new : List (List Row)) (out some : List Row)
    → AreTaken places left some new → Merging places run inputs out [] left → Merging places run inputs (out ++ some) [] new
are_copied places run kept_is keeps_all inputs left new out some t m =
    subst (Merging places run inputs (out ++ some) []) (sym t.new_is)
    (run_copied places t.front t.back run kept_is keeps_all inputs some t.rows out t.lead (subst (Merging places run inputs out []) t.left_is m))
