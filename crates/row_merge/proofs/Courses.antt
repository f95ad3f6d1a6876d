-- One row more of a merge that is on its way.
use Rattle.std.proofs.Common.{◌≡◌, inl, inr, ℕ, zero, ◌<◌, true, false, List, [], ◌∷◌, ◌++◌, length, take, refl, sym, ap, ◌∙◌, subst, append-nil, arith, Option, Some}
use Rattle.std.specs.List.{All}
use Rattle.std.specs.Ordering.{is_eq, is_ne, ordering_reverse}
use Rattle.std.specs.declared.cmp.Ordering.{Ordering}
use Rattle.std.specs.declared.cmp.Ordering.TheVariants.{Less, Equal, Greater}
use Rattle.std.proofs.lemmas.List.Elements.{All-cons, All-head, All-nil, All-same, All-weaker}
use Rattle.mt_values.specs.declared.value.ColType.{ColType}
use Rattle.mt_values.specs.declared.value.Value.{Value}
use Rattle.mt_values.specs.Grid.{AreRowsOf}
use Rattle.mt_values.specs.Order.{key_cmp, key_of}
use Rattle.mt_values.specs.Values.{Row}
use Rattle.part_history.specs.mt_model.Folding.{Leaves}
use Rattle.row_merge.specs.declared.course.Current.{Current}
use Rattle.row_merge.specs.Course.{HoldsKey, HoldsRows, IsOn, TakesIn}
use Rattle.row_merge.specs.Merged.{IsFoldOf, rows_of_all}
use Rattle.row_merge.specs.Merging.{IsTaken, Merging}
use Rattle.row_merge.proofs.Keys.{key_exact, key_total}
use Rattle.row_merge.proofs.Taking.{all_merged, ended, next_after, taken}

-- what two tests of an order say
pub is_same : (r : Ordering) → is_ne r ≡ false → r ≡ Equal
is_same Less e = cc
is_same Equal e = refl
is_same Greater e = cc

pub other_way : (r : Ordering) → is_ne r ≡ true → is_eq (ordering_reverse r) ≡ false
other_way Less e = refl
other_way Equal e = cc
other_way Greater e = refl

module _ {S : Type 0} (places : List ℕ) (run : List Row → List Row → Type 0) (holds : S → List Row → Type 0) (takes : Row → Type 0)
    (keeps : (key : List Value) (rows kept : List Row) → 0 < length rows → All takes rows → All (λ r. key_of places r ≡ key) rows → run rows kept → All (λ r. key_of places r ≡ key) kept)
    (inputs : List (List Row)) where
  -- the rows of the key have the key of the next row
  same_keys : (out pending : List Row) (left : List (List Row)) (row : Row) → Merging places run inputs out pending left → All (λ first. is_ne (key_cmp places first row) ≡ false) (take 1 pending)
      → All (λ a. key_of places a ≡ key_of places row) pending
  same_keys out [] left row m same = All-nil (λ a. key_of places a ≡ key_of places row)
  same_keys out (first ∷ others) left row m same =
      let own = key_exact places first row (is_same (key_cmp places first row) (All-head (λ x. is_ne (key_cmp places x row) ≡ false) first (take zero others) same)) in
      let key = All-head (λ a. key_of places a ≡ m.key) first others m.one_key in
      All-weaker (λ a. key_of places a ≡ m.key) (λ a. key_of places a ≡ key_of places row) (λ a e. e ∙ sym key ∙ own) (first ∷ others) m.one_key

  first_of_next : (out others kept : List Row) (first : Row) (left new_left : List (List Row)) (row : Row) → Merging places run inputs out (first ∷ others) left → IsTaken places left row new_left
      → All takes (first ∷ others) → is_ne (key_cmp places first row) ≡ true → run (first ∷ others) kept → Merging places run inputs (out ++ kept) (row ∷ []) new_left
  first_of_next out others kept first left new_left row m t all other ran =
      let turned : is_eq (key_cmp places row first) ≡ false = ap is_eq ((key_total places).antisymm row first) ∙ other_way (key_cmp places first row) other in
      let own = All-weaker (λ r. key_of places r ≡ m.key) (λ r. key_of places r ≡ key_of places first) (λ r e. e ∙ sym (All-head (λ a. key_of places a ≡ m.key) first others m.one_key)) (first ∷ others) m.one_key in
      let over = ended places run inputs out others kept first left m ran (keeps (key_of places first) (first ∷ others) kept (omega arith) all own ran) (next_after places run inputs out others first left new_left row m t turned) in
      taken places run inputs (out ++ kept) [] left new_left row over t (All-nil (λ a. key_of places a ≡ key_of places row))

  -- the next row of all is handed to the rule
  pub row_more : (out pending kept : List Row) (left new_left : List (List Row)) (row : Row) (new : Current S) → Merging places run inputs out pending left → IsTaken places left row new_left
      → All takes pending → TakesIn places run holds pending row kept new → IsOn places run holds inputs pending row (out ++ kept) new new_left
  row_more out pending kept left new_left row new m t all (inl g) = record {
    pending = pending ++ row ∷ [];
    are = inl refl;
    held = g.holds_more;
    merging = subst (λ xs. Merging places run inputs (out ++ xs) (pending ++ row ∷ []) new_left) (sym g.kept_is)
        (subst (λ xs. Merging places run inputs xs (pending ++ row ∷ []) new_left) (sym (append-nil out))
        (taken places run inputs out pending left new_left row m t (same_keys out pending left row m g.same)));
  }
  row_more out pending kept left new_left row new m t all (inr e) = record {
    pending = row ∷ [];
    are = inr refl;
    held = e.holds_one;
    merging = first_of_next out e.others kept e.first left new_left row (subst (λ xs. Merging places run inputs out xs left) e.pending_is m) t (subst (All takes) e.pending_is all) e.other
        (subst (λ xs. run xs kept) e.pending_is e.ran);
  }

  -- nothing is left, and what the rule leaves of the last key goes out
  pub all_out : (out pending kept : List Row) (left : List (List Row)) → Merging places run inputs out pending left → All takes pending → rows_of_all left ≡ [] → Leaves run pending kept
      → IsFoldOf places run (rows_of_all inputs) (out ++ kept)
  all_out out [] kept left m all none is =
      subst (λ xs. IsFoldOf places run (rows_of_all inputs) (out ++ xs)) (sym is) (subst (IsFoldOf places run (rows_of_all inputs)) (sym (append-nil out)) (all_merged places run inputs out left m none))
  all_out out (first ∷ others) kept left m all none ran =
      let own = All-weaker (λ r. key_of places r ≡ m.key) (λ r. key_of places r ≡ key_of places first) (λ r e. e ∙ sym (All-head (λ a. key_of places a ≡ m.key) first others m.one_key)) (first ∷ others) m.one_key in
      let after = All-same (λ x. key_cmp places first x ≡ Less) (rows_of_all left) [] none (All-nil (λ x. key_cmp places first x ≡ Less)) in
      let over = ended places run inputs out others kept first left m ran (keeps (key_of places first) (first ∷ others) kept (omega arith) all own ran) after in
      all_merged places run inputs (out ++ kept) left over none

-- ---- what the rule holds then

module _ {S : Type 0} (places : List ℕ) (run : List Row → List Row → Type 0) (holds : S → List Row → Type 0) (pending : List Row) (row : Row) (kept : List Row) (new : Current S) where
  -- the first row of all
  pub first_in : pending ≡ [] → kept ≡ [] → new.first ≡ row → holds new.state (row ∷ []) → TakesIn places run holds pending row kept new
  first_in none kept_is first_is h =
      inl (record {
        same = subst (λ xs. All (λ x. is_ne (key_cmp places x row) ≡ false) (take 1 xs)) (sym none) (All-nil (λ x. is_ne (key_cmp places x row) ≡ false));
        kept_is = kept_is;
        holds_more = subst (λ xs. HoldsRows holds new (xs ++ row ∷ [])) (sym none) (record { others = []; pending_is = ap (λ x. x ∷ []) (sym first_is); held = h });
      })

  -- one more of the same key
  pub more_in : (old : Current S) → HoldsRows holds old pending → is_ne (key_cmp places old.first row) ≡ false → kept ≡ [] → new.first ≡ old.first → holds new.state (pending ++ row ∷ [])
      → TakesIn places run holds pending row kept new
  more_in old h same kept_is first_is more =
      inl (record {
        same = subst (λ xs. All (λ x. is_ne (key_cmp places x row) ≡ false) (take 1 xs)) (sym h.pending_is)
            (All-cons (λ x. is_ne (key_cmp places x row) ≡ false) old.first [] same (All-nil (λ x. is_ne (key_cmp places x row) ≡ false)));
        kept_is = kept_is;
        holds_more = record { others = h.others ++ row ∷ []; pending_is = ap (λ xs. xs ++ row ∷ []) h.pending_is ∙ ap (λ x. x ∷ (h.others ++ row ∷ [])) (sym first_is); held = more };
      })

  -- the first of another key
  pub other_in : (old : Current S) → HoldsRows holds old pending → is_ne (key_cmp places old.first row) ≡ true → run pending kept → new.first ≡ row → holds new.state (row ∷ [])
      → TakesIn places run holds pending row kept new
  other_in old h other ran first_is one =
      inr (record {
        first = old.first;
        others = h.others;
        pending_is = h.pending_is;
        other = other;
        ran = ran;
        holds_one = record { others = []; pending_is = ap (λ x. x ∷ []) (sym first_is); held = one };
      })

-- ---- what the rule leaves of a key that ends

module _ {S : Type 0} (holds : S → List Row → Type 0) (run : List Row → List Row → Type 0) (takes : Row → Type 0) (current : Option (Current S)) (c : Current S) (pending kept : List Row)
    (is : current ≡ Some c) (held : HoldsKey holds current pending) (all : All takes pending) (ends : (rows : List Row) → All takes rows → holds c.state rows → run rows kept) where
  held_rows : HoldsRows holds c pending
  held_rows = subst (λ x. HoldsKey holds x pending) is held

  pub key_leaves : Leaves run pending kept
  key_leaves = subst (λ xs. Leaves run xs kept) (sym held_rows.pending_is) (subst (λ xs. run xs kept) held_rows.pending_is (ends pending all held_rows.held))

  pub key_typed : (types : List ColType) → AreRowsOf types pending
      → ((types : List ColType) (rows out : List Row) → 0 < length rows → All takes rows → AreRowsOf types rows → run rows out → All takes out × AreRowsOf types out) → AreRowsOf types kept
  key_typed types typed stays = (stays types pending kept (omega (arith, ap length held_rows.pending_is)) all typed (ends pending all held_rows.held)).1
