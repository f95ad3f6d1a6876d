-- Tables and orphans among the names of the root.
use Rattle.std.proofs.Common.{◌≡◌, ℕ, ◌<◌, ◌≤◌, Bool, true, false, ◌||◌, not, List, [], ◌∷◌, length, get_or, refl, sym, ap, ◌∙◌, subst, inl, inr, Option, Some, is_some, IsSomeAnd, arith}
use Rattle.std.proofs.lemmas.Bool.{false≢true}
use Rattle.std.proofs.lemmas.Cmp.{nat_list_cmp_total, tied_itself}
use Rattle.std.proofs.lemmas.List.Elements.{Contains-append_right}
use Rattle.std.proofs.lemmas.List.Folds.{list_any_at}
use Rattle.std.proofs.lemmas.Option.{get_or_from_slice_get, slice_get-get_or}
use Rattle.std.specs.List.{AllWithin, Contains as HasItem, slice_get}
use Rattle.std.specs.Ordering.{is_eq}
use Rattle.part_set.specs.declared.root_name.RootName.{RootName}
use Rattle.part_set.specs.declared.root_name.RootName.TheVariants.{Create, Part}
use Rattle.part_set.specs.Groups.{has_table, is_create, is_same, orphan_by}
use Rattle.part_set.specs.Visible.{HasNoOrphan, HasTable, IsFirstOrphan, IsOrphan}
use Rattle.part_set.proofs.Maps.{found_is, true_or_false}
use Rattle.part_set.proofs.Passes.{there}

pub same_itself : (t : List ℕ) → is_same t t ≡ true
same_itself t = ap is_eq (tied_itself nat_list_cmp_total t)

pub item_more : {X : Type 0} (x y : X) (xs : List X) → HasItem xs y → HasItem (x ∷ xs) y
item_more x y xs has = Contains-append_right (x ∷ []) xs y has

other_one : (b c : Bool) → (b || c) ≡ true → b ≡ false → c ≡ true
other_one true c is off = absurd (false≢true (sym off))
other_one false c is off = is

-- a table that is found is among the names
pub table_found : (names : List RootName) (t : List ℕ) → has_table names t ≡ true → HasTable names t
table_found [] t is = absurd (false≢true is)
table_found (Create u ∷ ns) t is = elim (true_or_false (is_same u t)) [
  | inl here ↦ (0, omega arith, ap Create (found_is u t here))
  | inr other ↦ item_more (Create u) (Create t) ns (table_found ns t (other_one (is_same u t) (has_table ns t) is other))
]
table_found (Part part ∷ ns) t is = item_more (Part part) (Create t) ns (table_found ns t is)

-- and one among the names is found
pub table_told : (names : List RootName) (t : List ℕ) → HasTable names t → has_table names t ≡ true
table_told names t has = list_any_at (is_create t) names has.0 (Create t) has.1 (subst (λ (n : RootName). is_create t n ≡ true) (sym has.2) (same_itself t))

both_off : (a m : Bool) → (not a || m) ≡ false → (a ≡ true) × (m ≡ false)
both_off true m is = (refl, is)
both_off false m is = absurd (false≢true (sym is))

pub orphan_is : (names : List RootName) (name : RootName) → orphan_by (has_table names) name ≡ true → IsOrphan names name
orphan_is names (Create t) is = absurd (false≢true is)
orphan_is names (Part part) is = elim (true_or_false (has_table names part.table)) [
  | inl here ↦ inr (sym (ap (λ (b : Bool). not b || is_some part.name.mutation) here) ∙ is)
  | inr absent ↦ inl (λ has. false≢true (sym absent ∙ table_told names part.table has))
]

pub orphan_not : (names : List RootName) (name : RootName) → orphan_by (has_table names) name ≡ false → IsOrphan names name → ⊥
orphan_not names (Create t) is orphan = orphan
orphan_not names (Part part) is orphan =
    let off = both_off (has_table names part.table) (is_some part.name.mutation) is in
    elim orphan [
      | inl absent ↦ absent (table_found names part.table off.0)
      | inr some ↦ false≢true (sym off.1 ∙ some)
    ]

-- the first that is found is the first
pub orphan_first : (names : List RootName) (place : ℕ) (name : RootName) → place < length names → name ≡ get_or names place name → orphan_by (has_table names) name ≡ true
    → AllWithin (λ n. orphan_by (has_table names) n ≡ false) names 0 place → IsFirstOrphan names place
orphan_first names place name inside is orphan none =
    let found : slice_get names place ≡ Some name = slice_get-get_or names place name inside ∙ ap Some (sym is) in
    record {
      is = subst (λ (o : Option RootName). IsSomeAnd o (IsOrphan names)) (sym found) (orphan_is names name orphan);
      first = λ k less earlier.
          let other = there (slice_get names k) (IsOrphan names) earlier in
          let read : get_or names k other.0 ≡ other.0 = get_or_from_slice_get names k other.0 other.0 other.1 in
          orphan_not names other.0 (subst (λ (n : RootName). orphan_by (has_table names) n ≡ false) read (none k other.0 (omega arith) less)) other.2;
    }

pub orphan_none : (names : List RootName) (i : ℕ) → length names ≤ i → AllWithin (λ n. orphan_by (has_table names) n ≡ false) names 0 i → HasNoOrphan names
orphan_none names i end none = λ name has orphan.
    orphan_not names name (subst (λ (n : RootName). orphan_by (has_table names) n ≡ false) has.2 (none has.0 name (omega arith) (omega (arith, has.1)))) orphan
