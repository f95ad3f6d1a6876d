-- What a set has of a table after one table's shelves were changed.
use Rattle.std.proofs.Common.{◌≡◌, ◌≢◌, ℕ, ◌<◌, Bool, true, false, List, Option, Some, Result, Ok, Err, refl, sym, ap, ◌∙◌, subst, inl, inr, ◌⊎◌}
use Rattle.std.specs.BTreeMap.{BTreeMap, UpdatesBy, get, is_at}
use Rattle.std.specs.Cmp.{Equal-is}
use Rattle.std.specs.Cmp.Lexicographic.{slice_cmp}
use Rattle.std.specs.Ordering.{nat_cmp}
use Rattle.std.proofs.lemmas.Bool.{false_from_ne_true}
use Rattle.std.proofs.lemmas.Map.Lookups.{exact_bytes}
use Rattle.part_set.specs.declared.kept.Kept.{Kept}
use Rattle.part_set.specs.Parts.{IsInBlockOrder}
use Rattle.part_set.specs.Shelf.{Shelf, all_parts, room_of, shelf_at}
use Rattle.std.specs.Result.{OnErr, OnOk}
use Rattle.mt_base.specs.declared.memory.NoMemory.{NoMemory}
use Rattle.mt_base.specs.declared.partition.Partition.{Partition}
use Rattle.part_set.specs.Sets.{IsPut, parts_on, room_on, shelves_of}

pub true_or_false : (b : Bool) → (b ≡ true) ⊎ (b ≡ false)
true_or_false true = inl refl
true_or_false false = inr refl

-- the key that a query finds is the name that is asked for
pub found_is : (table t : List ℕ) → is_at (slice_cmp nat_cmp table) t ≡ true → table ≡ t
found_is table t is = exact_bytes table t ((Equal-is (slice_cmp nat_cmp table t)).0 is)

module _ {P : Type 0} (old new : BTreeMap (List ℕ) (List (ℕ × Shelf P))) (table : List ℕ) (w : Option (List (ℕ × Shelf P))) (updates : UpdatesBy (slice_cmp nat_cmp) (slice_cmp nat_cmp table) old new w) where
  -- another table keeps its shelves
  pub other_shelves : (t : List ℕ) → t ≢ table → get (slice_cmp nat_cmp) new t ≡ get (slice_cmp nat_cmp) old t
  other_shelves t apart = updates.2 t (false_from_ne_true (is_at (slice_cmp nat_cmp table) t) (λ is. apart (sym (found_is table t is))))

  -- and its parts
  pub other_parts : (t : List ℕ) → t ≢ table → parts_on (get (slice_cmp nat_cmp) new t) ≡ parts_on (get (slice_cmp nat_cmp) old t)
  other_parts t apart = ap parts_on (other_shelves t apart)

  -- and its room
  pub other_room : (t : List ℕ) (p : Partition) → t ≢ table → 0 < room_on (get (slice_cmp nat_cmp) old t) p → 0 < room_on (get (slice_cmp nat_cmp) new t) p
  other_room t p apart room = subst (λ (o : Option (List (ℕ × Shelf P))). 0 < room_on o p) (sym (other_shelves t apart)) room

  -- the changed table has what was written
  pub here_ordered : IsInBlockOrder (parts_on w) → IsInBlockOrder (parts_on (get (slice_cmp nat_cmp) new table))
  here_ordered ordered = subst (λ (parts : List (Kept P)). IsInBlockOrder parts) (sym (ap parts_on updates.1)) ordered

  -- where the changed table has the parts that it had, all tables have
  pub all_parts_kept : parts_on w ≡ parts_on (get (slice_cmp nat_cmp) old table) → (t : List ℕ) → parts_on (get (slice_cmp nat_cmp) new t) ≡ parts_on (get (slice_cmp nat_cmp) old t)
  all_parts_kept same t = elim (true_or_false (is_at (slice_cmp nat_cmp table) t)) [
    | inl here ↦ subst (λ (u : List ℕ). parts_on (get (slice_cmp nat_cmp) new u) ≡ parts_on (get (slice_cmp nat_cmp) old u)) (found_is table t here) (ap parts_on updates.1 ∙ same)
    | inr other ↦ ap parts_on (updates.2 t other)
  ]

  -- likewise its room
  pub all_room : (p : Partition) → (0 < room_on (get (slice_cmp nat_cmp) old table) p → 0 < room_on w p) → (t : List ℕ) → 0 < room_on (get (slice_cmp nat_cmp) old t) p → 0 < room_on (get (slice_cmp nat_cmp) new t) p
  all_room p kept t = elim (true_or_false (is_at (slice_cmp nat_cmp table) t)) [
    | inl here ↦ subst (λ (u : List ℕ). 0 < room_on (get (slice_cmp nat_cmp) old u) p → 0 < room_on (get (slice_cmp nat_cmp) new u) p) (found_is table t here) (λ room. subst (λ (o : Option (List (ℕ × Shelf P))). 0 < room_on o p) (sym updates.1) (kept room))
    | inr other ↦ λ room. subst (λ (o : Option (List (ℕ × Shelf P))). 0 < room_on o p) (sym (updates.2 t other)) room
  ]

module _ {P : Type 0} (base old new : BTreeMap (List ℕ) (List (ℕ × Shelf P))) (table key : List ℕ) (w : Option (List (ℕ × Shelf P))) where
  -- a change that is told of an equal map and an equal name
  pub told_here : old ≡ base → key ≡ table → UpdatesBy (slice_cmp nat_cmp) (slice_cmp nat_cmp key) old new w → UpdatesBy (slice_cmp nat_cmp) (slice_cmp nat_cmp table) base new w
  told_here maps names updates =
      subst (λ (k : List ℕ). UpdatesBy (slice_cmp nat_cmp) (slice_cmp nat_cmp k) base new w) names
      (subst (λ (m : BTreeMap (List ℕ) (List (ℕ × Shelf P))). UpdatesBy (slice_cmp nat_cmp) (slice_cmp nat_cmp key) m new w) maps updates)

-- room on equal shelves
pub room_same : {P : Type 0} (p : Partition) (o q : Option (List (ℕ × Shelf P))) → o ≡ q → 0 < room_on q p → 0 < room_on o p
room_same {P} p o q same room = subst (λ (r : Option (List (ℕ × Shelf P))). 0 < room_on r p) (sym same) room

-- ---- after shelves were put, or were not

module _ {P : Type 0} (old new : BTreeMap (List ℕ) (List (ℕ × Shelf P))) (table : List ℕ) (shelves : List (ℕ × Shelf P)) where
  -- all other tables have theirs
  pub put_other : (r : Result (Unit {0}) NoMemory) → OnOk r (IsPut old new table shelves) → OnErr r ((t : List ℕ) → shelves_of new t ≡ shelves_of old t) → (t : List ℕ) → t ≢ table → shelves_of new t ≡ shelves_of old t
  put_other (Ok u) ok err t apart = other_shelves old new table (Some shelves) ok t apart
  put_other (Err e) ok err t apart = err t

  -- where the shelves have what the table had, all tables have what they had
  pub put_parts : (r : Result (Unit {0}) NoMemory) → OnOk r (IsPut old new table shelves) → OnErr r ((t : List ℕ) → shelves_of new t ≡ shelves_of old t) → all_parts shelves ≡ parts_on (shelves_of old table) → (t : List ℕ) → parts_on (shelves_of new t) ≡ parts_on (shelves_of old t)
  put_parts (Ok u) ok err same t = all_parts_kept old new table (Some shelves) ok same t
  put_parts (Err e) ok err same t = ap parts_on (err t)

  -- likewise their room
  pub put_room : (r : Result (Unit {0}) NoMemory) → OnOk r (IsPut old new table shelves) → OnErr r ((t : List ℕ) → shelves_of new t ≡ shelves_of old t)
      → ((p : Partition) → 0 < room_on (shelves_of old table) p → 0 < room_of (shelf_at p shelves)) → (t : List ℕ) (p : Partition) → 0 < room_on (shelves_of old t) p → 0 < room_on (shelves_of new t) p
  put_room (Ok u) ok err room t p had = all_room old new table (Some shelves) ok p (room p) t had
  put_room (Err e) ok err room t p had = subst (λ (o : Option (List (ℕ × Shelf P))). 0 < room_on o p) (sym (err t)) had
