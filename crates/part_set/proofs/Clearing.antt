-- Marks that are taken from parts by their names.
use Rattle.std.proofs.Common.{◌≡◌, ℕ, ◌+◌, ◌-◌, ◌<◌, ◌≤◌, Bool, true, false, cond, ◌&&◌, ◌||◌, eqb, List, [], ◌∷◌, ◌++◌, length, length-append, map, get_or, take, drop, Option, Some, None, refl, sym, ap, ap₂, ◌∙◌, subst, inl, inr, arith}
use Rattle.std.proofs.lemmas.Bool.{cases_lt, false≢true}
use Rattle.std.proofs.lemmas.Bool.Decides.{nat_tests}
use Rattle.std.proofs.lemmas.List.{get_or-drop, get_or-map, get_or-take, length-drop, length-map, length-take-le, map-append, take_all}
use Rattle.std.proofs.lemmas.List.Elements.{All-head, All-tail, filter-append}
use Rattle.std.proofs.lemmas.List.Folds.{list_any_at, list_any_more}
use Rattle.std.proofs.lemmas.Map.Views.{Contains-from_any}
use Rattle.std.specs.List.{All, AllWithin, Contains as HasItem, list_any}
use Rattle.mt_base.specs.declared.partition.Partition.{Partition}
use Rattle.mt_base.specs.declared.partition.Partition.TheVariants.{Whole, Number}
use Rattle.mt_values.specs.Tables.{same_partition}
use Rattle.part_name.specs.declared.part.PartName.{PartName}
use Rattle.part_set.specs.declared.kept.Kept.{Kept}
use Rattle.part_set.specs.declared.run.Run.{Run}
use Rattle.part_set.specs.Parts.{IsInBlockOrder, in_order, kept_in, partition_rank, same_mutation, same_part}
use Rattle.part_set.specs.Runs.{cleared, names_of_parts, parts_of_run, with_mark}
use Rattle.part_set.specs.Shelf.{IsFiled, Shelf, all_parts, room_of, shelf_at}
use Rattle.part_set.proofs.Filed.{same_ranked}
use Rattle.part_set.proofs.Orders.{order_turned}
use Rattle.part_set.proofs.Swaps.{IsWritten, named_mine, named_ordered, order_itself, run_parts}

-- ---- names that say the same

both_are : (a b : Bool) → (a && b) ≡ true → (a ≡ true) × (b ≡ true)
both_are true true is = (refl, refl)
both_are true false is = absurd (false≢true is)
both_are false b is = absurd (false≢true is)

number_is : (m n : ℕ) → eqb m n ≡ true → m ≡ n
number_is m n is = grind (arith, nat_tests, is)

number_itself : (n : ℕ) → eqb n n ≡ true
number_itself n = grind (arith, nat_tests)

mutation_is : (a b : Option ℕ) → same_mutation a b ≡ true → a ≡ b
mutation_is None None is = refl
mutation_is None (Some n) is = absurd (false≢true is)
mutation_is (Some m) None is = absurd (false≢true is)
mutation_is (Some m) (Some n) is = ap (λ (k : ℕ). Some k) (number_is m n is)

mutation_itself : (a : Option ℕ) → same_mutation a a ≡ true
mutation_itself None = refl
mutation_itself (Some n) = number_itself n

partition_is : (a b : Partition) → same_partition a b ≡ true → a ≡ b
partition_is Whole Whole is = refl
partition_is Whole (Number n) is = absurd (false≢true is)
partition_is (Number m) Whole is = absurd (false≢true is)
partition_is (Number m) (Number n) is = ap (λ (k : ℕ). Number k) (number_is m n is)

pub same_part_is : (a b : PartName) → same_part a b ≡ true → a ≡ b
same_part_is a b is =
    let one = both_are (same_partition a.partition b.partition) _ is in
    let two = both_are (eqb a.min_block b.min_block) _ one.1 in
    let three = both_are (eqb a.max_block b.max_block) _ two.1 in
    let four = both_are (eqb a.level b.level) _ three.1 in
    let partition = partition_is a.partition b.partition one.0 in
    let min_block = number_is a.min_block b.min_block two.0 in
    let max_block = number_is a.max_block b.max_block three.0 in
    let level = number_is a.level b.level four.0 in
    let mutation = mutation_is a.mutation b.mutation four.1 in
    λ i. record { partition = partition i; min_block = min_block i; max_block = max_block i; level = level i; mutation = mutation i }

all_true : (a b c d e : Bool) → a ≡ true → b ≡ true → c ≡ true → d ≡ true → e ≡ true → (a && (b && (c && (d && e)))) ≡ true
all_true true true true true true one two three four five = refl
all_true false b c d e one two three four five = absurd (false≢true one)
all_true true false c d e one two three four five = absurd (false≢true two)
all_true true true false d e one two three four five = absurd (false≢true three)
all_true true true true false e one two three four five = absurd (false≢true four)
all_true true true true true false one two three four five = absurd (false≢true five)

pub same_part_itself : (a : PartName) → same_part a a ≡ true
same_part_itself a =
    all_true _ _ _ _ _ (same_ranked a.partition a.partition refl) (number_itself a.min_block) (number_itself a.max_block) (number_itself a.level) (mutation_itself a.mutation)

-- names that are told apart
pub other_part : (a b : PartName) → (a ≡ b → ⊥) → same_part a b ≡ false
other_part a b other = by (same_part a b) refl
  where
    by : (t : Bool) → same_part a b ≡ t → t ≡ false
    by true is = absurd (other (same_part_is a b is))
    by false is = refl

-- a part of another partition has another name
other_partition : (a b : PartName) → same_partition a.partition b.partition ≡ false → same_part a b ≡ false
other_partition a b other = other_part a b (λ same.
    let yes : same_partition a.partition b.partition ≡ true = same_ranked a.partition b.partition (ap (λ (n : PartName). partition_rank n.partition) same) in
    false≢true (sym other ∙ yes))

no_items : {X : Type 0} (xs : List X) → length xs ≡ 0 → xs ≡ []
no_items [] none = refl
no_items (x ∷ xs) none = absurd (omega (arith, none))

module _ {P : Type 0} where
  abbrev name_of : Kept P → PartName
  name_of k = k.name

  -- ---- a part without its mark

  pub cleared_name : (names : List PartName) (k : Kept P) → (cleared names k).name ≡ k.name
  cleared_name names k = by (list_any (same_part k.name) names)
    where
      by : (b : Bool) → (cond b (with_mark false k) k).name ≡ k.name
      by true = refl
      by false = refl

  -- it has one of the names
  pub cleared_named : (names : List PartName) (k : Kept P) → HasItem names k.name → cleared names k ≡ with_mark false k
  cleared_named names k has =
      let at : same_part k.name (get_or names has.0 k.name) ≡ true = subst (λ (n : PartName). same_part k.name n ≡ true) (sym has.2) (same_part_itself k.name) in
      ap (λ (b : Bool). cond b (with_mark false k) k) (list_any_at (same_part k.name) names has.0 k.name has.1 at)

  -- or none of them
  pub cleared_other : (names : List PartName) (k : Kept P) → (HasItem names k.name → ⊥) → cleared names k ≡ k
  cleared_other names k none = by (list_any (same_part k.name) names) refl
    where
      by : (b : Bool) → list_any (same_part k.name) names ≡ b → cond b (with_mark false k) k ≡ k
      by true is = absurd (none (Contains-from_any {eq = same_part} same_part_is k.name names is))
      by false is = refl

  -- by one name
  pub cleared_one : (name : PartName) (k : Kept P) → k.name ≡ name → cleared (name ∷ []) k ≡ with_mark false k
  cleared_one name k is =
      ap (λ (b : Bool). cond (b || false) (with_mark false k) k) (subst (λ (n : PartName). same_part k.name n ≡ true) is (same_part_itself k.name))

  pub cleared_apart : (name : PartName) (k : Kept P) → same_part k.name name ≡ false → cleared (name ∷ []) k ≡ k
  cleared_apart name k other = ap (λ (b : Bool). cond (b || false) (with_mark false k) k) other

  -- whether it has the name was looked at
  pub cleared_told : (name : PartName) (k : Kept P) (other : Bool) → (other ≡ true → k.name ≡ name → ⊥) → (other ≡ false → k.name ≡ name) → with_mark (k.busy && other) k ≡ cleared (name ∷ []) k
  cleared_told name k true differ same = ap (λ (b : Bool). with_mark b k) (still k.busy) ∙ sym (cleared_apart name k (other_part k.name name (differ refl)))
    where
      still : (b : Bool) → (b && true) ≡ b
      still true = refl
      still false = refl
  cleared_told name k false differ same = ap (λ (b : Bool). with_mark b k) (none k.busy) ∙ sym (cleared_one name k (same refl))
    where
      none : (b : Bool) → (b && false) ≡ false
      none true = refl
      none false = refl

  -- by one name more
  cleared_again : (names : List PartName) (i : ℕ) (name : PartName) → i < length names → get_or names i name ≡ name → (k : Kept P) → cleared (name ∷ []) (cleared (take i names) k) ≡ cleared (take (i + 1) names) k
  cleared_again names i name inside at k =
      by (list_any (same_part k.name) (take i names)) (same_part k.name name) refl
      ∙ ap (λ (b : Bool). cond b (with_mark false k) k) (sym (list_any_more (same_part k.name) names i name inside ∙ ap (λ (n : PartName). list_any (same_part k.name) (take i names) || same_part k.name n) at))
    where
      one : Kept P → Bool → Kept P
      one x b = cond (b || false) (with_mark false x) x

      by : (a b : Bool) → same_part k.name name ≡ b → cleared (name ∷ []) (cond a (with_mark false k) k) ≡ cond (a || b) (with_mark false k) k
      by true true is = ap (one (with_mark false k)) is
      by true false is = ap (one (with_mark false k)) is
      by false true is = ap (one k) is
      by false false is = ap (one k) is

  -- ---- lists of them

  pub map_same : (f : Kept P → Kept P) (ks : List (Kept P)) → All (λ (k : Kept P). f k ≡ k) ks → map f ks ≡ ks
  map_same f [] all = refl
  map_same f (k ∷ ks) all = ap₂ (λ (x : Kept P) (xs : List (Kept P)). x ∷ xs) (All-head (λ (x : Kept P). f x ≡ x) k ks all) (map_same f ks (All-tail (λ (x : Kept P). f x ≡ x) k ks all))

  pub clear_names : (names : List PartName) (ks : List (Kept P)) → map name_of (map (cleared names) ks) ≡ map name_of ks
  clear_names names [] = refl
  clear_names names (k ∷ ks) = ap₂ (λ (n : PartName) (ns : List PartName). n ∷ ns) (cleared_name names k) (clear_names names ks)

  pub clear_none : (ks : List (Kept P)) → map (cleared []) ks ≡ ks
  clear_none [] = refl
  clear_none (k ∷ ks) = ap (λ (xs : List (Kept P)). k ∷ xs) (clear_none ks)

  pub clear_more : (names : List PartName) (i : ℕ) (name : PartName) → i < length names → get_or names i name ≡ name → (ks : List (Kept P)) → map (cleared (name ∷ [])) (map (cleared (take i names)) ks) ≡ map (cleared (take (i + 1) names)) ks
  clear_more names i name inside at [] = refl
  clear_more names i name inside at (k ∷ ks) = ap₂ (λ (x : Kept P) (xs : List (Kept P)). x ∷ xs) (cleared_again names i name inside at k) (clear_more names i name inside at ks)

  pub clear_ordered : (names : List PartName) (ks : List (Kept P)) → IsInBlockOrder ks → IsInBlockOrder (map (cleared names) ks)
  clear_ordered names ks ordered = named_ordered ks (map (cleared names) ks) (clear_names names ks) ordered

  some_part : (ks : List (Kept P)) → 0 < length ks → Kept P
  some_part [] some = absurd (omega (arith, some))
  some_part (k ∷ ks) some = k

  -- ---- in block order

  module _ (parts : List (Kept P)) (name : PartName) (start end : ℕ) (start_in : start ≤ length parts) (end_in : end ≤ length parts)
      (front : AllWithin (λ (k : Kept P). in_order name k.name ≡ false) parts 0 start) (back : AllWithin (λ (k : Kept P). in_order k.name name ≡ false) parts end (length parts)) where
    abbrev one : Kept P → Kept P
    one = cleared (name ∷ [])

    before_same : (k : Kept P) → in_order name k.name ≡ false → one k ≡ k
    before_same k other = cleared_apart name k (other_part k.name name (λ same. false≢true (sym other ∙ subst (λ (n : PartName). in_order name n ≡ true) (sym same) (order_itself name))))

    after_same : (k : Kept P) → in_order k.name name ≡ false → one k ≡ k
    after_same k other = cleared_apart name k (other_part k.name name (λ same. false≢true (sym other ∙ subst (λ (n : PartName). in_order n name ≡ true) (sym same) (order_itself name))))

    -- it ends no earlier than it begins
    pub ends_later : start ≤ end
    ends_later = elim (cases_lt end start) [
      | inl less ↦ (
          let k = some_part parts (omega (arith, less, start_in)) in
          let x = get_or parts end k in
          let first = front end k (omega arith) less in
          let second = back end k (omega arith) (omega (arith, less, start_in)) in
          absurd (false≢true (sym second ∙ order_turned name x.name first))
          )
      | inr no_less ↦ no_less
    ]

    front_stays : map one (take start parts) ≡ take start parts
    front_stays = map_same one (take start parts) (λ i d inside.
        let long = length-take-le start parts start_in in
        let at = get_or-take start parts i d (omega (arith, inside, long)) in
        subst (λ (k : Kept P). one k ≡ k) (sym at) (before_same (get_or parts i d) (front i d (omega arith) (omega (arith, inside, long)))))

    back_stays : map one (drop end parts) ≡ drop end parts
    back_stays = map_same one (drop end parts) (λ i d inside.
        let long = length-drop end parts in
        let at = get_or-drop end parts i d in
        subst (λ (k : Kept P). one k ≡ k) (sym at) (after_same (get_or parts (end + i) d) (back (end + i) d (omega arith) (omega (arith, inside, long, end_in)))))

    -- so those between are all that have the name
    pub clear_between : take start parts ++ (map one (parts_of_run (record { first = start; count = end - start }) parts) ++ drop (start + (end - start)) parts) ≡ map one parts
    clear_between =
        let run : Run = record { first = start; count = end - start } in
        let later = ends_later in
        let place : start + (end - start) ≡ end = omega (arith, later) in
        let mid = parts_of_run run parts in
        let rest : map one (drop (start + (end - start)) parts) ≡ drop (start + (end - start)) parts = subst (λ (n : ℕ). map one (drop n parts) ≡ drop n parts) (sym place) back_stays in
        sym (ap (map one) (run_parts run parts)
        ∙ (map-append one (take start parts) (mid ++ drop (start + (end - start)) parts)
        ∙ (ap (λ (xs : List (Kept P)). map one (take start parts) ++ xs) (map-append one mid (drop (start + (end - start)) parts))
        ∙ ap₂ (λ (xs ys : List (Kept P)). xs ++ (map one mid ++ ys)) front_stays rest)))

  -- ---- the shelf of a name among all

  kept_twice : (p : Partition) (ks : List (Kept P)) → kept_in p (kept_in p ks) ≡ kept_in p ks
  kept_twice p [] = refl
  kept_twice p (k ∷ ks) = by (same_partition k.name.partition p) refl (kept_twice p ks)
    where
      by : (b : Bool) → same_partition k.name.partition p ≡ b → kept_in p (kept_in p ks) ≡ kept_in p ks → kept_in p (cond b (k ∷ kept_in p ks) (kept_in p ks)) ≡ cond b (k ∷ kept_in p ks) (kept_in p ks)
      by true is rest = ap (λ (b : Bool). cond b (k ∷ kept_in p (kept_in p ks)) (kept_in p (kept_in p ks))) is ∙ ap (λ (xs : List (Kept P)). k ∷ xs) rest
      by false is rest = rest

  -- where no part is of the name's partition all stay
  pub clear_foreign : (name : PartName) (ks : List (Kept P)) → kept_in name.partition ks ≡ [] → map (cleared (name ∷ [])) ks ≡ ks
  clear_foreign name [] none = refl
  clear_foreign name (k ∷ ks) none = by (same_partition k.name.partition name.partition) refl none (clear_foreign name ks)
    where
      by : (b : Bool) → same_partition k.name.partition name.partition ≡ b → cond b (k ∷ kept_in name.partition ks) (kept_in name.partition ks) ≡ []
          → (kept_in name.partition ks ≡ [] → map (cleared (name ∷ [])) ks ≡ ks) → map (cleared (name ∷ [])) (k ∷ ks) ≡ k ∷ ks
      by true is some more = absurd (let long = ap (λ (xs : List (Kept P)). length xs) some in omega (arith, long))
      by false is rest more = ap₂ (λ (x : Kept P) (xs : List (Kept P)). x ∷ xs) (cleared_apart name k (other_partition k.name name is)) (more rest)

  module _ (name : PartName) (v w : Shelf P) (before after : List (Kept P)) (written : IsWritten v w before after) (mine : v.parts ≡ kept_in name.partition before) (now : w.parts ≡ map (cleared (name ∷ [])) v.parts) where
    abbrev p : Partition
    p = name.partition

    abbrev bare : Kept P → Kept P
    bare = cleared (name ∷ [])

    split : kept_in p before ≡ kept_in p written.front ++ (kept_in p v.parts ++ kept_in p written.back)
    split =
        ap (kept_in p) written.before_is ∙ (filter-append (λ (k : Kept P). same_partition k.name.partition p) written.front (v.parts ++ written.back)
        ∙ ap (λ (xs : List (Kept P)). kept_in p written.front ++ xs) (filter-append (λ (k : Kept P). same_partition k.name.partition p) v.parts written.back))

    none_beside : (length (kept_in p written.front) ≡ 0) × (length (kept_in p written.back) ≡ 0)
    none_beside =
        let own : kept_in p v.parts ≡ v.parts = ap (kept_in p) mine ∙ (kept_twice p before ∙ sym mine) in
        let whole : length v.parts ≡ length (kept_in p written.front ++ (kept_in p v.parts ++ kept_in p written.back)) = ap (λ (xs : List (Kept P)). length xs) (mine ∙ split) in
        let one = length-append (kept_in p written.front) (kept_in p v.parts ++ kept_in p written.back) in
        let two = length-append (kept_in p v.parts) (kept_in p written.back) in
        let three : length (kept_in p v.parts) ≡ length v.parts = ap (λ (xs : List (Kept P)). length xs) own in
        (omega (arith, whole, one, two, three), omega (arith, whole, one, two, three))

    pub written_cleared : after ≡ map (cleared (name ∷ [])) before
    written_cleared =
        written.after_is
        ∙ (ap (λ (xs : List (Kept P)). written.front ++ (xs ++ written.back)) now
        ∙ sym (ap (map bare) written.before_is
        ∙ (map-append bare written.front (v.parts ++ written.back)
        ∙ (ap (λ (xs : List (Kept P)). map bare written.front ++ xs) (map-append bare v.parts written.back)
        ∙ ap₂ (λ (xs ys : List (Kept P)). xs ++ (map bare v.parts ++ ys)) (clear_foreign name written.front (no_items (kept_in p written.front) none_beside.0)) (clear_foreign name written.back (no_items (kept_in p written.back) none_beside.1))))))

  -- it is filed as it was
  pub cleared_filed : (n : ℕ) (names : List PartName) (v w : Shelf P) → IsFiled (n, v) → w.parts ≡ map (cleared names) v.parts → IsFiled (n, w)
  cleared_filed n names v w was now =
      let same : map name_of w.parts ≡ map name_of v.parts = ap (map name_of) now ∙ clear_names names v.parts in
      record { mine = named_mine v.parts w.parts same n was.mine; ordered = named_ordered v.parts w.parts same was.ordered }

  -- ---- by the names of the first parts of a list

  pub record ClearsFirst (n : ℕ) (sources : List (Kept P)) (before after : List (ℕ × Shelf P)) : Type 0 where
    pub parts : all_parts after ≡ map (cleared (take n (names_of_parts sources))) (all_parts before)
    pub rooms : (p : Partition) → 0 < room_of (shelf_at p before) → 0 < room_of (shelf_at p after)

  pub clears_none : (sources : List (Kept P)) (before : List (ℕ × Shelf P)) → ClearsFirst 0 sources before before
  clears_none sources before = record { parts = sym (clear_none (all_parts before)); rooms = λ p room. room }

  module _ (n : ℕ) (sources : List (Kept P)) (before between after : List (ℕ × Shelf P)) (s : Kept P) (inside : n < length sources) (is : s ≡ get_or sources n s) (first : ClearsFirst n sources before between) where
    pub clears_more : all_parts after ≡ map (cleared (s.name ∷ [])) (all_parts between) → ((p : Partition) → 0 < room_of (shelf_at p between) → 0 < room_of (shelf_at p after)) → ClearsFirst (n + 1) sources before after
    clears_more parts rooms = record {
      parts =
          let long = length-map sources name_of in
          let at : get_or (names_of_parts sources) n s.name ≡ s.name = get_or-map name_of sources n s s.name inside ∙ ap name_of (sym is) in
          parts ∙ (ap (map (cleared (s.name ∷ []))) first.parts ∙ clear_more (names_of_parts sources) n s.name (omega (arith, inside, long)) at (all_parts before));
      rooms = λ p room. rooms p (first.rooms p room);
    }

  pub clears_all : (n : ℕ) (sources : List (Kept P)) (before after : List (ℕ × Shelf P)) → length sources ≤ n → ClearsFirst n sources before after → all_parts after ≡ map (cleared (names_of_parts sources)) (all_parts before)
  clears_all n sources before after end all =
      let long = length-map sources name_of in
      all.parts ∙ ap (λ (names : List PartName). map (cleared names) (all_parts before)) (take_all n (names_of_parts sources) (omega (arith, end, long)))
