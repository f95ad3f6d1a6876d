-- Of parts that follow each other in their partition, no INSERT has a number between the blocks of two neighbours.
use Rattle.std.proofs.Common.{◌≡◌, ℕ, ◌+◌, ◌<◌, ◌≤◌, ◌&&◌, Bool, true, false, List, [], ◌∷◌, ◌++◌, nat_le, Option, Some, append_assoc, drop, get_or, length, map, take, refl, sym, ap, ◌∙◌, subst, inl, inr, arith}
use Rattle.std.proofs.lemmas.Bool.Decides.{nat_tests}
use Rattle.std.proofs.lemmas.List.{get_or-map, length-map, map-append}
use Rattle.std.proofs.lemmas.List.Elements.{All-contains, All-map, Contains-append_cases, Contains-append_right, filter_passes}
use Rattle.std.specs.List.{All, AllPairs, Contains as HasItem}
use Rattle.mt_base.specs.declared.partition.Partition.{Partition}
use Rattle.mt_values.specs.Tables.{same_partition}
use Rattle.mt_values.specs.Values.{Row}
use Rattle.mt_outside.specs.Files.{Files}
use Rattle.root_commits.specs.mt_model.History.{History}
use Rattle.root_commits.specs.mt_model.Numbers.{IsNumberOfInsert}
use Rattle.root_commits.specs.part_history.declared.part.CorePart.{CorePart}
use Rattle.root_commits.specs.part_history.Parts.{has_block}
use Rattle.root_commits.specs.part_name.declared.part.PartName.{PartName}
use Rattle.root_commits.specs.part_reader.declared.reading.Part.{Part}
use Rattle.root_commits.specs.part_set.declared.kept.Kept.{Kept}
use Rattle.root_commits.specs.part_set.declared.run.Run.{Run}
use Rattle.root_commits.specs.part_set.Parts.{IsInBlockOrder, StandsClear, kept_in, partition_rank}
use Rattle.root_commits.specs.part_set.Runs.{EndsInOrder, parts_of_run}
use Rattle.root_commits.specs.part_set.Sets.{parts_of}
use Rattle.root_commits.specs.root_store.declared.store.CoreStore.{CoreStore}
use Rattle.root_commits.specs.root_store.declared.store.Table.{Table}
use Rattle.root_commits.specs.root_store.Stores.{CoreStands, core_part, core_parts, table_at}
use Rattle.root_commits.proofs.PartSetItems.{item_first, item_none, item_split}
use Rattle.root_commits.proofs.PartSetOrders.{block_low}
use Rattle.root_commits.proofs.PartSetOrphans.{item_more}
use Rattle.root_commits.proofs.PartSetShelving.{mine_has}
use Rattle.root_commits.proofs.PartSetSwaps.{pairs_across, pairs_back, pairs_front, run_parts}
use Rattle.root_commits.proofs.RootStoreItems.{counted_one, map_item}
use Rattle.shared_store.specs.Handed.{AreNeighbours}
use Rattle.shared_store.proofs.Standing.{mine_long, mine_ordered, partition_is, some_item}

-- ---- names in block order

-- of names in block order, that of which the blocks have a number above those of one begins no earlier than the next one
module _ (front back : List PartName) (a b : PartName) (ordered : AllPairs StandsClear (front ++ a ∷ b ∷ back)) (long : a.min_block ≤ a.max_block) (n : ℕ) (above : a.max_block < n) where
  behind : AllPairs StandsClear (b ∷ back)
  behind = pairs_back StandsClear (a ∷ []) (b ∷ back) (pairs_back StandsClear front (a ∷ b ∷ back) ordered)

  module _ (k : PartName) (like_a : k.partition ≡ a.partition) (like_b : b.partition ≡ k.partition) (low : k.min_block ≤ n) (high : n ≤ k.max_block) where
    not_before : StandsClear k a → ⊥
    not_before clear =
        let first = block_low k a clear.order (ap partition_rank like_a) in
        clear.apart (record { partition = like_a; low = omega (arith, first, long, above, high); high = omega (arith, first, long, above, high) })

    not_itself : a ≡ k → ⊥
    not_itself same = let ends = ap (λ (p : PartName). p.max_block) same in omega (arith, ends, above, high)

    next_low : HasItem (front ++ a ∷ b ∷ back) k → b.min_block ≤ n
    next_low has = elim (Contains-append_cases front (a ∷ b ∷ back) k has) [
      | inl before ↦ absurd (not_before (pairs_across StandsClear front (a ∷ b ∷ back) ordered k a before (item_first a (b ∷ back))))
      | inr rest ↦ elim (item_split a (b ∷ back) k rest) [
        | inl same ↦ absurd (not_itself same)
        | inr more ↦ elim (item_split b back k more) [
          | inl same ↦ (let begins = ap (λ (p : PartName). p.min_block) same in omega (arith, begins, low))
          | inr after ↦ (
              let clear = pairs_across StandsClear (b ∷ []) back behind b k (item_first b []) after in
              let first = block_low b k clear.order (ap partition_rank like_b) in
              omega (arith, first, low))
        ]
      ]
    ]

-- ---- the part that has a number

lies : (m n k : ℕ) → (nat_le m n && nat_le n k) ≡ true → (m ≤ n) × (n ≤ k)
lies m n k is = (grind (arith, nat_tests), grind (arith, nat_tests))

both : (b c : Bool) → (b && c) ≡ true → (b ≡ true) × (c ≡ true)
both true c is = (refl, is)
both false c is = cc

module _ {F : Type 0} where
  abbrev name_of : Kept (Part F) → PartName
  name_of k = k.name

  abbrev Clear : Kept (Part F) → Kept (Part F) → Type 0
  Clear x y = StandsClear x.name y.name

  -- a part with its rows is a kept one of this name
  kept_of : (table : List ℕ) (ks : List (Kept (Part F))) (rows : List (List Row)) (c : CorePart) → HasItem (core_parts table ks rows) c → (k : Kept (Part F)) × HasItem ks k × (k.name ≡ c.name)
  kept_of table [] rows c has = absurd (item_none c has)
  kept_of table (k ∷ ks) [] c has = absurd (item_none c has)
  kept_of table (k ∷ ks) (r ∷ rows) c has = elim (item_split (core_part table k r) (core_parts table ks rows) c has) [
    | inl same ↦ (k, item_first k ks, ap (λ (p : CorePart). p.name) same)
    | inr more ↦ (let found = kept_of table ks rows c more in (found.0, item_more k found.0 ks found.1, found.2))
  ]

  named_clear : (ks : List (Kept (Part F))) → IsInBlockOrder ks → AllPairs StandsClear (map name_of ks)
  named_clear ks ordered i j e less inside =
      let count = length-map ks name_of in
      let here : j < length ks = omega (arith, inside, count) in
      let d = some_item ks (omega (arith, here)) in
      subst (λ (p : PartName). StandsClear p (get_or (map name_of ks) j e)) (sym (named_at ks i e d (omega (arith, here, less))))
      (subst (StandsClear (name_of (get_or ks i d))) (sym (named_at ks j e d here)) (ordered i j d less here))
    where
      named_at : (ks : List (Kept (Part F))) (i : ℕ) (e : PartName) (d : Kept (Part F)) → i < length ks → get_or (map name_of ks) i e ≡ name_of (get_or ks i d)
      named_at ks i e d inside = get_or-map name_of ks i d e inside

  -- ---- a run of parts

  -- it is in block order
  pub run_ordered : (store : CoreStore F) (table : List ℕ) (p : Partition) (run : Run) → IsInBlockOrder (parts_of store.set table) → IsInBlockOrder (parts_of_run run (kept_in p (parts_of store.set table)))
  run_ordered store table p run ordered =
      let mine = kept_in p (parts_of store.set table) in
      let rest = drop (run.first + run.count) mine in
      pairs_front Clear (parts_of_run run mine) rest
      (pairs_back Clear (take run.first mine) (parts_of_run run mine ++ rest) (subst (λ (ks : List (Kept (Part F))). IsInBlockOrder ks) (run_parts run mine) (mine_ordered p (parts_of store.set table) ordered)))

  module _ (files_of : F → Option Files) (store : CoreStore F) (table : List ℕ) (p : Partition) (run : Run) (t : Table) (at : table_at store table ≡ Some t) (h : History) (s : CoreStands files_of h store) (ordered : IsInBlockOrder (parts_of store.set table)) (long : All EndsInOrder (parts_of store.set table)) where
    abbrev parts : List (Kept (Part F))
    parts = parts_of store.set table

    abbrev mine : List (Kept (Part F))
    mine = kept_in p parts

    -- the parts before the run, and those after it
    abbrev first_names : List PartName
    first_names = map name_of (take run.first mine)

    abbrev last_names : List PartName
    last_names = map name_of (drop (run.first + run.count) mine)

    own_names : All (λ (q : PartName). q.partition ≡ p) (map name_of mine)
    own_names = All-map (λ (q : PartName). q.partition ≡ p) name_of mine (λ i d inside. partition_is (get_or mine i d).name.partition p (filter_passes (λ (k : Kept (Part F)). same_partition k.name.partition p) parts i d inside))

    long_names : All (λ (q : PartName). q.min_block ≤ q.max_block) (map name_of mine)
    long_names = All-map (λ (q : PartName). q.min_block ≤ q.max_block) name_of mine (mine_long p parts long)

    module _ (front back : List PartName) (a b : PartName) (are : map name_of (parts_of_run run mine) ≡ front ++ a ∷ b ∷ back) where
      names_are : map name_of mine ≡ (first_names ++ front) ++ a ∷ b ∷ (back ++ last_names)
      names_are =
          ap (map name_of) (run_parts run mine)
          ∙ (map-append name_of (take run.first mine) (parts_of_run run mine ++ drop (run.first + run.count) mine)
          ∙ (ap (λ (ns : List PartName). first_names ++ ns) (map-append name_of (parts_of_run run mine) (drop (run.first + run.count) mine))
          ∙ (ap (λ (ns : List PartName). first_names ++ (ns ++ last_names)) are
          ∙ (ap (λ (ns : List PartName). first_names ++ ns) (append_assoc front (a ∷ b ∷ back) last_names) ∙ sym (append_assoc first_names front (a ∷ b ∷ (back ++ last_names)))))))

      has_a : HasItem ((first_names ++ front) ++ a ∷ b ∷ (back ++ last_names)) a
      has_a = Contains-append_right (first_names ++ front) (a ∷ b ∷ (back ++ last_names)) a (item_first a (b ∷ (back ++ last_names)))

      has_b : HasItem ((first_names ++ front) ++ a ∷ b ∷ (back ++ last_names)) b
      has_b = Contains-append_right (first_names ++ front) (a ∷ b ∷ (back ++ last_names)) b (item_more a b (b ∷ (back ++ last_names)) (item_first b (back ++ last_names)))

      own_at : (q : PartName) → HasItem ((first_names ++ front) ++ a ∷ b ∷ (back ++ last_names)) q → q.partition ≡ p
      own_at q has = All-contains (λ (q : PartName). q.partition ≡ p) (map name_of mine) q own_names (subst (λ (ns : List PartName). HasItem ns q) (sym names_are) has)

      none_between : (n : ℕ) → IsNumberOfInsert table p n h → a.max_block < n → b.min_block ≤ n
      none_between n is above =
          let there = s.parts table t at in
          let once = there.stand.once p n is in
          let counted = counted_one (has_block p n) (core_parts table parts there.rows) (omega (arith, once)) in
          let kept = kept_of table parts there.rows counted.0 counted.1 in
          let k = kept.0 in
          let has : has_block p n (core_part table k []) ≡ true = ap (λ (q : PartName). same_partition q.partition p && (nat_le q.min_block n && nat_le n q.max_block)) kept.2 ∙ counted.2 in
          let parted = both (same_partition k.name.partition p) (nat_le k.name.min_block n && nat_le n k.name.max_block) has in
          let range = lies k.name.min_block n k.name.max_block parted.1 in
          let own = partition_is k.name.partition p parted.0 in
          next_low (first_names ++ front) (back ++ last_names) a b (subst (AllPairs StandsClear) names_are (named_clear mine (mine_ordered p parts ordered)))
          (All-contains (λ (q : PartName). q.min_block ≤ q.max_block) (map name_of mine) a long_names (subst (λ (ns : List PartName). HasItem ns a) (sym names_are) has_a)) n above k.name (own ∙ sym (own_at a has_a)) (own_at b has_b ∙ sym own) range.0 range.1
          (subst (λ (ns : List PartName). HasItem ns k.name) names_are (map_item name_of mine k (mine_has p parts k kept.1 own)))

    -- no INSERT has a number between the blocks of two neighbours of it
    pub run_neighbours : AreNeighbours h table p (map name_of (parts_of_run run mine))
    run_neighbours front back a b are n is above = none_between front back a b are n is above
