-- The name of the part that a merge makes, among the parts of its table.
use Rattle.std.proofs.Common.{◌≡◌, ℕ, ◌+◌, ◌-◌, ◌<◌, ◌≤◌, List, [], ◌∷◌, ◌++◌, Option, Some, None, false, length, map, take, drop, get_or, refl, sym, ap, ◌∙◌, subst, arith, inl, inr, suc}
use Rattle.std.proofs.lemmas.Bool.{cases_lt}
use Rattle.std.proofs.lemmas.List.Elements.{All-contains, All-from_recursion, All-head, All-tail, Contains-append_cases, Contains-append_left, Contains-append_right, Contains-get_or, recursion_from_All}
use Rattle.std.proofs.Math.Nat.{le-max_left, le-max_right}
use Rattle.std.specs.List.{All, AllByRecursion, Contains as HasItem, fold, slice_get}
use Rattle.mt_base.specs.declared.partition.Partition.{Partition}
use Rattle.mt_values.specs.Tables.{same_partition}
use Rattle.root_store.proofs.MtModelCommands.{partition_is}
use Rattle.root_store.specs.part_name.declared.part.PartName.{PartName}
use Rattle.root_store.specs.part_name.Merged.{RiseFrom, joined_name, last_name, later_mutation, merged_name}
use Rattle.root_store.specs.part_name.PartNames.{Before, Contains, IsPartName, Meet}
use Rattle.root_store.proofs.PartNameMerging.{merged_contains, merged_greatest, merged_least, merged_named, merged_partition}
use Rattle.root_store.specs.part_set.declared.kept.Kept.{Kept}
use Rattle.root_store.specs.part_set.declared.run.Run.{Run}
use Rattle.root_store.specs.part_set.Parts.{IsInBlockOrder, StandsClear, kept_in, partition_rank}
use Rattle.root_store.specs.part_set.Passes.{last_of}
use Rattle.root_store.specs.part_set.Runs.{EndsInOrder, Spans, parts_of_run}
use Rattle.root_store.proofs.PartSetItems.{item_first}
use Rattle.root_store.proofs.PartSetOrphans.{item_more}
use Rattle.root_store.proofs.PartSetOrders.{block_low}
use Rattle.root_store.proofs.PartSetShelving.{mine_has, mine_within}
use Rattle.root_store.proofs.PartSetSwaps.{pairs_across, pairs_back, pairs_front, run_parts, swapped_ordered}
use Rattle.root_store.proofs.Items.{map_item, mapped, unfiltered}
use Rattle.root_commits.specs.Merges.{name_of_merge}

-- ---- levels

fold_low : (a : PartName) (rest : List PartName) → a.level ≤ (fold joined_name a rest).level
fold_low a [] = omega arith
fold_low a (p ∷ rest) =
    let more = fold_low (joined_name a p) rest in
    let here = le-max_left a.level p.level in
    omega (arith, more, here)

fold_lower : (a : PartName) (rest : List PartName) → AllByRecursion (λ (p : PartName). p.level < (fold joined_name a rest).level + 1) rest
fold_lower a [] = tt
fold_lower a (p ∷ rest) =
    let more = fold_low (joined_name a p) rest in
    let here = le-max_right a.level p.level in
    (omega (arith, more, here), fold_lower (joined_name a p) rest)

-- each part has a lower level than the one that is merged of them
lower : (first : PartName) (rest : List PartName) → All (λ (p : PartName). p.level < (merged_name first rest).level) (first ∷ rest)
lower first rest =
    let here = fold_low first rest in
    All-from_recursion (λ (p : PartName). p.level < (merged_name first rest).level) (first ∷ rest) (omega (arith, here), fold_lower first rest)

no_name : (name : PartName) → None ≡ Some name → ⊥
no_name name is = cc

one_name : (a b : PartName) → Some a ≡ Some b → a ≡ b
one_name a b is = cc

unmutated_fold : (a : PartName) (rest : List PartName) → a.mutation ≡ None → AllByRecursion (λ (p : PartName). p.mutation ≡ None) rest → (fold joined_name a rest).mutation ≡ None
unmutated_fold a [] none all = none
unmutated_fold a (p ∷ rest) none all =
    unmutated_fold (joined_name a p) rest (ap (λ (m : Option ℕ). later_mutation m p.mutation) none ∙ all.0) all.1

-- ---- parts that follow each other

one_before : (a b : PartName) → a.partition ≡ b.partition → a.min_block ≤ a.max_block → b.min_block ≤ b.max_block → StandsClear a b → Before a b
one_before a b same order also clear = record {
  partition = same;
  blocks = elim (cases_lt a.max_block b.min_block) [
    | inl less ↦ less
    | inr high ↦ (
        let low = block_low a b clear.order (ap partition_rank same) in
        absurd (clear.apart (record { partition = same; low = omega (arith, low, also); high = high })))
  ];
}

module _ {P : Type 0} where
  abbrev name_of : Kept P → PartName
  name_of k = k.name

  abbrev Clear : Kept P → Kept P → Type 0
  Clear a b = StandsClear a.name b.name

  abbrev OfPartition : Partition → Kept P → Type 0
  OfPartition partition k = k.name.partition ≡ partition

  -- the last of a part and others
  abbrev last_kept : Kept P → List (Kept P) → Kept P
  last_kept k [] = k
  last_kept k (l ∷ ks) = last_kept l ks

  last_named : (k : Kept P) (ks : List (Kept P)) → last_name k.name (map name_of ks) ≡ (last_kept k ks).name
  last_named k [] = refl
  last_named k (l ∷ ks) = last_named l ks

  next_get : (k : Kept P) (ks : List (Kept P)) (n : ℕ) → slice_get (k ∷ ks) (suc n) ≡ slice_get ks n
  next_get k ks n = refl

  last_is : (k : Kept P) (ks : List (Kept P)) → last_of (k ∷ ks) ≡ Some (last_kept k ks)
  last_is k [] = refl
  last_is k (l ∷ ks) =
      let place : length (k ∷ l ∷ ks) - 1 ≡ suc (length (l ∷ ks) - 1) = omega arith in
      ap (slice_get (k ∷ l ∷ ks)) place ∙ (next_get k (l ∷ ks) (length (l ∷ ks) - 1) ∙ last_is l ks)

  first_by : (Q : Kept P → Type 0) (k : Kept P) (ks : List (Kept P)) → AllByRecursion Q (k ∷ ks) → Q k
  first_by Q k ks all = all.0

  rest_by : (Q : Kept P → Type 0) (k : Kept P) (ks : List (Kept P)) → AllByRecursion Q (k ∷ ks) → AllByRecursion Q ks
  rest_by Q k ks all = all.1

  rise_from : (partition : Partition) (k : Kept P) (ks : List (Kept P)) → AllByRecursion EndsInOrder (k ∷ ks) → AllByRecursion (OfPartition partition) (k ∷ ks) → IsInBlockOrder (k ∷ ks) → RiseFrom k.name (map name_of ks)
  rise_from partition k [] named own ordered = first_by EndsInOrder k [] named
  rise_from partition k (l ∷ ks) named own ordered =
      let named_rest = rest_by EndsInOrder k (l ∷ ks) named in
      let own_rest = rest_by (OfPartition partition) k (l ∷ ks) own in
      let here = first_by EndsInOrder k (l ∷ ks) named in
      let there = first_by EndsInOrder l ks named_rest in
      let same : k.name.partition ≡ l.name.partition = first_by (OfPartition partition) k (l ∷ ks) own ∙ sym (first_by (OfPartition partition) l ks own_rest) in (
        here,
        one_before k.name l.name same here there (pairs_across Clear (k ∷ []) (l ∷ ks) ordered k l (item_first k []) (item_first l ks)),
        rise_from partition l ks named_rest own_rest (pairs_back Clear (k ∷ []) (l ∷ ks) ordered),
      )

  -- ---- parts of one partition, one after another

  own_names : (partition : Partition) (k : Kept P) (ks : List (Kept P)) → All (OfPartition partition) (k ∷ ks) → All (λ (p : PartName). p.partition ≡ k.name.partition) (map name_of ks)
  own_names partition k ks own = λ i d inside.
      let found = mapped name_of ks (get_or (map name_of ks) i d) (Contains-get_or (map name_of ks) i d inside) in
      let own_found : found.0.name.partition ≡ partition = All-contains (OfPartition partition) ks found.0 (All-tail (OfPartition partition) k ks own) found.1 in
      ap (λ (p : PartName). p.partition) (sym found.2) ∙ (own_found ∙ sym (All-head (OfPartition partition) k ks own))

  -- the name of the part that is merged of them has their blocks
  spans_of : (partition : Partition) (ks : List (Kept P)) → All EndsInOrder ks → All (OfPartition partition) ks → IsInBlockOrder ks → (name : PartName) → name_of_merge ks ≡ Some name → Spans name ks
  spans_of partition [] named own ordered name is = absurd (no_name name is)
  spans_of partition (k ∷ ks) named own ordered name is =
      let same = one_name (merged_name k.name (map name_of ks)) name is in
      let rise = rise_from partition k ks (recursion_from_All EndsInOrder (k ∷ ks) named) (recursion_from_All (OfPartition partition) (k ∷ ks) own) ordered in
      subst (λ (n : PartName). Spans n (k ∷ ks)) same (record {
        first = k;
        last = last_kept k ks;
        first_is = refl;
        last_is = last_is k ks;
        partition = merged_partition k.name (map name_of ks);
        begins = merged_least k.name (map name_of ks) rise;
        ends = merged_greatest k.name (map name_of ks) rise ∙ ap (λ (p : PartName). p.max_block) (last_named k ks);
      })

  -- it contains each of them, and has a greater level
  within_of : (partition : Partition) (ks : List (Kept P)) → All (OfPartition partition) ks → (name : PartName) → name_of_merge ks ≡ Some name → (k : Kept P) → HasItem ks k → Contains name k.name × (k.name.level < name.level)
  within_of partition [] own name is k has = absurd (no_name name is)
  within_of partition (f ∷ ks) own name is k has =
      let same = one_name (merged_name f.name (map name_of ks)) name is in
      let here = map_item name_of (f ∷ ks) k has in
      subst (λ (n : PartName). Contains n k.name × (k.name.level < n.level)) same (
        All-contains (Contains (merged_name f.name (map name_of ks))) (f.name ∷ map name_of ks) k.name (merged_contains f.name (map name_of ks) (own_names partition f ks own)) here,
        All-contains (λ (p : PartName). p.level < (merged_name f.name (map name_of ks)).level) (f.name ∷ map name_of ks) k.name (lower f.name (map name_of ks)) here,
      )

  -- there is one
  pub first_of : (ks : List (Kept P)) (name : PartName) → name_of_merge ks ≡ Some name → (k : Kept P) × HasItem ks k
  first_of [] name is = absurd (no_name name is)
  first_of (k ∷ ks) name is = (k, item_first k ks)

  -- a name where there are parts
  pub name_there : (ks : List (Kept P)) → 0 < length ks → (name : PartName) × (name_of_merge ks ≡ Some name)
  name_there [] some = absurd (omega (arith, some))
  name_there (k ∷ ks) some = (merged_name k.name (map name_of ks), refl)

  -- it can be spelled, where theirs can and its level is not too great
  pub spells_of : (ks : List (Kept P)) → ((k : Kept P) → HasItem ks k → IsPartName k.name) → (name : PartName) → name_of_merge ks ≡ Some name → name.level ≤ 4294967295 → IsPartName name
  spells_of [] named name is low = absurd (no_name name is)
  spells_of (f ∷ ks) named name is low =
      let same = one_name (merged_name f.name (map name_of ks)) name is in
      subst IsPartName same (merged_named f.name (map name_of ks)
      (λ i d inside.
      let found = mapped name_of (f ∷ ks) (get_or (map name_of (f ∷ ks)) i d) (Contains-get_or (map name_of (f ∷ ks)) i d inside) in
      subst IsPartName found.2 (named found.0 found.1))
      (subst (λ (n : PartName). n.level ≤ 4294967295) (sym same) low))

  -- and is of no mutation, where none of theirs is
  unmutated_names : (ks : List (Kept P)) → ((k : Kept P) → HasItem ks k → k.name.mutation ≡ None) → AllByRecursion (λ (p : PartName). p.mutation ≡ None) (map name_of ks)
  unmutated_names [] none = tt
  unmutated_names (k ∷ ks) none = (none k (item_first k ks), unmutated_names ks (λ l has. none l (item_more k l ks has)))

  pub unmutated_of : (ks : List (Kept P)) → ((k : Kept P) → HasItem ks k → k.name.mutation ≡ None) → (name : PartName) → name_of_merge ks ≡ Some name → name.mutation ≡ None
  unmutated_of [] none name is = absurd (no_name name is)
  unmutated_of (f ∷ ks) none name is =
      let same = one_name (merged_name f.name (map name_of ks)) name is in
      ap (λ (p : PartName). p.mutation) (sym same) ∙ unmutated_fold f.name (map name_of ks) (none f (item_first f ks)) (unmutated_names ks (λ l has. none l (item_more f l ks has)))

  -- ---- a run among the parts of its table

  -- a part of a run is one of the list
  pub of_run : (run : Run) (ks : List (Kept P)) (k : Kept P) → HasItem (parts_of_run run ks) k → HasItem ks k
  of_run run ks k has =
      let back = drop (run.first + run.count) ks in
      subst (λ (ls : List (Kept P)). HasItem ls k) (sym (run_parts run ks)) (Contains-append_right (take run.first ks) (parts_of_run run ks ++ back) k (Contains-append_left (parts_of_run run ks) back k has))

  module _ (parts : List (Kept P)) (partition : Partition) (run : Run) (ordered : IsInBlockOrder (kept_in partition parts)) (named : All EndsInOrder parts)
      (name : PartName) (name_is : name_of_merge (parts_of_run run (kept_in partition parts)) ≡ Some name) where
    abbrev mine : List (Kept P)
    mine = kept_in partition parts

    abbrev sources : List (Kept P)
    sources = parts_of_run run mine

    abbrev front : List (Kept P)
    front = take run.first mine

    abbrev back : List (Kept P)
    back = drop (run.first + run.count) mine

    split : mine ≡ front ++ (sources ++ back)
    split = run_parts run mine

    ordered_split : IsInBlockOrder (front ++ (sources ++ back))
    ordered_split = subst (λ (ks : List (Kept P)). IsInBlockOrder ks) split ordered

    source_mine : (k : Kept P) → HasItem sources k → HasItem mine k
    source_mine k has = of_run run mine k has

    -- a part of the run is one of the table's
    pub source_there : (k : Kept P) → HasItem sources k → HasItem parts k
    source_there k has = mine_within partition parts k (source_mine k has)

    own_mine : (k : Kept P) → HasItem mine k → k.name.partition ≡ partition
    own_mine k has = partition_is k.name.partition partition (unfiltered (λ (x : Kept P). same_partition x.name.partition partition) parts k has).1

    pub run_own : (k : Kept P) → HasItem sources k → k.name.partition ≡ partition
    run_own k has = own_mine k (source_mine k has)

    own : All (OfPartition partition) sources
    own = λ i d inside. own_mine (get_or sources i d) (source_mine (get_or sources i d) (Contains-get_or sources i d inside))

    named_mine : All EndsInOrder mine
    named_mine = λ i d inside. All-contains EndsInOrder parts (get_or mine i d) named (mine_within partition parts (get_or mine i d) (Contains-get_or mine i d inside))

    named_sources : All EndsInOrder sources
    named_sources = λ i d inside. All-contains EndsInOrder mine (get_or sources i d) named_mine (source_mine (get_or sources i d) (Contains-get_or sources i d inside))

    -- the name has the blocks of the run
    pub run_spans : Spans name sources
    run_spans = spans_of partition sources named_sources own (pairs_front Clear sources back (pairs_back Clear front (sources ++ back) ordered_split)) name name_is

    pub run_within : (k : Kept P) → HasItem sources k → Contains name k.name × (k.name.level < name.level)
    run_within = within_of partition sources own name name_is

    -- and of the partition
    pub run_partition : name.partition ≡ partition
    run_partition =
        let one = first_of sources name name_is in
        let within = run_within one.0 one.1 in
        within.0.partition ∙ own_mine one.0 (source_mine one.0 one.1)

    clear_of : (k : Kept P) → IsInBlockOrder (front ++ record { name = name; part = k.part; busy = false } ∷ back)
    clear_of k = swapped_ordered front sources back (record { name = name; part = k.part; busy = false }) ordered_split (subst (All EndsInOrder) split named_mine) run_spans

    turned : (a b : PartName) → Meet a b → Meet b a
    turned a b meet = record { partition = sym meet.partition; low = meet.high; high = meet.low }

    -- a part that has a block in common with it is of the run
    pub run_meets : (k : Kept P) → HasItem parts k → Meet k.name name → HasItem sources k
    run_meets k has meet =
        let new : Kept P = record { name = name; part = k.part; busy = false } in
        let there = mine_has partition parts k has (meet.partition ∙ run_partition) in
        elim (Contains-append_cases front (sources ++ back) k (subst (λ (ks : List (Kept P)). HasItem ks k) split there)) [
          | inl before ↦ absurd ((pairs_across Clear front (new ∷ back) (clear_of k) k new before (item_first new back)).apart meet)
          | inr rest ↦ elim (Contains-append_cases sources back k rest) [
            | inl inside ↦ inside
            | inr after ↦ absurd ((pairs_across Clear (new ∷ []) back (pairs_back Clear front (new ∷ back) (clear_of k)) new k (item_first new []) after).apart (turned k.name name meet))
          ]
        ]
