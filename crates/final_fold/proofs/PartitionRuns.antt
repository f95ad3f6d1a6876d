-- Parts in block order, partition by partition, and what merges of the rows of each leave of all.
use Rattle.std.proofs.Common.{◌≡◌, ◌⊎◌, inl, inr, ◌<◌, ◌≤◌, ◌&&◌, ◌||◌, ℕ, zero, suc, Bool, true, false, not, cond, nat_eq, nat_le, nat_lt, List, [], ◌∷◌, ◌++◌, All, append-nil, arith, drop, filter, get_or, length, ltb-true, refl, sym, ap, ap₂, ◌∙◌, subst, take}
use Rattle.std.specs.List.{AllZip}
use Rattle.std.proofs.lemmas.Bool.{cases_lt, eqb-true}
use Rattle.std.proofs.lemmas.List.Elements.{All-append, All-cons, All-head, All-nil, All-tail, All-weaker, filter-append}
use Rattle.mt_base.specs.declared.partition.Partition.{Partition}
use Rattle.mt_base.specs.declared.partition.Partition.TheVariants.{Whole, Number}
use Rattle.mt_values.specs.declared.schema.Schema.{Schema}
use Rattle.mt_values.specs.Tables.{partition_of, same_partition}
use Rattle.mt_values.specs.Values.{Row}
use Rattle.row_merge.specs.mt_model.Partial.{MergesAll}
use Rattle.row_merge.proofs.MtModelCommands.{partition_is, same_itself}
use Rattle.row_merge.specs.part_reader.declared.reading.Part.{Part}
use Rattle.row_merge.specs.part_set.Parts.{IsInBlockOrder, StandsClear, partition_rank}
use Rattle.row_merge.specs.part_set.declared.kept.Kept.{Kept}
use Rattle.row_merge.specs.Merged.{ArePartRows}
use Rattle.final_fold.specs.Keys.{SaysOfKeys}
use Rattle.final_fold.specs.Folded.{StandByPartition}
use Rattle.final_fold.specs.Scans.{joined_rows}
use Rattle.final_fold.proofs.KeyTests.{merged_apart, no_clash}
use Rattle.final_fold.proofs.MergedRows.{of_partition}

-- ---- rows of other partitions

module _ (schema : Schema) (p : Partition) where
  abbrev here : Row → Bool
  here r = same_partition (partition_of schema r) p

  says_elsewhere : SaysOfKeys schema (λ r. not (same_partition (partition_of schema r) p))
  says_elsewhere = λ partition row. (not (same_partition partition p), λ r is. ap (λ q. not (same_partition q p)) (of_partition schema partition row r is))

  all_pass : (t : Row → Bool) (rows : List Row) → All (λ r. t r ≡ true) rows → filter t rows ≡ rows
  all_pass t [] all = refl
  all_pass t (x ∷ rows) all =
      ap (λ b. cond b (x ∷ filter t rows) (filter t rows)) (All-head (λ y. t y ≡ true) x rows all) ∙ ap (λ zs. x ∷ zs) (all_pass t rows (All-tail (λ y. t y ≡ true) x rows all))

  all_fail : (t : Row → Bool) (rows : List Row) → All (λ r. t r ≡ false) rows → filter t rows ≡ []
  all_fail t [] all = refl
  all_fail t (x ∷ rows) all =
      ap (λ b. cond b (x ∷ filter t rows) (filter t rows)) (All-head (λ y. t y ≡ false) x rows all) ∙ all_fail t rows (All-tail (λ y. t y ≡ false) x rows all)

  -- what is left of rows of other partitions, and what is left of rows of one, is left of all
  pub parted_joined : (front group one two : List Row) → All (λ r. same_partition (partition_of schema r) p ≡ false) front → All (λ r. partition_of schema r ≡ p) group
      → MergesAll schema front one → MergesAll schema group two → MergesAll schema (front ++ group) (one ++ two)
  parted_joined front group one two elsewhere own first second =
      merged_apart schema (λ r. not (here r)) says_elsewhere (front ++ group) one two
      (subst (λ rows. MergesAll schema rows one) (sym front_is) first) (subst (λ rows. MergesAll schema rows two) (sym group_is) second)
    where
      in_group : All (λ r. here r ≡ true) group
      in_group = All-weaker (λ r. partition_of schema r ≡ p) (λ r. here r ≡ true) (λ r is. ap (λ q. same_partition q p) is ∙ same_itself p) group own

      front_is : filter (λ r. not (here r)) (front ++ group) ≡ front
      front_is =
          filter-append (λ r. not (here r)) front group
          ∙ ap₂ (λ xs ys. xs ++ ys) (all_pass (λ r. not (here r)) front (λ k d below. ap not (elsewhere k d below))) (all_fail (λ r. not (here r)) group (λ k d below. ap not (in_group k d below)))
          ∙ append-nil front

      group_is : filter (λ r. not (not (here r))) (front ++ group) ≡ group
      group_is =
          filter-append (λ r. not (not (here r))) front group
          ∙ ap₂ (λ xs ys. xs ++ ys) (all_fail (λ r. not (not (here r))) front (λ k d below. ap (λ b. not (not b)) (elsewhere k d below)))
          (all_pass (λ r. not (not (here r))) group (λ k d below. ap (λ b. not (not b)) (in_group k d below)))

-- ---- block order

either_order : (a b : ℕ) (c : Bool) → (nat_lt a b || (nat_eq a b && c)) ≡ true → a ≤ b
either_order a b c e = by (nat_lt a b) refl e
  where
    same : (d : Bool) → nat_eq a b ≡ d → (d && c) ≡ true → a ≤ b
    same true is found = let one : a ≡ b = eqb-true a b is in omega (arith, one)
    same false is found = absurd (no_clash (sym found))

    by : (d : Bool) → nat_lt a b ≡ d → (d || (nat_eq a b && c)) ≡ true → a ≤ b
    by true is found = let less : a < b = ltb-true a b is in omega (arith, less)
    by false is found = same (nat_eq a b) refl found

-- partitions of one rank are one
rank_exact : (p q : Partition) → partition_rank p ≡ partition_rank q → p ≡ q
rank_exact Whole Whole e = refl
rank_exact Whole (Number n) e = absurd (omega (arith, e))
rank_exact (Number m) Whole e = absurd (omega (arith, e))
rank_exact (Number m) (Number n) e = let same : m ≡ n = omega (arith, e) in ap Number same

not_same : (p q : Partition) → partition_rank p < partition_rank q → same_partition p q ≡ false
not_same p q less = by (same_partition p q) refl
  where
    by : (b : Bool) → same_partition p q ≡ b → b ≡ false
    by true e = let same : partition_rank p ≡ partition_rank q = ap partition_rank (partition_is p q e) in absurd (omega (arith, same, less))
    by false e = refl

module _ {F : Type 0} where
  abbrev rank : Kept (Part F) → ℕ
  rank k = partition_rank k.name.partition

  ordered : (a b : Kept (Part F)) → StandsClear a.name b.name → rank a ≤ rank b
  ordered a b clear = either_order (rank a) (rank b) (nat_le a.name.min_block b.name.min_block) clear.order

  -- parts in block order stand partition by partition
  pub block_ordered : (parts : List (Kept (Part F))) → IsInBlockOrder parts → StandByPartition parts
  block_ordered parts order = λ i j d up below. ordered (get_or parts i d) (get_or parts j d) (order i j d up below)

  -- the partition of the part at a place is none of those of the parts before it
  abbrev pub IsNew : List (Kept (Part F)) → ℕ → Type 0
  IsNew parts at = (i : ℕ) (d : Kept (Part F)) → i < at → at < length parts → same_partition (get_or parts i d).name.partition (get_or parts at d).name.partition ≡ false

  -- after a run of parts of one partition too
  pub new_after : (parts : List (Kept (Part F))) (at end : ℕ) → StandByPartition parts → IsNew parts at → at < end
      → ((i : ℕ) (d : Kept (Part F)) → at ≤ i → i < end → same_partition (get_or parts i d).name.partition (get_or parts at d).name.partition ≡ true)
      → ((d : Kept (Part F)) → end < length parts → same_partition (get_or parts end d).name.partition (get_or parts at d).name.partition ≡ false) → IsNew parts end
  new_after parts at end order new up own stops i d before below = either (cases_lt i at)
    where
      k : Kept (Part F)
      k = get_or parts i d

      first : Kept (Part F)
      first = get_or parts at d

      next : Kept (Part F)
      next = get_or parts end d

      low : rank first ≤ rank next
      low = order at end d up below

      apart : rank k ≤ rank first → same_partition k.name.partition first.name.partition ≡ false → rank k < rank next
      apart few differ = by (cases_lt (rank k) (rank first))
        where
          by : (rank k < rank first) ⊎ (rank first ≤ rank k) → rank k < rank next
          by (inl less) = omega (arith, less, low)
          by (inr more) =
              let same : rank k ≡ rank first = omega (arith, few, more) in
              let one : k.name.partition ≡ first.name.partition = rank_exact k.name.partition first.name.partition same in
              absurd (no_clash (sym (ap (λ q. same_partition q first.name.partition) one ∙ same_itself first.name.partition) ∙ differ))

      other : same_partition k.name.partition first.name.partition ≡ true → (b : Bool) → same_partition k.name.partition next.name.partition ≡ b → b ≡ false
      other own true same =
          let one : next.name.partition ≡ first.name.partition = sym (partition_is k.name.partition next.name.partition same) ∙ partition_is k.name.partition first.name.partition own in
          absurd (no_clash (sym (ap (λ q. same_partition q first.name.partition) one ∙ same_itself first.name.partition) ∙ stops d below))
      other own false same = refl

      either : (i < at) ⊎ (at ≤ i) → same_partition k.name.partition next.name.partition ≡ false
      either (inl early) =
          not_same k.name.partition next.name.partition (apart (order i at d early (omega (arith, up, below))) (new i d early (omega (arith, up, below))))
      either (inr late) = other (own i d late before) (same_partition k.name.partition next.name.partition) refl

  -- ---- the rows of parts

  module _ (schema : Schema) (p : Partition) where
    pub front_elsewhere : (at : ℕ) (parts : List (Kept (Part F))) (rows : List (List Row)) → AllZip (λ (k : Kept (Part F)) (r : List Row). ArePartRows schema k.name.partition r) parts rows
        → ((i : ℕ) (d : Kept (Part F)) → i < at → i < length parts → same_partition (get_or parts i d).name.partition p ≡ false) → All (λ r. same_partition (partition_of schema r) p ≡ false) (joined_rows (take at rows))
    front_elsewhere zero parts rows own differ = All-nil (λ r. same_partition (partition_of schema r) p ≡ false)
    front_elsewhere (suc at) [] [] own differ = All-nil (λ r. same_partition (partition_of schema r) p ≡ false)
    front_elsewhere (suc at) [] (r ∷ rows) own differ = absurd own
    front_elsewhere (suc at) (k ∷ parts) [] own differ = absurd own
    front_elsewhere (suc at) (k ∷ parts) (r ∷ rows) own differ =
        All-append (λ x. same_partition (partition_of schema x) p ≡ false) r (joined_rows (take at rows))
        (All-weaker (λ x. partition_of schema x ≡ k.name.partition) (λ x. same_partition (partition_of schema x) p ≡ false) (λ x is. ap (λ q. same_partition q p) is ∙ differ 0 k (omega arith) (omega arith)) r own.0.parted)
        (front_elsewhere at parts rows own.1 (λ i d before below. differ (suc i) d (omega (arith, before)) (omega (arith, below))))

    pub group_parts : (n : ℕ) (parts : List (Kept (Part F))) (rows : List (List Row)) → AllZip (λ (k : Kept (Part F)) (r : List Row). ArePartRows schema k.name.partition r) parts rows
        → ((i : ℕ) (d : Kept (Part F)) → i < n → i < length parts → same_partition (get_or parts i d).name.partition p ≡ true) → All (ArePartRows schema p) (take n rows)
    group_parts zero parts rows own same = All-nil (ArePartRows schema p)
    group_parts (suc n) [] [] own same = All-nil (ArePartRows schema p)
    group_parts (suc n) [] (r ∷ rows) own same = absurd own
    group_parts (suc n) (k ∷ parts) [] own same = absurd own
    group_parts (suc n) (k ∷ parts) (r ∷ rows) own same =
        All-cons (ArePartRows schema p) r (take n rows)
        (subst (λ q. ArePartRows schema q r) (partition_is k.name.partition p (same 0 k (omega arith) (omega arith))) own.0)
        (group_parts n parts rows own.1 (λ i d before below. same (suc i) d (omega (arith, before)) (omega (arith, below))))

-- the rows of parts of a partition are of it
pub group_parted : (schema : Schema) (p : Partition) (rows : List (List Row)) → All (ArePartRows schema p) rows → All (λ r. partition_of schema r ≡ p) (joined_rows rows)
group_parted schema p [] all = All-nil (λ r. partition_of schema r ≡ p)
group_parted schema p (r ∷ rows) all =
    All-append (λ x. partition_of schema x ≡ p) r (joined_rows rows) (All-head (ArePartRows schema p) r rows all).parted (group_parted schema p rows (All-tail (ArePartRows schema p) r rows all))

-- ---- a run of two lists

module _ {X Y : Type 0} (Q : X → Y → Type 0) where
  pub zip_take : (n : ℕ) (xs : List X) (ys : List Y) → AllZip Q xs ys → AllZip Q (take n xs) (take n ys)
  zip_take zero xs ys h = tt
  zip_take (suc n) [] [] h = tt
  zip_take (suc n) [] (y ∷ ys) h = absurd h
  zip_take (suc n) (x ∷ xs) [] h = absurd h
  zip_take (suc n) (x ∷ xs) (y ∷ ys) h = (h.0, zip_take n xs ys h.1)

  pub zip_drop : (n : ℕ) (xs : List X) (ys : List Y) → AllZip Q xs ys → AllZip Q (drop n xs) (drop n ys)
  zip_drop zero xs ys h = h
  zip_drop (suc n) [] [] h = tt
  zip_drop (suc n) [] (y ∷ ys) h = absurd h
  zip_drop (suc n) (x ∷ xs) [] h = absurd h
  zip_drop (suc n) (x ∷ xs) (y ∷ ys) h = zip_drop n xs ys h.1

  pub zip_many : (xs : List X) (ys : List Y) → AllZip Q xs ys → length ys ≡ length xs
  zip_many [] [] h = refl
  zip_many [] (y ∷ ys) h = absurd h
  zip_many (x ∷ xs) [] h = absurd h
  zip_many (x ∷ xs) (y ∷ ys) h = ap suc (zip_many xs ys h.1)
