-- What is added partition by partition.
use Rattle.std.proofs.Common.{◌≡◌, ◌⊎◌, inl, inr, ◌<◌, ◌≤◌, ◌+◌, ◌-◌, ℕ, zero, suc, Bool, true, false, List, [], ◌∷◌, ◌++◌, All, append_assoc, arith, drop, filter, get_or, length, length-append, length-drop, length-take, map, refl, sym, ap, ap₂, ◌∙◌, subst, take, zero-add, Option, Some, slice_get}
use Rattle.std.specs.List.{prefix_len}
use Rattle.std.proofs.lemmas.Bool.{cases_lt}
use Rattle.std.proofs.lemmas.List.{get_or-drop, get_or-take, get_or_default, take_all}
use Rattle.std.proofs.lemmas.List.Folds.{length-prefix_len}
use Rattle.std.proofs.lemmas.List.Sums.{prefix_len-le-length, prefix_len_passes, prefix_len_stops}
use Rattle.std.proofs.lemmas.Option.{get_or_from_slice_get, slice_get-get_or, slice_get_within}
use Rattle.std.proofs.lemmas.List.Elements.{filter-append}
use Rattle.mt_base.specs.declared.partition.Partition.{Partition}
use Rattle.mt_values.specs.Grid.{Cells}
use Rattle.mt_values.specs.Tables.{partition_of, same_partition}
use Rattle.mt_values.specs.Tests.{eval}
use Rattle.mt_values.specs.Values.{Row}
use Rattle.mt_outside.specs.Files.{Files}
use Rattle.row_merge.specs.mt_model.History.{IsTableSchema}
use Rattle.row_merge.specs.mt_model.Partial.{MergesAll}
use Rattle.row_merge.proofs.MtModelCommands.{same_itself}
use Rattle.row_merge.specs.part_set.part_name.declared.part.PartName.{PartName}
use Rattle.row_merge.specs.part_reader.declared.reading.Part.{Part}
use Rattle.row_merge.specs.part_reader.declared.reading.PartFault.{PartFault}
use Rattle.row_merge.specs.part_reader.Parts.{with_columns}
use Rattle.row_merge.specs.part_set.declared.kept.Kept.{Kept}
use Rattle.row_merge.specs.Merged.{ArePartRows}
use Rattle.row_merge.specs.Sinks.{GetsMerged}
use Rattle.final_fold.specs.declared.asking.Wanted.{Wanted}
use Rattle.final_fold.specs.declared.found.Found.{Found}
use Rattle.final_fold.specs.Folded.{AreOfPartitions, ExplainsFold, IsFolded, SkipNoFold, StandByPartition, chosen_inputs, count_in}
use Rattle.final_fold.specs.Founds.{AddsFold, GetsMatches, IsFound}
use Rattle.final_fold.specs.Scans.{joined_rows, values_at}
use Rattle.final_fold.proofs.FoldedParts.{parts_fold}
use Rattle.final_fold.proofs.FoundRows.{got_since}
use Rattle.final_fold.proofs.KeyTests.{no_clash}
use Rattle.final_fold.proofs.PartitionRuns.{IsNew, front_elsewhere, group_parted, group_parts, new_after, parted_joined, zip_drop}
use Rattle.final_fold.proofs.Scanning.{values_more}

-- what was found of a merge of the rows of chosen granules is what is found of one of all rows
pub fold_added : (old new : Found) → IsFound old → 0 < old.wanted.schema.now.granularity → IsTableSchema old.wanted.schema.now → (partition : Partition) (chosen : List (List Bool)) (rows : List (List Row))
    → All (ArePartRows old.wanted.schema.now partition) rows → SkipNoFold old.wanted chosen rows
    → GetsMerged GetsMatches old.wanted.schema.now partition (chosen_inputs old.wanted.schema.now.granularity chosen rows) old new → AddsFold old.wanted (joined_rows rows) old new
fold_added old new is large table partition chosen rows parts skips m =
    let w = old.wanted in
    let since = got_since old new m.rows is m.got in
    let whole = parts_fold w large table partition chosen rows m.rows parts skips m.merged in
    record {
      out = whole.0;
      merges = whole.1;
      values = since.values ∙ ap (λ (ms : List Row). with_columns ms w.places.now old.columns.items) (sym whole.2);
      counted = since.counted ∙ ap (λ (ms : List Row). old.count + length ms) (sym whole.2);
    }

-- ---- one partition more

pub take_split : {X : Type 0} (at n : ℕ) (xs : List X) → take (at + n) xs ≡ take at xs ++ take n (drop at xs)
take_split zero n xs = ap (λ k. take k xs) (zero-add n)
take_split (suc at) n [] = take_all (suc at + n) [] (omega arith) ∙ sym (take_all n [] (omega arith))
take_split (suc at) n (x ∷ xs) = let one : suc at + n ≡ suc (at + n) = omega arith in ap (λ k. take k (x ∷ xs)) one ∙ ap (λ ys. x ∷ ys) (take_split at n xs)

-- an item of a run of a list is one of the list
item_of : {X : Type 0} (xs : List X) (at n i : ℕ) (x : X) → slice_get (take n (drop at xs)) i ≡ Some x → slice_get xs (at + i) ≡ Some x
item_of xs at n i x is =
    let size = length-take n (drop at xs) in
    let rest = length-drop at xs in
    let inside = slice_get_within (take n (drop at xs)) i x is in
    let below : at + i < length xs = omega (arith, size, rest, inside) in
    let early : i < n = omega (arith, size, inside) in
    slice_get-get_or xs (at + i) x below
    ∙ ap Some (sym (get_or-take n (drop at xs) i x early ∙ get_or-drop at xs i x) ∙ get_or_from_slice_get (take n (drop at xs)) i x x is)

joined_append : (front back : List (List Row)) → joined_rows (front ++ back) ≡ joined_rows front ++ joined_rows back
joined_append [] back = refl
joined_append (r ∷ front) back = ap (λ rs. r ++ rs) (joined_append front back) ∙ sym (append_assoc r (joined_rows front) (joined_rows back))

pub fold_next : (w : Wanted) (p : Partition) (rows : List (List Row)) (at n : ℕ) (old new : Found) → IsFolded w (joined_rows (take at rows)) old.columns.items old.count → AddsFold w (joined_rows (take n (drop at rows))) old new
    → All (λ r. same_partition (partition_of w.schema.now r) p ≡ false) (joined_rows (take at rows)) → All (λ r. partition_of w.schema.now r ≡ p) (joined_rows (take n (drop at rows)))
    → IsFolded w (joined_rows (take (at + n) rows)) new.columns.items new.count
fold_next w p rows at n old new before this elsewhere own =
    let met = eval w.condition.now in
    let front = joined_rows (take at rows) in
    let group = joined_rows (take n (drop at rows)) in
    let all : filter met before.out ++ filter met this.out ≡ filter met (before.out ++ this.out) = sym (filter-append met before.out this.out) in
    record {
      out = before.out ++ this.out;
      merges = subst (λ rs. MergesAll w.schema.now rs (before.out ++ this.out)) (sym (ap joined_rows (take_split at n rows) ∙ joined_append (take at rows) (take n (drop at rows))))
          (parted_joined w.schema.now p front group before.out this.out elsewhere own before.merges this.merges);
      values = ap (map (λ (c : Cells). c.values)) this.values ∙ values_more (filter met before.out) (filter met this.out) w.places.now old.columns.items before.values ∙ ap (λ rs. values_at rs w.places.now) all;
      counted = this.counted ∙ ap (λ k. k + length (filter met this.out)) before.counted ∙ sym (length-append (filter met before.out) (filter met this.out)) ∙ ap length all;
    }

-- before the first there is none
pub fold_none : (w : Wanted) (columns : List Cells) → map (λ (c : Cells). c.values) columns ≡ values_at [] w.places.now → IsFolded w [] columns 0
fold_none w columns empty = record { out = []; merges = λ partition row. refl; values = empty; counted = refl }

-- ---- the parts of a run of the list

module _ {F : Type 0} (parts : List (Kept (Part F))) (at : ℕ) (first : Kept (Part F)) (first_is : first ≡ get_or parts at first) (below : at < length parts) where
  abbrev own : Kept (Part F) → Bool
  own k = same_partition k.name.partition first.name.partition

  many : ℕ
  many = count_in first.name.partition (drop at parts)

  pub run_count : count_in first.name.partition (drop at parts) ≡ prefix_len (λ (k : Kept (Part F)). same_partition k.name.partition first.name.partition) (drop at parts)
  run_count = length-prefix_len own (drop at parts)

  from_at : (i : ℕ) (d : Kept (Part F)) → get_or (drop at parts) i d ≡ get_or parts (at + i) d
  from_at i d = get_or-drop at parts i d

  first_at : (d : Kept (Part F)) → get_or parts at d ≡ first
  first_at d = get_or_default parts at d first below ∙ sym first_is

  pub run_within : at + count_in first.name.partition (drop at parts) ≤ length parts
  run_within = omega (arith, run_count, prefix_len-le-length own (drop at parts), length-drop at parts, below)

  pub run_some : 0 < count_in first.name.partition (drop at parts)
  run_some = by (cases_lt 0 (prefix_len own (drop at parts)))
    where
      none : prefix_len own (drop at parts) ≤ 0 → ⊥
      none few =
          let zero_is : prefix_len own (drop at parts) ≡ 0 = omega (arith, few) in
          let stops = prefix_len_stops own (drop at parts) first (omega (arith, zero_is, length-drop at parts, below)) in
          let here : at + 0 ≡ at = omega arith in
          let there : get_or (drop at parts) (prefix_len own (drop at parts)) first ≡ first =
          ap (λ n. get_or (drop at parts) n first) zero_is ∙ from_at 0 first ∙ ap (λ n. get_or parts n first) here ∙ sym first_is in
          no_clash (sym (ap own there ∙ same_itself first.name.partition) ∙ stops)

      by : (0 < prefix_len own (drop at parts)) ⊎ (prefix_len own (drop at parts) ≤ 0) → 0 < count_in first.name.partition (drop at parts)
      by (inl some) = omega (arith, run_count, some)
      by (inr few) = absurd (none few)

  in_run : (i : ℕ) (d : Kept (Part F)) → i < count_in first.name.partition (drop at parts) → same_partition (get_or (drop at parts) i d).name.partition first.name.partition ≡ true
  in_run i d before = prefix_len_passes own (drop at parts) i d (omega (arith, before, run_count))

  pub run_new : StandByPartition parts → IsNew parts at → IsNew parts (at + count_in first.name.partition (drop at parts))
  run_new order new = new_after parts at (at + count_in first.name.partition (drop at parts)) order new (omega (arith, run_some)) inside stops
    where
      inside : (i : ℕ) (d : Kept (Part F)) → at ≤ i → i < at + count_in first.name.partition (drop at parts) → same_partition (get_or parts i d).name.partition (get_or parts at d).name.partition ≡ true
      inside i d low high =
          let there : at + (i - at) ≡ i = omega (arith, low) in
          ap₂ (λ (k l : Kept (Part F)). same_partition k.name.partition l.name.partition) (ap (λ n. get_or parts n d) (sym there) ∙ sym (from_at (i - at) d)) (first_at d)
          ∙ in_run (i - at) d (omega (arith, low, high))

      stops : (d : Kept (Part F)) → at + count_in first.name.partition (drop at parts) < length parts
          → same_partition (get_or parts (at + count_in first.name.partition (drop at parts)) d).name.partition (get_or parts at d).name.partition ≡ false
      stops d more =
          ap₂ (λ (k l : Kept (Part F)). same_partition k.name.partition l.name.partition)
          (sym (from_at (count_in first.name.partition (drop at parts)) d) ∙ ap (λ n. get_or (drop at parts) n d) run_count) (first_at d)
          ∙ prefix_len_stops own (drop at parts) d (omega (arith, more, run_count, length-drop at parts))

  module _ (w : Wanted) (rows : List (List Row)) (of : AreOfPartitions w.schema.now parts rows) where
    pub run_parts : All (ArePartRows w.schema.now first.name.partition) (take (count_in first.name.partition (drop at parts)) (drop at rows))
    run_parts =
        group_parts w.schema.now first.name.partition (count_in first.name.partition (drop at parts)) (drop at parts) (drop at rows)
        (zip_drop (λ (k : Kept (Part F)) (r : List Row). ArePartRows w.schema.now k.name.partition r) at parts rows of) (λ i d before inside. in_run i d before)

    pub run_elsewhere : IsNew parts at → All (λ r. same_partition (partition_of w.schema.now r) first.name.partition ≡ false) (joined_rows (take at rows))
    run_elsewhere new =
        front_elsewhere w.schema.now first.name.partition at parts rows of
        (λ i d before inside. ap (λ (k : Kept (Part F)). same_partition (get_or parts i d).name.partition k.name.partition) (sym (first_at d)) ∙ new i d before below)

    -- one partition more was added
    pub run_added : (old new : Found) → IsNew parts at → IsFolded w (joined_rows (take at rows)) old.columns.items old.count
        → AddsFold w (joined_rows (take (count_in first.name.partition (drop at parts)) (drop at rows))) old new
        → IsFolded w (joined_rows (take (at + count_in first.name.partition (drop at parts)) rows)) new.columns.items new.count
    run_added old new is_new before this =
        fold_next w first.name.partition rows at (count_in first.name.partition (drop at parts)) old new before this (run_elsewhere is_new)
        (group_parted w.schema.now first.name.partition (take (count_in first.name.partition (drop at parts)) (drop at rows)) run_parts)

-- what is said of a run of the parts is said of all of them
pub run_explained : {F : Type 0} (files_of : F → Option Files) (parts : List (Kept (Part F))) (chosen : List (List Bool)) (w : Wanted) (at n : ℕ) (e : PartName × PartFault)
    → ExplainsFold files_of (take n (drop at parts)) (take n (drop at chosen)) w e → ExplainsFold files_of parts chosen w e
run_explained files_of parts chosen w at n e h = record {
  at = at + h.at;
  kept = h.kept;
  own = h.own;
  kept_is = item_of parts at n h.at h.kept h.kept_is;
  own_is = item_of chosen at n h.at h.own h.own_is;
  name_is = h.name_is;
  explained = h.explained;
}
