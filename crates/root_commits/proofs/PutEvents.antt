-- A merge is the event of the core that puts its part in place of its sources: the store shows the state that the core gives.
use Rattle.std.proofs.Common.{◌≡◌, ◌≢◌, ℕ, ◌+◌, ◌<◌, ◌≤◌, Bool, true, false, cond, List, [], ◌∷◌, ◌++◌, Option, Some, None, length, filter, not, get_or, is_some, refl, sym, ap, ap₂, ◌∙◌, subst, append-nil, arith, inl, inr}
use Rattle.std.proofs.lemmas.Bool.{false≢true}
use Rattle.std.proofs.lemmas.List.{get_or-map, length-map}
use Rattle.std.proofs.lemmas.List.Elements.{All-contains, Contains-append_left, Contains-append_right, filter-append}
use Rattle.std.proofs.lemmas.List.Sums.{sum_by-append, sum_by-cons}
use Rattle.std.proofs.lemmas.Option.{get_or_from_slice_get, slice_get_within}
use Rattle.std.specs.List.{All, AllByRecursion, AllZip, Contains as HasItem, count_by, slice_get}
use Rattle.std.specs.BTreeMap.{BTreeMap, get}
use Rattle.std.specs.Cmp.Lexicographic.{slice_cmp}
use Rattle.std.specs.Option.{option_map}
use Rattle.std.specs.Ordering.{is_lt, nat_cmp}
use Rattle.mt_base.specs.declared.partition.Partition.{Partition}
use Rattle.mt_values.specs.declared.mutation.Mutation.{Mutation}
use Rattle.mt_values.specs.declared.schema.Schema.{Schema}
use Rattle.mt_values.specs.Grammar.{same_bytes}
use Rattle.mt_values.specs.Values.{Row}
use Rattle.mt_outside.specs.Files.{Files}
use Rattle.root_store.specs.mt_model.History.{History, schema_of}
use Rattle.root_store.specs.mt_model.Numbers.{IsNumberOfInsert}
use Rattle.root_store.proofs.MtModelTables.{itself_same, same_is}
use Rattle.root_store.specs.part_name.declared.part.PartName.{PartName}
use Rattle.root_store.specs.part_reader.declared.reading.Part.{Part}
use Rattle.root_store.specs.part_reader.Parts.{PartHolds}
use Rattle.root_store.proofs.PartReaderHolding.{written_holds}
use Rattle.root_store.specs.part_set.declared.kept.Kept.{Kept}
use Rattle.root_store.specs.part_set.Parts.{IsInBlockOrder, kept_in}
use Rattle.root_store.specs.part_set.Runs.{EndsInOrder, IsRun}
use Rattle.root_store.specs.part_set.Sets.{parts_of}
use Rattle.root_store.proofs.PartSetItems.{item_first}
use Rattle.root_store.proofs.PartSetMaps.{true_or_false}
use Rattle.root_store.specs.part_history.declared.part.CorePart.{CorePart}
use Rattle.root_store.specs.part_name.Pending.{NoneParted}
use Rattle.root_store.specs.part_history.Merges.{MergeLeaves, names_of, with_rows}
use Rattle.root_store.specs.part_name.Merged.{merged_of}
use Rattle.root_store.specs.part_history.Parts.{AreInBlockOrder, PartStands, block_cmp, core_parts_of, has_block}
use Rattle.root_store.specs.table_core.declared.event.Sources.{Sources}
use Rattle.root_store.specs.table_core.declared.store.Run.{Run}
use Rattle.root_store.specs.table_core.Core.{Core}
use Rattle.root_store.specs.table_core.Steps.{HasNeighbours, SwapsParts, sources_among}
use Rattle.root_store.specs.table_core.Store.{parts_below}
use Rattle.root_store.proofs.PartHistoryMerging.{unparted_none}
use Rattle.root_store.proofs.TableCoreNeighbours.{sources_stand}
use Rattle.root_store.specs.declared.store.CoreStore.{CoreStore}
use Rattle.root_store.specs.declared.store.Table.{Table}
use Rattle.root_store.specs.Cores.{ShowsCore, ShowsParts}
use Rattle.root_store.specs.Stores.{PartsAreThere, core_part, core_parts, table_at}
use Rattle.root_store.proofs.Clear.{block_here}
use Rattle.root_store.proofs.Items.{one_counts}
use Rattle.root_commits.specs.Events.{IsPut, merged_sources}
use Rattle.root_commits.specs.Merges.{EntersMerge, HoldsMerge, Merging, SealsMerge, name_of_merge, source_names, sources_of}
use Rattle.root_commits.proofs.MergedNames.{run_spans}
use Rattle.root_commits.proofs.MergedStores.{Rows, join_parts, join_rows, rows_of, stands_merged}
use Rattle.root_commits.proofs.RunRows.{part_names, reached_stand, rows_of_run, run_among, run_hold, run_neighbours}

-- ---- lists that split in one way

module _ {X : Type 0} where
  heads_same : (x y : X) (xs ys : List X) → x ∷ xs ≡ y ∷ ys → x ≡ y
  heads_same x y xs ys is = cc

  tails_same : (x y : X) (xs ys : List X) → x ∷ xs ≡ y ∷ ys → xs ≡ ys
  tails_same x y xs ys is = cc

  -- before the one element that passes there are the same
  one_split : (f : X → Bool) (xs ys : List X) (a b : X) (us vs : List X) → xs ++ a ∷ us ≡ ys ++ b ∷ vs → f a ≡ true → f b ≡ true → count_by f xs ≡ 0 → count_by f ys ≡ 0 → (xs ≡ ys) × (a ∷ us ≡ b ∷ vs)
  one_split f [] [] a b us vs is fa fb none also = (refl, is)
  one_split f [] (y ∷ ys) a b us vs is fa fb none also =
      let same = heads_same a y us (ys ++ b ∷ vs) is in
      let one = one_counts f (y ∷ ys) y (item_first y ys) (ap f (sym same) ∙ fa) in
      absurd (omega (arith, one, also))
  one_split f (x ∷ xs) [] a b us vs is fa fb none also =
      let same = heads_same x b (xs ++ a ∷ us) vs is in
      let one = one_counts f (x ∷ xs) x (item_first x xs) (ap f same ∙ fb) in
      absurd (omega (arith, one, none))
  one_split f (x ∷ xs) (y ∷ ys) a b us vs is fa fb none also =
      let first = sum_by-cons (λ (z : X). cond (f z) 1 0) x xs in
      let second = sum_by-cons (λ (z : X). cond (f z) 1 0) y ys in
      let rest = one_split f xs ys a b us vs (tails_same x y (xs ++ a ∷ us) (ys ++ b ∷ vs) is) fa fb (omega (arith, first, none)) (omega (arith, second, also)) in
      (ap₂ (λ (z : X) (zs : List X). z ∷ zs) (heads_same x y (xs ++ a ∷ us) (ys ++ b ∷ vs) is) rest.0, rest.1)

  -- fronts of one length are the same
  same_front : (xs ys us vs : List X) → xs ++ us ≡ ys ++ vs → length xs ≡ length ys → (xs ≡ ys) × (us ≡ vs)
  same_front [] [] us vs is count = (refl, is)
  same_front [] (y ∷ ys) us vs is count = absurd (omega (arith, count))
  same_front (x ∷ xs) [] us vs is count = absurd (omega (arith, count))
  same_front (x ∷ xs) (y ∷ ys) us vs is count =
      let rest = same_front xs ys us vs (tails_same x y (xs ++ us) (ys ++ vs) is) (omega (arith, count)) in
      (ap₂ (λ (z : X) (zs : List X). z ∷ zs) (heads_same x y (xs ++ us) (ys ++ vs) is) rest.0, rest.1)

  none_left : (f : X → Bool) (xs : List X) → filter f (filter (λ (x : X). not (f x)) xs) ≡ []
  none_left f [] = refl
  none_left f (x ∷ xs) = by (f x) refl (none_left f xs)
    where
      by : (b : Bool) → f x ≡ b → filter f (filter (λ (y : X). not (f y)) xs) ≡ [] → filter f (cond (not b) (x ∷ filter (λ (y : X). not (f y)) xs) (filter (λ (y : X). not (f y)) xs)) ≡ []
      by true passes rest = rest
      by false fails rest = ap (λ (b : Bool). cond b (x ∷ filter f (filter (λ (y : X). not (f y)) xs)) (filter f (filter (λ (y : X). not (f y)) xs))) fails ∙ rest

  all_left : (f : X → Bool) (xs : List X) → AllByRecursion (λ (x : X). f x ≡ true) xs → filter f xs ≡ xs
  all_left f [] all = refl
  all_left f (x ∷ xs) all = ap (λ (b : Bool). cond b (x ∷ filter f xs) (filter f xs)) all.0 ∙ ap (λ (ys : List X). x ∷ ys) (all_left f xs all.1)

  no_one : (f : X → Bool) (xs : List X) → AllByRecursion (λ (x : X). f x ≡ false) xs → filter f xs ≡ []
  no_one f [] all = refl
  no_one f (x ∷ xs) all = ap (λ (b : Bool). cond b (x ∷ filter f xs) (filter f xs)) all.0 ∙ no_one f xs all.1

  -- what no filter of one kind takes is left by one of another that takes none of that kind
  left_of_kind : (f g : X → Bool) (xs : List X) → ((x : X) → f x ≡ true → g x ≡ false) → filter f (filter (λ (x : X). not (g x)) xs) ≡ filter f xs
  left_of_kind f g [] apart = refl
  left_of_kind f g (x ∷ xs) apart = by (f x) refl (g x) refl (left_of_kind f g xs apart)
    where
      by : (b : Bool) → f x ≡ b → (c : Bool) → g x ≡ c → filter f (filter (λ (y : X). not (g y)) xs) ≡ filter f xs
          → filter f (cond (not c) (x ∷ filter (λ (y : X). not (g y)) xs) (filter (λ (y : X). not (g y)) xs)) ≡ cond b (x ∷ filter f xs) (filter f xs)
      by true own true also rest = absurd (false≢true (sym (apart x own) ∙ also))
      by true own false other rest =
          ap (λ (b : Bool). cond b (x ∷ filter f (filter (λ (y : X). not (g y)) xs)) (filter f (filter (λ (y : X). not (g y)) xs))) own ∙ ap (λ (ys : List X). x ∷ ys) rest
      by false foreign true also rest = rest
      by false foreign false other rest = ap (λ (b : Bool). cond b (x ∷ filter f (filter (λ (y : X). not (g y)) xs)) (filter f (filter (λ (y : X). not (g y)) xs))) foreign ∙ rest

-- ---- parts with other rows

module _ {F : Type 0} (R : Kept (Part F) → List Row → Type 0) (table : List ℕ) where
  -- as many have a block
  blocks_same : (partition : Partition) (n : ℕ) (ks : List (Kept (Part F))) (rows more : List (List Row)) → AllZip R ks rows → AllZip R ks more → count_by (has_block partition n) (core_parts table ks rows) ≡ count_by (has_block partition n) (core_parts table ks more)
  blocks_same partition n [] [] [] hold also = refl
  blocks_same partition n [] [] (s ∷ more) hold also = absurd also
  blocks_same partition n [] (r ∷ rows) more hold also = absurd hold
  blocks_same partition n (k ∷ ks) [] more hold also = absurd hold
  blocks_same partition n (k ∷ ks) (r ∷ rows) [] hold also = absurd also
  blocks_same partition n (k ∷ ks) (r ∷ rows) (s ∷ more) hold also =
      let f : CorePart → Bool = has_block partition n in
      sum_by-cons (λ (p : CorePart). cond (f p) 1 0) (core_part table k r) (core_parts table ks rows)
      ∙ (ap (λ (m : ℕ). cond (f (core_part table k r)) 1 0 + m) (blocks_same partition n ks rows more hold.1 also.1)
      ∙ sym (sum_by-cons (λ (p : CorePart). cond (f p) 1 0) (core_part table k s) (core_parts table ks more)))

  length_same : (ks : List (Kept (Part F))) (rows more : List (List Row)) → AllZip R ks rows → AllZip R ks more → length (core_parts table ks rows) ≡ length (core_parts table ks more)
  length_same ks rows more hold also =
      sym (length-map (core_parts table ks rows) (λ (p : CorePart). p.name))
      ∙ (ap (λ (ns : List PartName). length ns) (part_names R table ks rows hold ∙ sym (part_names R table ks more also)) ∙ length-map (core_parts table ks more) (λ (p : CorePart). p.name))

  -- and they are in the same order
  order_same : (ks : List (Kept (Part F))) (rows more : List (List Row)) → AllZip R ks rows → AllZip R ks more → AreInBlockOrder (core_parts table ks rows) → AreInBlockOrder (core_parts table ks more)
  order_same ks rows more hold also order = λ k d low high.
      let count = length_same ks rows more hold also in
      let names = part_names R table ks rows hold ∙ sym (part_names R table ks more also) in
      let at = λ (j : ℕ) (inside : j < length (core_parts table ks more)).
      name_at j d (omega (arith, count, inside)) inside names in
      subst (λ (n : PartName). is_lt (block_cmp (get_or (core_parts table ks more) (k + 1) d) (record { table = table; name = n; rows = (get_or (core_parts table ks more) k d).rows })) ≡ false) (at k (omega (arith, high)))
      (subst (λ (n : PartName). is_lt (block_cmp (record { table = table; name = n; rows = (get_or (core_parts table ks more) (k + 1) d).rows }) (get_or (core_parts table ks rows) k d)) ≡ false) (at (k + 1) high) (order k d low (omega (arith, count, high))))
    where
      name_at : (j : ℕ) (d : CorePart) → j < length (core_parts table ks rows) → j < length (core_parts table ks more) → names_of (core_parts table ks rows) ≡ names_of (core_parts table ks more)
          → (get_or (core_parts table ks rows) j d).name ≡ (get_or (core_parts table ks more) j d).name
      name_at j d inside within names =
          sym (get_or-map (λ (p : CorePart). p.name) (core_parts table ks rows) j d d.name inside)
          ∙ (ap (λ (ns : List PartName). get_or ns j d.name) names ∙ get_or-map (λ (p : CorePart). p.name) (core_parts table ks more) j d d.name within)

  -- they are all of the table
  own_table : (ks : List (Kept (Part F))) (rows : List (List Row)) → AllByRecursion (λ (p : CorePart). same_bytes p.table table ≡ true) (core_parts table ks rows)
  own_table [] rows = tt
  own_table (k ∷ ks) [] = tt
  own_table (k ∷ ks) (r ∷ rows) = (itself_same table, own_table ks rows)

  -- and none of another
  no_other_table : (u : List ℕ) → same_bytes table u ≡ false → (ks : List (Kept (Part F))) (rows : List (List Row)) → AllByRecursion (λ (p : CorePart). same_bytes p.table u ≡ false) (core_parts table ks rows)
  no_other_table u differ [] rows = tt
  no_other_table u differ (k ∷ ks) [] = tt
  no_other_table u differ (k ∷ ks) (r ∷ rows) = (differ, no_other_table u differ ks rows)

  -- the first of them
  pub record Begins (ks : List (Kept (Part F))) (rows : List (List Row)) (k : Kept (Part F)) : Type 0 where
    pub row : List Row
    pub rest : List CorePart
    pub is : core_parts table ks rows ≡ core_part table k row ∷ rest

  begins : (ks : List (Kept (Part F))) (rows : List (List Row)) → AllZip R ks rows → (k : Kept (Part F)) → slice_get ks 0 ≡ Some k → Begins ks rows k
  begins [] rows hold k at = cc
  begins (l ∷ ks) [] hold k at = absurd hold
  begins (l ∷ ks) (r ∷ rows) hold k at = record { row = r; rest = core_parts table ks rows; is = ap (λ (x : Kept (Part F)). core_part table x r ∷ core_parts table ks rows) (one l k at) }
    where
      one : (x y : Kept (Part F)) → Some x ≡ Some y → x ≡ y
      one x y same = cc

-- ---- the event

module _ {F : Type 0} (files_of : F → Option Files) (core : Core) (old new : CoreStore F) (m : Merging) (t : Table) (at : table_at old m.table ≡ Some t) (s : ShowsCore files_of old core)
    (run : IsRun m.run (kept_in m.partition (parts_of old.set m.table))) (ordered : IsInBlockOrder (kept_in m.partition (parts_of old.set m.table))) (fit : All EndsInOrder (parts_of old.set m.table))
    (is : SealsMerge t.schema core.history (source_names old m) m) (name : PartName) (name_is : name_of_merge (sources_of old m) ≡ Some name) (a : EntersMerge files_of m name old new) where
  abbrev h : History
  h = core.history

  abbrev ks : List (Kept (Part F))
  ks = parts_of old.set m.table

  abbrev those : List (Kept (Part F))
  those = sources_of old m

  abbrev Holds : Kept (Part F) → List Row → Type 0
  Holds k r = PartHolds files_of t.schema k.part r

  abbrev was : PartsAreThere files_of h old m.table t.schema
  was = s.stands.parts m.table t at

  abbrev there : ShowsParts files_of old core m.table t.schema
  there = s.parts m.table t at

  -- the rows that the store's parts hold by the history, and what was made of them
  abbrev inputs : List (List Row)
  inputs = rows_of_run m.partition m.run ks was.rows

  inputs_hold : AllZip Holds those inputs
  inputs_hold = run_hold Holds m.partition m.run ks was.rows was.hold

  abbrev held : HoldsMerge t.schema is.inputs m
  held = is.holds

  abbrev run_sources : Sources
  run_sources = merged_sources m

  abbrev all : List CorePart
  all = core_parts m.table ks there.rows

  abbrev split : Rows files_of h old new m t at ordered fit is name name_is a there.rows
  split = rows_of files_of h old new m t at ordered fit is name name_is a there.rows there.hold

  abbrev front : List CorePart
  front = core_parts m.table a.swapped.front split.front_rows

  abbrev middle : List CorePart
  middle = core_parts m.table those split.inputs

  abbrev back : List CorePart
  back = core_parts m.table a.swapped.back split.back_rows

  all_are : all ≡ front ++ (middle ++ back)
  all_are =
      ap₂ (λ (xs : List (Kept (Part F))) (rs : List (List Row)). core_parts m.table xs rs) a.swapped.before_is split.are
      ∙ (join_parts Holds m.table a.swapped.front (those ++ a.swapped.back) split.front_rows (split.inputs ++ split.back_rows) split.front_hold
      ∙ ap (λ (ps : List CorePart). front ++ ps) (join_parts Holds m.table those a.swapped.back split.inputs split.back_rows split.inputs_hold))

  -- the sources, as the event says them
  abbrev shown_inputs : List (List Row)
  shown_inputs = rows_of_run m.partition m.run ks there.rows

  shown_hold : AllZip Holds those shown_inputs
  shown_hold = run_hold Holds m.partition m.run ks there.rows there.hold

  abbrev meant : List CorePart
  meant = core_parts m.table those shown_inputs

  among : sources_among all run_sources ≡ meant
  among = run_among Holds run_sources m.run refl refl ks there.rows there.hold

  neighbours : HasNeighbours all run_sources
  neighbours = run_neighbours Holds run_sources m.run refl refl ks there.rows there.hold run

  order_all : AreInBlockOrder all
  order_all = order_same Holds m.table ks was.rows there.rows was.hold there.hold was.order

  abbrev place : Run
  place = record { from = length (parts_below m.partition all) + m.run.first; count = m.run.count }

  -- the first source
  first_there : (k : Kept (Part F)) × (slice_get those 0 ≡ Some k)
  first_there = let spans = run_spans ks m.partition m.run ordered fit name name_is in (spans.first, spans.first_is)

  abbrev one : Kept (Part F)
  one = first_there.0

  abbrev f : CorePart → Bool
  f = has_block one.name.partition one.name.min_block

  one_order : one.name.min_block ≤ one.name.max_block
  one_order =
      All-contains EndsInOrder ks one fit
      (subst (λ (xs : List (Kept (Part F))). HasItem xs one) (sym a.swapped.before_is)
      (Contains-append_right a.swapped.front (those ++ a.swapped.back) one (Contains-append_left those a.swapped.back one (0, slice_get_within those 0 one first_there.1, get_or_from_slice_get those 0 one one first_there.1))))

  passes : (row : List Row) → f (core_part m.table one row) ≡ true
  passes row = block_here (core_part m.table one row) one.name.partition one.name.min_block refl (omega arith) one_order

  -- its number is in one part alone
  one_number : count_by f all ≡ 1
  one_number =
      blocks_same Holds m.table one.name.partition one.name.min_block ks there.rows was.rows there.hold was.hold
      ∙ was.stand.once one.name.partition one.name.min_block least
    where
      begun : Begins Holds m.table those inputs one
      begun = begins Holds m.table those inputs inputs_hold one first_there.1

      among_was : sources_among (core_parts m.table ks was.rows) run_sources ≡ core_parts m.table those inputs
      among_was = run_among Holds run_sources m.run refl refl ks was.rows was.hold

      least : IsNumberOfInsert m.table one.name.partition one.name.min_block h
      least =
          let standing = sources_stand (core_parts m.table ks was.rows) run_sources (record { from = length (parts_below m.partition (core_parts m.table ks was.rows)) + m.run.first; count = m.run.count }) was.order (run_neighbours Holds run_sources m.run refl refl ks was.rows was.hold run) refl refl in
          let are = standing.parts_are ∙ ap (λ (ps : List CorePart). standing.front ++ (ps ++ standing.back)) (among_was ∙ begun.is) in
          let stands = All-contains (PartStands h) (core_parts m.table ks was.rows) (core_part m.table one begun.row) was.stand.each
          (subst (λ (ps : List CorePart). HasItem ps (core_part m.table one begun.row)) (sym are)
          (Contains-append_right standing.front ((core_part m.table one begun.row ∷ begun.rest) ++ standing.back) (core_part m.table one begun.row) (item_first (core_part m.table one begun.row) (begun.rest ++ standing.back)))) in
          stands.stands.least

  none_before : (xs : List CorePart) (row : List Row) (rest : List CorePart) → all ≡ xs ++ core_part m.table one row ∷ rest → count_by f xs ≡ 0
  none_before xs row rest are =
      let whole = sum_by-append (λ (p : CorePart). cond (f p) 1 0) xs (core_part m.table one row ∷ rest) in
      let some = one_counts f (core_part m.table one row ∷ rest) (core_part m.table one row) (item_first (core_part m.table one row) rest) (passes row) in
      let total : count_by f (xs ++ core_part m.table one row ∷ rest) ≡ 1 = subst (λ (ps : List CorePart). count_by f ps ≡ 1) are one_number in
      omega (arith, whole, some, total)

  -- the sources of the event are those of the store
  meant_is : sources_among all run_sources ≡ middle
  meant_is =
      let standing = sources_stand all run_sources place order_all neighbours refl refl in
      let first = begins Holds m.table those split.inputs split.inputs_hold one first_there.1 in
      let second = begins Holds m.table those shown_inputs shown_hold one first_there.1 in
      let are : all ≡ front ++ core_part m.table one first.row ∷ (first.rest ++ back) = all_are ∙ ap (λ (ps : List CorePart). front ++ (ps ++ back)) first.is in
      let also : all ≡ standing.front ++ core_part m.table one second.row ∷ (second.rest ++ standing.back) = standing.parts_are ∙ ap (λ (ps : List CorePart). standing.front ++ (ps ++ standing.back)) (among ∙ second.is) in
      let same = one_split f standing.front front (core_part m.table one second.row) (core_part m.table one first.row) (second.rest ++ standing.back) (first.rest ++ back) (sym also ∙ are) (passes second.row) (passes first.row)
      (none_before standing.front second.row (second.rest ++ standing.back) also) (none_before front first.row (first.rest ++ back) are) in
      let tails : meant ++ standing.back ≡ middle ++ back =
      ap (λ (ps : List CorePart). ps ++ standing.back) second.is ∙ (same.1 ∙ sym (ap (λ (ps : List CorePart). ps ++ back) first.is)) in
      among ∙ (same_front meant middle standing.back back tails (length_same Holds m.table those shown_inputs split.inputs shown_hold split.inputs_hold)).0

  -- ---- the state after it

  abbrev kept : Kept (Part F)
  kept = record { name = name; part = a.part; busy = false }

  abbrev part : CorePart
  part = core_part m.table kept held.rows

  abbrev others : List CorePart
  others = filter (λ (p : CorePart). not (same_bytes p.table m.table)) core.parts

  abbrev now : List CorePart
  now = front ++ part ∷ back

  abbrev next : Core
  next = record { parts = others ++ now; history = core.history; snapshots = core.snapshots }

  abbrev rows_now : List (List Row)
  rows_now = split.front_rows ++ held.rows ∷ split.back_rows

  part_holds : Holds kept held.rows
  part_holds = written_holds files_of t.schema a.part held.rows held.files (a.files_are ∙ held.sealed_are) (a.loaded_is ∙ held.loaded_is) held.holds

  now_are : now ≡ core_parts m.table (parts_of new.set m.table) rows_now
  now_are = sym (ap (λ (xs : List (Kept (Part F))). core_parts m.table xs rows_now) a.swapped.after_is ∙ join_parts Holds m.table a.swapped.front (kept ∷ a.swapped.back) split.front_rows (held.rows ∷ split.back_rows) split.front_hold)

  hold_now : AllZip Holds (parts_of new.set m.table) rows_now
  hold_now = subst (λ (xs : List (Kept (Part F))). AllZip Holds xs rows_now) (sym a.swapped.after_is) (join_rows Holds a.swapped.front (kept ∷ a.swapped.back) split.front_rows (held.rows ∷ split.back_rows) split.front_hold (part_holds, split.back_hold))

  own_now : core_parts_of m.table now ≡ now
  own_now = all_left (λ (p : CorePart). same_bytes p.table m.table) now (subst (AllByRecursion (λ (p : CorePart). same_bytes p.table m.table ≡ true)) (sym now_are) (own_table Holds m.table (parts_of new.set m.table) rows_now))

  mine_now : core_parts_of m.table next.parts ≡ now
  mine_now =
      filter-append (λ (p : CorePart). same_bytes p.table m.table) others now
      ∙ ap₂ (λ (xs ys : List CorePart). xs ++ ys) (none_left (λ (p : CorePart). same_bytes p.table m.table) core.parts) own_now

  other_now : (u : List ℕ) → same_bytes m.table u ≡ false → core_parts_of u next.parts ≡ core_parts_of u core.parts
  other_now u differ =
      filter-append (λ (p : CorePart). same_bytes p.table u) others now
      ∙ (ap₂ (λ (xs ys : List CorePart). xs ++ ys)
      (left_of_kind (λ (p : CorePart). same_bytes p.table u) (λ (p : CorePart). same_bytes p.table m.table) core.parts (λ p own. apart p own))
      (no_one (λ (p : CorePart). same_bytes p.table u) now (subst (AllByRecursion (λ (p : CorePart). same_bytes p.table u ≡ false)) (sym now_are) (no_other_table Holds m.table u differ (parts_of new.set m.table) rows_now)))
      ∙ append-nil (core_parts_of u core.parts))
    where
      apart : (p : CorePart) → same_bytes p.table u ≡ true → same_bytes p.table m.table ≡ false
      apart p own = elim (true_or_false (same_bytes p.table m.table)) [
        | inl same ↦ absurd (false≢true (sym differ ∙ (ap (λ (v : List ℕ). same_bytes v u) (sym (same_is p.table m.table same)) ∙ own)))
        | inr other ↦ other
      ]

  swaps : SwapsParts (sources_among (core_parts_of m.table core.parts) run_sources) part core.parts next.parts
  swaps = record {
    front = front;
    behind = back;
    old_is = there.same ∙ (all_are ∙ ap (λ (ps : List CorePart). front ++ (ps ++ back)) (sym (ap (λ (ps : List CorePart). sources_among ps run_sources) there.same ∙ meant_is)));
    new_is = mine_now;
    others = other_now;
  }

  -- ---- that it may come, and what the store shows then

  known : schema_of m.table h ≡ Some t.schema
  known = sym (s.stands.tables m.table) ∙ ap (option_map (λ (x : Table). x.schema)) at

  beside_is : sources_among (core_parts_of m.table core.parts) run_sources ≡ meant
  beside_is = ap (λ (ps : List CorePart). sources_among ps run_sources) there.same ∙ among

  leaves : MergeLeaves h t.schema (sources_among (core_parts_of m.table core.parts) run_sources) held.rows
  leaves = record {
    inputs = is.inputs;
    stand = subst (λ (ps : List CorePart). AllZip (λ (p : CorePart) (r : List Row). PartStands h (with_rows p r)) ps is.inputs) (sym beside_is)
        (subst (λ (k : History). AllZip (λ (p : CorePart) (r : List Row). PartStands k (with_rows p r)) meant is.inputs) (sym is.grown) (reached_stand Holds is.front is.more m.table those shown_inputs is.inputs shown_hold is.reach));
    rising = held.rising;
    merges = held.merges;
  }

  one_schema : (x y : Schema) → Some x ≡ Some y → x ≡ y
  one_schema x y same = cc

  one_table : (x y : Table) → Some x ≡ Some y → x ≡ y
  one_table x y same = cc

  no_table : (x : Table) → Some x ≡ None → ⊥
  no_table x same = cc

  here : (u : List ℕ) → table_at new u ≡ table_at old u
  here u = ap (λ (ts : BTreeMap (List ℕ) Table). get (slice_cmp nat_cmp) ts u) a.tables_are

  other_table : (u : List ℕ) → same_bytes m.table u ≡ false → u ≢ m.table
  other_table u differ same = let yes : same_bytes m.table u ≡ true = ap (same_bytes m.table) same ∙ itself_same m.table in false≢true (sym differ ∙ yes)

  shown_here : ShowsParts files_of new next m.table t.schema
  shown_here = record { rows = rows_now; hold = hold_now; same = mine_now ∙ now_are }

  shown_at : (u : List ℕ) (x : Table) → table_at old u ≡ Some x → ShowsParts files_of new next u x.schema
  shown_at u x found = elim (true_or_false (same_bytes m.table u)) [
    | inl same ↦ (
        let it = same_is m.table u same in
        let is_it : t ≡ x = one_table t x (sym at ∙ (ap (table_at old) it ∙ found)) in
        subst (λ (v : List ℕ). ShowsParts files_of new next v x.schema) it (subst (λ (y : Table). ShowsParts files_of new next m.table y.schema) is_it shown_here))
    | inr differ ↦ (
        let same = a.others u (other_table u differ) in
        let p = s.parts u x found in
        record {
          rows = p.rows;
          hold = subst (λ (xs : List (Kept (Part F))). AllZip (λ (k : Kept (Part F)) (r : List Row). PartHolds files_of x.schema k.part r) xs p.rows) (sym same) p.hold;
          same = other_now u differ ∙ (p.same ∙ ap (λ (xs : List (Kept (Part F))). core_parts u xs p.rows) (sym same));
        })
  ]

  none_at : (u : List ℕ) → table_at old u ≡ None → core_parts_of u next.parts ≡ []
  none_at u none = elim (true_or_false (same_bytes m.table u)) [
    | inl same ↦ absurd (no_table t (sym at ∙ (ap (table_at old) (same_is m.table u same) ∙ none)))
    | inr differ ↦ other_now u differ ∙ s.no_other u none
  ]

  -- the merge is the event
  pub merge_put : name.level ≤ 4294967295 → IsPut files_of core m new
  merge_put low = record {
    rows = held.rows;
    name = name;
    next = next;
    may = λ schema found has. subst (λ (x : Schema). MergeLeaves h x (sources_among (core_parts_of m.table core.parts) run_sources) held.rows) (one_schema t.schema schema (sym known ∙ found)) leaves;
    gives = record {
      there = ap is_some known;
      neighbours = subst (λ (ps : List CorePart). HasNeighbours ps run_sources) (sym there.same) neighbours;
      unparted = subst (λ (ms : List Mutation). NoneParted ms (names_of (sources_among (core_parts_of m.table core.parts) run_sources))) (sym (s.stands.unaltered m.table))
          (unparted_none (names_of (sources_among (core_parts_of m.table core.parts) run_sources)));
      named = ap (λ (ps : List CorePart). merged_of (names_of ps)) beside_is ∙ (ap merged_of (part_names Holds m.table those shown_inputs shown_hold) ∙ name_is);
      room = low;
      parts = swaps;
      history = refl;
      snapshots = refl;
    };
    shows = record {
      stands = stands_merged files_of h old new m t at ordered fit is name name_is a s.stands run;
      parts = λ u x found. shown_at u x (sym (here u) ∙ found);
      no_other = λ u none. none_at u (sym (here u) ∙ none);
    };
  }
