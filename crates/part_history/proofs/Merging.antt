-- A run of neighbours of one partition, and the part that a merge makes of them.
use Rattle.std.proofs.Common.{◌≡◌, ℕ, ◌+◌, ◌<◌, ◌≤◌, Bool, true, false, cond, ◌&&◌, List, [], ◌∷◌, ◌++◌, Some, None, map, nat_le, refl, sym, ap, ap₂, ◌∙◌, subst, arith, suc, inl, inr, ◌⊎◌}
use Rattle.std.specs.List.{flat_map, count_by, AllByRecursion, AllZip}
use Rattle.std.specs.Ordering.{is_lt, nat_cmp, ordering_then}
use Rattle.std.proofs.lemmas.Bool.{cases_lt}
use Rattle.std.proofs.lemmas.Bool.Decides.{nat_tests}
use Rattle.std.proofs.lemmas.List.{map-append}
use Rattle.std.proofs.lemmas.List.Elements.{All-from_recursion, All-nil, filter-append, recursion_from_All}
use Rattle.std.proofs.lemmas.List.Sorted.{sorted_far}
use Rattle.std.proofs.lemmas.List.Sums.{sum_by-append, sum_by-cons}
use Rattle.mt_base.specs.declared.partition.Partition.{Partition}
use Rattle.mt_values.specs.declared.command.Command.{Command}
use Rattle.mt_values.specs.declared.mutation.Mutation.{Mutation}
use Rattle.mt_values.specs.declared.schema.Schema.{Schema}
use Rattle.mt_values.specs.Tables.{same_partition}
use Rattle.mt_values.specs.Values.{Row}
use Rattle.rule_law.specs.mt_model.History.{History, IsLegal, schema_of}
use Rattle.rule_law.specs.mt_model.Live.{live}
use Rattle.rule_law.specs.mt_model.Numbers.{IsNumberOfInsert, NoMutationBetween, Reach, last_number, lies_within, mutations_in, numbered, reached}
use Rattle.rule_law.specs.mt_model.Partial.{Partly}
use Rattle.rule_law.proofs.MtModelCommands.{partition_is, same_itself}
use Rattle.rule_law.proofs.MtModelMerged.{partly_append, partly_folded, partly_itself, partly_on}
use Rattle.rule_law.proofs.MtModelSorting.{sorted_tail}
use Rattle.part_name.specs.Pending.{NoneParted, Parts}
use Rattle.part_name.specs.declared.part.PartName.{PartName}
use Rattle.part_name.specs.Merged.{RiseFrom, last_name, merged_name}
use Rattle.part_name.specs.PartNames.{data_version}
use Rattle.part_name.proofs.Merging.{merged_greatest, merged_least}
use Rattle.part_history.specs.declared.part.CorePart.{CorePart}
use Rattle.part_history.specs.Merges.{IsMergedPart, names_of, with_rows}
use Rattle.part_history.specs.Parts.{AreInBlockOrder, PartStands, TableStands, WasMutated, block_cmp, has_block, partition_cmp, parts_in, reach_of_part}
use Rattle.part_history.proofs.Joined.{OfPartition, all_of, begin_all, climbs_all, count_ranges, fits_all, flat_maps, from_full, full, of_full, own_partly, range_of, ranges_in}
use Rattle.part_history.proofs.Ordered.{one_sorted, order_between, sorted_next}
use Rattle.part_history.proofs.Orders.{block_weak, order_filtered}
use Rattle.part_history.proofs.Ranges.{Apart, Begins, Climbs, IsOf, Range, Stays, count_cons, count_no, holds, lies_above, lies_below, lies_inside, none_low, ranges_apart, ranges_joined}
use Rattle.part_history.proofs.Settled.{kept, kept_in, live_reached, rows_by, settled, settled_alike, upto}
use Rattle.part_history.proofs.Versions.{Agree, agree_at, agree_back, agree_itself, agree_on, all_agree, merged_version, merged_was}

-- ---- lists

pub all_left : {X : Type 0} (P : X → Type 0) (xs ys : List X) → AllByRecursion P (xs ++ ys) → AllByRecursion P xs
all_left P [] ys all = tt
all_left P (x ∷ xs) ys all = (all.0, all_left P xs ys all.1)

pub all_right : {X : Type 0} (P : X → Type 0) (xs ys : List X) → AllByRecursion P (xs ++ ys) → AllByRecursion P ys
all_right P [] ys all = all
all_right P (x ∷ xs) ys all = all_right P xs ys all.1

all_weaker : {X : Type 0} (P Q : X → Type 0) → ((x : X) → P x → Q x) → (xs : List X) → AllByRecursion P xs → AllByRecursion Q xs
all_weaker P Q implies [] all = tt
all_weaker P Q implies (x ∷ xs) all = (implies x all.0, all_weaker P Q implies xs all.1)

-- what holds of each, and of one in place of a run, holds of each with that one
pub all_swapped : {X : Type 0} (P : X → Type 0) (front run back : List X) (x : X) → AllByRecursion P (front ++ (run ++ back)) → P x → AllByRecursion P (front ++ x ∷ back)
all_swapped P [] run back x all here = (here, all_right P run back all)
all_swapped P (y ∷ front) run back x all here = (all.0, all_swapped P front run back x all.1 here)

-- ---- ranges that lie apart

abbrev one_if : Bool → ℕ
one_if b = cond b 1 0

abbrev last_range : Range → List Range → Range
last_range r [] = r
last_range r (q ∷ rs) = last_range q rs

apart_right : (xs ys : List Range) → Apart (xs ++ ys) → Apart ys
apart_right [] ys apart = apart
apart_right (x ∷ xs) ys apart = apart_right xs ys apart.1

apart_left : (xs ys : List Range) → Apart (xs ++ ys) → Apart xs
apart_left [] ys apart = tt
apart_left (x ∷ xs) ys apart = (all_left (λ (q : Range). x.1 < q.0) xs ys apart.0, apart_left xs ys apart.1)

-- those before a range end below it
ends_before : (xs : List Range) (r : Range) (ys : List Range) → Apart (xs ++ r ∷ ys) → AllByRecursion (λ (q : Range). q.1 < r.0) xs
ends_before [] r ys apart = tt
ends_before (x ∷ xs) r ys apart = ((all_right (λ (q : Range). x.1 < q.0) xs (r ∷ ys) apart.0).0, ends_before xs r ys apart.1)

-- those after some ranges begin above the last of these
begins_after : (r : Range) (rs ys : List Range) → Apart ((r ∷ rs) ++ ys) → AllByRecursion (λ (q : Range). (last_range r rs).1 < q.0) ys
begins_after r [] ys apart = apart.0
begins_after r (q ∷ rs) ys apart = begins_after q rs ys apart.1

count_append : (n : ℕ) (xs ys : List Range) → count_by (holds n) (xs ++ ys) ≡ count_by (holds n) xs + count_by (holds n) ys
count_append n xs ys = sum_by-append (λ (r : Range). one_if (holds n r)) xs ys

count_none : (n : ℕ) (rs : List Range) → AllByRecursion (λ (r : Range). holds n r ≡ false) rs → count_by (holds n) rs ≡ 0
count_none n [] none = refl
count_none n (r ∷ rs) none = count_no n r rs none.0 ∙ count_none n rs none.1

-- the ranges of a run, between others
module _ (w : Partition) (cs : List Command) (front : List Range) (r : Range) (rs back : List Range) (begin : AllByRecursion (Begins w cs) (r ∷ rs)) (climbs : Climbs r.0 rs)
    (apart : Apart (front ++ ((r ∷ rs) ++ back))) (once : (n : ℕ) → IsOf w 1 cs n → count_by (holds n) (front ++ ((r ∷ rs) ++ back)) ≡ 1) where
  abbrev top : ℕ
  top = (last_range r rs).1

  apart_here : Apart ((r ∷ rs) ++ back)
  apart_here = apart_right front ((r ∷ rs) ++ back) apart

  ends_by : (q : Range) (qs : List Range) → AllByRecursion (Begins w cs) (q ∷ qs) → Apart (q ∷ qs) → q.1 ≤ (last_range q qs).1
  ends_by q [] begin apart = omega arith
  ends_by q (p ∷ qs) begin apart =
      let more = ends_by p qs begin.1 apart.1 in
      omega (arith, more, apart.0.0, begin.1.0.0)

  stay : (low : ℕ) (q : Range) (qs : List Range) → low ≤ q.0 → Climbs q.0 qs → AllByRecursion (Begins w cs) (q ∷ qs) → Apart (q ∷ qs) → AllByRecursion (Stays low (last_range q qs).1) (q ∷ qs)
  stay low q [] under climbs begin apart = ((under, omega arith), tt)
  stay low q (p ∷ qs) under climbs begin apart =
      ((under, ends_by q (p ∷ qs) begin apart), stay low p qs (omega (arith, under, climbs.0)) climbs.1 begin.1 apart.1)

  -- they stay between the begin of the first and the end of the last
  stays : AllByRecursion (Stays r.0 top) (r ∷ rs)
  stays = stay r.0 r rs (omega arith) climbs begin (apart_left (r ∷ rs) back apart_here)

  pub run_order : r.0 ≤ top
  run_order = let low = begin.0.0 in let high = ends_by r rs begin (apart_left (r ∷ rs) back apart_here) in omega (arith, low, high)

  -- and have each number of the partition there once
  run_once : (n : ℕ) → r.0 ≤ n → n ≤ top → IsOf w 1 cs n → count_by (holds n) (r ∷ rs) ≡ 1
  run_once n from upto is =
      let before = count_none n front (all_weaker (λ (q : Range). q.1 < r.0) (λ (q : Range). holds n q ≡ false) (λ q lt. lies_above q.0 q.1 n (omega (arith, lt, from))) front (ends_before front r (rs ++ back) apart)) in
      let after = count_none n back (all_weaker (λ (q : Range). top < q.0) (λ (q : Range). holds n q ≡ false) (λ q lt. lies_below q.0 q.1 n (omega (arith, lt, upto))) back (begins_after r rs back apart_here)) in
      let one = once n is in
      let all = count_append n front ((r ∷ rs) ++ back) in
      let here = count_append n (r ∷ rs) back in
      omega (arith, before, after, one, all, here)

  -- no other number
  run_alike : (n : ℕ) → IsOf w 1 cs n → one_if (holds n (r.0, top)) ≡ count_by (holds n) (r ∷ rs)
  run_alike n is = by (cases_lt n r.0) (cases_lt top n)
    where
      by : (n < r.0) ⊎ (r.0 ≤ n) → (top < n) ⊎ (n ≤ top) → one_if (holds n (r.0, top)) ≡ count_by (holds n) (r ∷ rs)
      by (inl low) high = ap one_if (lies_below r.0 top n low) ∙ sym (none_low n r.0 (r ∷ rs) (omega arith, climbs) low)
      by (inr from) (inl above) =
          ap one_if (lies_above r.0 top n above)
          ∙ sym (count_none n (r ∷ rs) (all_weaker (Stays r.0 top) (λ (q : Range). holds n q ≡ false) (λ q s. let end = s.1 in lies_above q.0 q.1 n (omega (arith, end, above))) (r ∷ rs) stays))
      by (inr from) (inr upto) = ap one_if (lies_inside r.0 top n from upto) ∙ sym (run_once n from upto is)

  -- so one range may stand in their place
  pub run_swapped : (n : ℕ) → IsOf w 1 cs n → count_by (holds n) (front ++ (r.0, top) ∷ back) ≡ 1
  run_swapped n is =
      let same = run_alike n is in
      let now = count_append n front ((r.0, top) ∷ back) in
      let first : count_by (holds n) ((r.0, top) ∷ back) ≡ one_if (holds n (r.0, top)) + count_by (holds n) back = count_cons n (r.0, top) back in
      let was = count_append n front ((r ∷ rs) ++ back) in
      let run = count_append n (r ∷ rs) back in
      let one = once n is in
      omega (arith, same, now, first, was, run, one)

  -- and what is kept in them, one after another, is what is kept in that one
  pub run_joined : flat_map (λ (q : Range). kept w q.0 q.1 1 cs) (r ∷ rs) ≡ kept w r.0 top 1 cs
  run_joined = ranges_joined w cs (r ∷ rs) r.0 r.0 top (omega arith, climbs) begin stays run_once

-- ---- block order

-- no part comes before the first
head_first : (p : CorePart) (ps : List CorePart) → AreInBlockOrder (p ∷ ps) → AllByRecursion (λ (q : CorePart). is_lt (block_cmp q p) ≡ false) ps
head_first p ps up =
    recursion_from_All (λ (q : CorePart). is_lt (block_cmp q p) ≡ false) ps
    (λ k d below. sorted_far (λ a b. is_lt (block_cmp a b)) block_weak (p ∷ ps) up 0 (suc k) d (omega arith) (omega (arith, below)))

sorted_left : (ps qs : List CorePart) → AreInBlockOrder (ps ++ qs) → AreInBlockOrder ps
sorted_left [] qs up = λ k d low high. absurd (omega (arith, high))
sorted_left (p ∷ []) qs up = one_sorted p
sorted_left (p ∷ r ∷ ps) qs up = sorted_next p r ps (up 0 p (omega arith) (omega arith)) (sorted_left (r ∷ ps) qs (sorted_tail block_cmp p ((r ∷ ps) ++ qs) up))

sorted_right : (ps qs : List CorePart) → AreInBlockOrder (ps ++ qs) → AreInBlockOrder qs
sorted_right [] qs up = up
sorted_right (p ∷ ps) qs up = sorted_right ps qs (sorted_tail block_cmp p (ps ++ qs) up)

-- those before a part do not come after it
none_after : (ps : List CorePart) (p : CorePart) (qs : List CorePart) → AreInBlockOrder (ps ++ p ∷ qs) → AllByRecursion (λ (q : CorePart). is_lt (block_cmp p q) ≡ false) ps
none_after [] p qs up = tt
none_after (x ∷ ps) p qs up =
    ((all_right (λ (q : CorePart). is_lt (block_cmp q x) ≡ false) ps (p ∷ qs) (head_first x (ps ++ p ∷ qs) up)).0, none_after ps p qs (sorted_tail block_cmp x (ps ++ p ∷ qs) up))

-- a part that begins as the first of a run stands in block order in its place
pub order_swapped : (front : List CorePart) (first : CorePart) (rest back : List CorePart) (part : CorePart) → AreInBlockOrder (front ++ ((first ∷ rest) ++ back)) → part.name.partition ≡ first.name.partition
    → part.name.min_block ≡ first.name.min_block → AreInBlockOrder (front ++ part ∷ back)
order_swapped front first rest back part up same begin =
    let here = sorted_right front ((first ∷ rest) ++ back) up in
    let from : (q : CorePart) → block_cmp part q ≡ block_cmp first q = λ q. ap₂ (λ (v : Partition) (n : ℕ). ordering_then (partition_cmp v q.name.partition) (nat_cmp n q.name.min_block)) same begin in
    let upto : (q : CorePart) → block_cmp q part ≡ block_cmp q first = λ q. ap₂ (λ (v : Partition) (n : ℕ). ordering_then (partition_cmp q.name.partition v) (nat_cmp q.name.min_block n)) same begin in
    order_between front back part
    (all_weaker (λ (q : CorePart). is_lt (block_cmp first q) ≡ false) (λ (q : CorePart). is_lt (block_cmp part q) ≡ false) (λ q is. ap is_lt (from q) ∙ is) front (none_after front first (rest ++ back) up))
    (all_weaker (λ (q : CorePart). is_lt (block_cmp q first) ≡ false) (λ (q : CorePart). is_lt (block_cmp q part) ≡ false) (λ q is. ap is_lt (upto q) ∙ is) back
    (all_right (λ (q : CorePart). is_lt (block_cmp q first) ≡ false) rest back (head_first first (rest ++ back) here)))
    (sorted_left front ((first ∷ rest) ++ back) up)
    (sorted_right rest back (sorted_tail block_cmp first (rest ++ back) here))

-- ---- names

-- the blocks of a name
abbrev blocks_of : PartName → Range
blocks_of name = (name.min_block, name.max_block)

last_blocks : (first : CorePart) (rest : List CorePart) → last_range (range_of first) (map range_of rest) ≡ blocks_of (last_name first.name (names_of rest))
last_blocks first [] = refl
last_blocks first (p ∷ rest) = last_blocks p rest

-- parts of one partition whose blocks lie apart rise
names_rise : (w : Partition) (cs : List Command) (first : CorePart) (rest : List CorePart) → AllByRecursion (OfPartition w) (first ∷ rest) → AllByRecursion (Begins w cs) (map range_of (first ∷ rest))
    → Apart (map range_of (first ∷ rest)) → RiseFrom first.name (names_of rest)
names_rise w cs first [] own begin apart = begin.0.0
names_rise w cs first (p ∷ rest) own begin apart =
    (begin.0.0, record { partition = own.0 ∙ sym own.1.0; blocks = apart.0.0 }, names_rise w cs p rest own.1 begin.1 apart.1)

-- what holds of the greatest block of each holds of the last one's
last_of_all : (P : ℕ → Type 0) (first : CorePart) (rest : List CorePart) → AllByRecursion (λ (p : CorePart). P p.name.max_block) (first ∷ rest) → P (last_name first.name (names_of rest)).max_block
last_of_all P first [] all = all.0
last_of_all P first (p ∷ rest) all = last_of_all P p rest all.1

-- parts whose blocks begin no lower than this, one after another
begins_low : (low : ℕ) (ps : List CorePart) → Climbs low (map range_of ps) → AllByRecursion (λ (p : CorePart). low ≤ p.name.min_block) ps
begins_low low [] climbs = tt
begins_low low (p ∷ ps) climbs = (climbs.0, all_weaker (λ (q : CorePart). p.name.min_block ≤ q.name.min_block) (λ (q : CorePart). low ≤ q.name.min_block) (λ q le. omega (arith, climbs.0, le)) ps (begins_low p.name.min_block ps climbs.1))

-- what holds of each version and of each least block holds of those of their names
both : (P : ℕ → Type 0) (low : ℕ) (ps : List CorePart) → AllByRecursion (λ (p : CorePart). P (data_version p.name)) ps → AllByRecursion (λ (p : CorePart). low ≤ p.name.min_block) ps
    → AllByRecursion (λ (name : PartName). P (data_version name) × (low ≤ name.min_block)) (names_of ps)
both P low [] one other = tt
both P low (p ∷ ps) one other = ((one.0, other.0), both P low ps one.1 other.1)

-- what holds of each name
of_names : (P : PartName → Type 0) (ps : List CorePart) → AllByRecursion P (names_of ps) → AllByRecursion (λ (p : CorePart). P p.name) ps
of_names P [] all = tt
of_names P (p ∷ ps) all = (all.0, of_names P ps all.1)

-- parts of one partition are all of its own
own_in : (w : Partition) (ps : List CorePart) → AllByRecursion (OfPartition w) ps → parts_in w ps ≡ ps
own_in w [] own = refl
own_in w (p ∷ ps) own =
    ap₂ (λ (b : Bool) (qs : List CorePart). cond b (p ∷ qs) qs) (ap (λ v. same_partition v w) own.0 ∙ same_itself w) (own_in w ps own.1)

-- parts of one partition have no block of another
count_other : (v w : Partition) (n : ℕ) (ps : List CorePart) → same_partition w v ≡ false → AllByRecursion (OfPartition w) ps → count_by (has_block v n) ps ≡ 0
count_other v w n [] apart own = refl
count_other v w n (p ∷ ps) apart own =
    let none : has_block v n p ≡ false = ap (λ (u : Partition). same_partition u v && lies_within p.name.min_block p.name.max_block n) own.0 ∙ ap (λ b. b && lies_within p.name.min_block p.name.max_block n) apart in
    sum_by-cons (λ (q : CorePart). one_if (has_block v n q)) p ps ∙ ap₂ (λ (b : Bool) (k : ℕ). one_if b + k) none (count_other v w n ps apart own.1)

parts_append : (f : CorePart → Bool) (xs ys : List CorePart) → count_by f (xs ++ ys) ≡ count_by f xs + count_by f ys
parts_append f xs ys = sum_by-append (λ (q : CorePart). one_if (f q)) xs ys

-- ---- the merge of a run

-- no mutation parts parts of a table without any
pub unparted_none : (names : List PartName) → NoneParted [] names
unparted_none [] = tt
unparted_none (a ∷ []) = tt
unparted_none (a ∷ b ∷ names) = (All-nil (λ (m : Mutation). Parts a b m → ⊥), unparted_none (b ∷ names))

module _ (h : History) (schema : Schema) (part : CorePart) (legal : IsLegal h) (there : schema_of part.table h ≡ Some schema) (front : List CorePart) (first : CorePart) (rest back : List CorePart)
    (m : IsMergedPart h schema (first ∷ rest) part) (stands : TableStands part.table (front ++ ((first ∷ rest) ++ back)) h) (up : AreInBlockOrder (front ++ ((first ∷ rest) ++ back))) where
  abbrev w : Partition
  w = part.name.partition

  abbrev table : List ℕ
  table = part.table

  -- the mutations up to this are made of all of them
  abbrev version : ℕ
  version = data_version part.name

  abbrev drawn : List Command
  drawn = full h table schema legal there (upto version)

  abbrev sources : List CorePart
  sources = first ∷ rest

  abbrev all : List CorePart
  all = front ++ (sources ++ back)

  own : AllByRecursion (OfPartition w) sources
  own = recursion_from_All (OfPartition w) sources m.own

  tables : AllByRecursion (λ (p : CorePart). p.table ≡ table) all
  tables = recursion_from_All (λ (p : CorePart). p.table ≡ table) all stands.own

  each : AllByRecursion (PartStands h) all
  each = recursion_from_All (PartStands h) all stands.each

  tables_here : AllByRecursion (λ (p : CorePart). p.table ≡ table) sources
  tables_here = all_left (λ (p : CorePart). p.table ≡ table) sources back (all_right (λ (p : CorePart). p.table ≡ table) front (sources ++ back) tables)

  each_here : AllByRecursion (PartStands h) sources
  each_here = all_left (PartStands h) sources back (all_right (PartStands h) front (sources ++ back) each)

  -- their blocks among those of the partition
  ranges_are : ranges_in w all ≡ ranges_in w front ++ (map range_of sources ++ ranges_in w back)
  ranges_are =
      let mine : CorePart → Bool = λ p. same_partition p.name.partition w in
      ap (map range_of) (filter-append mine front (sources ++ back) ∙ ap (λ (ps : List CorePart). parts_in w front ++ ps) (filter-append mine sources back ∙ ap (λ (ps : List CorePart). ps ++ parts_in w back) (own_in w sources own)))
      ∙ (map-append range_of (parts_in w front) (sources ++ parts_in w back) ∙ ap (λ (rs : List Range). ranges_in w front ++ rs) (map-append range_of sources (parts_in w back)))

  begin : AllByRecursion (Begins w drawn) (ranges_in w front ++ (map range_of sources ++ ranges_in w back))
  begin = subst (AllByRecursion (Begins w drawn)) ranges_are (begin_all h table schema legal there (upto version) w all (fits_all h table schema legal there (upto version) all tables each))

  begin_here : AllByRecursion (Begins w drawn) (map range_of sources)
  begin_here = all_left (Begins w drawn) (map range_of sources) (ranges_in w back) (all_right (Begins w drawn) (ranges_in w front) (map range_of sources ++ ranges_in w back) begin)

  once : (n : ℕ) → IsOf w 1 drawn n → count_by (holds n) (ranges_in w front ++ (map range_of sources ++ ranges_in w back)) ≡ 1
  once n one =
      let is : IsNumberOfInsert table w n h = from_full h table schema legal there (upto version) w n one in
      ap (count_by (holds n)) (sym ranges_are) ∙ (sym (count_ranges w n all) ∙ stands.once w n is)

  climbs_here : Climbs first.name.min_block (map range_of rest)
  climbs_here = (climbs_all w sources own (sorted_left sources back (sorted_right front (sources ++ back) up))).1

  apart : Apart (ranges_in w front ++ (map range_of sources ++ ranges_in w back))
  apart =
      ranges_apart w drawn (ranges_in w front ++ (map range_of sources ++ ranges_in w back)) 0
      (subst (Climbs 0) ranges_are (climbs_all w (parts_in w all) (all_of w all) (order_filtered (λ (p : CorePart). same_partition p.name.partition w) all up)))
      begin (λ n is. let one = once n is in omega (arith, one))

  rise : RiseFrom first.name (names_of rest)
  rise = names_rise w drawn first rest own begin_here (apart_left (map range_of sources) (ranges_in w back) (apart_right (ranges_in w front) (map range_of sources ++ ranges_in w back) apart))

  abbrev low : ℕ
  low = first.name.min_block

  abbrev high : ℕ
  high = (last_name first.name (names_of rest)).max_block

  abbrev last : Range
  last = last_range (range_of first) (map range_of rest)

  name_is : part.name ≡ merged_name first.name (names_of rest)
  name_is = let named : Some (merged_name first.name (names_of rest)) ≡ Some part.name = m.named in cc

  low_is : part.name.min_block ≡ low
  low_is = ap (λ (name : PartName). name.min_block) name_is ∙ merged_least first.name (names_of rest) rise

  high_is : part.name.max_block ≡ high
  high_is = ap (λ (name : PartName). name.max_block) name_is ∙ merged_greatest first.name (names_of rest) rise

  last_is : last.1 ≡ high
  last_is = ap (λ (r : Range). r.1) (last_blocks first rest)

  -- ---- their versions

  abbrev ms : List Mutation
  ms = mutations_in table h

  firsts : Agree ms (data_version first.name) (data_version first.name)
  firsts = agree_itself ms (data_version first.name)

  names_agree : AllByRecursion (λ name. Agree ms (data_version name) (data_version first.name)) (names_of rest)
  names_agree = all_agree ms (data_version first.name) first.name (names_of rest) firsts m.unparted

  -- what holds of the version of each source holds of that of the part
  version_holds : (P : ℕ → Type 0) → AllByRecursion (λ (p : CorePart). P (data_version p.name)) sources → P version
  version_holds P each =
      subst (λ (name : PartName). P (data_version name)) (sym name_is)
      (merged_version P first.name (names_of rest) each.0 (both P low rest each.1 (begins_low low rest climbs_here)))

  sources_agree : AllByRecursion (λ (p : CorePart). Agree ms (data_version p.name) (data_version first.name)) sources
  sources_agree = (firsts, of_names (λ name. Agree ms (data_version name) (data_version first.name)) rest names_agree)

  version_agrees : Agree ms version (data_version first.name)
  version_agrees = version_holds (λ v. Agree ms v (data_version first.name)) sources_agree

  agree_here : AllByRecursion (λ (p : CorePart). Agree ms (data_version p.name) version) sources
  agree_here =
      all_weaker (λ (p : CorePart). Agree ms (data_version p.name) (data_version first.name)) (λ (p : CorePart). Agree ms (data_version p.name) version)
      (λ p same. agree_on ms (data_version p.name) (data_version first.name) version same (agree_back ms version (data_version first.name) version_agrees)) sources sources_agree

  -- the rows that they stand with, one part after another
  rows_joined : (ps : List CorePart) (inputs : List (List Row)) → AllByRecursion (OfPartition w) ps → AllByRecursion (λ (p : CorePart). p.table ≡ table) ps
      → AllByRecursion (λ (p : CorePart). Agree ms (data_version p.name) version) ps
      → AllZip (λ (p : CorePart) (rows : List Row). PartStands h (with_rows p rows)) ps inputs
      → Partly schema (flat_map (λ (r : Range). flat_map rows_by (kept w r.0 r.1 1 drawn)) (map range_of ps)) (flat_map (λ (rows : List Row). rows) inputs)
  rows_joined [] [] mine named same stand = partly_itself schema []
  rows_joined [] (rows ∷ inputs) mine named same stand = absurd stand
  rows_joined (p ∷ ps) [] mine named same stand = absurd stand
  rows_joined (p ∷ ps) (rows ∷ inputs) mine named same stand =
      let added : Range → List Row = λ r. flat_map rows_by (kept w r.0 r.1 1 drawn) in
      let own = own_partly h table schema legal there (with_rows p rows) named.0 stand.0 in
      let settles : settled schema (upto (data_version p.name)) 1 (numbered table h) ≡ drawn = settled_alike schema (upto (data_version p.name)) (upto version) 1 (numbered table h) same.0 in
      let here : Partly schema (added (range_of p)) rows =
      subst (λ (v : Partition). Partly schema (flat_map rows_by (kept v p.name.min_block p.name.max_block 1 drawn)) rows) mine.0
      (subst (λ (cs : List Command). Partly schema (flat_map rows_by (kept p.name.partition p.name.min_block p.name.max_block 1 cs)) rows) settles own) in
      partly_append schema (added (range_of p)) (flat_map added (map range_of ps)) rows (flat_map (λ (rows : List Row). rows) inputs) here (rows_joined ps inputs mine.1 named.1 same.1 stand.1)

  -- what it reaches
  abbrev reach : Reach
  reach = reach_of_part part

  partly : Partly schema (live table schema (reached reach h)) part.rows
  partly =
      let inputs = flat_map (λ (rows : List Row). rows) m.leaves.inputs in
      let run = run_joined w drawn (ranges_in w front) (range_of first) (map range_of rest) (ranges_in w back) begin_here climbs_here apart once in
      let blocks : kept w low last.1 1 drawn ≡ kept_in reach 1 drawn = ap₂ (λ (a b : ℕ). kept w a b 1 drawn) (sym low_is) (last_is ∙ sym high_is) in
      let joined : flat_map (λ (r : Range). flat_map rows_by (kept w r.0 r.1 1 drawn)) (map range_of sources) ≡ live table schema (reached reach h) =
      flat_maps rows_by (λ (r : Range). kept w r.0 r.1 1 drawn) (map range_of sources)
      ∙ (ap (flat_map rows_by) (run ∙ blocks) ∙ sym (live_reached schema reach h)) in
      partly_on schema (live table schema (reached reach h)) inputs part.rows
      (subst (λ (rows : List Row). Partly schema rows inputs) joined (rows_joined sources m.leaves.inputs own tables_here agree_here m.leaves.stand))
      (partly_folded schema inputs part.rows m.leaves.merges)

  -- no mutation comes between its version and its greatest block, since none does for the last source
  wholes : (ps : List CorePart) → AllByRecursion (λ (p : CorePart). p.table ≡ table) ps → AllByRecursion (PartStands h) ps → AllByRecursion (λ (p : CorePart). Agree ms (data_version p.name) version) ps
      → AllByRecursion (λ (p : CorePart). NoMutationBetween table version p.name.max_block h) ps
  wholes [] named stand same = tt
  wholes (p ∷ ps) named stand same = (
    λ n is lt le.
        let agree = agree_at (data_version p.name) version n 1 (numbered table h) is.alter same.0 is.from_one is.there in
        let not_upto : nat_le n version ≡ false = grind (arith, nat_tests, lt) in
        let none : nat_le n (data_version p.name) ≡ false = agree ∙ not_upto in
        let above : data_version p.name < n = grind (arith, nat_tests, none) in
        subst (λ (t : List ℕ). NoMutationBetween t (data_version p.name) p.name.max_block h) named.0 stand.0.stands.whole n is above le,
    wholes ps named.1 stand.1 same.1,
  )

  whole : NoMutationBetween table version high h
  whole = last_of_all (λ b. NoMutationBetween table version b h) first rest (wholes sources tables_here each_here agree_here)

  drawns : (ps : List CorePart) → AllByRecursion (λ (p : CorePart). p.table ≡ table) ps → AllByRecursion (PartStands h) ps → AllByRecursion (λ (p : CorePart). data_version p.name ≤ last_number table h) ps
  drawns [] named stand = tt
  drawns (p ∷ ps) named stand = (subst (λ (t : List ℕ). data_version p.name ≤ last_number t h) named.0 stand.0.stands.drawn, drawns ps named.1 stand.1)

  were : (ps : List CorePart) → AllByRecursion (λ (p : CorePart). p.table ≡ table) ps → AllByRecursion (PartStands h) ps → AllByRecursion (λ (name : PartName). WasMutated table name.mutation h) (names_of ps)
  were [] named stand = tt
  were (p ∷ ps) named stand = (subst (λ (t : List ℕ). WasMutated t p.name.mutation h) named.0 stand.0.mutated, were ps named.1 stand.1)

  least : IsNumberOfInsert table w low h
  least = subst (λ (v : Partition). IsNumberOfInsert table v low h) own.0 (subst (λ (t : List ℕ). IsNumberOfInsert t first.name.partition low h) tables_here.0 each_here.0.stands.least)

  greatests : (ps : List CorePart) → AllByRecursion (OfPartition w) ps → AllByRecursion (λ (p : CorePart). p.table ≡ table) ps → AllByRecursion (PartStands h) ps
      → AllByRecursion (λ (p : CorePart). IsNumberOfInsert table w p.name.max_block h) ps
  greatests [] mine named stand = tt
  greatests (p ∷ ps) mine named stand = (
    subst (λ (v : Partition). IsNumberOfInsert table v p.name.max_block h) mine.0 (subst (λ (t : List ℕ). IsNumberOfInsert t p.name.partition p.name.max_block h) named.0 stand.0.stands.greatest),
    greatests ps mine.1 named.1 stand.1,
  )

  greatest : IsNumberOfInsert table w high h
  greatest = last_of_all (λ n. IsNumberOfInsert table w n h) first rest (greatests sources own tables_here each_here)

  -- the part stands
  merged_stands : PartStands h part
  merged_stands =
      let order : first.name.min_block ≤ last.1 = run_order w drawn (ranges_in w front) (range_of first) (map range_of rest) (ranges_in w back) begin_here climbs_here apart once in
      record {
        schema = schema;
        there = there;
        mutated =
            let all = were sources tables_here each_here in
            subst (λ (name : PartName). WasMutated table name.mutation h) (sym name_is) (merged_was table h first.name (names_of rest) all.0 all.1);
        stands = record {
          order = omega (arith, order, low_is, high_is, last_is);
          least = subst (λ n. IsNumberOfInsert table w n h) (sym low_is) least;
          greatest = subst (λ n. IsNumberOfInsert table w n h) (sym high_is) greatest;
          drawn = version_holds (λ v. v ≤ last_number table h) (drawns sources tables_here each_here);
          whole = subst (λ b. NoMutationBetween table version b h) (sym high_is) whole;
          rising = m.leaves.rising;
          partly = partly;
        };
      }

  -- each number is in the blocks of one part
  once_here : (n : ℕ) → IsNumberOfInsert table w n h → count_by (has_block w n) (front ++ part ∷ back) ≡ 1
  once_here n is =
      let one : IsOf w 1 drawn n = of_full h table schema legal there (upto version) w n is in
      let mine : CorePart → Bool = λ p. same_partition p.name.partition w in
      let ranges : ranges_in w (front ++ part ∷ back) ≡ ranges_in w front ++ (low, last.1) ∷ ranges_in w back =
      ap (map range_of) (filter-append mine front (part ∷ back) ∙ ap (λ b. parts_in w front ++ cond b (part ∷ parts_in w back) (parts_in w back)) (same_itself w))
      ∙ (map-append range_of (parts_in w front) (part ∷ parts_in w back) ∙ ap₂ (λ (a b : ℕ). ranges_in w front ++ (a, b) ∷ ranges_in w back) low_is (high_is ∙ sym last_is)) in
      count_ranges w n (front ++ part ∷ back)
      ∙ (ap (count_by (holds n)) ranges ∙ run_swapped w drawn (ranges_in w front) (range_of first) (map range_of rest) (ranges_in w back) begin_here climbs_here apart once n one)

  once_apart : (v : Partition) (n : ℕ) → same_partition w v ≡ false → IsNumberOfInsert table v n h → count_by (has_block v n) (front ++ part ∷ back) ≡ 1
  once_apart v n other is =
      let one = stands.once v n is in
      let was = parts_append (has_block v n) front (sources ++ back) in
      let run = parts_append (has_block v n) sources back in
      let gone = count_other v w n sources other own in
      let now = parts_append (has_block v n) front (part ∷ back) in
      let new : count_by (has_block v n) (part ∷ back) ≡ count_by (has_block v n) (part ∷ []) + count_by (has_block v n) back = parts_append (has_block v n) (part ∷ []) back in
      let none = count_other v w n (part ∷ []) other (refl, tt) in
      omega (arith, one, was, run, gone, now, new, none)

  once_all : (v : Partition) (n : ℕ) → IsNumberOfInsert table v n h → count_by (has_block v n) (front ++ part ∷ back) ≡ 1
  once_all v n is = by (same_partition w v) refl
    where
      by : (b : Bool) → same_partition w v ≡ b → count_by (has_block v n) (front ++ part ∷ back) ≡ 1
      by true same =
          let one = partition_is w v same in
          subst (λ (u : Partition). count_by (has_block u n) (front ++ part ∷ back) ≡ 1) one (once_here n (subst (λ (u : Partition). IsNumberOfInsert table u n h) (sym one) is))
      by false other = once_apart v n other is

  run_stands : TableStands table (front ++ part ∷ back) h
  run_stands = record {
    own = All-from_recursion (λ (p : CorePart). p.table ≡ table) (front ++ part ∷ back) (all_swapped (λ (p : CorePart). p.table ≡ table) front sources back part tables refl);
    each = All-from_recursion (PartStands h) (front ++ part ∷ back) (all_swapped (PartStands h) front sources back part each merged_stands);
    once = once_all;
  }

  run_ordered : AreInBlockOrder (front ++ part ∷ back)
  run_ordered = order_swapped front first rest back part up (sym own.0) low_is

-- a run of neighbours may be replaced by the part that a merge makes of them
pub merged_stand : (h : History) (schema : Schema) (front sources back : List CorePart) (part : CorePart) → IsLegal h → schema_of part.table h ≡ Some schema → IsMergedPart h schema sources part
    → TableStands part.table (front ++ (sources ++ back)) h → AreInBlockOrder (front ++ (sources ++ back)) → TableStands part.table (front ++ part ∷ back) h
merged_stand h schema front [] back part legal there m stands up = let named : None ≡ Some part.name = m.named in cc
merged_stand h schema front (first ∷ rest) back part legal there m stands up = run_stands h schema part legal there front first rest back m stands up

pub merged_order : (h : History) (schema : Schema) (front sources back : List CorePart) (part : CorePart) → IsLegal h → schema_of part.table h ≡ Some schema → IsMergedPart h schema sources part
    → TableStands part.table (front ++ (sources ++ back)) h → AreInBlockOrder (front ++ (sources ++ back)) → AreInBlockOrder (front ++ part ∷ back)
merged_order h schema front [] back part legal there m stands up = let named : None ≡ Some part.name = m.named in cc
merged_order h schema front (first ∷ rest) back part legal there m stands up = run_ordered h schema part legal there front first rest back m stands up
