-- Where neighbours stand in the list of a table's parts, between which of them a mutation comes, and what a put makes of their names.
use Rattle.std.proofs.Common.{◌≡◌, ℕ, ◌+◌, ◌<◌, ◌≤◌, Bool, true, false, cond, List, [], ◌∷◌, ◌++◌, Option, Some, None, filter, length, get_or, set, take, drop, nat_eq, nat_lt, refl, sym, ap, ap₂, ◌∙◌, subst, append_assoc, length-append, length-drop, length-take-le, take-append-drop, arith, zero, suc, inl, inr, ◌⊎◌}
use Rattle.std.specs.Prelude.{◌↔◌, IfSome, IfNone, IsTrue}
use Rattle.std.specs.List.{AllByRecursion, AllWithin, fold}
use Rattle.std.specs.List.Sorted.{IsPartitionedBy}
use Rattle.std.specs.Ordering.{is_gt, is_lt, nat_cmp, ordering_then}
use Rattle.std.proofs.lemmas.Bool.{cases_lt}
use Rattle.std.proofs.lemmas.Bool.Decides.{nat_tests}
use Rattle.std.proofs.lemmas.List.Sorted.{sorted_far}
use Rattle.mt_base.specs.declared.partition.Partition.{Partition}
use Rattle.mt_base.specs.declared.partition.Partition.TheVariants.{Whole, Number}
use Rattle.mt_values.specs.declared.mutation.Mutation.{Mutation}
use Rattle.mt_values.specs.Tables.{same_partition}
use Rattle.part_history.proofs.MtModelSorting.{sorted_tail}
use Rattle.part_history.specs.part_name.declared.part.PartName.{PartName}
use Rattle.part_history.specs.part_name.Pending.{MayMerge, NoneParted}
use Rattle.part_history.specs.part_name.Merged.{joined_name, merged_of, raised, rewritten}
use Rattle.part_history.specs.declared.part.CorePart.{CorePart}
use Rattle.part_history.specs.Entered.{parts_after, parts_upto}
use Rattle.part_history.specs.Merges.{names_of}
use Rattle.part_history.specs.Parts.{AreInBlockOrder, block_cmp, partition_cmp, parts_in}
use Rattle.part_history.proofs.Ordered.{IsAfter, all_after, later_after, parts_parted}
use Rattle.part_history.proofs.Orders.{block_weak}
use Rattle.table_core.specs.declared.event.Sources.{Sources}
use Rattle.table_core.specs.declared.event.Task.TheVariants as task
use Rattle.table_core.specs.declared.store.Run.{Run}
use Rattle.table_core.specs.Steps.{HasNeighbours, name_made, sources_among}
use Rattle.table_core.specs.Store.{LiesIn, RunStands, parts_below}

-- ---- lists

pub take_front : {X : Type 0} (xs ys : List X) (n : ℕ) → n ≡ length xs → take n (xs ++ ys) ≡ xs
take_front [] ys zero is = refl
take_front [] ys (suc n) is = absurd (omega (arith, is))
take_front (x ∷ xs) ys zero is = absurd (omega (arith, is))
take_front (x ∷ xs) ys (suc n) is = ap (λ zs. x ∷ zs) (take_front xs ys n (omega (arith, is)))

pub drop_front : {X : Type 0} (xs ys : List X) (n : ℕ) → n ≡ length xs → drop n (xs ++ ys) ≡ ys
drop_front [] ys zero is = refl
drop_front [] ys (suc n) is = absurd (omega (arith, is))
drop_front (x ∷ xs) ys zero is = absurd (omega (arith, is))
drop_front (x ∷ xs) ys (suc n) is = drop_front xs ys n (omega (arith, is))

-- one item set, and those after it taken out up to an end
one_left : {X : Type 0} (xs : List X) (from next end : ℕ) (x : X) → next ≡ from + 1 → from < end → end ≤ length xs → take next (set xs from x) ++ drop end (set xs from x) ≡ take from xs ++ x ∷ drop end xs
one_left [] from next end x is some within = absurd (omega (arith, some, within))
one_left (y ∷ xs) from zero end x is some within = absurd (omega (arith, is))
one_left (y ∷ xs) from (suc next) zero x is some within = absurd (omega (arith, some))
one_left (y ∷ xs) zero (suc zero) (suc end) x is some within = refl
one_left (y ∷ xs) zero (suc (suc next)) (suc end) x is some within = absurd (omega (arith, is))
one_left (y ∷ xs) (suc from) (suc next) (suc end) x is some within = ap (λ zs. y ∷ zs) (one_left xs from next end x (omega (arith, is)) (omega (arith, some)) (omega (arith, within)))

pub run_replaced : {X : Type 0} (xs : List X) (from count : ℕ) (x : X) → 0 < count → from + count ≤ length xs → take (from + 1) (set xs from x) ++ drop (from + count) (set xs from x) ≡ take from xs ++ x ∷ drop (from + count) xs
run_replaced xs from count x some within = one_left xs from (from + 1) (from + count) x refl (omega (arith, some)) within

none_passes : {X : Type 0} (f : X → Bool) (xs : List X) → AllWithin (λ x. f x ≡ false) xs 0 (length xs) → filter f xs ≡ []
none_passes f [] back = refl
none_passes f (x ∷ xs) back =
    ap (λ b. cond b (x ∷ filter f xs) (filter f xs)) (back 0 x (omega arith) (omega arith)) ∙ none_passes f xs (λ k d low high. back (suc k) d (omega arith) (omega arith))

-- as many pass as stand before the first that does not, where none passes after it
pub front_length : {X : Type 0} (f : X → Bool) (xs : List X) (n : ℕ) → n ≤ length xs → AllWithin (λ x. f x ≡ true) xs 0 n → AllWithin (λ x. f x ≡ false) xs n (length xs) → n ≡ length (filter f xs)
front_length f [] zero within front back = refl
front_length f [] (suc n) within front back = absurd (omega arith)
front_length f (x ∷ xs) zero within front back = ap length (sym (none_passes f (x ∷ xs) back))
front_length f (x ∷ xs) (suc n) within front back =
    let more = front_length f xs n (omega arith) (λ k d low high. front (suc k) d (omega arith) (omega arith)) (λ k d low high. back (suc k) d (omega arith) (omega arith)) in
    let one : suc n ≡ length (x ∷ filter f xs) = omega (arith, more) in
    one ∙ sym (ap (λ b. length (cond b (x ∷ filter f xs) (filter f xs))) (front 0 x (omega arith) (omega arith)))

-- ---- the parts below a partition, of it, and after it

abbrev pub IsBelow : Partition → CorePart → Bool
IsBelow w p = is_gt (partition_cmp w p.name.partition)

-- a part that does not come before one of a partition that is not below some is not below it either
not_below_next : (w v u : Partition) (m n : ℕ) → is_gt (partition_cmp w v) ≡ false → is_lt (ordering_then (partition_cmp u v) (nat_cmp m n)) ≡ false → is_gt (partition_cmp w u) ≡ false
not_below_next Whole v Whole m n is up = refl
not_below_next Whole v (Number c) m n is up = refl
not_below_next (Number a) Whole u m n is up = cc
not_below_next (Number a) (Number b) Whole m n is up = cc
not_below_next (Number a) (Number b) (Number c) m n is up = grind (arith, nat_tests)

-- so in block order those below a partition come first
pub below_first : (w : Partition) (ps : List CorePart) → AreInBlockOrder ps → IsPartitionedBy (λ (p : CorePart). IsBelow w p) ps
below_first w ps up i j d below inside is = by (IsBelow w (get_or ps i d)) refl
  where
    by : (b : Bool) → IsBelow w (get_or ps i d) ≡ b → b ≡ true
    by true first = refl
    by false first =
        let p = get_or ps i d in
        let q = get_or ps j d in
        let later = not_below_next w p.name.partition q.name.partition q.name.min_block p.name.min_block first (sorted_far (λ a b. is_lt (block_cmp a b)) block_weak ps up i j d below inside) in
        let clash : true ≡ false = sym is ∙ later in
        cc

later_not_below : (w : Partition) (p : CorePart) (ps : List CorePart) → IsBelow w p ≡ false → AreInBlockOrder (p ∷ ps) → AllByRecursion (λ q. IsBelow w q ≡ false) ps
later_not_below w p [] is up = tt
later_not_below w p (q ∷ ps) is up =
    let next = not_below_next w p.name.partition q.name.partition q.name.min_block p.name.min_block is (up 0 p (omega arith) (omega arith)) in
    (next, later_not_below w q ps next (sorted_tail block_cmp p (q ∷ ps) up))

none_below : (w : Partition) (ps : List CorePart) → AllByRecursion (λ q. IsBelow w q ≡ false) ps → parts_below w ps ≡ []
none_below w [] all = refl
none_below w (p ∷ ps) all = ap (λ b. cond b (p ∷ parts_below w ps) (parts_below w ps)) all.0 ∙ none_below w ps all.1

-- of three tests one passes
abbrev IsOne : Bool → Bool → Bool → Type 0
IsOne true false false = Unit {0}
IsOne false true false = Unit {0}
IsOne false false true = Unit {0}
IsOne a b c = ⊥

one_as : (a b c x y z : Bool) → a ≡ x → b ≡ y → c ≡ z → IsOne x y z → IsOne a b c
one_as a b c x y z first second third one = subst (λ (u : Bool). IsOne u b c) (sym first) (subst (λ (u : Bool). IsOne x u c) (sym second) (subst (λ (u : Bool). IsOne x y u) (sym third) one))

one_kind : (v w : Partition) → IsOne (is_gt (partition_cmp w v)) (same_partition v w) (is_gt (partition_cmp v w))
one_kind Whole Whole = tt
one_kind Whole (Number n) = tt
one_kind (Number m) Whole = tt
one_kind (Number m) (Number n) = by (cases_lt m n) (cases_lt n m)
  where
    by : (m < n) ⊎ (n ≤ m) → (n < m) ⊎ (m ≤ n) → IsOne (is_gt (nat_cmp n m)) (nat_eq m n) (is_gt (nat_cmp m n))
    by (inl lt) other = one_as (is_gt (nat_cmp n m)) (nat_eq m n) (is_gt (nat_cmp m n)) true false false (grind (arith, nat_tests)) (grind (arith, nat_tests)) (grind (arith, nat_tests)) tt
    by (inr le) (inl lt) = one_as (is_gt (nat_cmp n m)) (nat_eq m n) (is_gt (nat_cmp m n)) false false true (grind (arith, nat_tests)) (grind (arith, nat_tests)) (grind (arith, nat_tests)) tt
    by (inr le) (inr ge) = one_as (is_gt (nat_cmp n m)) (nat_eq m n) (is_gt (nat_cmp m n)) false true false (grind (arith, nat_tests)) (grind (arith, nat_tests)) (grind (arith, nat_tests)) tt

none_in : (w : Partition) (ps : List CorePart) → AllByRecursion (λ q. IsAfter w q ≡ true) ps → parts_in w ps ≡ []
none_in w [] all = refl
none_in w (p ∷ ps) all = by (IsBelow w p) (same_partition p.name.partition w) (IsAfter w p) all.0 (one_kind p.name.partition w) (none_in w ps all.1)
  where
    by : (a b c : Bool) → c ≡ true → IsOne a b c → parts_in w ps ≡ [] → cond b (p ∷ parts_in w ps) (parts_in w ps) ≡ []
    by true false false is one rest = cc
    by false true false is one rest = cc
    by false false true is one rest = rest
    by true true c is one rest = absurd one
    by true false true is one rest = absurd one
    by false true true is one rest = absurd one
    by false false false is one rest = absurd one

-- parts in block order are those below a partition, then its own, and then those after it
pub parted_in_three : (w : Partition) (ps : List CorePart) → AreInBlockOrder ps → parts_below w ps ++ (parts_in w ps ++ parts_after w ps) ≡ ps
parted_in_three w [] up = refl
parted_in_three w (p ∷ ps) up = by (IsBelow w p) (same_partition p.name.partition w) (IsAfter w p) refl refl (one_kind p.name.partition w) (parted_in_three w ps (sorted_tail block_cmp p ps up))
  where
    by : (a b c : Bool) → IsBelow w p ≡ a → IsAfter w p ≡ c → IsOne a b c → parts_below w ps ++ (parts_in w ps ++ parts_after w ps) ≡ ps
        → (cond a (p ∷ parts_below w ps) (parts_below w ps)) ++ ((cond b (p ∷ parts_in w ps) (parts_in w ps)) ++ cond c (p ∷ parts_after w ps) (parts_after w ps)) ≡ p ∷ ps
    by true false false under over one rest = ap (λ (qs : List CorePart). p ∷ qs) rest
    by false true false under over one rest =
        let none : parts_below w ps ≡ [] = none_below w ps (later_not_below w p ps under up) in
        ap (λ (qs : List CorePart). qs ++ p ∷ (parts_in w ps ++ parts_after w ps)) none
        ∙ ap (λ (qs : List CorePart). p ∷ qs) (sym (ap (λ (qs : List CorePart). qs ++ (parts_in w ps ++ parts_after w ps)) none) ∙ rest)
    by false false true under over one rest =
        let all = (later_after w p ps over up).1 in
        ap₂ (λ (xs ys : List CorePart). xs ++ (ys ++ p ∷ parts_after w ps)) (none_below w ps (later_not_below w p ps under up)) (none_in w ps all)
        ∙ ap (λ (qs : List CorePart). p ∷ qs) (all_after w ps all)
    by true true c under over one rest = absurd one
    by true false true under over one rest = absurd one
    by false true true under over one rest = absurd one
    by false false false under over one rest = absurd one

-- where the parts of a partition end
upto_length : (w : Partition) (ps : List CorePart) → AreInBlockOrder ps → length (parts_upto w ps) ≡ length (parts_below w ps) + length (parts_in w ps)
upto_length w ps up =
    let two = ap length (parts_parted w ps up) in
    let three = ap length (parted_in_three w ps up) in
    let a = length-append (parts_upto w ps) (parts_after w ps) in
    let b = length-append (parts_below w ps) (parts_in w ps ++ parts_after w ps) in
    let c = length-append (parts_in w ps) (parts_after w ps) in
    omega (arith, two, three, a, b, c)

pub end_is : (w : Partition) (ps : List CorePart) (start end : ℕ) → AreInBlockOrder ps → start ≡ length (parts_below w ps) → end ≤ length ps → take end ps ≡ parts_upto w ps → end ≡ start + length (parts_in w ps)
end_is w ps start end up from within front =
    let taken = length-take-le end ps within in
    let same = ap length front in
    let many = upto_length w ps up in
    omega (arith, taken, same, many, from)

-- ---- the sources of a merge

-- the sources stand after those below their partition and those of it before the first
pub sources_stand : (ps : List CorePart) (m : Sources) (run : Run) → AreInBlockOrder ps → HasNeighbours ps m → run.from ≡ length (parts_below m.partition ps) + m.first → run.count ≡ m.count → RunStands ps m run
sources_stand ps m run up has from count = record {
  there = has;
  front = below ++ take m.first own;
  back = drop m.count (drop m.first own) ++ after;
  parts_are =
      sym (parted_in_three m.partition ps up)
      ∙ (ap (λ (xs : List CorePart). below ++ (xs ++ after)) (sym (take-append-drop m.first own))
      ∙ (ap (λ (xs : List CorePart). below ++ ((take m.first own ++ xs) ++ after)) (sym (take-append-drop m.count (drop m.first own)))
      ∙ (ap (λ (xs : List CorePart). below ++ xs) (append_assoc (take m.first own) (sources_among ps m ++ drop m.count (drop m.first own)) after)
      ∙ (ap (λ (xs : List CorePart). below ++ (take m.first own ++ xs)) (append_assoc (sources_among ps m) (drop m.count (drop m.first own)) after)
      ∙ sym (append_assoc below (take m.first own) (sources_among ps m ++ (drop m.count (drop m.first own) ++ after)))))));
  from_is =
      let within : m.first + m.count ≤ length own = has.within in
      let start : run.from ≡ length below + m.first = from in
      let taken : length (take m.first own) ≡ m.first = length-take-le m.first own (omega (arith, within)) in
      let sum : length (below ++ take m.first own) ≡ length below + length (take m.first own) = length-append below (take m.first own) in
      omega (arith, taken, sum, start);
  count_is = count;
}
  where
    below : List CorePart
    below = parts_below m.partition ps

    own : List CorePart
    own = parts_in m.partition ps

    after : List CorePart
    after = parts_after m.partition ps

pub sources_length : (ps : List CorePart) (m : Sources) → HasNeighbours ps m → length (sources_among ps m) ≡ m.count
sources_length ps m has =
    let within = has.within in
    let rest = length-drop m.first (parts_in m.partition ps) in
    length-take-le m.count (drop m.first (parts_in m.partition ps)) (omega (arith, rest, within))

pub run_lies : (ps : List CorePart) (m : Sources) (run : Run) → RunStands ps m run → LiesIn run ps
run_lies ps m run at =
    let many = sources_length ps m at.there in
    let all = ap length at.parts_are in
    let a = length-append at.front (sources_among ps m ++ at.back) in
    let b = length-append (sources_among ps m) at.back in
    record {
      some = omega (arith, at.count_is, at.there.some);
      within = omega (arith, many, all, a, b, at.from_is, at.count_is);
    }

-- the sources are what the run has
pub run_is : (ps : List CorePart) (m : Sources) (run : Run) → RunStands ps m run → take run.count (drop run.from ps) ≡ sources_among ps m
run_is ps m run at =
    let many = sources_length ps m at.there in
    ap (λ (xs : List CorePart). take run.count xs) (ap (drop run.from) at.parts_are ∙ drop_front at.front (sources_among ps m ++ at.back) run.from at.from_is)
    ∙ take_front (sources_among ps m) at.back run.count (omega (arith, many, at.count_is))

-- one part in their place
pub run_swapped : (ps : List CorePart) (m : Sources) (run : Run) (at : RunStands ps m run) (part : CorePart) → take run.from ps ++ part ∷ drop (run.from + run.count) ps ≡ at.front ++ part ∷ at.back
run_swapped ps m run at part =
    let many = sources_length ps m at.there in
    let sources = sources_among ps m in
    let sum = length-append at.front sources in
    ap₂ (λ (xs ys : List CorePart). xs ++ part ∷ ys)
    (ap (take run.from) at.parts_are ∙ take_front at.front (sources ++ at.back) run.from at.from_is)
    (ap (drop (run.from + run.count)) (at.parts_are ∙ sym (append_assoc at.front sources at.back)) ∙ drop_front (at.front ++ sources) at.back (run.from + run.count) (omega (arith, many, sum, at.from_is, at.count_is)))

-- ---- the name of a merge

-- of no parts there is no name
pub merge_none : (sources : List CorePart) → length sources ≡ 0 → (name : PartName) → merged_of (names_of sources) ≡ Some name → 4294967295 < name.level
merge_none [] none name named = let both : None ≡ Some name = named in cc
merge_none (p ∷ ps) none name named = absurd (omega (arith, none))

-- what is said where there is none
pub if_none : {X : Type 0} (r : Option X) (P : Type 0) → P → IfNone r P
if_none None P p = p
if_none (Some x) P p = tt

-- the name of one part more
pub joined_more : (first : PartName) (ps : List CorePart) (i : ℕ) (d : CorePart) → i < length ps → fold joined_name first (names_of (take (i + 1) ps)) ≡ joined_name (fold joined_name first (names_of (take i ps))) (get_or ps i d).name
joined_more first [] i d lt = absurd (omega (arith, lt))
joined_more first (p ∷ ps) zero d lt = refl
joined_more first (p ∷ ps) (suc i) d lt =
    let next : suc i + 1 ≡ suc (i + 1) = omega arith in
    ap (λ n. fold joined_name first (names_of (take n (p ∷ ps)))) next ∙ joined_more (joined_name first p.name) ps i d (omega (arith, lt))

-- a name as it is raised
abbrev pub RaisedBy : PartName → Option PartName → Type 0
RaisedBy name r = r ≡ cond (nat_lt name.level 4294967295) (Some (raised name)) None

pub merge_named : (sources : List CorePart) (first : CorePart) (rest : List CorePart) (r : Option PartName) → sources ≡ first ∷ rest → RaisedBy (fold joined_name first.name (names_of rest)) r
    → IfSome r (λ name. (merged_of (names_of sources) ≡ Some name) × (name.level ≤ 4294967295))
merge_named sources first rest r are is = by (nat_lt joined.level 4294967295) refl r is
  where
    joined : PartName
    joined = fold joined_name first.name (names_of rest)

    by : (b : Bool) → nat_lt joined.level 4294967295 ≡ b → (r : Option PartName) → r ≡ cond b (Some (raised joined)) None → IfSome r (λ name. (merged_of (names_of sources) ≡ Some name) × (name.level ≤ 4294967295))
    by true low None is = cc
    by true low (Some name) is =
        let same : name ≡ raised joined = cc in
        let level : joined.level < 4294967295 = grind (arith, nat_tests, low) in
        let up : name.level ≡ joined.level + 1 = ap (λ (n : PartName). n.level) same in
        (ap (λ (ps : List CorePart). merged_of (names_of ps)) are ∙ ap Some (sym same), omega (arith, level, up))
    by false low None is = tt
    by false low (Some name) is = cc

pub merge_unnamed : (sources : List CorePart) (first : CorePart) (rest : List CorePart) (r : Option PartName) → sources ≡ first ∷ rest → RaisedBy (fold joined_name first.name (names_of rest)) r
    → IfNone r ((name : PartName) → merged_of (names_of sources) ≡ Some name → 4294967295 < name.level)
merge_unnamed sources first rest r are is = by (nat_lt joined.level 4294967295) refl r is
  where
    joined : PartName
    joined = fold joined_name first.name (names_of rest)

    by : (b : Bool) → nat_lt joined.level 4294967295 ≡ b → (r : Option PartName) → r ≡ cond b (Some (raised joined)) None → IfNone r ((name : PartName) → merged_of (names_of sources) ≡ Some name → 4294967295 < name.level)
    by true low None is = cc
    by true low (Some name) is = tt
    by false low (Some name) is = tt
    by false low None is = λ name named.
        let both : Some (raised joined) ≡ Some name = sym (ap (λ (ps : List CorePart). merged_of (names_of ps)) are) ∙ named in
        let same : raised joined ≡ name = cc in
        let level : 4294967295 ≤ joined.level = grind (arith, nat_tests, low) in
        let up : joined.level + 1 ≡ name.level = ap (λ (n : PartName). n.level) same in
        omega (arith, level, up)

-- what is said of one thing where it says another
pub none_weaker : {X : Type 0} {P Q : Type 0} (r : Option X) → (P → Q) → IfNone r P → IfNone r Q
none_weaker None f p = f p
none_weaker (Some x) f p = tt

-- ---- the name of what a rewrite makes

pub rewrite_unnamed : (sources : List CorePart) (upto : ℕ) → (length sources ≡ 1 → ⊥) → None ≡ name_made (task.Rewrite upto) (names_of sources)
rewrite_unnamed [] upto not = refl
rewrite_unnamed (p ∷ []) upto not = absurd (not refl)
rewrite_unnamed (p ∷ q ∷ ps) upto not = refl

pub rewrite_named : (sources : List CorePart) (upto : ℕ) (first : CorePart) (name : PartName) → length sources ≡ 1 → name ≡ rewritten (get_or sources 0 first).name upto → Some name ≡ name_made (task.Rewrite upto) (names_of sources)
rewrite_named [] upto first name one is = absurd (omega (arith, one))
rewrite_named (p ∷ []) upto first name one is = ap Some is
rewrite_named (p ∷ q ∷ ps) upto first name one is = absurd (omega (arith, one))

-- every level fits where a rewrite leaves it as it is
pub rewrite_fits : (r o : Option PartName) → r ≡ o → IfSome r (λ name. (o ≡ Some name) × Unit {0})
rewrite_fits None o is = tt
rewrite_fits (Some name) o is = (sym is, tt)

pub rewrite_none : (r o : Option PartName) → r ≡ o → IfNone r ((name : PartName) → o ≡ Some name → Unit {0} → ⊥)
rewrite_none None o is = λ name named fits. let both : None ≡ Some name = is ∙ named in cc
rewrite_none (Some name) o is = tt

-- ---- parts between which no mutation comes

dropped_at : (ps : List CorePart) (i : ℕ) (d : CorePart) → i < length ps → drop i ps ≡ get_or ps i d ∷ drop (i + 1) ps
dropped_at [] i d lt = absurd (omega (arith, lt))
dropped_at (p ∷ ps) zero d lt = refl
dropped_at (p ∷ ps) (suc i) d lt =
    let next : suc (i + 1) ≡ suc i + 1 = omega arith in
    dropped_at ps i d (omega (arith, lt)) ∙ ap (λ (n : ℕ). get_or ps i d ∷ drop n (p ∷ ps)) next

dropped_none : (ps : List CorePart) (i : ℕ) → length ps ≤ i → drop i ps ≡ []
dropped_none [] zero all = refl
dropped_none [] (suc i) all = refl
dropped_none (p ∷ ps) zero all = absurd (omega (arith, all))
dropped_none (p ∷ ps) (suc i) all = dropped_none ps i (omega (arith, all))

-- no part is parted exactly where none of the last of the first ones and those after it is
abbrev pub AsRest : List Mutation → List CorePart → PartName → List CorePart → Type 0
AsRest ms sources last rest = NoneParted ms (names_of sources) ↔ NoneParted ms (last ∷ names_of rest)

pub none_parted_first : (ms : List Mutation) (sources : List CorePart) → length sources ≡ 0 → (IsTrue true ↔ NoneParted ms (names_of sources))
none_parted_first ms [] none = ((λ yes. tt), (λ is. refl))
none_parted_first ms (p ∷ ps) none = absurd (omega (arith, none))

pub none_parted_begun : (ms : List Mutation) (sources rest : List CorePart) (first : CorePart) → sources ≡ first ∷ rest → AsRest ms sources first.name rest
none_parted_begun ms sources rest first are = subst (λ (ps : List CorePart). AsRest ms ps first.name rest) (sym are) ((λ is. is), (λ is. is))

-- the same of those from a part on
rest_at : (ms : List Mutation) (sources rest : List CorePart) (last : PartName) (i : ℕ) (part : CorePart) → i < length rest → part ≡ get_or rest i part → AsRest ms sources last (drop i rest)
    → AsRest ms sources last (part ∷ drop (i + 1) rest)
rest_at ms sources rest last i part lt at both =
    subst (AsRest ms sources last) (dropped_at rest i part lt ∙ ap (λ (p : CorePart). p ∷ drop (i + 1) rest) (sym at)) both

pub none_parted_next : (ms : List Mutation) (sources rest : List CorePart) (last : PartName) (i : ℕ) (part : CorePart) → i < length rest → part ≡ get_or rest i part → AsRest ms sources last (drop i rest)
    → MayMerge ms last part.name → AsRest ms sources part.name (drop (i + 1) rest)
none_parted_next ms sources rest last i part lt at both may =
    let now = rest_at ms sources rest last i part lt at both in
    ((λ is. (now.0 is).1), (λ is. now.1 (may, is)))

pub none_parted_not : (ms : List Mutation) (sources rest : List CorePart) (last : PartName) (i : ℕ) (part : CorePart) → i < length rest → part ≡ get_or rest i part → AsRest ms sources last (drop i rest)
    → (MayMerge ms last part.name → ⊥) → (IsTrue false ↔ NoneParted ms (names_of sources))
none_parted_not ms sources rest last i part lt at both not =
    let now = rest_at ms sources rest last i part lt at both in
    ((λ yes. cc), (λ is. absurd (not (now.0 is).0)))

pub none_parted_end : (ms : List Mutation) (sources rest : List CorePart) (last : PartName) (i : ℕ) → length rest ≤ i → AsRest ms sources last (drop i rest) → (IsTrue true ↔ NoneParted ms (names_of sources))
none_parted_end ms sources rest last i all both =
    let now = subst (AsRest ms sources last) (dropped_none rest i all) both in
    ((λ yes. now.1 tt), (λ is. refl))
