-- A run among the parts of its partition: where it stands, what stands there once others are put in its place, and that a name stands at one
-- place alone.
use Rattle.std.proofs.Common.{◌≡◌, ◌⊎◌, inl, inr, ℕ, ◌+◌, ◌-◌, ◌<◌, ◌≤◌, Bool, true, false, cond, List, [], ◌∷◌, ◌++◌, filter, get_or, length, map, take, drop, refl, sym, ap, ap₂, ◌∙◌, subst, arith}
use Rattle.std.proofs.Math.Seq.{drop-append-add, drop-append_seam, take-append_seam}
use Rattle.std.proofs.lemmas.Bool.{cases_lt, false≢true}
use Rattle.std.proofs.lemmas.Bool.Decides.{nat_tests}
use Rattle.std.proofs.lemmas.List.{append-nil, append_assoc, drop-append-le, drop-drop, get_or-append-add, get_or-drop, get_or-map, get_or-take, get_or_append_left, get_or_default, length-append, length-drop, length-map, length-take-le, take-append-drop, take-append-le}
use Rattle.std.proofs.lemmas.List.Elements.{All-cons, All-contains, All-drop, All-filter, All-head, All-map, All-nil, All-tail, All-take, Contains-append_right, Contains-get_or, filter-append, filter_passes}
use Rattle.std.proofs.lemmas.List.Kept.{AllPairs-filter}
use Rattle.std.specs.List.{All, Contains as HasItem}
use Rattle.mt_base.specs.declared.partition.Partition.{Partition}
use Rattle.mt_base.specs.declared.partition.Partition.TheVariants.{Whole, Number}
use Rattle.mt_values.specs.Tables.{same_partition}
use Rattle.root_commits.specs.part_name.declared.part.PartName.{PartName}
use Rattle.root_commits.specs.part_set.declared.kept.Kept.{Kept}
use Rattle.root_commits.specs.part_set.declared.run.Run.{Run}
use Rattle.root_commits.specs.part_set.Parts.{IsInBlockOrder, StandsClear, kept_in, partition_rank}
use Rattle.root_commits.specs.part_set.Runs.{EndsInOrder, IsBusyRun, IsMarked, IsRun, parts_of_run, with_mark}
use Rattle.root_commits.proofs.PartSetItems.{item_first}
use Rattle.root_commits.proofs.PartSetOrders.{block_low}
use Rattle.root_commits.proofs.PartSetSwaps.{marked_names, named_ordered, pairs_across, pairs_back, run_parts}

-- ---- lists

-- a list all of which passes is what a filter keeps of it
all_pass : {X : Type 0} (p : X → Bool) (xs : List X) → All (λ x. p x ≡ true) xs → filter p xs ≡ xs
all_pass p [] all = refl
all_pass {X} p (x ∷ xs) all = by (p x) (All-head (λ y. p y ≡ true) x xs all) (all_pass p xs (All-tail (λ y. p y ≡ true) x xs all))
  where
    by : (b : Bool) → b ≡ true → filter p xs ≡ xs → cond b (x ∷ filter p xs) (filter p xs) ≡ x ∷ xs
    by true passes rest = ap (λ (ys : List X). x ∷ ys) rest
    by false passes rest = cc

none_pass : {X : Type 0} (p : X → Bool) (xs : List X) → All (λ x. p x ≡ false) xs → filter p xs ≡ []
none_pass p [] all = refl
none_pass {X} p (x ∷ xs) all = by (p x) (All-head (λ y. p y ≡ false) x xs all) (none_pass p xs (All-tail (λ y. p y ≡ false) x xs all))
  where
    by : (b : Bool) → b ≡ false → filter p xs ≡ [] → cond b (x ∷ filter p xs) (filter p xs) ≡ []
    by true passes rest = cc
    by false passes rest = rest

-- one of some elements
pub some_item : {X : Type 0} (xs : List X) → 0 < length xs → X
some_item [] some = absurd (omega (arith, some))
some_item (x ∷ xs) some = x

-- the first of some elements, where others stand before them and after them
first_at : {X : Type 0} (xs ks us : List X) (d : X) → 0 < length ks → get_or (xs ++ (ks ++ us)) (length xs) d ≡ get_or ks 0 d
first_at xs ks us d some =
    let none : length xs ≡ length xs + 0 = omega arith in
    ap (λ (n : ℕ). get_or (xs ++ (ks ++ us)) n d) none ∙ (get_or-append-add xs (ks ++ us) 0 d ∙ get_or_append_left ks us d 0 some)

-- ---- partitions

pub partition_itself : (p : Partition) → same_partition p p ≡ true
partition_itself Whole = refl
partition_itself (Number n) = grind (arith, nat_tests)

pub partition_is : (p q : Partition) → same_partition p q ≡ true → p ≡ q
partition_is Whole Whole is = refl
partition_is Whole (Number n) is = absurd (false≢true is)
partition_is (Number m) Whole is = absurd (false≢true is)
partition_is (Number m) (Number n) is = let same : m ≡ n = grind (arith, is, nat_tests) in ap Number same

module _ {P : Type 0} where
  abbrev Clear : Kept P → Kept P → Type 0
  Clear a b = StandsClear a.name b.name

  abbrev name_of : Kept P → PartName
  name_of k = k.name

  abbrev pub own_of : Partition → Kept P → Bool
  own_of p k = same_partition k.name.partition p

  -- ---- one name, one place

  -- no part stands clear before one of its name
  pub not_clear : (a b : Kept P) → EndsInOrder a → a.name ≡ b.name → Clear a b → ⊥
  not_clear a b long same clear =
      let first : a.name.min_block ≡ b.name.min_block = ap (λ (n : PartName). n.min_block) same in
      let last : a.name.max_block ≡ b.name.max_block = ap (λ (n : PartName). n.max_block) same in
      clear.apart (record { partition = ap (λ (n : PartName). n.partition) same; low = omega (arith, long, last); high = omega (arith, long, first) })

  module _ (parts : List (Kept P)) (ordered : IsInBlockOrder parts) (long : All EndsInOrder parts) where
    not_later : (i j : ℕ) (d : Kept P) → i < j → j < length parts → (get_or parts i d).name ≡ (get_or parts j d).name → ⊥
    not_later i j d less inside same = not_clear (get_or parts i d) (get_or parts j d) (long i d (omega (arith, less, inside))) same (ordered i j d less inside)

    one_place : (i j : ℕ) (d : Kept P) → i < length parts → j < length parts → (get_or parts i d).name ≡ (get_or parts j d).name → i ≡ j
    one_place i j d in_i in_j same = elim (cases_lt i j) [
      | inl less ↦ absurd (not_later i j d less in_j same)
      | inr no_less ↦ elim (cases_lt j i) [ inl more ↦ absurd (not_later j i d more in_i (sym same)) | inr no_more ↦ omega (arith, no_less, no_more) ]
    ]

    -- two parts of one name are one part
    pub one_named : (a b : Kept P) → HasItem parts a → HasItem parts b → a.name ≡ b.name → a ≡ b
    one_named a b has_a has_b same =
        let there : get_or parts has_b.0 a ≡ b = get_or_default parts has_b.0 a b has_b.1 ∙ has_b.2 in
        let place : has_a.0 ≡ has_b.0 = one_place has_a.0 has_b.0 a has_a.1 has_b.1 (ap name_of has_a.2 ∙ (same ∙ sym (ap name_of there))) in
        sym has_a.2 ∙ (ap (λ (n : ℕ). get_or parts n a) place ∙ there)

  -- what stands before some parts and after them is told by these
  pub one_split : (ks xs us ys vs : List (Kept P)) → 0 < length ks → IsInBlockOrder (xs ++ (ks ++ us)) → All EndsInOrder (xs ++ (ks ++ us)) → xs ++ (ks ++ us) ≡ ys ++ (ks ++ vs) → (xs ≡ ys) × (us ≡ vs)
  one_split ks xs us ys vs some ordered long same =
      let d = some_item ks some in
      let first : get_or (xs ++ (ks ++ us)) (length xs) d ≡ get_or ks 0 d = first_at xs ks us d some in
      let second : get_or (xs ++ (ks ++ us)) (length ys) d ≡ get_or ks 0 d = ap (λ (l : List (Kept P)). get_or l (length ys) d) same ∙ first_at ys ks vs d some in
      let one : length (xs ++ (ks ++ us)) ≡ length xs + length (ks ++ us) = length-append xs (ks ++ us) in
      let two : length (ks ++ us) ≡ length ks + length us = length-append ks us in
      let three : length (ys ++ (ks ++ vs)) ≡ length ys + length (ks ++ vs) = length-append ys (ks ++ vs) in
      let four : length (ks ++ vs) ≡ length ks + length vs = length-append ks vs in
      let whole : length (xs ++ (ks ++ us)) ≡ length (ys ++ (ks ++ vs)) = ap (λ (l : List (Kept P)). length l) same in
      let place : length xs ≡ length ys =
      one_place (xs ++ (ks ++ us)) ordered long (length xs) (length ys) d (omega (arith, some, one, two)) (omega (arith, some, whole, three, four)) (ap name_of (first ∙ sym second)) in
      let front : xs ≡ ys =
      sym (take-append_seam xs (ks ++ us)) ∙ (ap (λ (l : List (Kept P)). take (length xs) l) same ∙ (ap (λ (n : ℕ). take n (ys ++ (ks ++ vs))) place ∙ take-append_seam ys (ks ++ vs))) in
      let rest : ks ++ us ≡ ks ++ vs =
      sym (drop-append_seam xs (ks ++ us)) ∙ (ap (λ (l : List (Kept P)). drop (length xs) l) same ∙ (ap (λ (n : ℕ). drop n (ys ++ (ks ++ vs))) place ∙ drop-append_seam ys (ks ++ vs))) in
      (front, sym (drop-append_seam ks us) ∙ (ap (λ (l : List (Kept P)). drop (length ks) l) rest ∙ drop-append_seam ks vs))

  -- ---- runs

  pub long_run : (run : Run) (parts : List (Kept P)) → IsRun run parts → length (parts_of_run run parts) ≡ run.count
  long_run run parts is =
      let within = is.within in
      let rest : length (drop run.first parts) ≡ length parts - run.first = length-drop run.first parts in
      length-take-le run.count (drop run.first parts) (omega (arith, within, rest))

  -- parts with marks have the names that they had
  pub marked_named : (busy : Bool) (ks : List (Kept P)) → map name_of (map (with_mark busy) ks) ≡ map name_of ks
  marked_named busy [] = refl
  marked_named busy (k ∷ ks) = ap (λ (ns : List PartName). k.name ∷ ns) (marked_named busy ks)

  pub all_marked : (busy : Bool) (ks : List (Kept P)) → All (λ (k : Kept P). k.busy ≡ busy) (map (with_mark busy) ks)
  all_marked busy ks = All-map (λ (k : Kept P). k.busy ≡ busy) (with_mark busy) ks (λ i d inside. refl)

  -- marks change no name
  pub names_marked : (p : Partition) (run : Run) (busy : Bool) (before after : List (Kept P)) → IsMarked p run busy before after → map name_of before ≡ map name_of after
  names_marked p run busy before after m =
      ap (λ (ks : List (Kept P)). map name_of ks) m.before_is ∙ (sym (marked_names busy m.front (parts_of_run run (kept_in p before)) m.back) ∙ ap (λ (ks : List (Kept P)). map name_of ks) (sym m.after_is))

  -- so the parts stood in order before they had marks
  pub ordered_before : (p : Partition) (run : Run) (busy : Bool) (before after : List (Kept P)) → IsMarked p run busy before after → IsInBlockOrder after → IsInBlockOrder before
  ordered_before p run busy before after m ordered = named_ordered after before (names_marked p run busy before after m) ordered

  -- and began no later than they ended
  pub named_long : (before after : List (Kept P)) → map name_of before ≡ map name_of after → All EndsInOrder after → All EndsInOrder before
  named_long before after same all i d inside =
      let count : length before ≡ length after = sym (length-map before name_of) ∙ (ap (λ (ns : List PartName). length ns) same ∙ length-map after name_of) in
      let there : i < length after = omega (arith, inside, count) in
      let at : (get_or after i d).name ≡ (get_or before i d).name =
      sym (get_or-map name_of after i d d.name there) ∙ (ap (λ (ns : List PartName). get_or ns i d.name) (sym same) ∙ get_or-map name_of before i d d.name inside) in
      subst (λ (n : PartName). n.min_block ≤ n.max_block) at (all i d there)

  -- of some parts those of a partition
  pub mine_ordered : (p : Partition) (parts : List (Kept P)) → IsInBlockOrder parts → IsInBlockOrder (kept_in p parts)
  mine_ordered p parts ordered = AllPairs-filter Clear (own_of p) parts ordered

  pub mine_long : (p : Partition) (parts : List (Kept P)) → All EndsInOrder parts → All EndsInOrder (kept_in p parts)
  mine_long p parts long = All-filter (own_of p) EndsInOrder parts long

  -- ---- others in the place of a run

  module _ (p : Partition) (run : Run) (before : List (Kept P)) (is_run : IsRun run (kept_in p before)) (ordered : IsInBlockOrder (kept_in p before)) (long : All EndsInOrder (kept_in p before)) where
    abbrev mine : List (Kept P)
    mine = kept_in p before

    abbrev sources : List (Kept P)
    sources = parts_of_run run mine

    pub some_sources : 0 < length sources
    some_sources = let same = long_run run mine is_run in let some = is_run.some in omega (arith, same, some)

    pub own_sources : All (λ (k : Kept P). own_of p k ≡ true) sources
    own_sources = All-take (λ (k : Kept P). own_of p k ≡ true) run.count (drop run.first mine) (All-drop (λ (k : Kept P). own_of p k ≡ true) run.first mine (filter_passes (own_of p) before))

    module _ (front back : List (Kept P)) (before_is : before ≡ front ++ (sources ++ back)) where
      filtered : (q : Partition) (others : List (Kept P)) → kept_in q (front ++ (others ++ back)) ≡ kept_in q front ++ (kept_in q others ++ kept_in q back)
      filtered q others = filter-append (own_of q) front (others ++ back) ∙ ap (λ (ks : List (Kept P)). kept_in q front ++ ks) (filter-append (own_of q) others back)

      own_all : (others : List (Kept P)) → All (λ (k : Kept P). own_of p k ≡ true) others → kept_in p (front ++ (others ++ back)) ≡ kept_in p front ++ (others ++ kept_in p back)
      own_all others own = filtered p others ∙ ap (λ (ks : List (Kept P)). kept_in p front ++ (ks ++ kept_in p back)) (all_pass (own_of p) others own)

      pub mine_is : mine ≡ kept_in p front ++ (sources ++ kept_in p back)
      mine_is = ap (kept_in p) before_is ∙ own_all sources own_sources

      sides : (kept_in p front ≡ take run.first mine) × (kept_in p back ≡ drop (run.first + run.count) mine)
      sides =
          one_split sources (kept_in p front) (kept_in p back) (take run.first mine) (drop (run.first + run.count) mine) some_sources (subst (λ (ks : List (Kept P)). IsInBlockOrder ks) mine_is ordered) (subst (All EndsInOrder) mine_is long)
          (sym mine_is ∙ run_parts run mine)

      module _ (others : List (Kept P)) (own : All (λ (k : Kept P). own_of p k ≡ true) others) where
        -- the parts of the partition are those before the run, the others, and those after it
        pub mine_now : kept_in p (front ++ (others ++ back)) ≡ take run.first mine ++ (others ++ drop (run.first + run.count) mine)
        mine_now = own_all others own ∙ ap₂ (λ (ks ls : List (Kept P)). ks ++ (others ++ ls)) sides.0 sides.1

        -- and those of another stay
        module _ (q : Partition) (apart : same_partition p q ≡ false) where
          foreign : (ks : List (Kept P)) → All (λ (k : Kept P). own_of p k ≡ true) ks → All (λ (k : Kept P). own_of q k ≡ false) ks
          foreign ks all i d inside =
              ap (λ (r : Partition). same_partition r q) (partition_is (get_or ks i d).name.partition p (all i d inside)) ∙ apart

          without : (ks : List (Kept P)) → All (λ (k : Kept P). own_of p k ≡ true) ks → kept_in q (front ++ (ks ++ back)) ≡ kept_in q front ++ kept_in q back
          without ks all = filtered q ks ∙ ap (λ (ls : List (Kept P)). kept_in q front ++ (ls ++ kept_in q back)) (none_pass (own_of q) ks (foreign ks all))

          pub foreign_stay : kept_in q (front ++ (others ++ back)) ≡ kept_in q before
          foreign_stay = without others own ∙ (sym (without sources own_sources) ∙ ap (kept_in q) (sym before_is))

    -- as many parts stand where the run stood
    pub run_now : (others : List (Kept P)) → length others ≡ run.count → parts_of_run run (take run.first mine ++ (others ++ drop (run.first + run.count) mine)) ≡ others
    run_now others as_many =
        let within = is_run.within in
        let front : length (take run.first mine) ≡ run.first = length-take-le run.first mine (omega (arith, within)) in
        ap (λ (n : ℕ). take run.count (drop n (take run.first mine ++ (others ++ drop (run.first + run.count) mine)))) (sym front)
        ∙ (ap (λ (ks : List (Kept P)). take run.count ks) (drop-append_seam (take run.first mine) (others ++ drop (run.first + run.count) mine))
        ∙ (ap (λ (n : ℕ). take n (others ++ drop (run.first + run.count) mine)) (sym as_many) ∙ take-append_seam others (drop (run.first + run.count) mine)))

    -- ---- marks

    module _ (busy : Bool) (after : List (Kept P)) (m : IsMarked p run busy before after) where
      abbrev marked : List (Kept P)
      marked = map (with_mark busy) sources

      pub marked_own : All (λ (k : Kept P). own_of p k ≡ true) marked
      marked_own = All-map (λ (k : Kept P). own_of p k ≡ true) (with_mark busy) sources own_sources

      pub mine_marked : kept_in p after ≡ take run.first mine ++ (marked ++ drop (run.first + run.count) mine)
      mine_marked = ap (kept_in p) m.after_is ∙ mine_now m.front m.back m.before_is marked marked_own

      -- the run has the same parts, with marks or without them
      pub run_marked : parts_of_run run (kept_in p after) ≡ marked
      run_marked = ap (parts_of_run run) mine_marked ∙ run_now marked (length-map sources (with_mark busy) ∙ long_run run mine is_run)

      pub is_run_marked : IsRun run (kept_in p after)
      is_run_marked =
          let within = is_run.within in
          let whole : length (kept_in p after) ≡ length (take run.first mine ++ (marked ++ drop (run.first + run.count) mine)) = ap (λ (ks : List (Kept P)). length ks) mine_marked in
          let one : length (take run.first mine ++ (marked ++ drop (run.first + run.count) mine)) ≡ length (take run.first mine) + length (marked ++ drop (run.first + run.count) mine) = length-append (take run.first mine) (marked ++ drop (run.first + run.count) mine) in
          let two : length (marked ++ drop (run.first + run.count) mine) ≡ length marked + length (drop (run.first + run.count) mine) = length-append marked (drop (run.first + run.count) mine) in
          let front : length (take run.first mine) ≡ run.first = length-take-le run.first mine (omega (arith, within)) in
          let run_is : length marked ≡ run.count = length-map sources (with_mark busy) ∙ long_run run mine is_run in
          record { some = is_run.some; within = omega (arith, whole, one, two, front, run_is) }

  -- ---- another run beside the one that others took the place of

  module _ (parts others : List (Kept P)) (run other : Run) (is_run : IsRun run parts) (is_other : IsRun other parts) where
    abbrev now : List (Kept P)
    now = take run.first parts ++ (others ++ drop (run.first + run.count) parts)

    front_long : length (take run.first parts) ≡ run.first
    front_long = let within = is_run.within in length-take-le run.first parts (omega (arith, within))

    -- it stands before that one
    pub stays_before : other.first + other.count ≤ run.first → IsRun other now × (parts_of_run other now ≡ parts_of_run other parts)
    stays_before before =
        let front = take run.first parts in
        let here : length front ≡ run.first = front_long in
        let some = is_other.some in
        let rest : length (drop other.first front) ≡ length front - other.first = length-drop other.first front in
        let whole : length now ≡ length front + length (others ++ drop (run.first + run.count) parts) = length-append front (others ++ drop (run.first + run.count) parts) in
        let cut = λ (ys : List (Kept P)). ap (λ (ks : List (Kept P)). take other.count ks) (drop-append-le other.first front ys (omega (arith, here, before))) ∙ take-append-le other.count (drop other.first front) ys (omega (arith, here, before, rest, some)) in (
          record { some = some; within = omega (arith, here, before, whole) },
          cut (others ++ drop (run.first + run.count) parts) ∙ (sym (cut (drop run.first parts)) ∙ ap (λ (ks : List (Kept P)). parts_of_run other ks) (take-append-drop run.first parts)),
        )

    -- or after it
    pub stays_after : run.first + run.count ≤ other.first → (again : Run) × IsRun again now × (parts_of_run again now ≡ parts_of_run other parts)
    stays_after after =
        let end = run.first + run.count in
        let front = take run.first parts ++ others in
        let back = drop end parts in
        let first : ℕ = length front + (other.first - end) in
        let joined : now ≡ front ++ back = sym (append_assoc (take run.first parts) others back) in
        let some = is_other.some in
        let within = is_other.within in
        let whole : length now ≡ length front + length back = ap (λ (ks : List (Kept P)). length ks) joined ∙ length-append front back in
        let rest : length back ≡ length parts - end = length-drop end parts in
        let place : end + (other.first - end) ≡ other.first = omega (arith, after) in (
          record { first = first; count = other.count },
          record { some = some; within = omega (arith, whole, rest, within, after, some) },
          ap (λ (ks : List (Kept P)). take other.count (drop first ks)) joined
              ∙ (ap (λ (ks : List (Kept P)). take other.count ks) (drop-append-add front back (other.first - end))
              ∙ (ap (λ (ks : List (Kept P)). take other.count ks) (drop-drop (other.first - end) end parts) ∙ ap (λ (n : ℕ). take other.count (drop n parts)) place)),
        )

    -- where both have no part in common it stands on one side
    pub on_a_side : ((k : Kept P) → HasItem (parts_of_run run parts) k → HasItem (parts_of_run other parts) k → ⊥) → (other.first + other.count ≤ run.first) ⊎ (run.first + run.count ≤ other.first)
    on_a_side apart = elim (cases_lt run.first (other.first + other.count)) [
      | inl begins ↦ elim (cases_lt other.first (run.first + run.count)) [
        | inl ends ↦ absurd (elim (cases_lt run.first other.first) [
          | inl later ↦ at other.first (omega (arith, later)) ends (omega arith) (omega (arith, is_other.some))
          | inr no_later ↦ at run.first (omega arith) (omega (arith, is_run.some)) (omega (arith, no_later)) begins
        ])
        | inr clear ↦ inr clear
      ]
      | inr clear ↦ inl clear
    ]
      where
        d : Kept P
        d = let some = is_run.some in let within = is_run.within in some_item parts (omega (arith, some, within))

        in_run : (r : Run) → IsRun r parts → (n : ℕ) → r.first ≤ n → n < r.first + r.count → HasItem (parts_of_run r parts) (get_or parts n d)
        in_run r is n low high =
            let i : ℕ = n - r.first in
            let long = long_run r parts is in
            let place : r.first + i ≡ n = omega (arith, low) in
            let less : i < r.count = omega (arith, low, high) in
            let there : get_or (parts_of_run r parts) i d ≡ get_or parts n d =
            get_or-take r.count (drop r.first parts) i d less ∙ (get_or-drop r.first parts i d ∙ ap (λ (m : ℕ). get_or parts m d) place) in
            subst (HasItem (parts_of_run r parts)) there (Contains-get_or (parts_of_run r parts) i d (omega (arith, long, less)))

        at : (n : ℕ) → run.first ≤ n → n < run.first + run.count → other.first ≤ n → n < other.first + other.count → ⊥
        at n low high low_other high_other = apart (get_or parts n d) (in_run run is_run n low high) (in_run other is_other n low_other high_other)

  -- a run stands on where others took the place of one that has no part in common with it
  module _ (p : Partition) (run : Run) (before after : List (Kept P)) (is_run : IsRun run (kept_in p before)) (ordered : IsInBlockOrder (kept_in p before)) (long : All EndsInOrder (kept_in p before))
      (front back middle : List (Kept P)) (before_is : before ≡ front ++ (parts_of_run run (kept_in p before) ++ back)) (after_is : after ≡ front ++ (middle ++ back)) (own : All (λ (k : Kept P). own_of p k ≡ true) middle)
      (names : List PartName) (o : Run) where
    abbrev Apart : Partition → Type 0
    Apart q = (k : Kept P) → HasItem (parts_of_run run (kept_in p before)) k → HasItem (parts_of_run o (kept_in q before)) k → ⊥

    abbrev StandsIn : Partition → Type 0
    StandsIn q = IsBusyRun o names (kept_in q before) → Apart q → (again : Run) × IsBusyRun again names (kept_in q after)

    again_busy : (again : Run) (ks : List (Kept P)) → IsRun again ks → parts_of_run again ks ≡ parts_of_run o (kept_in p before) → IsBusyRun o names (kept_in p before) → IsBusyRun again names ks
    again_busy again ks is same stands = record {
      is = is;
      named = ap (λ (ls : List (Kept P)). map name_of ls) same ∙ stands.named;
      busy = subst (All (λ (k : Kept P). k.busy ≡ true)) (sym same) stands.busy;
    }

    in_it : StandsIn p
    in_it stands apart =
        let parts = kept_in p before in
        let now : kept_in p after ≡ take run.first parts ++ (middle ++ drop (run.first + run.count) parts) = ap (kept_in p) after_is ∙ mine_now p run before is_run ordered long front back before_is middle own in
        elim (on_a_side parts middle run o is_run stands.is apart) [
          | inl earlier ↦ (
              let stays = stays_before parts middle run o is_run stands.is earlier in
              (o, subst (IsBusyRun o names) (sym now) (again_busy o (take run.first parts ++ (middle ++ drop (run.first + run.count) parts)) stays.0 stays.1 stands))
              )
          | inr later ↦ (
              let stays = stays_after parts middle run o is_run stands.is later in
              (stays.0, subst (IsBusyRun stays.0 names) (sym now) (again_busy stays.0 (take run.first parts ++ (middle ++ drop (run.first + run.count) parts)) stays.1 stays.2 stands))
              )
        ]

    pub stands_beside : (q : Partition) → StandsIn q
    stands_beside q = by (same_partition p q) refl
      where
        by : (b : Bool) → same_partition p q ≡ b → StandsIn q
        by true same = subst StandsIn (partition_is p q same) in_it
        by false other = λ stands apart.
            let now : kept_in q after ≡ kept_in q before = ap (kept_in q) after_is ∙ foreign_stay p run before is_run ordered long front back before_is middle own q other in
            (o, subst (IsBusyRun o names) (sym now) stands)

  -- ---- one part more

  -- a run of the first parts is one of all
  pub front_busy : (o : Run) (names : List PartName) (ks ms : List (Kept P)) → IsBusyRun o names ks → IsBusyRun o names (ks ++ ms)
  front_busy o names ks ms is =
      let some = is.is.some in
      let within = is.is.within in
      let rest : length (drop o.first ks) ≡ length ks - o.first = length-drop o.first ks in
      let whole : length (ks ++ ms) ≡ length ks + length ms = length-append ks ms in
      let cut : parts_of_run o (ks ++ ms) ≡ parts_of_run o ks =
      ap (λ (ls : List (Kept P)). take o.count ls) (drop-append-le o.first ks ms (omega (arith, within))) ∙ take-append-le o.count (drop o.first ks) ms (omega (arith, within, rest, some)) in
      record {
        is = record { some = some; within = omega (arith, within, whole) };
        named = ap (λ (ls : List (Kept P)). map name_of ls) cut ∙ is.named;
        busy = subst (All (λ (k : Kept P). k.busy ≡ true)) (sym cut) is.busy;
      }

  -- a part whose blocks come after those of all parts
  module _ (p : Partition) (before after : List (Kept P)) (k : Kept P) (place : ℕ) (is : after ≡ take place before ++ k ∷ drop place before) (ordered : IsInBlockOrder after) (own : k.name.partition ≡ p) (long : All EndsInOrder before)
      (last : All (λ (x : Kept P). x.name.max_block < k.name.min_block) before) where
    own_new : own_of p k ≡ true
    own_new = ap (λ (q : Partition). same_partition q p) own ∙ partition_itself p

    -- stands after those of its partition
    none_after : All (λ (x : Kept P). own_of p x ≡ false) (drop place before)
    none_after i d inside = by (own_of p x) refl
      where
        x : Kept P
        x = get_or (drop place before) i d

        here : HasItem (drop place before) x
        here = Contains-get_or (drop place before) i d inside

        in_before : HasItem before x
        in_before = subst (λ (ks : List (Kept P)). HasItem ks x) (take-append-drop place before) (Contains-append_right (take place before) (drop place before) x here)

        clear : Clear k x
        clear = pairs_across Clear (k ∷ []) (drop place before) (pairs_back Clear (take place before) (k ∷ drop place before) (subst (λ (ks : List (Kept P)). IsInBlockOrder ks) is ordered)) k x (item_first k []) here

        by : (b : Bool) → own_of p x ≡ b → b ≡ false
        by false other = refl
        by true mine =
            let same : partition_rank k.name.partition ≡ partition_rank x.name.partition = ap partition_rank (own ∙ sym (partition_is x.name.partition p mine)) in
            let low = block_low k.name x.name clear.order same in
            let ends : x.name.min_block ≤ x.name.max_block = All-contains EndsInOrder before x long in_before in
            let earlier : x.name.max_block < k.name.min_block = All-contains (λ (y : Kept P). y.name.max_block < k.name.min_block) before x last in_before in
            absurd (omega (arith, low, ends, earlier))

    filtered_after : (q : Partition) → kept_in q after ≡ kept_in q (take place before) ++ (kept_in q (k ∷ []) ++ kept_in q (drop place before))
    filtered_after q =
        ap (kept_in q) is ∙ (filter-append (own_of q) (take place before) (k ∷ drop place before) ∙ ap (λ (ks : List (Kept P)). kept_in q (take place before) ++ ks) (filter-append (own_of q) (k ∷ []) (drop place before)))

    filtered_before : (q : Partition) → kept_in q before ≡ kept_in q (take place before) ++ kept_in q (drop place before)
    filtered_before q = ap (kept_in q) (sym (take-append-drop place before)) ∙ filter-append (own_of q) (take place before) (drop place before)

    added_last : kept_in p after ≡ kept_in p before ++ k ∷ []
    added_last =
        let front = kept_in p (take place before) in
        let rest : kept_in p (drop place before) ≡ [] = none_pass (own_of p) (drop place before) none_after in
        let one : kept_in p (k ∷ []) ≡ k ∷ [] = all_pass (own_of p) (k ∷ []) (All-cons (λ (x : Kept P). own_of p x ≡ true) k [] own_new (All-nil (λ (x : Kept P). own_of p x ≡ true))) in
        let all : kept_in p before ≡ front = filtered_before p ∙ (ap (λ (ks : List (Kept P)). front ++ ks) rest ∙ append-nil front) in
        filtered_after p ∙ (ap₂ (λ (ks ls : List (Kept P)). front ++ (ks ++ ls)) one rest ∙ ap (λ (ks : List (Kept P)). ks ++ k ∷ []) (sym all))

    added_apart : (q : Partition) → same_partition p q ≡ false → kept_in q after ≡ kept_in q before
    added_apart q apart =
        let other : own_of q k ≡ false = ap (λ (r : Partition). same_partition r q) own ∙ apart in
        let none : kept_in q (k ∷ []) ≡ [] = none_pass (own_of q) (k ∷ []) (All-cons (λ (x : Kept P). own_of q x ≡ false) k [] other (All-nil (λ (x : Kept P). own_of q x ≡ false))) in
        filtered_after q ∙ (ap (λ (ks : List (Kept P)). kept_in q (take place before) ++ (ks ++ kept_in q (drop place before))) none ∙ sym (filtered_before q))

    -- so a run stands on
    pub stands_added : (q : Partition) (names : List PartName) (o : Run) → IsBusyRun o names (kept_in q before) → IsBusyRun o names (kept_in q after)
    stands_added q names o stands = by (same_partition p q) refl
      where
        by : (b : Bool) → same_partition p q ≡ b → IsBusyRun o names (kept_in q after)
        by false apart = subst (IsBusyRun o names) (sym (added_apart q apart)) stands
        by true same =
            subst (λ (r : Partition). IsBusyRun o names (kept_in r before) → IsBusyRun o names (kept_in r after)) (partition_is p q same)
            (λ here. subst (IsBusyRun o names) (sym added_last) (front_busy o names (kept_in p before) (k ∷ []) here)) stands
