-- A part in place of those of a run, and marks on the parts of a run.
use Rattle.std.proofs.Common.{◌≡◌, ℕ, ◌+◌, ◌-◌, ◌<◌, ◌≤◌, Bool, true, false, cond, List, [], ◌∷◌, ◌++◌, length, length-append, map, get_or, take, drop, append_assoc, slice_get, Some, refl, sym, ap, ◌∙◌, subst, inl, inr, arith}
use Rattle.std.proofs.lemmas.Bool.{cases_lt}
use Rattle.std.proofs.lemmas.List.{append-nil, drop-drop, drop_all, get_or-append-add, get_or-map, get_or_append_left, get_or_default, length-drop, length-map, length-take-le, map-append, take-append-drop, take_all}
use Rattle.std.proofs.lemmas.List.Elements.{All-append, All-cons, All-contains, All-drop, All-take, Contains-append_left, Contains-append_right, Contains-get_or}
use Rattle.std.proofs.lemmas.List.Kept.{AllPairs-cons}
use Rattle.std.proofs.lemmas.Option.{get_or_from_slice_get, slice_get_within}
use Rattle.std.proofs.lemmas.Simd.{map-map}
use Rattle.std.specs.List.{All, AllPairs, Contains as HasItem}
use Rattle.std.specs.Map.{lookup, set_value}
use Rattle.mt_base.specs.declared.partition.Partition.{Partition}
use Rattle.mt_base.specs.declared.partition.Partition.TheVariants.{Whole, Number}
use Rattle.part_name.specs.declared.part.PartName.{PartName}
use Rattle.part_set.specs.declared.kept.Kept.{Kept}
use Rattle.part_set.specs.declared.run.Run.{Run}
use Rattle.part_set.specs.Parts.{IsInBlockOrder, StandsClear, in_order, kept_in, partition_rank}
use Rattle.part_set.specs.Passes.{last_of}
use Rattle.part_set.specs.Runs.{EndsInOrder, IsMarked, IsSwapped, Spans, parts_of_run, with_mark}
use Rattle.part_set.specs.Shelf.{IsFiled, Shelf, all_parts}
use Rattle.part_set.proofs.Filed.{pairs_joined, some_is}
use Rattle.part_set.proofs.Items.{item_split}
use Rattle.part_set.proofs.Orders.{block_low, order_tested, partition_low}

-- ---- pairs of a list in two

module _ {X : Type 0} (R : X → X → Type 0) (xs ys : List X) (all : AllPairs R (xs ++ ys)) where
  pub pairs_front : AllPairs R xs
  pairs_front i j d less inside =
      subst (λ (a : X). R a (get_or xs j d)) (get_or_append_left xs ys d i (omega (arith, less, inside)))
      (subst (λ (b : X). R (get_or (xs ++ ys) i d) b) (get_or_append_left xs ys d j inside) (all i j d less (omega (arith, inside, length-append xs ys))))

  pub pairs_back : AllPairs R ys
  pairs_back i j d less inside =
      subst (λ (a : X). R a (get_or ys j d)) (get_or-append-add xs ys i d)
      (subst (λ (b : X). R (get_or (xs ++ ys) (length xs + i) d) b) (get_or-append-add xs ys j d) (all (length xs + i) (length xs + j) d (omega (arith, less)) (omega (arith, inside, length-append xs ys))))

  pub pairs_across : (x y : X) → HasItem xs x → HasItem ys y → R x y
  pairs_across x y has_x has_y =
      let to_x : get_or (xs ++ ys) has_x.0 x ≡ x = get_or_append_left xs ys x has_x.0 has_x.1 ∙ has_x.2 in
      let to_y : get_or (xs ++ ys) (length xs + has_y.0) x ≡ y = get_or-append-add xs ys has_y.0 x ∙ (get_or_default ys has_y.0 x y has_y.1 ∙ has_y.2) in
      subst (λ (a : X). R a y) to_x
      (subst (λ (b : X). R (get_or (xs ++ ys) has_x.0 x) b) to_y (all has_x.0 (length xs + has_y.0) x (omega (arith, has_x.1)) (omega (arith, has_y.1, length-append xs ys))))

-- ---- a name with the blocks of others

rank_is : (a b : Partition) → partition_rank a ≡ partition_rank b → a ≡ b
rank_is Whole Whole same = refl
rank_is Whole (Number n) same = absurd (omega (arith, same))
rank_is (Number m) Whole same = absurd (omega (arith, same))
rank_is (Number m) (Number n) same = let equal : m ≡ n = omega (arith, same) in ap Number equal

-- a part that stands clear before another stands clear before a name that begins as that one
clear_before : (a first name : PartName) → StandsClear a first → first.min_block ≤ first.max_block → name.partition ≡ first.partition → name.min_block ≡ first.min_block → StandsClear a name
clear_before a first name clear long partition begins = record {
  order = subst (λ (p : Partition). in_order a (record { partition = p; min_block = name.min_block; max_block = name.max_block; level = name.level; mutation = name.mutation }) ≡ true) (sym partition)
      (subst (λ (n : ℕ). in_order a (record { partition = first.partition; min_block = n; max_block = name.max_block; level = name.level; mutation = name.mutation }) ≡ true) (sym begins) clear.order);
  apart = λ both.
      let low = block_low a first clear.order (ap partition_rank (both.partition ∙ partition)) in
      clear.apart (record { partition = both.partition ∙ partition; low = omega (arith, low, long); high = omega (arith, both.high, begins) });
}

-- a name that ends as a part stands clear before what that part and the one with which the name begins stand clear before
clear_after : (first last b name : PartName) → in_order first b ≡ true → in_order first last ≡ true → StandsClear last b → b.min_block ≤ b.max_block
    → name.partition ≡ first.partition → name.min_block ≡ first.min_block → name.max_block ≡ last.max_block → StandsClear name b
clear_after first last b name order within clear long partition begins ends = record {
  order = subst (λ (p : Partition). in_order (record { partition = p; min_block = name.min_block; max_block = name.max_block; level = name.level; mutation = name.mutation }) b ≡ true) (sym partition)
      (subst (λ (n : ℕ). in_order (record { partition = first.partition; min_block = n; max_block = name.max_block; level = name.level; mutation = name.mutation }) b ≡ true) (sym begins) order);
  apart = λ both.
      let one : partition_rank first.partition ≡ partition_rank b.partition = ap partition_rank (sym partition ∙ both.partition) in
      let up = partition_low first last within in
      let down = partition_low last b clear.order in
      let same : partition_rank last.partition ≡ partition_rank b.partition = omega (arith, one, up, down) in
      let low = block_low last b clear.order same in
      clear.apart (record { partition = rank_is last.partition b.partition same; low = omega (arith, low, long); high = omega (arith, both.high, ends) });
}

pub order_itself : (a : PartName) → in_order a a ≡ true
order_itself a = order_tested a a (omega arith) (λ _. omega arith)

-- a shelf's parts among those of all shelves, before and after it is written anew
pub record IsWritten {P : Type 0} (v w : Shelf P) (before after : List (Kept P)) : Type 0 where
  pub front : List (Kept P)
  pub back : List (Kept P)
  pub before_is : before ≡ front ++ (v.parts ++ back)
  pub after_is : after ≡ front ++ (w.parts ++ back)

module _ {P : Type 0} where
  -- ---- a part in place of others

  -- the last of some parts is one of them, and the first stands before it or is it
  first_to_last : (parts : List (Kept P)) (first last : Kept P) → IsInBlockOrder parts → slice_get parts 0 ≡ Some first → last_of parts ≡ Some last → in_order first.name last.name ≡ true
  first_to_last parts first last ordered first_is last_is =
      let begin : get_or parts 0 first ≡ first = get_or_from_slice_get parts 0 first first first_is in
      let end : get_or parts (length parts - 1) first ≡ last = get_or_from_slice_get parts (length parts - 1) last first last_is in
      let some : 0 < length parts = slice_get_within parts 0 first first_is in
      elim (cases_lt 0 (length parts - 1)) [
        | inl less ↦ subst (λ (a : Kept P). in_order a.name last.name ≡ true) begin
            (subst (λ (b : Kept P). in_order (get_or parts 0 first).name b.name ≡ true) end (ordered 0 (length parts - 1) first less (omega (arith, some))).order)
        | inr not_less ↦ (
            let alone : length parts - 1 ≡ 0 = omega (arith, not_less) in
            let same : first ≡ last = sym begin ∙ (ap (λ (n : ℕ). get_or parts n first) (sym alone) ∙ end) in
            subst (λ (k : Kept P). in_order first.name k.name ≡ true) same (order_itself first.name)
            )
      ]

  module _ (front sources back : List (Kept P)) (k : Kept P) (ordered : IsInBlockOrder (front ++ (sources ++ back))) (named : All EndsInOrder (front ++ (sources ++ back))) (spans : Spans k.name sources) where
    rest_ordered : IsInBlockOrder (sources ++ back)
    rest_ordered = pairs_back (λ (a b : Kept P). StandsClear a.name b.name) front (sources ++ back) ordered

    has_first : HasItem sources spans.first
    has_first = (0, slice_get_within sources 0 spans.first spans.first_is, get_or_from_slice_get sources 0 spans.first spans.first spans.first_is)

    has_last : HasItem sources spans.last
    has_last = (length sources - 1, slice_get_within sources (length sources - 1) spans.last spans.last_is, get_or_from_slice_get sources (length sources - 1) spans.last spans.last spans.last_is)

    long : (x : Kept P) → HasItem (front ++ (sources ++ back)) x → x.name.min_block ≤ x.name.max_block
    long x has = All-contains EndsInOrder (front ++ (sources ++ back)) x named has

    within : in_order spans.first.name spans.last.name ≡ true
    within = first_to_last sources spans.first spans.last (pairs_front (λ (a b : Kept P). StandsClear a.name b.name) sources back rest_ordered) spans.first_is spans.last_is

    before_it : (a : Kept P) → HasItem front a → StandsClear a.name k.name
    before_it a has =
        clear_before a.name spans.first.name k.name
        (pairs_across (λ (x y : Kept P). StandsClear x.name y.name) front (sources ++ back) ordered a spans.first has (Contains-append_left sources back spans.first has_first))
        (long spans.first (Contains-append_right front (sources ++ back) spans.first (Contains-append_left sources back spans.first has_first))) spans.partition spans.begins

    after_it : (b : Kept P) → HasItem back b → StandsClear k.name b.name
    after_it b has =
        let across = pairs_across (λ (x y : Kept P). StandsClear x.name y.name) sources back rest_ordered in
        clear_after spans.first.name spans.last.name b.name k.name (across spans.first b has_first has).order within (across spans.last b has_last has)
        (long b (Contains-append_right front (sources ++ back) b (Contains-append_right sources back b has))) spans.partition spans.begins spans.ends

    -- the parts are in block order with the one in place of the others
    pub swapped_ordered : IsInBlockOrder (front ++ k ∷ back)
    swapped_ordered =
        pairs_joined (λ (a b : Kept P). StandsClear a.name b.name) front (k ∷ back)
        (pairs_front (λ (a b : Kept P). StandsClear a.name b.name) front (sources ++ back) ordered)
        (AllPairs-cons (λ (a b : Kept P). StandsClear a.name b.name) k back (λ i d inside. after_it (get_or back i d) (Contains-get_or back i d inside)) (pairs_back (λ (a b : Kept P). StandsClear a.name b.name) sources back rest_ordered))
        cross
      where
        cross : (a b : Kept P) → HasItem front a → HasItem (k ∷ back) b → StandsClear a.name b.name
        cross a b has_a has_b = elim (item_split k back b has_b) [
          | inl is ↦ subst (λ (x : Kept P). StandsClear a.name x.name) is (before_it a has_a)
          | inr has ↦ pairs_across (λ (x y : Kept P). StandsClear x.name y.name) front (sources ++ back) ordered a b has_a (Contains-append_right sources back b has)
        ]

  -- ---- the same names

  module _ (before after : List (Kept P)) (same : map (λ (k : Kept P). k.name) after ≡ map (λ (k : Kept P). k.name) before) where
    same_length : length after ≡ length before
    same_length = sym (length-map after (λ (k : Kept P). k.name)) ∙ (ap (λ (ns : List PartName). length ns) same ∙ length-map before (λ (k : Kept P). k.name))

    name_at : (i : ℕ) (d : Kept P) → i < length after → (get_or before i d).name ≡ (get_or after i d).name
    name_at i d inside =
        sym (get_or-map (λ (k : Kept P). k.name) before i d d.name (omega (arith, inside, same_length)))
        ∙ (ap (λ (ns : List PartName). get_or ns i d.name) (sym same) ∙ get_or-map (λ (k : Kept P). k.name) after i d d.name inside)

    -- parts of the same names are in the same order
    pub named_ordered : IsInBlockOrder before → IsInBlockOrder after
    named_ordered ordered i j d less inside =
        subst (λ (a : PartName). StandsClear a (get_or after j d).name) (name_at i d (omega (arith, less, inside)))
        (subst (λ (b : PartName). StandsClear (get_or before i d).name b) (name_at j d inside) (ordered i j d less (omega (arith, inside, same_length))))

    -- and of the same partitions
    pub named_mine : (n : ℕ) → All (λ (k : Kept P). partition_rank k.name.partition ≡ n) before → All (λ (k : Kept P). partition_rank k.name.partition ≡ n) after
    named_mine n mine i d inside = subst (λ (a : PartName). partition_rank a.partition ≡ n) (name_at i d inside) (mine i d (omega (arith, inside, same_length)))

  pub marked_names : (busy : Bool) (front mid back : List (Kept P)) → map (λ (k : Kept P). k.name) (front ++ (map (with_mark busy) mid ++ back)) ≡ map (λ (k : Kept P). k.name) (front ++ (mid ++ back))
  marked_names busy front mid back =
      map-append (λ (k : Kept P). k.name) front (map (with_mark busy) mid ++ back)
      ∙ (ap (λ (ns : List PartName). map (λ (k : Kept P). k.name) front ++ ns)
      (map-append (λ (k : Kept P). k.name) (map (with_mark busy) mid) back
      ∙ (ap (λ (ns : List PartName). ns ++ map (λ (k : Kept P). k.name) back) (map-map (λ (k : Kept P). k.name) (with_mark busy) mid) ∙ sym (map-append (λ (k : Kept P). k.name) mid back)))
      ∙ sym (map-append (λ (k : Kept P). k.name) front (mid ++ back)))

  -- ---- a run in its list

  -- the parts are those before the run, those of the run, and those after it
  pub run_parts : (run : Run) (parts : List (Kept P)) → parts ≡ take run.first parts ++ (parts_of_run run parts ++ drop (run.first + run.count) parts)
  run_parts run parts =
      sym (take-append-drop run.first parts)
      ∙ ap (λ (xs : List (Kept P)). take run.first parts ++ xs) (sym (take-append-drop run.count (drop run.first parts)) ∙ ap (λ (xs : List (Kept P)). parts_of_run run parts ++ xs) (drop-drop run.count run.first parts))

  -- what a list is after a run of it was written anew
  pub run_written : (parts mid : List (Kept P)) (first count whole : ℕ) → first + count ≤ length parts → length mid ≡ count → whole ≡ length parts
      → take whole ((take first parts ++ (mid ++ drop (length mid) (drop first parts))) ++ drop (length (take first parts ++ (mid ++ drop (length mid) (drop first parts)))) parts) ≡ take first parts ++ (mid ++ drop (first + count) parts)
  run_written parts mid first count whole within long all =
      let rest : drop (length mid) (drop first parts) ≡ drop (first + count) parts = drop-drop (length mid) first parts ∙ ap (λ (n : ℕ). drop (first + n) parts) long in
      let is : take first parts ++ (mid ++ drop (length mid) (drop first parts)) ≡ take first parts ++ (mid ++ drop (first + count) parts) = ap (λ (xs : List (Kept P)). take first parts ++ (mid ++ xs)) rest in
      let size : length (take first parts ++ (mid ++ drop (first + count) parts)) ≡ length parts =
      omega (arith, within, long, length-append (take first parts) (mid ++ drop (first + count) parts), length-append mid (drop (first + count) parts), length-take-le first parts (omega (arith, within)), length-drop (first + count) parts) in
      ap (λ (xs : List (Kept P)). take whole (xs ++ drop (length xs) parts)) is
      ∙ (ap (λ (xs : List (Kept P)). take whole ((take first parts ++ (mid ++ drop (first + count) parts)) ++ xs)) (drop_all (length (take first parts ++ (mid ++ drop (first + count) parts))) parts (omega (arith, size)))
      ∙ (ap (λ (xs : List (Kept P)). take whole xs) (append-nil (take first parts ++ (mid ++ drop (first + count) parts)))
      ∙ take_all whole (take first parts ++ (mid ++ drop (first + count) parts)) (omega (arith, size, all))))

  -- the parts are in block order where a part that spans those of a run stands in place of them
  pub run_ordered : (run : Run) (parts : List (Kept P)) (k : Kept P) → IsInBlockOrder parts → All EndsInOrder parts → Spans k.name (parts_of_run run parts) → IsInBlockOrder (take run.first parts ++ k ∷ drop (run.first + run.count) parts)
  run_ordered run parts k ordered named spans =
      swapped_ordered (take run.first parts) (parts_of_run run parts) (drop (run.first + run.count) parts) k
      (subst (λ (xs : List (Kept P)). IsInBlockOrder xs) (run_parts run parts) ordered) (subst (All EndsInOrder) (run_parts run parts) named) spans

  -- and where those of a run bear a mark
  pub marked_ordered : (run : Run) (busy : Bool) (parts : List (Kept P)) → IsInBlockOrder parts → IsInBlockOrder (take run.first parts ++ (map (with_mark busy) (parts_of_run run parts) ++ drop (run.first + run.count) parts))
  marked_ordered run busy parts ordered =
      named_ordered parts (take run.first parts ++ (map (with_mark busy) (parts_of_run run parts) ++ drop (run.first + run.count) parts))
      (marked_names busy (take run.first parts) (parts_of_run run parts) (drop (run.first + run.count) parts) ∙ ap (λ (xs : List (Kept P)). map (λ (k : Kept P). k.name) xs) (sym (run_parts run parts))) ordered

  -- ---- a shelf among all

  pub set_written : (test : ℕ → Bool) (v w : Shelf P) (es : List (ℕ × Shelf P)) → lookup test es ≡ Some v → IsWritten v w (all_parts es) (all_parts (set_value test es w))
  set_written test v w [] found = absurd cc
  set_written test v w (e ∷ es) found = by (test e.0) found (λ later. set_written test v w es later)
    where
      by : (b : Bool) → cond b (Some e.1) (lookup test es) ≡ Some v → (lookup test es ≡ Some v → IsWritten v w (all_parts es) (all_parts (set_value test es w))) → IsWritten v w (all_parts (e ∷ es)) (all_parts (cond b ((e.0, w) ∷ es) (e ∷ set_value test es w)))
      by true found rest = record {
        front = [];
        back = all_parts es;
        before_is = ap (λ (s : Shelf P). s.parts ++ all_parts es) (some_is e.1 v found);
        after_is = refl;
      }
      by false found rest = (
          let later = rest found in
          record {
            front = e.1.parts ++ later.front;
            back = later.back;
            before_is = ap (λ (xs : List (Kept P)). e.1.parts ++ xs) later.before_is ∙ sym (append_assoc e.1.parts later.front (v.parts ++ later.back));
            after_is = ap (λ (xs : List (Kept P)). e.1.parts ++ xs) later.after_is ∙ sym (append_assoc e.1.parts later.front (w.parts ++ later.back));
          }
          )

  module _ (p : Partition) (run : Run) (v w : Shelf P) (before after : List (Kept P)) (written : IsWritten v w before after) (mine : v.parts ≡ kept_in p before) where
    before_run : before ≡ (written.front ++ take run.first v.parts) ++ (parts_of_run run (kept_in p before) ++ (drop (run.first + run.count) v.parts ++ written.back))
    before_run =
        written.before_is
        ∙ (ap (λ (xs : List (Kept P)). written.front ++ (xs ++ written.back)) (run_parts run v.parts)
        ∙ (ap (λ (xs : List (Kept P)). written.front ++ xs)
        (append_assoc (take run.first v.parts) (parts_of_run run v.parts ++ drop (run.first + run.count) v.parts) written.back
        ∙ ap (λ (xs : List (Kept P)). take run.first v.parts ++ xs) (append_assoc (parts_of_run run v.parts) (drop (run.first + run.count) v.parts) written.back))
        ∙ (sym (append_assoc written.front (take run.first v.parts) (parts_of_run run v.parts ++ (drop (run.first + run.count) v.parts ++ written.back)))
        ∙ ap (λ (xs : List (Kept P)). (written.front ++ take run.first v.parts) ++ (parts_of_run run xs ++ (drop (run.first + run.count) v.parts ++ written.back))) mine)))

    after_run : (mid : List (Kept P)) → w.parts ≡ take run.first v.parts ++ (mid ++ drop (run.first + run.count) v.parts) → after ≡ (written.front ++ take run.first v.parts) ++ (mid ++ (drop (run.first + run.count) v.parts ++ written.back))
    after_run mid now =
        written.after_is
        ∙ (ap (λ (xs : List (Kept P)). written.front ++ (xs ++ written.back)) now
        ∙ (ap (λ (xs : List (Kept P)). written.front ++ xs)
        (append_assoc (take run.first v.parts) (mid ++ drop (run.first + run.count) v.parts) written.back
        ∙ ap (λ (xs : List (Kept P)). take run.first v.parts ++ xs) (append_assoc mid (drop (run.first + run.count) v.parts) written.back))
        ∙ sym (append_assoc written.front (take run.first v.parts) (mid ++ (drop (run.first + run.count) v.parts ++ written.back)))))

    -- a run was swapped on its shelf
    pub written_swapped : (k : Kept P) → w.parts ≡ take run.first v.parts ++ k ∷ drop (run.first + run.count) v.parts → IsSwapped p run k before after
    written_swapped k now = record {
      front = written.front ++ take run.first v.parts;
      back = drop (run.first + run.count) v.parts ++ written.back;
      before_is = before_run;
      after_is = after_run (k ∷ []) now;
    }

    -- or marked
    pub written_marked : (busy : Bool) → w.parts ≡ take run.first v.parts ++ (map (with_mark busy) (parts_of_run run v.parts) ++ drop (run.first + run.count) v.parts) → IsMarked p run busy before after
    written_marked busy now = record {
      front = written.front ++ take run.first v.parts;
      back = drop (run.first + run.count) v.parts ++ written.back;
      before_is = before_run;
      after_is = subst (λ (xs : List (Kept P)). after ≡ (written.front ++ take run.first v.parts) ++ (map (with_mark busy) (parts_of_run run xs) ++ (drop (run.first + run.count) v.parts ++ written.back))) mine
          (after_run (map (with_mark busy) (parts_of_run run v.parts)) now);
    }

  -- ---- the shelf is filed

  pub swapped_filed : (n : ℕ) (run : Run) (v w : Shelf P) (k : Kept P) → IsFiled (n, v) → Spans k.name (parts_of_run run v.parts) → w.parts ≡ take run.first v.parts ++ k ∷ drop (run.first + run.count) v.parts → IsInBlockOrder w.parts → IsFiled (n, w)
  swapped_filed n run v w k was spans now ordered =
      let sources = All-take (λ (x : Kept P). partition_rank x.name.partition ≡ n) run.count (drop run.first v.parts) (All-drop (λ (x : Kept P). partition_rank x.name.partition ≡ n) run.first v.parts was.mine) in
      let first = All-contains (λ (x : Kept P). partition_rank x.name.partition ≡ n) (parts_of_run run v.parts) spans.first sources
      (0, slice_get_within (parts_of_run run v.parts) 0 spans.first spans.first_is, get_or_from_slice_get (parts_of_run run v.parts) 0 spans.first spans.first spans.first_is) in
      record {
        mine = subst (All (λ (x : Kept P). partition_rank x.name.partition ≡ n)) (sym now)
            (All-append (λ (x : Kept P). partition_rank x.name.partition ≡ n) (take run.first v.parts) (k ∷ drop (run.first + run.count) v.parts)
            (All-take (λ (x : Kept P). partition_rank x.name.partition ≡ n) run.first v.parts was.mine)
            (All-cons (λ (x : Kept P). partition_rank x.name.partition ≡ n) k (drop (run.first + run.count) v.parts) (ap partition_rank spans.partition ∙ first) (All-drop (λ (x : Kept P). partition_rank x.name.partition ≡ n) (run.first + run.count) v.parts was.mine)));
        ordered = ordered;
      }

  pub marked_filed : (n : ℕ) (run : Run) (busy : Bool) (v w : Shelf P) → IsFiled (n, v) → w.parts ≡ take run.first v.parts ++ (map (with_mark busy) (parts_of_run run v.parts) ++ drop (run.first + run.count) v.parts) → IsInBlockOrder w.parts → IsFiled (n, w)
  marked_filed n run busy v w was now ordered = record {
    mine = named_mine v.parts w.parts
        (ap (λ (xs : List (Kept P)). map (λ (x : Kept P). x.name) xs) now
        ∙ (marked_names busy (take run.first v.parts) (parts_of_run run v.parts) (drop (run.first + run.count) v.parts)
        ∙ ap (λ (xs : List (Kept P)). map (λ (x : Kept P). x.name) xs) (sym (run_parts run v.parts)))) n was.mine;
    ordered = ordered;
  }
