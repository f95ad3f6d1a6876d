-- An INSERT's part in block order: it is the last of its partition.
use Rattle.std.proofs.Common.{◌≡◌, ℕ, ◌+◌, ◌<◌, ◌≤◌, Bool, true, false, cond, not, List, [], ◌∷◌, ◌++◌, filter, length, get_or, All, refl, sym, ap, ap₂, ◌∙◌, subst, arith, zero, suc}
use Rattle.std.specs.List.{AllByRecursion}
use Rattle.std.specs.List.Sorted.{IsPartitionedBy}
use Rattle.std.specs.Ordering.{is_gt, is_lt, nat_cmp, ordering_then}
use Rattle.std.specs.declared.cmp.Ordering.{Ordering}
use Rattle.std.specs.declared.cmp.Ordering.TheVariants.{Less, Equal, Greater}
use Rattle.std.proofs.lemmas.Bool.Decides.{nat_tests}
use Rattle.std.proofs.lemmas.List.Elements.{All-filter, filter_passes, recursion_from_All}
use Rattle.std.proofs.lemmas.List.Sorted.{sorted_far}
use Rattle.mt_base.specs.declared.partition.Partition.{Partition}
use Rattle.mt_base.specs.declared.partition.Partition.TheVariants.{Whole, Number}
use Rattle.mt_values.specs.declared.command.Insert.{Insert}
use Rattle.mt_values.specs.declared.schema.Schema.{Schema}
use Rattle.rule_law.specs.mt_model.History.{History}
use Rattle.rule_law.specs.mt_model.Numbers.{numbered}
use Rattle.rule_law.proofs.MtModelSorting.{sorted_tail}
use Rattle.part_history.specs.declared.part.CorePart.{CorePart}
use Rattle.part_history.specs.Entered.{next_number, part_of_insert, parts_after, parts_upto, with_part}
use Rattle.part_history.specs.Parts.{AreInBlockOrder, TableStands, block_cmp, partition_cmp}
use Rattle.part_history.proofs.Growing.{number_drawn}
use Rattle.part_history.proofs.Orders.{block_weak, order_filtered}

-- ---- orders of two

-- a part of a partition that is not after another one's, and whose least block is no greater, does not come after
not_after : (v w : Partition) (m n : ℕ) → not (is_gt (partition_cmp v w)) ≡ true → m ≤ n → is_lt (ordering_then (partition_cmp w v) (nat_cmp n m)) ≡ false
not_after Whole Whole m n is le = grind (arith, nat_tests)
not_after Whole (Number b) m n is le = refl
not_after (Number a) Whole m n is le = cc
not_after (Number a) (Number b) m n is le = grind (arith, nat_tests)

first_decides : (o r : Ordering) → is_gt o ≡ true → is_lt (ordering_then o r) ≡ false
first_decides Less r is = cc
first_decides Equal r is = cc
first_decides Greater r is = refl

-- a part that does not come before one of a partition after some is of such a partition too
after_next : (w v u : Partition) (m n : ℕ) → is_gt (partition_cmp v w) ≡ true → is_lt (ordering_then (partition_cmp u v) (nat_cmp m n)) ≡ false → is_gt (partition_cmp u w) ≡ true
after_next Whole Whole u m n is up = cc
after_next (Number a) Whole u m n is up = cc
after_next w (Number b) Whole m n is up = cc
after_next Whole (Number b) (Number c) m n is up = refl
after_next (Number a) (Number b) (Number c) m n is up = grind (arith, nat_tests)

-- ---- parts up to a partition, and after it

abbrev pub IsAfter : Partition → CorePart → Bool
IsAfter w p = is_gt (partition_cmp p.name.partition w)

none_upto : (w : Partition) (ps : List CorePart) → AllByRecursion (λ p. IsAfter w p ≡ true) ps → parts_upto w ps ≡ []
none_upto w [] all = refl
none_upto w (p ∷ ps) all = ap (λ b. cond (not b) (p ∷ parts_upto w ps) (parts_upto w ps)) all.0 ∙ none_upto w ps all.1

pub all_after : (w : Partition) (ps : List CorePart) → AllByRecursion (λ p. IsAfter w p ≡ true) ps → parts_after w ps ≡ ps
all_after w [] all = refl
all_after w (p ∷ ps) all = ap₂ (λ b qs. cond b (p ∷ qs) qs) all.0 (all_after w ps all.1)

pub later_after : (w : Partition) (p : CorePart) (ps : List CorePart) → IsAfter w p ≡ true → AreInBlockOrder (p ∷ ps) → AllByRecursion (λ q. IsAfter w q ≡ true) (p ∷ ps)
later_after w p [] is up = (is, tt)
later_after w p (q ∷ ps) is up =
    let next = after_next w p.name.partition q.name.partition q.name.min_block p.name.min_block is (up 0 p (omega arith) (omega arith)) in
    (is, later_after w q ps next (sorted_tail block_cmp p (q ∷ ps) up))

-- parts in block order are those up to a partition, and then those after it
pub parts_parted : (w : Partition) (ps : List CorePart) → AreInBlockOrder ps → parts_upto w ps ++ parts_after w ps ≡ ps
parts_parted w [] up = refl
parts_parted w (p ∷ ps) up = by (IsAfter w p) refl (parts_parted w ps (sorted_tail block_cmp p ps up))
  where
    by : (b : Bool) → IsAfter w p ≡ b → parts_upto w ps ++ parts_after w ps ≡ ps → (cond (not b) (p ∷ parts_upto w ps) (parts_upto w ps)) ++ cond b (p ∷ parts_after w ps) (parts_after w ps) ≡ p ∷ ps
    by false is rest = ap (λ (qs : List CorePart). p ∷ qs) rest
    by true is rest =
        let all = (later_after w p ps is up).1 in
        ap₂ (λ (xs ys : List CorePart). xs ++ p ∷ ys) (none_upto w ps all) (all_after w ps all)

-- so in block order those up to a partition come first
pub upto_first : (w : Partition) (ps : List CorePart) → AreInBlockOrder ps → IsPartitionedBy (λ (p : CorePart). not (IsAfter w p)) ps
upto_first w ps up i j d below inside is = by (IsAfter w (get_or ps i d)) refl
  where
    by : (b : Bool) → IsAfter w (get_or ps i d) ≡ b → not b ≡ true
    by false first = refl
    by true first =
        let p = get_or ps i d in
        let q = get_or ps j d in
        let later = after_next w p.name.partition q.name.partition q.name.min_block p.name.min_block first (sorted_far (λ a b. is_lt (block_cmp a b)) block_weak ps up i j d below inside) in
        let clash : true ≡ false = sym is ∙ ap not later in
        cc

-- ---- a part between others

pub one_sorted : (p : CorePart) → AreInBlockOrder (p ∷ [])
one_sorted p k d low high = absurd (omega arith)

pub sorted_next : (x y : CorePart) (ys : List CorePart) → is_lt (block_cmp y x) ≡ false → AreInBlockOrder (y ∷ ys) → AreInBlockOrder (x ∷ y ∷ ys)
sorted_next x y ys above up zero d low high = above
sorted_next x y ys above up (suc k) d low high =
    let next : suc k + 1 ≡ suc (k + 1) = omega arith in
    let below : k + 1 < length (y ∷ ys) = omega arith in
    rw next (up k d (omega arith) below)

pub order_between : (ps qs : List CorePart) (part : CorePart) → AllByRecursion (λ p. is_lt (block_cmp part p) ≡ false) ps → AllByRecursion (λ q. is_lt (block_cmp q part) ≡ false) qs → AreInBlockOrder ps → AreInBlockOrder qs
    → AreInBlockOrder (ps ++ part ∷ qs)
order_between [] [] part low high one two = one_sorted part
order_between [] (q ∷ qs) part low high one two = sorted_next part q qs high.0 two
order_between (p ∷ []) qs part low high one two =
    sorted_next p part qs low.0 (order_between [] qs part tt high (sorted_tail block_cmp p [] one) two)
order_between (p ∷ r ∷ ps) qs part low high one two =
    sorted_next p r (ps ++ part ∷ qs) (one 0 p (omega arith) (omega arith)) (order_between (r ∷ ps) qs part low.1 high (sorted_tail block_cmp p (r ∷ ps) one) two)

-- the parts of a table begin at most at its last number
begin_below : (h : History) (table : List ℕ) (ps : List CorePart) → TableStands table ps h → All (λ (p : CorePart). p.name.min_block ≤ length (numbered table h)) ps
begin_below h table ps s k d below =
    let p = get_or ps k d in
    subst (λ t. p.name.min_block ≤ length (numbered t h)) (s.own k d below) (number_drawn p.table p.name.partition p.name.min_block h (s.each k d below).stands.least)

-- with an INSERT's part, the last of its partition, the parts of a table are in block order
pub order_grown : (h : History) (i : Insert) (schema : Schema) (ps : List CorePart) → TableStands i.table ps h → AreInBlockOrder ps → AreInBlockOrder (with_part (part_of_insert schema (next_number i.table h) i) ps)
order_grown h i schema ps s up =
    order_between (filter upto ps) (filter (IsAfter i.partition) ps) part
    (recursion_from_All (λ (p : CorePart). is_lt (block_cmp part p) ≡ false) (filter upto ps) (λ k d below.
    let p = get_or (filter upto ps) k d in
    let low : p.name.min_block ≤ length (numbered i.table h) = All-filter upto (λ (q : CorePart). q.name.min_block ≤ length (numbered i.table h)) ps (begin_below h i.table ps s) k d below in
    not_after p.name.partition i.partition p.name.min_block (next_number i.table h) (filter_passes upto ps k d below) (omega (arith, low))))
    (recursion_from_All (λ (p : CorePart). is_lt (block_cmp p part) ≡ false) (filter (IsAfter i.partition) ps) (λ k d below.
    let p = get_or (filter (IsAfter i.partition) ps) k d in
    first_decides (partition_cmp p.name.partition i.partition) (nat_cmp p.name.min_block (next_number i.table h)) (filter_passes (IsAfter i.partition) ps k d below)))
    (order_filtered upto ps up) (order_filtered (IsAfter i.partition) ps up)
  where
    part : CorePart
    part = part_of_insert schema (next_number i.table h) i

    upto : CorePart → Bool
    upto p = not (IsAfter i.partition p)
