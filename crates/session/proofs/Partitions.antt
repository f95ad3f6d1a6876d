-- The partitions of parts, found one after another.
use Rattle.std.proofs.Common.{◌≡◌, ◌≢◌, Decides, nat_eq, ◌⊎◌, ◌↔◌, ℕ, ◌+◌, ◌<◌, ◌≤◌, List, [], ◌∷◌, ◌++◌, length, take, get_or, length-append, refl, sym, ap, ◌∙◌, subst, inl, inr, Option, Some, None, arith}
use Rattle.std.specs.List.{AllPairs, Contains as HasItem}
use Rattle.std.specs.Option.{MatchOption, option_eq}
use Rattle.std.proofs.lemmas.Bool.Decides.{Decides-eqb, Decides-like}
use Rattle.std.proofs.lemmas.Bool.{cases_lt}
use Rattle.std.proofs.lemmas.List.{get_or-take, get_or_append_left, get_or_default, length-take-le, map-append, take_more}
use Rattle.std.proofs.lemmas.List.Elements.{Contains-append_left, Contains-push, Contains-push_cases}
use Rattle.std.proofs.lemmas.List.Quantifiers.{all_pairs_push}
use Rattle.std.proofs.Math.Seq.{get_or-append_seam}
use Rattle.mt_base.specs.declared.partition.Partition.{Partition}
use Rattle.mt_base.specs.declared.partition.Partition.TheVariants.{Whole, Number}
use Rattle.mt_base.specs.contracts.partition.PartitionPartialEq.TheImpl as derived
use Rattle.merge_workers.specs.shared_store.part_set.declared.kept.Kept.{Kept}
use Rattle.merge_workers.specs.shared_store.part_set.Parts.{IsInBlockOrder, StandsClear, partition_rank}
use Rattle.merge_workers.proofs.PartSetItems.{item_none}
use Rattle.merge_workers.proofs.PartSetOrders.{partition_low}
use Rattle.merge_workers.proofs.RootStoreItems.{mapped}
use Rattle.session.specs.Merges.{ArePartitionsOf, partitions_in}

-- the place of a partition among all tells it from the others
same_place : (a b : Partition) → partition_rank a ≡ partition_rank b → a ≡ b
same_place Whole Whole same = refl
same_place Whole (Number n) same = absurd (omega (arith, same))
same_place (Number m) Whole same = absurd (omega (arith, same))
same_place (Number m) (Number n) same = let is : m ≡ n = omega (arith, same) in ap Number is

below : (a b : Partition) → partition_rank a ≤ partition_rank b → a ≢ b → partition_rank a < partition_rank b
below a b low other = elim (cases_lt (partition_rank a) (partition_rank b)) [
  | inl less ↦ less
  | inr high ↦ absurd (other (same_place a b (omega (arith, low, high))))
]

partition_same : (x y : Partition) → Decides (derived.eq-value.it x y) (x ≡ y)
partition_same Whole Whole = (λ e. refl, λ e. refl)
partition_same (Number m) (Number n) = Decides-like (nat_eq m n) (ap Number) (λ e. cc) (Decides-eqb m n)
partition_same x y = (λ e. cc, λ e. cc)

-- what `==` says of the last one
pub last_same : (a b : Option Partition) → Decides (option_eq derived.eq-value.it a b) (a ≡ b)
last_same None None = (λ e. refl, λ e. refl)
last_same (Some p) (Some q) = Decides-like (derived.eq-value.it p q) (ap Some) (λ e. cc) (partition_same p q)
last_same x y = (λ e. cc, λ e. cc)

-- ---- lists

-- an element that is there is the same by whatever default
same_default : {X : Type 0} (xs : List X) (i : ℕ) (d e : X) → i < length xs → get_or xs i d ≡ get_or xs i e
same_default xs i d e within = get_or_default xs i d e within

-- an element of a list with one more at its end comes before that one
before_end : (front : List Partition) (p x : Partition) (early : HasItem front x) → partition_rank (get_or (front ++ p ∷ []) early.0 x) < partition_rank (get_or (front ++ p ∷ []) (length front) x)
    → partition_rank x < partition_rank p
before_end front p x early less =
    let first : get_or (front ++ p ∷ []) early.0 x ≡ x = get_or_append_left front (p ∷ []) x early.0 early.1 ∙ early.2 in
    let second : get_or (front ++ p ∷ []) (length front) x ≡ p = get_or-append_seam front p [] x in
    subst (λ (y : Partition). partition_rank y < partition_rank p) first (subst (λ (y : Partition). partition_rank (get_or (front ++ p ∷ []) early.0 x) < partition_rank y) second less)

-- The partitions of the first parts, and the last of them.
pub record SoFar {P : Type 0} (all : List (Kept P)) (i : ℕ) (found : List Partition) (last : Option Partition) : Type 0 where
  pub each : (partition : Partition) → HasItem found partition ↔ HasItem (partitions_in (take i all)) partition
  pub last_is : MatchOption last (found ≡ []) (λ p. (front : List Partition) × (found ≡ front ++ p ∷ []))
  pub ascend : IsInBlockOrder all → AllPairs (λ a b. partition_rank a < partition_rank b) found

pub none_so_far : {P : Type 0} (all : List (Kept P)) → SoFar all 0 [] None
none_so_far all = record { each = λ partition. (λ has. has, λ has. has); last_is = refl; ascend = λ order i j d low within. absurd (omega (arith, within)) }

module _ {P : Type 0} (all : List (Kept P)) (i : ℕ) (found : List Partition) (last : Option Partition) (so : SoFar all i found last) (kept : Kept P) (inside : i < length all) (is : kept ≡ get_or all i kept) where
  abbrev here : Partition
  here = kept.name.partition

  more : partitions_in (take (i + 1) all) ≡ partitions_in (take i all) ++ here ∷ []
  more =
      ap partitions_in (take_more all i kept inside)
      ∙ (map-append (λ (k : Kept P). k.name.partition) (take i all) (get_or all i kept ∷ []) ∙ ap (λ (k : Kept P). partitions_in (take i all) ++ k.name.partition ∷ []) (sym is))

  -- it is the last one again
  pub so_far_same : last ≡ Some here → SoFar all (i + 1) found last
  so_far_same same = record {
    each = λ partition. (
      λ has. subst (λ (ps : List Partition). HasItem ps partition) (sym more) (Contains-append_left (partitions_in (take i all)) (here ∷ []) partition ((so.each partition).0 has)),
      λ has. back partition (Contains-push_cases (partitions_in (take i all)) here partition (subst (λ (ps : List Partition). HasItem ps partition) more has)),
    );
    last_is = so.last_is;
    ascend = so.ascend;
  }
    where
      there : HasItem found here
      there =
          let at = subst (λ (o : Option Partition). MatchOption o (found ≡ []) (λ p. (front : List Partition) × (found ≡ front ++ p ∷ []))) same so.last_is in
          subst (λ (ps : List Partition). HasItem ps here) (sym at.1) (Contains-push at.0 here)

      back : (partition : Partition) → HasItem (partitions_in (take i all)) partition ⊎ (here ≡ partition) → HasItem found partition
      back partition (inl old) = (so.each partition).1 old
      back partition (inr new) = subst (HasItem found) new there

  -- a partition of the first parts comes no later than this part's
  no_later : IsInBlockOrder all → (partition : Partition) → HasItem found partition → partition_rank partition ≤ partition_rank here
  no_later order partition has =
      let old = mapped (λ (k : Kept P). k.name.partition) (take i all) partition ((so.each partition).0 has) in
      let size : length (take i all) ≡ i = length-take-le i all (omega (arith, inside)) in
      let low : old.1.0 < i = subst (λ (n : ℕ). old.1.0 < n) size old.1.1 in
      let at : get_or all old.1.0 old.0 ≡ old.0 = sym (get_or-take i all old.1.0 old.0 low) ∙ old.1.2 in
      let clear : StandsClear (get_or all old.1.0 kept).name (get_or all i kept).name = order old.1.0 i kept low inside in
      let first : get_or all old.1.0 kept ≡ old.0 = same_default all old.1.0 kept old.0 (omega (arith, low, inside)) ∙ at in
      let placed = partition_low (get_or all old.1.0 kept).name (get_or all i kept).name clear.order in
      let one = subst (λ (k : Kept P). partition_rank k.name.partition ≤ partition_rank (get_or all i kept).name.partition) first placed in
      let two = subst (λ (k : Kept P). partition_rank old.0.name.partition ≤ partition_rank k.name.partition) (sym is) one in
      subst (λ (p : Partition). partition_rank p ≤ partition_rank here) old.2 two

  -- it is another
  pub so_far_more : last ≢ Some here → SoFar all (i + 1) (found ++ here ∷ []) (Some here)
  so_far_more other = record {
    each = λ partition. (
      λ has. subst (λ (ps : List Partition). HasItem ps partition) (sym more) (on partition (Contains-push_cases found here partition has)),
      λ has. back partition (Contains-push_cases (partitions_in (take i all)) here partition (subst (λ (ps : List Partition). HasItem ps partition) more has)),
    );
    last_is = (found, refl);
    ascend = λ order. all_pairs_push (λ a b. partition_rank a < partition_rank b) found here (so.ascend order) (λ k d within. lower order last other so.last_is (get_or found k d) (k, within, same_default found k (get_or found k d) d within));
  }
    where
      on : (partition : Partition) → HasItem found partition ⊎ (here ≡ partition) → HasItem (partitions_in (take i all) ++ here ∷ []) partition
      on partition (inl old) = Contains-append_left (partitions_in (take i all)) (here ∷ []) partition ((so.each partition).0 old)
      on partition (inr new) = subst (HasItem (partitions_in (take i all) ++ here ∷ [])) new (Contains-push (partitions_in (take i all)) here)

      back : (partition : Partition) → HasItem (partitions_in (take i all)) partition ⊎ (here ≡ partition) → HasItem (found ++ here ∷ []) partition
      back partition (inl old) = Contains-append_left found (here ∷ []) partition ((so.each partition).1 old)
      back partition (inr new) = subst (HasItem (found ++ here ∷ [])) new (Contains-push found here)

      lower : IsInBlockOrder all → (o : Option Partition) → o ≢ Some here → MatchOption o (found ≡ []) (λ p. (front : List Partition) × (found ≡ front ++ p ∷ [])) → (x : Partition) → HasItem found x → partition_rank x < partition_rank here
      lower order None apart none x has = absurd (item_none x (subst (λ (ps : List Partition). HasItem ps x) none has))
      lower order (Some p) apart (front, ends) x has = by (Contains-push_cases front p x (subst (λ (ps : List Partition). HasItem ps x) ends has))
        where
          end : HasItem found p
          end = subst (λ (ps : List Partition). HasItem ps p) (sym ends) (Contains-push front p)

          last_lower : partition_rank p < partition_rank here
          last_lower = below p here (no_later order p end) (λ same. apart (ap Some same))

          by : HasItem front x ⊎ (p ≡ x) → partition_rank x < partition_rank here
          by (inr same) = subst (λ (y : Partition). partition_rank y < partition_rank here) same last_lower
          by (inl early) =
              let size : length found ≡ length front + 1 = ap length ends ∙ length-append front (p ∷ []) in
              let pairs = subst (AllPairs (λ a b. partition_rank a < partition_rank b)) ends (so.ascend order) in
              let step = pairs early.0 (length front) x early.1 (omega (arith, length-append front (p ∷ []))) in
              let low = before_end front p x early step in
              omega (arith, low, last_lower)

-- all of them
pub all_found : {P : Type 0} (all : List (Kept P)) (i : ℕ) (found : List Partition) (last : Option Partition) → take i all ≡ all → IsInBlockOrder all → SoFar all i found last → ArePartitionsOf all found
all_found {P} all i found last whole order so =
    record { each = subst (λ (ks : List (Kept P)). (partition : Partition) → HasItem found partition ↔ HasItem (partitions_in ks) partition) whole so.each; ascend = so.ascend order }
