-- The pass over the parts of one table.
use Rattle.std.proofs.Common.{◌≡◌, ◌≢◌, ℕ, ◌+◌, ◌-◌, ◌<◌, ◌≤◌, List, [], length, get_or, refl, sym, ap, ◌∙◌, subst, ◌⊎◌, inl, inr, Option, Some, None, IsSomeAnd, IfSome, true, false, arith}
use Rattle.std.proofs.lemmas.Bool.{cases_lt}
use Rattle.std.proofs.lemmas.List.{get_or_default}
use Rattle.std.proofs.lemmas.List.Elements.{Contains-get_or}
use Rattle.std.proofs.lemmas.List.Kept.{AllPairs-filter}
use Rattle.std.proofs.lemmas.Option.{MatchOption-at_some, get_or_from_slice_get, slice_get-get_or, slice_get_within}
use Rattle.std.specs.List.{All, Contains as HasItem}
use Rattle.part_name.specs.declared.part.PartName.{PartName}
use Rattle.part_name.specs.declared.relations.Stand.{Stand}
use Rattle.part_name.specs.declared.relations.Stand.TheVariants.{Covered, Overlapping, Clear}
use Rattle.part_name.specs.PartNames.{Contains, Meet}
use Rattle.part_name.specs.Standing.{StandsTo}
use Rattle.part_set.specs.declared.kept.Kept.{Kept}
use Rattle.part_set.specs.Parts.{IsAdded, IsInBlockOrder, NoneMeets, StandsClear, in_order, kept_in}
use Rattle.part_set.specs.Passes.{AreShown, Clash, IsInPassOrder, IsPlainName, IsShown, StandsAs, last_of}
use Rattle.mt_values.specs.Tables.{same_partition}
use Rattle.part_set.proofs.Named.{named_at}
use Rattle.part_set.proofs.Shelving.{item_named, mine_has, mine_within}
use Rattle.part_set.proofs.Inserts.{meet_turned}
use Rattle.part_set.proofs.Items.{item_cases, item_kept, item_new, item_none}
use Rattle.part_set.proofs.PassOrder.{contains_meets, earlier_in_order, later_no_container, only_last, same_or_apart}

abbrev pub BareKept : Type 0
BareKept = Kept (Unit {0})

-- a part with nothing kept for it
abbrev pub bare : PartName → BareKept
bare name = record { name = name; part = tt; busy = false }

pub self_contained : (a : PartName) → Contains a a
self_contained a = record { partition = refl; min_block = omega arith; max_block = omega arith; level = omega arith; mutation = omega arith }

passed_on : (a b c : PartName) → Contains a b → Contains b c → Contains a c
passed_on a b c first second = record {
  partition = first.partition ∙ second.partition;
  min_block = omega (arith, first.min_block, second.min_block);
  max_block = omega (arith, first.max_block, second.max_block);
  level = omega (arith, first.level, second.level);
  mutation = omega (arith, first.mutation, second.mutation);
}

-- two that contain each other are one, where no mutation was applied
one_part : (a b : PartName) → a.mutation ≡ b.mutation → Contains a b → Contains b a → a ≡ b
one_part a b mutation first second =
    let min : a.min_block ≡ b.min_block = omega (arith, first.min_block, second.min_block) in
    let max : a.max_block ≡ b.max_block = omega (arith, first.max_block, second.max_block) in
    let level : a.level ≡ b.level = omega (arith, first.level, second.level) in
    λ i. record { partition = first.partition i; min_block = min i; max_block = max i; level = level i; mutation = mutation i }

-- ---- lists in block order

-- two that meet are one
pub two_meet : (kept : List BareKept) → IsInBlockOrder kept → (a b : BareKept) → HasItem kept a → HasItem kept b → Meet a.name b.name → a ≡ b
two_meet kept ordered a b has_a has_b both =
    let to_b : get_or kept has_b.0 a ≡ b = get_or_default kept has_b.0 a b has_b.1 ∙ has_b.2 in
    let pair = subst (λ (x : BareKept). Meet x.name (get_or kept has_b.0 a).name) (sym has_a.2) (subst (λ (y : BareKept). Meet a.name y.name) (sym to_b) both) in
    elim (cases_lt has_a.0 has_b.0) [
      | inl less ↦ absurd ((ordered has_a.0 has_b.0 a less has_b.1).apart pair)
      | inr not_less ↦ elim (cases_lt has_b.0 has_a.0) [
        | inl more ↦ absurd ((ordered has_b.0 has_a.0 a more has_a.1).apart (meet_turned (get_or kept has_a.0 a).name (get_or kept has_b.0 a).name pair))
        | inr not_more ↦ (let same : has_a.0 ≡ has_b.0 = omega arith in sym has_a.2 ∙ (ap (λ (k : ℕ). get_or kept k a) same ∙ to_b))
      ]
    ]

-- each is the last or stands clear before it
pub last_or_clear : (kept : List BareKept) → IsInBlockOrder kept → (last a : BareKept) → last_of kept ≡ Some last → HasItem kept a → (a ≡ last) ⊎ StandsClear a.name last.name
last_or_clear kept ordered last a is has =
    let end : get_or kept (length kept - 1) a ≡ last = get_or_from_slice_get kept (length kept - 1) last a is in
    elim (cases_lt has.0 (length kept - 1)) [
      | inl less ↦ inr (
          subst (λ (x : BareKept). StandsClear x.name last.name) has.2
          (subst (λ (y : BareKept). StandsClear (get_or kept has.0 a).name y.name) end (ordered has.0 (length kept - 1) a less (omega (arith, has.1))))
          )
      | inr not_less ↦ inl (let same : has.0 ≡ length kept - 1 = omega (arith, has.1) in sym has.2 ∙ (ap (λ (k : ℕ). get_or kept k a) same ∙ end))
    ]

-- the last of some is one of them
last_has : (kept : List BareKept) (last : BareKept) → last_of kept ≡ Some last → HasItem kept last
last_has kept last is = (length kept - 1, slice_get_within kept (length kept - 1) last is, get_or_from_slice_get kept (length kept - 1) last last is)

-- what is said of a value that is there
pub there : {X : Type 0} (o : Option X) (P : X → Type 0) → IsSomeAnd o P → (x : X) × (o ≡ Some x) × P x
there None P none = absurd none
there (Some x) P holds = (x, refl, holds)

-- how a part stands to the last of some
pub stands_as : (kept : List BareKept) (last : BareKept) (part : PartName) (s : Stand) → last_of kept ≡ Some last → StandsTo last.name part s → StandsAs kept part s
stands_as kept last part Covered is stands = rw is stands
stands_as kept last part Overlapping is stands = rw is stands
stands_as kept last part Clear is stands = rw is stands

-- ---- the pass

-- one of those kept contains the part
abbrev pub IsCovered : List BareKept → PartName → Type 0
IsCovered kept part = (k : BareKept) × HasItem kept k × Contains k.name part

-- it is one of the first parts
abbrev pub IsFrom : List PartName → ℕ → BareKept → Type 0
IsFrom parts i k = (j : ℕ) × (j < i) × ((d : PartName) → get_or parts j d ≡ k.name)

-- each of the first parts is covered, and those kept are some of them
pub record Passed (parts : List PartName) (i : ℕ) (kept : List BareKept) : Type 0 where
  pub covered : (j : ℕ) (d : PartName) → j < i → IsCovered kept (get_or parts j d)
  pub source : (k : BareKept) → HasItem kept k → IsFrom parts i k

pub passed_none : (parts : List PartName) (kept : List BareKept) → kept ≡ [] → Passed parts 0 kept
passed_none parts kept none = record {
  covered = λ j d before. absurd (omega arith);
  source = λ k has. absurd (item_none k (subst (λ (ks : List BareKept). HasItem ks k) none has));
}

module _ (parts : List PartName) (sorted : IsInPassOrder parts) (plain : All IsPlainName parts) (i : ℕ) (within : i ≤ length parts) (kept : List BareKept) (passed : Passed parts i kept) (ordered : IsInBlockOrder kept) where
  kept_plain : (k : BareKept) → HasItem kept k → IsPlainName k.name
  kept_plain k has =
      let from = passed.source k has in
      subst IsPlainName (from.2 k.name) (plain from.0 k.name (omega (arith, from.1)))

  kept_here : (k : BareKept) → HasItem kept k → HasItem parts k.name
  kept_here k has = let from = passed.source k has in (from.0, omega (arith, from.1), from.2 k.name)

  -- a part that another one contains is not kept
  no_container : (k : BareKept) → HasItem kept k → (other : PartName) → HasItem parts other → other ≢ k.name → Contains other k.name → ⊥
  no_container k has other here apart contains =
      let from = passed.source k has in
      let k_plain = kept_plain k has in
      let other_plain = subst IsPlainName here.2 (plain here.0 other here.1) in
      elim (cases_lt here.0 i) [
        | inl before ↦ (
            let cover = passed.covered here.0 other before in
            let over = subst (Contains cover.0.name) here.2 cover.2 in
            let whole = passed_on cover.0.name other k.name over contains in
            let same = two_meet kept ordered cover.0 k cover.1 has (contains_meets cover.0.name k.name whole k_plain.named.order) in
            let back = subst (λ (x : BareKept). Contains x.name other) same over in
            apart (one_part other k.name (other_plain.plain ∙ sym k_plain.plain) contains back)
            )
        | inr behind ↦ (
            let to_k = from.2 other in
            let later = later_no_container parts sorted from.0 here.0 other (omega (arith, from.1)) here.1 (subst IsPlainName (sym here.2) other_plain) (subst IsPlainName (sym to_k) k_plain) in
            later (λ same. apart (sym here.2 ∙ (same ∙ to_k))) (subst (λ (x : PartName). Contains x (get_or parts from.0 other)) (sym here.2) (subst (Contains other) (sym to_k) contains))
            )
      ]

  kept_shown : (k : BareKept) → HasItem kept k → IsShown parts k.name
  kept_shown k has = record { here = kept_here k has; shows = no_container k has }

  -- all parts were passed: those kept are those that are shown
  pub passed_all : length parts ≤ i → AreShown parts kept
  passed_all end =
      let found = λ (name : PartName) (shown : IsShown parts name).
      let here = shown.here in
      let cover = passed.covered here.0 name (omega (arith, here.1)) in
      let over = subst (Contains cover.0.name) here.2 cover.2 in
      let name_plain = subst IsPlainName here.2 (plain here.0 name here.1) in
      let there : (k : BareKept) × HasItem kept k × (k.name ≡ name) = elim (same_or_apart cover.0.name name over (kept_plain cover.0 cover.1) name_plain) [
        | inl same ↦ (cover.0, cover.1, same)
        | inr apart ↦ absurd (shown.shows cover.0.name (kept_here cover.0 cover.1) apart over)
      ] in there
      in
      record {
        shown = λ name. (
          λ has. (let at = named_at kept name has in subst (IsShown parts) at.named (kept_shown at.kept (at.place, at.within, at.here at.kept))),
          λ shown. (let f = found name shown in item_named kept f.0 name f.1 f.2),
        );
        clear = λ a b first second both.
            let f = found a first in
            let g = found b second in
            let meet = subst (λ (x : PartName). Meet x g.0.name) (sym f.2) (subst (Meet a) (sym g.2) both) in
            sym f.2 ∙ (ap (λ (k : BareKept). k.name) (two_meet kept ordered f.0 g.0 f.1 g.1 meet) ∙ g.2);
      }

  module _ (inside : i < length parts) (part : PartName) (at : (d : PartName) → get_or parts i d ≡ part) where
    -- those kept of the next part's partition
    abbrev mine : List BareKept
    mine = kept_in part.partition kept

    mine_ordered : IsInBlockOrder mine
    mine_ordered = AllPairs-filter (λ (a b : BareKept). StandsClear a.name b.name) (λ (k : BareKept). same_partition k.name.partition part.partition) kept ordered

    last_kept : (last : BareKept) → last_of mine ≡ Some last → HasItem kept last
    last_kept last is = mine_within part.partition kept last (last_has mine last is)

    kept_front : (k : BareKept) → HasItem kept k → in_order k.name part ≡ true
    kept_front k has =
        let from = passed.source k has in
        let early = earlier_in_order parts sorted from.0 i part (omega (arith, from.1)) inside in
        subst (λ (x : PartName). in_order x part ≡ true) (from.2 part) (subst (λ (y : PartName). in_order (get_or parts from.0 part) y ≡ true) (at part) early)

    -- where the last one kept of its partition has no block of the next part, none kept has
    pub none_meets : IfSome (last_of mine) (λ last. Meet last.name part → ⊥) → NoneMeets kept part
    none_meets clear = λ m d m_inside both.
        let k = get_or kept m d in
        let has = mine_has part.partition kept k (Contains-get_or kept m d m_inside) both.partition in
        let last = get_or mine (length mine - 1) d in
        let is : last_of mine ≡ Some last = slice_get-get_or mine (length mine - 1) d (omega (arith, has.1)) in
        let last_in = last_kept last is in
        elim (last_or_clear mine mine_ordered last k is has) [
          | inl same ↦ MatchOption-at_some _ (λ (l : BareKept). Meet l.name part → ⊥) last is clear (subst (λ (x : BareKept). Meet x.name part) same both)
          | inr apart ↦ only_last k.name last.name part apart (kept_front last last_in) both.partition (kept_plain last last_in).named.order both.high
        ]

    -- the next part is kept
    pub passed_added : (after : List BareKept) → IsAdded kept (bare part) after → Passed parts (i + 1) after
    passed_added after added =
        let has_in = λ (k : BareKept) (has : HasItem kept k). subst (λ (ks : List BareKept). HasItem ks k) (sym added.is) (item_kept kept added.place (bare part) k has) in
        let has_new = subst (λ (ks : List BareKept). HasItem ks (bare part)) (sym added.is) (item_new kept added.place (bare part)) in
        record {
          covered = λ j d before. elim (cases_lt j i) [
            | inl less ↦ (let cover = passed.covered j d less in (cover.0, has_in cover.0 cover.1, cover.2))
            | inr not_less ↦ (
                let same : i ≡ j = omega arith in
                let is : get_or parts j d ≡ part = subst (λ (k : ℕ). get_or parts k d ≡ part) same (at d) in
                (bare part, has_new, subst (Contains part) (sym is) (self_contained part))
                )
          ];
          source = λ k has. elim (item_cases kept added.place (bare part) k (subst (λ (ks : List BareKept). HasItem ks k) added.is has)) [
            | inl old ↦ (let from = passed.source k old in (from.0, omega (arith, from.1), from.2))
            | inr same ↦ (i, omega arith, λ d. at d ∙ ap (λ (x : BareKept). x.name) same)
          ];
        }

    -- the last one kept of its partition contains the next part
    pub passed_covered : IsSomeAnd (last_of mine) (λ last. Contains last.name part) → Passed parts (i + 1) kept
    passed_covered covers =
        let last = there (last_of mine) (λ (l : BareKept). Contains l.name part) covers in
        record {
          covered = λ j d before. elim (cases_lt j i) [
            | inl less ↦ passed.covered j d less
            | inr not_less ↦ (
                let same : i ≡ j = omega arith in
                let is : get_or parts j d ≡ part = subst (λ (k : ℕ). get_or parts k d ≡ part) same (at d) in
                (last.0, last_kept last.0 last.1, subst (Contains last.0.name) (sym is) last.2)
                )
          ];
          source = λ k has. (let from = passed.source k has in (from.0, omega (arith, from.1), from.2));
        }

    part_plain : IsPlainName part
    part_plain = subst IsPlainName (at part) (plain i part inside)

    -- no part contains the next one, where the last one kept of its partition has a block of it and does not contain it
    part_shown : (last : BareKept) → last_of mine ≡ Some last → Meet last.name part → (Contains last.name part → ⊥) → IsShown parts part
    part_shown last is meet not_contained = record {
      here = (i, inside, at part);
      shows = λ other here apart contains.
          let other_plain = subst IsPlainName here.2 (plain here.0 other here.1) in
          elim (cases_lt here.0 i) [
            | inl before ↦ (
                let cover = passed.covered here.0 other before in
                let over = subst (Contains cover.0.name) here.2 cover.2 in
                let whole = passed_on cover.0.name other part over contains in
                let last_in = last_kept last is in
                elim (last_or_clear mine mine_ordered last cover.0 is (mine_has part.partition kept cover.0 cover.1 whole.partition)) [
                  | inl same ↦ not_contained (subst (λ (x : BareKept). Contains x.name part) same whole)
                  | inr clear ↦ only_last cover.0.name last.name part clear (kept_front last last_in) whole.partition (kept_plain last last_in).named.order (omega (arith, whole.max_block, part_plain.named.order))
                ]
                )
            | inr behind ↦ (
                let later = later_no_container parts sorted i here.0 other behind here.1 (subst IsPlainName (sym here.2) other_plain) (subst IsPlainName (sym (at other)) part_plain) in
                later (λ same. apart (sym here.2 ∙ (same ∙ at other))) (subst (λ (x : PartName). Contains x (get_or parts i other)) (sym here.2) (subst (Contains other) (sym (at other)) contains))
                )
          ];
    }

    -- two that are shown have a block in common
    pub pass_clash : IsSomeAnd (last_of mine) (λ last. Meet last.name part × (Contains last.name part → ⊥)) → Clash parts
    pass_clash clash =
        let last = there (last_of mine) (λ (l : BareKept). Meet l.name part × (Contains l.name part → ⊥)) clash in
        record {
          first = last.0.name;
          second = part;
          first_shown = kept_shown last.0 (last_kept last.0 last.1);
          second_shown = part_shown last.0 last.1 last.2.0 last.2.1;
          meet = last.2.0;
          apart = λ same. last.2.1 (subst (Contains last.0.name) same (self_contained last.0.name));
        }
