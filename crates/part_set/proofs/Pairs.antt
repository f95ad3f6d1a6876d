-- Parts that overlap, as they are looked for.
use Rattle.std.proofs.Common.{◌≡◌, ℕ, ◌<◌, ◌≤◌, List, length, get_or, refl, sym, ap, ◌∙◌, subst, inl, inr, Option, Some, IsSomeAnd, arith}
use Rattle.std.proofs.lemmas.Bool.{cases_lt}
use Rattle.std.proofs.lemmas.Option.{get_or_from_slice_get, slice_get-get_or, slice_get_within}
use Rattle.std.specs.List.{AllWithin, Contains as HasItem, slice_get}
use Rattle.part_set.specs.declared.root_name.RootName.{RootName}
use Rattle.part_set.specs.declared.root_name.RootName.TheVariants.{Create, Part}
use Rattle.part_set.specs.declared.root_name.TablePart.{TablePart}
use Rattle.part_set.specs.Clashes.{ClashesWith, HasOverlap, Hides, IsFirstWith, IsNotHidden}
use Rattle.part_set.specs.Visible.{Covers, HasPart, IsFirstOverlap, IsHidden, OverlapAt, Overlapping}
use Rattle.part_set.proofs.Passes.{self_contained, there}

self_covered : (a : TablePart) → Covers a a
self_covered a = record { table = refl; name = self_contained a.name }

-- what clashes with a visible part and is visible overlaps with it
pub told_overlap : (names : List RootName) (part : TablePart) (other : RootName) → HasPart names part → (IsHidden names part → ⊥) → HasItem names other → ClashesWith part other → IsNotHidden names other
    → Overlapping names (Part part) other
told_overlap names part (Create table) here shown has clash visible = absurd clash
told_overlap names part (Part b) here shown has clash visible = record {
  first = record { here = here; shows = shown };
  second = record { here = has; shows = visible };
  table = clash.table;
  meet = clash.meet;
  apart = λ same. clash.not_covered (subst (Covers part) same (self_covered part));
  not_covered = clash.not_covered;
  not_covering = clash.not_covering;
}

-- and nothing else does
pub overlap_told : (names : List RootName) (part : TablePart) (other : RootName) → Overlapping names (Part part) other → ClashesWith part other × IsNotHidden names other
overlap_told names part (Create table) overlap = absurd overlap
overlap_told names part (Part b) overlap = (record { table = overlap.table; meet = overlap.meet; not_covered = overlap.not_covered; not_covering = overlap.not_covering }, overlap.second.shows)

-- nothing overlaps with a hidden part
pub hidden_none : (names : List RootName) (part : TablePart) → IsHidden names part → (other : RootName) → Overlapping names (Part part) other → ⊥
hidden_none names part hidden (Create table) overlap = overlap
hidden_none names part hidden (Part b) overlap = overlap.first.shows hidden

-- what hides a part among the names
pub hidden_by : (names : List RootName) (name : RootName) (part : TablePart) → HasItem names name → Hides name part → IsHidden names part
hidden_by names (Create table) part has hides = absurd hides
hidden_by names (Part by) part has hides = record { by = by; here = has; other = hides.0; covers = hides.1 }

-- where none of the names hides it, it is not hidden
pub hidden_none_of : (names : List RootName) (i : ℕ) (part : TablePart) → length names ≤ i → AllWithin (λ name. Hides name part → ⊥) names 0 i → IsHidden names part → ⊥
hidden_none_of names i part end none hidden =
    let here = hidden.here in
    none here.0 (Part hidden.by) (omega arith) (omega (arith, here.1)) (subst (λ (n : RootName). Hides n part) (sym here.2) (hidden.other, hidden.covers))

pub read_at : (names : List RootName) (place : ℕ) (name : RootName) → place < length names → name ≡ get_or names place name → slice_get names place ≡ Some name
read_at names place name inside is = slice_get-get_or names place name inside ∙ ap Some (sym is)

pub item_at : (names : List RootName) (place : ℕ) (name : RootName) → place < length names → name ≡ get_or names place name → HasItem names name
item_at names place name inside is = (place, inside, sym is)

-- the first name that passes
pub first_with : (P : RootName → Type 0) (names : List RootName) (place : ℕ) (name : RootName) → place < length names → name ≡ get_or names place name → P name
    → AllWithin (λ n. P n → ⊥) names 0 place → IsFirstWith P names place
first_with P names place name inside is holds none = record {
  is = subst (λ (o : Option RootName). IsSomeAnd o P) (sym (read_at names place name inside is)) holds;
  first = λ k less earlier.
      let other = there (slice_get names k) P earlier in
      let read : get_or names k other.0 ≡ other.0 = get_or_from_slice_get names k other.0 other.0 other.1 in
      none k other.0 (omega arith) less (subst P (sym read) other.2);
}

-- where no name passes
pub none_with : (P : RootName → Type 0) (names : List RootName) (i : ℕ) → length names ≤ i → AllWithin (λ n. P n → ⊥) names 0 i → (other : RootName) → HasItem names other → P other → ⊥
none_with P names i end none other has holds = none has.0 other (omega arith) (omega (arith, has.1)) (subst P (sym has.2) holds)

-- a name with which another one overlaps
abbrev pub IsFirstOf : List RootName → RootName → Type 0
IsFirstOf names a = (b : RootName) × HasItem names b × Overlapping names a b

two_there : (names : List RootName) (k l : ℕ) → OverlapAt names k l → IsSomeAnd (slice_get names k) (IsFirstOf names)
two_there names k l overlap =
    let a = there (slice_get names k) (λ (x : RootName). IsSomeAnd (slice_get names l) (Overlapping names x)) overlap in
    let b = there (slice_get names l) (Overlapping names a.0) a.2 in
    let has : HasItem names b.0 = (l, slice_get_within names l b.0 b.1, get_or_from_slice_get names l b.0 b.0 b.1) in
    subst (λ (o : Option RootName). IsSomeAnd o (IsFirstOf names)) (sym a.1) (b.0, has, b.2)

-- the first pair
pub first_pair : (names : List RootName) (i j : ℕ) (name : RootName) → i < length names → name ≡ get_or names i name → IsFirstWith (Overlapping names name) names j
    → AllWithin (λ a. IsFirstOf names a → ⊥) names 0 i → IsFirstOverlap names i j
first_pair names i j name inside is found none =
    let read = read_at names i name inside is in
    record {
      is = subst (λ (o : Option RootName). IsSomeAnd o (λ a. IsSomeAnd (slice_get names j) (Overlapping names a))) (sym read) found.is;
      first = λ k l overlap. elim (cases_lt k i) [
        | inl less ↦ (
            let a = there (slice_get names k) (IsFirstOf names) (two_there names k l overlap) in
            let at : get_or names k a.0 ≡ a.0 = get_or_from_slice_get names k a.0 a.0 a.1 in
            absurd (none k a.0 (omega arith) less (subst (IsFirstOf names) (sym at) a.2))
            )
        | inr not_less ↦ not_less
      ];
      second = λ l overlap. elim (cases_lt l j) [
        | inl less ↦ (
            let here = subst (λ (o : Option RootName). IsSomeAnd o (λ a. IsSomeAnd (slice_get names l) (Overlapping names a))) read overlap in
            absurd (found.first l less here)
            )
        | inr not_less ↦ not_less
      ];
    }

-- where each was gone over, none overlaps
pub no_pair : (names : List RootName) (i : ℕ) → length names ≤ i → AllWithin (λ a. IsFirstOf names a → ⊥) names 0 i → HasOverlap names → ⊥
no_pair names i end none some =
    let overlap = some.overlap in
    none_with (IsFirstOf names) names i end none (Part some.first) overlap.first.here (Part some.second, overlap.second.here, overlap)
