-- Masks: the truth of a condition on each of many rows (docs/architecture.md, "Conditions").
use Rattle.std.specs.Prelude.{◌≡◌, Bool, true, not, ◌&&◌, ◌||◌, List, [], ◌∷◌, map, length, All}
use Rattle.std.specs.List.{zip}
use Rattle.mt_values.specs.declared.expr.Joint.{Joint}
use Rattle.mt_values.specs.declared.expr.Test.{Test}
use Rattle.mt_values.specs.Conditions.{Meaning}
use Rattle.mt_values.specs.Grid.{rows_within}
use Rattle.mt_values.specs.Polish.{ComesTo}
use Rattle.mt_values.specs.Tests.{meets_at}
use Rattle.mt_values.specs.Values.{Row}
use Rattle.predicate.specs.declared.masks.Asked.{Asked}

-- where both of two masks are true (docs/architecture.md, "Conditions")
abbrev pub both : List Bool → List Bool → List Bool
both a b = map (λ p. p.0 && p.1) (zip a b)

-- where one of two masks is true (docs/architecture.md, "Conditions")
abbrev pub one : List Bool → List Bool → List Bool
one a b = map (λ p. p.0 || p.1) (zip a b)

-- the rows that are asked (docs/architecture.md, "Conditions")
abbrev pub rows_asked : Asked → List Row
rows_asked asked = rows_within asked.columns.now asked.from asked.rows

-- the truths of rows, as what may be asked (docs/architecture.md, "Conditions")
abbrev pub by_rows : List Row → Meaning Test (List Bool)
by_rows rows = record {
  always = map (λ row. true) rows;
  holds = λ t. map (λ row. meets_at row t) rows;
  not_of = map not;
  and_of = both;
  or_of = one;
}

-- with some joints after this one they come to a mask (docs/architecture.md, "Conditions")
abbrev pub MayMask : List Row → List Test → List (List Bool) → Joint → Type 0
MayMask rows tests masks joint = (found : List Bool) × (rest : List Joint) × ComesTo (by_rows rows) found tests masks (joint ∷ rest)

-- each mask has an answer for each row (docs/architecture.md, "Conditions")
abbrev pub AreMasks : List Row → List (List Bool) → Type 0
AreMasks rows masks = All (λ mask. length mask ≡ length rows) masks

-- two masks stand on top, with the same number of answers (docs/architecture.md, "Conditions")
abbrev pub AreTwo : List (List Bool) → Type 0
AreTwo [] = ⊥
AreTwo (b ∷ []) = ⊥
AreTwo (b ∷ a ∷ before) = length a ≡ length b

-- the mask on top, turned round (docs/architecture.md, "Conditions")
abbrev pub turned : List (List Bool) → List (List Bool)
turned [] = []
turned (a ∷ before) = map not a ∷ before

-- where both of the masks on top are true, in place of them (docs/architecture.md, "Conditions")
abbrev pub with_both : List (List Bool) → List (List Bool)
with_both (b ∷ a ∷ before) = both a b ∷ before
with_both masks = masks

-- where one of the masks on top is true, in place of them (docs/architecture.md, "Conditions")
abbrev pub with_one : List (List Bool) → List (List Bool)
with_one (b ∷ a ∷ before) = one a b ∷ before
with_one masks = masks
