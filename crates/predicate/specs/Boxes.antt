-- Boxes: what is known of the values of columns, and what a condition may be there (docs/definitions.md, "Boxes").
use Rattle.std.specs.Prelude.{◌≡◌, ℕ, ◌<◌, Bool, true, false, not, ◌&&◌, ◌||◌, IsTrue, [], ◌∷◌, ◌++◌, length, replicate, slice_get, All, Option, Some, None}
use Rattle.std.specs.List.{list_all, list_any}
use Rattle.std.specs.Ordering.{is_eq, is_ge, is_gt, is_le, is_lt}
use Rattle.mt_values.specs.declared.expr.Comparison.{Comparison}
use Rattle.mt_values.specs.declared.expr.Comparison.TheVariants as comparison
use Rattle.mt_values.specs.declared.expr.Test.{Test}
use Rattle.mt_values.specs.declared.value.Value.{Value}
use Rattle.mt_values.specs.Conditions.{Condition, Meaning, meant, tests_of}
use Rattle.mt_values.specs.Order.{value_cmp}
use Rattle.mt_values.specs.Tests.{meets}
use Rattle.mt_values.specs.Values.{Row}
use Rattle.predicate.specs.declared.boxes.KnownOf.{KnownOf}
use Rattle.predicate.specs.declared.boxes.KnownOf.TheVariants as known_of
use Rattle.predicate.specs.declared.extent.Can.{Can}
use Rattle.predicate.specs.declared.extent.Extent.{Extent}
use Rattle.predicate.specs.declared.extent.Known.{Known}
use Rattle.predicate.specs.declared.extent.Known.TheVariants as known

-- of the values from a least to a greatest one, some may compare so with a literal (docs/definitions.md, "Boxes")
abbrev pub yes_within : Comparison → Value → Value → Value → Bool
yes_within comparison.Equal lo hi v = is_le (value_cmp lo v) && is_le (value_cmp v hi)
yes_within comparison.NotEqual lo hi v = not (is_eq (value_cmp lo v) && is_eq (value_cmp hi v))
yes_within comparison.Less lo hi v = is_lt (value_cmp lo v)
yes_within comparison.LessOrEqual lo hi v = is_le (value_cmp lo v)
yes_within comparison.Greater lo hi v = is_gt (value_cmp hi v)
yes_within comparison.GreaterOrEqual lo hi v = is_ge (value_cmp hi v)

-- of the values from a least to a greatest one, some may not compare so with a literal (docs/definitions.md, "Boxes")
abbrev pub no_within : Comparison → Value → Value → Value → Bool
no_within comparison.Equal lo hi v = not (is_eq (value_cmp lo v) && is_eq (value_cmp hi v))
no_within comparison.NotEqual lo hi v = is_le (value_cmp lo v) && is_le (value_cmp v hi)
no_within comparison.Less lo hi v = is_ge (value_cmp hi v)
no_within comparison.LessOrEqual lo hi v = is_gt (value_cmp hi v)
no_within comparison.Greater lo hi v = is_le (value_cmp lo v)
no_within comparison.GreaterOrEqual lo hi v = is_lt (value_cmp lo v)

-- both may be (docs/definitions.md, "Boxes")
abbrev pub either : Can
either = record { yes = true; no = true }

-- what a test may be of a value of which this is known (docs/definitions.md, "Boxes")
abbrev pub can_of : Test → Known → Can
can_of t (known.Range lo hi) = record {
  yes = list_any (yes_within t.comparison lo hi) t.literals;
  no = list_all (no_within t.comparison lo hi) t.literals;
}
can_of t (known.List vs) = record { yes = list_any (meets t) vs; no = list_any (λ v. not (meets t v)) vs }
can_of t known.Unknown = either

-- what a test may be where this is known of its column, or nothing (docs/definitions.md, "Boxes")
abbrev pub can_some : Test → Option Known → Can
can_some t None = either
can_some t (Some k) = can_of t k

-- what a condition may be in a box, by what its parts may be (docs/definitions.md, "Boxes")
abbrev pub by_box : Extent → Meaning Test Can
by_box e = record {
  always = record { yes = true; no = false };
  holds = λ t. can_some t (slice_get e.columns t.column);
  not_of = λ a. record { yes = a.no; no = a.yes };
  and_of = λ a b. record { yes = a.yes && b.yes; no = a.no || b.no };
  or_of = λ a b. record { yes = a.yes || b.yes; no = a.no && b.no };
}

-- what a condition may be in a box (docs/definitions.md, "Boxes")
abbrev pub can : Condition Test → Extent → Can
can c e = meant (by_box e) c

-- the box in which this is known of the column at a place, and nothing of the others (docs/definitions.md, "Boxes")
abbrev pub only_column : ℕ → Known → Extent
only_column column k = record { columns = replicate column known.Unknown ++ k ∷ [] }

-- the box in which this is known (docs/definitions.md, "Boxes")
abbrev pub box_of : KnownOf → Extent
box_of (known_of.Box e) = e.now
box_of (known_of.Column column k) = only_column column k.now

-- a value is one of which this is known (docs/definitions.md, "Boxes")
abbrev pub IsKnown : Known → Value → Type 0
IsKnown (known.Range lo hi) v = IsTrue (is_le (value_cmp lo v)) × IsTrue (is_le (value_cmp v hi))
IsKnown (known.List vs) v = (place : ℕ) × (slice_get vs place ≡ Some v)
IsKnown known.Unknown v = Unit {0}

-- a row lies in a box: each of its values is one of which the box knows this (docs/definitions.md, "Boxes")
abbrev pub LiesIn : Extent → Row → Type 0
LiesIn e row = (i : ℕ) (k : Known) (v : Value) → slice_get e.columns i ≡ Some k → slice_get row i ≡ Some v → IsKnown k v

-- a row has a value in each column that a condition names (docs/definitions.md, "Boxes")
abbrev pub HasColumns : Condition Test → Row → Type 0
HasColumns c row = All (λ (t : Test). t.column < length row) (tests_of c)
