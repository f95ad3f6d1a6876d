-- Spans: the granules outside of which a condition is false of each row, by the first values of keys that rise (docs/architecture.md, "Spans of granules").
use Rattle.std.specs.Prelude.{◌≡◌, ℕ, ◌-◌, ◌<◌, ◌≤◌, ◌==◌, ◌⊎◌, Bool, true, false, not, ◌&&◌, nat_lt, List, [], ◌∷◌, length, max, min, slice_get, Some, if◌then◌else◌}
use Rattle.std.specs.List.{filter, list_any}
use Rattle.std.specs.Ordering.{is_ge, is_gt, is_le, is_lt}
use Rattle.mt_base.specs.declared.partition.Partition.{Partition}
use Rattle.mt_base.specs.declared.partition.Partition.TheVariants.{Whole, Number}
use Rattle.mt_values.specs.declared.expr.Comparison.{Comparison}
use Rattle.mt_values.specs.declared.expr.Comparison.TheVariants as comparison
use Rattle.mt_values.specs.declared.expr.Test.{Test}
use Rattle.mt_values.specs.declared.schema.Schema.{Schema}
use Rattle.mt_values.specs.declared.value.Value.{Value}
use Rattle.mt_values.specs.Conditions.{Condition, Meaning}
use Rattle.mt_values.specs.Grid.{column_of}
use Rattle.mt_values.specs.Order.{value_cmp}
use Rattle.mt_values.specs.Values.{Row}
use Rattle.predicate.specs.Boxes.{can}
use Rattle.predicate.specs.Granules.{boxes_of, parts_at}
use Rattle.predicate.specs.declared.extent.Can.{Can}
use Rattle.predicate.specs.declared.extent.Extent.{Extent}
use Rattle.primary_marks.specs.declared.spans.Edge.{Edge}
use Rattle.primary_marks.specs.declared.spans.Edge.TheVariants as edge
use Rattle.primary_marks.specs.declared.spans.PartKeys.{PartKeys}
use Rattle.primary_marks.specs.declared.spans.Span.{Span}

-- ---- what a test leaves

-- of the values up to this one, some may compare so with a literal (docs/architecture.md, "Spans of granules")
abbrev pub up_to : Comparison → Value → Value → Bool
up_to comparison.Equal x v = is_ge (value_cmp x v)
up_to comparison.NotEqual x v = true
up_to comparison.Less x v = true
up_to comparison.LessOrEqual x v = true
up_to comparison.Greater x v = is_gt (value_cmp x v)
up_to comparison.GreaterOrEqual x v = is_ge (value_cmp x v)

-- of the values from this one on, some may compare so with a literal (docs/architecture.md, "Spans of granules")
abbrev pub from_on : Comparison → Value → Value → Bool
from_on comparison.Equal x v = is_le (value_cmp x v)
from_on comparison.NotEqual x v = true
from_on comparison.Less x v = is_lt (value_cmp x v)
from_on comparison.LessOrEqual x v = is_le (value_cmp x v)
from_on comparison.Greater x v = true
from_on comparison.GreaterOrEqual x v = true

-- a value stands before the first that a test leaves, where none up to it meets the test; and before the end of these, where some from
-- it on may meet it (docs/architecture.md, "Spans of granules")
abbrev pub stands_before : Edge → Test → Value → Bool
stands_before edge.First t x = not (list_any (up_to t.comparison x) t.literals)
stands_before edge.End t x = list_any (from_on t.comparison x) t.literals

-- how many keys have a first value before an edge of what a test leaves (docs/architecture.md, "Spans of granules")
abbrev pub count_before : Edge → Test → List Row → ℕ
count_before e t keys = length (filter (stands_before e t) (column_of 0 keys))

-- the granules that a test of the first values leaves: a granule ends by the next one's key (docs/architecture.md, "Spans of granules")
abbrev pub left_by : Test → List Row → Span
left_by t keys = record { first = count_before edge.First t keys - 1; end = count_before edge.End t keys }

-- all granules (docs/architecture.md, "Spans of granules")
abbrev pub all_of : List Row → Span
all_of keys = record { first = 0; end = length keys }

-- the column at a place is the first of the primary key (docs/architecture.md, "Spans of granules")
abbrev pub is_first : List ℕ → ℕ → Bool
is_first [] place = false
is_first (p ∷ ps) place = p == place

-- the column at a place has the partition's number in each row (docs/architecture.md, "Spans of granules")
abbrev pub is_numbered : Schema → Partition → ℕ → Bool
is_numbered schema Whole place = false
is_numbered schema (Number n) place = parts_at schema.partition place

-- the column at a place is one of the table, and what is known of it in a granule's box is the range of the first values of two keys
-- (docs/architecture.md, "Spans of granules")
abbrev pub leads : Schema → Partition → ℕ → Bool
leads schema partition place = nat_lt place (length schema.columns) && is_first schema.primary place && not (is_numbered schema partition place)

-- the granules that a test leaves (docs/architecture.md, "Spans of granules")
abbrev pub span_by : PartKeys → Test → Span
span_by part t =
    if leads part.schema.now part.partition.now t.column then left_by t part.marks.now else all_of part.marks.now

-- ---- what a condition leaves

-- the granules of both of two spans (docs/architecture.md, "Spans of granules")
abbrev pub common : Span → Span → Span
common a b = record { first = max a.first b.first; end = min a.end b.end }

-- what a condition leaves: AND the granules that both sides do, no other joint fewer than all (docs/architecture.md, "Spans of granules")
abbrev pub by_spans : PartKeys → Meaning Test Span
by_spans part = record {
  always = all_of part.marks.now;
  holds = span_by part;
  not_of = λ a. all_of part.marks.now;
  and_of = common;
  or_of = λ a b. all_of part.marks.now;
}

-- the boxes of a part's granules (docs/definitions.md, "Boxes of granules")
abbrev pub part_boxes : PartKeys → List Extent
part_boxes part = boxes_of part.schema.now part.partition.now part.marks.now

-- what a condition is of a granule that it does not leave: true of no row, and false of some (docs/architecture.md, "Spans of granules")
abbrev pub missed : Can
missed = record { yes = false; no = true }

-- a granule, counted from 0, is none of a span's (docs/architecture.md, "Spans of granules")
abbrev pub IsOutside : Span → ℕ → Type 0
IsOutside span granule = (granule < span.first) ⊎ (span.end ≤ granule)

-- a condition misses each box outside of a span (docs/architecture.md, "Spans of granules")
abbrev pub MissesOutside : Span → Condition Test → List Extent → Type 0
MissesOutside span c boxes = (granule : ℕ) (e : Extent) → IsOutside span granule → slice_get boxes granule ≡ Some e → can c e ≡ missed
