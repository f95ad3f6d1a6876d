-- The boxes of granules, by the primary keys that are kept of them, and which granules a condition leaves (docs/definitions.md, "Boxes of granules").
use Rattle.std.specs.Prelude.{ℕ, ◌==◌, Bool, true, false, List, [], ◌∷◌, length, map, pos, slice_get, Option, Some, None, if◌then◌else◌}
use Rattle.std.specs.List.{range_with_len, zip}
use Rattle.std.specs.Ordering.{is_eq}
use Rattle.mt_base.specs.declared.partition.Partition.{Partition}
use Rattle.mt_base.specs.declared.partition.Partition.TheVariants.{Whole, Number}
use Rattle.mt_values.specs.declared.expr.Test.{Test}
use Rattle.mt_values.specs.declared.schema.Column.{Column}
use Rattle.mt_values.specs.declared.schema.Schema.{Schema}
use Rattle.mt_values.specs.declared.value.Value.{Value}
use Rattle.mt_values.specs.Conditions.{Condition}
use Rattle.mt_values.specs.Literals.{number_value}
use Rattle.mt_values.specs.Order.{value_cmp}
use Rattle.mt_values.specs.Values.{Row}
use Rattle.predicate.specs.Boxes.{can}
use Rattle.predicate.specs.declared.extent.Extent.{Extent}
use Rattle.predicate.specs.declared.extent.Known.{Known}
use Rattle.predicate.specs.declared.extent.Known.TheVariants as known

-- Of rows from one key up to another, in their order: of each column of the key its range, up to and with the first in which the two
-- keys differ. Of those after it nothing is known (docs/definitions.md, "Boxes of granules").
abbrev pub key_ranges : Row → Row → List Known
key_ranges (a ∷ first) (b ∷ last) = known.Range a b ∷ (if is_eq (value_cmp a b) then key_ranges first last else [])
key_ranges (a ∷ first) [] = []
key_ranges [] last = []

-- what is known of the column at a place, by what is known of the columns at these places (docs/definitions.md, "Boxes of granules")
abbrev pub known_among : List ℕ → List Known → ℕ → Known
known_among (p ∷ ps) (k ∷ ks) place = if p == place then k else known_among ps ks place
known_among (p ∷ ps) [] place = known.Unknown
known_among [] ks place = known.Unknown

-- one value, where there is one (docs/definitions.md, "Boxes of granules")
abbrev pub known_value : Option Value → Known
known_value (Some v) = known.Range v v
known_value None = known.Unknown

-- what is known of a column by the partition's number (docs/definitions.md, "Boxes of granules")
abbrev pub known_number : Option Column → ℕ → Known
known_number (Some column) n = known_value (number_value column.col_type (pos n))
known_number None n = known.Unknown

-- whether this is the place of the partition column (docs/definitions.md, "Boxes of granules")
abbrev pub parts_at : Option ℕ → ℕ → Bool
parts_at (Some p) place = p == place
parts_at None place = false

-- what is known of the column at a place: of the partition column the partition's number, of the others by the keys (docs/definitions.md, "Boxes of granules")
abbrev pub known_at : Schema → Partition → List Known → ℕ → Known
known_at schema Whole keys place = known_among schema.primary keys place
known_at schema (Number n) keys place =
    if parts_at schema.partition place then known_number (slice_get schema.columns place) n else known_among schema.primary keys place

-- the box of a partition's rows from one primary key up to another (docs/definitions.md, "Boxes of granules")
abbrev pub box_between : Schema → Partition → Row → Row → Extent
box_between schema partition a b =
    record { columns = map (known_at schema partition (key_ranges a b)) (range_with_len 0 (length schema.columns)) }

-- the boxes of a part's granules, by the primary keys of their first rows and of the part's last row (docs/definitions.md, "Boxes of granules")
abbrev pub boxes_of : Schema → Partition → List Row → List Extent
boxes_of schema partition (a ∷ b ∷ keys) = box_between schema partition a b ∷ boxes_of schema partition (b ∷ keys)
boxes_of schema partition keys = []

-- whether each granule is chosen: the condition may be true in its box (docs/definitions.md, "Boxes of granules")
abbrev pub chosen_in : Schema → Partition → Condition Test → List Row → List Bool
chosen_in schema partition c keys = map (λ e. (can c e).yes) (boxes_of schema partition keys)

-- whether the rows of each granule are asked: the condition may be false in its box (docs/definitions.md, "Boxes of granules")
abbrev pub asked_in : Schema → Partition → Condition Test → List Row → List Bool
asked_in schema partition c keys = map (λ e. (can c e).no) (boxes_of schema partition keys)

-- a box, unless its granule is not chosen: then one that says nothing (docs/architecture.md, "The way of a SELECT")
abbrev pub box_where : Bool → Extent → Extent
box_where true e = e
box_where false e = record { columns = [] }

-- the same of each granule that has an answer (docs/architecture.md, "The way of a SELECT")
abbrev pub boxes_where : List Extent → List Bool → List Extent
boxes_where boxes chosen = map (λ p. box_where p.1 p.0) (zip boxes chosen)
