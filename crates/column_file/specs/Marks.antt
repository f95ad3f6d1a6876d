-- The bytes of marks.bin and of primary.bin (docs/formats.md, "Marks" and "Primary keys").
use Rattle.std.specs.Prelude.{ℕ, ◌-◌, ◌*◌, List, ◌++◌, drop, flat_map, length, map, slice_get}
use Rattle.std.specs.Int.{div_ceil, w64, to_le_bytes}
use Rattle.std.specs.List.{filter_map, range_with_len}
use Rattle.mt_values.specs.ColumnBytes.{column_bytes}
use Rattle.mt_values.specs.Grid.{column_of}
pub use Rattle.mt_values.specs.Granules.{granule_starts, granules, mark_keys, with_final}
use Rattle.mt_values.specs.Values.{Row}
use Rattle.column_file.specs.Granules.{marks_of}

-- keys one after another, the values of each in order
abbrev pub keys_bytes : List Row → List ℕ
keys_bytes keys = flat_map column_bytes keys

-- what primary.bin has of rows with this primary key
abbrev pub primary_bytes : List ℕ → ℕ → List Row → List ℕ
primary_bytes primary granularity rows = keys_bytes (mark_keys primary granularity rows)

-- numbers in eight bytes each
abbrev pub numbers_bytes : List ℕ → List ℕ
numbers_bytes numbers = flat_map (to_le_bytes w64) numbers

-- the numbers of each column, one column after another
abbrev pub places_bytes : List (List ℕ) → List ℕ
places_bytes places = flat_map numbers_bytes places

-- where the granules of each of the first few columns begin in the column's file, and the file's length
abbrev pub granule_places : ℕ → ℕ → List Row → List (List ℕ)
granule_places granularity columns rows = map (λ column. marks_of granularity (column_of column rows)) (range_with_len 0 columns)

-- what marks.bin has of rows with this many columns
abbrev pub marks_bytes : ℕ → ℕ → List Row → List ℕ
marks_bytes granularity columns rows = places_bytes (granule_places granularity columns rows)
