-- Where the granules of a column begin in its bytes (docs/formats.md, "Column files").
use Rattle.std.specs.Prelude.{ℕ, ◌+◌, ◌*◌, List, drop, length, map, take}
use Rattle.std.specs.Int.{div_ceil}
use Rattle.std.specs.List.{range_with_len}
use Rattle.mt_values.specs.declared.value.Value.{Value}
use Rattle.mt_values.specs.ColumnBytes.{column_bytes}

-- the values of a granule: so many of them, the last granule perhaps fewer
abbrev pub granule_of : ℕ → List Value → ℕ → List Value
granule_of granularity values granule = take granularity (drop (granularity * granule) values)

-- the values of a run of so many granules
abbrev pub run_of : ℕ → ℕ → ℕ → List Value → List Value
run_of granularity first count values = take (granularity * count) (drop (granularity * first) values)

-- a granule begins after the bytes of the values of all granules before it, each of which has so many values
abbrev pub granule_start : ℕ → List Value → ℕ → ℕ
granule_start granularity values granule = length (column_bytes (take (granularity * granule) values))

-- the beginning of each granule, and the end of the last
abbrev pub marks_of : ℕ → List Value → List ℕ
marks_of granularity values = map (granule_start granularity values) (range_with_len 0 (div_ceil (length values) granularity + 1))
