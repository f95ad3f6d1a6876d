-- The granules into which the rows of a part are parted (docs/formats.md, "Column files").
use Rattle.std.specs.Prelude.{ℕ, ◌-◌, ◌*◌, Bool, true, false, List, [], ◌∷◌, ◌++◌, drop, length, map, slice_get, take}
use Rattle.std.specs.Int.{div_ceil}
use Rattle.std.specs.List.{filter_map, range_with_len}
use Rattle.mt_values.specs.Order.{key_of}
use Rattle.mt_values.specs.Values.{Row}

-- how many granules rows are parted into: each has this many of them, the last perhaps fewer (docs/formats.md, "Column files")
abbrev pub granules : ℕ → ℕ → ℕ
granules granularity count = div_ceil count granularity

-- the first of each granule: each granularity-th, from the first (docs/formats.md, "Primary keys")
abbrev pub granule_starts : {X : Type 0} → ℕ → List X → List X
granule_starts granularity xs = filter_map (λ granule. slice_get xs (granularity * granule)) (range_with_len 0 (granules granularity (length xs)))

-- the first of each granule, and then the last of all; none where there is none (docs/formats.md, "Primary keys")
abbrev pub with_final : {X : Type 0} → ℕ → List X → List X
with_final granularity xs = granule_starts granularity xs ++ drop (length xs - 1) xs

-- the primary keys of the rows with which granules begin, and of the last row (docs/formats.md, "Primary keys")
abbrev pub mark_keys : List ℕ → ℕ → List Row → List Row
mark_keys primary granularity rows = map (key_of primary) (with_final granularity rows)

-- of a list parted into granules of so many, the items of the chosen ones, in order (docs/formats.md, "Parts")
abbrev pub chosen_of : {X : Type 0} → ℕ → List Bool → List X → List X
chosen_of granularity [] xs = []
chosen_of granularity (true ∷ chosen) xs = take granularity xs ++ chosen_of granularity chosen (drop granularity xs)
chosen_of granularity (false ∷ chosen) xs = chosen_of granularity chosen (drop granularity xs)
