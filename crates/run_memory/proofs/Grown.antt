-- Rows of a block, and a disk without names.
use Rattle.std.proofs.Common.{◌≡◌, ◌<◌, ℕ, List, [], Some, None, All, get_or, length, slice_get, refl, sym, ap, subst, ◌∙◌}
use Rattle.std.specs.List.{range_with_len}
use Rattle.std.proofs.lemmas.Option.{get_or_from_slice_get, slice_get_within}
use Rattle.mt_outside.specs.Disk.{Told, files_at, names_of}
use Rattle.mt_values.specs.declared.value.ColType.{ColType}
use Rattle.mt_values.specs.Grid.{AreRowsOf}
use Rattle.mt_values.specs.Values.{Row, types_of}
use Rattle.mt_values.proofs.Grids.{All-range}

-- a row of the block has its types
pub row_typed : (types : List ColType) (rows : List Row) (i : ℕ) (row : Row) → AreRowsOf types rows → slice_get rows i ≡ Some row → types_of row ≡ types
row_typed types rows i row typed is = ap types_of (sym (get_or_from_slice_get rows i row row is)) ∙ typed i row (slice_get_within rows i row is)

-- the first places are places of rows
pub first_places : (rows : List Row) (n : ℕ) (order : List ℕ) → order ≡ range_with_len 0 n → ((k : ℕ) → k < n → k < length rows) → All (λ place. place < length rows) order
first_places rows n order is within = subst (All (λ place. place < length rows)) (sym is) (All-range (λ place. place < length rows) n within)

-- on a disk without names none is taken
pub none_at : (name : List ℕ) (told : Told) → told ≡ [] → files_at name (names_of told) ≡ None
none_at name told is = subst (λ (t : Told). files_at name (names_of t) ≡ None) (sym is) refl
