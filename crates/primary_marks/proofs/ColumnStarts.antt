-- The places of the granules of a column file rise from 0.
use Rattle.std.proofs.Common.{◌≡◌, ℕ, zero, suc, ◌+◌, ◌*◌, ◌^◌, ◌<◌, ◌≤◌, List, [], ◌∷◌, ◌++◌, refl, sym, ap, ◌∙◌, subst, length, length-append, length-drop, map, take, drop, take-append-drop, arith, mul-zero}
use Rattle.std.specs.Int.{div_ceil}
use Rattle.std.specs.List.{range_with_len}
use Rattle.std.proofs.Math.Seq.{take-add}
use Rattle.std.proofs.lemmas.List.Concat.{flat_map-append}
use Rattle.std.proofs.lemmas.List.Elements.{All-map}
use Rattle.std.proofs.lemmas.List.FromFn.{length-map-range_with_len}
use Rattle.column_file.proofs.ByteNumbersGroups.{groups_within-some}
use Rattle.mt_values.specs.declared.value.ColType.{ColType}
use Rattle.mt_values.specs.declared.value.Value.{Value}
use Rattle.mt_values.specs.declared.value.Value.TheVariants.{UInt8, UInt16, UInt32, UInt64, Int8, Int16, Int32, Int64, Text}
use Rattle.mt_values.specs.ColumnBytes.{column_bytes, leb128, value_bytes}
use Rattle.mt_values.specs.Grid.{AreRowsOf, column_of}
use Rattle.mt_values.specs.Values.{Row}
use Rattle.mt_values.proofs.Grids.{All-range, length-column_of}
use Rattle.mt_values.proofs.OrderBy.{all_reach}
use Rattle.column_file.specs.Granules.{granule_start, marks_of}
use Rattle.column_file.specs.Marks.{granule_places, granules, marks_bytes}
use Rattle.primary_marks.specs.Places.{AreMarksOf, AreStarts, AreStartsOf, RiseAbove}
use Rattle.primary_marks.proofs.MarkedRows.{granule_below}

-- each value has a byte
value_some : (v : Value) → 0 < length (value_bytes v)
value_some (UInt8 n) = omega arith
value_some (UInt16 n) = omega arith
value_some (UInt32 n) = omega arith
value_some (UInt64 n) = omega arith
value_some (Int8 n) = omega arith
value_some (Int16 n) = omega arith
value_some (Int32 n) = omega arith
value_some (Int64 n) = omega arith
value_some (Text bytes) = omega (arith, groups_within-some 9 (length bytes), length-append (leb128 (length bytes)) bytes)

front_some : (n : ℕ) (values : List Value) → 0 < n → 0 < length values → 0 < length (column_bytes (take n values))
front_some zero values h k = absurd (omega arith)
front_some (suc n) [] h k = absurd (omega arith)
front_some (suc n) (v ∷ vs) h k = omega (arith, value_some v, length-append (value_bytes v) (column_bytes (take n vs)))

start_next : (g : ℕ) (values : List Value) (k : ℕ) → 0 < g → k < div_ceil (length values) g → granule_start g values k < granule_start g values (k + 1)
start_next g values k some few =
    let below = granule_below (length values) g k some few in
    let next : g * (k + 1) ≡ g * k + g = omega arith in
    let all : column_bytes (take (g * (k + 1)) values) ≡ column_bytes (take (g * k) values) ++ column_bytes (take g (drop (g * k) values)) =
    ap (λ n. column_bytes (take n values)) next ∙ ap column_bytes (take-add (g * k) g values) ∙ flat_map-append value_bytes (take (g * k) values) (take g (drop (g * k) values)) in
    let here = front_some g (drop (g * k) values) some (omega (arith, length-drop (g * k) values)) in
    omega (arith, ap length all, length-append (column_bytes (take (g * k) values)) (column_bytes (take g (drop (g * k) values))))

start_within : (g : ℕ) (values : List Value) (k : ℕ) → granule_start g values k ≤ length (column_bytes values)
start_within g values k =
    let all : column_bytes values ≡ column_bytes (take (g * k) values) ++ column_bytes (drop (g * k) values) =
    ap column_bytes (sym (take-append-drop (g * k) values)) ∙ flat_map-append value_bytes (take (g * k) values) (drop (g * k) values) in
    omega (arith, ap length all, length-append (column_bytes (take (g * k) values)) (column_bytes (drop (g * k) values)))

rise_range : (f : ℕ → ℕ) (a n low : ℕ) → low < f a → ((k : ℕ) → a ≤ k → k + 1 < a + n → f k < f (k + 1)) → RiseAbove low (map f (range_with_len a n))
rise_range f a zero low h step = tt
rise_range f a (suc zero) low h step = (h, tt)
rise_range f a (suc (suc n)) low h step = (h, rise_range f (a + 1) (suc n) (f a) (step a (omega arith) (omega arith)) (λ k p q. step k (omega arith) (omega arith)))

starts_range : (f : ℕ → ℕ) (n : ℕ) → f 0 ≡ 0 → ((k : ℕ) → k < n → f k < f (k + 1)) → AreStarts (map f (range_with_len 0 (suc n)))
starts_range f zero first step = (first, tt)
starts_range f (suc n) first step = (first, rise_range f (0 + 1) (suc n) (f 0) (step 0 (omega arith)) (λ k p q. step k (omega arith)))

pub column_starts : (g : ℕ) (values : List Value) → 0 < g → length (column_bytes values) < 2 ^ 64 → AreStartsOf (granules g (length values)) (marks_of g values)
column_starts g values some small =
    let n = granules g (length values) in
    let up : n + 1 ≡ suc n = omega arith in
    record {
      count_is = length-map-range_with_len (granule_start g values) 0 (n + 1);
      rise = subst (λ m. AreStarts (map (granule_start g values) (range_with_len 0 m))) (sym up)
          (starts_range (granule_start g values) n (ap (λ m. length (column_bytes (take m values))) (mul-zero g)) (λ k h. start_next g values k some h));
      fit = All-map (λ m. m < 2 ^ 64) (granule_start g values) (range_with_len 0 (n + 1)) (All-range (λ k. granule_start g values k < 2 ^ 64) (n + 1) (λ k h. omega (arith, start_within g values k)));
    }

pub marks_written : (g columns : ℕ) (types : List ColType) (rows : List Row) → 0 < g → AreRowsOf types rows → columns ≤ length types → ((c : ℕ) → c < columns → length (column_bytes (column_of c rows)) < 2 ^ 64) → AreMarksOf columns (granules g (length rows)) (marks_bytes g columns rows) (granule_places g columns rows)
marks_written g columns types rows some typed few small = record {
  count_is = length-map-range_with_len (λ column. marks_of g (column_of column rows)) 0 columns;
  each = All-map (AreStartsOf (granules g (length rows))) (λ column. marks_of g (column_of column rows)) (range_with_len 0 columns)
      (All-range (λ column. AreStartsOf (granules g (length rows)) (marks_of g (column_of column rows))) columns (λ c h.
      subst (λ n. AreStartsOf (granules g n) (marks_of g (column_of c rows))) (length-column_of c rows (all_reach types rows c typed (omega arith)))
      (column_starts g (column_of c rows) some (small c h))));
  spelled = refl;
}
