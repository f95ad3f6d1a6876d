-- Outside of the span that it leaves a condition is true of no row of a granule, and false of some.
use Rattle.std.proofs.Common.{◌≡◌, ◌↔◌, IsTrue, ℕ, ◌+◌, ◌-◌, ◌<◌, ◌≤◌, ◌⊎◌, inl, inr, Bool, true, false, not, ◌&&◌, ◌||◌, cond, nat_lt, List, [], ◌∷◌, Some, refl, sym, ap, ap₂, ◌∙◌, subst, length, max, min, slice_get, option_map, arith}
use Rattle.std.proofs.lemmas.Bool.{cases_lt, ltb-true}
use Rattle.std.specs.List.{list_any, range_with_len}
use Rattle.std.specs.Ordering.{is_le}
use Rattle.std.proofs.lemmas.Cmp.{tied_itself}
use Rattle.std.proofs.lemmas.Option.{slice_get-map}
use Rattle.mt_base.specs.declared.partition.Partition.{Partition}
use Rattle.mt_base.specs.declared.partition.Partition.TheVariants.{Whole, Number}
use Rattle.mt_values.specs.declared.expr.Comparison.{Comparison}
use Rattle.mt_values.specs.declared.expr.Comparison.TheVariants as comparison
use Rattle.mt_values.specs.declared.expr.Test.{Test}
use Rattle.mt_values.specs.declared.schema.Schema.{Schema}
use Rattle.mt_values.specs.declared.value.Value.{Value}
use Rattle.mt_values.specs.Conditions.{Condition, Always, And, Holds, Not, Or, meant}
use Rattle.mt_values.specs.Grid.{column_of}
use Rattle.mt_values.specs.Order.{value_cmp}
use Rattle.mt_values.specs.Tests.{meets}
use Rattle.mt_values.specs.Values.{Row}
use Rattle.mt_values.proofs.Orders.{value_total}
use Rattle.predicate.specs.Boxes.{IsKnown, can, can_of, can_some, yes_within}
use Rattle.predicate.specs.Granules.{key_ranges, known_among, known_at, known_number}
use Rattle.predicate.specs.declared.extent.Can.{Can}
use Rattle.predicate.specs.declared.extent.Extent.{Extent}
use Rattle.predicate.specs.declared.extent.Known.{Known}
use Rattle.predicate.specs.declared.extent.Known.TheVariants as known
use Rattle.predicate.proofs.Lying.{any_too, known_no, known_yes}
use Rattle.primary_marks.specs.Choosing.{key_at}
use Rattle.primary_marks.specs.Rising.{RiseByFirst}
use Rattle.primary_marks.specs.Spans.{IsOutside, MissesOutside, all_of, by_spans, common, count_before, from_on, is_first, is_numbered, leads, left_by, missed, part_boxes, stands_before, up_to}
use Rattle.primary_marks.specs.declared.spans.Edge.TheVariants as edge
use Rattle.primary_marks.specs.declared.spans.PartKeys.{PartKeys}
use Rattle.primary_marks.specs.declared.spans.Span.{Span}
use Rattle.primary_marks.proofs.GranuleBoxes.{box_at, box_there, ranges_from}
use Rattle.primary_marks.proofs.KeyRowsOf.{range_item}
use Rattle.primary_marks.proofs.Rising.{edge_turn, first_of, ge_is, values_rise}

-- ---- truths

both_left : (a b : Bool) → (a && b) ≡ true → a ≡ true
both_left true b e = refl
both_left false b e = cc

both_right : (a b : Bool) → (a && b) ≡ true → b ≡ true
both_right true b e = e
both_right false b e = cc

not_true : (a : Bool) → not a ≡ true → a ≡ false
not_true true e = cc
not_true false e = refl

contra : (a b : Bool) → (a ≡ true → b ≡ true) → b ≡ false → a ≡ false
contra true b f e = sym (f refl) ∙ e
contra false b f e = refl

and_false : (a : Bool) → (a && false) ≡ false
and_false true = refl
and_false false = refl

or_true : (a : Bool) → (a || true) ≡ true
or_true true = refl
or_true false = refl

-- what AND makes of two answers, and an answer by its sides
abbrev of_both : Can → Can → Can
of_both x y = record { yes = x.yes && y.yes; no = x.no || y.no }

abbrev of_sides : Bool → Bool → Can
of_sides y n = record { yes = y; no = n }

left_missed : (x y : Can) → x ≡ missed → of_both x y ≡ missed
left_missed x y e = ap (λ (z : Can). of_both z y) e

right_missed : (x y : Can) → y ≡ missed → of_both x y ≡ missed
right_missed x y e = ap (λ (z : Can). of_both x z) e ∙ ap₂ of_sides (and_false x.yes) (or_true x.no)

-- ---- a test of a range

within_up : (c : Comparison) (lo hi v : Value) → yes_within c lo hi v ≡ true → up_to c hi v ≡ true
within_up comparison.Equal lo hi v h = ge_is hi v ∙ both_right (is_le (value_cmp lo v)) (is_le (value_cmp v hi)) h
within_up comparison.NotEqual lo hi v h = refl
within_up comparison.Less lo hi v h = refl
within_up comparison.LessOrEqual lo hi v h = refl
within_up comparison.Greater lo hi v h = h
within_up comparison.GreaterOrEqual lo hi v h = h

within_from : (c : Comparison) (lo hi v : Value) → yes_within c lo hi v ≡ true → from_on c lo v ≡ true
within_from comparison.Equal lo hi v h = both_left (is_le (value_cmp lo v)) (is_le (value_cmp v hi)) h
within_from comparison.NotEqual lo hi v h = refl
within_from comparison.Less lo hi v h = h
within_from comparison.LessOrEqual lo hi v h = h
within_from comparison.Greater lo hi v h = refl
within_from comparison.GreaterOrEqual lo hi v h = refl

module _ (t : Test) (lo hi : Value) where
  abbrev some_within : Bool
  some_within = list_any (yes_within t.comparison lo hi) t.literals

  -- a granule that ends before the first value that meets the test has none that does
  none_early : stands_before edge.First t hi ≡ true → some_within ≡ false
  none_early h =
      contra some_within (list_any (up_to t.comparison hi) t.literals)
      (any_too (yes_within t.comparison lo hi) (up_to t.comparison hi) (λ v. within_up t.comparison lo hi v) t.literals)
      (not_true (list_any (up_to t.comparison hi) t.literals) h)

  -- and neither has one that begins after the last
  none_late : stands_before edge.End t lo ≡ false → some_within ≡ false
  none_late h =
      contra some_within (list_any (from_on t.comparison lo) t.literals)
      (any_too (yes_within t.comparison lo hi) (from_on t.comparison lo) (λ v. within_from t.comparison lo hi v) t.literals) h

  -- what meets no value of a range misses the least one
  range_missed : is_le (value_cmp lo hi) ≡ true → some_within ≡ false → can_of t (known.Range lo hi) ≡ missed
  range_missed le none = by (meets t lo) refl
    where
      least : IsKnown (known.Range lo hi) lo
      least = (ap is_le (tied_itself value_total lo), le)

      by : (b : Bool) → meets t lo ≡ b → can_of t (known.Range lo hi) ≡ missed
      by true m = let bad : true ≡ false = sym (known_yes t (known.Range lo hi) lo least m) ∙ none in cc
      by false m = ap₂ of_sides none (known_no t (known.Range lo hi) lo least m)

-- ---- what is known of the column that leads

lead_among : (primary : List ℕ) (ranges rest : List Known) (k : Known) (place : ℕ) → is_first primary place ≡ true → ranges ≡ k ∷ rest → known_among primary ranges place ≡ k
lead_among [] ranges rest k place first is = cc
lead_among (p ∷ ps) ranges rest k place first is =
    ap (λ rs. known_among (p ∷ ps) rs place) is ∙ ap (λ b. cond b k (known_among ps rest place)) first

by_keys : (schema : Schema) (partition : Partition) (ranges : List Known) (place : ℕ) → is_numbered schema partition place ≡ false → known_at schema partition ranges place ≡ known_among schema.primary ranges place
by_keys schema Whole ranges place other = refl
by_keys schema (Number n) ranges place other = ap (λ b. cond b (known_number (slice_get schema.columns place) n) (known_among schema.primary ranges place)) other

module _ (part : PartKeys) (rise : RiseByFirst part.marks.now) where
  abbrev keys : List Row
  keys = part.marks.now

  abbrev box : ℕ → Extent
  box granule = box_at part.schema.now part.partition.now part.marks.now granule

  -- in a granule's box it is the range of the first values of two keys
  lead_known : (granule place : ℕ) (lo hi : Value) → leads part.schema.now part.partition.now place ≡ true
      → slice_get (key_at keys granule) 0 ≡ Some lo → slice_get (key_at keys (granule + 1)) 0 ≡ Some hi → slice_get (box granule).columns place ≡ Some (known.Range lo hi)
  lead_known granule place lo hi lead e f =
      let schema = part.schema.now in
      let ranges = key_ranges (key_at keys granule) (key_at keys (granule + 1)) in
      let both = both_left (nat_lt place (length schema.columns) && is_first schema.primary place) (not (is_numbered schema part.partition.now place)) lead in
      let below : place < length schema.columns = ltb-true place (length schema.columns) (both_left (nat_lt place (length schema.columns)) (is_first schema.primary place) both) in
      let first = both_right (nat_lt place (length schema.columns)) (is_first schema.primary place) both in
      let other = not_true (is_numbered schema part.partition.now place)
      (both_right (nat_lt place (length schema.columns) && is_first schema.primary place) (not (is_numbered schema part.partition.now place)) lead) in
      slice_get-map (known_at schema part.partition.now ranges) (range_with_len 0 (length schema.columns)) place
      ∙ ap (option_map (known_at schema part.partition.now ranges)) (range_item (length schema.columns) place below)
      ∙ ap Some (by_keys schema part.partition.now ranges place other
      ∙ lead_among schema.primary ranges _ (known.Range lo hi) place first (ranges_from (key_at keys granule) (key_at keys (granule + 1)) 0 lo hi e f))

  -- ---- what is left

  -- outside of what a test leaves it misses
  test_misses : (t : Test) (granule : ℕ) → leads part.schema.now part.partition.now t.column ≡ true → granule + 1 < length keys → IsOutside (left_by t keys) granule → can (Holds t) (box granule) ≡ missed
  test_misses t granule lead below outside =
      let low = first_of keys rise granule (omega (arith, below)) in
      let high = first_of keys rise (granule + 1) below in
      let le = values_rise (column_of 0 keys) rise.rising granule (granule + 1) low.0 high.0 (omega arith) low.2 high.2 in
      ap (can_some t) (lead_known granule t.column low.0 high.0 lead low.1 high.1) ∙ range_missed t low.0 high.0 le (none low.0 high.0 low.2 high.2 outside)
    where
      none : (lo hi : Value) → slice_get (column_of 0 keys) granule ≡ Some lo → slice_get (column_of 0 keys) (granule + 1) ≡ Some hi
          → (granule < count_before edge.First t keys - 1) ⊎ (count_before edge.End t keys ≤ granule) → list_any (yes_within t.comparison lo hi) t.literals ≡ false
      none lo hi e f (inl early) = none_early t lo hi ((edge_turn keys rise edge.First t).before (granule + 1) hi (omega (arith, early)) f)
      none lo hi e f (inr late) = none_late t lo hi ((edge_turn keys rise edge.End t).after granule lo late e)

  -- no granule is outside of all
  inside_all : (granule : ℕ) → granule + 1 < length keys → IsOutside (all_of keys) granule → ⊥
  inside_all granule below (inl early) = omega (arith, early)
  inside_all granule below (inr late) = omega (arith, late, below)

  -- what is outside of the granules of both is outside of one
  outside_one : (a b : Span) (granule : ℕ) → IsOutside (common a b) granule → IsOutside a granule ⊎ IsOutside b granule
  outside_one a b granule (inl early) = either (cases_lt granule a.first)
    where
      either : (granule < a.first) ⊎ (a.first ≤ granule) → IsOutside a granule ⊎ IsOutside b granule
      either (inl below) = inl (inl below)
      either (inr past) = let below : granule < max a.first b.first = early in inr (inl (omega (arith, below, past)))
  outside_one a b granule (inr late) = either (cases_lt granule a.end)
    where
      either : (granule < a.end) ⊎ (a.end ≤ granule) → IsOutside a granule ⊎ IsOutside b granule
      either (inl below) = let past : min a.end b.end ≤ granule = late in inr (inr (omega (arith, past, below)))
      either (inr past) = inl (inr past)

  condition_misses : (c : Condition Test) (granule : ℕ) → granule + 1 < length keys → IsOutside (meant (by_spans part) c) granule → can c (box granule) ≡ missed
  condition_misses Always granule below outside = absurd (inside_all granule below outside)
  condition_misses (Holds t) granule below outside = by (leads part.schema.now part.partition.now t.column) refl outside
    where
      by : (b : Bool) → leads part.schema.now part.partition.now t.column ≡ b → IsOutside (cond b (left_by t keys) (all_of keys)) granule → can (Holds t) (box granule) ≡ missed
      by true lead out = test_misses t granule lead below out
      by false lead out = absurd (inside_all granule below out)
  condition_misses (Not c) granule below outside = absurd (inside_all granule below outside)
  condition_misses (And a b) granule below outside =
      either (outside_one (meant (by_spans part) a) (meant (by_spans part) b) granule outside) (condition_misses a granule below) (condition_misses b granule below)
    where
      either : IsOutside (meant (by_spans part) a) granule ⊎ IsOutside (meant (by_spans part) b) granule
          → (IsOutside (meant (by_spans part) a) granule → can a (box granule) ≡ missed) → (IsOutside (meant (by_spans part) b) granule → can b (box granule) ≡ missed)
          → can (And a b) (box granule) ≡ missed
      either (inl out) left right = left_missed (can a (box granule)) (can b (box granule)) (left out)
      either (inr out) left right = right_missed (can a (box granule)) (can b (box granule)) (right out)
  condition_misses (Or a b) granule below outside = absurd (inside_all granule below outside)

  -- a condition misses each box outside of what it leaves
  pub span_misses : (c : Condition Test) (span : Span) → span ≡ meant (by_spans part) c → MissesOutside span c (part_boxes part)
  span_misses c span is = λ granule e outside there.
      let found = box_there part.schema.now part.partition.now keys granule e there in
      ap (can c) (sym found.1) ∙ condition_misses c granule (omega (arith, found.0)) (subst (λ s. IsOutside s granule) is outside)

-- no box is outside of all granules
pub all_misses : (part : PartKeys) (c : Condition Test) (span : Span) → span ≡ all_of part.marks.now → MissesOutside span c (part_boxes part)
all_misses part c span is = λ granule e outside there.
    let found = box_there part.schema.now part.partition.now part.marks.now granule e there in
    absurd (outside_none granule (subst (λ s. IsOutside s granule) is outside) (omega (arith, found.0)))
  where
    outside_none : (granule : ℕ) → IsOutside (all_of part.marks.now) granule → granule + 1 < length part.marks.now → ⊥
    outside_none granule (inl early) below = omega (arith, early)
    outside_none granule (inr late) below = omega (arith, late, below)

-- ---- granules of a span

-- what is not found to be one of a span's is outside
pub not_contained : (span : Span) (granule : ℕ) (b : Bool) → (IsTrue b ↔ (span.first ≤ granule) × (granule < span.end)) → b ≡ false → IsOutside span granule
not_contained span granule b tells e = either (cases_lt granule span.first) (cases_lt granule span.end)
  where
    either : (granule < span.first) ⊎ (span.first ≤ granule) → (granule < span.end) ⊎ (span.end ≤ granule) → IsOutside span granule
    either (inl below) upper = inl below
    either (inr from) (inl below) = let wrong : true ≡ false = sym (tells.1 (from, below)) ∙ e in absurd cc
    either (inr from) (inr past) = inr past
