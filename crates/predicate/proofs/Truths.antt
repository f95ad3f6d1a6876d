-- Masks: the truths of the rows of columns, and how masks are joined answer by answer.
use Rattle.std.proofs.Common.{◌≡◌, ℕ, zero, suc, ◌+◌, ◌-◌, ◌<◌, ◌≤◌, Bool, true, false, not, ◌&&◌, ◌||◌, List, [], ◌∷◌, length, map, take, drop, get_or, set, replicate, slice_get, All, Option, Some, None, option_and_then, refl, sym, ap, ap₂, ◌∙◌, subst, arith, add-one}
use Rattle.std.specs.List.{cons_option, range_with_len, zip}
use Rattle.std.proofs.lemmas.List.{get_or_default, length-map, take_all}
use Rattle.std.proofs.lemmas.List.Elements.{All-cons, All-head, All-nil, All-tail}
use Rattle.std.proofs.lemmas.List.FromFn.{length-range_with_len}
use Rattle.std.proofs.lemmas.Option.{slice_get-get_or, slice_get_past, slice_get_read}
use Rattle.std.proofs.lemmas.Simd.{map-map}
use Rattle.std.proofs.lemmas.Slice.Zip.{firsts-zip, get_or-zip, length-zip}
use Rattle.mt_values.specs.declared.expr.Joint.{Joint}
use Rattle.mt_values.specs.declared.expr.Joint.TheVariants as joint
use Rattle.mt_values.specs.declared.expr.TheConstants.{MOST_TRUTHS}
use Rattle.mt_values.specs.declared.expr.Test.{Test}
use Rattle.mt_values.specs.declared.value.Value.{Value}
use Rattle.mt_values.specs.declared.value.Value.TheVariants as value
use Rattle.mt_values.specs.Conditions.{Condition, Always, And, Holds, Not, Or, height, meant, tests_of}
use Rattle.mt_values.specs.Grid.{Cells, row_at, rows_within}
use Rattle.mt_values.specs.Lists.{run_of}
use Rattle.mt_values.specs.Polish.{ComesTo, joints_of}
use Rattle.mt_values.specs.Tests.{eval, meets, meets_at, meets_some}
use Rattle.mt_values.specs.Values.{Row}
use Rattle.mt_values.proofs.Masks.{over, over_all, read_next, write_next}
use Rattle.mt_values.proofs.Polish.{comes_to}
use Rattle.predicate.specs.Masks.{AreMasks, AreTwo, MayMask, both, by_rows, one, turned, with_both, with_one}

-- ---- two masks joined by an operation

module _ (op : Bool → Bool → Bool) (a b : List Bool) where
  abbrev pub joined : Bool × Bool → Bool
  joined p = op p.0 p.1

  -- the answers gone over are joined
  abbrev pub half_joined : ℕ → List Bool
  half_joined i = over (λ p. p.0) joined (zip a b) i

module _ (op : Bool → Bool → Bool) (a b : List Bool) (even : length a ≡ length b) where
  pub none_joined : a ≡ half_joined op a b 0
  none_joined = sym (firsts-zip a b (sym even))

  zip_length : length (zip a b) ≡ length b
  zip_length = omega (arith, length-zip a b, even)

  pair_at : (i : ℕ) → i < length b → (get_or a i false, get_or b i false) ≡ get_or (zip a b) i (get_or a i false, get_or b i false)
  pair_at i within =
      let left : i < length a = omega (arith, even, within) in
      sym (get_or-zip a b i (get_or a i false, get_or b i false) left within
      ∙ ap₂ (λ u v. (u, v)) (get_or_default a i (get_or a i false) false left) (get_or_default b i (get_or b i false) false within))

  pub one_joined : (mask : List Bool) (i : ℕ) → i < length b → mask ≡ half_joined op a b i
      → set mask i (op (get_or mask i false) (get_or b i false)) ≡ half_joined op a b (i + 1)
  one_joined mask i within before =
      let here : i < length (zip a b) = omega (arith, zip_length, within) in
      let pair = pair_at i within in
      ap (λ z. set mask i (op z (get_or b i false))) (read_next (λ p. p.0) (joined op a b) (zip a b) i (get_or a i false, get_or b i false) mask here pair before)
      ∙ write_next (λ p. p.0) (joined op a b) (zip a b) i (get_or a i false, get_or b i false) mask here pair before

  pub all_joined : (mask : List Bool) (i : ℕ) → length b ≤ i → mask ≡ half_joined op a b i → mask ≡ map (joined op a b) (zip a b)
  all_joined mask i end before = over_all (λ p. p.0) (joined op a b) (zip a b) i mask (omega (arith, zip_length, end)) before

-- ---- masks of rows

zip_maps : {X : Type 0} (op : Bool → Bool → Bool) (f g : X → Bool) (xs : List X) → map (λ p. op p.0 p.1) (zip (map f xs) (map g xs)) ≡ map (λ x. op (f x) (g x)) xs
zip_maps op f g [] = refl
zip_maps op f g (x ∷ xs) = ap (λ ys. op (f x) (g x) ∷ ys) (zip_maps op f g xs)

-- the mask of a condition has its truth on each row
pub masks_are : (rows : List Row) (c : Condition Test) → meant (by_rows rows) c ≡ map (eval c) rows
masks_are rows Always = refl
masks_are rows (Holds t) = refl
masks_are rows (Not c) = ap (map not) (masks_are rows c) ∙ map-map not (eval c) rows
masks_are rows (And a b) = ap₂ both (masks_are rows a) (masks_are rows b) ∙ zip_maps (λ x y. x && y) (eval a) (eval b) rows
masks_are rows (Or a b) = ap₂ one (masks_are rows a) (masks_are rows b) ∙ zip_maps (λ x y. x || y) (eval a) (eval b) rows

-- a machine of masks that begins with none ends with that of the condition
pub mask_to : (rows : List Row) (c : Condition Test) → height c ≤ MOST_TRUTHS
    → ComesTo (by_rows rows) (map (eval c) rows) (tests_of c) [] (joints_of c)
mask_to rows c few = rw (← masks_are rows c) (comes_to (by_rows rows) c few)

pub all_alike : {X : Type 0} (b : Bool) (xs : List X) (n : ℕ) → n ≡ length xs → replicate n b ≡ map (λ x. b) xs
all_alike b xs n e = ap (λ k. replicate k b) e ∙ each b xs
  where
    each : {X : Type 0} (b : Bool) (xs : List X) → replicate (length xs) b ≡ map (λ x. b) xs
    each b [] = refl
    each b (x ∷ xs) = ap (λ bs. b ∷ bs) (each b xs)

-- ---- a test of a column

any_value : Value
any_value = value.UInt8 0

-- the value of a row of columns is that of the column
value_at : (columns : List Cells) (n k place : ℕ) → All (λ (c : Cells). n ≤ length c.values) columns → k < n
    → slice_get (row_at columns k) place ≡ option_and_then (λ (c : Cells). slice_get c.values k) (slice_get columns place)
value_at [] n k place long below = refl
value_at (x ∷ xs) n k zero long below =
    let there = slice_get-get_or x.values k any_value (omega (arith, below, All-head (λ (c : Cells). n ≤ length c.values) x xs long)) in
    ap (λ o. slice_get (cons_option o (row_at xs k)) 0) there ∙ sym there
value_at (x ∷ xs) n k (suc place) long below =
    let there = slice_get-get_or x.values k any_value (omega (arith, below, All-head (λ (c : Cells). n ≤ length c.values) x xs long)) in
    ap (λ o. slice_get (cons_option o (row_at xs k)) (suc place)) there ∙ value_at xs n k place (All-tail (λ (c : Cells). n ≤ length c.values) x xs long) below

map_on_range : {Y : Type 0} (f g : ℕ → Y) (a n : ℕ) → ((k : ℕ) → a ≤ k → k < a + n → f k ≡ g k) → map f (range_with_len a n) ≡ map g (range_with_len a n)
map_on_range f g a zero e = refl
map_on_range f g a (suc n) e = ap₂ (λ y ys. y ∷ ys) (e a (omega arith) (omega arith)) (map_on_range f g (a + 1) n (λ k p q. e k (omega arith) (omega arith)))

map_shift : {Y : Type 0} (f g : ℕ → Y) (e : (k : ℕ) → f (k + 1) ≡ g k) (a n : ℕ) → map f (range_with_len (a + 1) n) ≡ map g (range_with_len a n)
map_shift f g e a zero = refl
map_shift f g e a (suc n) = ap₂ (λ y ys. y ∷ ys) (e a) (map_shift f g e (a + 1) n)

-- the values of a run, place by place
values_at : {Y : Type 0} (h : Option Value → Y) (from n : ℕ) (vs : List Value) → from + n ≤ length vs → map (λ k. h (slice_get vs k)) (range_with_len from n) ≡ map (λ v. h (Some v)) (run_of from n vs)
values_at h zero zero vs long = refl
values_at h zero (suc n) [] long = absurd (omega (arith, long))
values_at h zero (suc n) (v ∷ vs) long =
    ap (λ ys. h (Some v) ∷ ys) (map_shift (λ k. h (slice_get (v ∷ vs) k)) (λ k. h (slice_get vs k)) (λ k. ap (λ j. h (slice_get (v ∷ vs) j)) (add-one k)) 0 n ∙ values_at h zero n vs (omega (arith, long)))
values_at h (suc from) n [] long = absurd (omega (arith, long))
values_at h (suc from) n (v ∷ vs) long =
    ap (λ m. map (λ k. h (slice_get (v ∷ vs) k)) (range_with_len m n)) (sym (add-one from))
    ∙ map_shift (λ k. h (slice_get (v ∷ vs) k)) (λ k. h (slice_get vs k)) (λ k. ap (λ j. h (slice_get (v ∷ vs) j)) (add-one k)) from n
    ∙ values_at h from n vs (omega (arith, long))

pub length-rows_within : (columns : List Cells) (from n : ℕ) → length (rows_within columns from n) ≡ n
length-rows_within columns from n = length-map (range_with_len from n) (row_at columns) ∙ length-range_with_len from n

module _ (columns : List Cells) (from n : ℕ) (long : All (λ (c : Cells). from + n ≤ length c.values) columns) (t : Test) where
  by_places : map (λ row. meets_at row t) (rows_within columns from n)
      ≡ map (λ k. meets_some t (option_and_then (λ (c : Cells). slice_get c.values k) (slice_get columns t.column))) (range_with_len from n)
  by_places =
      map-map (λ row. meets_at row t) (row_at columns) (range_with_len from n)
      ∙ map_on_range (λ k. meets_at (row_at columns k) t) (λ k. meets_some t (option_and_then (λ (c : Cells). slice_get c.values k) (slice_get columns t.column))) from n
      (λ k p q. ap (meets_some t) (value_at columns (from + n) k t.column long q))

  -- a column that is there is long enough
  pub long_column : (c : Cells) → t.column < length columns → c ≡ get_or columns t.column c → from + n ≤ length c.values
  long_column c within here = subst (λ (x : Cells). from + n ≤ length x.values) (sym here) (long t.column c within)

  pub mask_of_column : (c : Cells) → t.column < length columns → c ≡ get_or columns t.column c → map (meets t) (run_of from n c.values) ≡ map (λ row. meets_at row t) (rows_within columns from n)
  mask_of_column c within here =
      let is : slice_get columns t.column ≡ Some c = slice_get_read columns (length columns) t.column c refl within here in
      sym (values_at (meets_some t) from n c.values (long_column c within here))
      ∙ sym (by_places ∙ ap (λ o. map (λ k. meets_some t (option_and_then (λ (x : Cells). slice_get x.values k) o)) (range_with_len from n)) is)

  pub mask_of_none : length columns ≤ t.column → replicate n false ≡ map (λ row. meets_at row t) (rows_within columns from n)
  mask_of_none past =
      let is : slice_get columns t.column ≡ None = slice_get_past columns t.column past in
      all_alike false (range_with_len from n) n (sym (length-range_with_len from n))
      ∙ sym (by_places ∙ ap (λ o. map (λ k. meets_some t (option_and_then (λ (x : Cells). slice_get x.values k) o)) (range_with_len from n)) is)

-- ---- joints

module _ (rows : List Row) (tests : List Test) (masks after : List (List Bool)) where
  pub two_on_and : MayMask rows tests masks joint.And → AreMasks rows masks → AreTwo masks
  two_on_and may h = go masks may.2 h
    where
      go : (ms : List (List Bool)) → ComesTo (by_rows rows) may.0 tests ms (joint.And ∷ may.1) → AreMasks rows ms → AreTwo ms
      go [] c h = c
      go (b ∷ []) c h = c
      go (b ∷ a ∷ before) c h =
          All-head (λ mask. length mask ≡ length rows) a before (All-tail (λ mask. length mask ≡ length rows) b (a ∷ before) h)
          ∙ sym (All-head (λ mask. length mask ≡ length rows) b (a ∷ before) h)

  pub two_on_or : MayMask rows tests masks joint.Or → AreMasks rows masks → AreTwo masks
  two_on_or may h = go masks may.2 h
    where
      go : (ms : List (List Bool)) → ComesTo (by_rows rows) may.0 tests ms (joint.Or ∷ may.1) → AreMasks rows ms → AreTwo ms
      go [] c h = c
      go (b ∷ []) c h = c
      go (b ∷ a ∷ before) c h =
          All-head (λ mask. length mask ≡ length rows) a before (All-tail (λ mask. length mask ≡ length rows) b (a ∷ before) h)
          ∙ sym (All-head (λ mask. length mask ≡ length rows) b (a ∷ before) h)

  pub some_on_not : MayMask rows tests masks joint.Not → 0 < length masks
  some_on_not may = go masks may.2
    where
      go : (ms : List (List Bool)) → ComesTo (by_rows rows) may.0 tests ms (joint.Not ∷ may.1) → 0 < length ms
      go [] c = absurd c
      go (b ∷ before) c = omega arith

  pub always_taken : (found : List Bool) (rest : List Joint) → after ≡ map (λ row. true) rows ∷ masks → ComesTo (by_rows rows) found tests masks (joint.Always ∷ rest)
      → ComesTo (by_rows rows) found tests after rest
  always_taken found rest is c = subst (λ ms. ComesTo (by_rows rows) found tests ms rest) (sym is) c.1

  pub test_taken : (t : Test) (found : List Bool) (rest : List Joint) → t ≡ get_or tests 0 t → after ≡ map (λ row. meets_at row t) rows ∷ masks
      → ComesTo (by_rows rows) found tests masks (joint.Test ∷ rest) → ComesTo (by_rows rows) found (take (length tests - 1) (drop 1 tests)) after rest
  test_taken t found rest first is c = go tests first c
    where
      go : (ts : List Test) → t ≡ get_or ts 0 t → ComesTo (by_rows rows) found ts masks (joint.Test ∷ rest)
          → ComesTo (by_rows rows) found (take (length ts - 1) (drop 1 ts)) after rest
      go [] e d = absurd d
      go (u ∷ us) e d =
          let same : t ≡ u = e in
          let left : take (length (u ∷ us) - 1) us ≡ us = take_all (length (u ∷ us) - 1) us (omega arith) in
          rw left (subst (λ ms. ComesTo (by_rows rows) found us ms rest) (sym (is ∙ ap (λ x. map (λ row. meets_at row x) rows ∷ masks) same)) d.1)

  pub and_taken : (found : List Bool) (rest : List Joint) → after ≡ with_both masks → ComesTo (by_rows rows) found tests masks (joint.And ∷ rest) → ComesTo (by_rows rows) found tests after rest
  and_taken found rest is c = subst (λ ms. ComesTo (by_rows rows) found tests ms rest) (sym is) (go masks c)
    where
      go : (ms : List (List Bool)) → ComesTo (by_rows rows) found tests ms (joint.And ∷ rest) → ComesTo (by_rows rows) found tests (with_both ms) rest
      go [] c = absurd c
      go (b ∷ []) c = absurd c
      go (b ∷ a ∷ before) c = c

  pub or_taken : (found : List Bool) (rest : List Joint) → after ≡ with_one masks → ComesTo (by_rows rows) found tests masks (joint.Or ∷ rest) → ComesTo (by_rows rows) found tests after rest
  or_taken found rest is c = subst (λ ms. ComesTo (by_rows rows) found tests ms rest) (sym is) (go masks c)
    where
      go : (ms : List (List Bool)) → ComesTo (by_rows rows) found tests ms (joint.Or ∷ rest) → ComesTo (by_rows rows) found tests (with_one ms) rest
      go [] c = absurd c
      go (b ∷ []) c = absurd c
      go (b ∷ a ∷ before) c = c

  pub not_taken : (found : List Bool) (rest : List Joint) → after ≡ turned masks → ComesTo (by_rows rows) found tests masks (joint.Not ∷ rest) → ComesTo (by_rows rows) found tests after rest
  not_taken found rest is c = subst (λ ms. ComesTo (by_rows rows) found tests ms rest) (sym is) (go masks c)
    where
      go : (ms : List (List Bool)) → ComesTo (by_rows rows) found tests ms (joint.Not ∷ rest) → ComesTo (by_rows rows) found tests (turned ms) rest
      go [] c = absurd c
      go (b ∷ before) c = c

-- ---- each mask has an answer for each row

module _ (rows : List Row) where
  abbrev IsFull : List Bool → Type 0
  IsFull mask = length mask ≡ length rows

  pub no_masks : AreMasks rows []
  no_masks = All-nil IsFull

  pub masks_more : (mask : List Bool) (masks after : List (List Bool)) → length mask ≡ length rows → AreMasks rows masks → after ≡ mask ∷ masks → AreMasks rows after
  masks_more mask masks after size h is = subst (AreMasks rows) (sym is) (All-cons IsFull mask masks size h)

  pub masks_turned : (masks after : List (List Bool)) → AreMasks rows masks → after ≡ turned masks → AreMasks rows after
  masks_turned [] after h is = subst (AreMasks rows) (sym is) h
  masks_turned (a ∷ before) after h is =
      subst (AreMasks rows) (sym is) (All-cons IsFull (map not a) before (length-map a not ∙ All-head IsFull a before h) (All-tail IsFull a before h))

  length_joined : (op : Bool → Bool → Bool) (a b : List Bool) → length a ≡ length rows → length b ≡ length rows → length (map (λ p. op p.0 p.1) (zip a b)) ≡ length rows
  length_joined op a b p q = length-map (zip a b) (λ p. op p.0 p.1) ∙ omega (arith, length-zip a b, p, q)

  pub masks_both : (masks after : List (List Bool)) → AreMasks rows masks → after ≡ with_both masks → AreMasks rows after
  masks_both [] after h is = subst (AreMasks rows) (sym is) h
  masks_both (b ∷ []) after h is = subst (AreMasks rows) (sym is) h
  masks_both (b ∷ a ∷ before) after h is =
      let rest = All-tail IsFull b (a ∷ before) h in
      subst (AreMasks rows) (sym is)
      (All-cons IsFull (both a b) before (length_joined (λ x y. x && y) a b (All-head IsFull a before rest) (All-head IsFull b (a ∷ before) h)) (All-tail IsFull a before rest))

  pub masks_one : (masks after : List (List Bool)) → AreMasks rows masks → after ≡ with_one masks → AreMasks rows after
  masks_one [] after h is = subst (AreMasks rows) (sym is) h
  masks_one (b ∷ []) after h is = subst (AreMasks rows) (sym is) h
  masks_one (b ∷ a ∷ before) after h is =
      let rest = All-tail IsFull b (a ∷ before) h in
      subst (AreMasks rows) (sym is)
      (All-cons IsFull (one a b) before (length_joined (λ x y. x || y) a b (All-head IsFull a before rest) (All-head IsFull b (a ∷ before) h)) (All-tail IsFull a before rest))
