-- The keys of rows are keys that may be kept, and such keys are those of some rows.
use Rattle.std.proofs.Common.{◌≡◌, ℕ, zero, suc, ◌+◌, ◌-◌, ◌*◌, ◌/◌, ◌^◌, ◌<◌, ◌||◌, FitsSigned, mul_comm, mul-le-mul_right, ◌≤◌, ◌⊎◌, inl, inr, Bool, true, false, cond, nat_eq, min, List, [], ◌∷◌, ◌++◌, Option, Some, None, All, refl, sym, ap, ap₂, ◌∙◌, subst, length, length-append, map, drop, slice_get, get_or, filter_map, arith, option_map}
use Rattle.std.specs.Bool.{⊤}
use Rattle.std.specs.Int.{div_ceil}
use mir.Facts.{sfits_to_z}
use mir.Val.{bits}
use Rattle.std.specs.Int.{Width, w8, w16, w32, w64, cast_signed}
use Rattle.std.specs.List.{cons_option, list_any, range_with_len}
use Rattle.std.proofs.Math.Nat.{div-mul-le_self, mul-div_cancel_left}
use Rattle.std.proofs.lemmas.Bool.{cases_lt, eq-eqb, eqb-false, eqb-true, ne_eqb}
use Rattle.std.proofs.lemmas.Grind.{div_ceil_times}
use Rattle.std.proofs.lemmas.List.{length-map, nil_from_length}
use Rattle.std.proofs.lemmas.List.FromFn.{get_or-range_with_len, length-map-range_with_len, length-range_with_len}
use Rattle.std.proofs.lemmas.List.Folds.{list_any-append}
use Rattle.std.proofs.lemmas.List.Elements.{All-cons, All-head, All-map, All-nil, All-tail, All-weaker}
use Rattle.std.proofs.lemmas.Option.{slice_get-get_or, slice_get-map}
use Rattle.mt_values.specs.declared.schema.Column.{Column}
use Rattle.mt_values.specs.declared.schema.Schema.{Schema}
use Rattle.mt_values.specs.declared.value.ColType.{ColType}
use Rattle.mt_values.specs.declared.value.ColType.TheVariants as type
use Rattle.mt_values.specs.declared.value.Value.{Value}
use Rattle.mt_values.specs.declared.value.Value.TheVariants as value
use Rattle.mt_values.specs.Order.{key_of}
use Rattle.mt_values.specs.Schemas.{column_types, double_key_at, first_repeat, key_fault}
use Rattle.mt_values.specs.Values.{FitsType, Row, type_of, types_of}
use Rattle.mt_values.proofs.Grids.{All-range, range_more, rows_at_all}
use Rattle.column_file.specs.Marks.{granule_starts, granules, keys_bytes, mark_keys, primary_bytes, with_final}
use Rattle.primary_marks.specs.Keys.{AreMarkKeys, ArePartRows, HasMarks, IsKeyOf, IsPrimaryOf, KeyShape, shape_of, ends_alone, key_shape}
use Rattle.primary_marks.proofs.KeyRows.{length-found}
use Rattle.primary_marks.proofs.KeysRead.{granules_some, one_more, slice_get-push_new, slice_get-push_old}
use Rattle.primary_marks.proofs.MarkedRows.{All-with_final, granule_below, last_only, map_on_range, map-append, map-map, with_final-map}

-- ---- the keys of rows

-- a row's key is of the key's types
key_typed : (types : List ColType) (primary : List ℕ) (row : Row) → types_of row ≡ types → All (λ p. p < length types) primary → types_of (key_of primary row) ≡ filter_map (slice_get types) primary
key_typed types [] row e own = refl
key_typed types (p ∷ primary) row e own = one (slice_get row p) refl (key_typed types primary row e (All-tail (λ p. p < length types) p primary own))
  where
    one : (o : Option Value) → slice_get row p ≡ o → types_of (key_of primary row) ≡ filter_map (slice_get types) primary → types_of (cons_option (slice_get row p) (key_of primary row)) ≡ cons_option (slice_get types p) (filter_map (slice_get types) primary)
    one None f others =
        let t : slice_get types p ≡ None = ap (λ ts. slice_get ts p) (sym e) ∙ slice_get-map type_of row p ∙ ap (option_map type_of) f in
        rw (f, t) others
    one (Some v) f others =
        let t : slice_get types p ≡ Some (type_of v) = ap (λ ts. slice_get ts p) (sym e) ∙ slice_get-map type_of row p ∙ ap (option_map type_of) f in
        rw (f, t) (ap (λ ts. type_of v ∷ ts) others)

All-cons_found : (P : Value → Type 0) (row : Row) (p : ℕ) (others : Row) → All P row → All P others → All P (cons_option (slice_get row p) others)
All-cons_found P [] p others h k = k
All-cons_found P (v ∷ row) zero others h k = All-cons P v others (All-head P v row h) k
All-cons_found P (v ∷ row) (suc p) others h k = All-cons_found P row p others (All-tail P v row h) k

key_fits : (primary : List ℕ) (row : Row) → All FitsType row → All FitsType (key_of primary row)
key_fits [] row h = All-nil FitsType
key_fits (p ∷ primary) row h = All-cons_found FitsType row p (key_of primary row) h (key_fits primary row h)

-- a row of the types, each number within its type's range
pub record IsWholeRow (types : List ColType) (row : Row) : Type 0 where
  pub typed : types_of row ≡ types
  pub fit : All FitsType row

row_key : (types : List ColType) (primary : List ℕ) (row : Row) → All (λ p. p < length types) primary → IsWholeRow types row → IsKeyOf (filter_map (slice_get types) primary) (key_of primary row)
row_key types primary row own r = record { typed = key_typed types primary row r.typed own; fit = key_fits primary row r.fit }

-- ---- a row with a key

signed : (w : Width) (n : ℕ) → n < 2 ^ bits w → FitsSigned w (cast_signed w n)
signed w n h = sfits_to_z {w = w} {n = n} (record { fits = h })

-- some value of a type
zero_of : ColType → Value
zero_of type.UInt8 = value.UInt8 0
zero_of type.UInt16 = value.UInt16 0
zero_of type.UInt32 = value.UInt32 0
zero_of type.UInt64 = value.UInt64 0
zero_of type.Int8 = value.Int8 (cast_signed w8 0)
zero_of type.Int16 = value.Int16 (cast_signed w16 0)
zero_of type.Int32 = value.Int32 (cast_signed w32 0)
zero_of type.Int64 = value.Int64 (cast_signed w64 0)
zero_of type.Text = value.Text []

zero_typed : (t : ColType) → type_of (zero_of t) ≡ t
unfolding zero_of
zero_typed type.UInt8 = refl
zero_typed type.UInt16 = refl
zero_typed type.UInt32 = refl
zero_typed type.UInt64 = refl
zero_typed type.Int8 = refl
zero_typed type.Int16 = refl
zero_typed type.Int32 = refl
zero_typed type.Int64 = refl
zero_typed type.Text = refl

zero_fits : (t : ColType) → FitsType (zero_of t)
unfolding zero_of
zero_fits type.UInt8 = omega arith
zero_fits type.UInt16 = omega arith
zero_fits type.UInt32 = omega arith
zero_fits type.UInt64 = omega arith
zero_fits type.Int8 = signed w8 0 (omega arith)
zero_fits type.Int16 = signed w16 0 (omega arith)
zero_fits type.Int32 = signed w32 0 (omega arith)
zero_fits type.Int64 = signed w64 0 (omega arith)
zero_fits type.Text = tt

-- the value that a key has for the column at a place, where it has one
abbrev value_for : ColType → ℕ → List ℕ → Row → Value
value_for t j [] vs = zero_of t
value_for t j (p ∷ ps) [] = zero_of t
value_for t j (p ∷ ps) (v ∷ vs) = cond (nat_eq j p) v (value_for t j ps vs)

chosen : (P : Value → Type 0) (b : Bool) (v w : Value) → (b ≡ true → P v) → P w → P (cond b v w)
chosen P true v w h k = h refl
chosen P false v w h k = k

-- the first of found types
found_first : (types : List ColType) (p : ℕ) (t : ColType) (ts others : List ColType) → p < length types → t ∷ ts ≡ cons_option (slice_get types p) others → (slice_get types p ≡ Some t) × (ts ≡ others)
found_first types p t ts others h e =
    let there = slice_get-get_or types p t h in
    let f : t ∷ ts ≡ get_or types p t ∷ others = e ∙ ap (λ o. cons_option o others) there in
    let same : t ≡ get_or types p t = cc in
    (there ∙ ap Some (sym same), cc)

value_for_typed : (types : List ColType) (primary : List ℕ) (key : Row) (t : ColType) (j : ℕ) → types_of key ≡ filter_map (slice_get types) primary → All (λ p. p < length types) primary → slice_get types j ≡ Some t → type_of (value_for t j primary key) ≡ t
value_for_typed types [] key t j e own there = zero_typed t
value_for_typed types (p ∷ ps) [] t j e own there = zero_typed t
value_for_typed types (p ∷ ps) (v ∷ vs) t j e own there =
    let first = found_first types p (type_of v) (types_of vs) (filter_map (slice_get types) ps) (All-head (λ p. p < length types) p ps own) e in
    chosen (λ w. type_of w ≡ t) (nat_eq j p) v (value_for t j ps vs) (λ b.
    let same : j ≡ p = eqb-true j p b in
    let both : Some (type_of v) ≡ Some t = sym first.0 ∙ ap (slice_get types) (sym same) ∙ there in
    cc)
    (value_for_typed types ps vs t j first.1 (All-tail (λ p. p < length types) p ps own) there)

value_for_fits : (primary : List ℕ) (key : Row) (t : ColType) (j : ℕ) → All FitsType key → FitsType (value_for t j primary key)
value_for_fits [] key t j fit = zero_fits t
value_for_fits (p ∷ ps) [] t j fit = zero_fits t
value_for_fits (p ∷ ps) (v ∷ vs) t j fit = chosen FitsType (nat_eq j p) v (value_for t j ps vs) (λ b. All-head FitsType v vs fit) (value_for_fits ps vs t j (All-tail FitsType v vs fit))

-- the values of the columns from a place on
abbrev row_from : ℕ → List ColType → List ℕ → Row → Row
row_from j [] primary key = []
row_from j (t ∷ ts) primary key = value_for t j primary key ∷ row_from (j + 1) ts primary key

row_from_typed : (types : List ColType) (primary : List ℕ) (key : Row) (j : ℕ) (ts : List ColType) → types_of key ≡ filter_map (slice_get types) primary → All (λ p. p < length types) primary → ((i : ℕ) → slice_get ts i ≡ slice_get types (j + i)) → types_of (row_from j ts primary key) ≡ ts
row_from_typed types primary key j [] e own same = refl
row_from_typed types primary key j (t ∷ ts) e own same =
    let here : j + 0 ≡ j = omega arith in
    ap₂ (λ u us. u ∷ us) (value_for_typed types primary key t j e own (ap (slice_get types) (sym here) ∙ sym (same 0)))
    (row_from_typed types primary key (j + 1) ts e own (λ i. let up : j + suc i ≡ j + 1 + i = omega arith in same (suc i) ∙ ap (slice_get types) up))

row_from_fits : (primary : List ℕ) (key : Row) (j : ℕ) (ts : List ColType) → All FitsType key → All FitsType (row_from j ts primary key)
row_from_fits primary key j [] fit = All-nil FitsType
row_from_fits primary key j (t ∷ ts) fit = All-cons FitsType (value_for t j primary key) (row_from (j + 1) ts primary key) (value_for_fits primary key t j fit) (row_from_fits primary key (j + 1) ts fit)

row_from_get : (j : ℕ) (ts : List ColType) (primary : List ℕ) (key : Row) (p k : ℕ) (t : ColType) → k ≡ j + p → slice_get ts p ≡ Some t → slice_get (row_from j ts primary key) p ≡ Some (value_for t k primary key)
row_from_get j [] primary key p k t e there = cc
row_from_get j (u ∷ ts) primary key zero k t e there =
    let same : u ≡ t = cc in
    let here : j ≡ k = omega arith in
    ap₂ (λ s i. Some (value_for s i primary key)) same here
row_from_get j (u ∷ ts) primary key (suc p) k t e there = row_from_get (j + 1) ts primary key p k t (omega arith) there

-- ---- a key names no column twice

abbrev AreDistinct : List ℕ → Type 0
AreDistinct [] = ⊤
AreDistinct (p ∷ ps) = All (λ q. q ≡ p → ⊥) ps × AreDistinct ps

or_false : (a b : Bool) → (a || b) ≡ false → (a ≡ false) × (b ≡ false)
or_false true b e = absurd cc
or_false false true e = absurd cc
or_false false false e = (refl, refl)

not_told : {X : Type 0} (b : Bool) (x : X) (rest : Option X) → cond b (Some x) rest ≡ None → (b ≡ false) × (rest ≡ None)
not_told true x rest e = absurd cc
not_told false x rest e = (refl, e)

no_repeat : (place : ℕ) (earlier xs : List ℕ) → first_repeat nat_eq double_key_at place earlier xs ≡ None → AreDistinct xs × All (λ x. list_any (λ y. nat_eq y x) earlier ≡ false) xs
no_repeat place earlier [] e = (tt, All-nil (λ x. list_any (λ y. nat_eq y x) earlier ≡ false))
no_repeat place earlier (x ∷ xs) e =
    let this = not_told (list_any (λ y. nat_eq y x) earlier) (double_key_at place x) (first_repeat nat_eq double_key_at (place + 1) (earlier ++ x ∷ []) xs) e in
    let others = no_repeat (place + 1) (earlier ++ x ∷ []) xs this.1 in
    let parted : (k d : ℕ) → k < length xs → (list_any (λ y. nat_eq y (get_or xs k d)) earlier ≡ false) × (list_any (λ y. nat_eq y (get_or xs k d)) (x ∷ []) ≡ false) =
    λ k d h. or_false (list_any (λ y. nat_eq y (get_or xs k d)) earlier) (list_any (λ y. nat_eq y (get_or xs k d)) (x ∷ []))
    (sym (list_any-append (λ y. nat_eq y (get_or xs k d)) earlier (x ∷ [])) ∙ others.1 k d h) in (
      ((λ k d h. λ same. eqb-false x (get_or xs k d) ((or_false (nat_eq x (get_or xs k d)) false (parted k d h).1).0) (sym same)), others.0),
      All-cons (λ z. list_any (λ y. nat_eq y z) earlier ≡ false) x xs this.0 (λ k d h. (parted k d h).0),
    )

-- a row with a key has it
keyed : (row : Row) (types : List ColType) (ps : List ℕ) (vs : Row) → AreDistinct ps → length ps ≡ length vs → All (λ q. (t : ColType) → slice_get types q ≡ Some t → slice_get row q ≡ Some (value_for t q ps vs)) ps → All (λ q. q < length types) ps → filter_map (slice_get row) ps ≡ vs
keyed row types [] [] d len all own = refl
keyed row types [] (v ∷ vs) d len all own = absurd (omega arith)
keyed row types (p ∷ ps) [] d len all own = absurd (omega arith)
keyed row types (p ∷ ps) (v ∷ vs) d len all own =
    let P : ℕ → Type 0 = λ q. (t : ColType) → slice_get types q ≡ Some t → slice_get row q ≡ Some (cond (nat_eq q p) v (value_for t q ps vs)) in
    let t = get_or types p type.UInt8 in
    let there = slice_get-get_or types p type.UInt8 (All-head (λ q. q < length types) p ps own) in
    let head : slice_get row p ≡ Some v = All-head P p ps all t there ∙ ap (λ b. Some (cond b v (value_for t p ps vs))) (eq-eqb p p refl) in
    let tail = All-tail P p ps all in
    ap (λ o. cons_option o (filter_map (slice_get row) ps)) head
    ∙ ap (λ xs. v ∷ xs) (keyed row types ps vs d.1 (omega arith) (λ k e h. λ u f.
    tail k e h u f ∙ ap (λ b. Some (cond b v (value_for u (get_or ps k e) ps vs))) (ne_eqb (get_or ps k e) p (d.0 k e h))) (All-tail (λ q. q < length types) p ps own))

row_with : List ColType → List ℕ → Row → Row
row_with types primary key = row_from 0 types primary key

row_whole : (types : List ColType) (primary : List ℕ) (key : Row) → All (λ p. p < length types) primary → IsKeyOf (filter_map (slice_get types) primary) key → IsWholeRow types (row_with types primary key)
unfolding row_with
row_whole types primary key own k = record {
  typed = row_from_typed types primary key 0 types k.typed own (λ i. let up : i ≡ 0 + i = omega arith in ap (slice_get types) up);
  fit = row_from_fits primary key 0 types k.fit;
}

row_has : (types : List ColType) (primary : List ℕ) (key : Row) → AreDistinct primary → All (λ p. p < length types) primary → IsKeyOf (filter_map (slice_get types) primary) key → key_of primary (row_with types primary key) ≡ key
unfolding row_with
row_has types primary key d own k =
    keyed (row_from 0 types primary key) types primary key d
    (sym (length-found types primary own) ∙ sym (ap length k.typed) ∙ length-map key type_of)
    (λ i e h. λ t there. row_from_get 0 types primary key (get_or primary i e) (get_or primary i e) t (omega arith) there) own

-- ---- rows with keys

div_below : (k n g : ℕ) → 0 < g → k < n → k / g < div_ceil n g
div_below k n g some h = either (cases_lt (k / g) (div_ceil n g))
  where
    either : (k / g < div_ceil n g) ⊎ (div_ceil n g ≤ k / g) → k / g < div_ceil n g
    either (inl below) = below
    either (inr past) =
        let covers = (div_ceil_times n g some).0 in
        let more : div_ceil n g * g ≤ k / g * g = mul-le-mul_right g past in
        absurd (omega (arith, covers, more, div-mul-le_self k g))

-- a granule that begins with the last row is the last
alone_last : (j n g : ℕ) → 0 < g → g * j + 1 ≡ n → div_ceil n g ≡ j + 1
alone_last j n g some e = either (cases_lt j (div_ceil n g)) (cases_lt (j + 1) (div_ceil n g))
  where
    times : (n ≤ div_ceil n g * g) × (div_ceil n g * g < n + g)
    times = div_ceil_times n g some

    either : (j < div_ceil n g) ⊎ (div_ceil n g ≤ j) → (j + 1 < div_ceil n g) ⊎ (div_ceil n g ≤ j + 1) → div_ceil n g ≡ j + 1
    either (inl low) (inr high) = omega arith
    either (inr low) other =
        let less : div_ceil n g * g ≤ j * g = mul-le-mul_right g low in
        absurd (omega (arith, times.0, less, mul_comm j g))
    either (inl low) (inl past) =
        let more : (j + 2) * g ≤ div_ceil n g * g = mul-le-mul_right g (omega arith) in
        let spread : (j + 2) * g ≡ g * j + g + g = omega (arith, mul_comm j g) in
        absurd (omega (arith, times.1, more, spread))

map_on_all : {X Y : Type 0} (f h : X → Y) (xs : List X) → All (λ x. f x ≡ h x) xs → map f xs ≡ map h xs
map_on_all f h [] all = refl
map_on_all f h (x ∷ xs) all = ap₂ (λ y ys. y ∷ ys) (All-head (λ z. f z ≡ h z) x xs all) (map_on_all f h xs (All-tail (λ z. f z ≡ h z) x xs all))

filter_map_some : (f : ℕ → Option ℕ) (h : ℕ → ℕ) (a m : ℕ) → ((k : ℕ) → k < a + m → f k ≡ Some (h k)) → filter_map f (range_with_len a m) ≡ map h (range_with_len a m)
filter_map_some f h a zero e = refl
filter_map_some f h a (suc m) e = ap₂ cons_option (e a (omega arith)) (filter_map_some f h (a + 1) m (λ k q. e k (omega arith)))

pub range_item : (n i : ℕ) → i < n → slice_get (range_with_len 0 n) i ≡ Some i
range_item n i h =
    let none : 0 + i ≡ i = omega arith in
    slice_get-get_or (range_with_len 0 n) i 0 (omega (arith, length-range_with_len 0 n)) ∙ ap Some (get_or-range_with_len 0 n i 0 h ∙ none)

final_range : (n g : ℕ) → 0 < n → 0 < g → with_final g (range_with_len 0 n) ≡ map (λ j. g * j) (range_with_len 0 (granules g n)) ++ (n - 1) ∷ []
final_range n g some large =
    let xs = range_with_len 0 n in
    let len = length-range_with_len 0 n in
    let starts : granule_starts g xs ≡ map (λ j. g * j) (range_with_len 0 (granules g n)) =
    ap (λ m. filter_map (λ j. slice_get xs (g * j)) (range_with_len 0 (granules g m))) len
    ∙ filter_map_some (λ j. slice_get xs (g * j)) (λ j. g * j) 0 (granules g n) (λ j h. range_item n (g * j) (granule_below n g j large (omega arith))) in
    let last : slice_get xs (length xs - 1) ≡ Some (n - 1) = ap (λ m. slice_get xs (m - 1)) len ∙ range_item n (n - 1) (omega arith) in
    ap₂ (λ a b. a ++ b) starts (last_only xs (n - 1) last)

pub no_granules : (g : ℕ) → 0 < g → granules g 0 ≡ 0
no_granules g large = either (cases_lt 0 (granules g 0))
  where
    either : (0 < granules g 0) ⊎ (granules g 0 ≤ 0) → granules g 0 ≡ 0
    either (inr h) = omega arith
    either (inl h) =
        let more : 1 * g ≤ granules g 0 * g = mul-le-mul_right g h in
        absurd (omega (arith, (div_ceil_times 0 g large).1, more))

drop_none : {X : Type 0} (k : ℕ) → drop {A = X} k [] ≡ []
drop_none zero = refl
drop_none (suc k) = refl

pub none_kept : (primary : List ℕ) (g : ℕ) → 0 < g → mark_keys primary g [] ≡ []
none_kept primary g large =
    ap₂ (λ m r. map (key_of primary) (filter_map (λ k. slice_get [] (g * k)) (range_with_len 0 m) ++ r)) (no_granules g large) (drop_none (0 - 1))

module _ (types : List ColType) (primary : List ℕ) (g n : ℕ) (keys : List Row) (large : 0 < g) (own : All (λ p. p < length types) primary) (d : AreDistinct primary) (kept : AreMarkKeys (key_shape (filter_map (slice_get types) primary) g n) keys) where
  shape : KeyShape
  shape = key_shape (filter_map (slice_get types) primary) g n

  -- the key of the row at a place
  key_at : ℕ → Row
  key_at k = cond (nat_eq (k + 1) n) (get_or keys (granules g n) []) (get_or keys (k / g) [])

  row_of : ℕ → Row
  row_of k = row_with types primary (key_at k)

  size : 0 < n → length keys ≡ granules g n + 1
  size some = kept.count_is ∙ one_more (key_shape (filter_map (slice_get types) primary) g n) some

  key_sound : (k : ℕ) → k < n → IsKeyOf (filter_map (slice_get types) primary) (key_at k)
  unfolding key_at
  key_sound k h = either (nat_eq (k + 1) n)
    where
      either : (b : Bool) → IsKeyOf (filter_map (slice_get types) primary) (cond b (get_or keys (granules g n) []) (get_or keys (k / g) []))
      either true = kept.each (granules g n) [] (omega (arith, size (omega arith)))
      either false = kept.each (k / g) [] (omega (arith, size (omega arith), div_below k n g large h))

  pub made_rows : List Row
  made_rows = map row_of (range_with_len 0 n)

  pub made_length : length made_rows ≡ n
  unfolding made_rows
  made_length = length-map-range_with_len row_of 0 n

  pub made_whole : All (IsWholeRow types) made_rows
  unfolding made_rows row_of
  made_whole = All-map (IsWholeRow types) row_of (range_with_len 0 n) (All-range (λ k. IsWholeRow types (row_of k)) n (λ k h. row_whole types primary (key_at k) own (key_sound k h)))

  first_key : (j : ℕ) → j < granules g n → 0 < n → key_at (g * j) ≡ get_or keys j []
  unfolding key_at
  first_key j h some = either (nat_eq (g * j + 1) n) refl
    where
      either : (b : Bool) → nat_eq (g * j + 1) n ≡ b → cond b (get_or keys (granules g n) []) (get_or keys (g * j / g) []) ≡ get_or keys j []
      either false e = ap (λ k. get_or keys k []) (mul-div_cancel_left j large)
      either true e =
          let is : g * j + 1 ≡ n = eqb-true (g * j + 1) n e in
          let last : granules g n ≡ j + 1 = alone_last j n g large is in
          let one : granules g n - 1 ≡ j = omega arith in
          let alone : ends_alone (key_shape (filter_map (slice_get types) primary) g n) ≡ true = eq-eqb (g * (granules g n - 1) + 1) n (ap (λ k. g * k + 1) one ∙ is) in
          let same : slice_get keys j ≡ slice_get keys (granules g n) = ap (slice_get keys) (sym one) ∙ kept.final alone in
          let both : Some (get_or keys j []) ≡ Some (get_or keys (granules g n) []) =
          sym (slice_get-get_or keys j [] (omega (arith, size some))) ∙ same ∙ slice_get-get_or keys (granules g n) [] (omega (arith, size some)) in
          cc

  last_key : 0 < n → key_at (n - 1) ≡ get_or keys (granules g n) []
  unfolding key_at
  last_key some =
      let up : n - 1 + 1 ≡ n = omega arith in
      ap (λ b. cond b (get_or keys (granules g n) []) (get_or keys ((n - 1) / g) [])) (eq-eqb (n - 1 + 1) n up)

  some_keys : 0 < n → mark_keys primary g made_rows ≡ keys
  unfolding made_rows row_of
  some_keys some =
      let xs = range_with_len 0 n in
      let G = granules g n in
      ap (map (key_of primary)) (with_final-map row_of g xs)
      ∙ map-map (key_of primary) row_of (with_final g xs)
      ∙ map_on_all (λ k. key_of primary (row_of k)) key_at (with_final g xs) (All-with_final (λ k. key_of primary (row_of k) ≡ key_at k) g xs
      (All-range (λ k. key_of primary (row_of k) ≡ key_at k) n (λ k h. row_has types primary (key_at k) d own (key_sound k h))))
      ∙ ap (map key_at) (final_range n g some large)
      ∙ map-append key_at (map (λ j. g * j) (range_with_len 0 G)) ((n - 1) ∷ [])
      ∙ ap₂ (λ ks k. ks ++ k ∷ []) (map-map key_at (λ j. g * j) (range_with_len 0 G) ∙ map_on_range (λ j. key_at (g * j)) (λ j. get_or keys j []) 0 G (λ j h. first_key j (omega arith) some)) (last_key some)
      ∙ sym (map-append (λ j. get_or keys j []) (range_with_len 0 G) (G ∷ []))
      ∙ ap (map (λ j. get_or keys j [])) (sym (range_more G))
      ∙ ap (λ m. map (λ j. get_or keys j []) (range_with_len 0 m)) (sym (size some))
      ∙ rows_at_all keys

  no_keys : n ≡ 0 → mark_keys primary g made_rows ≡ keys
  unfolding made_rows
  no_keys none =
      let empty : map row_of (range_with_len 0 n) ≡ [] = ap (λ m. map row_of (range_with_len 0 m)) none in
      let few : length keys ≡ 0 = let one : min 1 n ≡ 0 = omega arith in kept.count_is ∙ ap₂ (λ a b. a + b) (ap (granules g) none ∙ no_granules g large) one in
      ap (mark_keys primary g) empty ∙ none_kept primary g large ∙ sym (nil_from_length keys few)

  pub made_keys : mark_keys primary g made_rows ≡ keys
  made_keys = either (cases_lt 0 n)
    where
      either : (0 < n) ⊎ (n ≤ 0) → mark_keys primary g made_rows ≡ keys
      either (inl h) = some_keys h
      either (inr h) = no_keys (omega arith)

-- ---- the two directions

own_types : (schema : Schema) → All (λ p. p < length schema.columns) schema.primary → All (λ p. p < length (column_types schema)) schema.primary
own_types schema own = subst (λ n. All (λ p. p < n) schema.primary) (sym (length-map schema.columns (λ (c : Column). c.col_type))) own

-- the keys of some rows, by the places of these
pub kept_by_places : (primary : List ℕ) (g : ℕ) (rows : List Row) → 0 < length rows → 0 < g → mark_keys primary g rows ≡ map (λ k. key_of primary (get_or rows k [])) (map (λ j. g * j) (range_with_len 0 (granules g (length rows))) ++ (length rows - 1) ∷ [])
kept_by_places primary g rows some large =
    let r : ℕ → Row = λ k. get_or rows k [] in
    ap (mark_keys primary g) (sym (rows_at_all rows)) ∙ ap (map (key_of primary)) (with_final-map r g (range_with_len 0 (length rows)) ∙ ap (map r) (final_range (length rows) g some large))
    ∙ map-map (key_of primary) r (map (λ j. g * j) (range_with_len 0 (granules g (length rows))) ++ (length rows - 1) ∷ [])

some_rows_kept : (types : List ColType) (primary : List ℕ) (g : ℕ) (rows : List Row) → 0 < length rows → 0 < g → All (λ p. p < length types) primary → All (IsWholeRow types) rows → AreMarkKeys (key_shape (filter_map (slice_get types) primary) g (length rows)) (mark_keys primary g rows)
some_rows_kept types primary g rows some large own whole =
    let n = length rows in
    let G = granules g (length rows) in
    let key : ℕ → Row = λ k. key_of primary (get_or rows k []) in
    let starts = map (λ j. g * j) (range_with_len 0 (granules g (length rows))) in
    let marked = starts ++ (length rows - 1) ∷ [] in
    let by : mark_keys primary g rows ≡ map key marked = kept_by_places primary g rows some large in
    let len : length starts ≡ G = length-map-range_with_len (λ j. g * j) 0 (granules g (length rows)) in
    record {
      each = All-map (IsKeyOf (filter_map (slice_get types) primary)) (key_of primary) (with_final g rows)
          (All-weaker (IsWholeRow types) (λ row. IsKeyOf (filter_map (slice_get types) primary) (key_of primary row)) (λ row r. row_key types primary row own r) (with_final g rows) (All-with_final (IsWholeRow types) g rows whole));
      count_is = ap length by ∙ length-map marked key ∙ length-append starts ((n - 1) ∷ []) ∙ ap (λ k. k + 1) len ∙ sym (one_more (key_shape (filter_map (slice_get types) primary) g n) some);
      final = λ alone.
          let one : g * (G - 1) + 1 ≡ n = eqb-true (g * (G - 1) + 1) n alone in
          let there = granules_some n g some large in
          let last : slice_get marked (G - 1) ≡ Some (g * (G - 1)) =
          slice_get-push_old starts (n - 1) (G - 1) (omega (arith, len)) ∙ slice_get-map (λ j. g * j) (range_with_len 0 G) (G - 1) ∙ ap (option_map (λ j. g * j)) (range_item G (G - 1) (omega arith)) in
          let end : slice_get marked G ≡ Some (n - 1) = slice_get-push_new starts (n - 1) G len in
          let same : g * (G - 1) ≡ n - 1 = omega arith in
          ap (λ (ks : List Row). slice_get ks (G - 1)) by ∙ slice_get-map key marked (G - 1) ∙ ap (option_map key) (last ∙ ap Some same ∙ sym end)
          ∙ sym (slice_get-map key marked G) ∙ ap (λ (ks : List Row). slice_get ks G) (sym by);
    }

no_rows_kept : (types : List ColType) (primary : List ℕ) (g : ℕ) → 0 < g → AreMarkKeys (key_shape (filter_map (slice_get types) primary) g 0) (mark_keys primary g [])
no_rows_kept types primary g large =
    subst (AreMarkKeys (key_shape (filter_map (slice_get types) primary) g 0)) (sym (none_kept primary g large)) record {
      each = All-nil (IsKeyOf (filter_map (slice_get types) primary));
      count_is = let one : min 1 0 ≡ 0 = omega arith in sym (ap₂ (λ a b. a + b) (no_granules g large) one);
      final = λ alone. refl;
    }

rows_kept : (types : List ColType) (primary : List ℕ) (g : ℕ) (rows : List Row) → 0 < g → All (λ p. p < length types) primary → All (IsWholeRow types) rows → AreMarkKeys (key_shape (filter_map (slice_get types) primary) g (length rows)) (mark_keys primary g rows)
rows_kept types primary g [] large own whole = no_rows_kept types primary g large
rows_kept types primary g (row ∷ rows) large own whole = some_rows_kept types primary g (row ∷ rows) (omega arith) large own whole

pub keys_from_rows : (schema : Schema) (rows : List Row) → HasMarks schema → ArePartRows schema (length rows) rows → IsPrimaryOf (shape_of schema (length rows)) (primary_bytes schema.primary schema.granularity rows) (mark_keys schema.primary schema.granularity rows)
keys_from_rows schema rows has part = record {
  kept = rows_kept (column_types schema) schema.primary schema.granularity rows has.granularity (own_types schema has.own) (λ k e h. record { typed = part.typed k e h; fit = part.fit k e h });
  spelled = refl;
}

pub rows_from_keys : (schema : Schema) (count : ℕ) (bytes : List ℕ) (keys : List Row) → HasMarks schema → key_fault schema.primary ≡ None → IsPrimaryOf (shape_of schema count) bytes keys
    → (rows : List Row) × ArePartRows schema count rows × (bytes ≡ primary_bytes schema.primary schema.granularity rows) × (keys ≡ mark_keys schema.primary schema.granularity rows)
rows_from_keys schema count bytes keys has distinct p =
    let types = column_types schema in
    let own = own_types schema has.own in
    let d = (no_repeat 0 [] schema.primary distinct).0 in
    let rows = made_rows types schema.primary schema.granularity count keys has.granularity own d p.kept in
    let whole = made_whole types schema.primary schema.granularity count keys has.granularity own d p.kept in
    let same = made_keys types schema.primary schema.granularity count keys has.granularity own d p.kept in (
      rows,
      record {
        count_is = made_length types schema.primary schema.granularity count keys has.granularity own d p.kept;
        typed = λ k e h. (whole k e h).typed;
        fit = λ k e h. (whole k e h).fit;
      },
      p.spelled ∙ ap keys_bytes (sym same),
      sym same,
    )
