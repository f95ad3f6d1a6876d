-- The values of a column are all of its type.
use Rattle.std.proofs.Common.{◌≡◌, ℕ, ◌<◌, Some, refl, sym, ap, ◌∙◌, List, All, map, slice_get, get_or, length, option_map, arith, Vec, vec_len, None, Option, [], ◌∷◌, filter_map, ap₂}
use Rattle.std.specs.List.{cons_option}
use Rattle.std.proofs.lemmas.List.{length-map}
use Rattle.std.proofs.lemmas.Option.{get_or_from_slice_get, slice_get_within, slice_get-map, slice_get_read}
use Rattle.mt_values.specs.declared.value.ColType.{ColType}
use Rattle.mt_values.specs.declared.value.Value.{Value}
use Rattle.mt_values.specs.declared.value.Value.TheVariants as value
use Rattle.mt_values.specs.declared.column.Cells.{Cells as Vectors}
use Rattle.mt_values.specs.declared.column.Cells.TheVariants as cells
use Rattle.std.proofs.lemmas.List.Elements.{All-map, All-weaker}
use Rattle.mt_values.specs.Columns.{cells_of}
use Rattle.mt_values.specs.Grid.{Cells, AreOfType}
use Rattle.mt_values.specs.Values.{type_of}

typed_map : {X : Type 0} (f : X → Value) (t : ColType) (e : (x : X) → type_of (f x) ≡ t) (xs : List X) → All (λ v. type_of v ≡ t) (map f xs)
typed_map f t e xs = All-map (λ v. type_of v ≡ t) f xs (λ k d q. e _)

pub AreOfType-cells_of : (v : Vectors) → AreOfType (cells_of v)
AreOfType-cells_of (cells.UInt8 v) = typed_map value.UInt8 _ (λ x. refl) v.items
AreOfType-cells_of (cells.UInt16 v) = typed_map value.UInt16 _ (λ x. refl) v.items
AreOfType-cells_of (cells.UInt32 v) = typed_map value.UInt32 _ (λ x. refl) v.items
AreOfType-cells_of (cells.UInt64 v) = typed_map value.UInt64 _ (λ x. refl) v.items
AreOfType-cells_of (cells.Int8 v) = typed_map value.Int8 _ (λ x. refl) v.items
AreOfType-cells_of (cells.Int16 v) = typed_map value.Int16 _ (λ x. refl) v.items
AreOfType-cells_of (cells.Int32 v) = typed_map value.Int32 _ (λ x. refl) v.items
AreOfType-cells_of (cells.Int64 v) = typed_map value.Int64 _ (λ x. refl) v.items
AreOfType-cells_of (cells.Text s) = typed_map value.Text _ (λ x. refl) s

-- a value of a column is of the column's type
pub typed_at : (cells : Cells) (a : ℕ) (v : Value) → AreOfType cells → slice_get cells.values a ≡ Some v → type_of v ≡ cells.col_type
typed_at cells a v typed e = ap type_of (sym (get_or_from_slice_get cells.values a v v e)) ∙ typed a v (slice_get_within cells.values a v e)

-- a place within a column of these items is within the items
pub within_items : {X : Type 0} (f : X → Value) (t : ColType) (xs : List X) (cells : Cells) (place : ℕ) → cells ≡ record { col_type = t; values = map f xs } → place < length cells.values → place < length xs
within_items f t xs cells place is h = omega (arith, ap (λ (c : Cells). length c.values) is, length-map xs f)

-- the same, as the vector counts them
pub within_vector : {X A : Type 0} (f : X → Value) (t : ColType) (v : Vec X A) (cells : Cells) (place : ℕ) → cells ≡ record { col_type = t; values = map f v.items } → place < length cells.values → place < vec_len v
within_vector f t v cells place is h = omega (arith, within_items f t v.items cells place is h, v.ok.0)

-- what is read of the items is the column's value
pub value_read : {X : Type 0} (f : X → Value) (t : ColType) (xs : List X) (x : X) (cells : Cells) (place : ℕ) → cells ≡ record { col_type = t; values = map f xs } → place < length cells.values → x ≡ get_or xs place x → slice_get cells.values place ≡ Some (f x)
value_read f t xs x cells place is h e =
    ap (λ (c : Cells). slice_get c.values place) is
    ∙ slice_get-map f xs place
    ∙ ap (option_map f) (slice_get_read xs (length xs) place x refl (within_items f t xs cells place is h) e)

-- ---- values at places

-- places within a column of these items are within the items
pub all_within_items : {X : Type 0} (f : X → Value) (t : ColType) (xs ys : List X) (cells : Cells) (order : List ℕ) → ys ≡ xs → cells ≡ record { col_type = t; values = map f xs } → All (λ k. k < length cells.values) order → All (λ k. k < length ys) order
all_within_items f t xs ys cells order same is h =
    All-weaker (λ k. k < length cells.values) (λ k. k < length ys) (λ k below. omega (arith, ap length same, within_items f t xs cells k is below)) order h

picked_step : {X : Type 0} (f : X → Value) (rest : List X) (o : Option X) → map f (cons_option o rest) ≡ cons_option (option_map f o) (map f rest)
picked_step f rest None = refl
picked_step f rest (Some x) = refl

-- the values of picked items are the picked values
map_picked : {X : Type 0} (f : X → Value) (xs : List X) (order : List ℕ) → map f (filter_map (slice_get xs) order) ≡ filter_map (slice_get (map f xs)) order
map_picked f xs [] = refl
map_picked f xs (k ∷ order) = picked_step f (filter_map (slice_get xs) order) (slice_get xs k) ∙ ap₂ cons_option (sym (slice_get-map f xs k)) (map_picked f xs order)

-- a type and values as a column
abbrev values_from : ColType → List Value → Cells
values_from t vs = record { col_type = t; values = vs }

-- so a column of picked items has the picked values
pub picked_values : {X : Type 0} (f : X → Value) (t : ColType) (xs ys picked : List X) (cells : Cells) (order : List ℕ) → ys ≡ xs → cells ≡ record { col_type = t; values = map f xs } → picked ≡ filter_map (slice_get ys) order
    → ◌≡◌ {A = Cells} (record { col_type = t; values = map f picked }) (record { col_type = cells.col_type; values = filter_map (slice_get cells.values) order })
picked_values f t xs ys picked cells order same is e =
    ap (λ zs. values_from t (map f zs)) (e ∙ ap (λ zs. filter_map (slice_get zs) order) same)
    ∙ ap (λ vs. values_from t vs) (map_picked f xs order)
    ∙ ap (λ (c : Cells). values_from c.col_type (filter_map (slice_get c.values) order)) (sym is)
