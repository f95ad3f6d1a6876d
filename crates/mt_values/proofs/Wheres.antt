-- The items of a list at which a mask is true.
use Rattle.std.proofs.Common.{◌≡◌, OnOk, Result, Ok, Err, ℕ, ◌+◌, ◌<◌, Bool, true, false, List, [], ◌∷◌, ◌++◌, length, map, take, get_or, refl, sym, ap, ap₂, ◌∙◌, arith}
use Rattle.std.proofs.lemmas.List.{append-nil, length-take-le, map-append, take_more}
use Rattle.mt_values.specs.declared.value.ColType.{ColType}
use Rattle.mt_values.specs.declared.value.Value.{Value}
use Rattle.mt_values.specs.Grid.{Cells}
use Rattle.mt_values.specs.Lists.{where_true}

-- of two lists, one after another, they are those of each
pub where_append : {X : Type 0} (m n : List Bool) (xs ys : List X) → length m ≡ length xs → where_true (m ++ n) (xs ++ ys) ≡ where_true m xs ++ where_true n ys
where_append [] n [] ys even = refl
where_append [] n (x ∷ xs) ys even = absurd (omega (arith, even))
where_append (b ∷ m) n [] ys even = absurd (omega (arith, even))
where_append (true ∷ m) n (x ∷ xs) ys even = ap (λ zs. x ∷ zs) (where_append m n xs ys (omega (arith, even)))
where_append (false ∷ m) n (x ∷ xs) ys even = where_append m n xs ys (omega (arith, even))

-- they are among what the items are mapped to
pub where_map : {X Y : Type 0} (f : X → Y) (m : List Bool) (xs : List X) → map f (where_true m xs) ≡ where_true m (map f xs)
where_map f [] xs = refl
where_map f (b ∷ m) [] = refl
where_map f (true ∷ m) (x ∷ xs) = ap (λ ys. f x ∷ ys) (where_map f m xs)
where_map f (false ∷ m) (x ∷ xs) = where_map f m xs

module _ {X : Type 0} (mask : List Bool) (xs : List X) (i : ℕ) (within : i < length mask) (even : length mask ≡ length xs) where
  one_more : (b : Bool) (x : X) → b ≡ get_or mask i false → x ≡ get_or xs i x → where_true (take (i + 1) mask) (take (i + 1) xs) ≡ where_true (take i mask) (take i xs) ++ where_true (b ∷ []) (x ∷ [])
  one_more b x b_is x_is =
      ap₂ where_true (take_more mask i false within ∙ ap (λ c. take i mask ++ c ∷ []) (sym b_is)) (take_more xs i x (omega (arith, even, within)) ∙ ap (λ y. take i xs ++ y ∷ []) (sym x_is))
      ∙ where_append (take i mask) (b ∷ []) (take i xs) (x ∷ []) (length-take-le i mask (omega (arith, within)) ∙ sym (length-take-le i xs (omega (arith, even, within))))

  -- one item more, at which the mask is true
  pub taken_next : (x : X) → get_or mask i false ≡ true → x ≡ get_or xs i x → where_true (take (i + 1) mask) (take (i + 1) xs) ≡ where_true (take i mask) (take i xs) ++ x ∷ []
  taken_next x is x_is = one_more true x (sym is) x_is

  -- and one at which it is false
  pub passed_next : (x : X) → get_or mask i false ≡ false → x ≡ get_or xs i x → where_true (take (i + 1) mask) (take (i + 1) xs) ≡ where_true (take i mask) (take i xs)
  passed_next x is x_is = one_more false x (sym is) x_is ∙ append-nil (where_true (take i mask) (take i xs))

-- a type and values as a column
abbrev values_from : ColType → List Value → Cells
values_from t vs = record { col_type = t; values = vs }

-- a column that got the items has the values
pub added_where : {X E : Type 0} (f : X → Value) (t : ColType) (olds news from ys : List X) (mask : List Bool) (column other : Cells) (result : Result (Unit {0}) E)
    → column ≡ record { col_type = t; values = map f olds } → other ≡ record { col_type = t; values = map f from } → ys ≡ from → OnOk result (news ≡ olds ++ where_true mask ys)
    → OnOk result (◌≡◌ {A = Cells} (record { col_type = t; values = map f news }) (record { col_type = column.col_type; values = column.values ++ where_true mask other.values }))
added_where f t olds news from ys mask column other (Err e) is other_is same added = tt
added_where f t olds news from ys mask column other (Ok x) is other_is same added =
    ap (λ zs. values_from t (map f zs)) (added ∙ ap (λ zs. olds ++ where_true mask zs) same)
    ∙ ap (values_from t) (map-append f olds (where_true mask from) ∙ ap (λ vs. map f olds ++ vs) (where_map f mask from))
    ∙ ap₂ (λ (c d : Cells). values_from c.col_type (c.values ++ where_true mask d.values)) (sym is) (sym other_is)
