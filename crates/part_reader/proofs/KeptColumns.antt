-- Keys that are kept, column by column.
use Rattle.std.proofs.Common.{◌≡◌, ℕ, zero, suc, ◌+◌, ◌<◌, ◌≤◌, ◌⊎◌, ◌↔◌, inl, inr, Bool, true, false, List, [], ◌∷◌, Some, None, refl, sym, ap, ap₂, ◌∙◌, subst, length, map, get_or, slice_get, All, arith, option_and_then}
use Rattle.std.specs.Bool.{nat_eq}
use Rattle.std.specs.Cmp.Lexicographic.{pointwise, pointwise_decides}
use Rattle.std.specs.List.{cons_option}
use Rattle.std.proofs.lemmas.Bool.{cases_lt, false≢true}
use Rattle.std.proofs.lemmas.Bool.Decides.{Decides-at, Decides-eqb}
use Rattle.std.proofs.lemmas.List.Elements.{All-head, All-map, All-tail, All-weaker}
use Rattle.std.proofs.lemmas.Option.{same_Some, slice_get-get_or, slice_get_past}
use Rattle.mt_values.specs.declared.value.Value.{Value}
use Rattle.mt_values.specs.declared.value.Value.TheVariants as value
use Rattle.mt_values.specs.Grid.{column_of}
use Rattle.mt_values.specs.Order.{key_of}
use Rattle.mt_values.specs.Values.{Row}
use Rattle.mt_values.proofs.Grids.{length-column_of, slice_get-column_of}
use Rattle.part_damage.specs.column_file.Marks.{mark_keys, with_final}
use Rattle.part_damage.proofs.PrimaryMarksKeyRows.{length-found}
use Rattle.part_damage.proofs.PrimaryMarksMarkedRows.{All-with_final, with_final-map}
use Rattle.part_reader.proofs.SameLists.{same_list}

any_value : Value
any_value = value.UInt8 0

-- ---- the values of keys at a place in them

-- past the width of the keys there is none
pub none_column : (keys : List Row) (place width : ℕ) → All (λ key. length key ≡ width) keys → width ≤ place → column_of place keys ≡ []
none_column [] place width wide past = refl
none_column (key ∷ keys) place width wide past =
    let here : slice_get key place ≡ None = slice_get_past key place (omega (arith, All-head (λ (k : Row). length k ≡ width) key keys wide)) in
    ap (λ o. cons_option o (column_of place keys)) here ∙ none_column keys place width (All-tail (λ (k : Row). length k ≡ width) key keys wide) past

pub reach_width : (keys : List Row) (place width : ℕ) → All (λ key. length key ≡ width) keys → place < width → All (λ key. place < length key) keys
reach_width keys place width wide below = All-weaker (λ (k : Row). length k ≡ width) (λ (k : Row). place < length k) (λ k e. omega arith) keys wide

pub length_kept : (keys : List Row) (place width : ℕ) → All (λ key. length key ≡ width) keys → place < width → length (column_of place keys) ≡ length keys
length_kept keys place width wide below = length-column_of place keys (reach_width keys place width wide below)

pub value_kept : (keys : List Row) (key place width : ℕ) (v : Value) → All (λ k. length k ≡ width) keys → place < width → option_and_then (λ k. slice_get k place) (slice_get keys key) ≡ Some v → slice_get (column_of place keys) key ≡ Some v
value_kept keys key place width v wide below here = slice_get-column_of place keys key (reach_width keys place width wide below) ∙ here

-- lists are alike at the places before this one
abbrev pub AreAlike : ℕ → List Value → List Value → Type 0
AreAlike n xs ys = (k : ℕ) → k < n → slice_get xs k ≡ slice_get ys k

pub alike_more : (n : ℕ) (xs ys : List Value) → AreAlike n xs ys → slice_get xs n ≡ slice_get ys n → AreAlike (n + 1) xs ys
alike_more n xs ys before this k below = either (cases_lt k n)
  where
    either : (k < n) ⊎ (n ≤ k) → slice_get xs k ≡ slice_get ys k
    either (inl h) = before k h
    either (inr h) = let same : n ≡ k = omega arith in subst (λ m. slice_get xs m ≡ slice_get ys m) same this

pub alike_all : (n : ℕ) (xs ys : List Value) → length xs ≡ length ys → length ys ≤ n → AreAlike n xs ys → xs ≡ ys
alike_all n xs ys count past alike = same_list xs ys count (λ i y here. let e = alike i (within i y here) in e ∙ here)
  where
    within : (i : ℕ) (y : Value) → slice_get ys i ≡ Some y → i < n
    within i y here = either (cases_lt i n)
      where
        either : (i < n) ⊎ (n ≤ i) → i < n
        either (inl h) = h
        either (inr h) = let none : slice_get ys i ≡ None = slice_get_past ys i (omega arith) in let both : Some y ≡ None = sym here ∙ none in absurd cc

-- ---- the answers of tests

pub decided_empty : (r : Bool) (column values : List Value) → column ≡ [] → (r ≡ true) ↔ (values ≡ []) → (r ≡ true) ↔ (column ≡ values)
decided_empty r column values none h = (λ e. none ∙ sym (h.0 e), λ e. h.1 (sym e ∙ none))

-- ---- the keys of rows

-- rows of one width with the same columns are one list
pub same_rows : (width : ℕ) (xs ys : List Row) → 0 < width → All (λ row. length row ≡ width) xs → All (λ row. length row ≡ width) ys → ((p : ℕ) → p < width → column_of p xs ≡ column_of p ys) → xs ≡ ys
same_rows width [] [] some wide even same = refl
same_rows width [] (y ∷ ys) some wide even same =
    let e = ap length (same 0 some) in
    let n = length-column_of 0 (y ∷ ys) (reach_width (y ∷ ys) 0 width even some) in
    absurd (omega (arith, e, n))
same_rows width (x ∷ xs) [] some wide even same =
    let e = ap length (same 0 some) in
    let n = length-column_of 0 (x ∷ xs) (reach_width (x ∷ xs) 0 width wide some) in
    absurd (omega (arith, e, n))
same_rows width (x ∷ xs) (y ∷ ys) some wide even same =
    ap₂ (λ (r : Row) (rs : List Row). r ∷ rs)
    (same_list x y (All-head Wide x xs wide ∙ sym (All-head Wide y ys even)) (λ p v here. head p v here))
    (same_rows width xs ys some (All-tail Wide x xs wide) (All-tail Wide y ys even) (λ p below. (parts p below).1))
  where
    Wide : Row → Type 0
    Wide row = length row ≡ width

    first : (row : Row) (rows : List Row) (p : ℕ) → length row ≡ width → p < width → column_of p (row ∷ rows) ≡ get_or row p any_value ∷ column_of p rows
    first row rows p e below = ap (λ o. cons_option o (column_of p rows)) (slice_get-get_or row p any_value (omega arith))

    parts : (p : ℕ) → p < width → (get_or x p any_value ≡ get_or y p any_value) × (column_of p xs ≡ column_of p ys)
    parts p below =
        let both : get_or x p any_value ∷ column_of p xs ≡ get_or y p any_value ∷ column_of p ys = sym (first x xs p (All-head Wide x xs wide) below) ∙ same p below ∙ first y ys p (All-head Wide y ys even) below in
        (heads both, tails both)
      where
        heads : {a b : Value} {v w : List Value} → a ∷ v ≡ b ∷ w → a ≡ b
        heads h = cc

        tails : {a b : Value} {v w : List Value} → a ∷ v ≡ b ∷ w → v ≡ w
        tails h = cc

    head : (p : ℕ) (v : Value) → slice_get y p ≡ Some v → slice_get x p ≡ Some v
    head p v here = either (cases_lt p width)
      where
        either : (p < width) ⊎ (width ≤ p) → slice_get x p ≡ Some v
        either (inl h) =
            slice_get-get_or x p any_value (omega (arith, All-head Wide x xs wide)) ∙ ap Some (parts p h).0 ∙ sym (slice_get-get_or y p any_value (omega (arith, All-head Wide y ys even))) ∙ here
        either (inr h) =
            let none : slice_get y p ≡ None = slice_get_past y p (omega (arith, All-head Wide y ys even)) in
            let both : Some v ≡ None = sym here ∙ none in
            absurd cc

-- a row has a value of each column of the key
abbrev pub HasKey : List ℕ → Row → Type 0
HasKey primary row = All (λ p. p < length row) primary

module _ (q : ℕ) (qs : List ℕ) (row : Row) (has : HasKey (q ∷ qs) row) where
  first_there : slice_get row q ≡ Some (get_or row q any_value)
  first_there = slice_get-get_or row q any_value (All-head (λ p. p < length row) q qs has)

  key_parted : key_of (q ∷ qs) row ≡ get_or row q any_value ∷ key_of qs row
  key_parted = ap (λ o. cons_option o (key_of qs row)) first_there

key_value : (primary : List ℕ) (p n : ℕ) (row : Row) → HasKey primary row → slice_get primary p ≡ Some n → slice_get (key_of primary row) p ≡ slice_get row n
key_value [] p n row has here = absurd cc
key_value (q ∷ qs) zero n row has here = ap (λ (r : Row). slice_get r 0) (key_parted q qs row has) ∙ sym (first_there q qs row has) ∙ ap (slice_get row) (same_Some q n here)
key_value (q ∷ qs) (suc k) n row has here = ap (λ (r : Row). slice_get r (suc k)) (key_parted q qs row has) ∙ key_value qs k n row (All-tail (λ p. p < length row) q qs has) here

key_column : (primary : List ℕ) (p n : ℕ) (rows : List Row) → All (HasKey primary) rows → slice_get primary p ≡ Some n → column_of p (map (key_of primary) rows) ≡ column_of n rows
key_column primary p n [] has here = refl
key_column primary p n (row ∷ rows) has here =
    ap₂ cons_option (key_value primary p n row (All-head (HasKey primary) row rows has) here) (key_column primary p n rows (All-tail (HasKey primary) row rows has) here)

column_mapped : (n : ℕ) (rows : List Row) → All (λ row. n < length row) rows → column_of n rows ≡ map (λ (row : Row). get_or row n any_value) rows
column_mapped n [] reach = refl
column_mapped n (row ∷ rows) reach =
    ap (λ o. cons_option o (column_of n rows)) (slice_get-get_or row n any_value (All-head (λ (r : Row). n < length r) row rows reach))
    ∙ ap (λ (vs : List Value). get_or row n any_value ∷ vs) (column_mapped n rows (All-tail (λ (r : Row). n < length r) row rows reach))

column_final : (g n : ℕ) (rows : List Row) → All (λ row. n < length row) rows → column_of n (with_final g rows) ≡ with_final g (column_of n rows)
column_final g n rows reach =
    column_mapped n (with_final g rows) (All-with_final (λ (r : Row). n < length r) g rows reach)
    ∙ sym (with_final-map (λ (row : Row). get_or row n any_value) g rows)
    ∙ ap (with_final g) (sym (column_mapped n rows reach))

module _ (primary : List ℕ) (g width : ℕ) (rows : List Row) (wide : All (λ row. length row ≡ width) rows) (own : All (λ p. p < width) primary) where
  has_keys : All (HasKey primary) rows
  has_keys = All-weaker (λ (r : Row). length r ≡ width) (HasKey primary) (λ r e. All-weaker (λ p. p < width) (λ p. p < length r) (λ p h. omega arith) primary own) rows wide

  -- the values of the keys of rows at a place in them
  pub mark_column : (p n : ℕ) → slice_get primary p ≡ Some n → n < width → column_of p (mark_keys primary g rows) ≡ with_final g (column_of n rows)
  mark_column p n here below =
      key_column primary p n (with_final g rows) (All-with_final (HasKey primary) g rows has_keys) here
      ∙ column_final g n rows (reach_width rows n width wide below)

  -- each key has a value of each column of the key
  pub mark_width : All (λ key. length key ≡ length primary) (mark_keys primary g rows)
  mark_width =
      All-map (λ (key : Row). length key ≡ length primary) (key_of primary) (with_final g rows)
      (All-with_final (λ (row : Row). length (key_of primary row) ≡ length primary) g rows
      (All-weaker (HasKey primary) (λ (row : Row). length (key_of primary row) ≡ length primary) (λ row has. length-found row primary has) rows has_keys))

  -- keys with these columns are those of the rows
  pub marks_by_columns : (keys : List Row) → 0 < length primary → All (λ key. length key ≡ length primary) keys → ((p n : ℕ) → slice_get primary p ≡ Some n → column_of p keys ≡ with_final g (column_of n rows)) → keys ≡ mark_keys primary g rows
  marks_by_columns keys some even each =
      same_rows (length primary) keys (mark_keys primary g rows) some even mark_width (λ p below.
      let there = slice_get-get_or primary p 0 below in
      each p (get_or primary p 0) there ∙ sym (mark_column p (get_or primary p 0) there (own p 0 below)))

-- ---- the places of a column

pub kept_places : (places : List (List ℕ)) (number : ℕ) (kept starts : List ℕ) (r : Bool) → slice_get places number ≡ Some kept → r ≡ pointwise nat_eq kept starts → (r ≡ true) ↔ (slice_get places number ≡ Some starts)
kept_places places number kept starts r here told =
    let test = Decides-at _ _ told (pointwise_decides Decides-eqb kept starts) in
    (λ e. here ∙ ap Some (test.0 e), λ e. test.1 (same_Some kept starts (sym here ∙ e)))

pub no_places : (places : List (List ℕ)) (number : ℕ) (starts : List ℕ) → slice_get places number ≡ None → (false ≡ true) ↔ (slice_get places number ≡ Some starts)
no_places places number starts none = (λ e. absurd (false≢true e), λ e. let both : Some starts ≡ None = sym e ∙ none in absurd cc)
