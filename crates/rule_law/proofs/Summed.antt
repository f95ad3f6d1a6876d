-- Rows with sums in their summed columns: what stands in each, and which rows have the same sums.
use Rattle.std.proofs.Common.{◌≡◌, ℕ, zero, suc, ◌+◌, Bool, true, false, cond, ◌||◌, ◌&&◌, nat_eq, List, [], ◌∷◌, Option, None, Some, option_map, slice_get, refl, sym, ap, ap₂, ◌∙◌, arith, pos, ◌+ℤ◌}
use Rattle.std.proofs.lemmas.Bool.Decides.{Decides-int_eq}
use Rattle.std.proofs.lemmas.Option.{slice_get-map}
use Rattle.std.specs.List.{All, cons_option, list_all, list_any}
use Rattle.std.specs.Ordering.{int_eq}
use Rattle.std.proofs.lemmas.List.Elements.{All-head, All-tail}
use Rattle.mt_values.specs.declared.value.ColType.{ColType}
use Rattle.mt_values.specs.declared.value.Value.{Value}
use Rattle.mt_values.specs.Grid.{column_of}
use Rattle.mt_values.specs.Order.{key_of}
use Rattle.mt_values.specs.Values.{Row, type_of, types_of}
use Rattle.mt_model.specs.Rules.{are_zero, is_one_of, summed, total, with_sums, with_sums_from, wrapped_as}
use Rattle.mt_values.proofs.Wrapping.{number_as, number_twice, integer_wrapped, wrapped_twice, wrapped_type}

-- ---- one column

summed_type : (b : Bool) (v : Value) (column : List Value) → type_of (summed b v column) ≡ type_of v
summed_type true v column = wrapped_type v (total column)
summed_type false v column = refl

summed_twice : (b : Bool) (v : Value) (column other : List Value) → summed b (summed b v column) other ≡ summed b v other
summed_twice true v column other = wrapped_twice v (total column) (total other)
summed_twice false v column other = refl

summed_alike : (b : Bool) (v : Value) (column other : List Value) → (b ≡ true → wrapped_as v (total column) ≡ wrapped_as v (total other)) → summed b v column ≡ summed b v other
summed_alike true v column other h = h refl
summed_alike false v column other h = refl

-- ---- which columns are summed

pub one_passes : (places : List ℕ) (test : ℕ → Bool) (place : ℕ) → is_one_of places place ≡ true → list_all test places ≡ true → test place ≡ true
one_passes [] test place one all = absurd (never one)
  where
    never : false ≡ true → ⊥
    never e = cc
one_passes (p ∷ places) test place one all = by (nat_eq place p) (test p) refl refl (one_passes places test place) one all
  where
    by : (b c : Bool) → nat_eq place p ≡ b → test p ≡ c → (is_one_of places place ≡ true → list_all test places ≡ true → test place ≡ true) → (b || list_any (nat_eq place) places) ≡ true → (c && list_all test places) ≡ true → test place ≡ true
    by true true e f more one all =
        let same : place ≡ p = grind arith in
        ap test same ∙ f
    by false true e f more one all = more one all
    by b false e f more one all = absurd (never all)
      where
        never : false ≡ true → ⊥
        never e = cc

-- ---- rows

module _ (places : List ℕ) where
  pub sums_type : (place : ℕ) (rows : List Row) (row : Row) → types_of (with_sums_from place places rows row) ≡ types_of row
  sums_type place rows [] = refl
  sums_type place rows (v ∷ vs) = ap₂ (λ t ts. t ∷ ts) (summed_type (is_one_of places place) v (column_of place rows)) (sums_type (place + 1) rows vs)

  -- what a row's summed columns had before does not matter
  pub sums_twice : (place : ℕ) (rows others : List Row) (row : Row) → with_sums_from place places others (with_sums_from place places rows row) ≡ with_sums_from place places others row
  sums_twice place rows others [] = refl
  sums_twice place rows others (v ∷ vs) =
      ap₂ (λ w ws. w ∷ ws) (summed_twice (is_one_of places place) v (column_of place rows) (column_of place others)) (sums_twice (place + 1) rows others vs)

  -- rows whose sums wrap alike in the summed columns give a row the same sums
  pub sums_alike : (place : ℕ) (rows others : List Row) (row : Row)
      → ((i at : ℕ) (v : Value) → at ≡ place + i → slice_get row i ≡ Some v → is_one_of places at ≡ true → wrapped_as v (total (column_of at rows)) ≡ wrapped_as v (total (column_of at others)))
      → with_sums_from place places rows row ≡ with_sums_from place places others row
  sums_alike place rows others [] h = refl
  sums_alike place rows others (v ∷ vs) h =
      ap₂ (λ w ws. w ∷ ws) (summed_alike (is_one_of places place) v (column_of place rows) (column_of place others) (λ one. h 0 place v (omega arith) refl one))
      (sums_alike (place + 1) rows others vs (λ i at w is found one. h (suc i) at w (omega arith) found one))

  -- what stands at a place
  pub sums_at : (place : ℕ) (rows : List Row) (row : Row) (i at : ℕ) → at ≡ place + i
      → slice_get (with_sums_from place places rows row) i ≡ option_map (λ v. summed (is_one_of places at) v (column_of at rows)) (slice_get row i)
  sums_at place rows [] i at is = refl
  sums_at place rows (v ∷ vs) zero at is = ap (λ k. Some (summed (is_one_of places k) v (column_of k rows))) (same is)
    where
      same : at ≡ place + 0 → place ≡ at
      same is = omega arith
  sums_at place rows (v ∷ vs) (suc i) at is = sums_at (place + 1) rows vs i at (omega arith)

  -- a column that is not summed is as it was
  option_same : (o : Option Value) (column : List Value) → option_map (λ v. summed false v column) o ≡ o
  option_same None column = refl
  option_same (Some v) column = refl

  pub sums_apart : (rows : List Row) (row : Row) (place : ℕ) → is_one_of places place ≡ false → slice_get (with_sums places rows row) place ≡ slice_get row place
  sums_apart rows row place none =
      sums_at 0 rows row place place (omega arith) ∙ ap (λ b. option_map (λ v. summed b v (column_of place rows)) (slice_get row place)) none ∙ option_same (slice_get row place) (column_of place rows)

  pub sums_key : (rows : List Row) (row : Row) (key : List ℕ) → All (λ place. is_one_of places place ≡ false) key → key_of key (with_sums places rows row) ≡ key_of key row
  sums_key rows row [] none = refl
  sums_key rows row (place ∷ key) none =
      ap₂ cons_option (sums_apart rows row place (All-head (λ place. is_one_of places place ≡ false) place key none))
      (sums_key rows row key (All-tail (λ place. is_one_of places place ≡ false) place key none))

-- ---- the sums of one row that has the sums of others

-- the value at a place of a row has the type of its column
pub type_at : (types : List ColType) (row : Row) (place : ℕ) (v : Value) → types_of row ≡ types → slice_get row place ≡ Some v → slice_get types place ≡ Some (type_of v)
type_at types row place v typed found = ap (λ ts. slice_get ts place) (sym typed) ∙ slice_get-map type_of row place ∙ ap (option_map type_of) found

some_type : (o : Option Value) (t : ColType) → option_map type_of o ≡ Some t → (v : Value) × (o ≡ Some v) × (type_of v ≡ t)
some_type None t e = absurd (never e)
  where
    never : ◌≡◌ {A = Option ColType} None (Some t) → ⊥
    never e = cc
some_type (Some v) t e = (v, refl, same e)
  where
    same : ◌≡◌ {A = Option ColType} (Some (type_of v)) (Some t) → type_of v ≡ t
    same e = cc

pub value_at : (types : List ColType) (row : Row) (place : ℕ) (t : ColType) → types_of row ≡ types → slice_get types place ≡ Some t → (v : Value) × (slice_get row place ≡ Some v) × (type_of v ≡ t)
value_at types row place t typed found =
    some_type (slice_get row place) t (sym (slice_get-map type_of row place) ∙ ap (λ ts. slice_get ts place) typed ∙ found)

module _ (places : List ℕ) (types : List ColType) (rows : List Row) (carried : Row) (typed : types_of carried ≡ types) where
  -- it counts as they do
  pub sums_count : (place : ℕ) (t : ColType) → slice_get types place ≡ Some t → is_one_of places place ≡ true
      → number_as t (total (column_of place (with_sums places rows carried ∷ []))) ≡ number_as t (total (column_of place rows))
  sums_count place t found one =
      let at = value_at types carried place t typed found in
      let stands : slice_get (with_sums places rows carried) place ≡ Some (wrapped_as at.0 (total (column_of place rows))) =
      sums_at places 0 rows carried place place (omega arith) ∙ ap (λ b. option_map (λ v. summed b v (column_of place rows)) (slice_get carried place)) one
      ∙ ap (option_map (λ v. summed true v (column_of place rows))) at.1 in
      ap (λ o. number_as t (total (cons_option o []))) stands
      ∙ ap (λ z. number_as t (z +ℤ pos 0)) (integer_wrapped at.0 (total (column_of place rows)) ∙ ap (λ u. number_as u (total (column_of place rows))) at.2)
      ∙ number_twice t (total (column_of place rows))

  -- what is left of them counts as they do: the row, or where its sums are 0 nothing
  pub left_counts : (out : List Row) → out ≡ cond (are_zero places (with_sums places rows carried)) [] (with_sums places rows carried ∷ [])
      → (place : ℕ) (t : ColType) → slice_get types place ≡ Some t → is_one_of places place ≡ true
      → number_as t (total (column_of place out)) ≡ number_as t (total (column_of place rows))
  left_counts out is place t found one = by (are_zero places (with_sums places rows carried)) refl is
    where
      by : (b : Bool) → are_zero places (with_sums places rows carried) ≡ b → out ≡ cond b [] (with_sums places rows carried ∷ []) → number_as t (total (column_of place out)) ≡ number_as t (total (column_of place rows))
      by true none is =
          let nothing : total (column_of place (with_sums places rows carried ∷ [])) ≡ pos 0 =
          (Decides-int_eq (total (column_of place (with_sums places rows carried ∷ []))) (pos 0)).0
          (one_passes places (λ p. int_eq (total (column_of p (with_sums places rows carried ∷ []))) (pos 0)) place one none) in
          ap (λ zs. number_as t (total (column_of place zs))) is ∙ ap (number_as t) (sym nothing) ∙ sums_count place t found one
      by false none is = ap (λ zs. number_as t (total (column_of place zs))) is ∙ sums_count place t found one
