-- Rows of a table are such rows after a change that the table may have.
use Rattle.std.proofs.Common.{◌≡◌, ℕ, zero, suc, Bool, true, false, cond, ◌||◌, ◌+ℤ◌, ◌-ℤ◌, nat_eq, not, List, [], ◌∷◌, map, Option, None, Some, slice_get, set, refl, sym, ap, ◌∙◌, subst, pos, negsuc}
use Rattle.std.specs.List.{All, list_any}
use Rattle.std.specs.Option.{option_map}
use Rattle.std.proofs.lemmas.Bool.{eq-eqb}
use Rattle.std.proofs.lemmas.List.Elements.{All-cons, All-filter, All-head, All-nil, All-tail, All-weaker}
use Rattle.std.proofs.lemmas.Option.{same_Some, slice_get-map}
use Rattle.mt_values.specs.declared.change.Assigned.{Assigned}
use Rattle.mt_values.specs.declared.change.Assigned.TheVariants as assigned
use Rattle.mt_values.specs.declared.change.Assignment.{Assignment}
use Rattle.mt_values.specs.declared.change.Change.{Change}
use Rattle.mt_values.specs.declared.change.Change.TheVariants as change
use Rattle.mt_values.specs.declared.schema.Column.{Column}
use Rattle.mt_values.specs.declared.schema.Schema.{Schema}
use Rattle.mt_values.specs.declared.value.ColType.{ColType}
use Rattle.mt_values.specs.declared.value.Value.{Value}
use Rattle.mt_values.specs.Changes.{changed, updated, value_for, with_value}
use Rattle.mt_values.specs.Engines.{is_at, is_sign, keeps_sign, sign_place, summed_places, version_place}
use Rattle.mt_values.specs.Order.{rank_of}
use Rattle.mt_values.specs.Schemas.{column_types}
use Rattle.mt_values.specs.Sums.{integer_of, less, plus, wrapped_as}
use Rattle.mt_values.specs.Tests.{eval}
use Rattle.mt_values.specs.Values.{FitsType, IsValue, Row, type_of, types_of}
use Rattle.mt_values.proofs.RowPartitions.{values_fit}
use Rattle.mt_values.proofs.Wrapping.{less_type, plus_type}
use Rattle.mt_model.specs.Mutations.{IsAssignable, IsAssignment, IsChangeOf, is_folded, is_protected}
use Rattle.rule_law.specs.TableRows.{IsTableRow}
use Rattle.rule_law.proofs.Assigned.{AssignFree, assigned_to, updated_kept}
use Rattle.rule_law.proofs.Ranges.{wrapped_fits}

-- ---- what is assigned is of its column's type, and within its range

-- the value is of the type of the column at the place, and fits it
pub record FitsPlace (types : List ColType) (place : ℕ) (v : Value) : Type 0 where
  pub typed : slice_get types place ≡ Some (type_of v)
  pub fits : FitsType v

plus_fits : (v w : Value) → FitsType v → FitsType (plus v w)
plus_fits v w own = by (nat_eq (rank_of v) (rank_of w))
  where
    by : (b : Bool) → FitsType (cond b (wrapped_as v (integer_of v +ℤ integer_of w)) v)
    by true = wrapped_fits v (integer_of v +ℤ integer_of w)
    by false = own

less_fits : (v w : Value) → FitsType v → FitsType (less v w)
less_fits v w own = by (nat_eq (rank_of v) (rank_of w))
  where
    by : (b : Bool) → FitsType (cond b (wrapped_as v (integer_of v -ℤ integer_of w)) v)
    by true = wrapped_fits v (integer_of v -ℤ integer_of w)
    by false = own

-- the value at a place of a row of these types
at_place : (row : Row) (i : ℕ) (v : Value) → All FitsType row → slice_get row i ≡ Some v → FitsType v
at_place [] i v fits is = absurd (never is)
  where
    never : ◌≡◌ {A = Option Value} None (Some v) → ⊥
    never e = cc
at_place (x ∷ row) zero v fits is = subst FitsType (same_Some x v is) (All-head FitsType x row fits)
at_place (x ∷ row) (suc i) v fits is = at_place row i v (All-tail FitsType x row fits) is

module _ (types : List ColType) where
  source_fits : (row : Row) (place source : ℕ) (t : ColType) (v : Value) → types_of row ≡ types → All FitsType row → slice_get types place ≡ Some t → slice_get types source ≡ Some t
      → slice_get row source ≡ Some v → FitsPlace types place v
  source_fits row place source t v typed fits one other is =
      let found : slice_get types source ≡ Some (type_of v) = ap (λ ts. slice_get ts source) (sym typed) ∙ (slice_get-map type_of row source ∙ ap (option_map type_of) is) in
      record { typed = one ∙ (sym other ∙ found); fits = at_place row source v fits is }

  -- what is read of a column and made another value of its type
  made_fits : (row : Row) (place source : ℕ) (t : ColType) (f : Value → Value) → ((v : Value) → type_of (f v) ≡ type_of v) → ((v : Value) → FitsType v → FitsType (f v))
      → types_of row ≡ types → All FitsType row → slice_get types place ≡ Some t → slice_get types source ≡ Some t
      → (o : Option Value) → slice_get row source ≡ o → (w : Value) → option_map f o ≡ Some w → FitsPlace types place w
  made_fits row place source t f kind range typed fits one other None is w made = absurd (never made)
    where
      never : ◌≡◌ {A = Option Value} None (Some w) → ⊥
      never e = cc
  made_fits row place source t f kind range typed fits one other (Some v) is w made =
      let own = source_fits row place source t v typed fits one other is in
      let same : f v ≡ w = same_Some (f v) w made in
      record { typed = own.typed ∙ ap Some (sym (kind v) ∙ ap type_of same); fits = subst FitsType same (range v own.fits) }

  assigned_fits : (row : Row) (place : ℕ) (x : Assigned) (w : Value) → types_of row ≡ types → All FitsType row → IsAssignable types place x → value_for row x ≡ Some w → FitsPlace types place w
  assigned_fits row place (assigned.Literal v) w typed fits may is =
      let same : v ≡ w = same_Some v w is in
      subst (FitsPlace types place) same (record { typed = may.typed; fits = All-head FitsType v [] (values_fit (v ∷ []) (All-cons IsValue v [] may.held (All-nil IsValue))) })
  assigned_fits row place (assigned.Column source) w typed fits may is = source_fits row place source may.col_type w typed fits may.one may.other is
  assigned_fits row place (assigned.Plus source number) w typed fits may is =
      made_fits row place source may.0.col_type (λ v. plus v number) (λ v. plus_type v number) (λ v own. plus_fits v number own) typed fits may.0.one may.0.other (slice_get row source) refl w is
  assigned_fits row place (assigned.Minus source number) w typed fits may is =
      made_fits row place source may.0.col_type (λ v. less v number) (λ v. less_type v number) (λ v own. less_fits v number own) typed fits may.0.one may.0.other (slice_get row source) refl w is

  -- ---- a row with such a value is one of these types

  set_types : (row : Row) (i : ℕ) (v : Value) → slice_get (types_of row) i ≡ Some (type_of v) → types_of (set row i v) ≡ types_of row
  set_types [] i v is = refl
  set_types (x ∷ row) zero v is = ap (λ t. t ∷ types_of row) (sym (same_Some (type_of x) (type_of v) is))
  set_types (x ∷ row) (suc i) v is = ap (λ ts. type_of x ∷ ts) (set_types row i v is)

  set_fits : (row : Row) (i : ℕ) (v : Value) → All FitsType row → FitsType v → All FitsType (set row i v)
  set_fits [] i v fits own = fits
  set_fits (x ∷ row) zero v fits own = All-cons FitsType v row own (All-tail FitsType x row fits)
  set_fits (x ∷ row) (suc i) v fits own = All-cons FitsType x (set row i v) (All-head FitsType x row fits) (set_fits row i v (All-tail FitsType x row fits) own)

  -- the types and the ranges of a row
  pub record IsTyped (row : Row) : Type 0 where
    pub typed : types_of row ≡ types
    pub fits : All FitsType row

  put_typed : (row : Row) (place : ℕ) (o : Option Value) → IsTyped row → ((w : Value) → o ≡ Some w → FitsPlace types place w) → IsTyped (with_value row place o)
  put_typed row place None own h = own
  put_typed row place (Some v) own h =
      let fit = h v refl in
      record {
        typed = set_types row place v (ap (λ ts. slice_get ts place) own.typed ∙ fit.typed) ∙ own.typed;
        fits = set_fits row place v own.fits fit.fits;
      }

  abbrev pub Assigns : Assignment → Type 0
  Assigns a = IsAssignable types a.column a.value

  typed_to : (row new : Row) (puts : List Assignment) → IsTyped row → IsTyped new → All Assigns puts → IsTyped (assigned_to row new puts)
  typed_to row new [] own now all = now
  typed_to row new (a ∷ puts) own now all =
      typed_to row (with_value new a.column (value_for row a.value)) puts own
      (put_typed new a.column (value_for row a.value) now (λ w is. assigned_fits row a.column a.value w own.typed own.fits (All-head Assigns a puts all) is))
      (All-tail Assigns a puts all)

-- ---- tables

second_of : (a b c d : Bool) → b ≡ true → (a || b || c || d) ≡ true
second_of true b c d e = refl
second_of false b c d e = ap (λ x. x || c || d) e

module _ (schema : Schema) where
  abbrev free_of : ℕ → Bool
  free_of place = is_protected schema place

  -- the sign is protected
  sign_protected : (sign : ℕ) → sign_place schema.engine ≡ Some sign → is_protected schema sign ≡ true
  sign_protected sign is =
      second_of (is_at (version_place schema.engine) sign) (is_at (sign_place schema.engine) sign)
      (list_any (nat_eq sign) (summed_places schema.engine)) (is_folded (slice_get (map (λ (c : Column). c.function) schema.columns) sign))
      (ap (λ o. is_at o sign) is ∙ eq-eqb sign sign refl)

  sign_kept : (puts : List Assignment) (row : Row) → AssignFree free_of puts → keeps_sign (sign_place schema.engine) (updated puts row) ≡ keeps_sign (sign_place schema.engine) row
  sign_kept puts row free = by (sign_place schema.engine) refl
    where
      by : (o : Option ℕ) → sign_place schema.engine ≡ o → keeps_sign o (updated puts row) ≡ keeps_sign o row
      by None is = refl
      by (Some sign) is = ap (λ v. is_sign (pos 1) v || is_sign (negsuc 0) v) (updated_kept free_of puts row sign free (sign_protected sign is))

  pub updated_table : (puts : List Assignment) → All (IsAssignment schema) puts → (row : Row) → IsTableRow schema row → IsTableRow schema (updated puts row)
  updated_table puts all row own =
      let types = column_types schema in
      let free : AssignFree free_of puts = All-weaker (IsAssignment schema) (λ (a : Assignment). is_protected schema a.column ≡ false) (λ a x. x.free) puts all in
      let may : All (Assigns types) puts = All-weaker (IsAssignment schema) (Assigns types) (λ a x. x.belongs) puts all in
      let was : IsTyped types row = record { typed = own.typed; fits = own.fits } in
      let now = typed_to types row row puts was was may in
      record { typed = now.typed; fits = now.fits; signed = sign_kept puts row free ∙ own.signed }

  -- rows of the table are such rows after a change
  pub changed_table : (c : Change) → IsChangeOf schema c → (rows : List Row) → All (IsTableRow schema) rows → All (IsTableRow schema) (changed c rows)
  changed_table (change.Delete condition) may rows all = All-filter (λ row. not (eval condition row)) (IsTableRow schema) rows all
  changed_table (change.Update puts condition) may [] all = All-nil (IsTableRow schema)
  changed_table (change.Update puts condition) may (row ∷ rows) all =
      All-cons (IsTableRow schema) (cond (eval condition row) (updated puts row) row) (map (λ r. cond (eval condition r) (updated puts r) r) rows)
      (by (eval condition row)) (changed_table (change.Update puts condition) may rows (All-tail (IsTableRow schema) row rows all))
    where
      by : (b : Bool) → IsTableRow schema (cond b (updated puts row) row)
      by true = updated_table puts may.0 row (All-head (IsTableRow schema) row rows all)
      by false = All-head (IsTableRow schema) row rows all
