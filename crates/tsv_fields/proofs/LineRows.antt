-- The row that a line's fields are, field by field.
use Rattle.std.proofs.Common.{◌≡◌, ◌≢◌, ℕ, zero, suc, ◌+◌, ◌≤◌, Bool, true, false, cond, ◌==◌, List, [], ◌∷◌, ◌++◌, length, drop, slice_get, Some, None, Result, Ok, Err, refl, sym, ap, ◌∙◌, arith, append_assoc, append-nil}
use Rattle.std.proofs.lemmas.Bool.Decides.{nat_tests}
use Rattle.std.proofs.lemmas.List.{drop_all}
use Rattle.mt_values.specs.declared.row_fault.RowFault.{RowFault}
use Rattle.mt_values.specs.declared.row_fault.RowFault.TheVariants as row_fault
use Rattle.mt_values.specs.declared.value.ColType.{ColType}
use Rattle.mt_values.specs.declared.value.Value.{Value}
use Rattle.mt_values.specs.Rows.{at_field, fields_from, row_of_fields, row_of_line, value_of_field, value_onto}
use Rattle.mt_values.specs.Values.{Row}
use Rattle.tsv_fields.specs.Fields.{EndFields, pieces_from}
use Rattle.tsv_fields.specs.Faults.{fault_of_count}

-- a list before one that was read, or why there is none
abbrev pub fronted_ok : {A F : Type 0} → List A → Result (List A) F → Result (List A) F
fronted_ok front (Ok xs) = Ok (front ++ xs)
fronted_ok front (Err fault) = Err fault

pub fronted_ok_none : {A F : Type 0} (r : Result (List A) F) → fronted_ok [] r ≡ r
fronted_ok_none (Ok xs) = refl
fronted_ok_none (Err fault) = refl

pub fronted_ok_more : {A F : Type 0} (front : List A) (x : A) (r : Result (List A) F) → fronted_ok (front ++ x ∷ []) r ≡ fronted_ok front (fronted_ok (x ∷ []) r)
fronted_ok_more front x (Ok xs) = ap Ok (append_assoc front (x ∷ []) xs)
fronted_ok_more front x (Err fault) = refl

-- what stands at a place goes before what comes after it
pub drop_at_place : {A : Type 0} (xs : List A) (i : ℕ) (x : A) → slice_get xs i ≡ Some x → drop i xs ≡ x ∷ drop (i + 1) xs
drop_at_place [] i x is = cc
drop_at_place (y ∷ ys) zero x is = cc
drop_at_place (y ∷ ys) (suc i) x is = let next : suc i + 1 ≡ suc (i + 1) = omega arith in rw next (drop_at_place ys i x is)

-- ---- the number of fields

length-pieces_from : (start : ℕ) (ends line : List ℕ) → length (pieces_from start ends line) ≡ length ends
length-pieces_from start [] line = refl
length-pieces_from start (e ∷ es) line = ap suc (length-pieces_from (e + 1) es line)

-- no fault was told of them
pub same_count : (line found wanted : ℕ) → None ≡ fault_of_count line found wanted → found ≡ wanted
same_count line found wanted none = by (found == wanted) refl none
  where
    by : (same : Bool) → (found == wanted) ≡ same → None ≡ cond same None (Some (row_fault.Fields line found wanted)) → found ≡ wanted
    by true e told = grind (arith, nat_tests)
    by false e told = cc

-- one was
pub other_count : (line found wanted : ℕ) (fault : RowFault) → Some fault ≡ fault_of_count line found wanted → (found ≢ wanted) × (fault ≡ row_fault.Fields line found wanted)
other_count line found wanted fault some = by (found == wanted) refl some
  where
    by : (same : Bool) → (found == wanted) ≡ same → Some fault ≡ cond same None (Some (row_fault.Fields line found wanted)) → (found ≢ wanted) × (fault ≡ row_fault.Fields line found wanted)
    by true e told = cc
    by false e told = (λ is. grind (arith, nat_tests), cc)

module _ (types : List ColType) (line : ℕ) (text ends : List ℕ) (fields : EndFields text ends) where
  pub length_fields : length (fields_from false text) ≡ length ends
  length_fields = ap length (sym fields.fields) ∙ length-pieces_from 0 ends text

  counted : (same : Bool) → (length ends == length types) ≡ same →
      row_of_line types line text ≡ cond same (row_of_fields line 1 types (fields_from false text)) (Err (row_fault.Fields line (length ends) (length types)))
  counted same is = rw (length_fields, is) refl

  -- the line has a field for each column
  pub row_counted : length ends ≡ length types → row_of_line types line text ≡ row_of_fields line 1 types (fields_from false text)
  row_counted same = counted true (grind (arith, nat_tests))

  -- it has not
  pub row_miscounted : length ends ≢ length types → Err (row_fault.Fields line (length ends) (length types)) ≡ row_of_line types line text
  row_miscounted other = sym (counted false (grind (arith, nat_tests)))

-- ---- a row, value by value

value_front : (v : Value) (row : Result Row RowFault) → value_onto (Ok v) row ≡ fronted_ok (v ∷ []) row
value_front v (Ok vs) = refl
value_front v (Err fault) = refl

-- A row has its values up to a place, of a type and a field.
module _ (types : List ColType) (fields : List (List ℕ)) (line i : ℕ) (t : ColType) (f : List ℕ) (type_is : slice_get types i ≡ Some t) (field_is : slice_get fields i ≡ Some f) where
  rest_is : row_of_fields line (i + 1) (drop i types) (drop i fields) ≡ value_onto (at_field line (i + 1) (value_of_field t f)) (row_of_fields line (i + 1 + 1) (drop (i + 1) types) (drop (i + 1) fields))
  rest_is = rw (drop_at_place types i t type_is, drop_at_place fields i f field_is) refl

  -- the field's value goes after them
  pub row_more : (row : Row) (v : Value) → Ok v ≡ value_of_field t f →
      fronted_ok (row ++ v ∷ []) (row_of_fields line (i + 1 + 1) (drop (i + 1) types) (drop (i + 1) fields)) ≡ fronted_ok row (row_of_fields line (i + 1) (drop i types) (drop i fields))
  row_more row v read =
      let rest = row_of_fields line (i + 1 + 1) (drop (i + 1) types) (drop (i + 1) fields) in
      fronted_ok_more row v rest
      ∙ ap (fronted_ok row) (sym (rest_is ∙ ap (λ r. value_onto (at_field line (i + 1) r) rest) (sym read) ∙ value_front v rest))

  -- the field has a fault
  pub row_faulty : (row : Row) (fault : RowFault) → at_field line (i + 1) (value_of_field t f) ≡ Err fault →
      Err fault ≡ fronted_ok row (row_of_fields line (i + 1) (drop i types) (drop i fields))
  row_faulty row fault read =
      let rest = row_of_fields line (i + 1 + 1) (drop (i + 1) types) (drop (i + 1) fields) in
      sym (ap (fronted_ok row) (rest_is ∙ ap (λ r. value_onto r rest) read))

-- no value stands yet
pub row_begin : (types : List ColType) (line : ℕ) (text ends : List ℕ) → EndFields text ends → length ends ≡ length types →
    fronted_ok [] (row_of_fields line (0 + 1) types (fields_from false text)) ≡ row_of_line types line text
row_begin types line text ends fields same =
    let one : 0 + 1 ≡ 1 = omega arith in
    fronted_ok_none (row_of_fields line (0 + 1) types (fields_from false text)) ∙ ap (λ k. row_of_fields line k types (fields_from false text)) one ∙ sym (row_counted types line text ends fields same)

-- each type has its value
pub row_whole : (types : List ColType) (fields : List (List ℕ)) (line i : ℕ) (row : Row) → length types ≤ i → Ok row ≡ fronted_ok row (row_of_fields line (i + 1) (drop i types) (drop i fields))
row_whole types fields line i row past = rw (drop_all i types past, append-nil) refl
