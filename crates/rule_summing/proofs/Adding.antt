-- Sums after one row more.
use Rattle.std.proofs.Common.{◌≡◌, ℕ, suc, ◌+◌, ◌<◌, ◌++◌, Bool, true, false, cond, nat_eq, List, [], ◌∷◌, None, Some, length, take, take_all, drop, set, get_or, slice_get, refl, sym, ap, ap₂, ◌∙◌, append_assoc, append-nil, arith, ◌+ℤ◌}
use Rattle.std.proofs.Math.IntN.{+ℤ_idr}
use Rattle.std.proofs.lemmas.List.Elements.{All-head, All-tail}
use Rattle.std.proofs.lemmas.Option.{get_or_from_slice_get, slice_get_read}
use Rattle.std.proofs.lemmas.List.{drop_all, drop_more, drop-set-lt, take_more_set}
use Rattle.mt_values.specs.declared.value.ColType.{ColType}
use Rattle.mt_values.specs.declared.value.ColType.TheVariants as type
use Rattle.mt_values.specs.declared.value.Value.{Value}
use Rattle.mt_values.specs.declared.value.Value.TheVariants as value
use Rattle.mt_values.specs.Grid.{column_of}
use Rattle.mt_values.specs.Order.{rank_of}
use Rattle.mt_values.specs.Values.{FitsType, Row, type_of, types_of}
use Rattle.rule_law.specs.mt_model.Rules.{LeavesSums, are_zero, integer_of, is_one_of, summed, total, with_sums, with_sums_from, wrapped_as}
use Rattle.rule_law.proofs.OneSign.{column_total}
use Rattle.rule_law.proofs.OneSum.{all_one}
use Rattle.rule_law.proofs.Ranges.{sum_of_one}
use Rattle.rule_law.proofs.Summed.{type_at, value_at}
use Rattle.mt_values.proofs.Wrapping.{wrapped_again, wrapped_twice, wrapped_type}
use Rattle.std.specs.List.{All, cons_option}
use Rattle.rule_summing.specs.Summed.{HasSums, added_at, any_value, changed_from, plus, plus_found}

-- ---- a walk over the values of a row

-- the element that the code reads is the one at the place, whatever stands for one past the end
pub read_at : (xs : List Value) (place : ℕ) (x : Value) → place < length xs → x ≡ get_or xs place x → get_or xs place any_value ≡ x
read_at xs place x within is = get_or_from_slice_get xs place x any_value (slice_get_read xs (length xs) place x refl within is)

-- one value more is changed
pub changed_more : (change : ℕ → Value → Value) (xs ys whole : Row) (place : ℕ) → place < length xs → ys ≡ set xs place (change place (get_or xs place any_value))
    → take place xs ++ changed_from change place (drop place xs) ≡ whole → take (place + 1) ys ++ changed_from change (place + 1) (drop (place + 1) ys) ≡ whole
changed_more change xs ys whole place within is passed =
    let x = get_or xs place any_value in
    ap (λ zs. take (place + 1) zs ++ changed_from change (place + 1) (drop (place + 1) zs)) is
    ∙ ap₂ (λ zs ws. zs ++ changed_from change (place + 1) ws) (take_more_set xs place (change place x) within) (drop-set-lt (place + 1) xs place (change place x) (omega arith))
    ∙ append_assoc (take place xs) (change place x ∷ []) (changed_from change (place + 1) (drop (place + 1) xs))
    ∙ ap (λ zs. take place xs ++ changed_from change place zs) (sym (drop_more xs place any_value within))
    ∙ passed

-- all of them are
pub changed_all : (change : ℕ → Value → Value) (xs whole : Row) (place : ℕ) → length xs ≡ place → take place xs ++ changed_from change place (drop place xs) ≡ whole → xs ≡ whole
changed_all change xs whole place past passed =
    sym (append-nil xs)
    ∙ ap₂ (λ zs ws. zs ++ changed_from change place ws) (sym (take_all place xs (omega arith))) (sym (drop_all place xs (omega arith)))
    ∙ passed

pub sums_changed : (places : List ℕ) (rows : List Row) (place : ℕ) (row : Row) → with_sums_from place places rows row ≡ changed_from (λ p v. summed (is_one_of places p) v (column_of p rows)) place row
sums_changed places rows place [] = refl
sums_changed places rows place (v ∷ vs) = ap (λ ws. summed (is_one_of places place) v (column_of place rows) ∷ ws) (sums_changed places rows (place + 1) vs)

-- ---- one value

pub added_none : (places : List ℕ) (row : Row) (place : ℕ) (v : Value) → slice_get row place ≡ None → added_at places row place v ≡ v
added_none places row place v none = ap (λ o. cond (is_one_of places place) (plus_found v o) v) none ∙ same (is_one_of places place)
  where
    same : (b : Bool) → cond b v v ≡ v
    same true = refl
    same false = refl

pub added_one : (places : List ℕ) (row : Row) (place : ℕ) (v w : Value) → is_one_of places place ≡ true → slice_get row place ≡ Some w → added_at places row place v ≡ plus v w
added_one places row place v w one found = ap (λ o. cond (is_one_of places place) (plus_found v o) v) found ∙ ap (λ b. cond b (plus v w) v) one

-- ---- the sums

same_rank : (v w : Value) → type_of v ≡ type_of w → nat_eq (rank_of v) (rank_of w) ≡ true
same_rank v w same = sym (ap₂ nat_eq (ranked v) (ranked w)) ∙ ap (λ t. nat_eq (rank_of_type t) (rank_of_type (type_of w))) same ∙ itself (type_of w)
  where
    rank_of_type : ColType → ℕ
    rank_of_type type.UInt8 = 0
    rank_of_type type.UInt16 = 1
    rank_of_type type.UInt32 = 2
    rank_of_type type.UInt64 = 3
    rank_of_type type.Int8 = 4
    rank_of_type type.Int16 = 5
    rank_of_type type.Int32 = 6
    rank_of_type type.Int64 = 7
    rank_of_type type.Text = 8

    ranked : (v : Value) → rank_of_type (type_of v) ≡ rank_of v
    ranked (value.UInt8 n) = refl
    ranked (value.UInt16 n) = refl
    ranked (value.UInt32 n) = refl
    ranked (value.UInt64 n) = refl
    ranked (value.Int8 n) = refl
    ranked (value.Int16 n) = refl
    ranked (value.Int32 n) = refl
    ranked (value.Int64 n) = refl
    ranked (value.Text bytes) = refl

    itself : (t : ColType) → nat_eq (rank_of_type t) (rank_of_type t) ≡ true
    itself type.UInt8 = refl
    itself type.UInt16 = refl
    itself type.UInt32 = refl
    itself type.UInt64 = refl
    itself type.Int8 = refl
    itself type.Int16 = refl
    itself type.Int32 = refl
    itself type.Int64 = refl
    itself type.Text = refl

plus_is : (v w : Value) → type_of v ≡ type_of w → plus v w ≡ wrapped_as v (integer_of v +ℤ integer_of w)
plus_is v w same = ap (λ b. cond b (wrapped_as v (integer_of v +ℤ integer_of w)) v) (same_rank v w same)

module _ (places : List ℕ) (rows : List Row) (row : Row) where
  -- the sum in a column after one row more
  one_more : (b : Bool) (place : ℕ) (v w : Value) → slice_get row place ≡ Some w → type_of w ≡ type_of v
      → cond b (plus_found (summed b v (column_of place rows)) (slice_get row place)) (summed b v (column_of place rows)) ≡ summed b v (column_of place (rows ++ row ∷ []))
  one_more false place v w found same = refl
  one_more true place v w found same =
      let before = total (column_of place rows) in
      let alone : total (column_of place (row ∷ [])) ≡ integer_of w = ap (λ o. total (cons_option o [])) found ∙ +ℤ_idr (integer_of w) in
      ap (plus_found (wrapped_as v before)) found
      ∙ plus_is (wrapped_as v before) w (wrapped_type v before ∙ sym same)
      ∙ wrapped_twice v before (integer_of (wrapped_as v before) +ℤ integer_of w)
      ∙ wrapped_again v before (integer_of w)
      ∙ ap (λ z. wrapped_as v (before +ℤ z)) (sym alone)
      ∙ ap (wrapped_as v) (sym (column_total place rows (row ∷ [])))

  sums_more : (place : ℕ) (carried : Row) → ((i at : ℕ) (v : Value) → at ≡ place + i → slice_get carried i ≡ Some v → (w : Value) × (slice_get row at ≡ Some w) × (type_of w ≡ type_of v))
      → changed_from (added_at places row) place (with_sums_from place places rows carried) ≡ with_sums_from place places (rows ++ row ∷ []) carried
  sums_more place [] typed = refl
  sums_more place (v ∷ vs) typed =
      let here = typed 0 place v (omega arith) refl in
      ap₂ (λ x xs. x ∷ xs) (one_more (is_one_of places place) place v here.0 here.1 here.2)
      (sums_more (place + 1) vs (λ i at u is found. typed (suc i) at u (omega arith) found))

  -- of rows of the same types
  typed_more : (types : List ColType) (carried : Row) → types_of carried ≡ types → types_of row ≡ types
      → changed_from (added_at places row) 0 (with_sums places rows carried) ≡ with_sums places (rows ++ row ∷ []) carried
  typed_more types carried own other =
      sums_more 0 carried (λ i at v is found. value_at types row at (type_of v) other (type_at types carried at v own (ap (slice_get carried) (same i at is) ∙ found)))
    where
      same : (i at : ℕ) → at ≡ 0 + i → at ≡ i
      same i at is = omega arith

-- the sums of one row: those of none, and then the row's numbers added
pub sums_first : (places : List ℕ) (row none sums : Row) → none ≡ with_sums places [] row → sums ≡ changed_from (added_at places row) 0 none → HasSums places (row ∷ []) sums
sums_first places row none sums are is =
    record { earlier = []; carried = row; later = []; rows_are = refl; sums_are = is ∙ ap (changed_from (added_at places row) 0) are ∙ typed_more places [] row (types_of row) row refl refl }

pub sums_next : (places : List ℕ) (types : List ColType) (rows : List Row) (row old sums : Row) → All (λ r. types_of r ≡ types) rows → types_of row ≡ types
    → HasSums places rows old → sums ≡ changed_from (added_at places row) 0 old → HasSums places (rows ++ row ∷ []) sums
sums_next places types rows row old sums all own h is =
    record {
      earlier = h.earlier;
      carried = h.carried;
      later = h.later ++ row ∷ [];
      rows_are = ap (λ zs. zs ++ row ∷ []) h.rows_are ∙ append_assoc h.earlier (h.carried ∷ h.later) (row ∷ []);
      sums_are = is ∙ ap (changed_from (added_at places row) 0) h.sums_are
          ∙ typed_more places rows row types h.carried (all_one (λ r. types_of r ≡ types) rows h.carried (record { earlier = h.earlier; later = h.later; are = h.rows_are }) all) own;
    }

-- what a vector has after its slice was written
pub written : (count : ℕ) (old new : List Value) → length new ≡ length old → count ≡ length old → take count (new ++ drop (length new) old) ≡ new
written count old new same is =
    ap (λ zs. take count (new ++ zs)) (drop_all (length new) old (omega arith)) ∙ ap (take count) (append-nil new) ∙ take_all count new (omega arith)

-- ---- one row by itself

-- its sums are its numbers
alone_from : (places : List ℕ) (place : ℕ) (whole vs : Row) → ((i at : ℕ) (v : Value) → at ≡ place + i → slice_get vs i ≡ Some v → slice_get whole at ≡ Some v) → All FitsType vs
    → with_sums_from place places (whole ∷ []) vs ≡ vs
alone_from places place whole [] is fits = refl
alone_from places place whole (v ∷ vs) is fits =
    ap₂ (λ x xs. x ∷ xs) (one (is_one_of places place)) (alone_from places (place + 1) whole vs (λ i at u e found. is (suc i) at u (omega arith) found) (All-tail FitsType v vs fits))
  where
    here : slice_get whole place ≡ Some v
    here = is 0 place v (omega arith) refl

    one : (b : Bool) → summed b v (column_of place (whole ∷ [])) ≡ v
    one false = refl
    one true = ap (λ o. wrapped_as v (total (cons_option o []))) here ∙ sym (sum_of_one v (All-head FitsType v vs fits))

-- it is left as it is, where they are not all 0
pub sums_alone : (places : List ℕ) (row : Row) → All FitsType row → are_zero places row ≡ false → LeavesSums places (row ∷ []) (row ∷ [])
sums_alone places row fits some = record {
  earlier = [];
  carried = row;
  later = [];
  rows_are = refl;
  out_is = sym (ap (λ r. cond (are_zero places r) [] (r ∷ [])) same ∙ ap (λ b. cond b [] (row ∷ [])) some);
}
  where
    plain : (i at : ℕ) → at ≡ 0 + i → at ≡ i
    plain i at is = omega arith

    same : with_sums places (row ∷ []) row ≡ row
    same = alone_from places 0 row row (λ i at v is found. ap (slice_get row) (plain i at is) ∙ found) fits
