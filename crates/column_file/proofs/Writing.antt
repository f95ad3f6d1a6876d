-- Values at places of a column written one after the other, granule by granule.
use Rattle.std.proofs.Common.{Result, Ok, Err, IfOk, ◌≡◌, ℕ, zero, suc, ◌+◌, ◌*◌, ◌<◌, ◌≤◌, ◌⊎◌, inl, inr, min, List, [], ◌∷◌, ◌++◌, Some, refl, sym, ap, ap₂, ◌∙◌, subst, length, length-append, length-drop, map, get_or, take, drop, slice_get, filter_map, All, arith, append-nil, append_assoc, mul_comm, mul-zero, zero-add}
use Rattle.std.specs.Int.{div_ceil}
use Rattle.std.specs.List.{range_with_len, cons_option}
use Rattle.std.proofs.Math.Seq.{take-add}
use Rattle.std.proofs.lemmas.Bool.{cases_lt}
use Rattle.std.proofs.lemmas.Grind.{div_ceil_times}
use Rattle.std.proofs.lemmas.List.{take_all, take_at, drop_at, drop_all, drop-drop, get_or_default, nil_from_length, length_push}
use Rattle.std.proofs.lemmas.List.Concat.{flat_map-append}
use Rattle.std.proofs.lemmas.List.Elements.{All-head, All-tail, All-push, All-append, All-cons, All-drop, All-take, All-nil, filter_map-append}
use Rattle.std.proofs.lemmas.List.FromFn.{map-range_with_len_more}
use Rattle.std.proofs.lemmas.Option.{slice_get-get_or}
use Rattle.mt_values.specs.declared.value.ColType.{ColType}
use Rattle.mt_values.specs.declared.value.Value.{Value}
use Rattle.mt_values.specs.declared.value.Value.TheVariants as value
use Rattle.mt_values.specs.ColumnBytes.{column_bytes, value_bytes}
use Rattle.mt_values.specs.Grid.{AreOfType, AreRowsOf, Cells, column_of, picked}
use Rattle.mt_values.specs.Values.{FitsType, Row, type_of}
use Rattle.mt_values.proofs.Grids.{column_of-picked, filter_map_more}
use Rattle.mt_values.proofs.OrderBy.{all_reach}
use Rattle.mt_values.proofs.Covers.{same_count}
use Rattle.column_file.specs.declared.encoding.ColumnBytes.{ColumnBytes}
use Rattle.column_file.specs.Granules.{granule_start, marks_of}
use Rattle.column_file.specs.Spellings.{IsSpelling}

-- the values at these places
abbrev pub values_at : List Value → List ℕ → List Value
values_at values places = filter_map (slice_get values) places

-- the column has a value at each of the places
abbrev pub AreWithin : List Value → List ℕ → Type 0
AreWithin values places = All (λ place. place < length values) places

-- ---- one value more

pub picked_more : (values : List Value) (places : List ℕ) (i : ℕ) (v : Value) → i < length places → slice_get values (get_or places i 0) ≡ Some v → values_at values (take (i + 1) places) ≡ values_at values (take i places) ++ v ∷ []
picked_more values places i v h is =
    filter_map_more (slice_get values) places i (get_or places i 0) v h (get_or_default places i 0 (get_or places i 0) h) is

pub written_more : (values : List Value) (places : List ℕ) (i : ℕ) (v : Value) (old bytes new : List ℕ) → i < length places → slice_get values (get_or places i 0) ≡ Some v → bytes ≡ old ++ column_bytes (values_at values (take i places)) → new ≡ bytes ++ value_bytes v → new ≡ old ++ column_bytes (values_at values (take (i + 1) places))
written_more values places i v old bytes new h is so_far e =
    let before = values_at values (take i places) in
    e ∙ ap (λ bs. bs ++ value_bytes v) so_far ∙ append_assoc old (column_bytes before) (value_bytes v)
    ∙ ap (λ bs. old ++ bs) (
    ap (λ bs. column_bytes before ++ bs) (sym (append-nil (value_bytes v)))
    ∙ sym (flat_map-append value_bytes before (v ∷ []))
    ∙ ap column_bytes (sym (picked_more values places i v h is)))

pub encodable_more : (values : List Value) (places : List ℕ) (i : ℕ) (v : Value) → i < length places → slice_get values (get_or places i 0) ≡ Some v → All FitsType (values_at values (take i places)) → FitsType v → All FitsType (values_at values (take (i + 1) places))
encodable_more values places i v h is so_far this =
    subst (All FitsType) (sym (picked_more values places i v h is)) (All-push FitsType (values_at values (take i places)) v so_far this)

-- ---- values at places that the column has

any_value : Value
any_value = value.UInt8 0

values_at-cons : (values : List Value) (p : ℕ) (places : List ℕ) → p < length values → values_at values (p ∷ places) ≡ get_or values p any_value ∷ values_at values places
values_at-cons values p places h = ap (λ o. cons_option o (values_at values places)) (slice_get-get_or values p any_value h)

within_head : (values : List Value) (p : ℕ) (places : List ℕ) → AreWithin values (p ∷ places) → p < length values
within_head values p places h = All-head (λ place. place < length values) p places h

within_tail : (values : List Value) (p : ℕ) (places : List ℕ) → AreWithin values (p ∷ places) → AreWithin values places
within_tail values p places h = All-tail (λ place. place < length values) p places h

length-values_at : (values : List Value) (places : List ℕ) → AreWithin values places → length (values_at values places) ≡ length places
length-values_at values [] h = refl
length-values_at values (p ∷ places) h =
    ap length (values_at-cons values p places (within_head values p places h)) ∙ ap suc (length-values_at values places (within_tail values p places h))

take-values_at : (values : List Value) (places : List ℕ) (n : ℕ) → AreWithin values places → take n (values_at values places) ≡ values_at values (take n places)
take-values_at values places zero h = refl
take-values_at values [] (suc n) h = refl
take-values_at values (p ∷ places) (suc n) h =
    ap (take (suc n)) (values_at-cons values p places (within_head values p places h))
    ∙ ap (λ vs. get_or values p any_value ∷ vs) (take-values_at values places n (within_tail values p places h))
    ∙ sym (values_at-cons values p (take n places) (within_head values p places h))

All-values_at : (P : Value → Type 0) (values : List Value) (places : List ℕ) → All P values → AreWithin values places → All P (values_at values places)
All-values_at P values [] all h = All-nil P
All-values_at P values (p ∷ places) all h =
    let within = within_head values p places h in
    subst (All P) (sym (values_at-cons values p places within))
    (All-cons P (get_or values p any_value) (values_at values places) (all p any_value within) (All-values_at P values places all (within_tail values p places h)))

-- the values of a block's column at places of its rows are those of the rows there
pub values_of_rows : (types : List ColType) (rows : List Row) (column : ℕ) (values : List Value) (order : List ℕ) → AreRowsOf types rows → column < length types → values ≡ column_of column rows → values_at values order ≡ column_of column (picked rows order)
values_of_rows types rows column values order typed within is =
    ap (λ vs. values_at vs order) is ∙ column_of-picked column rows order (all_reach types rows column typed within)

-- they are of the column's type, so their bytes spell them
pub rows_spelled : {E : Type 0} (types : List ColType) (column : ℕ) (cells : Cells) (order : List ℕ) (these : List Value) (result : Result ColumnBytes E) → AreOfType cells → slice_get types column ≡ Some cells.col_type → AreWithin cells.values order → values_at cells.values order ≡ these → IfOk result (λ (r : ColumnBytes). r.bytes ≡ column_bytes these) → IfOk result (λ _. All FitsType these) → IfOk result (λ (r : ColumnBytes). (t : ColType) → slice_get types column ≡ Some t → IsSpelling t (length order) r.bytes these)
rows_spelled types column cells order these (Ok r) typed is within same spelled fits = λ t there.
    let type_is : cells.col_type ≡ t = cc in
    let all = subst (All (λ v. type_of v ≡ cells.col_type)) same (All-values_at (λ v. type_of v ≡ cells.col_type) cells.values order typed within) in
    record {
      typed = λ k d below. (all k d below ∙ type_is, fits k d below);
      count_is = ap length (sym same) ∙ length-values_at cells.values order within;
      spelled = spelled;
    }
rows_spelled types column cells order these (Err e) typed is within same spelled fits = tt

-- ---- granules

-- the first elements that a chunk has, and those after it
pub chunk_parts : (n : ℕ) (front rest : List ℕ) → length front ≡ min n (length (front ++ rest)) → (take n (front ++ rest) ≡ front) × (drop n (front ++ rest) ≡ rest)
chunk_parts n front rest e = either (cases_lt (length (front ++ rest)) n)
  where
    either : (length (front ++ rest) < n) ⊎ (n ≤ length (front ++ rest)) → (take n (front ++ rest) ≡ front) × (drop n (front ++ rest) ≡ rest)
    either (inl h) =
        let none : rest ≡ [] = nil_from_length rest (omega (arith, length-append front rest)) in
        let all : front ++ rest ≡ front = ap (λ l. front ++ l) none ∙ append-nil front in
        (take_all n (front ++ rest) (omega arith) ∙ all, drop_all n (front ++ rest) (omega arith) ∙ sym none)
    either (inr h) = (take_at front rest n (omega arith), drop_at front rest n (omega arith))

-- where a granule of the values at these places begins
abbrev pub start_of : List Value → List ℕ → ℕ → ℕ → ℕ
start_of values places granularity granule = length (column_bytes (values_at values (take (granularity * granule) places)))

mul-add-one : (a k : ℕ) → a * (k + 1) ≡ a * k + a
mul-add-one a k = omega arith

-- the granules up to these marks are written, and these places are left
pub record AreWritten (values : List Value) (places : List ℕ) (granularity : ℕ) (bytes marks rest : List ℕ) : Type 0 where
  pub left : rest ≡ drop (granularity * length marks) places
  pub bytes_are : bytes ≡ column_bytes (values_at values (take (granularity * length marks) places))
  pub marks_are : marks ≡ map (start_of values places granularity) (range_with_len 0 (length marks))
  pub begun : granularity * length marks < length places + granularity
  pub encodable : All FitsType (values_at values (take (granularity * length marks) places))

-- no granule is written yet
pub written_none : (values : List Value) (places : List ℕ) (granularity : ℕ) → 0 < granularity → AreWritten values places granularity [] [] places
written_none values places granularity h = record {
  left = ap (λ n. drop n places) (sym (mul-zero granularity));
  bytes_are = ap (λ n. column_bytes (values_at values (take n places))) (sym (mul-zero granularity));
  marks_are = refl;
  begun = omega arith;
  encodable = subst (λ n. All FitsType (values_at values (take n places))) (sym (mul-zero granularity)) (All-nil FitsType);
}

-- one granule more is written
pub granule_more : (values : List Value) (places : List ℕ) (granularity : ℕ) (bytes marks rest granule left new more : List ℕ) → AreWritten values places granularity bytes marks rest → rest ≡ granule ++ left → length granule ≡ min granularity (length rest) → 0 < length rest → new ≡ bytes ++ column_bytes (values_at values granule) → All FitsType (values_at values granule) → more ≡ marks ++ length bytes ∷ [] → AreWritten values places granularity new more left
granule_more values places granularity bytes marks rest granule left new more w parted size some e fits m =
    let k = length marks in
    let count : length more ≡ k + 1 = ap length m ∙ length_push marks (length bytes) in
    let next : granularity * length more ≡ granularity * k + granularity = ap (λ n. granularity * n) count ∙ mul-add-one granularity k in
    let these : drop (granularity * k) places ≡ granule ++ left = sym w.left ∙ parted in
    let parts = chunk_parts granularity granule left (size ∙ ap (λ l. min granularity (length l)) parted) in
    let taken : take (granularity * length more) places ≡ take (granularity * k) places ++ granule =
    ap (λ n. take n places) next ∙ take-add (granularity * k) granularity places
    ∙ ap (λ l. take (granularity * k) places ++ l) (ap (take granularity) these ∙ parts.0) in
    let all : values_at values (take (granularity * length more) places) ≡ values_at values (take (granularity * k) places) ++ values_at values granule =
    ap (values_at values) taken ∙ filter_map-append (slice_get values) (take (granularity * k) places) granule in
    record {
      left = sym parts.1 ∙ ap (drop granularity) (sym these) ∙ drop-drop granularity (granularity * k) places ∙ ap (λ n. drop n places) (sym next);
      bytes_are = e ∙ ap (λ l. l ++ column_bytes (values_at values granule)) w.bytes_are
          ∙ sym (flat_map-append value_bytes (values_at values (take (granularity * k) places)) (values_at values granule))
          ∙ ap column_bytes (sym all);
      marks_are = m ∙ ap₂ (λ l n. l ++ n ∷ []) w.marks_are (ap length w.bytes_are)
          ∙ sym (map-range_with_len_more (start_of values places granularity) 0 k k (zero-add k))
          ∙ ap (λ n. map (start_of values places granularity) (range_with_len 0 n)) (sym count);
      begun = omega (arith, next, ap length w.left, length-drop (granularity * k) places);
      encodable = subst (All FitsType) (sym all) (All-append FitsType (values_at values (take (granularity * k) places)) (values_at values granule) w.encodable fits);
    }

-- the places of a granule are places of the column
pub granule_within : (values : List Value) (places : List ℕ) (granularity : ℕ) (bytes marks rest granule left : List ℕ) → AreWritten values places granularity bytes marks rest → rest ≡ granule ++ left → AreWithin values places → AreWithin values granule
granule_within values places granularity bytes marks rest granule left w parted h =
    let behind = All-drop (λ place. place < length values) (granularity * length marks) places h in
    let these : drop (granularity * length marks) places ≡ granule ++ left = sym w.left ∙ parted in
    let first = All-take (λ place. place < length values) (length granule) (granule ++ left) (subst (AreWithin values) these behind) in
    subst (AreWithin values) (take_at granule left (length granule) refl) first

-- all granules are written
pub written_all : (values : List Value) (places : List ℕ) (granularity : ℕ) (bytes marks rest more : List ℕ) → AreWritten values places granularity bytes marks rest → length rest ≡ 0 → AreWithin values places → 0 < granularity → more ≡ marks ++ length bytes ∷ [] → (bytes ≡ column_bytes (values_at values places)) × (more ≡ marks_of granularity (values_at values places)) × All FitsType (values_at values places)
written_all values places granularity bytes marks rest more w none within some m =
    let k = length marks in
    let end : length places ≤ granularity * k = omega (arith, ap length w.left, length-drop (granularity * k) places) in
    let all : take (granularity * k) places ≡ places = take_all (granularity * k) places end in
    let flip = mul_comm k granularity in
    let few = length-values_at values places within in
    let ceil = div_ceil_times (length (values_at values places)) granularity some in
    let counted : k ≡ div_ceil (length (values_at values places)) granularity =
    same_count (length (values_at values places)) granularity k (div_ceil (length (values_at values places)) granularity) (omega arith) (omega (arith, w.begun)) ceil.0 ceil.1 in
    let starts : start_of values places granularity ≡ granule_start granularity (values_at values places) =
    λ i. λ granule. length (column_bytes (sym (take-values_at values places (granularity * granule) within) i)) in (
      w.bytes_are ∙ ap (λ l. column_bytes (values_at values l)) all,
      m ∙ ap₂ (λ l n. l ++ n ∷ []) w.marks_are (ap length w.bytes_are)
          ∙ sym (map-range_with_len_more (start_of values places granularity) 0 k k (zero-add k))
          ∙ ap (λ n. map (start_of values places granularity) (range_with_len 0 (n + 1))) counted
          ∙ ap (λ f. map f (range_with_len 0 (div_ceil (length (values_at values places)) granularity + 1))) starts,
      subst (λ l. All FitsType (values_at values l)) all w.encodable,
    )
