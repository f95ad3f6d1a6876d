-- The text of values and rows, piece by piece.
use Rattle.std.proofs.Common.{◌≡◌, ℕ, zero, suc, ◌+◌, ◌-◌, ◌<◌, ◌≤◌, List, [], ◌∷◌, ◌++◌, All, refl, sym, ap, ap₂, ◌∙◌, length, get_or, take, drop, slice_get, arith, append_assoc, append-nil, flat_map, length-drop}
use Rattle.std.proofs.lemmas.List.{take_all, take_more, get_or-drop, get_or_default}
use Rattle.std.proofs.lemmas.List.Concat.{flat_map-append}
use Rattle.std.proofs.lemmas.List.Elements.{All-head, All-tail}
use Rattle.std.specs.List.{cons_option}
use Rattle.std.proofs.lemmas.Option.{slice_get-get_or}
use Rattle.mt_values.specs.declared.value.Value.{Value}
use Rattle.mt_values.specs.declared.value.Value.TheVariants as value
use Rattle.mt_values.specs.Grid.{picked}
use Rattle.mt_values.specs.Values.{Row}
use Rattle.mt_values.specs.Printing.{escaped, field, fields, line, selected}
use Rattle.mt_values.proofs.Grids.{filter_map_more}
use Rattle.tsv_fields.specs.Printing.{tab_before}

-- one piece more
pub joined : (before a b mid out all : List ℕ) → mid ≡ before ++ a → out ≡ mid ++ b → all ≡ a ++ b → out ≡ before ++ all
joined before a b mid out all first second whole = cc (append_assoc before a b)

-- Texts are printed up to a place, but for the run of bytes from `start` on, which stand for themselves.
module _ (text before out : List ℕ) (start at : ℕ) (within : start ≤ at) (below : at < length text)
    (printed : out ++ take (at - start) (drop start text) ≡ before ++ flat_map escaped (take at text)) where
  one_more : flat_map escaped (take (at + 1) text) ≡ flat_map escaped (take at text) ++ escaped (get_or text at 0)
  one_more =
      ap (flat_map escaped) (take_more text at 0 below) ∙ flat_map-append escaped (take at text) (get_or text at 0 ∷ [])
      ∙ ap (λ bs. flat_map escaped (take at text) ++ bs) (append-nil (escaped (get_or text at 0)))

  run_more : take (at + 1 - start) (drop start text) ≡ take (at - start) (drop start text) ++ get_or text at 0 ∷ []
  run_more =
      let inside : at - start < length (drop start text) = omega (arith, length-drop start text) in
      let size : at + 1 - start ≡ at - start + 1 = omega arith in
      let place : start + (at - start) ≡ at = omega arith in
      ap (λ n. take n (drop start text)) size ∙ take_more (drop start text) (at - start) 0 inside
      ∙ ap (λ b. take (at - start) (drop start text) ++ b ∷ []) (get_or-drop start text (at - start) 0 ∙ ap (λ k. get_or text k 0) place)

  -- the byte at this place stands for itself
  pub run_goes_on : get_or text at 0 ∷ [] ≡ escaped (get_or text at 0) → out ++ take (at + 1 - start) (drop start text) ≡ before ++ flat_map escaped (take (at + 1) text)
  run_goes_on plain =
      ap (λ bs. out ++ bs) run_more ∙ sym (append_assoc out (take (at - start) (drop start text)) (get_or text at 0 ∷ []))
      ∙ ap₂ (λ a b. a ++ b) printed plain ∙ append_assoc before (flat_map escaped (take at text)) (escaped (get_or text at 0))
      ∙ ap (λ bs. before ++ bs) (sym one_more)

  -- an escape stands for it
  pub run_ends : (letter : ℕ) (mid new : List ℕ) → mid ≡ out ++ take (at - start) (drop start text) → new ≡ mid ++ 92 ∷ letter ∷ [] → 92 ∷ letter ∷ [] ≡ escaped (get_or text at 0) →
      new ++ take (at + 1 - (at + 1)) (drop (at + 1) text) ≡ before ++ flat_map escaped (take (at + 1) text)
  run_ends letter mid new first second escape =
      let none : at + 1 - (at + 1) ≡ 0 = omega arith in
      ap (λ n. new ++ take n (drop (at + 1) text)) none ∙ append-nil new ∙ second ∙ ap₂ (λ a b. a ++ b) (first ∙ printed) escape
      ∙ append_assoc before (flat_map escaped (take at text)) (escaped (get_or text at 0)) ∙ ap (λ bs. before ++ bs) (sym one_more)

-- the last run goes up to the end
pub run_last : (text before out new : List ℕ) (start at : ℕ) → at ≡ length text → out ++ take (at - start) (drop start text) ≡ before ++ flat_map escaped (take at text) →
    new ≡ out ++ take (length text - start) (drop start text) → new ≡ before ++ flat_map escaped text
run_last text before out new start at end printed last =
    last ∙ ap (λ n. out ++ take (n - start) (drop start text)) (sym end) ∙ printed ∙ ap (λ bs. before ++ flat_map escaped bs) (take_all at text (omega arith))

-- ---- rows

fields_push_by : (v w : Value) (vs : Row) (new : Value) → fields (w ∷ vs ++ new ∷ []) ≡ fields (w ∷ vs) ++ 9 ∷ field new →
    fields (v ∷ w ∷ vs ++ new ∷ []) ≡ fields (v ∷ w ∷ vs) ++ 9 ∷ field new
fields_push_by v w vs new rest = ap (λ bs. field v ++ 9 ∷ bs) rest ∙ sym (append_assoc (field v) (9 ∷ fields (w ∷ vs)) (9 ∷ field new))

behind_some : (v : Value) (vs : Row) (new : Value) → fields (v ∷ vs ++ new ∷ []) ≡ fields (v ∷ vs) ++ 9 ∷ field new
behind_some v [] new = refl
behind_some v (w ∷ vs) new = fields_push_by v w vs new (behind_some w vs new)

-- one field more
pub fields_push : (row : Row) (i : ℕ) (v : Value) → length row ≡ i → fields (row ++ v ∷ []) ≡ (fields row ++ tab_before i) ++ field v
fields_push [] zero v count = refl
fields_push [] (suc i) v count = absurd (omega arith)
fields_push (w ∷ ws) zero v count = absurd (omega arith)
fields_push (w ∷ ws) (suc i) v count = behind_some w ws v ∙ sym (append_assoc (fields (w ∷ ws)) (9 ∷ []) (field v))

-- what was printed of a row, and the tab and the field of one value more
pub printed_push : (before out mid new : List ℕ) (row : Row) (i : ℕ) (v : Value) → length row ≡ i → out ≡ before ++ fields row → mid ≡ out ++ tab_before i → new ≡ mid ++ field v →
    new ≡ before ++ fields (row ++ v ∷ [])
printed_push before out mid new row i v count printed tab value =
    let begun = joined before (fields row) (tab_before i) out mid (fields row ++ tab_before i) printed tab refl in
    joined before (fields row ++ tab_before i) (field v) mid new (fields (row ++ v ∷ [])) begun value (fields_push row i v count)

-- the values at columns that the row has
pub length-selected : (columns : List ℕ) (row : Row) → All (λ column. column < length row) columns → length (selected columns row) ≡ length columns
length-selected [] row within = refl
length-selected (column ∷ columns) row within =
    ap (λ o. length (cons_option o (selected columns row))) (slice_get-get_or row column any_value (All-head (λ (c : ℕ). c < length row) column columns within))
    ∙ ap suc (length-selected columns row (All-tail (λ (c : ℕ). c < length row) column columns within))
  where
    any_value : Value
    any_value = value.UInt8 0

-- the line of one row more
pub lines_of_more : (columns : List ℕ) (rows : List Row) (order : List ℕ) (i : ℕ) → i < length order → get_or order i 0 < length rows →
    flat_map (λ row. line (selected columns row)) (picked rows (take (i + 1) order))
    ≡ flat_map (λ row. line (selected columns row)) (picked rows (take i order)) ++ line (selected columns (get_or rows (get_or order i 0) []))
lines_of_more columns rows order i below within =
    let row = get_or rows (get_or order i 0) [] in
    let print : Row → List ℕ = λ r. line (selected columns r) in
    ap (flat_map print) (filter_map_more (slice_get rows) order i (get_or order i 0) row below (get_or_default order i 0 (get_or order i 0) below) (slice_get-get_or rows (get_or order i 0) [] within))
    ∙ flat_map-append print (picked rows (take i order)) (row ∷ [])
    ∙ ap (λ bs. flat_map print (picked rows (take i order)) ++ bs) (append-nil (print row))
