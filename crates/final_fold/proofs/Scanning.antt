-- The values of columns, part by part.
use Rattle.std.proofs.Common.{◌≡◌, Bool, ℕ, zero, suc, ◌+◌, ◌<◌, ◌≤◌, List, [], ◌∷◌, ◌++◌, length, get_or, take, refl, sym, ap, ap₂, ◌∙◌, subst, append_assoc, append-nil, arith, All, map, Option, Some, slice_get, filter_map, length-append}
use Rattle.std.specs.List.{AllZip, Contains as HasItem, cons_option, filter, sum_by}
use Rattle.std.proofs.lemmas.List.{length-map, take_all, take_more}
use Rattle.std.proofs.lemmas.List.Sums.{sum_by-cons, sum_by_push}
use Rattle.std.proofs.lemmas.List.Elements.{All-append, All-head, All-nil, All-tail, Contains-get_or, filter-append, filter_map-append}
use Rattle.std.proofs.lemmas.Option.{same_Some}
use Rattle.mt_values.specs.declared.schema.Column.{Column}
use Rattle.mt_values.specs.declared.schema.Schema.{Schema}
use Rattle.mt_values.specs.declared.value.Value.{Value}
use Rattle.mt_values.specs.Values.{Row, types_of}
use Rattle.mt_values.specs.Grid.{AreRowsOf, Cells, column_of}
use Rattle.mt_values.specs.Schemas.{column_types}
use Rattle.mt_outside.specs.Files.{Files}
use Rattle.row_merge.specs.part_reader.declared.reading.Part.{Part}
use Rattle.row_merge.specs.part_writer.declared.loaded.Loaded.{Loaded}
use Rattle.row_merge.specs.part_reader.Parts.{PartHolds, with_columns}
use Rattle.row_merge.specs.part_set.declared.kept.Kept.{Kept}
use Rattle.row_merge.specs.MergedParts.{PartsHold}
use Rattle.final_fold.specs.Scans.{ArePlacesOf, HaveTypes, joined_rows, rows_kept, values_at}
use Rattle.final_fold.proofs.Picking.{there}

pub values_more : (rows more : List Row) (places : List ℕ) (columns : List Cells) → map (λ (c : Cells). c.values) columns ≡ values_at rows places
    → map (λ (c : Cells). c.values) (with_columns more places columns) ≡ values_at (rows ++ more) places
values_more rows more [] columns are = refl
values_more rows more (p ∷ ps) [] are = cc
values_more rows more (p ∷ ps) (c ∷ cs) are =
    let first : c.values ≡ column_of p rows = cc in
    let rest : map (λ (x : Cells). x.values) cs ≡ values_at rows ps = cc in
    ap₂ (λ (v : List Value) (vs : List (List Value)). v ∷ vs) (ap (λ vs. vs ++ column_of p more) first ∙ sym (filter_map-append (λ (row : Row). slice_get row p) rows more)) (values_more rows more ps cs rest)

joined_push : (parts : List (List Row)) (rows : List Row) → joined_rows (parts ++ rows ∷ []) ≡ joined_rows parts ++ rows
joined_push [] rows = append-nil rows
joined_push (p ∷ ps) rows = ap (λ rs. p ++ rs) (joined_push ps rows) ∙ sym (append_assoc p (joined_rows ps) rows)

-- the rows of the part at a place of a list
pub record PartAt {F : Type 0} (files_of : F → Option Files) (schema : Schema) (part : Part F) (at : ℕ) (lists : List (List Row)) : Type 0 where
  pub rows : List Row
  pub holds : PartHolds files_of schema part rows
  pub next : take (at + 1) lists ≡ take at lists ++ rows ∷ []
  pub there : slice_get lists at ≡ Some rows

pub part_at : {F : Type 0} (files_of : F → Option Files) (schema : Schema) (parts : List (Kept (Part F))) (lists : List (List Row)) (at : ℕ) (part : Kept (Part F))
    → PartsHold files_of schema parts lists → at < length parts → part ≡ get_or parts at part → PartAt files_of schema part.part at lists
part_at files_of schema [] lists at part h lt is = absurd (omega arith)
part_at files_of schema (p ∷ ps) [] at part h lt is = absurd h
part_at files_of schema (p ∷ ps) (r ∷ rs) zero part h lt is = record { rows = r; holds = subst (λ (q : Kept (Part _)). PartHolds files_of schema q.part r) (sym is) h.0; next = refl; there = refl }
part_at files_of schema (p ∷ ps) (r ∷ rs) (suc at) part h lt is =
    let more = part_at files_of schema ps rs at part h.1 (omega arith) is in
    let one : suc at + 1 ≡ suc (at + 1) = omega arith in
    record { rows = more.rows; holds = more.holds; next = ap (λ k. take k (r ∷ rs)) one ∙ ap (λ ls. r ∷ ls) more.next; there = more.there }

-- what holds of two lists place by place holds of what they have at a place
pub zip_at : {X Y : Type 0} (Q : X → Y → Type 0) (xs : List X) (ys : List Y) (k : ℕ) (x : X) (y : Y) → AllZip Q xs ys → slice_get xs k ≡ Some x → slice_get ys k ≡ Some y → Q x y
zip_at Q [] ys k x y h x_is y_is = cc
zip_at Q (a ∷ xs) [] k x y h x_is y_is = absurd h
zip_at Q (a ∷ xs) (b ∷ ys) zero x y h x_is y_is = subst (λ c. Q c y) (same_Some a x x_is) (subst (Q a) (same_Some b y y_is) h.0)
zip_at Q (a ∷ xs) (b ∷ ys) (suc k) x y h x_is y_is = zip_at Q xs ys k x y h.1 x_is y_is

-- the rows of one part more that meet a condition were added
pub values_next : (f : Row → Bool) (lists : List (List Row)) (at : ℕ) (rows met : List Row) (places : List ℕ) (columns new : List Cells) → take (at + 1) lists ≡ take at lists ++ rows ∷ []
    → map (λ (c : Cells). c.values) columns ≡ values_at (filter f (joined_rows (take at lists))) places → met ≡ filter f rows → new ≡ with_columns met places columns
    → map (λ (c : Cells). c.values) new ≡ values_at (filter f (joined_rows (take (at + 1) lists))) places
values_next f lists at rows met places columns new next are met_is is =
    let before = joined_rows (take at lists) in
    let all : filter f before ++ met ≡ filter f (joined_rows (take (at + 1) lists)) =
    ap (λ ms. filter f before ++ ms) met_is ∙ sym (filter-append f before rows) ∙ ap (filter f) (sym (ap joined_rows next ∙ joined_push (take at lists) rows)) in
    ap (map (λ (c : Cells). c.values)) is
    ∙ values_more (filter f before) met places columns are
    ∙ ap (λ rs. values_at rs places) all

-- and counted
pub count_next : (f : Row → Bool) (lists : List (List Row)) (at : ℕ) (rows met : List Row) (count added : ℕ) → take (at + 1) lists ≡ take at lists ++ rows ∷ []
    → count ≡ length (filter f (joined_rows (take at lists))) → met ≡ filter f rows → added ≡ length met
    → count + added ≡ length (filter f (joined_rows (take (at + 1) lists)))
count_next f lists at rows met count added next are met_is is =
    let before = joined_rows (take at lists) in
    let all : filter f before ++ met ≡ filter f (joined_rows (take (at + 1) lists)) =
    ap (λ ms. filter f before ++ ms) met_is ∙ sym (filter-append f before rows) ∙ ap (filter f) (sym (ap joined_rows next ∙ joined_push (take at lists) rows)) in
    ap₂ (λ m n. m + n) are is ∙ sym (length-append (filter f before) met) ∙ ap length all

module _ {F : Type 0} (files_of : F → Option Files) (schema : Schema) where
  pub joined_typed : (parts : List (Kept (Part F))) (lists : List (List Row)) → PartsHold files_of schema parts lists → AreRowsOf (column_types schema) (joined_rows lists)
  joined_typed [] [] h = All-nil (λ row. types_of row ≡ column_types schema)
  joined_typed [] (r ∷ rs) h = absurd h
  joined_typed (p ∷ ps) [] h = absurd h
  joined_typed (p ∷ ps) (r ∷ rs) h = All-append (λ row. types_of row ≡ column_types schema) r (joined_rows rs) h.0.typed (joined_typed ps rs h.1)

  -- the manifests count the rows
  pub rows_counted : (parts : List (Kept (Part F))) (lists : List (List Row)) → PartsHold files_of schema parts lists → rows_kept parts ≡ length (joined_rows lists)
  rows_counted [] [] h = refl
  rows_counted [] (r ∷ rs) h = absurd h
  rows_counted (p ∷ ps) [] h = absurd h
  rows_counted (p ∷ ps) (r ∷ rs) h =
      let count : p.part.loaded.manifest.rows ≡ length r = ap (λ (l : Loaded). l.manifest.rows) h.0.loaded_is in
      sum_by-cons (λ (q : Kept (Part F)). q.part.loaded.manifest.rows) p ps ∙ (ap₂ (λ m n. m + n) count (rows_counted ps rs h.1) ∙ sym (length-append r (joined_rows rs)))

  lists_made : (parts : List (Kept (Part F))) (lists : List (List Row)) → PartsHold files_of schema parts lists → length lists ≡ length parts
  lists_made [] [] h = refl
  lists_made [] (r ∷ rs) h = absurd h
  lists_made (p ∷ ps) [] h = absurd h
  lists_made (p ∷ ps) (r ∷ rs) h = ap suc (lists_made ps rs h.1)

  -- all parts were read
  pub values_all : (f : Row → Bool) (parts : List (Kept (Part F))) (lists : List (List Row)) (at : ℕ) (places : List ℕ) (columns : List Cells) → PartsHold files_of schema parts lists → length parts ≤ at
      → map (λ (c : Cells). c.values) columns ≡ values_at (filter f (joined_rows (take at lists))) places → map (λ (c : Cells). c.values) columns ≡ values_at (filter f (joined_rows lists)) places
  values_all f parts lists at places columns h le are = are ∙ ap (λ ls. values_at (filter f (joined_rows ls)) places) (take_all at lists (omega (arith, lists_made parts lists h)))

  pub count_all : (f : Row → Bool) (parts : List (Kept (Part F))) (lists : List (List Row)) (at count : ℕ) → PartsHold files_of schema parts lists → length parts ≤ at
      → count ≡ length (filter f (joined_rows (take at lists))) → count ≡ length (filter f (joined_rows lists))
  count_all f parts lists at count h le are = are ∙ ap (λ ls. length (filter f (joined_rows ls))) (take_all at lists (omega (arith, lists_made parts lists h)))

-- what is read of a list at a place is one of its items
pub item_at : {X : Type 0} (xs : List X) (k : ℕ) (x : X) → k < length xs → x ≡ get_or xs k x → HasItem xs x
item_at xs k x within is = subst (HasItem xs) (sym is) (Contains-get_or xs k x within)

-- the rows of one part more are counted
pub rows_next : {F : Type 0} (parts : List (Kept (Part F))) (at : ℕ) (part : Kept (Part F)) → at < length parts → part ≡ get_or parts at part → rows_kept (take (at + 1) parts) ≡ rows_kept (take at parts) + part.part.loaded.manifest.rows
rows_next {F = F} parts at part lt is =
    let f = λ (p : Kept (Part F)). p.part.loaded.manifest.rows in
    ap (sum_by f) (take_more parts at part lt) ∙ (sum_by_push f (take at parts) (get_or parts at part) ∙ ap (λ (p : Kept (Part F)). sum_by f (take at parts) + p.part.loaded.manifest.rows) (sym is))

-- there is a column for each place
found_many : {X : Type 0} (xs : List X) (places : List ℕ) → All (λ p. p < length xs) places → length (filter_map (slice_get xs) places) ≡ length places
found_many xs [] within = refl
found_many xs (p ∷ ps) within =
    let here = there xs p (All-head (λ q. q < length xs) p ps within) in
    ap (λ o. length (cons_option o (filter_map (slice_get xs) ps))) here.1 ∙ ap suc (found_many xs ps (All-tail (λ q. q < length xs) p ps within))

pub have_many : (schema : Schema) (places : List ℕ) (columns : List Cells) → ArePlacesOf schema places → HaveTypes schema places columns → length columns ≡ length places
have_many schema places columns within have =
    sym (length-map columns (λ (c : Cells). c.col_type)) ∙ ap length have
    ∙ found_many (column_types schema) places (subst (λ n. All (λ p. p < n) places) (sym (length-map schema.columns (λ (c : Column). c.col_type))) within)
