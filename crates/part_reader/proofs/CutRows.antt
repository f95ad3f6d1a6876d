-- Rows that columns make, cut to the columns at some places.
use Rattle.std.proofs.Common.{◌≡◌, ℕ, suc, ◌+◌, ◌<◌, Bool, true, false, List, [], ◌∷◌, ◌++◌, refl, sym, ap, ap₂, ◌∙◌, arith, length, get_or, take, drop, map, slice_get, filter_map, option_and_then, All, min, ◌-◌, ◌*◌, Option, Some, zero-add}
use Rattle.std.specs.List.{cons_option, range_with_len}
use Rattle.std.specs.Option.{option_map}
use Rattle.std.proofs.lemmas.List.{length-map, map-append, take_at, take_more}
use Rattle.std.proofs.lemmas.List.Elements.{All-append, All-cons, All-drop, All-head, All-nil, All-tail, All-take, All-weaker}
use Rattle.std.proofs.lemmas.Option.{slice_get-map}
use Rattle.mt_outside.specs.Files.{Files}
use Rattle.mt_base.specs.declared.name.FileId.TheVariants as file
use Rattle.mt_values.specs.declared.schema.Column.{Column}
use Rattle.mt_values.specs.declared.schema.Schema.{Schema}
use Rattle.mt_values.specs.declared.value.ColType.{ColType}
use Rattle.mt_values.specs.declared.value.Value.{Value}
use Rattle.mt_values.specs.Grid.{AreRowsOf, Cells, column_of, row_at, rows_of}
use Rattle.mt_values.specs.Printing.{selected}
use Rattle.mt_values.specs.Schemas.{column_types}
use Rattle.mt_values.specs.Values.{Row, types_of}
use Rattle.mt_values.proofs.Grids.{filter_map_more, lengths_typed, slice_get-column_of}
use Rattle.part_damage.specs.part_writer.declared.loaded.Loaded.{Loaded}
use Rattle.part_reader.specs.declared.reading.Part.{Part}
use Rattle.part_reader.specs.declared.reading.PartFault.{PartFault}
use Rattle.part_reader.specs.declared.reading.PartFault.TheVariants.{Fault, NoMemory, Damaged}
use Rattle.part_reader.specs.Faults.{ExplainsAt, ExplainsEach}
use Rattle.part_reader.specs.Granules.{chosen_count, chosen_of}
use Rattle.part_reader.specs.Parts.{HoldsAt, with_columns}
use Rattle.part_reader.proofs.ChosenItems.{chosen_length, chosen_skip, count_run}
use Rattle.part_reader.proofs.Holding.{columns_within, each_typed, type_there}
use Rattle.std.proofs.lemmas.List.FromFn.{length-range_with_len}

-- ---- the rows of columns

map_range : {X Y : Type 0} (f : ℕ → Y) (g : X → Y) (xs : List X) (a : ℕ) → ((k : ℕ) (x : X) → slice_get xs k ≡ Some x → f (a + k) ≡ g x) → map f (range_with_len a (length xs)) ≡ map g xs
map_range f g [] a same = refl
map_range f g (x ∷ xs) a same =
    let here : a ≡ a + 0 = omega arith in
    ap₂ (λ y ys. y ∷ ys) (ap f here ∙ same 0 x refl) (map_range f g xs (a + 1) (λ k y is. let next : a + 1 + k ≡ a + suc k = omega arith in ap f next ∙ same (suc k) y is))

row_by_values : (columns : List Cells) (k : ℕ) → row_at columns k ≡ filter_map (λ (vs : List Value). slice_get vs k) (map (λ (c : Cells). c.values) columns)
row_by_values [] k = refl
row_by_values (c ∷ cs) k = ap (cons_option (slice_get c.values k)) (row_by_values cs k)

-- each row has each of the places
abbrev pub HaveAll : List ℕ → List Row → Type 0
HaveAll places rows = All (λ place. All (λ (row : Row). place < length row) rows) places

values_row : (rows : List Row) (places : List ℕ) (k : ℕ) (row : Row) → slice_get rows k ≡ Some row → HaveAll places rows → filter_map (λ (vs : List Value). slice_get vs k) (map (λ place. column_of place rows) places) ≡ selected places row
values_row rows [] k row is fit = refl
values_row rows (p ∷ ps) k row is fit =
    let here : All (λ (r : Row). p < length r) rows = All-head (λ place. All (λ (r : Row). place < length r) rows) p ps fit in
    ap₂ cons_option (slice_get-column_of p rows k here ∙ ap (option_and_then (λ (r : Row). slice_get r p)) is)
    (values_row rows ps k row is (All-tail (λ place. All (λ (r : Row). place < length r) rows) p ps fit))

-- columns with the values that rows have at these places make the rows with these values
pub projected : (columns : List Cells) (places : List ℕ) (rows : List Row) → map (λ (c : Cells). c.values) columns ≡ map (λ place. column_of place rows) places → HaveAll places rows → rows_of columns (length rows) ≡ map (selected places) rows
projected columns places rows are fit =
    map_range (row_at columns) (selected places) rows 0
    (λ k row is. ap (row_at columns) (zero-add k) ∙ (row_by_values columns k ∙ (ap (filter_map (λ (vs : List Value). slice_get vs k)) are ∙ values_row rows places k row is fit)))

-- columns that were empty have the values of the rows alone
pub with_empty : (rows : List Row) (places : List ℕ) (columns : List Cells) → map (λ (c : Cells). c.values) columns ≡ map (λ place. []) places → map (λ (c : Cells). c.values) (with_columns rows places columns) ≡ map (λ place. column_of place rows) places
with_empty rows [] columns are = refl
with_empty rows (p ∷ ps) [] are = cc
with_empty rows (p ∷ ps) (c ∷ cs) are =
    let first : c.values ≡ [] = cc in
    let rest : map (λ (x : Cells). x.values) cs ≡ map (λ place. []) ps = cc in
    ap₂ (λ (v : List Value) (vs : List (List Value)). v ∷ vs) (ap (λ vs. vs ++ column_of p rows) first) (with_empty rows ps cs rest)

pub empty_even : (places : List ℕ) (columns : List Cells) → map (λ (c : Cells). c.values) columns ≡ map (λ place. []) places → All (λ (c : Cells). length c.values ≡ 0) columns
empty_even places [] are = All-nil (λ (c : Cells). length c.values ≡ 0)
empty_even [] (c ∷ cs) are = cc
empty_even (p ∷ ps) (c ∷ cs) are =
    let first : c.values ≡ [] = cc in
    let rest : map (λ (x : Cells). x.values) cs ≡ map (λ place. []) ps = cc in
    All-cons (λ (x : Cells). length x.values ≡ 0) c cs (ap length first) (empty_even ps cs rest)

-- there is a column for each place
pub empty_many : (places : List ℕ) (columns : List Cells) → map (λ (c : Cells). c.values) columns ≡ map (λ place. []) places → length columns ≡ length places
empty_many places columns are = sym (length-map columns (λ (c : Cells). c.values)) ∙ (ap length are ∙ length-map places (λ place. []))

-- columns that were lent out are there again
pub lent_back : (columns new : List Cells) (len : ℕ) → length new ≡ length columns → length columns ≡ len → take len (new ++ drop (length new) columns) ≡ new
lent_back columns new len many is = take_at new (drop (length new) columns) len (many ∙ is)

-- one column more, without values
module _ (schema : Schema) (places : List ℕ) (at place : ℕ) (column : Column) (columns : List Cells) (lt : at < length places) (is : place ≡ get_or places at place) where
  pub types_next : slice_get schema.columns place ≡ Some column → map (λ (c : Cells). c.col_type) columns ≡ filter_map (slice_get (column_types schema)) (take at places)
      → map (λ (c : Cells). c.col_type) (columns ++ record { col_type = column.col_type; values = [] } ∷ []) ≡ filter_map (slice_get (column_types schema)) (take (at + 1) places)
  types_next there are =
      let here : slice_get (column_types schema) place ≡ Some column.col_type = slice_get-map (λ (c : Column). c.col_type) schema.columns place ∙ ap (option_map (λ (c : Column). c.col_type)) there in
      map-append (λ (c : Cells). c.col_type) columns (record { col_type = column.col_type; values = [] } ∷ [])
      ∙ (ap (λ ts. ts ++ column.col_type ∷ []) are ∙ sym (filter_map_more (slice_get (column_types schema)) places at place column.col_type lt is here))

pub empty_next : (places : List ℕ) (at : ℕ) (columns : List Cells) (t : ColType) → at < length places → map (λ (c : Cells). c.values) columns ≡ map (λ place. []) (take at places)
    → map (λ (c : Cells). c.values) (columns ++ record { col_type = t; values = [] } ∷ []) ≡ map (λ place. []) (take (at + 1) places)
empty_next places at columns t lt are =
    map-append (λ (c : Cells). c.values) columns (record { col_type = t; values = [] } ∷ [])
    ∙ (ap (λ (vs : List (List Value)). vs ++ [] ∷ []) are ∙ sym (ap (map (λ place. [])) (take_more places at 0 lt) ∙ map-append (λ place. []) (take at places) (get_or places at 0 ∷ [])))

-- ---- chosen rows

pub chosen_every : {X : Type 0} (P : X → Type 0) (g : ℕ) (chosen : List Bool) (xs : List X) → All P xs → All P (chosen_of g chosen xs)
chosen_every P g [] xs all = All-nil P
chosen_every P g (true ∷ chosen) xs all = All-append P (take g xs) (chosen_of g chosen (drop g xs)) (All-take P g xs all) (chosen_every P g chosen (drop g xs) (All-drop P g xs all))
chosen_every P g (false ∷ chosen) xs all = chosen_every P g chosen (drop g xs) (All-drop P g xs all)

pub typed_have_all : (types : List ColType) (places : List ℕ) (rows : List Row) → All (λ place. place < length types) places → AreRowsOf types rows → HaveAll places rows
typed_have_all types places rows within typed =
    All-weaker (λ p. p < length types) (λ p. All (λ (row : Row). p < length row) rows)
    (λ p lt. All-weaker (λ row. length row ≡ length types) (λ row. p < length row) (λ row len. omega (arith, len, lt)) rows (lengths_typed types rows typed)) places within

module _ {F : Type 0} (files_of : F → Option Files) (schema : Schema) (part : Part F) (places : List ℕ) (rows : List Row) (h : HoldsAt files_of schema part (map file.Column places) rows) (chosen : List Bool) where
  abbrev g : ℕ
  g = part.loaded.schema.granularity

  pub chosen_many : chosen_count g chosen part.loaded.manifest.rows ≡ length (chosen_of g chosen rows)
  chosen_many = chosen_length g chosen (range_with_len 0 part.loaded.manifest.rows) rows (length-range_with_len 0 part.loaded.manifest.rows ∙ ap (λ (l : Loaded). l.manifest.rows) h.loaded_is)

  -- what columns make that got the chosen values
  pub rows_cut : (count : ℕ) (olds news : List Cells) → count ≡ chosen_count g chosen part.loaded.manifest.rows → map (λ (c : Cells). c.values) olds ≡ map (λ place. []) places → news ≡ with_columns (chosen_of g chosen rows) places olds
      → rows_of news count ≡ map (selected places) (chosen_of g chosen rows)
  rows_cut count olds news many empty are =
      ap (rows_of news) (many ∙ chosen_many)
      ∙ projected news places (chosen_of g chosen rows) (ap (map (λ (c : Cells). c.values)) are ∙ with_empty (chosen_of g chosen rows) places olds empty)
      (typed_have_all (column_types schema) places (chosen_of g chosen rows) (columns_within files_of schema part places rows h) (chosen_every (λ (row : Row). types_of row ≡ column_types schema) g chosen rows h.typed))

-- ---- how many rows

module _ (size count : ℕ) (chosen : List Bool) (granule : ℕ) (below : granule < length chosen) where
  -- a granule more
  pub count_more : get_or chosen granule false ≡ true → chosen_count size (take (granule + 1) chosen) count ≡ chosen_count size (take granule chosen) count + min (size * 1) (count - size * granule)
  count_more is =
      count_run size count chosen (record { first = granule; count = 1 })
      (record { within = omega (arith, below); all = take_more chosen granule false below ∙ ap (λ (b : Bool). take granule chosen ++ b ∷ []) is })

  pub count_skip : get_or chosen granule false ≡ false → chosen_count size (take (granule + 1) chosen) count ≡ chosen_count size (take granule chosen) count
  count_skip not = ap length (chosen_skip size chosen granule (range_with_len 0 count) below not)

-- ---- what a fault says

-- of columns of the types at their places
pub explained_at : (Explains : ℕ → ColType → PartFault → Type 0) (types : List ColType) (places : List ℕ) (columns : List Cells) (why : PartFault) → All (λ place. place < length types) places → map (λ (c : Cells). c.col_type) columns ≡ filter_map (slice_get types) places
    → ExplainsEach Explains places columns why → ExplainsAt Explains types places why
explained_at Explains types places columns Fault within typed e = tt
explained_at Explains types places columns NoMemory within typed e = tt
explained_at Explains types places columns (Damaged f place wanted found) within typed e = record {
  at = e.at;
  number = e.number;
  col_type = e.column.col_type;
  number_is = e.number_is;
  type_is = type_there types places columns e.at e.number e.column (each_typed types places columns within typed) e.number_is e.column_is;
  explained = e.explained;
}
