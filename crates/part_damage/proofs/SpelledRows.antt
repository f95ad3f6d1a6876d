-- The rows that the files of columns spell where each is sound: there are some, and one list of them.
use Rattle.std.proofs.Common.{◌≡◌, ℕ, zero, suc, ◌+◌, ◌<◌, ◌≤◌, inl, inr, List, [], ◌∷◌, Option, Some, None, refl, sym, ap, ap₂, ◌∙◌, subst, length, map, get_or, slice_get, All, arith, zero-add, IsSomeAnd}
use Rattle.std.specs.List.{cons_option}
use Rattle.std.proofs.lemmas.List.{length-map}
use Rattle.std.proofs.lemmas.List.Elements.{All-nil, All-cons, All-head, All-tail}
use Rattle.std.proofs.lemmas.Option.{get_or_from_slice_get, same_Some, slice_get-get_or, slice_get_within}
use Rattle.mt_values.specs.declared.manifest.Manifest.{Manifest}
use Rattle.mt_base.specs.declared.name.FileId.{FileId}
use Rattle.mt_base.specs.declared.name.FileId.TheVariants as file
use Rattle.mt_values.specs.declared.schema.Column.{Column}
use Rattle.mt_values.specs.declared.schema.Schema.{Schema}
use Rattle.mt_values.specs.declared.value.ColType.{ColType}
use Rattle.mt_values.specs.declared.value.ColType.TheVariants as type
use Rattle.mt_values.specs.declared.value.Value.{Value}
use Rattle.mt_values.specs.ColumnBytes.{column_bytes}
use Rattle.mt_values.specs.Grid.{AreOfType, AreRowsOf, Cells, HaveTypeAt, column_of, rows_of}
use Rattle.mt_values.specs.Schemas.{column_types}
use Rattle.mt_values.specs.Values.{FitsType, Row, types_of}
use Rattle.mt_values.proofs.Grids.{AreEven, AreRowsOf-rows_of, HaveTypeAt-typed, column_of-rows_of, columns_from, length-rows_of, lengths_typed, rows_of-columns_from, type_at}
use Rattle.mt_values.proofs.OrderBy.{length_column}
use Rattle.mt_outside.specs.Files.{Files, bytes_of}
use Rattle.part_writer.specs.column_file.Spellings.{IsOfType, IsSpelling, Spells}
use Rattle.part_writer.proofs.FileLaws.{one_spelling}
use Rattle.part_writer.specs.primary_marks.Keys.{ArePartRows}
use Rattle.part_writer.specs.PartFiles.{content_ids}
use Rattle.part_writer.proofs.Contents.{content_at}
use Rattle.part_writer.proofs.Filling.{rows_fit}
use Rattle.part_damage.specs.Sound.{IsFirstWithout, IsSound, SpellRows}

abbrev any : Cells
any = record { col_type = type.UInt8; values = [] }

pub types_length : (schema : Schema) → length (column_types schema) ≡ length schema.columns
types_length schema = length-map schema.columns (λ (c : Column). c.col_type)

-- ---- what the file of a column spells

typed_column : (i : ℕ) (t : ColType) (rows : List Row) → HaveTypeAt i t rows → All (λ (row : Row). All FitsType row) rows → All (IsOfType t) (column_of i rows)
typed_column i t [] typed fit = All-nil (IsOfType t)
typed_column i t (row ∷ rows) typed fit =
    of_first (slice_get row i) refl (All-head (λ r. slice_get (types_of r) i ≡ Some t) row rows typed) (All-head (λ (r : Row). All FitsType r) row rows fit)
    (typed_column i t rows (All-tail (λ r. slice_get (types_of r) i ≡ Some t) row rows typed) (All-tail (λ (r : Row). All FitsType r) row rows fit))
  where
    of_first : (o : Option Value) → slice_get row i ≡ o → slice_get (types_of row) i ≡ Some t → All FitsType row → All (IsOfType t) (column_of i rows) → All (IsOfType t) (cons_option o (column_of i rows))
    of_first None e here fits rest = rest
    of_first (Some v) e here fits rest =
        All-cons (IsOfType t) v (column_of i rows) (type_at i t row v here e, subst FitsType (get_or_from_slice_get row i v v e) (fits i v (slice_get_within row i v e))) rest

-- the bytes of a column's file spell the column's values
pub column_spelled : (types : List ColType) (rows : List Row) (i : ℕ) (t : ColType) (count : ℕ) (bytes : List ℕ) → slice_get types i ≡ Some t → AreRowsOf types rows → All (λ (row : Row). All FitsType row) rows → count ≡ length rows → bytes ≡ column_bytes (column_of i rows)
    → IsSpelling t count bytes (column_of i rows)
column_spelled types rows i t count bytes here typed fit counted e = record {
  typed = typed_column i t rows (HaveTypeAt-typed types rows i t typed here) fit;
  count_is = length_column types rows i typed (slice_get_within types i t here) ∙ sym counted;
  spelled = e;
}

-- ---- the columns that bytes spell

-- the bytes of the column with this number spell these values
record AreBytesOf (bytes : ℕ → List ℕ) (number : ℕ) (values : List Value) : Type 0 where
  encodable : All FitsType values
  bytes_are : bytes number ≡ column_bytes values

-- columns of these types, which are counted from a number on, and their bytes
record SoundColumns (count : ℕ) (bytes : ℕ → List ℕ) (a : ℕ) (types : List ColType) : Type 0 where
  columns : List Cells
  types_are : map (λ (c : Cells). c.col_type) columns ≡ types
  even : AreEven columns count
  typed : All AreOfType columns
  each : (i n : ℕ) (c : Cells) → n ≡ a + i → slice_get columns i ≡ Some c → AreBytesOf bytes n c.values

module _ (count : ℕ) (bytes : ℕ → List ℕ) where
  -- one column more in front
  one_more : (a : ℕ) (t : ColType) (types : List ColType) (values : List Value) → All (IsOfType t) values → length values ≡ count → AreBytesOf bytes a values → SoundColumns count bytes (a + 1) types → SoundColumns count bytes a (t ∷ types)
  one_more a t types values typed counted this rest = record {
    columns = record { col_type = t; values = values } ∷ rest.columns;
    types_are = ap (λ (ts : List ColType). t ∷ ts) rest.types_are;
    even = All-cons (λ (c : Cells). length c.values ≡ count) (record { col_type = t; values = values }) rest.columns counted rest.even;
    typed = All-cons AreOfType (record { col_type = t; values = values }) rest.columns (λ k d below. (typed k d below).0) rest.typed;
    each = by;
  }
    where
      by : (i n : ℕ) (c : Cells) → n ≡ a + i → slice_get (record { col_type = t; values = values } ∷ rest.columns) i ≡ Some c → AreBytesOf bytes n c.values
      by zero n c e here =
          let same : record { col_type = t; values = values } ≡ c = same_Some (record { col_type = t; values = values }) c here in
          let number : a ≡ n = omega arith in
          subst (λ (x : Cells). AreBytesOf bytes n x.values) same (subst (λ k. AreBytesOf bytes k values) number this)
      by (suc i) n c e here = rest.each i n c (omega arith) here

  sound_columns : (a : ℕ) (types : List ColType) → ((i n : ℕ) (t : ColType) → n ≡ a + i → slice_get types i ≡ Some t → Spells t count (bytes n)) → SoundColumns count bytes a types
  sound_columns a [] each = record {
    columns = [];
    types_are = refl;
    even = All-nil (λ (c : Cells). length c.values ≡ count);
    typed = All-nil AreOfType;
    each = λ i n c e here. absurd cc;
  }
  sound_columns a (t ∷ types) each =
      let s : Spells t count (bytes a) = each 0 a t (omega arith) refl in
      one_more a t types s.values s.spelling.typed s.spelling.count_is (record { encodable = λ k d below. (s.spelling.typed k d below).1; bytes_are = s.spelling.spelled })
      (sound_columns (a + 1) types (λ i n u e here. each (suc i) n u (omega arith) here))

-- ---- the rows of these columns

module _ (schema : Schema) (count : ℕ) (bytes : ℕ → List ℕ) (s : SoundColumns count bytes 0 (column_types schema)) where
  abbrev rows : List Row
  rows = rows_of s.columns count

  inside : (k : ℕ) → k < length schema.columns → k < length s.columns
  inside k below = omega (arith, ap length s.types_are, length-map s.columns (λ (c : Cells). c.col_type), types_length schema)

  abbrev values_at : ℕ → List Value
  values_at k = (get_or s.columns k any).values

  bytes_at : (k : ℕ) → k < length schema.columns → AreBytesOf bytes k (values_at k)
  bytes_at k below = s.each k k (get_or s.columns k any) (sym (zero-add k)) (slice_get-get_or s.columns k any (inside k below))

  column_at_rows : (k : ℕ) → k < length schema.columns → column_of k rows ≡ values_at k
  column_at_rows k below = column_of-rows_of s.columns count k (get_or s.columns k any) s.even (slice_get-get_or s.columns k any (inside k below)) (s.even k any (inside k below))

  rows_typed : AreRowsOf (column_types schema) rows
  rows_typed = subst (λ (ts : List ColType). AreRowsOf ts rows) s.types_are (AreRowsOf-rows_of s.columns count s.even s.typed)

  part_rows : ArePartRows schema count rows
  part_rows = record {
    count_is = length-rows_of s.columns count;
    typed = rows_typed;
    fit = rows_fit (column_types schema) rows rows_typed (λ c below. let column : c < length schema.columns = omega (arith, types_length schema) in subst (All FitsType) (sym (column_at_rows c column)) (bytes_at c column).encodable);
  }

  spelled : (n : ℕ) → n < length schema.columns → bytes n ≡ column_bytes (column_of n rows)
  spelled n below = (bytes_at n below).bytes_are ∙ ap column_bytes (sym (column_at_rows n below))

-- bytes that spell values for each column spell rows
pub rows_of_bytes : (schema : Schema) (count : ℕ) (bytes : ℕ → List ℕ) → ((n : ℕ) (t : ColType) → slice_get (column_types schema) n ≡ Some t → Spells t count (bytes n))
    → (rows : List Row) × ArePartRows schema count rows × ((n : ℕ) → n < length schema.columns → bytes n ≡ column_bytes (column_of n rows))
rows_of_bytes schema count bytes each =
    let s = sound_columns count bytes 0 (column_types schema) (λ i n t e here. let same : i ≡ n = omega arith in each n t (subst (λ k. slice_get (column_types schema) k ≡ Some t) same here)) in
    (rows_of s.columns count, part_rows schema count bytes s, spelled schema count bytes s)

-- and so do files of columns
pub rows_of_columns : (schema : Schema) (count : ℕ) (files : Files) → ((n : ℕ) (t : ColType) → slice_get (column_types schema) n ≡ Some t → Spells t count (bytes_of (file.Column n) files)) → (rows : List Row) × SpellRows schema count files rows
rows_of_columns schema count files each =
    let r = rows_of_bytes schema count (λ n. bytes_of (file.Column n) files) each in
    (r.0, record { are = r.1; columns = r.2 })

-- where each of the files has it, each has it
pub all_have : (Holds : FileId → Type 0) (ids : List FileId) → IsFirstWithout Holds ids None → (i : ℕ) (f : FileId) → slice_get ids i ≡ Some f → Holds f
all_have Holds [] none i f here = absurd cc
all_have Holds (g ∷ gs) (inr h) i f here = let e = h.1 in absurd cc
all_have Holds (g ∷ gs) (inl h) zero f here = subst Holds (same_Some g f here) h.0
all_have Holds (g ∷ gs) (inl h) (suc i) f here = all_have Holds gs h.1 i f here

pub rows_spelled : (schema : Schema) (manifest : Manifest) (files : Files) → IsFirstWithout (λ g. IsSound schema manifest g (bytes_of g files)) (content_ids schema) None → (rows : List Row) × SpellRows schema manifest.rows files rows
rows_spelled schema manifest files none = rows_of_columns schema manifest.rows files each
  where
    each : (n : ℕ) (t : ColType) → slice_get (column_types schema) n ≡ Some t → Spells t manifest.rows (bytes_of (file.Column n) files)
    each n t here =
        let below : n < length (column_types schema) = slice_get_within (column_types schema) n t here in
        let sound = all_have (λ g. IsSound schema manifest g (bytes_of g files)) (content_ids schema) none (n + length schema.indexes + 2) (file.Column n) (content_at schema n (omega (arith, types_length schema))) in
        subst (λ (o : Option ColType). IsSomeAnd o (λ u. Spells u manifest.rows (bytes_of (file.Column n) files))) here sound.spelled

-- ---- one list of rows

same_columns : (x y : List Row) (a : ℕ) (types : List ColType) → ((i : ℕ) → a ≤ i → i < a + length types → column_of i x ≡ column_of i y) → columns_from a types x ≡ columns_from a types y
same_columns x y a [] same = refl
same_columns x y a (t ∷ types) same =
    ap₂ (λ (vs : List Value) (cs : List Cells). record { col_type = t; values = vs } ∷ cs) (same a (omega arith) (omega arith)) (same_columns x y (a + 1) types (λ i low high. same i (omega arith) (omega arith)))

-- rows of one number with the same columns are one list
pub rows_by_columns : (types : List ColType) (x y : List Row) → AreRowsOf types x → AreRowsOf types y → length x ≡ length y → ((i : ℕ) → i < length types → column_of i x ≡ column_of i y) → x ≡ y
rows_by_columns types x y typed_x typed_y count same =
    let columns : columns_from 0 types x ≡ columns_from 0 types y = same_columns x y 0 types (λ i low high. same i (omega arith)) in
    sym (rows_of-columns_from types x (lengths_typed types x typed_x)) ∙ ap₂ rows_of columns count ∙ rows_of-columns_from types y (lengths_typed types y typed_y)

pub one_rows : (schema : Schema) (count : ℕ) (files : Files) (x y : List Row) → SpellRows schema count files x → SpellRows schema count files y → x ≡ y
one_rows schema count files x y p q = rows_by_columns (column_types schema) x y p.are.typed q.are.typed (p.are.count_is ∙ sym q.are.count_is) each
  where
    each : (i : ℕ) → i < length (column_types schema) → column_of i x ≡ column_of i y
    each i below =
        let t = get_or (column_types schema) i type.UInt8 in
        let here : slice_get (column_types schema) i ≡ Some t = slice_get-get_or (column_types schema) i type.UInt8 below in
        let column : i < length schema.columns = omega (arith, types_length schema) in
        let bytes = bytes_of (file.Column i) files in
        one_spelling t count bytes (column_of i x) (column_of i y)
        (column_spelled (column_types schema) x i t count bytes here p.are.typed p.are.fit (sym p.are.count_is) (p.columns i column))
        (column_spelled (column_types schema) y i t count bytes here q.are.typed q.are.fit (sym q.are.count_is) (q.columns i column))
