-- Columns that get the values of a part, one after another.
use Rattle.std.proofs.Common.{◌≡◌, ℕ, ◌+◌, ◌<◌, ◌≤◌, ◌≢◌, List, [], ◌∷◌, ◌++◌, Option, Some, refl, sym, ap, ap₂, ◌∙◌, subst, length, length-append, map, get_or, slice_get, filter_map, take, All, arith, Result, Ok, Err, IfErr, IsErrAnd}
use Rattle.std.proofs.Math.ListN.{set}
use Rattle.std.proofs.lemmas.List.{get_or-set_other, take_all, take_more, take_more_set}
use Rattle.std.proofs.lemmas.List.Elements.{All-nil, All-cons, All-head, All-tail}
use Rattle.mt_values.specs.declared.manifest.Manifest.{Manifest}
use Rattle.mt_base.specs.declared.name.FileId.TheVariants as file
use Rattle.mt_values.specs.declared.schema.Schema.{Schema}
use Rattle.mt_values.specs.declared.value.ColType.{ColType}
use Rattle.mt_values.specs.ColumnBytes.{column_bytes}
use Rattle.mt_values.specs.Grid.{AreRowsOf, Cells, column_of}
use Rattle.mt_values.specs.Schemas.{column_types}
use Rattle.mt_values.specs.Values.{FitsType, Row}
use Rattle.mt_outside.specs.Files.{Files, bytes_of}
use Rattle.part_damage.specs.column_file.Spellings.{with_values}
use Rattle.part_damage.proofs.ColumnFileReading.{gained_spelled}
use Rattle.part_damage.specs.part_writer.PartFiles.{manifest_of}
use Rattle.part_reader.specs.declared.reading.Part.{Part}
use Rattle.part_reader.specs.Columns.{AreEach, AreRead, IsRead}
use Rattle.part_reader.specs.Parts.{HoldsAt, with_columns}
use Rattle.part_damage.specs.part_writer.declared.loaded.Loaded.{Loaded}
use Rattle.part_reader.proofs.Holding.{AreTyped, columns_held, columns_within, each_typed}
use Rattle.part_damage.proofs.SpelledRows.{column_spelled}

-- ---- one column more

module _ (Gained : ℕ → Cells → Cells → Type 0) where
  read_push : (places : List ℕ) (olds news : List Cells) (number : ℕ) (old new : Cells) → AreEach Gained places olds news → Gained number old new → AreEach Gained (places ++ number ∷ []) (olds ++ old ∷ []) (news ++ new ∷ [])
  read_push [] [] [] number old new before this = (this, tt)
  read_push [] [] (n ∷ news) number old new before this = absurd before
  read_push [] (o ∷ olds) [] number old new before this = absurd before
  read_push [] (o ∷ olds) (n ∷ news) number old new before this = absurd before
  read_push (p ∷ places) [] [] number old new before this = absurd before
  read_push (p ∷ places) [] (n ∷ news) number old new before this = absurd before
  read_push (p ∷ places) (o ∷ olds) [] number old new before this = absurd before
  read_push (p ∷ places) (o ∷ olds) (n ∷ news) number old new before this = (before.0, read_push places olds news number old new before.1 this)

  -- the columns gone over, once one more of them was read
  pub read_more : (places : List ℕ) (olds now after : List Cells) (i : ℕ) (old new : Cells) → i < length places → length now ≡ length places → length olds ≡ length places → old ≡ get_or olds i old → after ≡ set now i new
      → AreEach Gained (take i places) (take i olds) (take i now) → Gained (get_or places i 0) old new → AreEach Gained (take (i + 1) places) (take (i + 1) olds) (take (i + 1) after)
  read_more places olds now after i old new below wide even old_is e before this =
      let p : take (i + 1) places ≡ take i places ++ get_or places i 0 ∷ [] = take_more places i 0 below in
      let o : take (i + 1) olds ≡ take i olds ++ old ∷ [] = take_more olds i old (omega arith) ∙ ap (λ x. take i olds ++ x ∷ []) (sym old_is) in
      let n : take (i + 1) after ≡ take i now ++ new ∷ [] = ap (take (i + 1)) e ∙ take_more_set now i new (omega arith) in
      rw (p, o, n) (read_push (take i places) (take i olds) (take i now) (get_or places i 0) old new before this)

  pub read_all : (places : List ℕ) (olds now : List Cells) (i : ℕ) → length places ≤ i → length now ≡ length places → length olds ≡ length places → AreEach Gained (take i places) (take i olds) (take i now) → AreEach Gained places olds now
  read_all places olds now i past wide even before =
      let p = take_all i places past in
      let o = take_all i olds (omega arith) in
      let n = take_all i now (omega arith) in
      rw (p, o, n) at before

-- the columns that are still to come stay as they were
pub rest_more : (olds now after : List Cells) (i : ℕ) (new : Cells) → ((k : ℕ) (d : Cells) → i ≤ k → get_or now k d ≡ get_or olds k d) → after ≡ set now i new → (k : ℕ) (d : Cells) → i + 1 ≤ k → get_or after k d ≡ get_or olds k d
rest_more olds now after i new before e k d above =
    let other : k ≢ i = λ same. omega arith in
    ap (λ (cs : List Cells). get_or cs k d) e ∙ get_or-set_other now i k new d other ∙ before k d (omega arith)

-- ---- what the columns got

-- their types stay
pub read_types : (told : Option Files) (manifest : Manifest) (places : List ℕ) (olds news : List Cells) → AreRead told manifest places olds news → map (λ (c : Cells). c.col_type) news ≡ map (λ (c : Cells). c.col_type) olds
read_types told manifest [] [] [] read = refl
read_types told manifest [] [] (n ∷ news) read = absurd read
read_types told manifest [] (o ∷ olds) [] read = absurd read
read_types told manifest [] (o ∷ olds) (n ∷ news) read = absurd read
read_types told manifest (p ∷ places) [] [] read = absurd read
read_types told manifest (p ∷ places) [] (n ∷ news) read = absurd read
read_types told manifest (p ∷ places) (o ∷ olds) [] read = absurd read
read_types told manifest (p ∷ places) (o ∷ olds) (n ∷ news) read =
    ap₂ (λ (t : ColType) (ts : List ColType). t ∷ ts) (ap (λ (c : Cells). c.col_type) read.0.gained.gained) (read_types told manifest places olds news read.1)

-- each gets a value for each row
pub read_even : (told : Option Files) (manifest : Manifest) (count : ℕ) (places : List ℕ) (olds news : List Cells) → AreRead told manifest places olds news → All (λ (c : Cells). length c.values ≡ count) olds → All (λ (c : Cells). length c.values ≡ count + manifest.rows) news
read_even told manifest count [] [] [] read even = All-nil (λ (c : Cells). length c.values ≡ count + manifest.rows)
read_even told manifest count [] [] (n ∷ news) read even = absurd read
read_even told manifest count [] (o ∷ olds) [] read even = absurd read
read_even told manifest count [] (o ∷ olds) (n ∷ news) read even = absurd read
read_even told manifest count (p ∷ places) [] [] read even = absurd read
read_even told manifest count (p ∷ places) [] (n ∷ news) read even = absurd read
read_even told manifest count (p ∷ places) (o ∷ olds) [] read even = absurd read
read_even told manifest count (p ∷ places) (o ∷ olds) (n ∷ news) read even =
    All-cons (λ (c : Cells). length c.values ≡ count + manifest.rows) n news here
    (read_even told manifest count places olds news read.1 (All-tail (λ (c : Cells). length c.values ≡ count) o olds even))
  where
    here : length n.values ≡ count + manifest.rows
    here =
        let gained = read.0.gained in
        let long : length n.values ≡ length (o.values ++ gained.values) = ap (λ (c : Cells). length c.values) gained.gained in
        let before : length o.values ≡ count = All-head (λ (c : Cells). length c.values ≡ count) o olds even in
        omega (arith, length-append o.values gained.values, gained.spelling.count_is)

-- ---- the values of rows

one_read : (told : Option Files) (files : Files) (manifest : Manifest) (schema : Schema) (rows : List Row) (number : ℕ) (old new : Cells) → told ≡ Some files → manifest ≡ manifest_of schema rows → AreRowsOf (column_types schema) rows → All (λ (row : Row). All FitsType row) rows
    → slice_get (column_types schema) number ≡ Some old.col_type → bytes_of (file.Column number) files ≡ column_bytes (column_of number rows) → IsRead told manifest number old new → new ≡ with_values old (column_of number rows)
one_read told files manifest schema rows number old new known is typed fit here held read =
    gained_spelled manifest.rows read.bytes old new (column_of number rows) read.gained
    (column_spelled (column_types schema) rows number old.col_type manifest.rows read.bytes here typed fit (ap (λ (m : Manifest). m.rows) is) (read.read files known ∙ held))

rows_gained : (told : Option Files) (files : Files) (manifest : Manifest) (schema : Schema) (rows : List Row) (places : List ℕ) (olds news : List Cells) → told ≡ Some files → manifest ≡ manifest_of schema rows → AreRowsOf (column_types schema) rows → All (λ (row : Row). All FitsType row) rows
    → All (λ place. bytes_of (file.Column place) files ≡ column_bytes (column_of place rows)) places → AreTyped (column_types schema) places olds → AreRead told manifest places olds news → news ≡ with_columns rows places olds
rows_gained told files manifest schema rows [] [] [] known is typed fit held here read = refl
rows_gained told files manifest schema rows [] [] (n ∷ news) known is typed fit held here read = absurd read
rows_gained told files manifest schema rows [] (o ∷ olds) news known is typed fit held here read = absurd here
rows_gained told files manifest schema rows (p ∷ places) [] news known is typed fit held here read = absurd here
rows_gained told files manifest schema rows (p ∷ places) (o ∷ olds) [] known is typed fit held here read = absurd read
rows_gained told files manifest schema rows (p ∷ places) (o ∷ olds) (n ∷ news) known is typed fit held here read =
    ap₂ (λ (c : Cells) (cs : List Cells). c ∷ cs)
    (one_read told files manifest schema rows p o n known is typed fit here.0 (All-head (λ place. bytes_of (file.Column place) files ≡ column_bytes (column_of place rows)) p places held) read.0)
    (rows_gained told files manifest schema rows places olds news known is typed fit (All-tail (λ place. bytes_of (file.Column place) files ≡ column_bytes (column_of place rows)) p places held) here.1 read.1)

-- of a part that holds rows the columns get theirs
pub rows_read : {F : Type 0} (files_of : F → Option Files) (schema : Schema) (part : Part F) (places : List ℕ) (rows : List Row) (olds news : List Cells) → HoldsAt files_of schema part (map file.Column places) rows
    → map (λ (c : Cells). c.col_type) olds ≡ filter_map (slice_get (column_types schema)) places → AreRead (files_of part.dir) part.loaded.manifest places olds news → news ≡ with_columns rows places olds
rows_read files_of schema part places rows olds news h typed read =
    rows_gained (files_of part.dir) h.files part.loaded.manifest schema rows places olds news h.files_are (ap (λ (l : Loaded). l.manifest) h.loaded_is) h.typed h.encodable (columns_held files_of schema part places rows h)
    (each_typed (column_types schema) places olds (columns_within files_of schema part places rows h) typed) read

-- what holds of an error that was handed on holds of the answer
pub handed_on : {T E : Type 0} (P : E → Type 0) (result : Result T E) (fault : E) → IsErrAnd result (λ e. e ≡ fault) → P fault → IfErr result P
handed_on P (Ok x) fault made holds = tt
handed_on P (Err e) fault made holds = subst P (sym made) holds
