-- Parts that hold rows: the files that were written are theirs, and nothing of them is damaged.
use Rattle.std.proofs.Common.{◌≡◌, ℕ, zero, suc, ◌+◌, ◌<◌, ◌⊎◌, inl, inr, List, [], ◌∷◌, Option, Some, refl, sym, ap, ◌∙◌, subst, length, map, get_or, slice_get, filter_map, All, arith, IsSomeAnd, MatchOption}
use Rattle.std.specs.List.{AllZip, cons_option}
use Rattle.std.specs.Option.{ForSome, option_map}
use Rattle.std.proofs.lemmas.List.{length-map, get_or-map}
use Rattle.std.proofs.lemmas.List.Elements.{All-head, All-map, All-tail}
use Rattle.std.proofs.lemmas.Option.{get_or_from_slice_get, same_Some, slice_get-get_or, slice_get-map, slice_get_within}
use Rattle.std.proofs.lemmas.Slice.Zip.{AllZip-right}
use Rattle.sha2.specs.Sha256.{sha256}
use Rattle.mt_values.specs.declared.manifest.Manifest.{Manifest}
use Rattle.mt_base.specs.declared.name.FileId.{FileId}
use Rattle.mt_base.specs.declared.name.FileId.TheVariants as file
use Rattle.mt_values.specs.declared.schema.Column.{Column}
use Rattle.mt_values.specs.declared.schema.Schema.{Schema}
use Rattle.mt_values.specs.declared.value.ColType.{ColType}
use Rattle.mt_values.specs.declared.value.ColType.TheVariants as type
use Rattle.mt_values.specs.ColumnBytes.{column_bytes}
use Rattle.mt_values.specs.Grid.{AreRowsOf, Cells, column_of}
use Rattle.mt_values.specs.Manifests.{manifest_bytes}
use Rattle.mt_values.specs.Schemas.{column_types}
use Rattle.mt_values.specs.Values.{FitsType, Row}
use Rattle.mt_outside.specs.Files.{Files, bytes_of}
use Rattle.part_damage.specs.byte_numbers.declared.faults.FormatFault.{FormatFault}
use Rattle.part_damage.specs.byte_numbers.declared.faults.FormatFault.TheVariants as format
use Rattle.part_damage.specs.column_file.Faults.{Explains, IsFirstFault}
use Rattle.part_damage.proofs.ColumnFileOneWay.{no_spelling}
use Rattle.part_damage.specs.digest_file.Spellings.{IsManifestOf}
use Rattle.part_damage.specs.part_writer.PartFiles.{IsContent, all_synced, content_bytes, content_ids, files_of_part, loaded_of, manifest_of, mark_of, with_bytes}
use Rattle.part_damage.specs.part_writer.declared.loaded.Loaded.{Loaded}
use Rattle.part_damage.proofs.PartWriterContents.{IsColumnAt, all_content, content_all, mark_at, numbered_is}
use Rattle.part_damage.proofs.PartWriterFolders.{bytes_at, content_held, manifest_held, sealed_bytes}
use Rattle.part_reader.specs.declared.reading.PartFault.{PartFault}
use Rattle.part_reader.specs.declared.reading.PartFault.TheVariants.{Fault, NoMemory, Damaged}
use Rattle.part_reader.specs.declared.reading.Part.{Part}
use Rattle.part_reader.specs.Faults.{ExplainsColumn, ExplainsEach, IsColumnDamage, IsMisread, IsNoDamage, WantedValues, fault_after}
use Rattle.part_damage.specs.Marks.{mark_for}
use Rattle.part_reader.specs.Parts.{FolderHolds, HoldsAt, PartHolds}
use Rattle.part_damage.proofs.SpelledRows.{column_spelled}

-- ---- the marks of a manifest

-- the mark of a file that has a number
numbered_mark : (schema : Schema) (manifest : Manifest) (i : ℕ) (f : FileId) → ((f ≡ file.Skip i) × (i < length schema.indexes)) ⊎ IsColumnAt schema i f → mark_for schema manifest f ≡ slice_get manifest.files (suc (suc i))
numbered_mark schema manifest i f (inl skip) = let up : i + 2 ≡ suc (suc i) = omega arith in ap (mark_for schema manifest) skip.0 ∙ ap (slice_get manifest.files) up
numbered_mark schema manifest i f (inr column) =
    let up : column.number + length schema.indexes + 2 ≡ suc (suc i) = omega (arith, column.place_is) in
    ap (mark_for schema manifest) column.file_is ∙ ap (slice_get manifest.files) up

-- the mark of a file stands at its place
pub mark_placed : (schema : Schema) (manifest : Manifest) (i : ℕ) (f : FileId) → slice_get (content_ids schema) i ≡ Some f → mark_for schema manifest f ≡ slice_get manifest.files i
mark_placed schema manifest zero f here = ap (mark_for schema manifest) (sym (same_Some file.Marks f here))
mark_placed schema manifest (suc zero) f here = ap (mark_for schema manifest) (sym (same_Some file.Primary f here))
mark_placed schema manifest (suc (suc i)) f here = numbered_mark schema manifest i f (numbered_is schema i f here)

pub mark_held : (schema : Schema) (rows : List Row) (f : FileId) → IsContent schema f → mark_for schema (manifest_of schema rows) f ≡ Some (mark_of (content_bytes schema rows f))
mark_held schema rows f is =
    let there = content_all schema f is in
    mark_placed schema (manifest_of schema rows) there.0 f there.1 ∙ mark_at schema rows there.0 f there.1

-- ---- parts that hold rows

-- what was written is held
pub sealed_folder : (schema : Schema) (rows : List Row) → AreRowsOf (column_types schema) rows → All (λ (row : Row). All FitsType row) rows → IsManifestOf (manifest_bytes sha256 (manifest_of schema rows)) (manifest_of schema rows)
    → FolderHolds schema rows (all_synced (files_of_part schema rows))
sealed_folder schema rows typed encodable readable = record {
  held = sealed_bytes schema rows;
  readable = subst (λ bs. IsManifestOf bs (manifest_of schema rows)) (sym (manifest_held schema rows (all_synced (files_of_part schema rows)) (sealed_bytes schema rows))) readable;
  typed = typed;
  encodable = encodable;
}

module _ {F : Type 0} (files_of : F → Option Files) (schema : Schema) (part : Part F) (rows : List Row) where
  pub written_holds : (files : Files) → files_of part.dir ≡ Some files → part.loaded ≡ loaded_of schema rows → FolderHolds schema rows files → PartHolds files_of schema part rows
  written_holds files told loaded folder = record {
    files = files;
    files_are = told;
    within = all_content schema;
    held = content_held schema rows files folder.held;
    loaded_is = loaded;
    typed = folder.typed;
    encodable = folder.encodable;
  }

  -- the bytes of each file
  pub file_held : (h : PartHolds files_of schema part rows) (f : FileId) → IsContent schema f → bytes_of f h.files ≡ content_bytes schema rows f
  file_held h f is = let there = content_all schema f is in bytes_at schema rows h.files (content_ids schema) there.0 f h.held there.1

  -- what holds rows holds them at any of its columns
  pub holds_at : (places : List ℕ) → PartHolds files_of schema part rows → All (λ place. place < length schema.columns) places → HoldsAt files_of schema part (map file.Column places) rows
  holds_at places h below = record {
    files = h.files;
    files_are = h.files_are;
    within = All-map (IsContent schema) file.Column places below;
    held = All-map (λ (g : FileId × List ℕ). bytes_of g.0 h.files ≡ g.1) (with_bytes schema rows) (map file.Column places)
        (All-map (λ f. bytes_of f h.files ≡ content_bytes schema rows f) file.Column places (λ k d lt. file_held h (file.Column (get_or places k d)) (below k d lt)));
    loaded_is = h.loaded_is;
    typed = h.typed;
    encodable = h.encodable;
  }

-- of a part that holds rows at some columns: the columns are there, and their files have the bytes of these rows
module _ {F : Type 0} (files_of : F → Option Files) (schema : Schema) (part : Part F) (places : List ℕ) (rows : List Row) (h : HoldsAt files_of schema part (map file.Column places) rows) where
  pub columns_within : All (λ place. place < length (column_types schema)) places
  columns_within k d lt =
      let inside : IsContent schema (get_or (map file.Column places) k (file.Column d)) = h.within k (file.Column d) (omega (arith, length-map places file.Column)) in
      let below : get_or places k d < length schema.columns = subst (IsContent schema) (get_or-map file.Column places k d (file.Column d) lt) inside in
      omega (arith, length-map schema.columns (λ (c : Column). c.col_type))

  pub columns_held : All (λ place. bytes_of (file.Column place) h.files ≡ column_bytes (column_of place rows)) places
  columns_held k d lt =
      bytes_at schema rows h.files (map file.Column places) k (file.Column (get_or places k d)) h.held
      (slice_get-map file.Column places k ∙ ap (option_map file.Column) (slice_get-get_or places k d lt))

-- ---- columns of the types at their places

any : ColType
any = type.UInt8

-- each of the columns has the type at its place
abbrev pub AreTyped : List ColType → List ℕ → List Cells → Type 0
AreTyped types places columns = AllZip (λ (place : ℕ) (column : Cells). slice_get types place ≡ Some column.col_type) places columns

pub each_typed : (types : List ColType) (places : List ℕ) (columns : List Cells) → All (λ place. place < length types) places → map (λ (c : Cells). c.col_type) columns ≡ filter_map (slice_get types) places → AreTyped types places columns
each_typed types [] [] within e = tt
each_typed types [] (c ∷ columns) within e = cc
each_typed types (p ∷ places) [] within e =
    let both : ◌≡◌ {A = List ColType} [] (get_or types p any ∷ filter_map (slice_get types) places) = e ∙ ap (λ o. cons_option o (filter_map (slice_get types) places)) (slice_get-get_or types p any (All-head (λ place. place < length types) p places within)) in
    cc
each_typed types (p ∷ places) (c ∷ columns) within e =
    let here : slice_get types p ≡ Some (get_or types p any) = slice_get-get_or types p any (All-head (λ place. place < length types) p places within) in
    let both : c.col_type ∷ map (λ (x : Cells). x.col_type) columns ≡ get_or types p any ∷ filter_map (slice_get types) places = e ∙ ap (λ o. cons_option o (filter_map (slice_get types) places)) here in
    (here ∙ ap Some (sym (first both)), each_typed types places columns (All-tail (λ place. place < length types) p places within) (behind both))
  where
    first : {a b : ColType} {x y : List ColType} → a ∷ x ≡ b ∷ y → a ≡ b
    first h = cc

    behind : {a b : ColType} {x y : List ColType} → a ∷ x ≡ b ∷ y → x ≡ y
    behind h = cc

-- ---- nothing is damaged

-- the type at a place of the columns
pub type_there : (types : List ColType) (places : List ℕ) (columns : List Cells) (at number : ℕ) (column : Cells) → AreTyped types places columns → slice_get places at ≡ Some number → slice_get columns at ≡ Some column → slice_get types number ≡ Some column.col_type
type_there types places columns at number column typed number_is column_is =
    let Typed = λ (place : ℕ) (c : Cells). slice_get types place ≡ Some c.col_type in
    let there = AllZip-right Typed places columns typed at in
    let this = subst (λ (o : Option Cells). MatchOption o (Unit {0}) (λ c. IsSomeAnd (slice_get places at) (λ p. Typed p c))) column_is there in
    subst (λ (o : Option ℕ). IsSomeAnd o (λ p. Typed p column)) number_is this

-- nothing of a column that holds rows goes wrong
no_damage : (told : Option Files) (files : Files) (schema : Schema) (rows : List Row) (w : WantedValues) (damage : PartFault) → told ≡ Some files → bytes_of (file.Column w.number) files ≡ column_bytes (column_of w.number rows)
    → w.count ≡ length rows → AreRowsOf (column_types schema) rows → All (λ (row : Row). All FitsType row) rows → slice_get (column_types schema) w.number ≡ Some w.col_type → IsColumnDamage told w damage → ⊥
no_damage told files schema rows w damage known held counted typed fit here d =
    no_spelling w.col_type w.count d.bytes d.misread.place (column_of w.number rows) d.misread.wrong
    (column_spelled (column_types schema) rows w.number w.col_type w.count d.bytes here typed fit counted (d.read files known ∙ held))

pub sound_part : {F : Type 0} (files_of : F → Option Files) (schema : Schema) (part : Part F) (places : List ℕ) (rows : List Row) (columns : List Cells) (fault : PartFault) → HoldsAt files_of schema part (map file.Column places) rows
    → map (λ (c : Cells). c.col_type) columns ≡ filter_map (slice_get (column_types schema)) places → ExplainsEach (ExplainsColumn (files_of part.dir) part.loaded) places columns fault → IsNoDamage fault
sound_part files_of schema part places rows columns Fault h typed why = tt
sound_part files_of schema part places rows columns NoMemory h typed why = tt
sound_part files_of schema part places rows columns (Damaged f place wanted found) h typed why =
    let held : bytes_of (file.Column why.number) h.files ≡ column_bytes (column_of why.number rows) =
    subst (λ p. bytes_of (file.Column p) h.files ≡ column_bytes (column_of p rows)) (get_or_from_slice_get places why.at why.number 0 why.number_is)
    (columns_held files_of schema part places rows h why.at 0 (slice_get_within places why.at why.number why.number_is)) in
    let here : slice_get (column_types schema) why.number ≡ Some why.column.col_type =
    type_there (column_types schema) places columns why.at why.number why.column (each_typed (column_types schema) places columns (columns_within files_of schema part places rows h) typed) why.number_is why.column_is in
    let w : WantedValues = record { loaded = part.loaded; number = why.number; col_type = why.column.col_type; count = part.loaded.manifest.rows } in
    absurd (no_damage (files_of part.dir) h.files schema rows w (Damaged f place wanted found) h.files_are held (ap (λ (l : Loaded). l.manifest.rows) h.loaded_is) h.typed h.encodable here why.explained)

-- ---- what is said of bytes that go wrong

pub misread_explained : (w : WantedValues) (start : ℕ) (bytes seen shown : List ℕ) (place : ℕ) (why : PartFault) → seen ≡ bytes → shown ≡ bytes → IsFirstFault w.col_type w.count seen place
    → why ≡ fault_after start w.loaded (file.Column w.number) shown (format.Malformed place) → IsMisread w start bytes why
misread_explained w start bytes seen shown place why same alike wrong is = record {
  place = place;
  wrong = subst (λ bs. IsFirstFault w.col_type w.count bs place) same wrong;
  fault_is = is ∙ ap (λ bs. fault_after start w.loaded (file.Column w.number) bs (format.Malformed place)) alike;
}

-- of a file that was read whole
pub column_explained : (told : Option Files) (loaded : Loaded) (number : ℕ) (t : ColType) (bytes seen shown : List ℕ) (error : FormatFault) (why : PartFault) → ForSome told (λ files. bytes ≡ bytes_of (file.Column number) files) → seen ≡ bytes → shown ≡ bytes
    → Explains t loaded.manifest.rows seen error → why ≡ fault_after 0 loaded (file.Column number) shown error → ExplainsColumn told loaded number t why
column_explained told loaded number t bytes seen shown format.NoMemory why read same alike wrong is = subst (ExplainsColumn told loaded number t) (sym is) tt
column_explained told loaded number t bytes seen shown (format.Malformed place) why read same alike wrong is =
    let w : WantedValues = record { loaded = loaded; number = number; col_type = t; count = loaded.manifest.rows } in
    subst (ExplainsColumn told loaded number t) (sym is)
    (record { bytes = bytes; read = read; misread = misread_explained w 0 bytes seen shown place (fault_after 0 loaded (file.Column number) shown (format.Malformed place)) same alike wrong refl })
