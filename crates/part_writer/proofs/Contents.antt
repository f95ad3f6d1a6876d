-- The files of which a part's manifest has marks: each is there once, at its place.
use Rattle.std.proofs.Common.{◌≡◌, ℕ, ◌+◌, ◌-◌, ◌<◌, ◌≤◌, ◌⊎◌, inl, inr, Bool, true, false, zero, suc, List, [], ◌∷◌, ◌++◌, Some, None, get_or, refl, sym, ap, ◌∙◌, subst, length, length-append, map, slice_get, take, arith, All}
use Rattle.std.specs.Option.{option_map}
use Rattle.std.proofs.lemmas.Bool.{cases_lt, eqb-true}
use Rattle.std.proofs.lemmas.List.{get_or-take, length-take, map_push, take_more}
use Rattle.std.proofs.lemmas.List.Folds.{list_any_none}
use Rattle.std.proofs.lemmas.List.FromFn.{get_or-map-range_with_len, length-map-range_with_len}
use Rattle.std.proofs.lemmas.Option.{get_or_from_slice_get, same_Some, slice_get-get_or, slice_get-map, slice_get_past, slice_get_within}
use Rattle.mt_base.specs.declared.name.FileId.{FileId}
use Rattle.mt_base.specs.declared.name.FileId.TheVariants as file
use Rattle.mt_base.specs.Files.{same_file}
use Rattle.mt_values.specs.declared.manifest.FileMark.{FileMark}
use Rattle.mt_values.specs.declared.schema.Schema.{Schema}
use Rattle.mt_values.specs.Values.{Row}
use Rattle.stage_dir.specs.Stages.{has_file}
use Rattle.part_writer.specs.PartFiles.{IsContent, column_ids, content_bytes, content_ids, content_of_part, manifest_of, mark_of, marks_of, opened_ids, skip_ids, with_bytes}

-- ---- two lists, one after the other

slice_get_left : {X : Type 0} (xs ys : List X) (i : ℕ) → i < length xs → slice_get (xs ++ ys) i ≡ slice_get xs i
slice_get_left [] ys i below = absurd (omega (arith, below))
slice_get_left (x ∷ xs) ys zero below = refl
slice_get_left (x ∷ xs) ys (suc i) below = slice_get_left xs ys i (omega (arith, below))

slice_get_right : {X : Type 0} (xs ys : List X) (i n : ℕ) → i ≡ length xs + n → slice_get (xs ++ ys) i ≡ slice_get ys n
slice_get_right [] ys i n e = let same : i ≡ n = omega (arith, e) in ap (slice_get ys) same
slice_get_right (x ∷ xs) ys zero n e = absurd (omega (arith, e))
slice_get_right (x ∷ xs) ys (suc i) n e = slice_get_right xs ys i n (omega (arith, e))

-- ---- the files of the skip indexes and of the columns

skips_length : (schema : Schema) → length (skip_ids schema) ≡ length schema.indexes
skips_length schema = length-map-range_with_len file.Skip 0 (length schema.indexes)

columns_length : (schema : Schema) → length (column_ids schema) ≡ length schema.columns
columns_length schema = length-map-range_with_len file.Column 0 (length schema.columns)

pub skip_at : (schema : Schema) (i : ℕ) → i < length schema.indexes → slice_get (skip_ids schema) i ≡ Some (file.Skip i)
skip_at schema i below =
    slice_get-get_or (skip_ids schema) i (file.Skip i) (omega (arith, skips_length schema))
    ∙ ap Some (get_or-map-range_with_len file.Skip 0 (length schema.indexes) i i (file.Skip i) below (omega arith))

pub skip_is : (schema : Schema) (i : ℕ) (f : FileId) → slice_get (skip_ids schema) i ≡ Some f → (f ≡ file.Skip i) × (i < length schema.indexes)
skip_is schema i f here =
    let within : i < length (skip_ids schema) = slice_get_within (skip_ids schema) i f here in
    let below : i < length schema.indexes = omega (arith, skips_length schema) in
    (same_Some f (file.Skip i) (sym here ∙ skip_at schema i below), below)

pub column_at : (schema : Schema) (i : ℕ) → i < length schema.columns → slice_get (column_ids schema) i ≡ Some (file.Column i)
column_at schema i below =
    slice_get-get_or (column_ids schema) i (file.Column i) (omega (arith, columns_length schema))
    ∙ ap Some (get_or-map-range_with_len file.Column 0 (length schema.columns) i i (file.Column i) below (omega arith))

pub no_column_at : (schema : Schema) (i : ℕ) → length schema.columns ≤ i → slice_get (column_ids schema) i ≡ None
no_column_at schema i past = slice_get_past (column_ids schema) i (omega (arith, columns_length schema))

pub column_is : (schema : Schema) (i : ℕ) (f : FileId) → slice_get (column_ids schema) i ≡ Some f → (f ≡ file.Column i) × (i < length schema.columns)
column_is schema i f here =
    let within : i < length (column_ids schema) = slice_get_within (column_ids schema) i f here in
    let below : i < length schema.columns = omega (arith, columns_length schema) in
    (same_Some f (file.Column i) (sym here ∙ column_at schema i below), below)

-- the files that have numbers: those of the skip indexes, and after them those of the columns
abbrev pub numbered_ids : Schema → List FileId
numbered_ids schema = skip_ids schema ++ column_ids schema

pub numbered_skip : (schema : Schema) (i : ℕ) → i < length schema.indexes → slice_get (numbered_ids schema) i ≡ Some (file.Skip i)
numbered_skip schema i below = slice_get_left (skip_ids schema) (column_ids schema) i (omega (arith, skips_length schema)) ∙ skip_at schema i below

pub numbered_column : (schema : Schema) (i n : ℕ) → i ≡ length schema.indexes + n → slice_get (numbered_ids schema) i ≡ slice_get (column_ids schema) n
numbered_column schema i n e = slice_get_right (skip_ids schema) (column_ids schema) i n (omega (arith, e, skips_length schema))

-- the file at a place of them
pub record IsColumnAt (schema : Schema) (i : ℕ) (f : FileId) : Type 0 where
  pub number : ℕ
  pub place_is : i ≡ length schema.indexes + number
  pub file_is : f ≡ file.Column number
  pub below : number < length schema.columns

pub numbered_is : (schema : Schema) (i : ℕ) (f : FileId) → slice_get (numbered_ids schema) i ≡ Some f → ((f ≡ file.Skip i) × (i < length schema.indexes)) ⊎ IsColumnAt schema i f
numbered_is schema i f here = by (cases_lt i (length schema.indexes))
  where
    by : (i < length schema.indexes) ⊎ (length schema.indexes ≤ i) → ((f ≡ file.Skip i) × (i < length schema.indexes)) ⊎ IsColumnAt schema i f
    by (inl less) = inl (same_Some f (file.Skip i) (sym here ∙ numbered_skip schema i less), less)
    by (inr more) =
        let n : ℕ = i - length schema.indexes in
        let place : i ≡ length schema.indexes + n = omega (arith, more) in
        let is = column_is schema n f (sym (numbered_column schema i n place) ∙ here) in
        inr (record { number = n; place_is = place; file_is = is.0; below = is.1 })

-- ---- all of them

pub content_length : (schema : Schema) → length (content_ids schema) ≡ length schema.indexes + length schema.columns + 2
content_length schema = omega (arith, skips_length schema, columns_length schema, length-append (skip_ids schema) (column_ids schema))

pub opened_length : (schema : Schema) → length (opened_ids schema) ≡ length schema.indexes + 2
opened_length schema = omega (arith, skips_length schema)

-- the place of a skip index's file
pub content_skip : (schema : Schema) (n : ℕ) → n < length schema.indexes → slice_get (content_ids schema) (n + 2) ≡ Some (file.Skip n)
content_skip schema n below =
    let up : n + 2 ≡ suc (suc n) = omega arith in
    ap (slice_get (content_ids schema)) up ∙ numbered_skip schema n below

pub opened_skip : (schema : Schema) (n : ℕ) → n < length schema.indexes → slice_get (opened_ids schema) (n + 2) ≡ Some (file.Skip n)
opened_skip schema n below =
    let up : n + 2 ≡ suc (suc n) = omega arith in
    ap (slice_get (opened_ids schema)) up ∙ skip_at schema n below

-- the place of a column's file
pub content_at : (schema : Schema) (n : ℕ) → n < length schema.columns → slice_get (content_ids schema) (n + length schema.indexes + 2) ≡ Some (file.Column n)
content_at schema n below =
    let up : n + length schema.indexes + 2 ≡ suc (suc (length schema.indexes + n)) = omega arith in
    ap (slice_get (content_ids schema)) up ∙ numbered_column schema (length schema.indexes + n) n refl ∙ column_at schema n below

-- there is a file at each place
pub content_there : (schema : Schema) (i : ℕ) → i < length (content_ids schema) → slice_get (content_ids schema) i ≡ Some (get_or (content_ids schema) i file.Entry)
content_there schema i below = slice_get-get_or (content_ids schema) i file.Entry below

-- ---- which there are

numbered_known : (schema : Schema) (i : ℕ) (f : FileId) → ((f ≡ file.Skip i) × (i < length schema.indexes)) ⊎ IsColumnAt schema i f → IsContent schema f
numbered_known schema i f (inl skip) = subst (IsContent schema) (sym skip.0) skip.1
numbered_known schema i f (inr column) = subst (IsContent schema) (sym column.file_is) column.below

pub content_known : (schema : Schema) (i : ℕ) (f : FileId) → slice_get (content_ids schema) i ≡ Some f → IsContent schema f
content_known schema zero f here = subst (IsContent schema) (same_Some file.Marks f here) tt
content_known schema (suc zero) f here = subst (IsContent schema) (same_Some file.Primary f here) tt
content_known schema (suc (suc i)) f here = numbered_known schema i f (numbered_is schema i f here)

pub content_all : (schema : Schema) (f : FileId) → IsContent schema f → (place : ℕ) × (slice_get (content_ids schema) place ≡ Some f)
content_all schema (file.Column n) below = (n + length schema.indexes + 2, content_at schema n below)
content_all schema (file.Skip n) below = (n + 2, content_skip schema n below)
content_all schema file.Entry is = absurd is
content_all schema file.Manifest is = absurd is
content_all schema file.Marks is = (0, refl)
content_all schema file.Primary is = (1, refl)

pub all_content : (schema : Schema) → All (IsContent schema) (content_ids schema)
all_content schema k d below = content_known schema k (get_or (content_ids schema) k d) (slice_get-get_or (content_ids schema) k d below)

-- those that are read where a part is opened come first
pub opened_content : (schema : Schema) (i : ℕ) (f : FileId) → slice_get (opened_ids schema) i ≡ Some f → slice_get (content_ids schema) i ≡ Some f
opened_content schema i f here = slice_get_left (opened_ids schema) (column_ids schema) i (slice_get_within (opened_ids schema) i f here) ∙ here

-- ---- each once

-- the place of a file, by its kind
abbrev pub file_place : Schema → FileId → ℕ
file_place schema file.Marks = 0
file_place schema file.Primary = 1
file_place schema (file.Skip n) = n + 2
file_place schema (file.Column n) = n + length schema.indexes + 2
file_place schema f = 0

numbered_place : (schema : Schema) (i : ℕ) (f : FileId) → ((f ≡ file.Skip i) × (i < length schema.indexes)) ⊎ IsColumnAt schema i f → file_place schema f ≡ suc (suc i)
numbered_place schema i f (inl skip) = let up : i + 2 ≡ suc (suc i) = omega arith in ap (file_place schema) skip.0 ∙ up
numbered_place schema i f (inr column) =
    let up : column.number + length schema.indexes + 2 ≡ suc (suc i) = omega (arith, column.place_is) in
    ap (file_place schema) column.file_is ∙ up

pub content_place : (schema : Schema) (i : ℕ) (f : FileId) → slice_get (content_ids schema) i ≡ Some f → file_place schema f ≡ i
content_place schema zero f here = ap (file_place schema) (sym (same_Some file.Marks f here))
content_place schema (suc zero) f here = ap (file_place schema) (sym (same_Some file.Primary f here))
content_place schema (suc (suc i)) f here = numbered_place schema i f (numbered_is schema i f here)

-- a file is the same as no other
same_is : (f g : FileId) → same_file f g ≡ true → f ≡ g
same_is file.Entry file.Entry e = refl
same_is file.Manifest file.Manifest e = refl
same_is file.Marks file.Marks e = refl
same_is file.Primary file.Primary e = refl
same_is (file.Skip m) (file.Skip n) e = ap file.Skip (eqb-true m n e)
same_is (file.Column m) (file.Column n) e = ap file.Column (eqb-true m n e)
same_is f g e = cc

-- files that are not one are told apart
differ : (f g : FileId) → (f ≡ g → ⊥) → same_file f g ≡ false
differ f g other = by (same_file f g) refl
  where
    by : (b : Bool) → same_file f g ≡ b → b ≡ false
    by true e = absurd (other (same_is f g e))
    by false e = refl

-- a file at another place is another
pub other_place : (schema : Schema) (i k : ℕ) (f g : FileId) → slice_get (content_ids schema) i ≡ Some f → slice_get (content_ids schema) k ≡ Some g → k < i → same_file g f ≡ false
other_place schema i k f g here there below =
    differ g f (λ same. let places : k ≡ i = sym (content_place schema k g there) ∙ ap (file_place schema) same ∙ content_place schema i f here in omega (arith, places, below))

pub content_new : (schema : Schema) (i : ℕ) (f : FileId) → slice_get (content_ids schema) i ≡ Some f → has_file f (take i (content_ids schema)) ≡ false
content_new schema i f here = list_any_none (λ name. same_file name f) (take i (content_ids schema)) before
  where
    before : All (λ name. same_file name f ≡ false) (take i (content_ids schema))
    before k d below =
        let short : k < i = omega (arith, below, length-take i (content_ids schema)) in
        let inside : k < length (content_ids schema) = omega (arith, short, slice_get_within (content_ids schema) i f here) in
        subst (λ (g : FileId). same_file g f ≡ false) (sym (get_or-take i (content_ids schema) k d short))
        (other_place schema i k f (get_or (content_ids schema) k d) here (slice_get-get_or (content_ids schema) k d inside) short)

pub manifest_new : (schema : Schema) → has_file file.Manifest (content_ids schema) ≡ false
manifest_new schema = list_any_none (λ name. same_file name file.Manifest) (content_ids schema) (λ k d below. differ (get_or (content_ids schema) k d) file.Manifest (λ same. subst (IsContent schema) same (all_content schema k d below)))

-- ---- one file more

pub content_more : (schema : Schema) (i : ℕ) (f : FileId) → slice_get (content_ids schema) i ≡ Some f → take (i + 1) (content_ids schema) ≡ take i (content_ids schema) ++ f ∷ []
content_more schema i f here =
    take_more (content_ids schema) i f (slice_get_within (content_ids schema) i f here)
    ∙ ap (λ (g : FileId). take i (content_ids schema) ++ g ∷ []) (get_or_from_slice_get (content_ids schema) i f f here)

pub bytes_more : (schema : Schema) (rows : List Row) (fs : List FileId) (f : FileId) → map (with_bytes schema rows) (fs ++ f ∷ []) ≡ map (with_bytes schema rows) fs ++ (f, content_bytes schema rows f) ∷ []
bytes_more schema rows fs f = map_push (with_bytes schema rows) fs f

pub marks_more : (schema : Schema) (rows : List Row) (fs : List FileId) (f : FileId) → marks_of (map (with_bytes schema rows) (fs ++ f ∷ [])) ≡ marks_of (map (with_bytes schema rows) fs) ++ mark_of (content_bytes schema rows f) ∷ []
marks_more schema rows fs f =
    ap marks_of (bytes_more schema rows fs f) ∙ map_push (λ (g : FileId × List ℕ). mark_of g.1) (map (with_bytes schema rows) fs) (f, content_bytes schema rows f)

-- ---- the lists of files, of those with their bytes, and of their marks

pub files_with_bytes : (schema : Schema) (rows : List Row) (fs : List FileId) → map (λ (f : FileId × List ℕ). f.0) (map (with_bytes schema rows) fs) ≡ fs
files_with_bytes schema rows [] = refl
files_with_bytes schema rows (f ∷ fs) = ap (λ (gs : List FileId). f ∷ gs) (files_with_bytes schema rows fs)

pub mark_at : (schema : Schema) (rows : List Row) (i : ℕ) (f : FileId) → slice_get (content_ids schema) i ≡ Some f → slice_get (manifest_of schema rows).files i ≡ Some (mark_of (content_bytes schema rows f))
mark_at schema rows i f here =
    let marked : FileId × List ℕ → FileMark = λ (g : FileId × List ℕ). mark_of g.1 in
    slice_get-map marked (content_of_part schema rows) i
    ∙ ap (option_map marked) (slice_get-map (with_bytes schema rows) (content_ids schema) i ∙ ap (option_map (with_bytes schema rows)) here)

-- how many marks a manifest has
pub marks_length : (schema : Schema) (rows : List Row) (fs : List FileId) → length (marks_of (map (with_bytes schema rows) fs)) ≡ length fs
marks_length schema rows [] = refl
marks_length schema rows (f ∷ fs) = ap suc (marks_length schema rows fs)
