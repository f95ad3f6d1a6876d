-- The first damaged file of a part, decided whatever the bytes are.
use Rattle.std.proofs.Common.{◌≡◌, ℕ, zero, suc, ◌-◌, ◌^◌, ◌&&◌, Bool, true, false, eqb, ltb, inl, inr, List, [], ◌∷◌, ◌++◌, All, Option, Some, None, refl, sym, ap, ap₂, ◌∙◌, subst, length, length-append, slice_get, take, drop, flat_map, append_assoc, append-nil, arith, IsSomeAnd}
use Rattle.std.specs.Bool.{Decides}
use Rattle.std.specs.Int.{w32, w64, to_le_bytes, from_le_bytes}
use Rattle.std.specs.List.{list_all}
use Rattle.std.specs.Str.{bytes_eq}
use Rattle.std.proofs.lemmas.Bool.{false≢true}
use Rattle.std.proofs.lemmas.Bool.Decides.{Decides-and, Decides-by_and, Decides-eqb, Decides-like, Decides-ltb}
use Rattle.std.proofs.lemmas.List.{drop-drop, drop_at, take_at}
use Rattle.std.proofs.lemmas.List.Elements.{All-head, All-tail}
use Rattle.std.proofs.lemmas.Nat.{from_le_bytes-to_le_bytes_4, from_le_bytes-to_le_bytes_8}
use Rattle.std.proofs.lemmas.Option.{get_or_from_slice_get, same_Some, slice_get_within}
use Rattle.std.proofs.lemmas.Slice.Eq.{bytes_eq-Decides}
use Rattle.sha2.specs.Sha256.{sha256}
use Rattle.mt_values.specs.declared.manifest.FileMark.{FileMark}
use Rattle.mt_values.specs.declared.manifest.Manifest.{Manifest}
use Rattle.mt_base.specs.declared.name.FileId.{FileId}
use Rattle.mt_base.specs.declared.name.FileId.TheVariants as file
use Rattle.mt_values.specs.declared.schema.Schema.{Schema}
use Rattle.mt_values.specs.declared.value.ColType.{ColType}
use Rattle.mt_values.specs.ColumnBytes.{column_bytes}
use Rattle.mt_values.specs.Manifests.{manifest_bytes, mark_bytes}
use Rattle.mt_values.specs.Schemas.{column_types}
use Rattle.mt_values.specs.Values.{Row}
use Rattle.mt_outside.specs.Files.{Files, bytes_of}
use Rattle.part_writer.specs.column_file.Marks.{granules, keys_bytes, numbers_bytes}
use Rattle.part_writer.specs.column_file.Spellings.{Spells}
use Rattle.part_writer.specs.column_file.Tests.{spells}
use Rattle.part_writer.proofs.FileLaws.{even, frame_from_manifest, keys_apart, manifest_first, spells_Decides, starts_apart}
use Rattle.part_writer.specs.digest_file.Frames.{framed}
use Rattle.part_writer.specs.digest_file.Spellings.{IsManifestOf, IsMark}
use Rattle.part_writer.specs.primary_marks.Keys.{IsKeyOf, IsPrimaryOf, KeyShape, ends_alone, granule_count, key_count, shape_of}
use Rattle.part_writer.specs.primary_marks.Places.{AreMarksOf, AreStartsOf}
use Rattle.part_writer.specs.PartFiles.{content_bytes, content_ids, mark_of, opened_ids}
use Rattle.part_damage.specs.Marks.{mark_for}
use Rattle.part_damage.specs.Sound.{FirstDamaged, FirstUnder, FirstUnsound, IsFirstUnlike, IsFirstWithout, IsManifestFor, IsReadable, IsSound, SpellsFile}
use Rattle.part_damage.proofs.Decisions.{Decided, Whole, both, decided, first_key, first_starts, like, whole}
use Rattle.part_damage.proofs.IndexFiles.{decide_blocks}
use Rattle.part_damage.proofs.SpelledRows.{rows_spelled}

-- ---- the manifest that bytes are

-- the mark that bytes begin with: 8 of the size, and 32 of the digest
abbrev mark_in : List ℕ → FileMark
mark_in bytes = record { size = from_le_bytes w64 (take 8 bytes); digest = take 32 (drop 8 bytes) }

-- so many marks, one after another
abbrev marks_in : ℕ → List ℕ → List FileMark
marks_in zero bytes = []
marks_in (suc n) bytes = mark_in bytes ∷ marks_in n (drop 40 bytes)

-- the one manifest whose bytes these may be
abbrev manifest_in : List ℕ → Manifest
manifest_in bytes = record { rows = from_le_bytes w64 (take 8 (drop 6 bytes)); files = marks_in (from_le_bytes w32 (take 4 (drop 14 bytes))) (drop 18 bytes) }

abbrev is_mark : FileMark → Bool
is_mark mark = ltb mark.size (2 ^ 64) && eqb (length mark.digest) 32

-- whether the bytes are those of this manifest, and its numbers have room in theirs
abbrev is_manifest : List ℕ → Manifest → Bool
is_manifest bytes manifest =
    ltb manifest.rows (2 ^ 64) && (ltb (length manifest.files) (2 ^ 32) && (list_all is_mark manifest.files && bytes_eq bytes (manifest_bytes sha256 manifest)))

-- whether a mark is that of the bytes
abbrev is_marked : Option FileMark → List ℕ → Bool
is_marked None bytes = false
is_marked (Some mark) bytes = eqb mark.size (length bytes) && bytes_eq mark.digest (sha256 bytes)

marks_back : (files : List FileMark) (rest : List ℕ) → All IsMark files → marks_in (length files) (flat_map mark_bytes files ++ rest) ≡ files
marks_back [] rest are = refl
marks_back (m ∷ ms) rest are =
    let is : IsMark m = All-head IsMark m ms are in
    let size = to_le_bytes w64 m.size in
    let behind = flat_map mark_bytes ms ++ rest in
    let bytes = (mark_bytes m ++ flat_map mark_bytes ms) ++ rest in
    let mark_then : bytes ≡ mark_bytes m ++ behind = append_assoc (mark_bytes m) (flat_map mark_bytes ms) rest in
    let parted : bytes ≡ size ++ (m.digest ++ behind) = mark_then ∙ append_assoc size m.digest behind in
    let eight : length size ≡ 8 = refl in
    let forty : length (mark_bytes m) ≡ 40 = omega (arith, eight, is.1, length-append size m.digest) in
    let first : take 8 bytes ≡ size = ap (take 8) parted ∙ take_at size (m.digest ++ behind) 8 eight in
    let digest : take 32 (drop 8 bytes) ≡ m.digest = ap (λ l. take 32 (drop 8 l)) parted ∙ ap (take 32) (drop_at size (m.digest ++ behind) 8 eight) ∙ take_at m.digest behind 32 is.1 in
    let left : drop 40 bytes ≡ behind = ap (drop 40) mark_then ∙ drop_at (mark_bytes m) behind 40 forty in
    ap₂ (λ (x : FileMark) (xs : List FileMark). x ∷ xs)
    (ap₂ (λ (s : ℕ) (d : List ℕ). record { size = s; digest = d }) (ap (from_le_bytes w64) first ∙ from_le_bytes-to_le_bytes_8 m.size is.0) digest)
    (ap (marks_in (length ms)) left ∙ marks_back ms rest (All-tail IsMark m ms are))

-- where the pieces of a manifest stand
pieces : (first middle number items digest bytes : List ℕ) → bytes ≡ first ++ middle ++ number ++ items ++ digest → length first ≡ 6 → length middle ≡ 8 → length number ≡ 4 → (take 8 (drop 6 bytes) ≡ middle) × (take 4 (drop 14 bytes) ≡ number) × (drop 18 bytes ≡ items ++ digest)
pieces first middle number items digest bytes e six eight four =
    let all : bytes ≡ first ++ (middle ++ (number ++ (items ++ digest))) =
    e ∙ append_assoc (first ++ middle ++ number) items digest ∙ append_assoc (first ++ middle) number (items ++ digest) ∙ append_assoc first middle (number ++ (items ++ digest)) in
    let at_6 : drop 6 bytes ≡ middle ++ (number ++ (items ++ digest)) = ap (drop 6) all ∙ drop_at first (middle ++ (number ++ (items ++ digest))) 6 six in
    let at_14 : drop 14 bytes ≡ number ++ (items ++ digest) = sym (drop-drop 8 6 bytes) ∙ ap (drop 8) at_6 ∙ drop_at middle (number ++ (items ++ digest)) 8 eight in
    let at_18 : drop 18 bytes ≡ items ++ digest = sym (drop-drop 4 14 bytes) ∙ ap (drop 4) at_14 ∙ drop_at number (items ++ digest) 4 four in
    (ap (take 8) at_6 ∙ take_at middle (number ++ (items ++ digest)) 8 eight, ap (take 4) at_14 ∙ take_at number (items ++ digest) 4 four, at_18)

manifest_back : (bytes : List ℕ) (m : Manifest) → IsManifestOf bytes m → manifest_in bytes ≡ m
manifest_back bytes m is =
    let rows = to_le_bytes w64 m.rows in
    let count = to_le_bytes w32 (length m.files) in
    let items = flat_map mark_bytes m.files in
    let digest = sha256 (framed manifest_first rows (length m.files) items) in
    let there = pieces manifest_first rows count items digest bytes (frame_from_manifest bytes m is).spelled refl refl refl in
    ap₂ (λ (r : ℕ) (fs : List FileMark). record { rows = r; files = fs }) (ap (from_le_bytes w64) there.0 ∙ from_le_bytes-to_le_bytes_8 m.rows is.rows)
    (ap₂ marks_in (ap (from_le_bytes w32) there.1 ∙ from_le_bytes-to_le_bytes_4 (length m.files) is.few) there.2 ∙ marks_back m.files digest is.marks)

-- ---- tests

all_marks : (files : List FileMark) → Decides (list_all is_mark files) (All IsMark files)
all_marks files =
    Decides-by_and is_mark IsMark (list_all is_mark) (λ m. Decides-and (ltb m.size (2 ^ 64)) (eqb (length m.digest) 32) (Decides-ltb m.size (2 ^ 64)) (Decides-eqb (length m.digest) 32)) refl (λ m rest. refl) files

manifest_Decides : (bytes : List ℕ) (m : Manifest) → Decides (is_manifest bytes m) (IsManifestOf bytes m)
manifest_Decides bytes m =
    let marks = list_all is_mark m.files in
    let spelled = bytes_eq bytes (manifest_bytes sha256 m) in
    Decides-like (is_manifest bytes m)
    (λ p. record { rows = p.0; few = p.1.0; marks = p.1.1.0; spelled = p.1.1.1 })
    (λ is. (is.rows, (is.few, (is.marks, is.spelled))))
    (Decides-and (ltb m.rows (2 ^ 64)) (ltb (length m.files) (2 ^ 32) && (marks && spelled)) (Decides-ltb m.rows (2 ^ 64))
    (Decides-and (ltb (length m.files) (2 ^ 32)) (marks && spelled) (Decides-ltb (length m.files) (2 ^ 32))
    (Decides-and marks spelled (all_marks m.files) (bytes_eq-Decides bytes (manifest_bytes sha256 m)))))

marked_Decides : (o : Option FileMark) (bytes : List ℕ) → Decides (is_marked o bytes) (o ≡ Some (mark_of bytes))
marked_Decides None bytes = (λ e. absurd (false≢true e), λ e. absurd cc)
marked_Decides (Some m) bytes =
    Decides-like (is_marked (Some m) bytes)
    (λ p. ap₂ (λ (s : ℕ) (d : List ℕ). Some (record { size = s; digest = d })) p.0 p.1)
    (λ e. let same : m ≡ mark_of bytes = same_Some m (mark_of bytes) e in (ap (λ (x : FileMark). x.size) same, ap (λ (x : FileMark). x.digest) same))
    (Decides-and (eqb m.size (length bytes)) (bytes_eq m.digest (sha256 bytes)) (Decides-eqb m.size (length bytes)) (bytes_eq-Decides m.digest (sha256 bytes)))

decide_manifest : (bytes : List ℕ) → Decided ((manifest : Manifest) × IsManifestOf bytes manifest)
decide_manifest bytes =
    like (λ is. (manifest_in bytes, is)) (λ m. subst (IsManifestOf bytes) (sym (manifest_back bytes m.0 m.1)) m.1)
    (decided (is_manifest bytes (manifest_in bytes)) (manifest_Decides bytes (manifest_in bytes)))

decide_manifest_for : (schema : Schema) (bytes : List ℕ) → Decided ((manifest : Manifest) × IsManifestFor schema bytes manifest)
decide_manifest_for schema bytes = by (decide_manifest bytes)
  where
    counted : (m : (manifest : Manifest) × IsManifestOf bytes manifest) → Decided (length m.0.files ≡ length (content_ids schema)) → Decided ((manifest : Manifest) × IsManifestFor schema bytes manifest)
    counted m (inl count) = inl (m.0, record { of = m.1; count_is = count })
    counted m (inr other) =
        inr (λ n.
        let same : n.0 ≡ m.0 = sym (manifest_back bytes n.0 n.1.of) ∙ manifest_back bytes m.0 m.1 in
        other (ap (λ (x : Manifest). length x.files) (sym same) ∙ n.1.count_is))

    by : Decided ((manifest : Manifest) × IsManifestOf bytes manifest) → Decided ((manifest : Manifest) × IsManifestFor schema bytes manifest)
    by (inr none) = inr (λ n. none (n.0, n.1.of))
    by (inl m) = counted m (decided (eqb (length m.0.files) (length (content_ids schema))) (Decides-eqb (length m.0.files) (length (content_ids schema))))

-- ---- single files

decide_marked : (schema : Schema) (manifest : Manifest) (f : FileId) (bytes : List ℕ) → Decided (mark_for schema manifest f ≡ Some (mark_of bytes))
decide_marked schema manifest f bytes = decided (is_marked (mark_for schema manifest f) bytes) (marked_Decides (mark_for schema manifest f) bytes)

decide_column : (o : Option ColType) (rows : ℕ) (bytes : List ℕ) → Decided (IsSomeAnd o (λ t. Spells t rows bytes))
decide_column None rows bytes = inr (λ e. absurd e)
decide_column (Some t) rows bytes = decided (spells t rows bytes) (spells_Decides t rows bytes)

decide_spelled : (schema : Schema) (rows : ℕ) (f : FileId) (bytes : List ℕ) → Decided (SpellsFile schema rows f bytes)
decide_spelled schema rows (file.Column n) bytes = decide_column (slice_get (column_types schema) n) rows bytes
decide_spelled schema rows file.Entry bytes = inr (λ e. absurd e)
decide_spelled schema rows file.Manifest bytes = inr (λ e. absurd e)
decide_spelled schema rows file.Marks bytes = inl tt
decide_spelled schema rows file.Primary bytes = inl tt
decide_spelled schema rows (file.Skip n) bytes = inl tt

decide_sound : (schema : Schema) (manifest : Manifest) (f : FileId) (bytes : List ℕ) → Decided (IsSound schema manifest f bytes)
decide_sound schema manifest f bytes =
    like (λ p. record { marked = p.0; spelled = p.1 }) (λ s. (s.marked, s.spelled)) (both (decide_marked schema manifest f bytes) (decide_spelled schema manifest.rows f bytes))

decide_places : (columns count : ℕ) (bytes : List ℕ) → Decided ((places : List (List ℕ)) × AreMarksOf columns count bytes places)
decide_places columns count bytes =
    like (λ w. (w.items, record { count_is = w.count_is; each = w.are; spelled = w.spelled }))
    (λ p. record { items = p.0; are = p.1.each; count_is = p.1.count_is; spelled = p.1.spelled })
    (whole numbers_bytes (AreStartsOf count) (starts_apart count) (first_starts count) columns bytes)

-- two keys of the same types are one or not
decide_same : (types : List ColType) (a b : Row) → IsKeyOf types a → IsKeyOf types b → Decided (a ≡ b)
decide_same types a b is are =
    like (λ e. (keys_apart types a b [] [] is are (ap (λ l. l ++ []) e)).0) (ap column_bytes) (decided (bytes_eq (column_bytes a) (column_bytes b)) (bytes_eq-Decides (column_bytes a) (column_bytes b)))

decide_at : (types : List ColType) (keys : List Row) (i j : ℕ) → All (IsKeyOf types) keys → Decided (slice_get keys i ≡ slice_get keys j)
decide_at types keys i j are = by (slice_get keys i) (slice_get keys j) (each i) (each j)
  where
    each : (k : ℕ) (key : Row) → slice_get keys k ≡ Some key → IsKeyOf types key
    each k key here = subst (IsKeyOf types) (get_or_from_slice_get keys k key key here) (are k key (slice_get_within keys k key here))

    by : (x y : Option Row) → ((key : Row) → x ≡ Some key → IsKeyOf types key) → ((key : Row) → y ≡ Some key → IsKeyOf types key) → Decided (x ≡ y)
    by None None p q = inl refl
    by None (Some b) p q = inr (λ e. absurd cc)
    by (Some a) None p q = inr (λ e. absurd cc)
    by (Some a) (Some b) p q = like (ap Some) (λ e. same_Some a b e) (decide_same types a b (p a refl) (q b refl))

decide_keys : (shape : KeyShape) (bytes : List ℕ) → Decided ((keys : List Row) × IsPrimaryOf shape bytes keys)
decide_keys shape bytes = by (whole column_bytes (IsKeyOf shape.types) (keys_apart shape.types) (first_key shape.types) (key_count shape) bytes)
  where
    Final : List Row → Type 0
    Final keys = slice_get keys (granule_count shape - 1) ≡ slice_get keys (granule_count shape)

    whole_of : (keys : List Row) → IsPrimaryOf shape bytes keys → Whole column_bytes (IsKeyOf shape.types) (key_count shape) bytes
    whole_of keys p = record { items = keys; are = p.kept.each; count_is = p.kept.count_is; spelled = p.spelled }

    primary : (w : Whole column_bytes (IsKeyOf shape.types) (key_count shape) bytes) → (ends_alone shape ≡ true → Final w.items) → IsPrimaryOf shape bytes w.items
    primary w final = record { kept = record { each = w.are; count_is = w.count_is; final = final }; spelled = w.spelled }

    one : (w : Whole column_bytes (IsKeyOf shape.types) (key_count shape) bytes) (keys : List Row) → IsPrimaryOf shape bytes keys → keys ≡ w.items
    one w keys p =
        (even column_bytes (IsKeyOf shape.types) (keys_apart shape.types) keys w.items [] [] p.kept.each w.are (p.kept.count_is ∙ sym w.count_is)
        (append-nil (keys_bytes keys) ∙ sym p.spelled ∙ w.spelled ∙ sym (append-nil (keys_bytes w.items)))).0

    ending : (w : Whole column_bytes (IsKeyOf shape.types) (key_count shape) bytes) (alone : Bool) → ends_alone shape ≡ alone → Decided ((keys : List Row) × IsPrimaryOf shape bytes keys)
    ending w false e = inl (w.items, primary w (λ is. absurd (false≢true (sym e ∙ is))))
    ending w true e = final (decide_at shape.types w.items (granule_count shape - 1) (granule_count shape) w.are)
      where
        final : Decided (Final w.items) → Decided ((keys : List Row) × IsPrimaryOf shape bytes keys)
        final (inl same) = inl (w.items, primary w (λ is. same))
        final (inr other) = inr (λ k. other (subst Final (one w k.0 k.1) (k.1.kept.final e)))

    by : Decided (Whole column_bytes (IsKeyOf shape.types) (key_count shape) bytes) → Decided ((keys : List Row) × IsPrimaryOf shape bytes keys)
    by (inr none) = inr (λ k. none (whole_of k.0 k.1))
    by (inl w) = ending w (ends_alone shape) refl

decide_readable : (schema : Schema) (manifest : Manifest) (f : FileId) (bytes : List ℕ) → Decided (IsReadable schema manifest f bytes)
decide_readable schema manifest file.Marks bytes =
    like (λ p. (p.1.0, record { marked = p.0; are = p.1.1 })) (λ r. (r.1.marked, (r.0, r.1.are)))
    (both (decide_marked schema manifest file.Marks bytes) (decide_places (length schema.columns) (granules schema.granularity manifest.rows) bytes))
decide_readable schema manifest file.Primary bytes =
    like (λ p. (p.1.0, record { marked = p.0; are = p.1.1 })) (λ r. (r.1.marked, (r.0, r.1.are)))
    (both (decide_marked schema manifest file.Primary bytes) (decide_keys (shape_of schema manifest.rows) bytes))
decide_readable schema manifest file.Entry bytes = inr (λ e. absurd e)
decide_readable schema manifest file.Manifest bytes = inr (λ e. absurd e)
decide_readable schema manifest (file.Skip n) bytes =
    like (λ p. (p.1.0, record { marked = p.0; are = p.1.1 })) (λ r. (r.1.marked, (r.0, r.1.are)))
    (both (decide_marked schema manifest (file.Skip n) bytes) (decide_blocks schema n manifest.rows bytes))
decide_readable schema manifest (file.Column n) bytes = inr (λ e. absurd e)

-- ---- the first file

pub first_without : (Holds : FileId → Type 0) → ((f : FileId) → Decided (Holds f)) → (ids : List FileId) → (found : Option FileId) × IsFirstWithout Holds ids found
first_without Holds decide [] = (None, refl)
first_without Holds decide (f ∷ fs) = by (decide f) (first_without Holds decide fs)
  where
    by : Decided (Holds f) → ((found : Option FileId) × IsFirstWithout Holds fs found) → (found : Option FileId) × IsFirstWithout Holds (f ∷ fs) found
    by (inl holds) rest = (rest.0, inl (holds, rest.1))
    by (inr fails) rest = (Some f, inr (fails, refl))

module _ (schema : Schema) (files : Files) (manifest : Manifest) where
  decide_unlike : IsFirstWithout (λ g. IsSound schema manifest g (bytes_of g files)) (content_ids schema) None → (found : Option FileId) × IsFirstUnlike schema manifest files found
  decide_unlike none =
      let spelled = rows_spelled schema manifest files none in
      let first = first_without (λ f. bytes_of f files ≡ content_bytes schema spelled.0 f)
      (λ f. decided (bytes_eq (bytes_of f files) (content_bytes schema spelled.0 f)) (bytes_eq-Decides (bytes_of f files) (content_bytes schema spelled.0 f))) (opened_ids schema) in
      (first.0, (spelled.0, spelled.1, first.1))

  decide_unsound : (found : Option FileId) × FirstUnsound schema manifest files found
  decide_unsound = by (first_without (λ g. IsSound schema manifest g (bytes_of g files)) (λ g. decide_sound schema manifest g (bytes_of g files)) (content_ids schema))
    where
      by : ((found : Option FileId) × IsFirstWithout (λ g. IsSound schema manifest g (bytes_of g files)) (content_ids schema) found) → (found : Option FileId) × FirstUnsound schema manifest files found
      by (Some f, first) = (Some f, inl (f, first, refl))
      by (None, none) = let unlike = decide_unlike none in (unlike.0, inr (none, unlike.1))

  decide_under : (found : Option FileId) × FirstUnder schema manifest files found
  decide_under = by (first_without (λ g. IsReadable schema manifest g (bytes_of g files)) (λ g. decide_readable schema manifest g (bytes_of g files)) (opened_ids schema))
    where
      by : ((found : Option FileId) × IsFirstWithout (λ g. IsReadable schema manifest g (bytes_of g files)) (opened_ids schema) found) → (found : Option FileId) × FirstUnder schema manifest files found
      by (Some f, first) = (Some f, inl (f, first, refl))
      by (None, none) = (decide_unsound.0, inr (none, decide_unsound.1))

pub decide_damaged : (schema : Schema) (files : Files) → (found : Option FileId) × FirstDamaged schema files found
decide_damaged schema files = by (decide_manifest_for schema (bytes_of file.Manifest files))
  where
    by : Decided ((manifest : Manifest) × IsManifestFor schema (bytes_of file.Manifest files) manifest) → (found : Option FileId) × FirstDamaged schema files found
    by (inl m) = let under = decide_under schema files m.0 in (under.0, inl (m.0, m.1, under.1))
    by (inr none) = (Some file.Manifest, inr ((λ manifest is. none (manifest, is)), refl))
