-- A manifest is a frame: its items are the marks of the files.
use Rattle.std.proofs.Common.{◌≡◌, ℕ, zero, suc, ◌+◌, ◌*◌, ◌^◌, ◌<◌, List, [], ◌∷◌, ◌++◌, All, refl, sym, ap, ap₂, ◌∙◌, subst, get_or, length, length-append, length-drop, take, drop, flat_map, take-append-drop, append-nil, arith}
use Rattle.std.proofs.lemmas.List.{flat_map_more, length-take-le, length_push, nil_from_length, drop-take, take-take, take_more}
use Rattle.std.proofs.lemmas.List.Concat.{flat_map-append}
use Rattle.std.proofs.lemmas.List.Elements.{All-nil, All-cons, All-head, All-push, All-tail, All-drop, All-take}
use Rattle.std.proofs.lemmas.Nat.{from_le_bytes-to_le_bytes_8}
use Rattle.std.specs.Int.{w32, w64, to_le_bytes, from_le_bytes}
use Rattle.sha2.specs.Sha256.{sha256}
use Rattle.mt_values.specs.declared.manifest.FileMark.{FileMark}
use Rattle.mt_values.specs.declared.manifest.Manifest.{Manifest}
use Rattle.mt_values.specs.Manifests.{mark_bytes, with_digest}
use Rattle.digest_file.specs.Faults.{AreBytes}
use Rattle.digest_file.specs.Frames.{IsFrame, IsFrameOf, framed}
use Rattle.digest_file.specs.Spellings.{AreMarks, IsManifest, IsManifestOf, IsMark}
use Rattle.digest_file.proofs.Frames.{one_frame}
use Rattle.byte_numbers.proofs.Numbers.{number_of_8}
use Rattle.digest_file.proofs.Pieces.{bytes_left, bytes_right, fronts_apart}

-- `MTP1`, and the version 1
abbrev pub manifest_first : List ℕ
manifest_first = 77 ∷ 84 ∷ 80 ∷ 49 ∷ 1 ∷ 0 ∷ []

abbrev mark : ℕ → List ℕ → FileMark
mark size digest = record { size = size; digest = digest }

abbrev manifest : ℕ → List FileMark → Manifest
manifest rows files = record { rows = rows; files = files }

-- pieces of a front are the front
pub takes_joined : (a b : ℕ) (xs : List ℕ) → take a xs ++ take b (drop a xs) ≡ take (a + b) xs
takes_joined a b xs =
    ap₂ (λ (l r : List ℕ). l ++ r) (sym (take-take a (a + b) xs (omega arith))) (sym (drop-take a b xs)) ∙ take-append-drop a (take (a + b) xs)

same_number : (m n : ℕ) → m < 2 ^ 64 → n < 2 ^ 64 → to_le_bytes w64 m ≡ to_le_bytes w64 n → m ≡ n
same_number m n p q e = sym (from_le_bytes-to_le_bytes_8 m p) ∙ ap (from_le_bytes w64) e ∙ from_le_bytes-to_le_bytes_8 n q

-- ---- marks

length_mark : (m : FileMark) → IsMark m → length (mark_bytes m) ≡ 40
length_mark m is =
    let number : length (to_le_bytes w64 m.size) ≡ 8 = refl in
    omega (arith, number, is.1, length-append (to_le_bytes w64 m.size) m.digest)

length_marks : (files : List FileMark) → All IsMark files → length (flat_map mark_bytes files) ≡ 40 * length files
length_marks [] are = refl
length_marks (m ∷ files) are =
    omega (arith, length_mark m (All-head IsMark m files are), length_marks files (All-tail IsMark m files are), length-append (mark_bytes m) (flat_map mark_bytes files))

one_mark : (x y : FileMark) → IsMark x → IsMark y → mark_bytes x ≡ mark_bytes y → x ≡ y
one_mark x y p q e =
    let both = fronts_apart (to_le_bytes w64 x.size) (to_le_bytes w64 y.size) x.digest y.digest refl e in
    ap₂ mark (same_number x.size y.size p.0 q.0 both.0) both.1

one_marks : (xs ys : List FileMark) → All IsMark xs → All IsMark ys → length xs ≡ length ys → flat_map mark_bytes xs ≡ flat_map mark_bytes ys → xs ≡ ys
one_marks [] [] p q n e = refl
one_marks [] (y ∷ ys) p q n e = absurd (omega arith)
one_marks (x ∷ xs) [] p q n e = absurd (omega arith)
one_marks (x ∷ xs) (y ∷ ys) p q n e =
    let x_is = All-head IsMark x xs p in
    let y_is = All-head IsMark y ys q in
    let both = fronts_apart (mark_bytes x) (mark_bytes y) (flat_map mark_bytes xs) (flat_map mark_bytes ys) (length_mark x x_is ∙ sym (length_mark y y_is)) e in
    ap₂ (λ (m : FileMark) (ms : List FileMark). m ∷ ms) (one_mark x y x_is y_is both.0) (one_marks xs ys (All-tail IsMark x xs p) (All-tail IsMark y ys q) (omega arith) both.1)

-- forty bytes are a mark
mark_of_40 : (bs : List ℕ) → length bs ≡ 40 → AreBytes bs → (m : FileMark) × IsMark m × (mark_bytes m ≡ bs)
mark_of_40 bs n are =
    let number = number_of_8 (take 8 bs) (length-take-le 8 bs (omega arith)) (All-take (λ b. b < 256) 8 bs are) in
    (mark number.0 (drop 8 bs), (number.1, omega (arith, length-drop 8 bs)), ap (λ l. l ++ drop 8 bs) number.2 ∙ take-append-drop 8 bs)

-- forty bytes each are marks
marks_of : (count : ℕ) (bs : List ℕ) → length bs ≡ 40 * count → AreBytes bs → (files : List FileMark) × AreMarks bs count files
marks_of zero bs n are = ([], record { count_is = refl; marks = All-nil IsMark; spelled = sym (nil_from_length bs (omega arith)) })
marks_of (suc count) bs n are =
    let first = mark_of_40 (take 40 bs) (length-take-le 40 bs (omega arith)) (All-take (λ b. b < 256) 40 bs are) in
    let rest = marks_of count (drop 40 bs) (omega (arith, length-drop 40 bs)) (All-drop (λ b. b < 256) 40 bs are) in (
      first.0 ∷ rest.0,
      record {
        count_is = ap suc rest.1.count_is;
        marks = All-cons IsMark first.0 rest.0 first.1 rest.1.marks;
        spelled = ap₂ (λ (l r : List ℕ). l ++ r) first.2 rest.1.spelled ∙ take-append-drop 40 bs;
      },
    )

-- one mark more is written
pub marks_written : (old now new : List ℕ) (files : List FileMark) (i : ℕ) (d : FileMark) → i < length files → now ≡ old ++ flat_map mark_bytes (take i files) → new ≡ now ++ mark_bytes (get_or files i d) → new ≡ old ++ flat_map mark_bytes (take (i + 1) files)
marks_written old now new files i d within written e =
    e ∙ ap (λ l. l ++ mark_bytes (get_or files i d)) written ∙ flat_map_more mark_bytes old (take i files) (get_or files i d)
    ∙ ap (λ l. old ++ flat_map mark_bytes l) (sym (take_more files i d within))

-- one mark more is read
pub marks_more : (bs : List ℕ) (place : ℕ) (files new : List FileMark) (m : FileMark) → AreMarks (take (40 * place) bs) place files → new ≡ files ++ m ∷ [] → IsMark m → mark_bytes m ≡ take 40 (drop (40 * place) bs) → AreMarks (take (40 * (place + 1)) bs) (place + 1) new
marks_more bs place files new m are e is bytes =
    let one : flat_map mark_bytes (m ∷ []) ≡ take 40 (drop (40 * place) bs) = append-nil (mark_bytes m) ∙ bytes in
    let size : 40 * place + 40 ≡ 40 * (place + 1) = omega arith in
    record {
      count_is = ap length e ∙ length_push files m ∙ ap (λ n. n + 1) are.count_is;
      marks = subst (All IsMark) (sym e) (All-push IsMark files m are.marks is);
      spelled = ap (flat_map mark_bytes) e ∙ flat_map-append mark_bytes files (m ∷ []) ∙ ap₂ (λ (l r : List ℕ). l ++ r) are.spelled one
          ∙ takes_joined (40 * place) 40 bs ∙ ap (λ n. take n bs) size;
    }

-- ---- manifests

pieces_are_bytes : (first middle : List ℕ) (count : ℕ) (items : List ℕ) → AreBytes (with_digest sha256 (framed first middle count items)) → AreBytes middle × AreBytes items
pieces_are_bytes first middle count items are =
    let number : List ℕ = to_le_bytes w32 count in
    let body = bytes_left (framed first middle count items) (sha256 (framed first middle count items)) are in
    (bytes_right first middle (bytes_left (first ++ middle) number (bytes_left (first ++ middle ++ number) items body)), bytes_right (first ++ middle ++ number) items body)

pub frame_from_manifest : (bytes : List ℕ) (m : Manifest) → IsManifestOf bytes m → IsFrameOf manifest_first 8 40 bytes (to_le_bytes w64 m.rows) (length m.files) (flat_map mark_bytes m.files)
frame_from_manifest bytes m is = record {
  fit = record { middle_fits = refl; count_fits = is.few; items_fit = length_marks m.files is.marks };
  spelled = is.spelled;
}

pub manifest_from_frame : (bytes middle : List ℕ) (count : ℕ) (items : List ℕ) (rows : ℕ) (files : List FileMark) → IsFrameOf manifest_first 8 40 bytes middle count items → rows < 2 ^ 64 → to_le_bytes w64 rows ≡ middle → AreMarks items count files → IsManifestOf bytes (manifest rows files)
manifest_from_frame bytes middle count items rows files f few number marks = record {
  rows = few;
  few = subst (λ n. n < 2 ^ 32) (sym marks.count_is) f.fit.count_fits;
  marks = marks.marks;
  spelled = f.spelled ∙ ap (λ m. with_digest sha256 (framed manifest_first m count items)) (sym number)
      ∙ ap₂ (λ (n : ℕ) (i : List ℕ). with_digest sha256 (framed manifest_first (to_le_bytes w64 rows) n i)) (sym marks.count_is) (sym marks.spelled);
}

pub manifest_is_frame : (bytes : List ℕ) → IsManifest bytes → IsFrame manifest_first 8 40 bytes
manifest_is_frame bytes m = record {
  bytes_are = m.bytes_are;
  middle = to_le_bytes w64 m.manifest.rows;
  count = length m.manifest.files;
  items = flat_map mark_bytes m.manifest.files;
  frame = frame_from_manifest bytes m.manifest m.of;
}

pub frame_is_manifest : (bytes : List ℕ) → IsFrame manifest_first 8 40 bytes → IsManifest bytes
frame_is_manifest bytes f =
    let pieces = pieces_are_bytes manifest_first f.middle f.count f.items (subst AreBytes f.frame.spelled f.bytes_are) in
    let rows = number_of_8 f.middle f.frame.fit.middle_fits pieces.0 in
    let files = marks_of f.count f.items f.frame.fit.items_fit pieces.1 in
    record {
      bytes_are = f.bytes_are;
      manifest = manifest rows.0 files.0;
      of = manifest_from_frame bytes f.middle f.count f.items rows.0 files.0 f.frame rows.1 rows.2 files.1;
    }

-- bytes are one manifest
pub one_manifest : (bytes : List ℕ) (x y : Manifest) → IsManifestOf bytes x → IsManifestOf bytes y → x ≡ y
one_manifest bytes x y p q =
    let same = one_frame manifest_first 8 40 bytes (to_le_bytes w64 x.rows) (to_le_bytes w64 y.rows) (length x.files) (length y.files) (flat_map mark_bytes x.files) (flat_map mark_bytes y.files)
    (frame_from_manifest bytes x p) (frame_from_manifest bytes y q) in
    ap₂ manifest (same_number x.rows y.rows p.rows q.rows same.0) (one_marks x.files y.files p.marks q.marks same.1 same.2)
