-- An entry is a frame: its items are the bytes of the text.
use Rattle.std.proofs.Common.{◌≡◌, ℕ, List, [], ◌∷◌, refl, ap, ◌∙◌, length, arith}
use Rattle.std.proofs.lemmas.List.{nil_from_length}
use Rattle.sha2.specs.Sha256.{sha256}
use Rattle.mt_values.specs.Manifests.{with_digest}
use Rattle.digest_file.specs.Frames.{IsFrame, IsFrameOf, framed}
use Rattle.digest_file.specs.Spellings.{IsEntry, IsEntryOf}
use Rattle.digest_file.proofs.Frames.{one_frame}

-- `MTS1`
abbrev pub entry_first : List ℕ
entry_first = 77 ∷ 84 ∷ 83 ∷ 49 ∷ []

pub frame_from_entry : (bytes text : List ℕ) → IsEntryOf bytes text → IsFrameOf entry_first 0 1 bytes [] (length text) text
frame_from_entry bytes text e = record {
  fit = record { middle_fits = refl; count_fits = e.few; items_fit = omega arith };
  spelled = e.spelled;
}

pub entry_from_frame : (bytes middle : List ℕ) (count : ℕ) (items : List ℕ) → IsFrameOf entry_first 0 1 bytes middle count items → IsEntryOf bytes items
entry_from_frame bytes middle count items f =
    let none : middle ≡ [] = nil_from_length middle f.fit.middle_fits in
    let size : count ≡ length items = omega (arith, f.fit.items_fit) in
    record {
      few = omega (arith, f.fit.count_fits, size);
      spelled = f.spelled ∙ ap (λ m. with_digest sha256 (framed entry_first m count items)) none ∙ ap (λ n. with_digest sha256 (framed entry_first [] n items)) size;
    }

pub entry_is_frame : (bytes : List ℕ) → IsEntry bytes → IsFrame entry_first 0 1 bytes
entry_is_frame bytes e = record { bytes_are = e.bytes_are; middle = []; count = length e.text; items = e.text; frame = frame_from_entry bytes e.text e.entry }

pub frame_is_entry : (bytes : List ℕ) → IsFrame entry_first 0 1 bytes → IsEntry bytes
frame_is_entry bytes f = record { bytes_are = f.bytes_are; text = f.items; entry = entry_from_frame bytes f.middle f.count f.items f.frame }

-- bytes are the entry of one text
pub one_text : (bytes x y : List ℕ) → IsEntryOf bytes x → IsEntryOf bytes y → x ≡ y
one_text bytes x y p q = (one_frame entry_first 0 1 bytes [] [] (length x) (length y) x y (frame_from_entry bytes x p) (frame_from_entry bytes y q)).2
