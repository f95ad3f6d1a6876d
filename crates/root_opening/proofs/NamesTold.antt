-- What is said of the texts of a root's names is said of the names with their files.
use Rattle.std.proofs.Common.{◌≡◌, ℕ, List, map, take, sym, ap, ◌∙◌, subst, Option, Some, None}
use Rattle.std.proofs.lemmas.List.{take-map}
use Rattle.std.proofs.lemmas.Option.{same_Some, slice_get-map}
use Rattle.std.specs.List.{slice_get}
use Rattle.std.specs.Option.{option_map}
use Rattle.mt_outside.specs.Disk.{Names}
use Rattle.mt_outside.specs.Files.{Files}
use Rattle.root_store.specs.part_set.declared.root_name.RootName.{RootName}
use Rattle.root_store.specs.Damage.{IsFirstBadName}
use Rattle.root_opening.specs.Names.{AreNamesOf, IsFirstBadText}
use Rattle.root_store.specs.Roots.{AreNamesRead}

abbrev pub text_of : List ℕ × Files → List ℕ
text_of n = n.0

pub read_told : (names : Names) (read : List RootName) → AreNamesOf (map text_of names) read → AreNamesRead names read
read_told names read are = record { sound = are.sound; spelled = are.spelled }

pub told_read : (names : Names) (read : List RootName) → AreNamesRead names read → AreNamesOf (map text_of names) read
told_read names read are = record { sound = are.sound; spelled = are.spelled }

with_files : (o : Option (List ℕ × Files)) (text : List ℕ) → option_map text_of o ≡ Some text → (files : Files) × (o ≡ Some (text, files))
with_files None text is = absurd cc
with_files (Some n) text is = (n.1, ap (λ (t : List ℕ). Some (t, n.1)) (same_Some n.0 text is))

-- the first bad text is the first bad name
pub first_told : (names : Names) (place : ℕ) → IsFirstBadText (map text_of names) place → (name : List ℕ) × IsFirstBadName names place name
first_told names place first =
    let found = with_files (slice_get names place) first.text (sym (slice_get-map text_of names place) ∙ first.here) in (
      first.text,
      record {
        files = found.0;
        here = found.1;
        before = first.before;
        read = record {
          are = read_told (take place names) first.before (subst (λ (ts : List (List ℕ)). AreNamesOf ts first.before) (take-map text_of place names) first.read);
          few = first.few;
        };
        bad = first.bad;
      },
    )

-- and the first bad name is the first bad text
pub told_first : (names : Names) (place : ℕ) (name : List ℕ) → IsFirstBadName names place name → IsFirstBadText (map text_of names) place
told_first names place name first = record {
  text = name;
  here = slice_get-map text_of names place ∙ ap (option_map text_of) first.here;
  before = first.before;
  read = subst (λ (ts : List (List ℕ)). AreNamesOf ts first.before) (sym (take-map text_of place names)) (told_read (take place names) first.before first.read.are);
  few = first.read.few;
  bad = first.bad;
}
