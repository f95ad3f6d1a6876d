-- Lists of open files, each with what is gathered of it.
use Rattle.std.proofs.Common.{◌≡◌, IsTrue, ℕ, ◌<◌, ◌≤◌, ◌+◌, ◌||◌, Bool, false, zero, suc, List, [], ◌∷◌, All, Result, Ok, Err, OnOk, refl, ap, ◌∙◌, sym, subst, inl, inr, map, not, set, length, get_or, drop, take, arith}
use Rattle.std.specs.Prelude.{filter}
use Rattle.std.specs.List.{list_any}
use Rattle.std.proofs.lemmas.Bool.{cases_Bool}
use Rattle.std.proofs.lemmas.List.{drop_all, drop_more, take_more_set}
use Rattle.std.proofs.lemmas.List.Elements.{All-filter, All-map, All-push}
use Rattle.mt_base.specs.declared.name.FileId.{FileId}
use Rattle.mt_base.specs.Files.{same_file}
use Rattle.disk_real.specs.Stages.{AreWritten, files_of, has, without}
use Rattle.disk_real.specs.States.{Gathered}

module _ {W : Type 0} where
  -- which files these are
  abbrev pub files_in : List (FileId × Gathered W) → List FileId
  files_in files = map (λ o. o.0) files

  -- and with what is gathered of each
  abbrev pub held : List (FileId × Gathered W) → List (FileId × List ℕ)
  held files = map (λ o. (o.0, o.1.bytes)) files

  -- nothing is gathered of them
  abbrev pub AreEmpty : List (FileId × Gathered W) → Type 0
  AreEmpty files = All (λ o. o.1.bytes ≡ []) files

  pub files_held : (files : List (FileId × Gathered W)) → files_of (held files) ≡ files_in files
  files_held [] = refl
  files_held (o ∷ os) = ap (λ fs. o.0 ∷ fs) (files_held os)

  pub written_held : {E : Type 0} (r : Result (Unit {0}) E) (files : List (FileId × Gathered W)) → OnOk r (AreEmpty files) → OnOk r (AreWritten (held files))
  written_held (Ok x) files none = All-map (λ (f : FileId × List ℕ). f.1 ≡ []) (λ (o : FileId × Gathered W). (o.0, o.1.bytes)) files none
  written_held (Err e) files none = tt

  -- what is left where one is closed
  pub held-closed : (file : FileId) (files : List (FileId × Gathered W)) → held (filter (λ o. not (same_file o.0 file)) files) ≡ without file (held files)
  held-closed file [] = refl
  held-closed file (o ∷ os) =
      elim (cases_Bool (same_file o.0 file)) [
        | inl same ↦ rw same (held-closed file os)
        | inr other ↦ rw other (ap (λ fs. (o.0, o.1.bytes) ∷ fs) (held-closed file os))
      ]

  -- once one got another state, the files are the same
  pub files-set : (files : List (FileId × Gathered W)) (place : ℕ) (d : FileId × Gathered W) (g : Gathered W) → place < length files → files_in (set files place ((get_or files place d).0, g)) ≡ files_in files
  files-set [] place d g inside = absurd (omega arith)
  files-set (o ∷ os) zero d g inside = refl
  files-set (o ∷ os) (suc place) d g inside = ap (λ fs. o.0 ∷ fs) (files-set os place d g (omega arith))

  -- and where nothing is gathered of it, that is so of one more
  pub empty-set : (files : List (FileId × Gathered W)) (place : ℕ) (file : FileId) (g : Gathered W) → place < length files → AreEmpty (take place files) → g.bytes ≡ [] → AreEmpty (take (place + 1) (set files place (file, g)))
  empty-set files place file g inside before none =
      subst AreEmpty (sym (take_more_set files place (file, g) inside)) (All-push (λ (o : FileId × Gathered W). o.1.bytes ≡ []) (take place files) (file, g) before none)

  -- ---- the one to which bytes are added

  -- the file is one of these
  abbrev pub has_in : FileId → List (FileId × Gathered W) → Bool
  has_in file files = list_any (λ o. same_file o.0 file) files

  pub has_held : (file : FileId) (files : List (FileId × Gathered W)) → has file (held files) ≡ has_in file files
  has_held file [] = refl
  has_held file (o ∷ os) = ap (λ b. same_file o.0 file || b) (has_held file os)

  -- where the next one is another, it comes after that
  pub left_more : (file : FileId) (files : List (FileId × Gathered W)) (place : ℕ) (o : FileId × Gathered W) → place < length files → same_file (get_or files place o).0 file ≡ false
      → IsTrue (has_in file (drop place files)) → IsTrue (has_in file (drop (place + 1) files))
  left_more file files place o inside other there =
      subst IsTrue
      (ap (has_in file) (drop_more files place o inside)
      ∙ ap (λ b. b || has_in file (drop (place + 1) files)) other)
      there

  -- after the last one there is none
  pub none_left : (file : FileId) (files : List (FileId × Gathered W)) (place : ℕ) → length files ≤ place → IsTrue (has_in file (drop place files)) → ⊥
  none_left file files place past there =
      let never : IsTrue (has_in file []) = subst (λ (os : List (FileId × Gathered W)). IsTrue (has_in file os)) (drop_all place files past) there in
      cc

-- ---- without one of them

files_without : (file : FileId) (files : List (FileId × List ℕ)) → files_of (without file files) ≡ filter (λ f. not (same_file f file)) (files_of files)
files_without file [] = refl
files_without file (o ∷ os) =
    elim (cases_Bool (same_file o.0 file)) [
      | inl same ↦ rw same (files_without file os)
      | inr other ↦ rw other (ap (λ fs. o.0 ∷ fs) (files_without file os))
    ]

-- the same files without one are the same files
pub same_without : (file : FileId) (old new : List (FileId × List ℕ)) → files_of new ≡ files_of old → files_of (without file new) ≡ files_of (without file old)
same_without file old new same = files_without file new ∙ ap (filter (λ f. not (same_file f file))) same ∙ sym (files_without file old)

-- nothing is gathered of those that are left
pub written_without : (file : FileId) (files : List (FileId × List ℕ)) → AreWritten files → AreWritten (without file files)
written_without file files written = All-filter (λ (f : FileId × List ℕ). not (same_file f.0 file)) (λ (f : FileId × List ℕ). f.1 ≡ []) files written

-- ---- whether a file is one of them

has_files : (file : FileId) (files : List (FileId × List ℕ)) → has file files ≡ list_any (λ f. same_file f file) (files_of files)
has_files file [] = refl
has_files file (o ∷ os) = rw (has_files file os)

-- the same files have it still, after a call with any result
pub still_has : {E : Type 0} (r : Result (Unit {0}) E) (file : FileId) (old new : List (FileId × List ℕ)) → files_of new ≡ files_of old → IsTrue (has file old) → OnOk r (IsTrue (has file new))
still_has (Ok x) file old new same has_it =
    subst IsTrue (has_files file old ∙ ap (list_any (λ f. same_file f file)) (sym same) ∙ sym (has_files file new)) has_it
still_has (Err e) file old new same has_it = tt
