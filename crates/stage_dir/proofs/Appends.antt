-- Files that grow, and a file that is written where it was not there.
use Rattle.std.proofs.Common.{◌≡◌, ◌≢◌, ℕ, ◌<◌, zero, suc, Bool, true, false, cond, ◌||◌, List, [], ◌∷◌, ◌++◌, length, get_or, Option, Some, None, Result, Ok, Err, OnOk, refl, sym, ap, ◌∙◌, subst, arith}
use Rattle.std.specs.Option.{option_map, ForSome}
use Rattle.std.proofs.lemmas.List.Quantifiers.{all_pairs_push}
use Rattle.std.proofs.lemmas.Bool.{eq-eqb, eqb-true}
use Rattle.mt_base.specs.declared.name.FileId.{FileId}
use Rattle.mt_base.specs.declared.name.FileId.TheVariants as file
use Rattle.mt_base.specs.Files.{same_file}
use Rattle.mt_outside.specs.Files.{Files, appended, bytes_of}
use Rattle.stage_dir.specs.Stages.{EachOnce, has_file, names_in, settled, with_file, written}

-- a file is the same as itself
pub same_file-self : (f : FileId) → same_file f f ≡ true
same_file-self file.Entry = refl
same_file-self file.Manifest = refl
same_file-self file.Marks = refl
same_file-self file.Primary = refl
same_file-self (file.Skip n) = eq-eqb n n refl
same_file-self (file.Column n) = eq-eqb n n refl

-- and as no other
pub same_file-true : (f g : FileId) → same_file f g ≡ true → f ≡ g
same_file-true file.Entry file.Entry e = refl
same_file-true file.Manifest file.Manifest e = refl
same_file-true file.Marks file.Marks e = refl
same_file-true file.Primary file.Primary e = refl
same_file-true (file.Skip m) (file.Skip n) e = ap file.Skip (eqb-true m n e)
same_file-true (file.Column m) (file.Column n) e = ap file.Column (eqb-true m n e)
same_file-true f g e = cc

same_file_differ : (f g : FileId) → f ≢ g → same_file f g ≡ false
same_file_differ f g differ = by (same_file f g) refl
  where
    by : (b : Bool) → same_file f g ≡ b → b ≡ false
    by true e = absurd (differ (same_file-true f g e))
    by false e = refl

pub neither : (a b : Bool) → (a || b) ≡ false → (a ≡ false) × (b ≡ false)
neither true b none = cc
neither false b none = (refl, none)

-- it comes after the others
appended_new : (file : FileId) (bytes : List ℕ) (files : Files) → has_file file (names_in files) ≡ false → appended file bytes files ≡ files ++ written file bytes ∷ []
appended_new file bytes [] new = refl
appended_new file bytes (w ∷ ws) new =
    let parts = neither (same_file w.file file) (has_file file (names_in ws)) new in
    rw parts.0 (ap (λ (rest : Files). w ∷ rest) (appended_new file bytes ws parts.1))

-- none of the files is one that is not there
none_is : (names : List FileId) (file : FileId) → has_file file names ≡ false → (k : ℕ) (d : FileId) → k < length names → same_file (get_or names k d) file ≡ false
none_is [] file new k d below = absurd (omega arith)
none_is (name ∷ names) file new zero d below = (neither (same_file name file) (has_file file names) new).0
none_is (name ∷ names) file new (suc k) d below = none_is names file (neither (same_file name file) (has_file file names) new).1 k d (omega arith)

-- it stands there once, as the others do
pub once_more : (names after : List FileId) (file : FileId) → EachOnce names → has_file file names ≡ false → after ≡ names ++ file ∷ [] → EachOnce after
once_more names after file once new after_is = subst EachOnce (sym after_is) (all_pairs_push (λ f g. same_file f g ≡ false) names file once (none_is names file new))

-- a file that is there stands where it stood, and another comes last
pub noted_there : (file : FileId) (names : List FileId) → has_file file names ≡ true → with_file file names ≡ names
noted_there file names there = ap (λ b. cond b names (names ++ file ∷ [])) there

pub noted_new : (file : FileId) (names : List FileId) → has_file file names ≡ false → with_file file names ≡ names ++ file ∷ []
noted_new file names new = ap (λ b. cond b names (names ++ file ∷ [])) new

-- so each file stands there once, as before
pub once_noted : (names after : List FileId) (file : FileId) → EachOnce names → after ≡ with_file file names → EachOnce after
once_noted names after file once is = by (has_file file names) refl
  where
    by : (b : Bool) → has_file file names ≡ b → EachOnce after
    by true there = subst EachOnce (sym (is ∙ noted_there file names there)) once
    by false new = once_more names after file once new (is ∙ noted_new file names new)

-- the files of a folder of which one has grown
noted_behind : (file first : FileId) (names : List FileId) (b : Bool) → first ∷ cond b names (names ++ file ∷ []) ≡ cond b (first ∷ names) (first ∷ names ++ file ∷ [])
noted_behind file first names true = refl
noted_behind file first names false = refl

pub names_grown : (file : FileId) (bytes : List ℕ) (files : Files) → names_in (appended file bytes files) ≡ with_file file (names_in files)
names_grown file bytes [] = refl
names_grown file bytes (w ∷ ws) = by (same_file w.file file) (names_grown file bytes ws)
  where
    by : (b : Bool) → names_in (appended file bytes ws) ≡ with_file file (names_in ws)
        → names_in (cond b (record { file = w.file; bytes = w.bytes ++ bytes; synced = false } ∷ ws) (w ∷ appended file bytes ws)) ≡ cond (b || has_file file (names_in ws)) (w.file ∷ names_in ws) (w.file ∷ names_in ws ++ file ∷ [])
    by true rest = refl
    by false rest = ap (λ (ns : List FileId). w.file ∷ ns) rest ∙ noted_behind file w.file (names_in ws) (has_file file (names_in ws))

-- what is told once a file has grown is the files that are noted
pub intact_grown : (old new : Option Files) (names after : List FileId) (file : FileId) (bytes : List ℕ) → after ≡ with_file file names → new ≡ option_map (appended file bytes) old
    → ForSome old (λ files. names_in files ≡ names) → ForSome new (λ files. names_in files ≡ after)
intact_grown old new names after file bytes after_is is intact = λ files told. by old intact files (sym is ∙ told) ∙ sym after_is
  where
    by : (o : Option Files) → ForSome o (λ files. names_in files ≡ names) → (files : Files) → option_map (appended file bytes) o ≡ Some files → names_in files ≡ with_file file names
    by None told files is = cc
    by (Some before) told files is =
        let same : appended file bytes before ≡ files = cc in
        ap names_in (sym same) ∙ names_grown file bytes before ∙ ap (with_file file) (told before refl)

-- it has its bytes, and then the new ones
pub bytes_of_grown : (files : Files) (file : FileId) (bytes : List ℕ) → bytes_of file (appended file bytes files) ≡ bytes_of file files ++ bytes
bytes_of_grown [] file bytes = rw (same_file-self file) refl
bytes_of_grown (w ∷ ws) file bytes = by (same_file w.file file) refl (bytes_of_grown ws file bytes)
  where
    by : (b : Bool) → same_file w.file file ≡ b → bytes_of file (appended file bytes ws) ≡ bytes_of file ws ++ bytes
        → bytes_of file (cond b (record { file = w.file; bytes = w.bytes ++ bytes; synced = false } ∷ ws) (w ∷ appended file bytes ws)) ≡ cond b w.bytes (bytes_of file ws) ++ bytes
    by true e rest = rw e refl
    by false e rest = rw e rest

-- and the others have theirs
pub bytes_of_grown_others : (files : Files) (file other : FileId) (bytes : List ℕ) → file ≢ other → bytes_of other (appended file bytes files) ≡ bytes_of other files
bytes_of_grown_others [] file other bytes differ = rw (same_file_differ file other differ) refl
bytes_of_grown_others (w ∷ ws) file other bytes differ = by (same_file w.file file) refl (bytes_of_grown_others ws file other bytes differ)
  where
    by : (b : Bool) → same_file w.file file ≡ b → bytes_of other (appended file bytes ws) ≡ bytes_of other ws
        → bytes_of other (cond b (record { file = w.file; bytes = w.bytes ++ bytes; synced = false } ∷ ws) (w ∷ appended file bytes ws)) ≡ bytes_of other (w ∷ ws)
    by true e rest =
        let none : same_file w.file other ≡ false = ap (λ (f : FileId). same_file f other) (same_file-true w.file file e) ∙ same_file_differ file other differ in
        rw none refl
    by false e rest = ap (cond (same_file w.file other) w.bytes) rest

module _ (old new : Option Files) (names : List FileId) (file : FileId) (bytes : List ℕ) where
  -- what is told once a file was written
  pub told_written : new ≡ option_map (appended file bytes) old → ForSome old (λ files. names_in files ≡ names) → has_file file names ≡ false → new ≡ option_map (λ files. files ++ written file bytes ∷ []) old
  told_written is intact free = is ∙ by old intact
    where
      by : (o : Option Files) → ForSome o (λ files. names_in files ≡ names) → option_map (appended file bytes) o ≡ option_map (λ files. files ++ written file bytes ∷ []) o
      by None told = refl
      by (Some files) told = ap Some (appended_new file bytes files (ap (has_file file) (told files refl) ∙ free))

-- what holds of a call that was done
pub on_ok : {T E P Q : Type 0} (r : Result T E) → (P → Q) → OnOk r P → OnOk r Q
on_ok (Ok x) f p = f p
on_ok (Err e) f p = tt

-- it has its bytes
pub bytes_of_new : (files : Files) (file : FileId) (bytes : List ℕ) → has_file file (names_in files) ≡ false → bytes_of file (files ++ written file bytes ∷ []) ≡ bytes
bytes_of_new [] file bytes new = rw (same_file-self file) refl
bytes_of_new (w ∷ ws) file bytes new =
    let parts = neither (same_file w.file file) (has_file file (names_in ws)) new in
    rw parts.0 (bytes_of_new ws file bytes parts.1)

-- and the others have theirs
pub bytes_of_others : (files : Files) (file other : FileId) (bytes : List ℕ) → file ≢ other → bytes_of other (files ++ written file bytes ∷ []) ≡ bytes_of other files
bytes_of_others [] file other bytes differ = rw (same_file_differ file other differ) refl
bytes_of_others (w ∷ ws) file other bytes differ = ap (cond (same_file w.file other) w.bytes) (bytes_of_others ws file other bytes differ)

-- a seal changes no bytes
pub bytes_of-settled : (files : Files) (file : FileId) → bytes_of file (settled files) ≡ bytes_of file files
bytes_of-settled [] file = refl
bytes_of-settled (w ∷ ws) file = ap (cond (same_file w.file file) w.bytes) (bytes_of-settled ws file)
