-- Files that are synced one after another.
use Rattle.std.proofs.Common.{◌≡◌, ℕ, zero, suc, ◌+◌, ◌<◌, ◌≤◌, true, false, List, [], ◌∷◌, ◌++◌, length, get_or, take, drop, All, Option, Some, None, refl, sym, ap, ◌∙◌, subst, arith, Result, Ok, Err, OnErr, append_assoc, append-nil}
use Rattle.std.specs.Option.{option_map, ForSome}
use Rattle.std.proofs.lemmas.List.{map_push, length-map, get_or-map, get_or-take, get_or_default, take_more, take_all, drop_more, drop_all, length-take}
use Rattle.std.proofs.lemmas.List.Elements.{All-map}
use Rattle.std.proofs.lemmas.List.Folds.{list_any_none}
use Rattle.mt_base.specs.declared.name.FileId.{FileId}
use Rattle.mt_base.specs.Files.{same_file}
use Rattle.mt_outside.specs.declared.disk.Written.{Written}
use Rattle.mt_outside.specs.Files.{Files, settled_file}
use Rattle.stage_dir.specs.Stages.{AreSealed, EachOnce, contents, has_file, names_in, settled, written}
use Rattle.stage_dir.proofs.Appends.{neither, same_file-self}

-- the files are the same, whether they were synced or not
pub names_in-settled : (files : Files) → names_in (settled files) ≡ names_in files
names_in-settled [] = refl
names_in-settled (w ∷ ws) = ap (λ (fs : List FileId). w.file ∷ fs) (names_in-settled ws)

contents-settled : (files : Files) → contents (settled files) ≡ contents files
contents-settled [] = refl
contents-settled (w ∷ ws) = ap (λ (fs : List (FileId × List ℕ)). (w.file, w.bytes) ∷ fs) (contents-settled ws)

-- the first of the files are synced, the others as they were
abbrev pub settled_to : ℕ → Files → Files
settled_to i files = settled (take i files) ++ drop i files

pub contents-settled_to : (i : ℕ) (files : Files) → contents (settled_to i files) ≡ contents files
contents-settled_to zero files = refl
contents-settled_to (suc i) [] = refl
contents-settled_to (suc i) (w ∷ ws) = ap (λ (fs : List (FileId × List ℕ)). (w.file, w.bytes) ∷ fs) (contents-settled_to i ws)

-- other files in front stay
settled_past : (f : FileId) (front rest : Files) → has_file f (names_in front) ≡ false → settled_file f (front ++ rest) ≡ front ++ settled_file f rest
settled_past f [] rest other = refl
settled_past f (w ∷ ws) rest other =
    let parts = neither (same_file w.file f) (has_file f (names_in ws)) other in
    rw parts.0 (ap (λ (fs : Files). w ∷ fs) (settled_past f ws rest parts.1))

names_in-take : (i : ℕ) (files : Files) → names_in (take i files) ≡ take i (names_in files)
names_in-take zero files = refl
names_in-take (suc i) [] = refl
names_in-take (suc i) (w ∷ ws) = ap (λ (fs : List FileId). w.file ∷ fs) (names_in-take i ws)

-- no file before a place is the one there
none_before : (names : List FileId) (i : ℕ) (f : FileId) → i < length names → f ≡ get_or names i f → EachOnce names → has_file f (take i names) ≡ false
none_before names i f inside at once =
    list_any_none (λ (g : FileId). same_file g f) (take i names) (λ k d below.
    let before : k < i = omega (arith, length-take i names) in
    let there : get_or names i d ≡ f = get_or_default names i d f inside ∙ sym at in
    ap (λ (g : FileId). same_file g f) (get_or-take i names k d before) ∙ ap (same_file (get_or names k d)) (sym there) ∙ once k i d before inside)

-- a file as it is once it was synced
abbrev pub synced : Written → Written
synced w = record { file = w.file; bytes = w.bytes; synced = true }

settle_here : (f : FileId) (w : Written) (rest : Files) → w.file ≡ f → settled_file f (w ∷ rest) ≡ synced w ∷ rest
settle_here f w rest named =
    let same : same_file w.file f ≡ true = ap (λ (g : FileId). same_file g f) named ∙ same_file-self f in
    rw same refl

-- one file more, which stands between these
settle_between : (front rest : Files) (w : Written) (f : FileId) → w.file ≡ f → has_file f (names_in front) ≡ false → settled_file f (settled front ++ w ∷ rest) ≡ settled (front ++ w ∷ []) ++ rest
settle_between front rest w f named others =
    settled_past f (settled front) (w ∷ rest) (ap (has_file f) (names_in-settled front) ∙ others)
    ∙ ap (λ (fs : Files). settled front ++ fs) (settle_here f w rest named)
    ∙ sym (append_assoc (settled front) (synced w ∷ []) rest)
    ∙ ap (λ (fs : Files). fs ++ rest) (sym (map_push synced front w))

settle_more : (files : Files) (i : ℕ) (f : FileId) → i < length (names_in files) → f ≡ get_or (names_in files) i f → EachOnce (names_in files) → settled_file f (settled_to i files) ≡ settled_to (i + 1) files
settle_more files i f inside at once =
    ap (λ (fs : Files). settled_file f (settled (take i files) ++ fs)) (drop_more files i (written f []) within)
    ∙ settle_between (take i files) (drop (i + 1) files) (get_or files i (written f [])) f
    (sym (at ∙ get_or-map (λ (w : Written). w.file) files i (written f []) f within))
    (ap (has_file f) (names_in-take i files) ∙ none_before (names_in files) i f inside at once)
    ∙ ap (λ (fs : Files). settled fs ++ drop (i + 1) files) (sym (take_more files i (written f []) within))
  where
    within : i < length files
    within = omega (arith, length-map files (λ (w : Written). w.file))

module _ (old : Option Files) (names : List FileId) (told : ForSome old (λ files. names_in files ≡ names)) (i : ℕ) where
  -- one file more of what is told
  pub told_more : (mid new : Option Files) (f : FileId) → i < length names → f ≡ get_or names i f → EachOnce names → mid ≡ option_map (settled_to i) old → new ≡ option_map (settled_file f) mid → new ≡ option_map (settled_to (i + 1)) old
  told_more mid new f inside at once before is = is ∙ ap (option_map (settled_file f)) before ∙ by old told
    where
      by : (o : Option Files) → ForSome o (λ files. names_in files ≡ names) → option_map (settled_file f) (option_map (settled_to i) o) ≡ option_map (settled_to (i + 1)) o
      by None t = refl
      by (Some files) t =
          let names_are : names ≡ names_in files = sym (t files refl) in
          ap Some (settle_more files i f (subst (λ (ns : List FileId). i < length ns) names_are inside) (subst (λ (ns : List FileId). f ≡ get_or ns i f) names_are at) (subst EachOnce names_are once))

  -- all files
  pub told_all : (new : Option Files) → length names ≤ i → new ≡ option_map (settled_to i) old → new ≡ option_map settled old
  told_all new end is = is ∙ by old told
    where
      by : (o : Option Files) → ForSome o (λ files. names_in files ≡ names) → option_map (settled_to i) o ≡ option_map settled o
      by None t = refl
      by (Some files) t =
          let all : length files ≤ i = omega (arith, length-map files (λ (w : Written). w.file), ap length (t files refl)) in
          ap Some (ap (λ (rest : Files). settled (take i files) ++ rest) (drop_all i files all) ∙ append-nil (settled (take i files)) ∙ ap settled (take_all i files all))

-- no file is synced yet
pub told_none : (old : Option Files) → old ≡ option_map (settled_to 0) old
told_none None = refl
told_none (Some files) = refl

-- what a stage tells has the same files with the same bytes
pub told_kept : (old new : Option Files) (i : ℕ) → new ≡ option_map (settled_to i) old → option_map contents new ≡ option_map contents old
told_kept old new i is = ap (option_map contents) is ∙ by old
  where
    by : (o : Option Files) → option_map contents (option_map (settled_to i) o) ≡ option_map contents o
    by None = refl
    by (Some files) = ap Some (contents-settled_to i files)

-- once all were synced, each file was written once and is synced
all_synced : (files : Files) → All (λ (w : Written). w.synced ≡ true) (settled files)
all_synced files = All-map (λ (w : Written). w.synced ≡ true) synced files (λ k d below. refl)

pub told_sealed : (old new : Option Files) (names : List FileId) → ForSome old (λ files. names_in files ≡ names) → EachOnce names → new ≡ option_map settled old → ForSome new AreSealed
told_sealed old new names told once is = λ files at. by old told files (sym is ∙ at)
  where
    by : (o : Option Files) → ForSome o (λ files. names_in files ≡ names) → (files : Files) → option_map settled o ≡ Some files → AreSealed files
    by None t files e = cc
    by (Some before) t files e =
        let same : settled before ≡ files = cc in
        subst AreSealed same (record {
          once = subst EachOnce (sym (names_in-settled before ∙ t before refl)) once;
          synced = all_synced before;
        })

-- what holds holds after an error
pub after_error : {T E P : Type 0} (r : Result T E) → P → OnErr r P
after_error (Ok x) p = tt
after_error (Err e) p = p
