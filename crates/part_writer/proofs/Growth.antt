-- The files of a part's content while they grow.
use Rattle.std.proofs.Common.{◌≡◌, ◌≢◌, ◌⊎◌, inl, inr, ℕ, zero, suc, Bool, true, false, cond, ◌||◌, List, [], ◌∷◌, ◌++◌, Option, Some, None, refl, sym, ap, ap₂, ◌∙◌, subst, map, slice_get, get_or, is_some, append-nil, All, arith}
use Rattle.std.specs.Option.{option_map, ForSome}
use Rattle.std.proofs.lemmas.List.Elements.{All-head, All-tail}
use Rattle.std.proofs.lemmas.List.Folds.{list_any_none}
use Rattle.std.proofs.lemmas.Option.{slice_get-get_or}
use Rattle.mt_base.specs.declared.name.FileId.{FileId}
use Rattle.mt_base.specs.Files.{same_file}
use Rattle.mt_outside.specs.Files.{Files, appended, bytes_of}
use Rattle.mt_values.specs.declared.schema.Schema.{Schema}
use Rattle.stage_dir.specs.Stages.{EachOnce, Filling, IsIntact, has_file, names_in, settled, with_file}
use Rattle.stage_dir.proofs.Appends.{bytes_of_grown, bytes_of_grown_others, noted_there, same_file-self, same_file-true}
use Rattle.mt_base.specs.declared.name.FileId.TheVariants as file
use Rattle.mt_values.specs.Values.{Row}
use Rattle.part_writer.specs.Growing.{HasFiles, grown_bytes}
use Rattle.part_writer.specs.PartFiles.{IsContent, all_synced, content_bytes, content_ids, with_bytes}
use Rattle.part_writer.proofs.Contents.{all_content, content_all, other_place}

-- ---- one file or another

pub either_file : (f g : FileId) → (f ≡ g) ⊎ ((same_file f g ≡ false) × (f ≢ g))
either_file f g = by (same_file f g) refl
  where
    by : (b : Bool) → same_file f g ≡ b → (f ≡ g) ⊎ ((same_file f g ≡ false) × (f ≢ g))
    by true e = inl (same_file-true f g e)
    by false e = inr (e, λ same. let other : same_file f g ≡ true = ap (same_file f) (sym same) ∙ same_file-self f in cc)

or_right : (a b : Bool) → b ≡ true → (a || b) ≡ true
or_right true b e = refl
or_right false b e = e

-- a file that stands at a place is among them
pub has_at : (names : List FileId) (i : ℕ) (f : FileId) → slice_get names i ≡ Some f → has_file f names ≡ true
has_at [] i f e = cc
has_at (n ∷ ns) zero f e =
    let same : n ≡ f = cc in
    ap (λ (m : FileId). same_file m f || has_file f ns) same ∙ ap (λ b. b || has_file f ns) (same_file-self f)
has_at (n ∷ ns) (suc i) f e = or_right (same_file n f) (has_file f ns) (has_at ns i f e)

pub has_content : (schema : Schema) (f : FileId) → IsContent schema f → has_file f (content_ids schema) ≡ true
has_content schema f is = let there = content_all schema f is in has_at (content_ids schema) there.0 f there.1

-- ---- a file that grows

module _ (schema : Schema) (b c : FileId → List ℕ) (old new : Filling) where
  -- one file got bytes, and the others are as they were
  pub file_grows : (f : FileId) (bytes : List ℕ) → HasFiles schema b old → IsContent schema f → new.names ≡ old.names → new.files ≡ option_map (appended f bytes) old.files → IsIntact new
      → c f ≡ b f ++ bytes → ((g : FileId) → IsContent schema g → f ≢ g → c g ≡ b g) → HasFiles schema c new
  file_grows f bytes has content same is intact here others = record {
    names = same ∙ has.names;
    intact = intact;
    files = λ files told. by old.files has.files files (sym is ∙ told);
  }
    where
      at : (before : Files) → ((g : FileId) → IsContent schema g → bytes_of g before ≡ b g) → (g : FileId) → IsContent schema g → (f ≡ g) ⊎ ((same_file f g ≡ false) × (f ≢ g)) → bytes_of g (appended f bytes before) ≡ c g
      at before had g there (inl e) = subst (λ (h : FileId). bytes_of h (appended f bytes before) ≡ c h) e (bytes_of_grown before f bytes ∙ ap (λ l. l ++ bytes) (had f content) ∙ sym here)
      at before had g there (inr e) = bytes_of_grown_others before f g bytes e.1 ∙ had g there ∙ sym (others g there e.1)

      by : (o : Option Files) → ForSome o (λ files. (g : FileId) → IsContent schema g → bytes_of g files ≡ b g) → (files : Files) → option_map (appended f bytes) o ≡ Some files → (g : FileId) → IsContent schema g → bytes_of g files ≡ c g
      by None had files e = cc
      by (Some before) had files e = λ g there.
          let after : appended f bytes before ≡ files = cc in
          subst (λ (fs : Files). bytes_of g fs ≡ c g) after (at before (had before refl) g there (either_file f g))

  -- the same of a file that is noted
  pub noted_grows : (f : FileId) (bytes : List ℕ) → HasFiles schema b old → IsContent schema f → new.names ≡ with_file f old.names → new.files ≡ option_map (appended f bytes) old.files → IsIntact new
      → c f ≡ b f ++ bytes → ((g : FileId) → IsContent schema g → f ≢ g → c g ≡ b g) → HasFiles schema c new
  noted_grows f bytes has content noted is intact here others =
      let there : has_file f old.names ≡ true = ap (has_file f) has.names ∙ has_content schema f content in
      file_grows f bytes has content (noted ∙ noted_there f old.names there) is intact here others

-- the bytes are those of another function, file by file
pub has_same : (schema : Schema) (b c : FileId → List ℕ) (filling : Filling) → HasFiles schema b filling → ((f : FileId) → IsContent schema f → c f ≡ b f) → HasFiles schema c filling
has_same schema b c filling has same = record {
  names = has.names;
  intact = has.intact;
  files = λ files told. λ f there. has.files files told f there ∙ sym (same f there);
}

-- ---- files that are sealed

same_sym : (f g : FileId) → same_file f g ≡ false → same_file g f ≡ false
same_sym f g other = by (either_file g f)
  where
    by : (g ≡ f) ⊎ ((same_file g f ≡ false) × (g ≢ f)) → same_file g f ≡ false
    by (inl e) = let same : same_file f g ≡ true = ap (same_file f) e ∙ same_file-self f in cc
    by (inr e) = e.0

head_new : (n : FileId) (ns : List FileId) → EachOnce (n ∷ ns) → has_file n ns ≡ false
head_new n ns once = list_any_none (λ (m : FileId). same_file m n) ns (λ k d below. same_sym n (get_or ns k d) (once 0 (suc k) d (omega arith) (omega arith)))

tail_once : (n : FileId) (ns : List FileId) → EachOnce (n ∷ ns) → EachOnce ns
tail_once n ns once = λ i k d below inside. once (suc i) (suc k) d (omega arith) (omega arith)

-- files with these bytes, each of them there once
pub settled_files : (files : Files) (b : FileId → List ℕ) → EachOnce (names_in files) → ((f : FileId) → has_file f (names_in files) ≡ true → bytes_of f files ≡ b f) → settled files ≡ all_synced (map (λ f. (f, b f)) (names_in files))
settled_files [] b once had = refl
settled_files (w ∷ ws) b once had =
    let own : bytes_of w.file (w ∷ ws) ≡ w.bytes = rw (same_file-self w.file) refl in
    let here : has_file w.file (names_in (w ∷ ws)) ≡ true = ap (λ b. b || has_file w.file (names_in ws)) (same_file-self w.file) in
    ap₂ (λ (bs : List ℕ) (fs : Files). record { file = w.file; bytes = bs; synced = true } ∷ fs) (sym own ∙ had w.file here)
    (settled_files ws b (tail_once w.file (names_in ws) once) others)
  where
    others : (f : FileId) → has_file f (names_in ws) ≡ true → bytes_of f ws ≡ b f
    others f there = by (either_file w.file f)
      where
        by : (w.file ≡ f) ⊎ ((same_file w.file f ≡ false) × (w.file ≢ f)) → bytes_of f ws ≡ b f
        by (inl e) =
            let none : has_file f (names_in ws) ≡ false = ap (λ (g : FileId). has_file g (names_in ws)) (sym e) ∙ head_new w.file (names_in ws) once in cc
        by (inr e) = sym (ap (λ b. cond b w.bytes (bytes_of f ws)) e.0) ∙ had f (or_right (same_file w.file f) (has_file f (names_in ws)) there)

-- ---- files without bytes

-- no file that is told has bytes
abbrev pub AreEmpty : Option Files → Type 0
AreEmpty o = ForSome o (λ files. (f : FileId) → bytes_of f files ≡ [])

bytes_none : (files : Files) → names_in files ≡ [] → (f : FileId) → bytes_of f files ≡ []
bytes_none [] e f = refl
bytes_none (w ∷ ws) e f = cc

pub empty_begun : (filling : Filling) → filling.names ≡ [] → IsIntact filling → AreEmpty filling.files
empty_begun filling none intact = λ files told. bytes_none files (intact files told ∙ none)

pub empty_more : (old new : Option Files) (f : FileId) → AreEmpty old → new ≡ option_map (appended f []) old → AreEmpty new
empty_more None new f had is = λ files told. cc
empty_more (Some before) new f had is = λ files told. λ g.
    let after : appended f [] before ≡ files = cc in
    subst (λ (fs : Files). bytes_of g fs ≡ []) after (at g (either_file f g))
  where
    at : (g : FileId) → (f ≡ g) ⊎ ((same_file f g ≡ false) × (f ≢ g)) → bytes_of g (appended f [] before) ≡ []
    at g (inl e) = subst (λ (h : FileId). bytes_of h (appended f [] before) ≡ []) e (bytes_of_grown before f [] ∙ append-nil (bytes_of f before) ∙ had before refl f)
    at g (inr e) = bytes_of_grown_others before f g [] e.1 ∙ had before refl g

none_grown : (f : FileId) → [] ≡ grown_bytes [] f
none_grown (file.Column n) = refl
none_grown f = refl

pub empty_done : (schema : Schema) (filling : Filling) → filling.names ≡ content_ids schema → IsIntact filling → AreEmpty filling.files → HasFiles schema (grown_bytes []) filling
empty_done schema filling names intact had = record {
  names = names;
  intact = intact;
  files = λ files told. λ f there. had files told f ∙ none_grown f;
}

-- ---- the files of a part's content, each there once

pub content_once : (schema : Schema) → EachOnce (content_ids schema)
content_once schema = λ i k d below inside.
    let ids = content_ids schema in
    other_place schema k i (get_or ids k d) (get_or ids i d) (slice_get-get_or ids k d inside) (slice_get-get_or ids i d (omega arith)) below

among : (P : FileId → Type 0) (names : List FileId) (f : FileId) → has_file f names ≡ true → All P names → P f
among P [] f there all = cc
among P (n ∷ ns) f there all = by (same_file n f) refl (λ e. among P ns f (sym (ap (λ b. b || has_file f ns) e) ∙ there) (All-tail P n ns all))
  where
    by : (b : Bool) → same_file n f ≡ b → (same_file n f ≡ false → P f) → P f
    by true e rest = subst P (same_file-true n f e) (All-head P n ns all)
    by false e rest = rest e

-- once they all have their bytes they can be sealed
pub content_settled : (schema : Schema) (rows : List Row) (filling : Filling) (first : Option Files) → HasFiles schema (content_bytes schema rows) filling → is_some filling.files ≡ is_some first
    → option_map settled filling.files ≡ option_map (λ _. all_synced (map (with_bytes schema rows) (content_ids schema))) first
content_settled schema rows filling first has told = by filling.files first has.intact has.files told
  where
    by : (o first : Option Files) → ForSome o (λ files. names_in files ≡ filling.names) → ForSome o (λ files. (f : FileId) → IsContent schema f → bytes_of f files ≡ content_bytes schema rows f) → is_some o ≡ is_some first
        → option_map settled o ≡ option_map (λ _. all_synced (map (with_bytes schema rows) (content_ids schema))) first
    by None None intact had told = refl
    by None (Some x) intact had told = cc
    by (Some fs) None intact had told = cc
    by (Some fs) (Some x) intact had told =
        let names : names_in fs ≡ content_ids schema = intact fs refl ∙ has.names in
        ap Some (
        settled_files fs (content_bytes schema rows) (subst EachOnce (sym names) (content_once schema))
        (λ f there. had fs refl f (among (IsContent schema) (content_ids schema) f (sym (ap (has_file f) names) ∙ there) (all_content schema)))
        ∙ ap (λ (ns : List FileId). all_synced (map (with_bytes schema rows) ns)) names)
