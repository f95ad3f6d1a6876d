-- A folder that has a part's files, each synced, has their bytes.
use Rattle.std.proofs.Common.{◌≡◌, ℕ, zero, suc, Bool, true, false, cond, ◌||◌, List, [], ◌∷◌, ◌++◌, Some, refl, sym, ap, ◌∙◌, subst, map, slice_get, take, arith, length, length-append}
use Rattle.std.specs.Option.{option_map}
use Rattle.std.proofs.lemmas.Bool.{eq-eqb}
use Rattle.std.proofs.Math.Seq.{get_or-append_seam}
use Rattle.std.proofs.lemmas.List.{get_or_append_left}
use Rattle.std.proofs.lemmas.List.Elements.{All-map, All-push}
use Rattle.std.proofs.lemmas.Option.{get_or_from_slice_get, slice_get-get_or, slice_get-map, slice_get_within}
use Rattle.sha2.specs.Sha256.{sha256}
use Rattle.mt_base.specs.declared.name.FileId.{FileId}
use Rattle.mt_base.specs.declared.name.FileId.TheVariants as file
use Rattle.mt_base.specs.Files.{same_file}
use Rattle.mt_values.specs.declared.schema.Schema.{Schema}
use Rattle.mt_values.specs.Manifests.{manifest_bytes}
use Rattle.mt_values.specs.Values.{Row}
use Rattle.mt_outside.specs.Files.{Files, bytes_of}
use Rattle.stage_dir.specs.Stages.{has_file}
use Rattle.part_writer.specs.PartFiles.{HasBytes, all_synced, content_bytes, content_ids, content_of_part, files_of_part, manifest_of, with_bytes}
use Rattle.part_writer.proofs.Contents.{content_new, files_with_bytes, manifest_new}

same_file_self : (f : FileId) → same_file f f ≡ true
same_file_self file.Entry = refl
same_file_self file.Manifest = refl
same_file_self file.Marks = refl
same_file_self file.Primary = refl
same_file_self (file.Skip n) = eq-eqb n n refl
same_file_self (file.Column n) = eq-eqb n n refl

abbrev names : List (FileId × List ℕ) → List FileId
names files = map (λ (f : FileId × List ℕ). f.0) files

-- past a file of another name
passed : (f g : FileId) (bytes : List ℕ) (rest : List FileId) (behind : Files) → (same_file f g || has_file g rest) ≡ false → ((has_file g rest ≡ false) → bytes_of g behind ≡ bytes)
    → (own : List ℕ) → cond (same_file f g) own (bytes_of g behind) ≡ bytes
passed f g bytes rest behind other next own = by (same_file f g) refl
  where
    by : (b : Bool) → same_file f g ≡ b → cond (same_file f g) own (bytes_of g behind) ≡ bytes
    by true e = let no_one : true ≡ false = sym (ap (λ x. x || has_file g rest) e) ∙ other in cc
    by false e = ap (λ x. cond x own (bytes_of g behind)) e ∙ next (sym (ap (λ x. x || has_file g rest) e) ∙ other)

-- the first file of a name
own_bytes : (files behind : List (FileId × List ℕ)) (i : ℕ) (f : FileId) (bytes : List ℕ) → slice_get files i ≡ Some (f, bytes) → has_file f (take i (names files)) ≡ false → bytes_of f (all_synced (files ++ behind)) ≡ bytes
own_bytes [] behind i f bytes here new = absurd cc
own_bytes (g ∷ files) behind zero f bytes here new =
    let same : g ≡ (f, bytes) = cc in
    subst (λ (x : FileId × List ℕ). cond (same_file x.0 f) x.1 (bytes_of f (all_synced (files ++ behind))) ≡ bytes) (sym same)
    (ap (λ b. cond b bytes (bytes_of f (all_synced (files ++ behind)))) (same_file_self f))
own_bytes (g ∷ files) behind (suc i) f bytes here new =
    passed g.0 f bytes (take i (names files)) (all_synced (files ++ behind)) new (own_bytes files behind i f bytes here) g.1

-- and of one that none before it has
last_bytes : (files : List (FileId × List ℕ)) (f : FileId) (bytes : List ℕ) → has_file f (names files) ≡ false → bytes_of f (all_synced (files ++ (f, bytes) ∷ [])) ≡ bytes
last_bytes [] f bytes new = ap (λ b. cond b bytes []) (same_file_self f)
last_bytes (g ∷ files) f bytes new = passed g.0 f bytes (names files) (all_synced (files ++ (f, bytes) ∷ [])) new (last_bytes files f bytes) g.1

-- files of a folder, by their places
pub has_bytes : (schema : Schema) (rows : List Row) (folder : Files) (ids : List FileId) → ((i : ℕ) (f : FileId) → slice_get ids i ≡ Some f → bytes_of f folder ≡ content_bytes schema rows f) → HasBytes folder (map (with_bytes schema rows) ids)
has_bytes schema rows folder ids each =
    All-map (λ (g : FileId × List ℕ). bytes_of g.0 folder ≡ g.1) (with_bytes schema rows) ids (λ k d below. each k _ (slice_get-get_or ids k d below))

pub bytes_at : (schema : Schema) (rows : List Row) (folder : Files) (ids : List FileId) (i : ℕ) (f : FileId) → HasBytes folder (map (with_bytes schema rows) ids) → slice_get ids i ≡ Some f → bytes_of f folder ≡ content_bytes schema rows f
bytes_at schema rows folder ids i f has here =
    let files = map (with_bytes schema rows) ids in
    let there : slice_get files i ≡ Some (with_bytes schema rows f) = slice_get-map (with_bytes schema rows) ids i ∙ ap (option_map (with_bytes schema rows)) here in
    subst (λ (g : FileId × List ℕ). bytes_of g.0 folder ≡ g.1) (get_or_from_slice_get files i (with_bytes schema rows f) (with_bytes schema rows f) there)
    (has i (with_bytes schema rows f) (slice_get_within files i (with_bytes schema rows f) there))

pub sealed_bytes : (schema : Schema) (rows : List Row) → HasBytes (all_synced (files_of_part schema rows)) (files_of_part schema rows)
sealed_bytes schema rows =
    let folder = all_synced (files_of_part schema rows) in
    let bytes = manifest_bytes sha256 (manifest_of schema rows) in
    All-push (λ (g : FileId × List ℕ). bytes_of g.0 folder ≡ g.1) (content_of_part schema rows) (file.Manifest, bytes)
    (has_bytes schema rows folder (content_ids schema) content)
    (last_bytes (content_of_part schema rows) file.Manifest bytes (ap (has_file file.Manifest) (files_with_bytes schema rows (content_ids schema)) ∙ manifest_new schema))
  where
    content : (i : ℕ) (f : FileId) → slice_get (content_ids schema) i ≡ Some f → bytes_of f (all_synced (files_of_part schema rows)) ≡ content_bytes schema rows f
    content i f here =
        own_bytes (content_of_part schema rows) ((file.Manifest, manifest_bytes sha256 (manifest_of schema rows)) ∷ []) i f (content_bytes schema rows f)
        (slice_get-map (with_bytes schema rows) (content_ids schema) i ∙ ap (option_map (with_bytes schema rows)) here)
        (ap (λ (fs : List FileId). has_file f (take i fs)) (files_with_bytes schema rows (content_ids schema)) ∙ content_new schema i f here)

-- what has the bytes of a part's files has those of each of them
module _ (schema : Schema) (rows : List Row) (folder : Files) (has : HasBytes folder (files_of_part schema rows)) where
  pub content_held : HasBytes folder (content_of_part schema rows)
  content_held = has_bytes schema rows folder (content_ids schema) each
    where
      last : List (FileId × List ℕ)
      last = (file.Manifest, manifest_bytes sha256 (manifest_of schema rows)) ∷ []

      each : (i : ℕ) (f : FileId) → slice_get (content_ids schema) i ≡ Some f → bytes_of f folder ≡ content_bytes schema rows f
      each i f here =
          let there : slice_get (content_of_part schema rows) i ≡ Some (with_bytes schema rows f) = slice_get-map (with_bytes schema rows) (content_ids schema) i ∙ ap (option_map (with_bytes schema rows)) here in
          let below = slice_get_within (content_of_part schema rows) i (with_bytes schema rows f) there in
          let d : FileId × List ℕ = with_bytes schema rows f in
          subst (λ (g : FileId × List ℕ). bytes_of g.0 folder ≡ g.1) (get_or_append_left (content_of_part schema rows) last d i below ∙ get_or_from_slice_get (content_of_part schema rows) i d d there)
          (has i d (omega (arith, length-append (content_of_part schema rows) last)))

  pub manifest_held : bytes_of file.Manifest folder ≡ manifest_bytes sha256 (manifest_of schema rows)
  manifest_held =
      let bytes = manifest_bytes sha256 (manifest_of schema rows) in
      let d : FileId × List ℕ = (file.Manifest, bytes) in
      subst (λ (g : FileId × List ℕ). bytes_of g.0 folder ≡ g.1) (get_or-append_seam (content_of_part schema rows) d [] d)
      (has (length (content_of_part schema rows)) d (omega (arith, length-append (content_of_part schema rows) (d ∷ []))))
