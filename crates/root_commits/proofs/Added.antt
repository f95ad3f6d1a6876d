-- The names of a root with one more: how they are read, and what their folders are.
use Rattle.std.proofs.Common.{◌≡◌, ◌≢◌, ℕ, List, [], ◌∷◌, Some, None, All, map, get_or, drop, refl, sym, ap, ap₂, ◌∙◌, subst, inl, inr, ◌⊎◌}
use Rattle.std.proofs.lemmas.List.Elements.{All-from_recursion, recursion_from_All}
use Rattle.std.proofs.lemmas.Map.Lookups.{exact_bytes}
use Rattle.std.specs.BTreeMap.{insert_entry}
use Rattle.std.specs.Cmp.Lexicographic.{slice_cmp}
use Rattle.std.specs.List.{AllByRecursion, Contains as HasItem}
use Rattle.std.specs.Map.{keys_of}
use Rattle.std.specs.Ordering.{match_ordering, nat_cmp}
use Rattle.std.specs.declared.cmp.Ordering.{Ordering}
use Rattle.std.specs.declared.cmp.Ordering.TheVariants.{Less, Equal, Greater}
use Rattle.mt_outside.specs.declared.disk.Change.TheVariants.{Publish}
use Rattle.mt_outside.specs.Disk.{Names, files_at}
use Rattle.mt_outside.specs.Files.{Files}
use Rattle.root_store.specs.part_set.declared.root_name.RootName.{RootName}
use Rattle.root_store.specs.part_set.RootNames.{IsRootName, root_text}
use Rattle.root_store.proofs.PartSetItems.{item_first, item_none}
use Rattle.root_store.proofs.PartSetNameTexts.{root_names_same}
use Rattle.root_store.proofs.PartSetOrphans.{item_more}
use Rattle.root_store.proofs.StageDirLookups.{other_kept, published_at}
use Rattle.root_store.specs.Roots.{AreNamesRead, HasFolder}
use Rattle.root_store.proofs.Items.{item_either}

-- names with one more
abbrev pub with_name : Names → List ℕ → Files → Names
with_name names name files = insert_entry (slice_cmp nat_cmp) names name files

module _ (n : RootName) where
  -- names that were read, with one more at the place of its text
  abbrev pub read_with : List RootName → List RootName
  read_with [] = n ∷ []
  read_with (r ∷ read) = match_ordering (slice_cmp nat_cmp (root_text n) (root_text r)) (n ∷ r ∷ read) (r ∷ read) (r ∷ read_with read)

  -- what was read still is
  pub still_read : (read : List RootName) (x : RootName) → HasItem read x → HasItem (read_with read) x
  still_read [] x has = absurd (item_none x has)
  still_read (r ∷ read) x has = by (slice_cmp nat_cmp (root_text n) (root_text r)) (still_read read x)
    where
      by : (c : Ordering) → (HasItem read x → HasItem (read_with read) x) → HasItem (match_ordering c (n ∷ r ∷ read) (r ∷ read) (r ∷ read_with read)) x
      by Less rest = item_more n x (r ∷ read) has
      by Equal rest = has
      by Greater rest = elim (item_either r x read has) [
        | inl same ↦ subst (HasItem (r ∷ read_with read)) same (item_first r (read_with read))
        | inr more ↦ item_more r x (read_with read) (rest more)
      ]

  -- and nothing else but the new name
  pub read_or_new : (read : List RootName) (x : RootName) → HasItem (read_with read) x → HasItem read x ⊎ (n ≡ x)
  read_or_new [] x has = elim (item_either n x [] has) [ inl same ↦ inr same | inr none ↦ inl none ]
  read_or_new (r ∷ read) x has = by (slice_cmp nat_cmp (root_text n) (root_text r)) has (read_or_new read x)
    where
      by : (c : Ordering) → HasItem (match_ordering c (n ∷ r ∷ read) (r ∷ read) (r ∷ read_with read)) x → (HasItem (read_with read) x → HasItem read x ⊎ (n ≡ x)) → HasItem (r ∷ read) x ⊎ (n ≡ x)
      by Less has rest = elim (item_either n x (r ∷ read) has) [ inl same ↦ inr same | inr more ↦ inl more ]
      by Equal has rest = inl has
      by Greater has rest = elim (item_either r x (read_with read) has) [
        | inl same ↦ inl (subst (HasItem (r ∷ read)) same (item_first r read))
        | inr more ↦ elim (rest more) [ inl old ↦ inl (item_more r x read old) | inr new ↦ inr new ]
      ]

  module _ (named : IsRootName n) where
    new_by : (read : List RootName) → AllByRecursion IsRootName read → HasItem (read_with read) n
    new_by [] all = item_first n []
    new_by (r ∷ read) all = by (slice_cmp nat_cmp (root_text n) (root_text r)) refl (new_by read all.1)
      where
        by : (c : Ordering) → slice_cmp nat_cmp (root_text n) (root_text r) ≡ c → HasItem (read_with read) n → HasItem (match_ordering c (n ∷ r ∷ read) (r ∷ read) (r ∷ read_with read)) n
        by Less is rest = item_first n (r ∷ read)
        by Equal is rest =
            let same = root_names_same n r named all.0 (exact_bytes (root_text n) (root_text r) is) in
            subst (HasItem (r ∷ read)) (sym same) (item_first r read)
        by Greater is rest = item_more r n (read_with read) rest

    -- the new name is read
    pub new_read : (read : List RootName) → All IsRootName read → HasItem (read_with read) n
    new_read read all = new_by read (recursion_from_All IsRootName read all)

    sound_by : (read : List RootName) → AllByRecursion IsRootName read → AllByRecursion IsRootName (read_with read)
    sound_by [] all = (named, tt)
    sound_by (r ∷ read) all = by (slice_cmp nat_cmp (root_text n) (root_text r)) (sound_by read all.1)
      where
        by : (c : Ordering) → AllByRecursion IsRootName (read_with read) → AllByRecursion IsRootName (match_ordering c (n ∷ r ∷ read) (r ∷ read) (r ∷ read_with read))
        by Less rest = (named, all)
        by Equal rest = all
        by Greater rest = (all.0, rest)

    texts_by : (names : Names) (files : Files) (read : List RootName) → map root_text read ≡ keys_of names → map root_text (read_with read) ≡ keys_of (with_name names (root_text n) files)
    texts_by [] files [] is = refl
    texts_by [] files (r ∷ read) is = cc
    texts_by (m ∷ names) files [] is = cc
    texts_by (m ∷ names) files (r ∷ read) is =
        by (texts_by names files read (ap (λ (ts : List (List ℕ)). drop 1 ts) is)) (slice_cmp nat_cmp (root_text n) (root_text r))
        ∙ ap (λ (t : List ℕ). keys_of (match_ordering (slice_cmp nat_cmp (root_text n) t) ((root_text n, files) ∷ m ∷ names) ((m.0, files) ∷ names) (m ∷ with_name names (root_text n) files))) first
      where
        first : root_text r ≡ m.0
        first = ap (λ (ts : List (List ℕ)). get_or ts 0 []) is

        by : map root_text (read_with read) ≡ keys_of (with_name names (root_text n) files) → (c : Ordering) → map root_text (match_ordering c (n ∷ r ∷ read) (r ∷ read) (r ∷ read_with read))
            ≡ keys_of (match_ordering c ((root_text n, files) ∷ m ∷ names) ((m.0, files) ∷ names) (m ∷ with_name names (root_text n) files))
        by rest Less = ap (λ (ts : List (List ℕ)). root_text n ∷ ts) is
        by rest Equal = is
        by rest Greater = ap₂ (λ (t : List ℕ) (ts : List (List ℕ)). t ∷ ts) first rest

    -- the names with one more are read so
    pub are_read : (names : Names) (files : Files) (read : List RootName) → AreNamesRead names read → AreNamesRead (with_name names (root_text n) files) (read_with read)
    are_read names files read are = record {
      sound = All-from_recursion IsRootName (read_with read) (sound_by read (recursion_from_All IsRootName read are.sound));
      spelled = texts_by names files read are.spelled;
    }

-- the new name has its folder
pub new_folder : (names : Names) (name : List ℕ) (files : Files) → files_at name (with_name names name files) ≡ Some files
new_folder names name files = published_at name files names

taken : (files : Files) → Some files ≡ None → ⊥
taken files is = cc

-- and each other one keeps its own
pub folder_kept : (names : Names) (new : List ℕ) (files : Files) (name : List ℕ) (Holds : Files → Type 0) → files_at new names ≡ None → HasFolder names name Holds → HasFolder (with_name names new files) name Holds
folder_kept names new files name Holds free folder =
    let apart : new ≢ name = λ same. taken folder.files (sym (ap (λ (t : List ℕ). files_at t names) same ∙ folder.there) ∙ free) in
    record { files = folder.files; there = other_kept name (Publish new files) names apart ∙ folder.there; holds = folder.holds }
