-- Names of the root that no command has given yet, and those that a command gives.
use Rattle.std.proofs.Common.{◌≡◌, ◌≢◌, ℕ, ◌+◌, ◌%◌, ◌<◌, ◌≤◌, ◌^◌, ◌⊎◌, Bool, true, false, List, [], ◌∷◌, ◌++◌, get_or, drop, refl, sym, ap, ◌∙◌, subst, inl, inr, append_assoc, arith, All, Option, Some, None, is_some, codes}
use Rattle.std.specs.List.{list_any}
use Rattle.std.specs.Map.{keys_of}
use Rattle.std.specs.BTreeMap.{is_at, insert_entry}
use Rattle.std.specs.Ordering.{nat_cmp}
use Rattle.std.specs.Fmt.{decimal}
use Rattle.std.specs.Cmp.Lexicographic.{slice_cmp}
use Rattle.std.specs.Option.{ForSome}
use Rattle.std.proofs.lemmas.List.{append_cancel_right}
use Rattle.std.proofs.lemmas.List.Elements.{All-append, All-cons, All-from_recursion, All-head, All-nil, All-push, All-tail}
use Rattle.std.proofs.lemmas.Fmt.{decimal_by_steps}
use Rattle.std.proofs.lemmas.Map.Made.{is_some-lookup}
use Rattle.std.proofs.lemmas.Map.Views.{All-keys-insert_entry}
use Rattle.mt_base.specs.declared.partition.Partition.{Partition}
use Rattle.mt_base.specs.declared.partition.Partition.TheVariants.{Whole, Number}
use Rattle.mt_values.specs.declared.schema.Schema.{Schema}
use Rattle.mt_values.specs.RootNames.{create_name, part_name}
use Rattle.mt_outside.specs.Disk.{Told, Names, names_of, files_at, put, with_change}
use Rattle.mt_outside.specs.declared.disk.Change.TheVariants.{Publish}
use Rattle.mt_outside.proofs.Changes.{names_after_last}
use Rattle.mt_outside.specs.Files.{Files}
use Rattle.root_store.specs.part_name.declared.part.PartName.{PartName}
use Rattle.root_store.specs.part_name.PartNames.{IsMutation, IsPartition, IsPartName, joined, last_text, part_text, partition_text}
use Rattle.root_store.proofs.PartNameTexts.{names_same}
use Rattle.root_store.specs.part_reader.declared.reading.Part.{Part}
use Rattle.root_store.specs.part_set.RootNames.{HasNoDot}
use Rattle.root_store.proofs.PartSetDots.{no_dot_in}
use Rattle.root_store.proofs.PartSetMaps.{found_is}
use Rattle.root_store.specs.declared.store.CoreStore.{CoreStore}
use Rattle.root_store.specs.declared.store.Table.{Table}
use Rattle.root_store.specs.Stores.{fresh_table}
use Rattle.root_commits.specs.Commits.{EntersPart, EntersTable, fresh_part}
use Rattle.root_store.specs.Soundness.{IsNameUnder, NamesFit}
use Rattle.root_store.specs.Stores.{table_at}
use Rattle.root_commits.proofs.Updated.{it_or, no_some, one_some}

-- ---- dots

abbrev is_no_dot : ℕ → Type 0
is_no_dot b = b ≢ 46

-- what stands before the last dot, and after it
last_dot : (a b x y : List ℕ) → HasNoDot x → HasNoDot y → a ++ 46 ∷ x ≡ b ++ 46 ∷ y → (a ≡ b) × (x ≡ y)
last_dot [] [] x y none also is = let rest : x ≡ y = cc in (refl, rest)
last_dot [] (c ∷ b) x y none also is = let rest : b ++ 46 ∷ y ≡ x = cc in absurd (no_dot_in b y x none rest)
last_dot (c ∷ a) [] x y none also is = let rest : a ++ 46 ∷ x ≡ y = cc in absurd (no_dot_in a x y also rest)
last_dot (c ∷ a) (d ∷ b) x y none also is =
    let first : c ≡ d = cc in
    let more : a ++ 46 ∷ x ≡ b ++ 46 ∷ y = cc in
    let rest = last_dot a b x y none also more in
    let same : a ≡ b = rest.0 in
    (cc, rest.1)

-- no digit is a dot
decimal_no_dot : (n : ℕ) → n < 2 ^ 64 → HasNoDot (decimal n)
decimal_no_dot n small =
    decimal_by_steps (λ m digits. HasNoDot digits) (λ m one. All-cons is_no_dot (48 + m) [] (λ is. absurd (omega arith)) (All-nil is_no_dot))
    (λ m digits ten none. All-push is_no_dot digits (48 + m % 10) none (λ is. absurd (omega arith))) n small

partition_no_dot : (p : Partition) → IsPartition p → HasNoDot (partition_text p)
partition_no_dot Whole fits = All-from_recursion is_no_dot (codes "all") (λ is. absurd (omega arith), (λ is. absurd (omega arith), (λ is. absurd (omega arith), tt)))
partition_no_dot (Number n) fits = decimal_no_dot n (omega arith)

-- nor is the underscore between two texts
joined_no_dot : (front rest : List ℕ) → HasNoDot front → HasNoDot rest → HasNoDot (joined front rest)
joined_no_dot front rest first second = All-append is_no_dot front (95 ∷ rest) first (All-cons is_no_dot 95 rest (λ is. absurd (omega arith)) second)

last_no_dot : (level : ℕ) (mutation : Option ℕ) → level ≤ 4294967295 → IsMutation mutation → HasNoDot (last_text level mutation)
last_no_dot level None small fits = decimal_no_dot level (omega (arith, small))
last_no_dot level (Some n) small fits = joined_no_dot (decimal level) (decimal n) (decimal_no_dot level (omega (arith, small))) (decimal_no_dot n (omega (arith, fits.1)))

-- a part's name has no dot
text_no_dot : (p : PartName) → IsPartName p → HasNoDot (part_text p)
text_no_dot p named =
    joined_no_dot (partition_text p.partition) _ (partition_no_dot p.partition named.partition)
    (joined_no_dot (decimal p.min_block) _ (decimal_no_dot p.min_block (omega (arith, named.min_block)))
    (joined_no_dot (decimal p.max_block) _ (decimal_no_dot p.max_block (omega (arith, named.max_block))) (last_no_dot p.level p.mutation named.level named.mutation)))

abbrev behind_part : PartName → List ℕ
behind_part p = codes "part_" ++ part_text p

part_no_dot : (p : PartName) → IsPartName p → HasNoDot (behind_part p)
part_no_dot p named =
    All-append is_no_dot (codes "part_") (part_text p)
    (All-from_recursion is_no_dot (codes "part_") (λ is. absurd (omega arith), (λ is. absurd (omega arith), (λ is. absurd (omega arith), (λ is. absurd (omega arith), (λ is. absurd (omega arith), tt))))))
    (text_no_dot p named)

create_no_dot : HasNoDot (codes "create")
create_no_dot =
    All-from_recursion is_no_dot (codes "create")
    (λ is. absurd (omega arith), (λ is. absurd (omega arith), (λ is. absurd (omega arith), (λ is. absurd (omega arith), (λ is. absurd (omega arith), (λ is. absurd (omega arith), tt))))))

-- ---- names that differ

part_name_is : (t : List ℕ) (p : PartName) → part_name t (part_text p) ≡ t ++ 46 ∷ behind_part p
part_name_is t p = append_assoc t (codes ".part_") (part_text p)

-- an entry's name is no part's
pub entry_is_no_part : (t u : List ℕ) (p : PartName) → IsPartName p → create_name t ≡ part_name u (part_text p) → ⊥
entry_is_no_part t u p named is =
    let behind = (last_dot t u (codes "create") (behind_part p) create_no_dot (part_no_dot p named) (is ∙ part_name_is u p)).1 in
    let first : ◌≡◌ {A = ℕ} 99 112 = ap (λ (text : List ℕ). get_or text 0 0) behind in
    absurd (omega arith)

pub entries_differ : (t u : List ℕ) → create_name t ≡ create_name u → t ≡ u
entries_differ t u is = append_cancel_right t u (codes ".create") is

-- a part's name tells its table and what it is called there
pub parts_differ : (t u : List ℕ) (p q : PartName) → IsPartName p → IsPartName q → part_name t (part_text p) ≡ part_name u (part_text q) → (t ≡ u) × (p ≡ q)
parts_differ t u p q named also is =
    let split = last_dot t u (behind_part p) (behind_part q) (part_no_dot p named) (part_no_dot q also) (sym (part_name_is t p) ∙ (is ∙ part_name_is u q)) in
    (split.0, names_same p q named also (ap (λ (text : List ℕ). drop 5 text) split.1))

-- ---- names that are free

-- no element passes, so none is found
none_passes : {X : Type 0} (p : X → Bool) (xs : List X) → All (λ x. p x ≡ false) xs → list_any p xs ≡ false
none_passes p [] h = refl
none_passes p (x ∷ xs) h = rw (All-head (λ y. p y ≡ false) x xs h) (none_passes p xs (All-tail (λ y. p y ≡ false) x xs h))

no_option : {X : Type 0} (o : Option X) → is_some o ≡ false → o ≡ None
no_option None h = refl
no_option (Some x) h = cc

not_true : (b : Bool) → (b ≡ true → ⊥) → b ≡ false
not_true true h = absurd (h refl)
not_true false h = refl

module _ {F : Type 0} (store : CoreStore F) (told : Told) (fit : NamesFit store told) where
  -- a name that is none under the store is not there
  not_there : (name : List ℕ) → (IsNameUnder store name → ⊥) → files_at name (names_of told) ≡ None
  not_there name new =
      let test = is_at (slice_cmp nat_cmp name) in
      let fails : All (λ (k : List ℕ). test k ≡ false) (keys_of (names_of told)) =
      λ k d lt. not_true _ (λ yes. new (subst (IsNameUnder store) (sym (found_is name _ yes)) (fit k d lt))) in
      no_option _ (is_some-lookup test (names_of told) ∙ none_passes test (keys_of (names_of told)) fails)

  -- the entry of a table that the store does not have is not there
  pub entry_free : (table : List ℕ) → table_at store table ≡ None → files_at (create_name table) (names_of told) ≡ None
  entry_free table none = not_there (create_name table) (λ under. by under under.is)
    where
      by : (under : IsNameUnder store (create_name table))
          → (create_name table ≡ create_name under.table) ⊎ ((part : PartName) × IsPartName part × (part.max_block ≤ under.kept.drawn) × (create_name table ≡ part_name under.table (part_text part)))
          → ⊥
      by under (inl same) = no_some (table_at store under.table) under.kept (subst (λ (t : List ℕ). table_at store t ≡ None) (entries_differ table under.table same) none) under.there
      by under (inr part) = entry_is_no_part table under.table part.0 part.1 part.3

  -- nor is a part whose number was not drawn yet
  pub part_free : (table : List ℕ) (t : Table) (p : PartName) → table_at store table ≡ Some t → IsPartName p → t.drawn < p.max_block → files_at (part_name table (part_text p)) (names_of told) ≡ None
  part_free table t p here named above = not_there (part_name table (part_text p)) (λ under. by under under.is)
    where
      by : (under : IsNameUnder store (part_name table (part_text p)))
          → (part_name table (part_text p) ≡ create_name under.table) ⊎ ((part : PartName) × IsPartName part × (part.max_block ≤ under.kept.drawn) × (part_name table (part_text p) ≡ part_name under.table (part_text part)))
          → ⊥
      by under (inl same) = entry_is_no_part under.table table p named (sym same)
      by under (inr part) =
          let differ = parts_differ table under.table p part.0 named part.1 part.3 in
          let kept : t ≡ under.kept = one_some (table_at store table) t under.kept here (subst (λ (u : List ℕ). table_at store u ≡ Some under.kept) (sym differ.0) under.there) in
          let drawn : t.drawn ≡ under.kept.drawn = ap (λ (x : Table). x.drawn) kept in
          let block : p.max_block ≡ part.0.max_block = ap (λ (x : PartName). x.max_block) differ.1 in
          let low = part.2 in
          absurd (omega (arith, drawn, block, low, above))

-- the number of a new part fits
pub fresh_named : (partition : Partition) (n : ℕ) → IsPartition partition → n < 4294967295 → IsPartName (fresh_part partition (n + 1))
fresh_named partition n fits small = record { partition = fits; min_block = (omega arith, omega arith); max_block = (omega arith, omega arith); order = omega arith; level = omega arith; mutation = tt }

-- ---- the names after a commit

-- what is told after a publish that was done: one more name
pub put_told : (clock : ℕ) (name : List ℕ) (files : Option Files) (old : Option Told) (x : Told) → put clock name files old ≡ Some x
    → (root : Told) × (fs : Files) × (old ≡ Some root) × (files ≡ Some fs) × (names_of x ≡ insert_entry (slice_cmp nat_cmp) (names_of root) name fs)
put_told clock name None old x h = cc
put_told clock name (Some fs) None x h = cc
put_told clock name (Some fs) (Some root) x h =
    let is : with_change clock (Publish name fs) root ≡ x = cc in
    (root, fs, refl, refl, ap names_of (sym is) ∙ names_after_last [] root (record { clock = clock; change = Publish name fs }))

module _ {F : Type 0} (old new : CoreStore F) where
  -- where each name under the old store is one under the new, and the new name is one, all names fit
  pub fits_more : (clock : ℕ) (name : List ℕ) (files : Option Files) (before after : Option Told) → ((n : List ℕ) → IsNameUnder old n → IsNameUnder new n) → IsNameUnder new name
      → ForSome before (NamesFit old) → after ≡ put clock name files before → ForSome after (NamesFit new)
  fits_more clock name files before after keep given fit is = λ x told.
      let from = put_told clock name files before x (sym is ∙ told) in
      let all : All (IsNameUnder new) (keys_of (names_of from.0)) = λ k d lt. keep (get_or (keys_of (names_of from.0)) k d) (fit from.0 from.2 k d lt) in
      subst (λ (ns : Names). All (IsNameUnder new) (keys_of ns)) (sym from.4) (All-keys-insert_entry (slice_cmp nat_cmp) name from.1 (IsNameUnder new) (names_of from.0) all given)

  -- the names fit the store with one table more, once its entry was published
  module _ (table : List ℕ) (schema : Schema) (enters : EntersTable table schema old new) where
    keep_made : (n : List ℕ) → IsNameUnder old n → IsNameUnder new n
    keep_made n under = elim (it_or old new table (Some (fresh_table schema)) enters.updates under.table) [
      | inl same ↦ absurd (no_some (table_at old under.table) under.kept (subst (λ (t : List ℕ). table_at old t ≡ None) same enters.absent) under.there)
      | inr other ↦ record { table = under.table; kept = under.kept; there = other.1 ∙ under.there; is = under.is }
    ]

    pub made_fits : (clock : ℕ) (files : Option Files) (before after : Option Told) → ForSome before (NamesFit old) → after ≡ put clock (create_name table) files before → ForSome after (NamesFit new)
    made_fits clock files before after =
        fits_more clock (create_name table) files before after keep_made (record { table = table; kept = fresh_table schema; there = enters.updates.1; is = inl refl })

  -- and the store with one part more, once that was published
  module _ (table : List ℕ) (partition : Partition) (part : Part F) (t : Table) (a : EntersPart table partition part t old new) where
    keep_added : (n : List ℕ) → IsNameUnder old n → IsNameUnder new n
    keep_added n under = elim (it_or old new table (Some (record { schema = t.schema; drawn = t.drawn + 1 })) a.updates under.table) [
      | inl same ↦ (
          let kept : t ≡ under.kept = one_some (table_at old under.table) t under.kept (subst (λ (u : List ℕ). table_at old u ≡ Some t) same a.there) under.there in
          let low : under.kept.drawn ≤ t.drawn + 1 = (let drawn : t.drawn ≡ under.kept.drawn = ap (λ (x : Table). x.drawn) kept in omega (arith, drawn)) in
          record {
            table = under.table;
            kept = record { schema = t.schema; drawn = t.drawn + 1 };
            there = subst (λ (u : List ℕ). table_at new u ≡ Some (record { schema = t.schema; drawn = t.drawn + 1 })) same a.updates.1;
            is = wider under.kept.drawn (t.drawn + 1) low under.is;
          }
          )
      | inr other ↦ record { table = under.table; kept = under.kept; there = other.1 ∙ under.there; is = under.is }
    ]
      where
        wider : (a b : ℕ) → a ≤ b → (n ≡ create_name under.table) ⊎ ((p : PartName) × IsPartName p × (p.max_block ≤ a) × (n ≡ part_name under.table (part_text p)))
            → (n ≡ create_name under.table) ⊎ ((p : PartName) × IsPartName p × (p.max_block ≤ b) × (n ≡ part_name under.table (part_text p)))
        wider a b le (inl is) = inl is
        wider a b le (inr p) = let low = p.2 in inr (p.0, p.1, omega (arith, low, le), p.3)

    pub added_fits : (clock : ℕ) (files : Option Files) (before after : Option Told) → IsPartition partition → t.drawn < 4294967295 → ForSome before (NamesFit old)
        → after ≡ put clock (part_name table (part_text (fresh_part partition (t.drawn + 1)))) files before → ForSome after (NamesFit new)
    added_fits clock files before after fits small =
        fits_more clock (part_name table (part_text (fresh_part partition (t.drawn + 1)))) files before after keep_added
        (record {
          table = table;
          kept = record { schema = t.schema; drawn = t.drawn + 1 };
          there = a.updates.1;
          is = inr (fresh_part partition (t.drawn + 1), fresh_named partition t.drawn fits small, omega arith, refl);
        })
