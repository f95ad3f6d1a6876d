-- What the part of a merge hides among the names of a root: exactly its sources.
use Rattle.std.proofs.Common.{◌≡◌, ◌≢◌, ℕ, ◌<◌, ◌≤◌, true, false, List, [], ◌∷◌, ◌++◌, Option, Some, None, refl, sym, ap, ◌∙◌, subst, arith, inl, inr, ◌⊎◌}
use Rattle.std.proofs.lemmas.Bool.{false≢true}
use Rattle.std.proofs.lemmas.List.Elements.{All-contains, Contains-append_cases, Contains-append_left, Contains-append_right}
use Rattle.std.specs.List.{All, Contains as HasItem}
use Rattle.mt_values.specs.Grammar.{same_bytes}
use Rattle.mt_values.specs.RootNames.{part_name}
use Rattle.mt_outside.specs.Disk.{Names, files_at}
use Rattle.mt_outside.specs.Files.{Files}
use Rattle.root_store.proofs.MtModelTables.{itself_same, same_is}
use Rattle.root_store.specs.part_name.declared.part.PartName.{PartName}
use Rattle.root_store.specs.part_name.PartNames.{Contains, Meet, part_text}
use Rattle.root_store.specs.part_reader.declared.reading.Part.{Part}
use Rattle.root_store.specs.part_set.declared.kept.Kept.{Kept}
use Rattle.root_store.specs.part_set.declared.root_name.RootName.TheVariants as root
use Rattle.root_store.specs.part_set.declared.root_name.TablePart.{TablePart}
use Rattle.root_store.specs.part_set.Parts.{HasName, IsInBlockOrder, StandsClear, kept_in}
use Rattle.root_store.specs.part_set.RootNames.{IsRootName}
use Rattle.root_store.specs.part_set.Runs.{EndsInOrder}
use Rattle.root_store.specs.part_set.Sets.{parts_of}
use Rattle.root_store.specs.part_set.Visible.{HasPart, IsVisible}
use Rattle.root_store.proofs.PartSetItems.{item_first}
use Rattle.root_store.proofs.PartSetMaps.{true_or_false}
use Rattle.root_store.proofs.PartSetNameTexts.{root_names_same}
use Rattle.root_store.proofs.PartSetOrphans.{item_more}
use Rattle.root_store.proofs.PartSetSwaps.{pairs_across, pairs_back}
use Rattle.root_store.specs.declared.store.CoreStore.{CoreStore}
use Rattle.root_store.specs.Shown.{AreShown, GreatestAreShown, part_called}
use Rattle.root_store.proofs.Items.{item_either, map_item, mapped}
use Rattle.root_store.proofs.Readings.{name_read}
use Rattle.root_store.proofs.Showing.{own_level}
use Rattle.root_commits.specs.Merges.{EntersMerge, Merging, name_of_merge, sources_of}
use Rattle.root_commits.proofs.Added.{are_read, new_read, with_name}
use Rattle.root_commits.proofs.Hiding.{MayReplace, covered_meets, hides, names_with, new_visible, not_covered, not_there, part_or_new, still_visible, was_visible}
use Rattle.root_commits.proofs.MergedNames.{first_of, run_meets, run_within, source_there, spells_of}

some_or_none : (o : Option Files) → ((files : Files) → o ≡ Some files → ⊥) → o ≡ None
some_or_none None not = refl
some_or_none (Some files) not = absurd (not files refl)

module _ {F : Type 0} (store : CoreStore F) (m : Merging) (ordered : IsInBlockOrder (kept_in m.partition (parts_of store.set m.table))) (fit : All EndsInOrder (parts_of store.set m.table))
    (name : PartName) (name_is : name_of_merge (sources_of store m) ≡ Some name) where
  abbrev parts : List (Kept (Part F))
  parts = parts_of store.set m.table

  abbrev sources : List (Kept (Part F))
  sources = sources_of store m

  abbrev new : TablePart
  new = part_called m.table name

  abbrev text : List ℕ
  text = part_name m.table (part_text name)

  abbrev name_of : Kept (Part F) → PartName
  name_of k = k.name

  there : (k : Kept (Part F)) → HasItem sources k → HasItem parts k
  there = source_there parts m.partition m.run ordered fit name name_is

  within_run : (k : Kept (Part F)) → HasItem sources k → Contains name k.name × (k.name.level < name.level)
  within_run = run_within parts m.partition m.run ordered fit name name_is

  module _ (names : Names) (s : AreShown store names) where
    -- a visible part of the table is a part of the store
    kept_of : (part : TablePart) → IsVisible s.read part → part.table ≡ m.table → (k : Kept (Part F)) × HasItem parts k × (k.name ≡ part.name)
    kept_of part visible own = mapped name_of parts part.name (subst (λ (t : List ℕ). HasName (parts_of store.set t) part.name) own ((s.parts part.table part.name).0 visible))

    pub kept_visible : (k : Kept (Part F)) → HasItem parts k → IsVisible s.read (part_called m.table k.name)
    kept_visible k has = (s.parts m.table k.name).1 (map_item name_of parts k has)

    abbrev one : Kept (Part F)
    one = (first_of sources name name_is).0

    one_there : HasItem sources one
    one_there = (first_of sources name name_is).1

    -- the new part may stand in place of those that it has a block in common with
    pub may_replace : MayReplace s.read new
    may_replace = record {
      within = λ part visible own meet.
          let k = kept_of part visible own in
          let inside = run_meets parts m.partition m.run ordered fit name name_is k.0 k.1 (subst (λ (n : PartName). Meet n name) (sym k.2) meet) in
          let w = within_run k.0 inside in (
            record { table = sym own; name = subst (Contains name) k.2 w.0 },
            subst (λ (n : PartName). n.level < name.level) k.2 w.1,
          );
      one = part_called m.table one.name;
      one_visible = kept_visible one (there one one_there);
      one_within = record { table = refl; name = (within_run one one_there).0 };
      one_lower = (within_run one one_there).1;
    }

    named_kept : (k : Kept (Part F)) → HasItem parts k → IsRootName (root.Part (part_called m.table k.name))
    named_kept k has = All-contains IsRootName s.read (root.Part (part_called m.table k.name)) s.are.sound (kept_visible k has).here

    -- its name is one of the grammar
    pub merged_word : name.level ≤ 4294967295 → IsRootName (root.Part new)
    merged_word low = (
      (named_kept one (there one one_there)).0,
      spells_of sources (λ k has. (named_kept k (there k has)).1) name name_is low,
    )

    module _ (word : IsRootName (root.Part new)) where
      -- and is free
      pub merged_free : files_at text names ≡ None
      merged_free = some_or_none (files_at text names) (λ files at.
          let found = name_read names s.read text files s.are.spelled at in
          let same = root_names_same found.0 (root.Part new) (All-contains IsRootName s.read found.0 s.are.sound found.1) word found.2 in
          not_there s.read new may_replace (subst (HasItem s.read) same found.1))

      module _ (files : Files) where
        there_now : HasPart (names_with s.read new) new
        there_now = new_read (root.Part new) word s.read s.are.sound

        -- a part of the greatest level stays visible
        pub greatest_merged : name.level ≤ 4294967295 → GreatestAreShown store (with_name names text files)
        greatest_merged low = λ u n has greatest.
            let was = (s.parts u n).1 has in
            own_level (with_name names text files) u n (record {
              read = names_with s.read new;
              are = are_read (root.Part new) word names files s.read s.are;
              visible = still_visible s.read new (part_called u n) was (λ covers.
                  let order = (All-contains IsRootName s.read (root.Part (part_called u n)) s.are.sound was.here).1.order in
                  let less = (may_replace.within (part_called u n) was (sym covers.table) (covered_meets new (part_called u n) order covers)).1 in
                  absurd (omega (arith, less, greatest, low)));
            })

        module _ {files_of : F → Option Files} (now : CoreStore F) (a : EntersMerge files_of m name store now) where
          abbrev kept : Kept (Part F)
          kept = record { name = name; part = a.part; busy = false }

          abbrev Clear : Kept (Part F) → Kept (Part F) → Type 0
          Clear x y = StandsClear x.name y.name

          ordered_now : IsInBlockOrder (a.swapped.front ++ kept ∷ a.swapped.back)
          ordered_now = subst (λ (ks : List (Kept (Part F))). IsInBlockOrder ks) a.swapped.after_is a.ordered

          -- what stands beside the run has no block in common with the new part
          beside_apart : (k : Kept (Part F)) → HasItem a.swapped.front k ⊎ HasItem a.swapped.back k → Meet k.name name → ⊥
          beside_apart k (inl front) meet =
              (pairs_across Clear a.swapped.front (kept ∷ a.swapped.back) ordered_now k kept front (item_first kept a.swapped.back)).apart meet
          beside_apart k (inr back) meet =
              (pairs_across Clear (kept ∷ []) a.swapped.back (pairs_back Clear a.swapped.front (kept ∷ a.swapped.back) ordered_now) kept k (item_first kept []) back).apart
              (record { partition = sym meet.partition; low = meet.high; high = meet.low })

          beside_before : (k : Kept (Part F)) → HasItem a.swapped.front k ⊎ HasItem a.swapped.back k → HasItem parts k
          beside_before k (inl front) = subst (λ (ks : List (Kept (Part F))). HasItem ks k) (sym a.swapped.before_is) (Contains-append_left a.swapped.front (sources ++ a.swapped.back) k front)
          beside_before k (inr back) = subst (λ (ks : List (Kept (Part F))). HasItem ks k) (sym a.swapped.before_is) (Contains-append_right a.swapped.front (sources ++ a.swapped.back) k (Contains-append_right sources a.swapped.back k back))

          beside_after : (k : Kept (Part F)) → HasItem a.swapped.front k ⊎ HasItem a.swapped.back k → HasItem (parts_of now.set m.table) k
          beside_after k (inl front) = subst (λ (ks : List (Kept (Part F))). HasItem ks k) (sym a.swapped.after_is) (Contains-append_left a.swapped.front (kept ∷ a.swapped.back) k front)
          beside_after k (inr back) = subst (λ (ks : List (Kept (Part F))). HasItem ks k) (sym a.swapped.after_is) (Contains-append_right a.swapped.front (kept ∷ a.swapped.back) k (item_more kept k a.swapped.back back))

          kept_there : HasItem (parts_of now.set m.table) kept
          kept_there = subst (λ (ks : List (Kept (Part F))). HasItem ks kept) (sym a.swapped.after_is) (Contains-append_right a.swapped.front (kept ∷ a.swapped.back) kept (item_first kept a.swapped.back))

          where_before : (k : Kept (Part F)) → HasItem parts k → (HasItem a.swapped.front k ⊎ HasItem a.swapped.back k) ⊎ HasItem sources k
          where_before k has = elim (Contains-append_cases a.swapped.front (sources ++ a.swapped.back) k (subst (λ (ks : List (Kept (Part F))). HasItem ks k) a.swapped.before_is has)) [
            | inl front ↦ inl (inl front)
            | inr rest ↦ elim (Contains-append_cases sources a.swapped.back k rest) [ inl inside ↦ inr inside | inr back ↦ inl (inr back) ]
          ]

          where_after : (k : Kept (Part F)) → HasItem (parts_of now.set m.table) k → (HasItem a.swapped.front k ⊎ HasItem a.swapped.back k) ⊎ (kept ≡ k)
          where_after k has = elim (Contains-append_cases a.swapped.front (kept ∷ a.swapped.back) k (subst (λ (ks : List (Kept (Part F))). HasItem ks k) a.swapped.after_is has)) [
            | inl front ↦ inl (inl front)
            | inr rest ↦ elim (item_either kept k a.swapped.back rest) [ inl is ↦ inr is | inr back ↦ inl (inr back) ]
          ]

          -- what is visible now is a part of the store now
          to_here : (n : PartName) → IsVisible (names_with s.read new) (part_called m.table n) → HasName (parts_of now.set m.table) n
          to_here n visible = elim (part_or_new s.read new (part_called m.table n) visible.here) [
            | inl old ↦ (
                let k = kept_of (part_called m.table n) (was_visible s.read new (part_called m.table n) old visible) refl in
                elim (where_before k.0 k.1) [
                  | inl beside ↦ subst (HasName (parts_of now.set m.table)) k.2 (map_item name_of (parts_of now.set m.table) k.0 (beside_after k.0 beside))
                  | inr inside ↦ absurd (hides s.read new may_replace (part_called m.table n) old (record { table = refl; name = subst (Contains name) k.2 (within_run k.0 inside).0 }) visible there_now)
                ])
            | inr is ↦ subst (HasName (parts_of now.set m.table)) (ap (λ (p : TablePart). p.name) is) (map_item name_of (parts_of now.set m.table) kept kept_there)
          ]

          from_here : (n : PartName) → HasName (parts_of now.set m.table) n → IsVisible (names_with s.read new) (part_called m.table n)
          from_here n has =
              let k = mapped name_of (parts_of now.set m.table) n has in
              elim (where_after k.0 k.1) [
                | inl beside ↦ (
                    let before = beside_before k.0 beside in
                    let order = (named_kept k.0 before).1.order in
                    subst (λ (x : PartName). IsVisible (names_with s.read new) (part_called m.table x)) k.2
                    (still_visible s.read new (part_called m.table k.0.name) (kept_visible k.0 before) (λ covers. beside_apart k.0 beside (covered_meets new (part_called m.table k.0.name) order covers))))
                | inr is ↦ subst (λ (x : PartName). IsVisible (names_with s.read new) (part_called m.table x)) (ap name_of is ∙ k.2) (new_visible s.read new (not_covered s.read new may_replace) there_now)
              ]

          other : (u : List ℕ) → same_bytes m.table u ≡ false → u ≢ m.table
          other u differ is = let yes : same_bytes m.table u ≡ true = ap (same_bytes m.table) is ∙ itself_same m.table in false≢true (sym differ ∙ yes)

          to : (u : List ℕ) (n : PartName) → IsVisible (names_with s.read new) (part_called u n) → HasName (parts_of now.set u) n
          to u n visible = elim (true_or_false (same_bytes m.table u)) [
            | inl here ↦ (let is = same_is m.table u here in subst (λ (t : List ℕ). HasName (parts_of now.set t) n) is (to_here n (subst (λ (t : List ℕ). IsVisible (names_with s.read new) (part_called t n)) (sym is) visible)))
            | inr differ ↦ elim (part_or_new s.read new (part_called u n) visible.here) [
              | inl old ↦ subst (λ (ks : List (Kept (Part F))). HasName ks n) (sym (a.others u (other u differ))) ((s.parts u n).0 (was_visible s.read new (part_called u n) old visible))
              | inr is ↦ absurd (other u differ (ap (λ (p : TablePart). p.table) (sym is)))
            ]
          ]

          from : (u : List ℕ) (n : PartName) → HasName (parts_of now.set u) n → IsVisible (names_with s.read new) (part_called u n)
          from u n has = elim (true_or_false (same_bytes m.table u)) [
            | inl here ↦ (let is = same_is m.table u here in subst (λ (t : List ℕ). IsVisible (names_with s.read new) (part_called t n)) is (from_here n (subst (λ (t : List ℕ). HasName (parts_of now.set t) n) (sym is) has)))
            | inr differ ↦ still_visible s.read new (part_called u n) ((s.parts u n).1 (subst (λ (ks : List (Kept (Part F))). HasName ks n) (a.others u (other u differ)) has)) (λ covers. other u differ (sym covers.table))
          ]

          -- the visible parts are those of the store with the new part in place of the others
          pub shown_merged : AreShown now (with_name names text files)
          shown_merged = record { read = names_with s.read new; are = are_read (root.Part new) word names files s.read s.are; parts = λ u n. (to u n, from u n) }
