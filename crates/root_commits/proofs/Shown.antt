-- The visible parts among the names of a root stay the store's, as commands are added to both.
use Rattle.std.proofs.Common.{◌≡◌, ◌≢◌, ℕ, ◌+◌, ◌≤◌, List, true, false, IsTrue, Option, Some, sym, ap, ◌∙◌, subst, arith, inl, inr, ◌⊎◌}
use Rattle.std.proofs.lemmas.Bool.{false≢true}
use Rattle.std.proofs.lemmas.List.Elements.{All-contains}
use Rattle.std.specs.List.{Contains as HasItem}
use Rattle.std.specs.Map.{keys_of}
use Rattle.std.specs.Option.{ForSome}
use Rattle.mt_base.specs.declared.partition.Partition.{Partition}
use Rattle.mt_values.specs.declared.schema.Schema.{Schema}
use Rattle.mt_values.specs.Grammar.{same_bytes}
use Rattle.mt_values.specs.RootNames.{create_name, part_name}
use Rattle.mt_outside.specs.Disk.{MayPut, Names, Told, names_of, put}
use Rattle.mt_outside.specs.Files.{Files}
use Rattle.root_store.proofs.MtModelTables.{itself_same, same_is}
use Rattle.root_store.specs.part_name.declared.part.PartName.{PartName}
use Rattle.root_store.specs.part_name.PartNames.{IsPartName, part_text}
use Rattle.root_store.specs.part_reader.declared.reading.Part.{Part}
use Rattle.root_store.specs.part_set.declared.kept.Kept.{Kept}
use Rattle.root_store.specs.part_set.declared.root_name.RootName.{RootName}
use Rattle.root_store.specs.part_set.declared.root_name.RootName.TheVariants as root
use Rattle.root_store.specs.part_set.declared.root_name.TablePart.{TablePart}
use Rattle.root_store.specs.part_set.declared.set.PartSet.{PartSet}
use Rattle.root_store.specs.part_set.Parts.{HasName}
use Rattle.root_store.specs.part_set.RootNames.{IsRootName, is_table, root_text}
use Rattle.root_store.specs.part_set.Sets.{parts_of}
use Rattle.root_store.specs.part_set.Visible.{HasPart, IsVisible}
use Rattle.root_store.proofs.PartSetItems.{item_cases, item_kept, item_new}
use Rattle.root_store.proofs.PartSetMaps.{true_or_false}
use Rattle.root_store.specs.declared.store.CoreStore.{CoreStore}
use Rattle.root_store.specs.declared.store.Table.{Table}
use Rattle.root_store.specs.Roots.{AreNamesRead}
use Rattle.root_store.specs.Shown.{AreShown, GreatestAreShown, part_called}
use Rattle.root_store.specs.Soundness.{IsNameUnder, NamesFit}
use Rattle.root_store.specs.Stores.{table_at}
use Rattle.root_store.proofs.Items.{map_item, mapped}
use Rattle.root_store.proofs.Showing.{own_level}
use Rattle.root_commits.specs.Commits.{EntersPart, EntersTable, SameStore, fresh_part}
use Rattle.root_commits.proofs.Added.{are_read, new_read, read_with, with_name}
use Rattle.root_commits.proofs.FreeNames.{entry_is_no_part, parts_differ, put_told}
use Rattle.root_commits.proofs.Hiding.{covers_none, names_with, new_visible, none_covers, part_or_new, still_visible, table_hides_none, table_shows_none, was_visible}
use Rattle.root_commits.proofs.Updated.{one_some}

-- ---- names that a disk tells

-- what holds of the names with one more holds of those that are told after it was put there
pub after_put : (P : Names → Type 0) (clock : ℕ) (name : List ℕ) (files : Option Files) (before after : Option Told)
    → ((told : Told) (fs : Files) → before ≡ Some told → P (with_name (names_of told) name fs)) → after ≡ put clock name files before → ForSome after (λ (t : Told). P (names_of t))
after_put P clock name files before after given is = λ x told.
    let from = put_told clock name files before x (sym is ∙ told) in
    subst P (sym from.4) (given from.0 from.1 from.2)

-- and where it is there or not, what holds of the names without it as well
pub after_doubt : (P : Names → Type 0) (clock : ℕ) (name : List ℕ) (files : Option Files) (before after : Option Told)
    → ((told : Told) (fs : Files) → before ≡ Some told → P (with_name (names_of told) name fs)) → ForSome before (λ (t : Told). P (names_of t)) → MayPut clock name files before after → ForSome after (λ (t : Told). P (names_of t))
after_doubt P clock name files before after given was (inl same) = λ x told. was x (sym same ∙ told)
after_doubt P clock name files before after given was (inr is) = after_put P clock name files before after given is

-- ---- the same store

module _ {F : Type 0} (old new : CoreStore F) (same : SameStore old new) (names : Names) where
  pub shown_same : AreShown old names → AreShown new names
  shown_same s = record {
    read = s.read;
    are = s.are;
    parts = λ table name. (
      (λ visible. subst (λ (ks : List (Kept (Part F))). HasName ks name) (sym (same.parts table)) ((s.parts table name).0 visible)),
      (λ has. (s.parts table name).1 (subst (λ (ks : List (Kept (Part F))). HasName ks name) (same.parts table) has)),
    );
  }

  pub greatest_same : GreatestAreShown old names → GreatestAreShown new names
  greatest_same s = λ table name has greatest. s table name (subst (λ (ks : List (Kept (Part F))). HasName ks name) (same.parts table) has) greatest

-- ---- a table more

module _ {F : Type 0} (old : CoreStore F) (table : List ℕ) (word : IsTrue (is_table table)) (names : Names) (files : Files) (s : AreShown old names) where
  pub shown_made : (new : CoreStore F) (schema : Schema) → EntersTable table schema old new → AreShown new (with_name names (create_name table) files)
  shown_made new schema a = record {
    read = read_with (root.Create table) s.read;
    are = are_read (root.Create table) word names files s.read s.are;
    parts = λ u name. (
      (λ visible. subst (λ (ks : List (Kept (Part F))). HasName ks name) (sym (same u)) ((s.parts u name).0 (table_shows_none s.read table (part_called u name) visible))),
      (λ has. table_hides_none s.read table (part_called u name) ((s.parts u name).1 (subst (λ (ks : List (Kept (Part F))). HasName ks name) (same u) has))),
    );
  }
    where
      same : (u : List ℕ) → parts_of new.set u ≡ parts_of old.set u
      same u = ap (λ (x : PartSet (Part F)). parts_of x u) a.set_is

  pub greatest_made : GreatestAreShown old (with_name names (create_name table) files)
  greatest_made = λ u name has greatest.
      own_level (with_name names (create_name table) files) u name (record {
        read = read_with (root.Create table) s.read;
        are = are_read (root.Create table) word names files s.read s.are;
        visible = table_hides_none s.read table (part_called u name) ((s.parts u name).1 has);
      })

-- ---- a part more

-- the parts of a table that are among names which fit a store end by the number that was drawn last
pub ends_fit : {F : Type 0} (store : CoreStore F) (told : Told) (read : List RootName) → NamesFit store told → AreNamesRead (names_of told) read → (table : List ℕ) (t : Table) → table_at store table ≡ Some t
    → (part : TablePart) → HasPart read part → part.table ≡ table → part.name.max_block ≤ t.drawn
ends_fit {F} store told read fit are table t at part here own =
    let text = root_text (root.Part part) in
    let there : HasItem (keys_of (names_of told)) text = subst (λ (ks : List (List ℕ)). HasItem ks text) are.spelled (map_item root_text read (root.Part part) here) in
    by (All-contains (IsNameUnder store) (keys_of (names_of told)) text fit there)
  where
    named : IsPartName part.name
    named = (All-contains IsRootName read (root.Part part) are.sound here).1

    of : (under : IsNameUnder store (part_name part.table (part_text part.name)))
        → (part_name part.table (part_text part.name) ≡ create_name under.table) ⊎ ((p : PartName) × IsPartName p × (p.max_block ≤ under.kept.drawn) × (part_name part.table (part_text part.name) ≡ part_name under.table (part_text p)))
        → part.name.max_block ≤ t.drawn
    of under (inl entry) = absurd (entry_is_no_part under.table part.table part.name named (sym entry))
    of under (inr p) =
        let differ = parts_differ part.table under.table part.name p.0 named p.1 p.3 in
        let kept : t ≡ under.kept = one_some (table_at store table) t under.kept at (subst (λ (u : List ℕ). table_at store u ≡ Some under.kept) (sym differ.0 ∙ own) under.there) in
        let drawn : t.drawn ≡ under.kept.drawn = ap (λ (x : Table). x.drawn) kept in
        let block : part.name.max_block ≡ p.0.max_block = ap (λ (x : PartName). x.max_block) differ.1 in
        let low = p.2 in
        omega (arith, drawn, block, low)

    by : IsNameUnder store (part_name part.table (part_text part.name)) → part.name.max_block ≤ t.drawn
    by under = of under under.is

module _ {F : Type 0} (old : CoreStore F) (table : List ℕ) (partition : Partition) (n : ℕ) (names : Names) (files : Files) (s : AreShown old names) where
  abbrev fresh : PartName
  fresh = fresh_part partition (n + 1)

  abbrev new_part : TablePart
  new_part = part_called table fresh

  module _ (named : IsRootName (root.Part new_part)) (ends : (part : TablePart) → HasPart s.read part → part.table ≡ table → part.name.max_block ≤ n) where
    are : AreNamesRead (with_name names (part_name table (part_text fresh)) files) (names_with s.read new_part)
    are = are_read (root.Part new_part) named names files s.read s.are

    still : (part : TablePart) → IsVisible s.read part → IsVisible (names_with s.read new_part) part
    still part visible = still_visible s.read new_part part visible (covers_none s.read s.are.sound new_part n (omega arith) (omega arith) ends part visible.here)

    pub greatest_added : GreatestAreShown old (with_name names (part_name table (part_text fresh)) files)
    greatest_added = λ u name has greatest.
        own_level (with_name names (part_name table (part_text fresh)) files) u name
        (record { read = names_with s.read new_part; are = are; visible = still (part_called u name) ((s.parts u name).1 has) })

    module _ (new : CoreStore F) (part : Part F) (t : Table) (drawn : t.drawn ≡ n) (a : EntersPart table partition part t old new) where
      abbrev kept : Kept (Part F)
      kept = record { name = fresh_part partition (t.drawn + 1); part = part; busy = false }

      kept_is : kept.name ≡ fresh
      kept_is = ap (λ (k : ℕ). fresh_part partition (k + 1)) drawn

      abbrev name_of : Kept (Part F) → PartName
      name_of k = k.name

      named_now : (name : PartName) → HasName (parts_of new.set table) name → HasName (parts_of old.set table) name ⊎ (fresh ≡ name)
      named_now name has =
          let found = mapped name_of (parts_of new.set table) name has in
          elim (item_cases (parts_of old.set table) a.added.place kept found.0 (subst (λ (ks : List (Kept (Part F))). HasItem ks found.0) a.added.is found.1)) [
            | inl before ↦ inl (subst (HasName (parts_of old.set table)) found.2 (map_item name_of (parts_of old.set table) found.0 before))
            | inr same ↦ inr (sym kept_is ∙ (ap name_of same ∙ found.2))
          ]

      named_still : (name : PartName) → HasName (parts_of old.set table) name → HasName (parts_of new.set table) name
      named_still name has =
          let found = mapped name_of (parts_of old.set table) name has in
          let there = subst (λ (ks : List (Kept (Part F))). HasItem ks found.0) (sym a.added.is) (item_kept (parts_of old.set table) a.added.place kept found.0 found.1) in
          subst (HasName (parts_of new.set table)) found.2 (map_item name_of (parts_of new.set table) found.0 there)

      named_fresh : HasName (parts_of new.set table) fresh
      named_fresh =
          let there = subst (λ (ks : List (Kept (Part F))). HasItem ks kept) (sym a.added.is) (item_new (parts_of old.set table) a.added.place kept) in
          subst (HasName (parts_of new.set table)) kept_is (map_item name_of (parts_of new.set table) kept there)

      apart : (u : List ℕ) → same_bytes table u ≡ false → u ≢ table
      apart u differ same = let yes : same_bytes table u ≡ true = ap (same_bytes table) same ∙ itself_same table in false≢true (sym differ ∙ yes)

      kept_on : (u : List ℕ) (name : PartName) → HasName (parts_of old.set u) name → HasName (parts_of new.set u) name
      kept_on u name has = elim (true_or_false (same_bytes table u)) [
        | inl here ↦ (let same = same_is table u here in subst (λ (v : List ℕ). HasName (parts_of new.set v) name) same (named_still name (subst (λ (v : List ℕ). HasName (parts_of old.set v) name) (sym same) has)))
        | inr other ↦ subst (λ (ks : List (Kept (Part F))). HasName ks name) (sym (a.others u (apart u other))) has
      ]

      to : (u : List ℕ) (name : PartName) → IsVisible (names_with s.read new_part) (part_called u name) → HasName (parts_of new.set u) name
      to u name visible = elim (part_or_new s.read new_part (part_called u name) visible.here) [
        | inl before ↦ kept_on u name ((s.parts u name).0 (was_visible s.read new_part (part_called u name) before visible))
        | inr same ↦ subst (λ (p : TablePart). HasName (parts_of new.set p.table) p.name) same named_fresh
      ]

      from : (u : List ℕ) (name : PartName) → HasName (parts_of new.set u) name → IsVisible (names_with s.read new_part) (part_called u name)
      from u name has = elim (true_or_false (same_bytes table u)) [
        | inl here ↦ (
            let same = same_is table u here in
            elim (named_now name (subst (λ (v : List ℕ). HasName (parts_of new.set v) name) (sym same) has)) [
              | inl before ↦ still (part_called u name) ((s.parts u name).1 (subst (λ (v : List ℕ). HasName (parts_of old.set v) name) same before))
              | inr is ↦ subst (IsVisible (names_with s.read new_part)) (λ i. part_called (same i) (is i))
                  (new_visible s.read new_part (none_covers s.read s.are.sound new_part n (omega arith) (omega arith) ends) (new_read (root.Part new_part) named s.read s.are.sound))
            ])
        | inr other ↦ still (part_called u name) ((s.parts u name).1 (subst (λ (ks : List (Kept (Part F))). HasName ks name) (a.others u (apart u other)) has))
      ]

      pub shown_added : AreShown new (with_name names (part_name table (part_text fresh)) files)
      shown_added = record { read = names_with s.read new_part; are = are; parts = λ u name. (to u name, from u name) }
