-- A store with one part in place of those that were merged is ready for the next turn, and its parts hold rows.
use Rattle.std.proofs.Common.{◌≡◌, ◌≢◌, ℕ, ◌-◌, ◌≤◌, true, false, List, [], ◌∷◌, ◌++◌, Option, Some, None, length, get_or, refl, sym, ap, ◌∙◌, subst, arith, inl, inr}
use Rattle.std.proofs.lemmas.Bool.{false≢true}
use Rattle.std.proofs.lemmas.List.Elements.{All-append, All-cons, All-contains, Contains-append_left, Contains-append_right, Contains-get_or}
use Rattle.std.specs.BTreeMap.{BTreeMap, get}
use Rattle.std.specs.Cmp.Lexicographic.{slice_cmp}
use Rattle.std.specs.List.{All, Contains as HasItem}
use Rattle.std.specs.Option.{ForSome}
use Rattle.std.specs.Ordering.{nat_cmp}
use Rattle.std.proofs.lemmas.Option.{get_or_from_slice_get, slice_get_within}
use Rattle.mt_values.specs.declared.schema.Schema.{Schema}
use Rattle.mt_values.specs.Grammar.{same_bytes}
use Rattle.mt_values.specs.RootNames.{part_name}
use Rattle.mt_values.specs.Tables.{MayHavePartition}
use Rattle.mt_outside.specs.Disk.{Told, names_of, put}
use Rattle.mt_outside.specs.Files.{Files}
use Rattle.root_store.proofs.MtModelTables.{itself_same, same_is}
use Rattle.root_store.specs.part_name.declared.part.PartName.{PartName}
use Rattle.root_store.specs.part_name.PartNames.{part_text}
use Rattle.root_store.specs.part_reader.declared.reading.Part.{Part}
use Rattle.root_store.proofs.PartReaderHolding.{written_holds}
use Rattle.root_store.specs.part_set.declared.kept.Kept.{Kept}
use Rattle.root_store.specs.part_set.Parts.{IsInBlockOrder, kept_in}
use Rattle.root_store.specs.part_set.Runs.{EndsInOrder}
use Rattle.root_store.specs.part_set.Sets.{parts_of}
use Rattle.root_store.proofs.PartSetMaps.{true_or_false}
use Rattle.root_store.specs.durable_commit.declared.causes.Refused.{Refused}
use Rattle.root_store.specs.durable_commit.Publications.{IsPublished, IsUnsettled, Storage}
use Rattle.root_store.specs.declared.store.CoreStore.{CoreStore}
use Rattle.root_store.specs.declared.store.Table.{Table}
use Rattle.root_store.specs.Shown.{AreShown, GreatestAreShown}
use Rattle.root_store.specs.Soundness.{HasSoundParts, HoldsRows, IsNameUnder, IsReady, IsSoundStore, IsSoundTable, NamesFit}
use Rattle.root_store.specs.Stores.{table_at}
use Rattle.root_store.proofs.Showing.{greatest_shown}
use Rattle.root_commits.specs.Commits.{SameStore}
use Rattle.root_commits.specs.Merges.{EntersMerge, Merging, SealsRows, name_of_merge, sources_of}
use Rattle.root_commits.specs.Publications.{publication_of_merge}
use Rattle.root_commits.proofs.FreeNames.{fits_more}
use Rattle.root_commits.proofs.MergedNames.{first_of, run_spans, run_within, source_there}
use Rattle.root_commits.proofs.MergedShown.{greatest_merged, merged_word, shown_merged}
use Rattle.root_commits.proofs.Shown.{after_doubt, after_put}
use Rattle.root_commits.proofs.Sounding.{ready_kept}
use Rattle.root_commits.proofs.SameStores.{no_mutation}

-- ---- the table of a run is there

not_none : {X : Type 0} (o : Option X) → (o ≡ None → ⊥) → (x : X) × (o ≡ Some x)
not_none None none = absurd (none refl)
not_none (Some x) none = (x, refl)

item_of_none : {X : Type 0} (xs : List X) (x : X) → xs ≡ [] → HasItem xs x → ⊥
item_of_none {X = X} xs x none has = let here = subst (λ (ys : List X). HasItem ys x) none has in omega (arith, here.1)

pub table_of_run : {F : Type 0} (store : CoreStore F) (m : Merging) → IsSoundStore store → (k : Kept (Part F)) → HasItem (parts_of store.set m.table) k → (t : Table) × (table_at store m.table ≡ Some t)
table_of_run store m sound k has = not_none (table_at store m.table) (λ none. item_of_none (parts_of store.set m.table) k (sound.no_other m.table none) has)

-- ---- the store

module _ {F : Type 0} {files_of : F → Option Files} (old new : CoreStore F) (m : Merging) (ordered : IsInBlockOrder (kept_in m.partition (parts_of old.set m.table))) (sound : IsSoundStore old)
    (fit : All EndsInOrder (parts_of old.set m.table)) (name : PartName) (name_is : name_of_merge (sources_of old m) ≡ Some name) (a : EntersMerge files_of m name old new) where
  abbrev parts : List (Kept (Part F))
  parts = parts_of old.set m.table

  abbrev sources : List (Kept (Part F))
  sources = sources_of old m

  abbrev kept : Kept (Part F)
  kept = record { name = name; part = a.part; busy = false }

  abbrev one : Kept (Part F)
  one = (first_of sources name name_is).0

  one_source : HasItem sources one
  one_source = (first_of sources name name_is).1

  one_there : HasItem parts one
  one_there = source_there parts m.partition m.run ordered fit name name_is one one_source

  -- what holds of each part and of the new one holds of each then
  pub all_swapped : (Q : Kept (Part F) → Type 0) → All Q parts → Q kept → All Q (parts_of new.set m.table)
  all_swapped Q all new_one =
      let x = a.swapped in
      let of = λ (k : Kept (Part F)) (has : HasItem (x.front ++ (sources ++ x.back)) k). All-contains Q parts k all (subst (λ (ks : List (Kept (Part F))). HasItem ks k) (sym x.before_is) has) in
      subst (All Q) (sym x.after_is)
      (All-append Q x.front (kept ∷ x.back) (λ i d inside. of (get_or x.front i d) (Contains-append_left x.front (sources ++ x.back) (get_or x.front i d) (Contains-get_or x.front i d inside)))
      (All-cons Q kept x.back new_one (λ i d inside. of (get_or x.back i d) (Contains-append_right x.front (sources ++ x.back) (get_or x.back i d) (Contains-append_right sources x.back (get_or x.back i d) (Contains-get_or x.back i d inside))))))

  other : (u : List ℕ) → same_bytes m.table u ≡ false → u ≢ m.table
  other u differ same = let yes : same_bytes m.table u ≡ true = ap (same_bytes m.table) same ∙ itself_same m.table in false≢true (sym differ ∙ yes)

  pub here : (u : List ℕ) → table_at new u ≡ table_at old u
  here u = ap (λ (ts : BTreeMap (List ℕ) Table). get (slice_cmp nat_cmp) ts u) a.tables_are

  -- the new part ends by the number that was drawn last
  pub ends_by : (n : ℕ) → All (λ (k : Kept (Part F)). k.name.max_block ≤ n) parts → name.max_block ≤ n
  ends_by n ends =
      let spans = run_spans parts m.partition m.run ordered fit name name_is in
      let has : HasItem sources spans.last = (length sources - 1, slice_get_within sources (length sources - 1) spans.last spans.last_is, get_or_from_slice_get sources (length sources - 1) spans.last spans.last spans.last_is) in
      let last = All-contains (λ (k : Kept (Part F)). k.name.max_block ≤ n) parts spans.last ends (source_there parts m.partition m.run ordered fit name name_is spans.last has) in
      let is = spans.ends in
      omega (arith, last, is)

  -- begins no later than it ends
  rises : name.min_block ≤ name.max_block
  rises =
      let within = (run_within parts m.partition m.run ordered fit name name_is one one_source).0 in
      let low = within.min_block in
      let high = within.max_block in
      let own = All-contains EndsInOrder parts one fit one_there in
      omega (arith, low, high, own)

  -- and is of a partition that the table may have
  may_have : (schema : Schema) → All (λ (k : Kept (Part F)). MayHavePartition schema k.name.partition) parts → MayHavePartition schema name.partition
  may_have schema may =
      let own = (run_within parts m.partition m.run ordered fit name name_is one one_source).0.partition in
      subst (MayHavePartition schema) (sym own) (All-contains (λ (k : Kept (Part F)). MayHavePartition schema k.name.partition) parts one may one_there)

  swapped_table : (t : Table) → IsSoundTable old m.table t → IsSoundTable new m.table t
  swapped_table t s = record {
    named = s.named;
    schema = s.schema;
    ends = all_swapped (λ (k : Kept (Part F)). k.name.max_block ≤ t.drawn) s.ends (ends_by t.drawn s.ends);
    may = all_swapped (λ (k : Kept (Part F)). MayHavePartition t.schema k.name.partition) s.may (may_have t.schema s.may);
    order = all_swapped (λ (k : Kept (Part F)). k.name.min_block ≤ k.name.max_block) s.order rises;
  }

  kept_table : (u : List ℕ) (t : Table) → parts_of new.set u ≡ parts_of old.set u → IsSoundTable old u t → IsSoundTable new u t
  kept_table u t same s = record {
    named = s.named;
    schema = s.schema;
    ends = subst (All (λ (k : Kept (Part F)). k.name.max_block ≤ t.drawn)) (sym same) s.ends;
    may = subst (All (λ (k : Kept (Part F)). MayHavePartition t.schema k.name.partition)) (sym same) s.may;
    order = subst (All (λ (k : Kept (Part F)). k.name.min_block ≤ k.name.max_block)) (sym same) s.order;
  }

  none_at : (u : List ℕ) → table_at old u ≡ None → parts_of new.set u ≡ []
  none_at u none = elim (true_or_false (same_bytes m.table u)) [
    | inl same ↦ absurd (item_of_none parts one (sound.no_other m.table (ap (table_at old) (same_is m.table u same) ∙ none)) one_there)
    | inr differ ↦ a.others u (other u differ) ∙ sound.no_other u none
  ]

  pub sound_merged : IsSoundStore new
  sound_merged = record {
    tables = λ u t at. elim (true_or_false (same_bytes m.table u)) [
      | inl same ↦ (
          let is = same_is m.table u same in
          subst (λ (v : List ℕ). IsSoundTable new v t) is (swapped_table t (sound.tables m.table t (ap (table_at old) is ∙ (sym (here u) ∙ at)))))
      | inr differ ↦ kept_table u t (a.others u (other u differ)) (sound.tables u t (sym (here u) ∙ at))
    ];
    no_other = λ u none. none_at u (sym (here u) ∙ none);
    mutations = no_mutation old new a.mutations_are sound.mutations;
  }

  -- a name under the old store is one under the new
  under : (n : List ℕ) → IsNameUnder old n → IsNameUnder new n
  under n u = record { table = u.table; kept = u.kept; there = here u.table ∙ u.there; is = u.is }

  -- ---- the root

  module _ (low : name.level ≤ 4294967295) (was now : Storage) (calm : was.failed ≡ old.opened) (ready : IsReady was.failed was.disk old) (d : IsPublished (publication_of_merge m name) was now) where
    table : (t : Table) × (table_at old m.table ≡ Some t)
    table = table_of_run old m sound one one_there

    fits : ForSome now.disk (NamesFit new)
    fits = λ told is. fits_in told is
      where
        -- where the disk tells, the name is one of the grammar
        fits_in : (told : Told) → now.disk ≡ Some told → NamesFit new told
        fits_in told is = by was.disk refl
          where
            by : (o : Option Told) → was.disk ≡ o → NamesFit new told
            by None none = absurd (no_put m.files (sym is ∙ (d.root ∙ ap (put was.clock (part_name m.table (part_text name)) m.files) none)))
              where
                no_put : (files : Option Files) → Some told ≡ put was.clock (part_name m.table (part_text name)) files None → ⊥
                no_put None e = cc
                no_put (Some files) e = cc
            by (Some before) there =
                let shown = ready.shown calm before there in
                let word = merged_word old m ordered fit name name_is (names_of before) shown low in
                let ends = (sound.tables m.table table.0 table.1).ends in
                fits_more old new was.clock (part_name m.table (part_text name)) m.files was.disk now.disk under (record { table = m.table; kept = table.0; there = here m.table ∙ table.1; is = inr (name, word.1, ends_by table.0.drawn ends, refl) })
                (ready.names calm) d.root told is

    shown_now : ForSome now.disk (λ (t : Told). AreShown new (names_of t))
    shown_now =
        after_put (AreShown new) was.clock (part_name m.table (part_text name)) m.files was.disk now.disk
        (λ told fs is.
        let shown = ready.shown calm told is in
        shown_merged old m ordered fit name name_is (names_of told) shown (merged_word old m ordered fit name name_is (names_of told) shown low) fs new a) d.root

    pub ready_merged : IsReady now.failed now.disk new
    ready_merged =
        let opened = a.opened_is in
        let before = ready.opened in
        let below = ready.below in
        let later = d.later in
        record {
          names = λ _. fits;
          shown = λ _. shown_now;
          greatest = λ told is. greatest_shown new (names_of told) (shown_now told is);
          sound = sound_merged;
          opened = omega (arith, opened, before, later);
          below = omega (arith, opened, below);
        }

-- it was not settled: its name is there or not
pub ready_unsettled : {F : Type 0} (old new : CoreStore F) (m : Merging) (ordered : IsInBlockOrder (kept_in m.partition (parts_of old.set m.table))) (fit : All EndsInOrder (parts_of old.set m.table)) (name : PartName) → name_of_merge (sources_of old m) ≡ Some name
    → name.level ≤ 4294967295 → (cause : Refused) (was now : Storage) → was.failed ≡ old.opened → SameStore old new → IsUnsettled (publication_of_merge m name) cause was now → IsReady was.failed was.disk old → IsReady now.failed now.disk new
ready_unsettled old new m ordered fit name name_is low cause was now calm same d ready =
    ready_kept old new same was.failed now.failed was.disk now.disk cause d.later d.rose d.unchanged
    (after_doubt (GreatestAreShown old) was.clock (part_name m.table (part_text name)) m.files was.disk now.disk
    (λ told fs is.
    let shown = ready.shown calm told is in
    greatest_merged old m ordered fit name name_is (names_of told) shown (merged_word old m ordered fit name name_is (names_of told) shown low) fs low)
    ready.greatest d.root) ready

-- ---- the parts hold rows

module _ {F : Type 0} (files_of : F → Option Files) where
  -- with one part in place of those that were merged the parts hold rows still
  pub held_merged : (old new : CoreStore F) (m : Merging) (t : Table) → table_at old m.table ≡ Some t → (ordered : IsInBlockOrder (kept_in m.partition (parts_of old.set m.table))) → IsSoundStore old → (fit : All EndsInOrder (parts_of old.set m.table))
      → SealsRows t.schema m → (name : PartName) → (name_is : name_of_merge (sources_of old m) ≡ Some name) → (a : EntersMerge files_of m name old new) → HasSoundParts files_of old → HasSoundParts files_of new
  held_merged old new m t at ordered sound fit is name name_is a held = λ u x found. elim (true_or_false (same_bytes m.table u)) [
    | inl same ↦ (
        let it = same_is m.table u same in
        let one : t ≡ x = one_table t x (sym at ∙ (ap (table_at old) it ∙ (sym (here old new m ordered sound fit name name_is a u) ∙ found))) in
        subst (λ (v : List ℕ). All (HoldsRows files_of x.schema) (parts_of new.set v)) it
        (subst (λ (y : Table). All (HoldsRows files_of y.schema) (parts_of new.set m.table)) one
        (all_swapped old new m ordered sound fit name name_is a (HoldsRows files_of t.schema) (held m.table t at) new_holds)))
    | inr differ ↦ subst (All (HoldsRows files_of x.schema)) (sym (a.others u (other old new m ordered sound fit name name_is a u differ))) (held u x (sym (here old new m ordered sound fit name name_is a u) ∙ found))
  ]
    where
      one_table : (x y : Table) → Some x ≡ Some y → x ≡ y
      one_table x y same = cc

      new_holds : HoldsRows files_of t.schema (record { name = name; part = a.part; busy = false })
      new_holds = (is.rows, written_holds files_of t.schema a.part is.rows is.files (a.files_are ∙ is.sealed_are) (a.loaded_is ∙ is.loaded_is) is.holds)
