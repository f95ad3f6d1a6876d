-- A store whose parts bear other marks.
use Rattle.std.proofs.Common.{◌≡◌, ◌≢◌, ℕ, ◌≤◌, Bool, true, false, cond, List, [], ◌∷◌, ◌++◌, Option, length, map, refl, sym, ap, ap₂, ◌∙◌, subst, arith, inl, inr}
use Rattle.std.proofs.lemmas.Bool.{false≢true}
use Rattle.std.proofs.lemmas.List.Elements.{All-from_recursion, recursion_from_All}
use Rattle.std.specs.BTreeMap.{is_at}
use Rattle.std.specs.Cmp.Lexicographic.{slice_cmp}
use Rattle.std.specs.List.{All, AllByRecursion, AllZip, Contains as HasItem, list_any}
use Rattle.std.specs.Map.{lookup}
use Rattle.std.specs.Option.{option_map}
use Rattle.std.specs.Ordering.{nat_cmp}
use Rattle.mt_values.specs.Annals as keeper
use Rattle.mt_values.specs.Grammar.{same_bytes}
use Rattle.mt_values.specs.Tables.{MayHavePartition}
use Rattle.mt_values.specs.Values.{Row}
use Rattle.mt_outside.specs.Disk.{Names, Told, names_of}
use Rattle.mt_outside.specs.Files.{Files}
use Rattle.root_commits.specs.mt_model.History.{History}
use Rattle.root_commits.proofs.MtModelTables.{itself_same, same_is}
use Rattle.root_commits.specs.mutation_queue.declared.mutations.Mutations.{Mutations}
use Rattle.root_commits.specs.mutation_queue.Queue.{mutations_of}
use Rattle.root_commits.specs.part_name.declared.part.PartName.{PartName}
use Rattle.root_commits.specs.part_reader.declared.reading.Part.{Part}
use Rattle.root_commits.specs.part_reader.Parts.{PartHolds}
use Rattle.root_commits.specs.part_set.declared.kept.Kept.{Kept}
use Rattle.root_commits.specs.part_set.declared.run.Run.{Run}
use Rattle.root_commits.specs.part_set.Parts.{HasName, same_part}
use Rattle.root_commits.specs.part_set.Runs.{cleared, with_mark}
use Rattle.root_commits.specs.part_set.Sets.{parts_of}
use Rattle.root_commits.proofs.PartSetMaps.{true_or_false}
use Rattle.root_commits.specs.part_history.declared.part.CorePart.{CorePart}
use Rattle.root_commits.specs.part_history.Parts.{AreInBlockOrder, TableStands}
use Rattle.root_commits.specs.table_core.Core.{Core}
use Rattle.root_commits.specs.root_store.declared.store.CoreStore.{CoreStore}
use Rattle.root_commits.specs.root_store.declared.store.Table.{Table}
use Rattle.root_commits.specs.root_store.Cores.{ShowsCore}
use Rattle.root_commits.specs.durable_commit.Publications.{Storage}
use Rattle.root_commits.specs.root_store.Crashes.{KeepsThroughCrashes, entries_of}
use Rattle.root_commits.specs.root_store.Shown.{AreShown, GreatestAreShown, ImagesShow}
use Rattle.root_commits.specs.root_store.Soundness.{HasSoundParts, IsReady, IsSoundStore, NamesFit}
use Rattle.root_commits.specs.root_store.Stores.{CoreStands, core_parts, table_at}
use Rattle.root_commits.specs.Images.{LeavesOne}
use Rattle.root_commits.specs.Turns.{Root}
use Rattle.root_commits.proofs.PartSetClearing.{cleared_name}
use Rattle.shared_store.specs.declared.work.Work.{Work}
use Rattle.shared_store.specs.Works.{Clears, Marks, names_of_work}

-- ---- parts that differ in their marks alone

module _ {F : Type 0} where
  abbrev pub AreAlike : List (Kept (Part F)) → List (Kept (Part F)) → Type 0
  AreAlike [] [] = Unit {0}
  AreAlike [] (l ∷ ls) = ⊥
  AreAlike (k ∷ ks) [] = ⊥
  AreAlike (k ∷ ks) (l ∷ ls) = (l.name ≡ k.name) × (l.part ≡ k.part) × AreAlike ks ls

  pub alike_itself : (ks : List (Kept (Part F))) → AreAlike ks ks
  alike_itself [] = tt
  alike_itself (k ∷ ks) = (refl, refl, alike_itself ks)

  alike_marked : (busy : Bool) (ks back : List (Kept (Part F))) → AreAlike (ks ++ back) (map (with_mark busy) ks ++ back)
  alike_marked busy [] back = alike_itself back
  alike_marked busy (k ∷ ks) back = (refl, refl, alike_marked busy ks back)

  alike_run : (busy : Bool) (front ks back : List (Kept (Part F))) → AreAlike (front ++ (ks ++ back)) (front ++ (map (with_mark busy) ks ++ back))
  alike_run busy [] ks back = alike_marked busy ks back
  alike_run busy (k ∷ front) ks back = (refl, refl, alike_run busy front ks back)

  pub alike_names : (ks ls : List (Kept (Part F))) → AreAlike ks ls → map (λ (k : Kept (Part F)). k.name) ls ≡ map (λ (k : Kept (Part F)). k.name) ks
  alike_names [] [] same = refl
  alike_names [] (l ∷ ls) same = absurd same
  alike_names (k ∷ ks) [] same = absurd same
  alike_names (k ∷ ks) (l ∷ ls) same = ap₂ (λ (n : PartName) (ns : List PartName). n ∷ ns) same.0 (alike_names ks ls same.2)

  alike_hold : (R : Part F → List Row → Type 0) (ks ls : List (Kept (Part F))) (rows : List (List Row)) → AreAlike ks ls → AllZip (λ (k : Kept (Part F)) (r : List Row). R k.part r) ks rows → AllZip (λ (k : Kept (Part F)) (r : List Row). R k.part r) ls rows
  alike_hold R [] [] rows same hold = hold
  alike_hold R [] (l ∷ ls) rows same hold = absurd same
  alike_hold R (k ∷ ks) [] rows same hold = absurd same
  alike_hold R (k ∷ ks) (l ∷ ls) [] same hold = absurd hold
  alike_hold R (k ∷ ks) (l ∷ ls) (r ∷ rows) same hold = (subst (λ (p : Part F). R p r) (sym same.1) hold.0, alike_hold R ks ls rows same.2 hold.1)

  alike_core : (table : List ℕ) (ks ls : List (Kept (Part F))) (rows : List (List Row)) → AreAlike ks ls → core_parts table ls rows ≡ core_parts table ks rows
  alike_core table [] [] rows same = refl
  alike_core table [] (l ∷ ls) rows same = absurd same
  alike_core table (k ∷ ks) [] rows same = absurd same
  alike_core table (k ∷ ks) (l ∷ ls) [] same = refl
  alike_core table (k ∷ ks) (l ∷ ls) (r ∷ rows) same =
      ap₂ (λ (n : PartName) (ps : List CorePart). record { table = table; name = n; rows = r } ∷ ps) same.0 (alike_core table ks ls rows same.2)

  alike_by : (P : PartName → Type 0) (ks ls : List (Kept (Part F))) → AreAlike ks ls → AllByRecursion (λ (k : Kept (Part F)). P k.name) ks → AllByRecursion (λ (k : Kept (Part F)). P k.name) ls
  alike_by P [] [] same all = tt
  alike_by P [] (l ∷ ls) same all = absurd same
  alike_by P (k ∷ ks) [] same all = absurd same
  alike_by P (k ∷ ks) (l ∷ ls) same all = (subst P (sym same.0) all.0, alike_by P ks ls same.2 all.1)

  -- what holds of each name still does
  alike_all : (P : PartName → Type 0) (ks ls : List (Kept (Part F))) → AreAlike ks ls → All (λ (k : Kept (Part F)). P k.name) ks → All (λ (k : Kept (Part F)). P k.name) ls
  alike_all P ks ls same all = All-from_recursion (λ (k : Kept (Part F)). P k.name) ls (alike_by P ks ls same (recursion_from_All (λ (k : Kept (Part F)). P k.name) ks all))

  alike_part_by : (P : Part F → Type 0) (ks ls : List (Kept (Part F))) → AreAlike ks ls → AllByRecursion (λ (k : Kept (Part F)). P k.part) ks → AllByRecursion (λ (k : Kept (Part F)). P k.part) ls
  alike_part_by P [] [] same all = tt
  alike_part_by P [] (l ∷ ls) same all = absurd same
  alike_part_by P (k ∷ ks) [] same all = absurd same
  alike_part_by P (k ∷ ks) (l ∷ ls) same all = (subst P (sym same.1) all.0, alike_part_by P ks ls same.2 all.1)

  -- and of each part
  alike_parts : (P : Part F → Type 0) (ks ls : List (Kept (Part F))) → AreAlike ks ls → All (λ (k : Kept (Part F)). P k.part) ks → All (λ (k : Kept (Part F)). P k.part) ls
  alike_parts P ks ls same all = All-from_recursion (λ (k : Kept (Part F)). P k.part) ls (alike_part_by P ks ls same (recursion_from_All (λ (k : Kept (Part F)). P k.part) ks all))

  -- ---- stores that differ so

  pub record StoresAlike (old new : CoreStore F) : Type 0 where
    pub parts : (u : List ℕ) → AreAlike (parts_of old.set u) (parts_of new.set u)
    pub tables : new.tables.entries ≡ old.tables.entries
    pub mutations_are : new.mutations ≡ old.mutations
    pub length_is : new.length ≡ old.length
    pub opened_is : new.opened ≡ old.opened

  pub marked_alike : (work : Work F) (run : Run) (old new : CoreStore F) → Marks work run old new → StoresAlike old new
  marked_alike work run old new m = record {
    parts = λ u. elim (true_or_false (same_bytes work.table u)) [
      | inl same ↦ subst (λ (v : List ℕ). AreAlike (parts_of old.set v) (parts_of new.set v)) (same_is work.table u same) here
      | inr differ ↦ subst (AreAlike (parts_of old.set u)) (sym (m.others u (other u differ))) (alike_itself (parts_of old.set u))
    ];
    tables = m.tables;
    mutations_are = m.mutations_are;
    length_is = m.length_is;
    opened_is = m.opened_is;
  }
    where
      other : (u : List ℕ) → same_bytes work.table u ≡ false → u ≢ work.table
      other u differ same = let yes : same_bytes work.table u ≡ true = ap (same_bytes work.table) same ∙ itself_same work.table in false≢true (sym differ ∙ yes)

      here : AreAlike (parts_of old.set work.table) (parts_of new.set work.table)
      here =
          let x = m.marked in
          let same = alike_run true x.front _ x.back in
          subst (λ (ks : List (Kept (Part F))). AreAlike ks (parts_of new.set work.table)) (sym x.before_is) (subst (AreAlike _) (sym x.after_is) same)

  -- marks that are taken away by names
  alike_cleared : (names : List PartName) (ks : List (Kept (Part F))) → AreAlike ks (map (cleared names) ks)
  alike_cleared names [] = tt
  alike_cleared names (k ∷ ks) = (cleared_name names k, by (list_any (same_part k.name) names), alike_cleared names ks)
    where
      by : (b : Bool) → (cond b (with_mark false k) k).part ≡ k.part
      by true = refl
      by false = refl

  pub cleared_alike : (work : Work F) (was now : Root F) → Clears work was now → StoresAlike was.store now.store
  cleared_alike work was now c = record {
    parts = λ u. elim (true_or_false (same_bytes work.table u)) [
      | inl same ↦ subst (λ (v : List ℕ). AreAlike (parts_of was.store.set v) (parts_of now.store.set v)) (same_is work.table u same)
          (subst (AreAlike (parts_of was.store.set work.table)) (sym c.cleared_are) (alike_cleared (names_of_work work) (parts_of was.store.set work.table)))
      | inr differ ↦ subst (AreAlike (parts_of was.store.set u)) (sym (c.others u (other u differ))) (alike_itself (parts_of was.store.set u))
    ];
    tables = c.tables;
    mutations_are = c.mutations_are;
    length_is = c.length_is;
    opened_is = c.opened_is;
  }
    where
      other : (u : List ℕ) → same_bytes work.table u ≡ false → u ≢ work.table
      other u differ same = let yes : same_bytes work.table u ≡ true = ap (same_bytes work.table) same ∙ itself_same work.table in false≢true (sym differ ∙ yes)

  module _ (old new : CoreStore F) (s : StoresAlike old new) where
    pub here : (u : List ℕ) → table_at new u ≡ table_at old u
    here u = ap (λ (es : List (List ℕ × Table)). lookup (is_at (slice_cmp nat_cmp u)) es) s.tables

    named : (u : List ℕ) (n : PartName) → HasName (parts_of new.set u) n → HasName (parts_of old.set u) n
    named u n has = subst (λ (ns : List PartName). HasItem ns n) (alike_names (parts_of old.set u) (parts_of new.set u) (s.parts u)) has

    named_back : (u : List ℕ) (n : PartName) → HasName (parts_of old.set u) n → HasName (parts_of new.set u) n
    named_back u n has = subst (λ (ns : List PartName). HasItem ns n) (sym (alike_names (parts_of old.set u) (parts_of new.set u) (s.parts u))) has

    none_more : (u : List ℕ) → parts_of old.set u ≡ [] → parts_of new.set u ≡ []
    none_more u none = by (parts_of new.set u) (subst (λ (ks : List (Kept (Part F))). AreAlike ks (parts_of new.set u)) none (s.parts u))
      where
        by : (ls : List (Kept (Part F))) → AreAlike [] ls → ls ≡ []
        by [] same = refl
        by (l ∷ ls) same = absurd same

    -- the visible parts
    pub shown_alike : (names : Names) → AreShown old names → AreShown new names
    shown_alike names x = record { read = x.read; are = x.are; parts = λ u n. ((λ visible. named_back u n ((x.parts u n).0 visible)), (λ has. (x.parts u n).1 (named u n has))) }

    pub greatest_alike : (names : Names) → GreatestAreShown old names → GreatestAreShown new names
    greatest_alike names x = λ u n has greatest. x u n (named u n has) greatest

    pub images_alike : (disk : Option Told) (clock : ℕ) → ImagesShow disk clock old → ImagesShow disk clock new
    images_alike disk clock x = λ told is names image. shown_alike names (x told is names image)

    -- what the store stands for
    module _ (files_of : F → Option Files) where
      pub stands_alike : (h : History) → CoreStands files_of h old → CoreStands files_of h new
      stands_alike h x = record {
        legal = x.legal;
        length_is = s.length_is ∙ x.length_is;
        tables = λ u. ap (option_map (λ (t : Table). t.schema)) (here u) ∙ x.tables u;
        count = ap length s.tables ∙ x.count;
        drawn = λ u t at. x.drawn u t (sym (here u) ∙ at);
        parts = λ u t at.
            let p = x.parts u t (sym (here u) ∙ at) in
            let core = sym (alike_core u (parts_of old.set u) (parts_of new.set u) p.rows (s.parts u)) in
            record {
              rows = p.rows;
              hold = alike_hold (PartHolds files_of t.schema) (parts_of old.set u) (parts_of new.set u) p.rows (s.parts u) p.hold;
              stand = subst (λ (ps : List CorePart). TableStands u ps h) core p.stand;
              order = subst AreInBlockOrder core p.order;
            };
        no_other = λ u none. none_more u (x.no_other u (sym (here u) ∙ none));
        mutations = λ u. ap (λ (queue : Mutations). mutations_of queue u) s.mutations_are ∙ x.mutations u;
        unaltered = x.unaltered;
      }

      pub held_alike : HasSoundParts files_of old → HasSoundParts files_of new
      held_alike held = λ u t at.
          alike_parts (λ (p : Part F). (rows : List Row) × PartHolds files_of t.schema p rows) (parts_of old.set u) (parts_of new.set u) (s.parts u) (held u t (sym (here u) ∙ at))

      pub shows_alike : (core : Core) → ShowsCore files_of old core → ShowsCore files_of new core
      shows_alike core x = record {
        stands = stands_alike core.history x.stands;
        parts = λ u t at.
            let p = x.parts u t (sym (here u) ∙ at) in
            record {
              rows = p.rows;
              hold = alike_hold (PartHolds files_of t.schema) (parts_of old.set u) (parts_of new.set u) p.rows (s.parts u) p.hold;
              same = p.same ∙ sym (alike_core u (parts_of old.set u) (parts_of new.set u) p.rows (s.parts u));
            };
        no_other = λ u none. x.no_other u (sym (here u) ∙ none);
      }

      pub keeps_alike : (now : Storage) (first : keeper.Told) (start : ℕ) → KeepsThroughCrashes files_of old now first start → KeepsThroughCrashes files_of new now first start
      keeps_alike now first start x = record {
        safe = x.safe;
        calm = λ is.
            let before = x.calm (is ∙ s.opened_is) in (
              before.0,
              (λ kept there. stands_alike (entries_of kept.list) (before.1 kept there)),
              images_alike now.disk now.clock before.2,
            );
      }

    -- what a crash leaves of the disk
    pub leaves_alike : (now : Storage) (h : History) → LeavesOne (record { store = old; storage = now }) h → LeavesOne (record { store = new; storage = now }) h
    leaves_alike now h x = record { told = x.told; disk_is = x.disk_is; all = x.all; shown = λ names image. shown_alike names (x.shown names image) }

    -- whether turns may follow
    sound_alike : IsSoundStore old → IsSoundStore new
    sound_alike x = record {
      tables = λ u t at.
          let p = x.tables u t (sym (here u) ∙ at) in
          let ks = parts_of old.set u in
          let ls = parts_of new.set u in
          record {
            named = p.named;
            schema = p.schema;
            ends = alike_all (λ (n : PartName). n.max_block ≤ t.drawn) ks ls (s.parts u) p.ends;
            may = alike_all (λ (n : PartName). MayHavePartition t.schema n.partition) ks ls (s.parts u) p.may;
            order = alike_all (λ (n : PartName). n.min_block ≤ n.max_block) ks ls (s.parts u) p.order;
          };
      no_other = λ u none. none_more u (x.no_other u (sym (here u) ∙ none));
      mutations = λ u. ap (λ (queue : Mutations). mutations_of queue u) s.mutations_are ∙ x.mutations u;
    }

    fits_alike : (told : Told) → NamesFit old told → NamesFit new told
    fits_alike told fit = λ k d inside. let one = fit k d inside in record { table = one.table; kept = one.kept; there = here one.table ∙ one.there; is = one.is }

    pub ready_alike : (failed : ℕ) (told : Option Told) → IsReady failed told old → IsReady failed told new
    ready_alike failed told x =
        let opened = s.opened_is in
        let low = x.opened in
        let below = x.below in
        record {
          names = λ is t there. fits_alike t (x.names (is ∙ s.opened_is) t there);
          shown = λ is t there. shown_alike (names_of t) (x.shown (is ∙ s.opened_is) t there);
          greatest = λ t there. greatest_alike (names_of t) (x.greatest t there);
          sound = sound_alike x.sound;
          opened = omega (arith, opened, low);
          below = omega (arith, opened, below);
        }
