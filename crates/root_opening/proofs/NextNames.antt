-- The next of a root's names, and the store when all were gone over.
use Rattle.std.proofs.Common.{◌≡◌, ◌≢◌, ℕ, ◌+◌, ◌<◌, ◌≤◌, Bool, true, cond, List, [], ◌∷◌, ◌++◌, length, map, get_or, take, is_some, refl, sym, ap, ◌∙◌, subst, inl, inr, arith, Option, Some, None, All, false}
use Rattle.std.specs.BTreeMap.{IsOrdered, is_at}
use Rattle.std.specs.Cmp.Lexicographic.{slice_cmp}
use Rattle.std.specs.List.{Contains as HasItem, slice_get, sum_by}
use Rattle.std.specs.Option.{ForSome, IsSome, option_map}
use Rattle.std.specs.Ordering.{nat_cmp, ordering_then}
use Rattle.std.specs.declared.cmp.Ordering.TheVariants.{Less}
use Rattle.std.proofs.lemmas.Cmp.{nat_cmp_total, tied_itself}
use Rattle.std.proofs.lemmas.List.{get_or-map, get_or-take, length-map, length-take-le, take_more}
use Rattle.std.proofs.lemmas.List.Elements.{All-contains, All-nil, All-weaker}
use Rattle.std.proofs.lemmas.Option.{get_or_from_slice_get, slice_get-get_or}
use Rattle.mt_base.specs.declared.name.FileId.{FileId}
use Rattle.mt_values.specs.RootNames.{create_name, part_name}
use Rattle.mt_outside.specs.Disk.{Names, Told, files_at, names_of}
use Rattle.mt_outside.specs.Files.{Files}
use Rattle.root_store.specs.part_name.declared.part.PartName.{PartName}
use Rattle.root_store.specs.part_name.PartNames.{Meet, part_text}
use Rattle.root_store.specs.part_reader.declared.reading.Part.{Part}
use Rattle.root_store.specs.part_set.declared.kept.Kept.{Kept}
use Rattle.root_store.specs.part_set.declared.root_name.RootName.{RootName}
use Rattle.root_store.specs.part_set.declared.root_name.RootName.TheVariants as root
use Rattle.root_store.specs.part_set.declared.root_name.TablePart.{TablePart}
use Rattle.root_store.specs.part_set.Parts.{HasName, IsInBlockOrder, NoneMeets}
use Rattle.root_store.specs.part_set.RootNames.{IsRootName, root_text}
use Rattle.root_store.specs.part_set.Sets.{parts_of}
use Rattle.root_store.specs.part_set.Visible.{HasPart, HasTable, IsVisible}
use Rattle.root_store.proofs.PartSetItems.{item_none}
use Rattle.root_store.proofs.PartSetMaps.{true_or_false}
use Rattle.root_store.proofs.PartSetNamePlaces.{places_told}
use Rattle.root_store.proofs.PartSetOrphans.{same_itself, table_found}
use Rattle.root_store.proofs.PartSetVisibles.{table_there}
use Rattle.root_opening.specs.declared.steps.Root.{Root}
use Rattle.root_opening.specs.declared.opening.Damage.TheVariants as damage
use Rattle.root_opening.specs.declared.opening.OpenFault.{OpenFault}
use Rattle.root_opening.specs.declared.opening.OpenFault.TheVariants as fault
use Rattle.root_store.specs.declared.store.CoreStore.{CoreStore}
use Rattle.root_store.specs.declared.store.Table.{Table}
use Rattle.root_store.specs.Damage.{DamagedAt, IsDamaged}
use Rattle.root_opening.specs.Keeping.{IsNamedRoot, IsSeen, IsTextsOf, Keeps, KeepsTold, TellsFile}
use Rattle.root_opening.specs.Opening.{TellsDamage}
use Rattle.root_store.specs.Roots.{AreNamesRead}
use Rattle.root_store.specs.Soundness.{IsSoundStore}
use Rattle.root_store.specs.Stores.{CoreStands, StoreOf, table_at}
use Rattle.root_store.proofs.Items.{item_either, mapped}
use Rattle.root_store.proofs.Tabled.{never_below}

-- ---- texts

-- a name that is told has a folder
there_in : (names : Names) (text : List ℕ) → HasItem (map (λ (e : List ℕ × Files). e.0) names) text → IsSome (files_at text names)
there_in [] text has = absurd (item_none text has)
there_in (m ∷ names) text has = elim (true_or_false (is_at (slice_cmp nat_cmp text) m.0)) [
  | inl here ↦ ap (λ (b : Bool). is_some (cond b (Some m.1) (files_at text names))) here
  | inr other ↦ elim (item_either m.0 text (map (λ (e : List ℕ × Files). e.0) names) has) [
    | inl same ↦ (let itself : is_at (slice_cmp nat_cmp text) m.0 ≡ true = subst (λ (t : List ℕ). is_at (slice_cmp nat_cmp text) t ≡ true) (sym same) (same_itself text) in absurd cc)
    | inr more ↦ ap (λ (b : Bool). is_some (cond b (Some m.1) (files_at text names))) other ∙ there_in names text more
  ]
]

-- a table's own name stands below those of its parts
create_below : (t x : List ℕ) → slice_cmp nat_cmp (create_name t) (part_name t x) ≡ Less
create_below [] x = refl
create_below (y ∷ t) x = ap (λ o. ordering_then o (slice_cmp nat_cmp (create_name t) (part_name t x))) (tied_itself nat_cmp_total y) ∙ create_below t x

-- what a place holds, by another word for it
pub name_at : {X : Type 0} (xs : List X) (place : ℕ) (x y : X) → x ≡ get_or xs place x → x ≡ y → y ≡ get_or xs place y
name_at {X} xs place x y at is = subst (λ (z : X). z ≡ get_or xs place z) is at

-- a front of a list, with the next element
pub next_front : {X : Type 0} (xs : List X) (place : ℕ) (x : X) → place < length xs → x ≡ get_or xs place x → take place xs ++ x ∷ [] ≡ take (place + 1) xs
next_front {X} xs place x inside is = sym (take_more xs place x inside ∙ ap (λ (y : X). take place xs ++ y ∷ []) (sym is))

-- ---- visible parts

module _ (r : Root) (named : IsNamedRoot r) (place : ℕ) (inside : place < length r.names.items) where
  long : length r.texts.items ≡ length r.names.items
  long = ap length (sym named.are.spelled) ∙ length-map r.names.items root_text

  pub place_told : place < length r.texts.items
  place_told = omega (arith, long)

  module _ (name : RootName) (is : name ≡ get_or r.names.items place name) where
    at_place : slice_get r.names.items place ≡ Some name
    at_place = slice_get-get_or r.names.items place name inside ∙ ap Some (sym is)

    -- the text at a place is that of the name there
    pub spelled : (text : List ℕ) → text ≡ get_or r.texts.items place text → text ≡ root_text name
    spelled text told =
        told ∙ (ap (λ (ts : List (List ℕ)). get_or ts place text) (sym named.are.spelled) ∙ (get_or-map root_text r.names.items place name text inside ∙ ap root_text (sym is)))

    -- the name is not before its place
    pub never_twice : HasItem (take place r.names.items) name → ⊥
    never_twice has =
        let front : has.0 < place = omega (arith, has.1, length-take-le place r.names.items (omega arith)) in
        let same : get_or r.names.items has.0 name ≡ name = sym (get_or-take place r.names.items has.0 name front) ∙ has.2 in
        let earlier : slice_get r.names.items has.0 ≡ Some name = slice_get-get_or r.names.items has.0 name (omega arith) ∙ ap Some same in
        never_below (root_text name) (root_text name) refl ((places_told r.names.items has.0 place name name named.rise earlier at_place).0 front)

  -- a name at a place is told by the disk, where it tells
  pub text_there : (told : Option Told) (text : List ℕ) → ForSome told (IsTextsOf r) → text ≡ get_or r.texts.items place text → ForSome told (λ t. IsSome (files_at text (names_of t)))
  text_there told text listed is = λ t known. there_in (names_of t) text (subst (λ (ts : List (List ℕ)). HasItem ts text) (listed t known) (place, place_told, sym is))

  module _ (part : TablePart) (is : root.Part part ≡ get_or r.names.items place (root.Part part)) where
    -- the table of a part stands before it
    pub table_in_front : HasTable (take place r.names.items) part.table
    table_in_front =
        let has = table_found r.names.items part.table (table_there r.names.items named.shows.no_orphan part (place, inside, sym is)) in
        let there : slice_get r.names.items has.0 ≡ Some (root.Create part.table) = slice_get-get_or r.names.items has.0 (root.Create part.table) has.1 ∙ ap Some has.2 in
        let front = (places_told r.names.items has.0 place (root.Create part.table) (root.Part part) named.rise there (at_place (root.Part part) is)).1 (create_below part.table (part_text part.name)) in
        (has.0, omega (arith, front, length-take-le place r.names.items (omega arith)), get_or-take place r.names.items has.0 (root.Create part.table) front ∙ has.2)

    module _ {F : Type 0} (store : CoreStore F) (k : Keeps r.names.items (take place r.names.items) store) (visible : IsVisible r.names.items part) where
      -- none of the parts that are kept meets it
      pub meets_none : NoneMeets (parts_of store.set part.table) part.name
      meets_none = All-weaker (λ (x : Kept (Part F)). IsSeen r.names.items (take place r.names.items) part.table x.name) (λ (x : Kept (Part F)). Meet x.name part.name → ⊥) apart (parts_of store.set part.table) (k.seen_parts part.table)
        where
          apart : (x : Kept (Part F)) → IsSeen r.names.items (take place r.names.items) part.table x.name → Meet x.name part.name → ⊥
          apart x s meet =
              let a : TablePart = record { table = part.table; name = x.name } in
              let differ : a ≢ part = λ same. never_twice (root.Part part) is (subst (λ (p : TablePart). HasPart (take place r.names.items) p) same s.here) in
              named.shows.no_overlap a part (record {
                first = s.visible;
                second = visible;
                table = refl;
                meet = meet;
                apart = differ;
                not_covered = λ covers. visible.shows (record { by = a; here = s.visible.here; other = differ; covers = covers });
                not_covering = λ covers. s.visible.shows (record { by = part; here = visible.here; other = λ same. differ (sym same); covers = covers });
              })

-- ---- damage

module _ (r : Root) (named : IsNamedRoot r) (told : Told) (listed : IsTextsOf r told) where
  pub are_read : AreNamesRead (names_of told) r.names.items
  are_read = record { sound = named.are.sound; spelled = named.are.spelled ∙ listed }

  -- no file of a name that was gone over is damaged
  pub none_damaged : {F : Type 0} (files_of : F → Option Files) (seen : List RootName) (store : CoreStore F) → KeepsTold files_of (names_of told) r.names.items seen store → (k : ℕ) (f : FileId)
      → ((n : RootName) → slice_get r.names.items k ≡ Some n → HasItem seen n) → DamagedAt (names_of told) r.names.items k f → ⊥
  none_damaged files_of seen store kept k f there bad =
      All-contains (λ (n : RootName). (files : Files) (g : FileId) → files_at (root_text n) (names_of told) ≡ Some files → IsDamaged (names_of told) r.names.items n files g → ⊥) seen bad.0 kept.sound (there bad.0 bad.2) bad.1 f bad.3 bad.4

  module _ (place : ℕ) (inside : place < length r.names.items) (name : RootName) (is : name ≡ get_or r.names.items place name) where
    front_of : (k : ℕ) (n : RootName) → k < place → slice_get r.names.items k ≡ Some n → HasItem (take place r.names.items) n
    front_of k n less at =
        (k, omega (arith, less, length-take-le place r.names.items (omega arith)), get_or-take place r.names.items k n less ∙ get_or_from_slice_get r.names.items k n n at)

    -- the first damaged file of the next name is what keeps the root from being opened
    pub first_told : {F : Type 0} (files_of : F → Option Files) (store : CoreStore F) → KeepsTold files_of (names_of told) r.names.items (take place r.names.items) store
        → (e : OpenFault) → TellsFile (names_of told) (root_text name) (IsDamaged (names_of told) r.names.items name) e → TellsDamage (names_of told) e
    first_told files_of store kept fault.NoMemory tells = tt
    first_told files_of store kept fault.Disk tells = tt
    first_told files_of store kept (fault.Damaged (damage.Name n)) tells = absurd tells
    first_told files_of store kept (fault.Damaged (damage.Orphan n)) tells = absurd tells
    first_told files_of store kept (fault.Damaged (damage.Overlap m n)) tells = absurd tells
    first_told files_of store kept (fault.Damaged (damage.File n f)) tells = record {
      read = r.names.items;
      good = record { are = are_read; few = named.few };
      no_orphan = named.shows.no_orphan;
      no_overlap = named.shows.no_overlap;
      place = place;
      first = record {
        here = (name, tells.files, at_place r named place inside name is, tells.there, tells.is);
        first = λ k g less. none_damaged files_of (take place r.names.items) store kept k g (λ n. front_of k n less);
      };
      spelled = record { name = name; here = at_place r named place inside name is; spelled = sym tells.spelled };
    }

-- ---- the whole store

module _ {F : Type 0} (r : Root) (named : IsNamedRoot r) (store : CoreStore F) (n : ℕ) (k : Keeps r.names.items r.names.items store) where
  abbrev pub Whole_ : CoreStore F
  Whole_ = record { tables = store.tables; set = store.set; mutations = store.mutations; length = n; opened = store.opened }

  seen_one : (table : List ℕ) (name : PartName) → HasName (parts_of store.set table) name → IsSeen r.names.items r.names.items table name
  seen_one table name has =
      let found = mapped (λ (x : Kept (Part F)). x.name) (parts_of store.set table) name has in
      subst (IsSeen r.names.items r.names.items table) found.2 (All-contains (λ (x : Kept (Part F)). IsSeen r.names.items r.names.items table x.name) (parts_of store.set table) found.0 (k.seen_parts table) found.1)

  pub store_is : (files_of : F → Option Files) (told : Told) → IsTextsOf r told → KeepsTold files_of (names_of told) r.names.items r.names.items store → IsOrdered (slice_cmp nat_cmp) store.tables
      → n ≡ sum_by (λ (e : List ℕ × Table). 1 + e.1.drawn) store.tables.entries → StoreOf files_of (names_of told) Whole_
  store_is files_of told listed kept ordered sum = record {
    read = r.names.items;
    are = are_read r named told listed;
    ordered = ordered;
    tables = λ table t at.
        let s = k.known table t at in
        record { here = s.here; entry = kept.entries table t at; drawn = record { most = λ p visible own. s.drawn.most p visible visible.here own; drawn = s.drawn.drawn } };
    all = k.all;
    parts = λ table name. (λ visible. k.all_parts (record { table = table; name = name }) visible visible.here, λ has. (seen_one table name has).visible);
    kept = kept.kept;
    order = k.order;
    mutations = k.mutations;
    length_is = sum;
  }

  read_soundly : (part : TablePart) → HasPart r.names.items part → IsRootName (root.Part part)
  read_soundly part has = All-contains IsRootName r.names.items (root.Part part) named.are.sound has

  pub sound_store : IsSoundStore Whole_
  sound_store = record {
    tables = λ table t at.
        let s = k.known table t at in
        record {
          named = All-contains IsRootName r.names.items (root.Create table) named.are.sound s.here;
          schema = s.schema;
          ends = All-weaker (λ (x : Kept (Part F)). IsSeen r.names.items r.names.items table x.name) (λ (x : Kept (Part F)). x.name.max_block ≤ t.drawn) (λ x seen. s.drawn.most (record { table = table; name = x.name }) seen.visible seen.here refl) (parts_of store.set table) (k.seen_parts table);
          may = k.may table t at;
          order = All-weaker (λ (x : Kept (Part F)). IsSeen r.names.items r.names.items table x.name) (λ (x : Kept (Part F)). x.name.min_block ≤ x.name.max_block) (λ x seen. (read_soundly (record { table = table; name = x.name }) seen.here).1.order) (parts_of store.set table) (k.seen_parts table);
        };
    no_other = k.no_other;
    mutations = k.mutations;
  }

-- ---- the empty store

module _ {F : Type 0} (read : List RootName) (store : CoreStore F) (files_of : F → Option Files) (s : CoreStands files_of [] store) where
  none_at : (table : List ℕ) (t : Table) → table_at store table ≡ Some t → ⊥
  none_at table t at = let e = sym (s.tables table) ∙ ap (option_map (λ (x : Table). x.schema)) at in cc

  no_table_yet : (table : List ℕ) → table_at store table ≡ None
  no_table_yet table = by (table_at store table) refl
    where
      by : (o : Option Table) → table_at store table ≡ o → table_at store table ≡ None
      by None at = at
      by (Some t) at = absurd (none_at table t at)

  no_parts_yet : (table : List ℕ) → parts_of store.set table ≡ []
  no_parts_yet table = s.no_other table (no_table_yet table)

  pub keeps_none : Keeps read [] store
  keeps_none = record {
    known = λ table t at. absurd (none_at table t at);
    all = λ table has. absurd (item_none (root.Create table) has);
    seen_parts = λ table. subst (All (λ (x : Kept (Part F)). IsSeen read [] table x.name)) (sym (no_parts_yet table)) (All-nil (λ (x : Kept (Part F)). IsSeen read [] table x.name));
    may = λ table t at. absurd (none_at table t at);
    all_parts = λ p visible has. absurd (item_none (root.Part p) has);
    order = λ table. subst (λ (xs : List (Kept (Part F))). IsInBlockOrder xs) (sym (no_parts_yet table)) (λ i j d less inside. absurd (omega (arith, inside)));
    no_other = λ table none. no_parts_yet table;
    idle = λ table. subst (All (λ (x : Kept (Part F)). x.busy ≡ false)) (sym (no_parts_yet table)) (All-nil (λ (x : Kept (Part F)). x.busy ≡ false));
    mutations = s.mutations;
  }

  pub told_none : (names : Names) → KeepsTold files_of names read [] store
  told_none names = record {
    entries = λ table t at. absurd (none_at table t at);
    kept = λ table t at. absurd (none_at table t at);
    sound = All-nil (λ (n : RootName). (files : Files) (f : FileId) → files_at (root_text n) names ≡ Some files → IsDamaged names read n files f → ⊥);
  }
