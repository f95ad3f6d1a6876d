-- The store that a root is opened as stands for the history of the root.
use Rattle.std.proofs.Common.{◌≡◌, ℕ, ◌+◌, ◌<◌, ◌≤◌, Bool, true, false, cond, ◌&&◌, ◌||◌, List, [], ◌∷◌, Option, Some, None, length, map, get_or, is_some, refl, sym, ap, ap₂, ◌∙◌, subst, inl, inr, ◌⊎◌, arith}
use Rattle.std.proofs.lemmas.Bool.{cases_lt, false≢true}
use Rattle.std.proofs.lemmas.Cmp.{nat_list_cmp_total}
use Rattle.std.proofs.lemmas.List.Elements.{All-from_recursion, All-weaker, Contains-get_or, recursion_from_All}
use Rattle.std.proofs.lemmas.List.Sums.{sum_by-cons}
use Rattle.std.proofs.lemmas.Map.Entries.{length-keys_of}
use Rattle.std.proofs.lemmas.Map.Keys.{sorted_head, sorted_tail}
use Rattle.std.proofs.lemmas.Map.Views.{All-found}
use Rattle.std.specs.BTreeMap.{is_at}
use Rattle.std.specs.Cmp.Lexicographic.{slice_cmp}
use Rattle.std.specs.List.{All, AllByRecursion, AllZip, Contains as HasItem, count_by, sum_by}
use Rattle.std.specs.List.Sorted.{IsStrictlySortedBy}
use Rattle.std.specs.Map.{keys_of, lookup}
use Rattle.std.specs.Option.{option_map}
use Rattle.std.specs.Ordering.{nat_cmp}
use Rattle.std.specs.declared.cmp.Ordering.TheVariants.{Less}
use Rattle.mt_base.specs.declared.partition.Partition.{Partition}
use Rattle.mt_values.specs.declared.schema.Schema.{Schema}
use Rattle.mt_values.specs.Grammar.{same_bytes}
use Rattle.mt_values.specs.RootNames.{create_name}
use Rattle.mt_values.specs.Tables.{same_partition}
use Rattle.mt_values.specs.Values.{Row}
use Rattle.mt_outside.specs.Disk.{Names, files_at}
use Rattle.mt_outside.specs.Files.{Files}
use Rattle.root_store.specs.mt_model.History.{History, schema_of}
use Rattle.root_store.specs.mt_model.Numbers.{IsNumberOfInsert, last_number, lies_within, numbered}
use Rattle.root_store.proofs.MtModelTables.{itself_same, same_is}
use Rattle.root_store.specs.part_name.declared.part.PartName.{PartName}
use Rattle.root_store.specs.part_name.PartNames.{Meet}
use Rattle.root_store.specs.part_writer.PartFiles.{loaded_of}
use Rattle.root_store.specs.part_reader.declared.reading.Part.{Part}
use Rattle.root_store.specs.part_reader.Parts.{PartHolds}
use Rattle.root_store.proofs.PartReaderHolding.{written_holds}
use Rattle.root_store.proofs.PartReaderOpened.{one_loaded}
use Rattle.root_store.proofs.PartReaderSoundRows.{written_loaded}
use Rattle.root_store.specs.part_set.declared.kept.Kept.{Kept}
use Rattle.root_store.specs.part_set.declared.root_name.RootName.{RootName}
use Rattle.root_store.specs.part_set.declared.root_name.RootName.TheVariants as root
use Rattle.root_store.specs.part_set.declared.root_name.TablePart.{TablePart}
use Rattle.root_store.specs.part_set.Parts.{IsInBlockOrder}
use Rattle.root_store.specs.part_set.RootNames.{root_text}
use Rattle.root_store.specs.part_set.Sets as sets
use Rattle.root_store.specs.part_set.Visible.{HasTable, IsVisible}
use Rattle.root_store.proofs.PartSetItems.{item_first, item_none}
use Rattle.root_store.proofs.PartSetMaps.{found_is}
use Rattle.root_store.proofs.PartSetOrphans.{item_more}
use Rattle.root_store.specs.part_history.declared.part.CorePart.{CorePart}
use Rattle.root_store.specs.part_history.Parts.{PartStands, has_block, core_parts_of}
use Rattle.root_store.proofs.PartHistoryGrowing.{number_drawn}
use Rattle.root_store.proofs.PartHistoryNumbered.{insert_drawn, legal_schema}
use Rattle.root_store.specs.declared.store.CoreStore.{CoreStore}
use Rattle.root_store.specs.declared.store.Table.{Table}
use Rattle.root_store.specs.Roots.{FolderHolds, Stands, named}
use Rattle.root_store.specs.Stores.{CoreStands, IsKeptOf, PartsAreThere, StoreOf, core_part, core_parts, part_of, table_at}
use Rattle.root_store.proofs.Blocks.{HasBlock, blocks}
use Rattle.root_store.proofs.Clear.{part_stands}
use Rattle.root_store.proofs.Counted.{Apart, AreTables, AreThere, as_long, as_many, is_among, sizes}
use Rattle.root_store.proofs.EntriesOf.{entry_known, table_entry}
use Rattle.root_store.proofs.InOrder.{core_order, pairs_head, pairs_tail}
use Rattle.root_store.proofs.Items.{counted_one, item_either, map_item, mapped, one_counts, unfiltered}
use Rattle.root_store.proofs.Orphaned.{no_orphan, of_core}
use Rattle.root_store.proofs.Readings.{one_reading}
use Rattle.root_store.proofs.TableIndexes.{has_indexes}
use Rattle.root_store.proofs.TableMarks.{has_marks}
use Rattle.root_store.proofs.Tabled.{never_below, table_here}
use Rattle.root_store.proofs.Undamaged.{folders_agree}

same_some : {X : Type 0} (x y : X) → Some x ≡ Some y → x ≡ y
same_some x y e = cc

-- ---- blocks

-- it depends on the name alone
block_moved : (partition : Partition) (n : ℕ) (a b : CorePart) → a.name ≡ b.name → has_block partition n b ≡ true → has_block partition n a ≡ true
block_moved partition n a b same passes = ap (λ (x : PartName). same_partition x.partition partition && lies_within x.min_block x.max_block n) same ∙ passes

meet_at : (partition : Partition) (n : ℕ) (a b : PartName) → HasBlock partition n a → HasBlock partition n b → Meet a b
meet_at partition n a b x y = record { partition = x.same ∙ sym y.same; low = omega (arith, x.low, y.high); high = omega (arith, y.low, x.high) }

-- ---- lists of parts

false_unless : (b : Bool) → (b ≡ true → ⊥) → b ≡ false
false_unless true none = absurd (none refl)
false_unless false none = refl

module _ {F : Type 0} (table : List ℕ) where
  none_behind : (test : CorePart → Bool) (ks : List (Kept (Part F))) (rows : List (List Row)) → ((k : Kept (Part F)) (r : List Row) → HasItem ks k → test (core_part table k r) ≡ false) → count_by test (core_parts table ks rows) ≡ 0
  none_behind test [] rows none = refl
  none_behind test (k ∷ ks) [] none = refl
  none_behind test (k ∷ ks) (r ∷ rows) none =
      let e = sum_by-cons (λ (p : CorePart). cond (test p) 1 0) (core_part table k r) (core_parts table ks rows) in
      let off = none k r (item_first k ks) in
      let rest = none_behind test ks rows (λ x s has. none x s (item_more k x ks has)) in
      e ∙ ap₂ (λ (b : Bool) (n : ℕ). cond b 1 0 + n) off rest

  -- no two kept parts have a block in common
  at_most : (partition : Partition) (n : ℕ) (ks : List (Kept (Part F))) (rows : List (List Row)) → IsInBlockOrder ks → count_by (has_block partition n) (core_parts table ks rows) ≤ 1
  at_most partition n [] rows order = omega arith
  at_most partition n (k ∷ ks) [] order = omega arith
  at_most partition n (k ∷ ks) (r ∷ rows) order = by (has_block partition n (core_part table k r)) refl (at_most partition n ks rows (pairs_tail k ks order))
    where
      e : count_by (has_block partition n) (core_parts table (k ∷ ks) (r ∷ rows)) ≡ cond (has_block partition n (core_part table k r)) 1 0 + count_by (has_block partition n) (core_parts table ks rows)
      e = sum_by-cons (λ (p : CorePart). cond (has_block partition n p) 1 0) (core_part table k r) (core_parts table ks rows)

      by : (b : Bool) → has_block partition n (core_part table k r) ≡ b → count_by (has_block partition n) (core_parts table ks rows) ≤ 1 → count_by (has_block partition n) (core_parts table (k ∷ ks) (r ∷ rows)) ≤ 1
      by true passes rest =
          let none = none_behind (has_block partition n) ks rows (λ x s has. false_unless (has_block partition n (core_part table x s)) (λ also.
          (pairs_head k ks order x has).apart (meet_at partition n k.name x.name (blocks partition n (core_part table k r) passes) (blocks partition n (core_part table x s) also)))) in
          let one : ◌≡◌ {A = ℕ} (cond (has_block partition n (core_part table k r)) 1 0) 1 = ap (λ (b : Bool). cond {A = ℕ} b 1 0) passes in
          omega (arith, e, one, none)
      by false other rest =
          let off : ◌≡◌ {A = ℕ} (cond (has_block partition n (core_part table k r)) 1 0) 0 = ap (λ (b : Bool). cond {A = ℕ} b 1 0) other in
          omega (arith, e, off, rest)

  own_table : (ks : List (Kept (Part F))) (rows : List (List Row)) → AllByRecursion (λ (p : CorePart). p.table ≡ table) (core_parts table ks rows)
  own_table [] rows = tt
  own_table (k ∷ ks) [] = tt
  own_table (k ∷ ks) (r ∷ rows) = (refl, own_table ks rows)

  -- each kept part is there with its rows
  core_here : (R : Kept (Part F) → List Row → Type 0) (ks : List (Kept (Part F))) (rows : List (List Row)) (x : Kept (Part F)) → AllZip R ks rows → HasItem ks x → (p : CorePart) × HasItem (core_parts table ks rows) p × (p.name ≡ x.name)
  core_here R [] rows x zip has = absurd (item_none x has)
  core_here R (k ∷ ks) [] x zip has = absurd zip
  core_here R (k ∷ ks) (r ∷ rows) x zip has = elim (item_either k x ks has) [
    | inl same ↦ (core_part table k r, item_first (core_part table k r) (core_parts table ks rows), ap (λ (y : Kept (Part F)). y.name) same)
    | inr more ↦ (let found = core_here R ks rows x zip.1 more in (found.0, item_more (core_part table k r) found.0 (core_parts table ks rows) found.1, found.2))
  ]

  -- a kept part that has a block is counted
  block_counted : (R : Kept (Part F) → List Row → Type 0) (ks : List (Kept (Part F))) (rows : List (List Row)) (partition : Partition) (n : ℕ) (p : CorePart) → AllZip R ks rows
      → (x : Kept (Part F)) → HasItem ks x → x.name ≡ p.name → has_block partition n p ≡ true → 1 ≤ count_by (has_block partition n) (core_parts table ks rows)
  block_counted R ks rows partition n p zip x has same passes =
      let core = core_here R ks rows x zip has in
      one_counts (has_block partition n) (core_parts table ks rows) core.0 core.1 (block_moved partition n core.0 p (core.2 ∙ same) passes)

-- ---- keys

none_above : (k : List ℕ) (ks : List (List ℕ)) → AllByRecursion (λ (y : List ℕ). slice_cmp nat_cmp k y ≡ Less) ks → is_among ks k ≡ false
none_above k [] above = refl
none_above k (x ∷ ks) above = by (same_bytes k x) refl (none_above k ks above.1)
  where
    by : (b : Bool) → same_bytes k x ≡ b → is_among ks k ≡ false → (b || is_among ks k) ≡ false
    by true same rest = absurd (never_below k x (same_is k x same) above.0)
    by false same rest = rest

keys_apart : (ks : List (List ℕ)) → IsStrictlySortedBy (slice_cmp nat_cmp) ks → Apart ks
keys_apart [] rise = tt
keys_apart (k ∷ ks) rise = (none_above k ks (sorted_head (slice_cmp nat_cmp) k ks rise), keys_apart ks (sorted_tail (slice_cmp nat_cmp) k ks rise))

key_among : {X : Type 0} (es : List (List ℕ × X)) (t : List ℕ) → is_some (lookup (is_at (slice_cmp nat_cmp t)) es) ≡ true → is_among (keys_of es) t ≡ true
key_among [] t some = cc
key_among {X} (e ∷ es) t some = by (is_at (slice_cmp nat_cmp t) e.0) refl some (key_among es t)
  where
    or_true : (a b : Bool) → b ≡ true → (a || b) ≡ true
    or_true true b is = refl
    or_true false b is = is

    by : (b : Bool) → is_at (slice_cmp nat_cmp t) e.0 ≡ b → is_some (cond b (Some e.1) (lookup (is_at (slice_cmp nat_cmp t)) es)) ≡ true → (is_some (lookup (is_at (slice_cmp nat_cmp t)) es) ≡ true → is_among (keys_of es) t ≡ true)
        → (same_bytes t e.0 || is_among (keys_of es) t) ≡ true
    by true hit found rest = ap (λ (b : Bool). b || is_among (keys_of es) t) (subst (λ (x : List ℕ). same_bytes t x ≡ true) (found_is t e.0 hit) (itself_same t))
    by false miss found rest = or_true (same_bytes t e.0) (is_among (keys_of es) t) (rest found)

keys_there : (h : History) (es : List (List ℕ × Table)) → AllByRecursion (λ (e : List ℕ × Table). is_some (schema_of e.0 h) ≡ true) es → AreThere h (keys_of es)
keys_there h [] all = tt
keys_there h (e ∷ es) all = (all.0, keys_there h es all.1)

sizes_are : (h : History) (es : List (List ℕ × Table)) → AllByRecursion (λ (e : List ℕ × Table). e.1.drawn ≡ length (numbered e.0 h)) es → sum_by (λ (e : List ℕ × Table). 1 + e.1.drawn) es ≡ sizes h (keys_of es)
sizes_are h [] all = refl
sizes_are h (e ∷ es) all =
    let step = sum_by-cons (λ (x : List ℕ × Table). 1 + x.1.drawn) e es in
    let rest = sizes_are h es all.1 in
    let here = all.0 in
    omega (arith, step, rest, here)

module _ {F : Type 0} (files_of : F → Option Files) (names : Names) (h : History) (store : CoreStore F) (o : StoreOf files_of names store) (s : Stands names h) where
  same_read : o.read ≡ s.read
  same_read = one_reading names o.read s.read o.are s.are

  schema_at : (table : List ℕ) (t : Table) → table_at store table ≡ Some t → schema_of table h ≡ Some t.schema
  schema_at table t at =
      let kept = o.tables table t at in
      let known = entry_known names h s table (subst (λ (r : List RootName). HasTable r table) same_read kept.here) in
      known.1 ∙ ap Some (sym (folders_agree names (create_name table) table t.schema known.0 kept.entry (table_entry names h s table known.0 known.1)))

  -- the tables of the store are those of the history
  tables_are : (table : List ℕ) → option_map (λ (t : Table). t.schema) (table_at store table) ≡ schema_of table h
  tables_are table = by (table_at store table) (schema_of table h) refl refl
    where
      by : (a : Option Table) (b : Option Schema) → table_at store table ≡ a → schema_of table h ≡ b → option_map (λ (t : Table). t.schema) (table_at store table) ≡ schema_of table h
      by (Some t) b at is = ap (option_map (λ (x : Table). x.schema)) at ∙ sym (schema_at table t at)
      by None None at is = ap (option_map (λ (x : Table). x.schema)) at ∙ sym is
      by None (Some schema) at is =
          let here = table_here names h s table (ap is_some is) in
          let some = o.all table (subst (λ (r : List RootName). HasTable r table) (sym same_read) here) in
          absurd (false≢true (sym (ap is_some at) ∙ some))

  -- ---- the parts of a table

  module _ (table : List ℕ) (schema : Schema) (schema_is : schema_of table h ≡ Some schema) where
    record RowsOf (ks : List (Kept (Part F))) : Type 0 where
      rows : List (List Row)
      hold : AllZip (λ (k : Kept (Part F)) (r : List Row). PartHolds files_of schema k.part r) ks rows
      from : AllByRecursion (HasItem s.parts) (core_parts table ks rows)

    rows_of : (ks : List (Kept (Part F))) → AllByRecursion (λ (k : Kept (Part F)). IsVisible s.read (part_of table k)) ks → AllByRecursion (IsKeptOf files_of names table schema) ks → RowsOf ks
    rows_of [] visible kept = record { rows = []; hold = tt; from = tt }
    rows_of (k ∷ ks) visible kept =
        let c = of_core names h s (part_of table k) visible.0 in
        let more = rows_of ks visible.1 kept.1 in
        let is = kept.0 in
        let folder = c.there.folder in
        let own : c.core.table ≡ table = ap (λ (p : TablePart). p.table) c.name_is in
        let known : schema_of table h ≡ Some c.there.schema = subst (λ (t : List ℕ). schema_of t h ≡ Some c.there.schema) own c.there.schema_is in
        let same : c.there.schema ≡ schema = same_some c.there.schema schema (sym known ∙ schema_is) in
        let there : files_at (root_text (root.Part (part_of table k))) names ≡ Some folder.files = subst (λ (p : TablePart). files_at (root_text (root.Part p)) names ≡ Some folder.files) c.name_is folder.there in
        let files_are : folder.files ≡ is.files = same_some folder.files is.files (sym there ∙ is.there) in
        let holds = subst (λ (x : Schema). FolderHolds x c.core.rows is.files) same (subst (FolderHolds c.there.schema c.core.rows) files_are folder.holds) in
        let legal = legal_schema table h schema s.legal schema_is in
        let written = written_loaded schema is.files c.core.rows holds (has_marks schema legal) (has_indexes schema legal) in
        let loaded : k.part.loaded ≡ loaded_of schema c.core.rows = one_loaded schema is.files k.part.loaded (loaded_of schema c.core.rows) is.loaded written in
        let core : c.core ≡ core_part table k c.core.rows = λ i. record { table = (c.name_is i).table; name = (c.name_is i).name; rows = c.core.rows } in
        record {
          rows = c.core.rows ∷ more.rows;
          hold = (written_holds files_of schema k.part c.core.rows is.files is.told loaded holds, more.hold);
          from = (subst (HasItem s.parts) core c.here, more.from);
        }

    shown : All (λ (k : Kept (Part F)). IsVisible s.read (part_of table k)) (sets.parts_of store.set table)
    shown k d inside =
        let here : Kept (Part F) = get_or (sets.parts_of store.set table) k d in
        let has = map_item (λ (x : Kept (Part F)). x.name) (sets.parts_of store.set table) here (Contains-get_or (sets.parts_of store.set table) k d inside) in
        subst (λ (r : List RootName). IsVisible r (part_of table here)) same_read ((o.parts table here.name).1 has)

    -- a part of the table that has a block is kept
    kept_here : (partition : Partition) (n : ℕ) (r : RowsOf (sets.parts_of store.set table)) → IsNumberOfInsert table partition n h → 1 ≤ count_by (has_block partition n) (core_parts table (sets.parts_of store.set table) r.rows)
    kept_here partition n r is =
        let once = (s.stand table).once partition n is in
        let found = counted_one (has_block partition n) (core_parts_of table s.parts) (omega (arith, once)) in
        let p = found.0 in
        let from = unfiltered (λ (x : CorePart). same_bytes x.table table) s.parts p found.1 in
        let own : p.table ≡ table = same_is p.table table from.1 in
        let visible = (s.visible (named p)).1 (map_item named s.parts p from.0) in
        let also : IsVisible o.read (record { table = table; name = p.name }) =
        subst (λ (x : List RootName). IsVisible x (record { table = table; name = p.name })) (sym same_read) (subst (λ (t : List ℕ). IsVisible s.read (record { table = t; name = p.name })) own visible) in
        let kept = mapped (λ (x : Kept (Part F)). x.name) (sets.parts_of store.set table) p.name ((o.parts table p.name).0 also) in
        block_counted table (λ (k : Kept (Part F)) (x : List Row). PartHolds files_of schema k.part x) (sets.parts_of store.set table) r.rows partition n p r.hold kept.0 kept.1 kept.2 found.2

    parts_there : (t : Table) → table_at store table ≡ Some t → t.schema ≡ schema → PartsAreThere files_of h store table schema
    parts_there t at is =
        let ks = sets.parts_of store.set table in
        let kept = subst (λ (x : Schema). All (IsKeptOf files_of names table x) ks) is (o.kept table t at) in
        let r = rows_of ks (recursion_from_All (λ (k : Kept (Part F)). IsVisible s.read (part_of table k)) ks shown) (recursion_from_All (IsKeptOf files_of names table schema) ks kept) in
        record {
          rows = r.rows;
          hold = r.hold;
          stand = record {
            own = All-from_recursion (λ (p : CorePart). p.table ≡ table) (core_parts table ks r.rows) (own_table table ks r.rows);
            each = All-weaker (HasItem s.parts) (PartStands h) (part_stands names h s) (core_parts table ks r.rows) (All-from_recursion (HasItem s.parts) (core_parts table ks r.rows) r.from);
            once = λ partition n insert.
                let some = kept_here partition n r insert in
                let most = at_most table partition n ks r.rows (o.order table) in
                omega (arith, some, most);
          };
          order = core_order table ks r.rows (o.order table);
        }

  -- ---- numbers

  drawn_is : (table : List ℕ) (t : Table) → table_at store table ≡ Some t → t.drawn ≡ last_number table h
  drawn_is table t at =
      let low = upto (o.tables table t at).drawn.drawn in
      let high = reached (cases_lt 0 (length (numbered table h))) in
      omega (arith, low, high)
    where
      upto : (t.drawn ≡ 0) ⊎ ((part : TablePart) × IsVisible o.read part × (part.table ≡ table) × (part.name.max_block ≡ t.drawn)) → t.drawn ≤ length (numbered table h)
      upto (inl none) = omega (arith, none)
      upto (inr found) =
          let c = of_core names h s found.0 (subst (λ (r : List RootName). IsVisible r found.0) same_read found.1) in
          let stands = part_stands names h s c.core c.here in
          let most = number_drawn c.core.table c.core.name.partition c.core.name.max_block h stands.stands.greatest in
          let own : c.core.table ≡ table = ap (λ (p : TablePart). p.table) c.name_is ∙ found.2 in
          let block : c.core.name.max_block ≡ t.drawn = ap (λ (p : TablePart). p.name.max_block) c.name_is ∙ found.3 in
          let count : length (numbered c.core.table h) ≡ length (numbered table h) = ap (λ (x : List ℕ). length (numbered x h)) own in
          omega (arith, most, block, count)

      reached : (0 < length (numbered table h)) ⊎ (length (numbered table h) ≤ 0) → length (numbered table h) ≤ t.drawn
      reached (inr none) = omega (arith, none)
      reached (inl some) =
          let n = length (numbered table h) in
          let last = insert_drawn table h n (s.unaltered table) (omega (arith, some)) (omega arith) in
          let partition = last.0 in
          let once = (s.stand table).once partition n last.1 in
          let found = counted_one (has_block partition n) (core_parts_of table s.parts) (omega (arith, once)) in
          let from = unfiltered (λ (x : CorePart). same_bytes x.table table) s.parts found.0 found.1 in
          let visible = subst (λ (r : List RootName). IsVisible r (named found.0)) (sym same_read) ((s.visible (named found.0)).1 (map_item named s.parts found.0 from.0)) in
          let most = (o.tables table t at).drawn.most (named found.0) visible (same_is found.0.table table from.1) in
          let block = (blocks partition n found.0 found.2).high in
          omega (arith, most, block)

  entries_found : All (λ (e : List ℕ × Table). table_at store e.0 ≡ Some e.1) store.tables.entries
  entries_found = All-found nat_list_cmp_total store.tables o.ordered

  keys_are : AreTables h (keys_of store.tables.entries)
  keys_are = record {
    apart = keys_apart (keys_of store.tables.entries) o.ordered;
    there = keys_there h store.tables.entries (recursion_from_All (λ (e : List ℕ × Table). is_some (schema_of e.0 h) ≡ true) store.tables.entries
        (All-weaker (λ (e : List ℕ × Table). table_at store e.0 ≡ Some e.1) (λ (e : List ℕ × Table). is_some (schema_of e.0 h) ≡ true) (λ e at. ap is_some (schema_at e.0 e.1 at)) store.tables.entries entries_found));
    all = λ t some. key_among store.tables.entries t (o.all t (subst (λ (r : List RootName). HasTable r t) (sym same_read) (table_here names h s t some)));
  }

  long : store.length ≡ length h
  long =
      o.length_is
      ∙ (sizes_are h store.tables.entries (recursion_from_All (λ (e : List ℕ × Table). e.1.drawn ≡ length (numbered e.0 h)) store.tables.entries
      (All-weaker (λ (e : List ℕ × Table). table_at store e.0 ≡ Some e.1) (λ (e : List ℕ × Table). e.1.drawn ≡ length (numbered e.0 h)) (λ e at. drawn_is e.0 e.1 at) store.tables.entries entries_found))
      ∙ as_long h (keys_of store.tables.entries) s.legal keys_are)

  -- a table that is not there has no parts
  no_parts : (table : List ℕ) → table_at store table ≡ None → sets.parts_of store.set table ≡ []
  no_parts table none = by (sets.parts_of store.set table) refl
    where
      by : (ks : List (Kept (Part F))) → sets.parts_of store.set table ≡ ks → sets.parts_of store.set table ≡ []
      by [] e = e
      by (k ∷ ks) e =
          let has = subst (λ (l : List (Kept (Part F))). HasItem (map (λ (x : Kept (Part F)). x.name) l) k.name) (sym e) (item_first k.name (map (λ (x : Kept (Part F)). x.name) ks)) in
          let visible = subst (λ (r : List RootName). IsVisible r (part_of table k)) same_read ((o.parts table k.name).1 has) in
          absurd (no_orphan names h s (root.Part (part_of table k)) visible.here (inl (λ there.
          let some = o.all table (subst (λ (r : List RootName). HasTable r table) (sym same_read) there) in
          let bad = ap is_some none in
          cc)))

  pub core_stands : CoreStands files_of h store
  core_stands = record {
    legal = s.legal;
    length_is = long;
    tables = tables_are;
    count = sym (length-keys_of store.tables.entries) ∙ as_many h (keys_of store.tables.entries) s.legal keys_are;
    drawn = drawn_is;
    parts = λ table t at. parts_there table t.schema (schema_at table t at) t at refl;
    no_other = no_parts;
    mutations = λ table. o.mutations table ∙ sym (s.unaltered table);
    unaltered = s.unaltered;
  }
