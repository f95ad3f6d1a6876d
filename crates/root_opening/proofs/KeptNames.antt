-- The store, one name of the root further.
use Rattle.std.proofs.Common.{◌≡◌, ◌≢◌, ℕ, ◌≤◌, true, List, [], ◌∷◌, ◌++◌, get_or, is_some, refl, sym, ap, ◌∙◌, subst, ◌⊎◌, inl, inr, arith, Option, Some, None, All, false}
use Rattle.std.specs.BTreeMap.{BTreeMap, Updates, get, is_at}
use Rattle.std.specs.Cmp.Lexicographic.{slice_cmp}
use Rattle.std.specs.List.{Contains as HasItem, insert}
use Rattle.std.specs.Option.{IsSome}
use Rattle.std.specs.Ordering.{nat_cmp}
use Rattle.std.proofs.lemmas.List.Elements.{All-contains, All-nil, All-push, All-weaker, Contains-append_left, Contains-get_or, Contains-push, Contains-push_cases}
use Rattle.mt_base.specs.declared.name.FileId.{FileId}
use Rattle.mt_values.specs.declared.schema.Schema.{Schema}
use Rattle.mt_values.specs.RootNames.{create_name}
use Rattle.mt_values.specs.Tables.{MayHavePartition}
use Rattle.mt_outside.specs.Disk.{Names, files_at}
use Rattle.mt_outside.specs.Files.{Files}
use Rattle.root_store.specs.mt_model.History.{IsTableSchema}
use Rattle.root_store.specs.mutation_queue.declared.mutations.Mutations.{Mutations}
use Rattle.root_store.specs.mutation_queue.Queue.{mutations_of}
use Rattle.root_store.specs.part_name.declared.part.PartName.{PartName}
use Rattle.root_store.specs.part_reader.declared.reading.Part.{Part}
use Rattle.root_store.specs.part_set.declared.kept.Kept.{Kept}
use Rattle.root_store.specs.part_set.declared.root_name.RootName.{RootName}
use Rattle.root_store.specs.part_set.declared.root_name.RootName.TheVariants as root
use Rattle.root_store.specs.part_set.declared.root_name.TablePart.{TablePart}
use Rattle.root_store.specs.part_set.Parts.{HasName, IsAdded, IsInBlockOrder}
use Rattle.root_store.specs.part_set.RootNames.{root_text}
use Rattle.root_store.specs.part_set.Sets.{parts_of}
use Rattle.root_store.specs.part_set.Visible.{HasPart, HasTable, IsVisible}
use Rattle.root_store.proofs.PartSetItems.{item_cases, item_kept, item_new, item_none}
use Rattle.root_store.proofs.PartSetMaps.{found_is, true_or_false}
use Rattle.root_store.proofs.PartSetOrphans.{same_itself}
use Rattle.root_store.specs.declared.store.CoreStore.{CoreStore}
use Rattle.root_store.specs.declared.store.Table.{Table}
use Rattle.root_store.specs.Stores.{fresh_table}
use Rattle.root_store.specs.Damage.{IsDamaged, PartDamaged}
use Rattle.root_store.specs.Entries.{EntryHolds}
use Rattle.root_opening.specs.Keeping.{IsPartRead, IsSeen, IsSeenTable, Keeps, KeepsTold}
use Rattle.root_store.specs.Roots.{HasFolder}
use Rattle.root_store.specs.Stores.{IsKeptOf, table_at}
use Rattle.root_store.proofs.Items.{map_item, mapped}
use Rattle.root_store.proofs.Undamaged.{folders_agree}

-- ---- a list with one element more

-- an element of a list with one more is one of the list, where the new one is not it
behind : {X : Type 0} (xs : List X) (y z : X) → (y ≡ z → ⊥) → HasItem (xs ++ y ∷ []) z → HasItem xs z
behind xs y z apart has = elim (Contains-push_cases xs y z has) [ inl old ↦ old | inr new ↦ absurd (apart new) ]

front : {X : Type 0} (xs : List X) (y z : X) → HasItem xs z → HasItem (xs ++ y ∷ []) z
front xs y z has = Contains-append_left xs (y ∷ []) z has

one_table : (t u : List ℕ) → root.Create t ≡ root.Create u → t ≡ u
one_table t u is = cc

pub one_part : (p q : TablePart) → root.Part p ≡ root.Part q → p ≡ q
one_part p q is = cc

pub no_table : (p : TablePart) (t : List ℕ) → root.Part p ≡ root.Create t → ⊥
no_table p t is = cc

no_part : (p : TablePart) (t : List ℕ) → root.Create t ≡ root.Part p → ⊥
no_part p t is = cc

-- what holds of each part and of the new one holds of each, when that is added
all_added : {P : Type 0} (Q : Kept P → Type 0) (before after : List (Kept P)) (k : Kept P) → IsAdded before k after → All Q before → Q k → All Q after
all_added {P} Q before after k added all new = subst (All Q) (sym added.is) (λ i d inside. by (get_or (insert before added.place k) i d) (item_cases before added.place k _ (Contains-get_or (insert before added.place k) i d inside)))
  where
    by : (x : Kept P) → HasItem before x ⊎ (k ≡ x) → Q x
    by x (inl old) = All-contains Q before x all old
    by x (inr same) = subst Q same new

-- a name that is there stays there
name_kept : {P : Type 0} (before after : List (Kept P)) (k : Kept P) (name : PartName) → IsAdded before k after → HasName before name → HasName after name
name_kept {P} before after k name added has =
    let found = mapped (λ (x : Kept P). x.name) before name has in
    subst (λ (xs : List (Kept P)). HasName xs name) (sym added.is)
    (subst (HasName (insert before added.place k)) found.2 (map_item (λ (x : Kept P). x.name) (insert before added.place k) found.0 (item_kept before added.place k found.0 found.1)))

name_new : {P : Type 0} (before after : List (Kept P)) (k : Kept P) → IsAdded before k after → HasName after k.name
name_new {P} before after k added =
    subst (λ (xs : List (Kept P)). HasName xs k.name) (sym added.is) (map_item (λ (x : Kept P). x.name) (insert before added.place k) k (item_new before added.place k))

no_name : {P : Type 0} (parts : List (Kept P)) (name : PartName) → parts ≡ [] → HasName parts name → ⊥
no_name {P} parts name none has = let found = mapped (λ (x : Kept P). x.name) parts name has in item_none found.0 (subst (λ (xs : List (Kept P)). HasItem xs found.0) none found.1)

-- ---- what is at a table's name

none_or_some : {X : Type 0} (o : Option X) → (o ≡ None) ⊎ ((x : X) × (o ≡ Some x))
none_or_some None = inl refl
none_or_some (Some x) = inr (x, refl)

one_some : {X : Type 0} (o : Option X) (x y : X) → o ≡ Some x → o ≡ Some y → x ≡ y
one_some o x y a b = cc

is_there : {X : Type 0} (o : Option X) (x : X) → o ≡ Some x → IsSome o
is_there o x is = ap is_some is

not_both : {X : Type 0} (o : Option X) (x : X) → o ≡ Some x → o ≡ None → ⊥
not_both o x some none = cc

-- a table is the one that was written, or is another, which has what it had
either_table : (old new : BTreeMap (List ℕ) Table) (table t : List ℕ) (w : Option Table) → Updates (slice_cmp nat_cmp) old new table w
    → ((table ≡ t) × (get (slice_cmp nat_cmp) new t ≡ w)) ⊎ ((table ≡ t → ⊥) × (get (slice_cmp nat_cmp) new t ≡ get (slice_cmp nat_cmp) old t))
either_table old new table t w updates = elim (true_or_false (is_at (slice_cmp nat_cmp table) t)) [
  | inl here ↦ (let same = found_is table t here in inl (same, subst (λ (u : List ℕ). get (slice_cmp nat_cmp) new u ≡ w) same updates.1))
  | inr other ↦ inr ((λ same. let itself : is_at (slice_cmp nat_cmp table) t ≡ true = subst (λ (u : List ℕ). is_at (slice_cmp nat_cmp table) u ≡ true) same (same_itself table) in cc), updates.2 t other)
]

-- ---- names gone over

-- one name more, of which nothing more of a table is seen
module _ (read seen : List RootName) (n : RootName) where
  seen_more : (table : List ℕ) (name : PartName) → IsSeen read seen table name → IsSeen read (seen ++ n ∷ []) table name
  seen_more table name s = record { visible = s.visible; here = front seen n (root.Part (record { table = table; name = name })) s.here }

  -- the parts of a table are those that were seen before
  abbrev NoMore : List ℕ → Type 0
  NoMore table = (p : TablePart) → p.table ≡ table → IsVisible read p → HasPart (seen ++ n ∷ []) p → HasPart seen p

  table_more : (table : List ℕ) (t : Table) → NoMore table → IsSeenTable read seen table t → IsSeenTable read (seen ++ n ∷ []) table t
  table_more table t back s = record {
    here = front seen n (root.Create table) s.here;
    schema = s.schema;
    drawn = record { most = λ p visible here own. s.drawn.most p visible (back p own visible here) own; drawn = s.drawn.drawn };
  }

  module _ {F : Type 0} (store : CoreStore F) (k : Keeps read seen store) where
    -- nothing of the name is kept
    pub passed_over : ((t : List ℕ) → n ≡ root.Create t → ⊥) → ((p : TablePart) → IsVisible read p → n ≡ root.Part p → ⊥) → Keeps read (seen ++ n ∷ []) store
    passed_over not_table not_part = record {
      known = λ t x at. table_more t x (λ p own visible here. behind seen n (root.Part p) (not_part p visible) here) (k.known t x at);
      all = λ t here. k.all t (behind seen n (root.Create t) (not_table t) here);
      seen_parts = λ t. All-weaker (λ (x : Kept (Part F)). IsSeen read seen t x.name) (λ (x : Kept (Part F)). IsSeen read (seen ++ n ∷ []) t x.name) (λ x. seen_more t x.name) (parts_of store.set t) (k.seen_parts t);
      may = k.may;
      all_parts = λ p visible here. k.all_parts p visible (behind seen n (root.Part p) (not_part p visible) here);
      order = k.order;
      no_other = k.no_other;
      idle = k.idle;
      mutations = k.mutations;
    }

-- ---- a table

module _ {F : Type 0} (read seen : List RootName) (old new : CoreStore F) (table : List ℕ) (schema : Schema) (same : new.set ≡ old.set) (queues : new.mutations ≡ old.mutations)
    (updates : Updates (slice_cmp nat_cmp) old.tables new.tables table (Some (fresh_table schema))) (absent : HasTable seen table → ⊥) (k : Keeps read seen old) where
  abbrev C : RootName
  C = root.Create table

  none_before : table_at old table ≡ None
  none_before = elim (none_or_some (table_at old table)) [ inl none ↦ none | inr some ↦ absurd (absent (k.known table some.0 some.1).here) ]

  no_parts : parts_of old.set table ≡ []
  no_parts = k.no_other table none_before

  same_parts : (t : List ℕ) → parts_of old.set t ≡ parts_of new.set t
  same_parts t = ap (λ s. parts_of s t) (sym same)

  no_more : (t : List ℕ) → NoMore read seen C t
  no_more t p own visible here = behind seen C (root.Part p) (no_part p table) here

  fresh_seen : IsTableSchema schema → IsSeenTable read (seen ++ C ∷ []) table (fresh_table schema)
  fresh_seen sound = record {
    here = Contains-push seen C;
    schema = sound;
    drawn = record {
      most = λ p visible here own.
          let has = k.all_parts p visible (no_more table p own visible here) in
          absurd (no_name (parts_of old.set table) p.name no_parts (subst (λ (t : List ℕ). HasName (parts_of old.set t) p.name) own has));
      drawn = inl refl;
    };
  }

  pub table_kept : IsTableSchema schema → Keeps read (seen ++ C ∷ []) new
  table_kept sound = record {
    known = λ t x at. elim (either_table old.tables new.tables table t (Some (fresh_table schema)) updates) [
      | inl here ↦ (
          let is = one_some (table_at new t) (fresh_table schema) x here.1 at in
          subst (IsSeenTable read (seen ++ C ∷ []) t) is (subst (λ (u : List ℕ). IsSeenTable read (seen ++ C ∷ []) u (fresh_table schema)) here.0 (fresh_seen sound))
          )
      | inr other ↦ table_more read seen C t x (no_more t) (k.known t x (sym other.1 ∙ at))
    ];
    all = λ t here. elim (either_table old.tables new.tables table t (Some (fresh_table schema)) updates) [
      | inl new_one ↦ is_there (table_at new t) (fresh_table schema) new_one.1
      | inr other ↦ subst IsSome (sym other.1) (k.all t (behind seen C (root.Create t) (λ is. other.0 (one_table table t is)) here))
    ];
    seen_parts = λ t. subst (All (λ (x : Kept (Part F)). IsSeen read (seen ++ C ∷ []) t x.name)) (same_parts t)
        (All-weaker (λ (x : Kept (Part F)). IsSeen read seen t x.name) (λ (x : Kept (Part F)). IsSeen read (seen ++ C ∷ []) t x.name) (λ x. seen_more read seen C t x.name) (parts_of old.set t) (k.seen_parts t));
    may = λ t x at. subst (All (λ (y : Kept (Part F)). MayHavePartition x.schema y.name.partition)) (same_parts t) (elim (either_table old.tables new.tables table t (Some (fresh_table schema)) updates) [
      | inl here ↦ subst (All (λ (y : Kept (Part F)). MayHavePartition x.schema y.name.partition)) (sym (subst (λ (u : List ℕ). parts_of old.set u ≡ []) here.0 no_parts)) (All-nil (λ (y : Kept (Part F)). MayHavePartition x.schema y.name.partition))
      | inr other ↦ k.may t x (sym other.1 ∙ at)
    ]);
    all_parts = λ p visible here. subst (λ (xs : List (Kept (Part F))). HasName xs p.name) (same_parts p.table) (k.all_parts p visible (no_more p.table p refl visible here));
    order = λ t. subst (λ (xs : List (Kept (Part F))). IsInBlockOrder xs) (same_parts t) (k.order t);
    no_other = λ t none. elim (either_table old.tables new.tables table t (Some (fresh_table schema)) updates) [
      | inl here ↦ absurd (not_both (table_at new t) (fresh_table schema) here.1 none)
      | inr other ↦ sym (same_parts t) ∙ k.no_other t (sym other.1 ∙ none)
    ];
    idle = λ t. subst (All (λ (y : Kept (Part F)). y.busy ≡ false)) (same_parts t) (k.idle t);
    mutations = λ t. ap (λ (queue : Mutations). mutations_of queue t) queues ∙ k.mutations t;
  }

  pub table_told : (files_of : F → Option Files) (names : Names) → HasFolder names (create_name table) (EntryHolds table schema) → KeepsTold files_of names read seen old → KeepsTold files_of names read (seen ++ C ∷ []) new
  table_told files_of names folder told = record {
    entries = λ t x at. elim (either_table old.tables new.tables table t (Some (fresh_table schema)) updates) [
      | inl here ↦ (
          let is = one_some (table_at new t) (fresh_table schema) x here.1 at in
          subst (λ (y : Table). HasFolder names (create_name t) (EntryHolds t y.schema)) is (subst (λ (u : List ℕ). HasFolder names (create_name u) (EntryHolds u schema)) here.0 folder)
          )
      | inr other ↦ told.entries t x (sym other.1 ∙ at)
    ];
    kept = λ t x at. subst (All (IsKeptOf files_of names t x.schema)) (same_parts t) (elim (either_table old.tables new.tables table t (Some (fresh_table schema)) updates) [
      | inl here ↦ subst (All (IsKeptOf files_of names t x.schema)) (sym (subst (λ (u : List ℕ). parts_of old.set u ≡ []) here.0 no_parts)) (All-nil (IsKeptOf files_of names t x.schema))
      | inr other ↦ told.kept t x (sym other.1 ∙ at)
    ]);
    sound = All-push (λ (n : RootName). (files : Files) (f : FileId) → files_at (root_text n) names ≡ Some files → IsDamaged names read n files f → ⊥) seen C told.sound
        (λ files f there damaged. damaged.0 schema (subst (EntryHolds table schema) (one_some (files_at (create_name table) names) folder.files files folder.there there) folder.holds));
  }

-- ---- a visible part

-- the same table, with another last number
abbrev pub drawn_to : Table → ℕ → Table
drawn_to t n = record { schema = t.schema; drawn = n }

module _ {F : Type 0} (read seen : List RootName) (old new : CoreStore F) (part : TablePart) (checked : Part F) (t0 : Table) (n : ℕ) (at0 : table_at old part.table ≡ Some t0)
    (updates : Updates (slice_cmp nat_cmp) old.tables new.tables part.table (Some (drawn_to t0 n)))
    (added : IsAdded (parts_of old.set part.table) (record { name = part.name; part = checked; busy = false }) (parts_of new.set part.table))
    (others : (t : List ℕ) → t ≢ part.table → parts_of new.set t ≡ parts_of old.set t) (may : MayHavePartition t0.schema part.name.partition) where
  abbrev P : RootName
  P = root.Part part

  abbrev K : Kept (Part F)
  K = record { name = part.name; part = checked; busy = false }

  other_parts : (t : List ℕ) → (part.table ≡ t → ⊥) → parts_of old.set t ≡ parts_of new.set t
  other_parts t apart = sym (others t (λ same. apart (sym same)))

  module _ (visible : IsVisible read part) (k : Keeps read seen old) where
    new_seen : IsSeen read (seen ++ P ∷ []) part.table part.name
    new_seen = record { visible = visible; here = Contains-push seen P }

    table_seen : t0.drawn ≤ n → part.name.max_block ≤ n → (n ≡ t0.drawn) ⊎ (n ≡ part.name.max_block) → IsSeenTable read (seen ++ P ∷ []) part.table (drawn_to t0 n)
    table_seen above ends is =
        let s = k.known part.table t0 at0 in
        record {
          here = front seen P (root.Create part.table) s.here;
          schema = s.schema;
          drawn = record {
            most = λ p shown here own. elim (Contains-push_cases seen P (root.Part p) here) [
              | inl before ↦ (let less = s.drawn.most p shown before own in omega (arith, less, above))
              | inr now ↦ (let same : part.name.max_block ≡ p.name.max_block = ap (λ (q : TablePart). q.name.max_block) (one_part part p now) in omega (arith, same, ends))
            ];
            drawn = elim is [
              | inl same ↦ elim s.drawn.drawn [ inl none ↦ inl (same ∙ none) | inr some ↦ inr (some.0, some.1, some.2, some.3 ∙ sym same) ]
              | inr last ↦ inr (part, visible, refl, sym last)
            ];
          };
        }

    back : (t : List ℕ) → (part.table ≡ t → ⊥) → NoMore read seen P t
    back t apart p own shown here = behind seen P (root.Part p) (λ now. apart (ap (λ (q : TablePart). q.table) (one_part part p now) ∙ own)) here

    name_there : (p : TablePart) → HasName (parts_of old.set p.table) p.name → HasName (parts_of new.set p.table) p.name
    name_there p has = elim (either_table old.tables new.tables part.table p.table (Some (drawn_to t0 n)) updates) [
      | inl here ↦ subst (λ (t : List ℕ). HasName (parts_of new.set t) p.name) here.0
          (name_kept (parts_of old.set part.table) (parts_of new.set part.table) K p.name added (subst (λ (t : List ℕ). HasName (parts_of old.set t) p.name) (sym here.0) has))
      | inr other ↦ subst (λ (xs : List (Kept (Part F))). HasName xs p.name) (other_parts p.table other.0) has
    ]

    pub part_kept : t0.drawn ≤ n → part.name.max_block ≤ n → (n ≡ t0.drawn) ⊎ (n ≡ part.name.max_block) → IsInBlockOrder (parts_of new.set part.table) → new.mutations ≡ old.mutations → Keeps read (seen ++ P ∷ []) new
    part_kept above ends is ordered queues = record {
      known = λ t x at. elim (either_table old.tables new.tables part.table t (Some (drawn_to t0 n)) updates) [
        | inl here ↦ (
            let one = one_some (table_at new t) (drawn_to t0 n) x here.1 at in
            subst (IsSeenTable read (seen ++ P ∷ []) t) one (subst (λ (u : List ℕ). IsSeenTable read (seen ++ P ∷ []) u (drawn_to t0 n)) here.0 (table_seen above ends is))
            )
        | inr other ↦ table_more read seen P t x (back t other.0) (k.known t x (sym other.1 ∙ at))
      ];
      all = λ t here. elim (either_table old.tables new.tables part.table t (Some (drawn_to t0 n)) updates) [
        | inl now ↦ is_there (table_at new t) (drawn_to t0 n) now.1
        | inr other ↦ subst IsSome (sym other.1) (k.all t (behind seen P (root.Create t) (no_table part t) here))
      ];
      seen_parts = λ t.
          let more = λ (u : List ℕ). All-weaker (λ (x : Kept (Part F)). IsSeen read seen u x.name) (λ (x : Kept (Part F)). IsSeen read (seen ++ P ∷ []) u x.name) (λ x. seen_more read seen P u x.name) (parts_of old.set u) (k.seen_parts u) in
          elim (either_table old.tables new.tables part.table t (Some (drawn_to t0 n)) updates) [
            | inl here ↦ subst (λ (u : List ℕ). All (λ (x : Kept (Part F)). IsSeen read (seen ++ P ∷ []) u x.name) (parts_of new.set u)) here.0
                (all_added (λ (x : Kept (Part F)). IsSeen read (seen ++ P ∷ []) part.table x.name) (parts_of old.set part.table) (parts_of new.set part.table) K added (more part.table) new_seen)
            | inr other ↦ subst (All (λ (x : Kept (Part F)). IsSeen read (seen ++ P ∷ []) t x.name)) (other_parts t other.0) (more t)
          ];
      may = λ t x at. elim (either_table old.tables new.tables part.table t (Some (drawn_to t0 n)) updates) [
        | inl here ↦ (
            let one = one_some (table_at new t) (drawn_to t0 n) x here.1 at in
            let all = all_added (λ (y : Kept (Part F)). MayHavePartition t0.schema y.name.partition) (parts_of old.set part.table) (parts_of new.set part.table) K added (k.may part.table t0 at0) may in
            subst (λ (z : Table). All (λ (y : Kept (Part F)). MayHavePartition z.schema y.name.partition) (parts_of new.set t)) one
            (subst (λ (u : List ℕ). All (λ (y : Kept (Part F)). MayHavePartition t0.schema y.name.partition) (parts_of new.set u)) here.0 all)
            )
        | inr other ↦ subst (All (λ (y : Kept (Part F)). MayHavePartition x.schema y.name.partition)) (other_parts t other.0) (k.may t x (sym other.1 ∙ at))
      ];
      all_parts = λ p shown here. elim (Contains-push_cases seen P (root.Part p) here) [
        | inl before ↦ name_there p (k.all_parts p shown before)
        | inr now ↦ subst (λ (q : TablePart). HasName (parts_of new.set q.table) q.name) (one_part part p now) (name_new (parts_of old.set part.table) (parts_of new.set part.table) K added)
      ];
      order = λ t. elim (either_table old.tables new.tables part.table t (Some (drawn_to t0 n)) updates) [
        | inl here ↦ subst (λ (u : List ℕ). IsInBlockOrder (parts_of new.set u)) here.0 ordered
        | inr other ↦ subst (λ (xs : List (Kept (Part F))). IsInBlockOrder xs) (other_parts t other.0) (k.order t)
      ];
      no_other = λ t none. elim (either_table old.tables new.tables part.table t (Some (drawn_to t0 n)) updates) [
        | inl here ↦ absurd (not_both (table_at new t) (drawn_to t0 n) here.1 none)
        | inr other ↦ sym (other_parts t other.0) ∙ k.no_other t (sym other.1 ∙ none)
      ];
      idle = λ t. elim (either_table old.tables new.tables part.table t (Some (drawn_to t0 n)) updates) [
        | inl here ↦ subst (λ (u : List ℕ). All (λ (y : Kept (Part F)). y.busy ≡ false) (parts_of new.set u)) here.0
            (all_added (λ (y : Kept (Part F)). y.busy ≡ false) (parts_of old.set part.table) (parts_of new.set part.table) K added (k.idle part.table) refl)
        | inr other ↦ subst (All (λ (y : Kept (Part F)). y.busy ≡ false)) (other_parts t other.0) (k.idle t)
      ];
      mutations = λ t. ap (λ (queue : Mutations). mutations_of queue t) queues ∙ k.mutations t;
    }

  module _ (files_of : F → Option Files) (names : Names) (r : IsPartRead files_of names (root_text P) t0.schema checked) (told : KeepsTold files_of names read seen old) where
    not_damaged : (files : Files) (f : FileId) → files_at (root_text P) names ≡ Some files → IsDamaged names read P files f → ⊥
    not_damaged files f there damaged =
        let schema = folders_agree names (create_name part.table) part.table damaged.1.0 t0.schema damaged.1.1 (told.entries part.table t0 at0) in
        elim damaged.1.2 [
          | inl other ↦ other.0 (subst (λ (y : Schema). MayHavePartition y part.name.partition) (sym schema) may)
          | inr bad ↦ (
              let one = one_some (files_at (root_text P) names) files r.files there r.there in
              let sound = r.sound in
              let e = bad.1 in
              cc
              )
        ]

    pub part_told : KeepsTold files_of names read (seen ++ P ∷ []) new
    part_told = record {
      entries = λ t x at. elim (either_table old.tables new.tables part.table t (Some (drawn_to t0 n)) updates) [
        | inl here ↦ (
            let one = one_some (table_at new t) (drawn_to t0 n) x here.1 at in
            subst (λ (y : Table). HasFolder names (create_name t) (EntryHolds t y.schema)) one (subst (λ (u : List ℕ). HasFolder names (create_name u) (EntryHolds u t0.schema)) here.0 (told.entries part.table t0 at0))
            )
        | inr other ↦ told.entries t x (sym other.1 ∙ at)
      ];
      kept = λ t x at. elim (either_table old.tables new.tables part.table t (Some (drawn_to t0 n)) updates) [
        | inl here ↦ (
            let one = one_some (table_at new t) (drawn_to t0 n) x here.1 at in
            let all = all_added (IsKeptOf files_of names part.table t0.schema) (parts_of old.set part.table) (parts_of new.set part.table) K added (told.kept part.table t0 at0)
            (record { files = r.files; there = r.there; told = r.told; loaded = r.loaded }) in
            subst (λ (y : Table). All (IsKeptOf files_of names t y.schema) (parts_of new.set t)) one (subst (λ (u : List ℕ). All (IsKeptOf files_of names u t0.schema) (parts_of new.set u)) here.0 all)
            )
        | inr other ↦ subst (All (IsKeptOf files_of names t x.schema)) (other_parts t other.0) (told.kept t x (sym other.1 ∙ at))
      ];
      sound = All-push (λ (m : RootName). (files : Files) (f : FileId) → files_at (root_text m) names ≡ Some files → IsDamaged names read m files f → ⊥) seen P told.sound not_damaged;
    }

-- a damaged file of a visible part's folder is damage of its name
pub part_damaged : {F : Type 0} (files_of : F → Option Files) (names : Names) (read seen : List RootName) (store : CoreStore F) (part : TablePart) (t0 : Table) → table_at store part.table ≡ Some t0 → IsVisible read part
    → KeepsTold files_of names read seen store → (files : Files) (f : FileId) → PartDamaged t0.schema part files f → IsDamaged names read (root.Part part) files f
part_damaged files_of names read seen store part t0 at0 visible told files f bad = (visible, (t0.schema, told.entries part.table t0 at0, bad))

-- no file of a hidden part is damage
pub passed_told : {F : Type 0} (read seen : List RootName) (part : TablePart) (store : CoreStore F) → (IsVisible read part → ⊥) → (files_of : F → Option Files) (names : Names) → KeepsTold files_of names read seen store → KeepsTold files_of names read (seen ++ root.Part part ∷ []) store
passed_told read seen part store hidden files_of names told = record {
  entries = told.entries;
  kept = told.kept;
  sound = All-push (λ (m : RootName). (files : Files) (f : FileId) → files_at (root_text m) names ≡ Some files → IsDamaged names read m files f → ⊥) seen (root.Part part) told.sound (λ files f there damaged. hidden damaged.0);
}
