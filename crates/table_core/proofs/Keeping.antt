-- What always holds of the store, after one more event.
use Rattle.std.proofs.Common.{◌≡◌, ℕ, ◌+◌, ◌<◌, ◌≤◌, Bool, true, false, cond, ◌||◌, List, [], ◌∷◌, ◌++◌, Option, Some, None, length, map, filter, slice_get, get_or, take, All, is_some, refl, sym, ap, ap₂, ◌∙◌, subst, append_assoc, append-nil, length-append, arith, rules, inl, inr, ◌⊎◌}
use Rattle.std.specs.Prelude.{IfNone, IfSome, IsSome}
use Rattle.std.specs.List.{AllByRecursion, list_any}
use Rattle.std.specs.Map.{values_of}
use Rattle.std.proofs.Math.Seq.{get_or-append_seam}
use Rattle.std.proofs.lemmas.Bool.{cases_lt}
use Rattle.std.proofs.lemmas.List.{get_or_default, length-map, map-append}
use Rattle.std.proofs.lemmas.List.Concat.{flat_map-append}
use Rattle.std.proofs.lemmas.List.Elements.{All-from_recursion, All-nil, All-push, All-weaker, filter-append, recursion_from_All}
use Rattle.std.proofs.lemmas.List.Kept.{AllPairs-cons}
use Rattle.indexmap.specs.IndexMap.{set_value_at}
use Rattle.mt_values.specs.declared.command.Alter.{Alter}
use Rattle.mt_values.specs.declared.command.Command.{Command}
use Rattle.mt_values.specs.declared.command.Command.TheVariants as command
use Rattle.mt_values.specs.declared.command.Create.{Create}
use Rattle.mt_values.specs.declared.command.Entry.{Entry}
use Rattle.mt_values.specs.declared.command.Insert.{Insert}
use Rattle.mt_values.specs.declared.mutation.Mutation.{Mutation}
use Rattle.mt_values.specs.declared.schema.Column.{Column}
use Rattle.mt_values.specs.declared.schema.Schema.{Schema}
use Rattle.mt_values.specs.declared.value.ColType.{ColType}
use Rattle.mt_values.specs.Grammar.{same_bytes}
use Rattle.mt_values.specs.Grid.{IsOrderBy, picked}
use Rattle.mt_values.specs.Order.{key_cmp}
use Rattle.mt_values.specs.Tables.{sorting_columns}
use Rattle.mt_values.specs.Values.{Row}
use Rattle.mt_values.proofs.Grids.{filter_map_more}
use Rattle.part_history.specs.mt_model.History.{History, IsAllowed, IsInsertInto, IsLegal, IsLegalAfter, IsTableSchema, creates, entered, first_of, is_create, schema_by, schema_of}
use Rattle.part_history.specs.mt_model.Mutations.{IsChangeOf}
use Rattle.part_history.specs.mt_model.Live.{sorted}
use Rattle.part_history.proofs.MtModelDetermined.{key_total}
use Rattle.part_history.proofs.MtModelHistories.{numbered_more, schema_kept, schema_more}
use Rattle.part_history.proofs.MtModelOwnColumns.{sorting_own}
use Rattle.part_history.proofs.MtModelSameKeys.{stable_is_sorted}
use Rattle.part_history.proofs.MtModelTables.{itself_same, same_is}
use Rattle.part_history.specs.part_name.declared.part.PartName.{PartName}
use Rattle.part_history.specs.part_name.Merged.{merged_name, rewritten}
use Rattle.part_history.specs.part_name.Pending.{Rise}
use Rattle.mutation_queue.specs.Queue.{mutations_of}
use Rattle.part_history.specs.declared.part.CorePart.{CorePart}
use Rattle.part_history.specs.Merges.{names_of}
use Rattle.table_core.specs.declared.event.Guard.TheVariants as guard
use Rattle.table_core.specs.declared.event.Put.{Put}
use Rattle.table_core.specs.declared.event.Outcome.TheVariants as outcome
use Rattle.table_core.specs.declared.event.Task.{Task}
use Rattle.table_core.specs.declared.event.Task.TheVariants as task
use Rattle.table_core.specs.declared.snapshot.Snapshot.{Snapshot}
use Rattle.table_core.specs.declared.store.Run.{Run}
use Rattle.table_core.specs.declared.store.Store.{Store}
use Rattle.table_core.specs.declared.store.Table.{Table}
use Rattle.table_core.specs.Core.{Core, IsCore, IsSnapshot, empty_core}
use Rattle.part_history.specs.mt_model.Numbers.{draws, mutations_among, mutations_in, numbered}
use Rattle.part_history.specs.Parts.{AreInBlockOrder, PartStands, TableStands, core_parts_of}
use Rattle.part_history.specs.Entered.{part_of_insert, parts_after, parts_upto, with_part}
use Rattle.table_core.specs.Steps.{AcceptsInsert, AddsPart, AlterGives, AreMade, FitsLevel, HasNeighbours, MayJoin, MayJoinHere, MayPut, PutGives, PutsPart, beside, name_made, names_put, part_of_put, snapshot_of, sources_among}
use Rattle.table_core.specs.Store.{AddsMutation, AddsTable, IsNotNamed, IsStore, Named, SameTables, RunStands, StandsAt, TableKept, core_of, drawn_table, empty_table, grown_table, name_by, parts_of_tables, swapped_table, table_names}
use Rattle.part_history.proofs.Merging.{all_swapped}
use Rattle.part_history.proofs.Growing.{drawn_apart, drawn_here, mutations_inserted, mutations_still, placed_all}
use Rattle.part_history.proofs.Numbered.{legal_schema}
use Rattle.part_history.proofs.Ordered.{order_grown, parts_parted}
use Rattle.part_history.proofs.Settled.{among_more}
use Rattle.table_core.proofs.Neighbours.{run_swapped, sources_length}
use Rattle.table_core.proofs.Stepping.{alter_core, create_core, insert_core, put_core, take_core}
use Rattle.table_core.proofs.Stored.{one_value, same_turned, set_here, slice_here}

-- ---- histories

names_more : (h more : History) → table_names (h ++ more) ≡ table_names h ++ table_names more
names_more [] more = refl
names_more (e ∷ h) more = ap (λ (ns : List (List ℕ)). name_by e.command ++ ns) (names_more h more) ∙ sym (append_assoc (name_by e.command) (table_names h) (table_names more))

creates_by : (c : Command) (e : Entry) (h : History) → length (cond (is_create c) (e ∷ h) h) ≡ length (name_by c) + length h
creates_by (command.Create c) e h = omega arith
creates_by (command.Insert i) e h = omega arith
creates_by (command.Alter a) e h = omega arith

-- as many tables were made as there are names
creates_are : (h : History) → creates h ≡ length (table_names h)
creates_are [] = refl
creates_are (e ∷ h) =
    creates_by e.command e (filter (λ (x : Entry). is_create x.command) h)
    ∙ (ap (λ n. length (name_by e.command) + n) (creates_are h) ∙ sym (length-append (name_by e.command) (table_names h)))

there_by : (t : List ℕ) (c : Command) (o : Option Schema) (ts : List (List ℕ)) → is_some o ≡ list_any (λ u. same_bytes u t) ts → is_some (first_of (schema_by t c) o) ≡ list_any (λ u. same_bytes u t) (name_by c ++ ts)
there_by t (command.Create c) o ts is =
    elim (same_bytes c.table t) as (λ b. is_some (first_of (cond b (Some c.schema) None) o) ≡ (b || list_any (λ u. same_bytes u t) ts)) [ true ↦ refl | false ↦ is ]
there_by t (command.Insert i) o ts is = is
there_by t (command.Alter a) o ts is = is

-- which tables there are
there : (t : List ℕ) (h : History) → is_some (schema_of t h) ≡ list_any (λ u. same_bytes u t) (table_names h)
there t [] = refl
there t (e ∷ h) = there_by t e.command (schema_of t h) (table_names h) (there t h)

none_from : {X : Type 0} (o : Option X) → is_some o ≡ false → o ≡ None
none_from None h = refl
none_from (Some x) h = cc

none_after : (t : List ℕ) (before h : History) → IsLegalAfter before h → schema_of t (before ++ h) ≡ None → numbered t h ≡ []
none_after t before [] legal none = refl
none_after t before (e ∷ h) legal none = by e.command refl legal.0 (none_after t (before ++ e ∷ []) h legal.1 (ap (schema_of t) (append_assoc before (e ∷ []) h) ∙ none))
  where
    by : (c : Command) → e.command ≡ c → IsAllowed before c → numbered t h ≡ [] → cond (draws t c) (c ∷ numbered t h) (numbered t h) ≡ []
    by (command.Create c) is allowed rest = rest
    by (command.Insert i) is allowed rest = named (same_bytes i.table t) refl
      where
        named : (b : Bool) → same_bytes i.table t ≡ b → cond b (command.Insert i ∷ numbered t h) (numbered t h) ≡ []
        named true same =
            let here : schema_of t before ≡ Some allowed.0 = ap (λ u. schema_of u before) (sym (same_is i.table t same)) ∙ allowed.1 in
            let found : None ≡ Some allowed.0 = sym none ∙ schema_kept t before (e ∷ h) allowed.0 here in
            cc
        named false apart = rest
    by (command.Alter a) is allowed rest = named (same_bytes a.table t) refl
      where
        named : (b : Bool) → same_bytes a.table t ≡ b → cond b (command.Alter a ∷ numbered t h) (numbered t h) ≡ []
        named true same =
            let here : schema_of t before ≡ Some allowed.0 = ap (λ u. schema_of u before) (sym (same_is a.table t same)) ∙ allowed.1 in
            let found : None ≡ Some allowed.0 = sym none ∙ schema_kept t before (e ∷ h) allowed.0 here in
            cc
        named false apart = rest

-- without its table no command drew a number
pub none_numbered : (t : List ℕ) (h : History) → IsLegal h → schema_of t h ≡ None → numbered t h ≡ []
none_numbered t h legal none = none_after t [] h legal none

-- ---- mutations of histories

-- a mutation comes after those of its table, with the next number
mutations_altered : (h : History) (session : ℕ) (a : Alter) → mutations_in a.table (h ++ record { session = session; command = command.Alter a } ∷ [])
    ≡ mutations_in a.table h ++ record { number = length (numbered a.table h) + 1; change = a.change } ∷ []
mutations_altered h session a =
    let e : Entry = record { session = session; command = command.Alter a } in
    let turn : 1 + length (numbered a.table h) ≡ length (numbered a.table h) + 1 = omega arith in
    ap (mutations_among 1) (numbered_more a.table h (e ∷ []) ∙ ap (λ (b : Bool). numbered a.table h ++ cond b (command.Alter a ∷ []) []) (itself_same a.table))
    ∙ (among_more 1 (numbered a.table h) (command.Alter a ∷ [])
    ∙ ap (λ (n : ℕ). mutations_in a.table h ++ record { number = n; change = a.change } ∷ []) turn)

-- no mutation has a number above the last that was drawn
numbers_below : (n : ℕ) (cs : List Command) → AllByRecursion (λ (m : Mutation). m.number < n + length cs) (mutations_among n cs)
numbers_below n [] = tt
numbers_below n (c ∷ cs) = by c (subst (λ (k : ℕ). AllByRecursion (λ (m : Mutation). m.number < k) (mutations_among (n + 1) cs)) (next c) (numbers_below (n + 1) cs))
  where
    next : (c : Command) → (n + 1) + length cs ≡ n + length (c ∷ cs)
    next c = omega arith

    by : (c : Command) → AllByRecursion (λ (m : Mutation). m.number < n + length (c ∷ cs)) (mutations_among (n + 1) cs) → AllByRecursion (λ (m : Mutation). m.number < n + length (c ∷ cs)) (mutations_among n (c ∷ cs))
    by (command.Create x) rest = rest
    by (command.Insert i) rest = rest
    by (command.Alter a) rest = (omega arith, rest)

-- and each has one above those before it
numbers_above : (k n : ℕ) (cs : List Command) → k < n → AllByRecursion (λ (m : Mutation). k < m.number) (mutations_among n cs)
numbers_above k n [] lt = tt
numbers_above k n (c ∷ cs) lt = by c (numbers_above k (n + 1) cs (omega (arith, lt)))
  where
    by : (c : Command) → AllByRecursion (λ (m : Mutation). k < m.number) (mutations_among (n + 1) cs) → AllByRecursion (λ (m : Mutation). k < m.number) (mutations_among n (c ∷ cs))
    by (command.Create x) rest = rest
    by (command.Insert i) rest = rest
    by (command.Alter a) rest = (lt, rest)

rise_among : (n : ℕ) (cs : List Command) → Rise (mutations_among n cs)
rise_among n [] = λ i j d lt within. absurd (omega (arith, lt, within))
rise_among n (c ∷ cs) = by c (rise_among (n + 1) cs)
  where
    above : All (λ (m : Mutation). n < m.number) (mutations_among (n + 1) cs)
    above = All-from_recursion (λ (m : Mutation). n < m.number) (mutations_among (n + 1) cs) (numbers_above n (n + 1) cs (omega arith))

    by : (c : Command) → Rise (mutations_among (n + 1) cs) → Rise (mutations_among n (c ∷ cs))
    by (command.Create x) rest = rest
    by (command.Insert i) rest = rest
    by (command.Alter a) rest = AllPairs-cons (λ (x y : Mutation). x.number < y.number) (record { number = n; change = a.change }) (mutations_among (n + 1) cs) above rest

-- those of a snapshot rise
pub snapshot_rises : (store : Store) (number : ℕ) (s : Snapshot) → IsStore store → number < length store.snapshots.items → s ≡ get_or store.snapshots.items number s → Rise s.mutations
snapshot_rises store number s is below at =
    let h = store.entries.items in
    let one : IsSnapshot h s = subst (IsSnapshot h) (sym at) (is.core.snapshots number s below) in
    subst Rise (sym one.mutations) (rise_among 1 (numbered s.table (take s.length h)))

-- all that a table has are below the next number
pub numbers_before : (t : List ℕ) (h : History) → All (λ (m : Mutation). m.number < length (numbered t h) + 1) (mutations_in t h)
numbers_before t h =
    let turn : 1 + length (numbered t h) ≡ length (numbered t h) + 1 = omega arith in
    All-from_recursion (λ (m : Mutation). m.number < length (numbered t h) + 1) (mutations_in t h)
    (subst (λ (k : ℕ). AllByRecursion (λ (m : Mutation). m.number < k) (mutations_in t h)) turn (numbers_below 1 (numbered t h)))

-- ---- what the tables say of the history

none_named : (t : List ℕ) (ts : List Named) → AllByRecursion (IsNotNamed t) ts → list_any (λ u. same_bytes u t) (map (λ (x : Named). x.0.items) ts) ≡ false
none_named t [] all = refl
none_named t (x ∷ ts) all = ap₂ ◌||◌ all.0 (none_named t ts all.1)

pub core_is : (a b : Core) → a.parts ≡ b.parts → a.history ≡ b.history → a.snapshots ≡ b.snapshots → a ≡ b
core_is a b parts history snapshots = λ j. record { parts = parts j; history = history j; snapshots = snapshots j }

pub same_core : (old new : Store) → SameTables old new → core_of new ≡ core_of old
same_core old new s = core_is (core_of new) (core_of old) (ap parts_of_tables s.tables) s.entries s.snapshots

pub same_store : (old new : Store) → IsStore old → SameTables old new → IsStore new
same_store old new is s = record {
  core = subst IsCore (sym (same_core old new s)) is.core;
  names = ap (map (λ (t : Named). t.0.items)) s.tables ∙ (is.names ∙ ap table_names (sym s.entries));
  each = subst (λ (ts : List Named). All (TableKept new.entries.items) ts) (sym s.tables) (subst (λ (h : History). All (TableKept h) old.tables.entries) (sym s.entries) is.each);
  queue = λ t. s.mutations t ∙ (is.queue t ∙ ap (mutations_in t) (sym s.entries));
}

-- before any event it holds
empty_is : IsCore empty_core
empty_is = record {
  legal = tt;
  parts = λ t. record {
    own = All-nil (λ (p : CorePart). p.table ≡ t);
    each = All-nil (PartStands []);
    once = λ w n is. let none : None ≡ Some (command.Insert is.insert) = is.there in cc;
  };
  order = λ t. search rules;
  snapshots = All-nil (IsSnapshot []);
}

pub empty_store : (store : Store) → store.tables.entries ≡ [] → ((t : List ℕ) → mutations_of store.mutations t ≡ []) → store.entries.items ≡ [] → store.snapshots.items ≡ [] → IsStore store
empty_store store tables queue entries snapshots = record {
  core = subst IsCore (sym (core_is (core_of store) empty_core (ap parts_of_tables tables) entries snapshots)) empty_is;
  names = ap (map (λ (t : Named). t.0.items)) tables ∙ ap table_names (sym entries);
  each = subst (λ (ts : List Named). All (TableKept store.entries.items) ts) (sym tables) (All-nil (TableKept store.entries.items));
  queue = λ t. queue t ∙ ap (mutations_in t) (sym entries);
}

module _ (store : Store) (is : IsStore store) where
  -- a name that no table has is no table's
  pub no_table : (t : List ℕ) → All (IsNotNamed t) store.tables.entries → schema_of t store.entries.items ≡ None
  no_table t none =
      let apart = none_named t store.tables.entries (recursion_from_All (IsNotNamed t) store.tables.entries none) in
      none_from (schema_of t store.entries.items) (there t store.entries.items ∙ (ap (list_any (λ u. same_bytes u t)) (sym is.names) ∙ apart))

  -- as many tables were made as there are
  pub tables_made : creates store.entries.items ≡ length store.tables.entries
  tables_made = creates_are store.entries.items ∙ (ap length (sym is.names) ∙ length-map store.tables.entries (λ (t : Named). t.0.items))

  module _ (t : List ℕ) (place : ℕ) (s : StandsAt store.tables.entries t place) where
    -- the table that stands there
    pub kept_here : TableKept store.entries.items s.here
    kept_here =
        let lt : length s.front < length (s.front ++ s.here ∷ s.back) = omega (arith, length-append s.front (s.here ∷ s.back)) in
        let all : All (TableKept store.entries.items) (s.front ++ s.here ∷ s.back) = subst (All (TableKept store.entries.items)) s.tables_are is.each in
        subst (TableKept store.entries.items) (get_or-append_seam s.front s.here s.back s.here) (all (length s.front) s.here lt)

    pub schema_here : schema_of t store.entries.items ≡ Some s.here.1.schema
    schema_here = ap (λ u. schema_of u store.entries.items) (sym s.name_is) ∙ kept_here.schema_is

    pub last_here : s.here.1.last ≡ length (numbered t store.entries.items)
    last_here = kept_here.last_is ∙ ap (λ u. length (numbered u store.entries.items)) s.name_is

    -- what stands there
    pub place_here : slice_get store.tables.entries place ≡ Some s.here
    place_here =
        ap (λ ts. slice_get ts place) s.tables_are ∙ (ap (slice_get (s.front ++ s.here ∷ s.back)) s.place_is ∙ slice_here s.front s.back s.here)

    -- the table that is read there
    pub read_here : (table : Table) → slice_get (values_of store.tables.entries) place ≡ Some table → table ≡ s.here.1
    read_here table at =
        one_value (slice_get (values_of store.tables.entries) place) table s.here.1 at
        (ap (λ ts. slice_get (values_of ts) place) s.tables_are
        ∙ (ap (slice_get (values_of (s.front ++ s.here ∷ s.back))) (s.place_is ∙ sym (length-map s.front (λ (x : Named). x.1)))
        ∙ (ap (λ vs. slice_get vs (length (map (λ (x : Named). x.1) s.front))) (map-append (λ (x : Named). x.1) s.front (s.here ∷ s.back))
        ∙ slice_here (map (λ (x : Named). x.1) s.front) (map (λ (x : Named). x.1) s.back) s.here.1)))

-- ---- the parts of a table

-- every part is its own table's
abbrev OwnParts : Named → Type 0
OwnParts t = All (λ (p : CorePart). p.table ≡ t.0.items) t.1.parts

pub others_none : (table own : List ℕ) (ps : List CorePart) → same_bytes own table ≡ false → AllByRecursion (λ (p : CorePart). p.table ≡ own) ps → core_parts_of table ps ≡ []
others_none table own [] apart all = refl
others_none table own (p ∷ ps) apart all =
    ap (λ b. cond b (p ∷ core_parts_of table ps) (core_parts_of table ps)) (ap (λ (u : List ℕ). same_bytes u table) all.0 ∙ apart) ∙ others_none table own ps apart all.1

pub own_all : (table : List ℕ) (ps : List CorePart) → AllByRecursion (λ (p : CorePart). p.table ≡ table) ps → core_parts_of table ps ≡ ps
own_all table [] all = refl
own_all table (p ∷ ps) all =
    ap (λ b. cond b (p ∷ core_parts_of table ps) (core_parts_of table ps)) (ap (λ (u : List ℕ). same_bytes u table) all.0 ∙ itself_same table) ∙ ap (λ (qs : List CorePart). p ∷ qs) (own_all table ps all.1)

-- tables of other names have none of its parts
pub parts_apart : (table : List ℕ) (h : History) (ts : List Named) → AllByRecursion (IsNotNamed table) ts → AllByRecursion (TableKept h) ts → core_parts_of table (parts_of_tables ts) ≡ []
parts_apart table h [] apart kept = refl
parts_apart table h (t ∷ ts) apart kept =
    filter-append (λ (p : CorePart). same_bytes p.table table) t.1.parts (parts_of_tables ts)
    ∙ ap₂ (λ (xs ys : List CorePart). xs ++ ys)
    (others_none table t.0.items t.1.parts apart.0 (recursion_from_All (λ (p : CorePart). p.table ≡ t.0.items) t.1.parts kept.0.own)) (parts_apart table h ts apart.1 kept.1)

all_left : {X : Type 0} (P : X → Type 0) (xs ys : List X) → AllByRecursion P (xs ++ ys) → AllByRecursion P xs
all_left P [] ys all = tt
all_left P (x ∷ xs) ys all = (all.0, all_left P xs ys all.1)

all_right : {X : Type 0} (P : X → Type 0) (xs ys : List X) → AllByRecursion P (xs ++ ys) → AllByRecursion P ys
all_right P [] ys all = all
all_right P (x ∷ xs) ys all = all_right P xs ys all.1

all_both : {X : Type 0} (P : X → Type 0) (xs ys : List X) → AllByRecursion P xs → AllByRecursion P ys → AllByRecursion P (xs ++ ys)
all_both P [] ys one two = two
all_both P (x ∷ xs) ys one two = (one.0, all_both P xs ys one.1 two)

-- the parts of a table among tables of other names
parts_between : (t : List ℕ) (h : History) (front back : List Named) (here : Named) → AllByRecursion (IsNotNamed t) front → AllByRecursion (IsNotNamed t) back
    → AllByRecursion (TableKept h) front → AllByRecursion (TableKept h) back → All (λ (p : CorePart). p.table ≡ t) here.1.parts → core_parts_of t (parts_of_tables (front ++ here ∷ back)) ≡ here.1.parts
parts_between t h front back here before behind first last own =
    let f : CorePart → Bool = λ p. same_bytes p.table t in
    ap (core_parts_of t) (flat_map-append (λ (x : Named). x.1.parts) front (here ∷ back))
    ∙ (filter-append f (parts_of_tables front) (here.1.parts ++ parts_of_tables back)
    ∙ (ap₂ (λ (xs ys : List CorePart). xs ++ ys) (parts_apart t h front before first)
    (filter-append f here.1.parts (parts_of_tables back)
    ∙ ap₂ (λ (xs ys : List CorePart). xs ++ ys) (own_all t here.1.parts (recursion_from_All (λ (p : CorePart). p.table ≡ t) here.1.parts own)) (parts_apart t h back behind last))
    ∙ append-nil here.1.parts))

module _ (store : Store) (is : IsStore store) (t : List ℕ) (place : ℕ) (s : StandsAt store.tables.entries t place) where
  pub kept_all : AllByRecursion (TableKept store.entries.items) (s.front ++ s.here ∷ s.back)
  kept_all = recursion_from_All (TableKept store.entries.items) (s.front ++ s.here ∷ s.back) (subst (All (TableKept store.entries.items)) s.tables_are is.each)

  pub kept_front : AllByRecursion (TableKept store.entries.items) s.front
  kept_front = all_left (TableKept store.entries.items) s.front (s.here ∷ s.back) kept_all

  pub kept_back : AllByRecursion (TableKept store.entries.items) s.back
  kept_back = (all_right (TableKept store.entries.items) s.front (s.here ∷ s.back) kept_all).1

  -- a table's parts are those that it has
  pub parts_here : core_parts_of t (parts_of_tables store.tables.entries) ≡ s.here.1.parts
  parts_here =
      let own : All (λ (p : CorePart). p.table ≡ t) s.here.1.parts = subst (λ (n : List ℕ). All (λ (p : CorePart). p.table ≡ n) s.here.1.parts) s.name_is (kept_here store is t place s).own in
      ap (λ ts. core_parts_of t (parts_of_tables ts)) s.tables_are ∙ parts_between t store.entries.items s.front s.back s.here s.before s.behind kept_front kept_back own

  pub order_here : AreInBlockOrder s.here.1.parts
  order_here = subst AreInBlockOrder parts_here (is.core.order t)

-- ---- a CREATE

table_still : (h : History) (e : Entry) (t : Named) → numbered t.0.items (e ∷ []) ≡ [] → TableKept h t → TableKept (h ++ e ∷ []) t
table_still h e t none k = record {
  schema_is = schema_kept t.0.items h (e ∷ []) t.1.schema k.schema_is;
  last_is = k.last_is ∙ sym (ap length (numbered_more t.0.items h (e ∷ []) ∙ (ap (λ cs. numbered t.0.items h ++ cs) none ∙ append-nil (numbered t.0.items h))));
  own = k.own;
}

module _ (old new : Store) (session : ℕ) (c : Create) (is : IsStore old) (adds : AddsTable c old.tables.entries new.tables.entries)
    (entries : new.entries.items ≡ entered old.entries.items session (command.Create c ∷ [])) (snapshots : new.snapshots.items ≡ old.snapshots.items)
    (mutations : (t : List ℕ) → mutations_of new.mutations t ≡ mutations_of old.mutations t) where
  pub create_is : core_of new ≡ record { parts = parts_of_tables old.tables.entries; history = entered old.entries.items session (command.Create c ∷ []); snapshots = old.snapshots.items }
  create_is =
      core_is (core_of new) (record { parts = parts_of_tables old.tables.entries; history = entered old.entries.items session (command.Create c ∷ []); snapshots = old.snapshots.items })
      (ap parts_of_tables adds.tables_are
      ∙ (flat_map-append (λ (t : Named). t.1.parts) old.tables.entries ((adds.key, empty_table c.schema) ∷ []) ∙ append-nil (parts_of_tables old.tables.entries)))
      entries snapshots

  pub create_store : IsTableSchema c.schema → schema_of c.table old.entries.items ≡ None → creates old.entries.items < 65536 → IsStore new
  create_store schema absent few =
      let e : Entry = record { session = session; command = command.Create c } in
      let h = old.entries.items in
      let made : Named = (adds.key, empty_table c.schema) in
      let name = λ (t : Named). t.0.items in
      let none : schema_of adds.key.items h ≡ None = ap (λ u. schema_of u h) adds.key_is ∙ absent in
      let new_table : TableKept (h ++ e ∷ []) made = record {
        schema_is = schema_more adds.key.items h (e ∷ [])
            ∙ (ap (λ o. first_of o (schema_of adds.key.items (e ∷ []))) none
            ∙ ap (λ b. first_of (cond b (Some c.schema) None) None) (ap (same_bytes c.table) adds.key_is ∙ itself_same c.table));
        last_is = sym (ap length (numbered_more adds.key.items h (e ∷ []) ∙ (append-nil (numbered adds.key.items h) ∙ none_numbered adds.key.items h is.core.legal none)));
        own = All-nil (λ (p : CorePart). p.table ≡ adds.key.items);
      } in
      let all : All (TableKept (h ++ e ∷ [])) (old.tables.entries ++ made ∷ []) =
      All-push (TableKept (h ++ e ∷ [])) old.tables.entries made (All-weaker (TableKept h) (TableKept (h ++ e ∷ [])) (λ t k. table_still h e t refl k) old.tables.entries is.each) new_table in
      record {
        core = subst IsCore (sym create_is) (create_core (core_of old) session c is.core schema absent few);
        names = ap (map name) adds.tables_are
            ∙ (map-append name old.tables.entries (made ∷ [])
            ∙ (ap₂ (λ (ns : List (List ℕ)) (n : List ℕ). ns ++ n ∷ []) is.names adds.key_is ∙ (sym (names_more h (e ∷ [])) ∙ ap table_names (sym entries))));
        each = subst (λ (ts : List Named). All (TableKept new.entries.items) ts) (sym adds.tables_are) (subst (λ (x : History). All (TableKept x) (old.tables.entries ++ made ∷ [])) (sym entries) all);
        queue = λ t. mutations t ∙ (is.queue t ∙ (sym (mutations_still t h e refl) ∙ ap (mutations_in t) (sym entries)));
      }

-- ---- an INSERT

module _ (old new : Store) (session : ℕ) (i : Insert) (place number : ℕ) (is : IsStore old) (s : StandsAt old.tables.entries i.table place)
    (drawn : number ≡ length (numbered i.table old.entries.items) + 1) (fits : number ≤ 4294967295)
    (tables : new.tables.entries ≡ set_value_at old.tables.entries place (grown_table s.here.1 (part_of_insert s.here.1.schema number i) number))
    (entries : new.entries.items ≡ entered old.entries.items session (command.Insert i ∷ [])) (snapshots : new.snapshots.items ≡ old.snapshots.items)
    (mutations : (t : List ℕ) → mutations_of new.mutations t ≡ mutations_of old.mutations t) where
  abbrev part : CorePart
  part = part_of_insert s.here.1.schema number i

  abbrev grown : Named
  grown = (s.here.0, grown_table s.here.1 part number)

  abbrev upto : List CorePart
  upto = parts_upto i.partition s.here.1.parts

  abbrev later : List CorePart
  later = parts_after i.partition s.here.1.parts

  tables_now : new.tables.entries ≡ s.front ++ grown ∷ s.back
  tables_now =
      tables
      ∙ (ap₂ (λ (ts : List Named) (k : ℕ). set_value_at ts k (grown_table s.here.1 part number)) s.tables_are s.place_is ∙ set_here s.front s.back s.here (grown_table s.here.1 part number))

  -- its place is after the parts of its partition
  parted : upto ++ later ≡ s.here.1.parts
  parted = parts_parted i.partition s.here.1.parts (order_here old is i.table place s)

  old_are : parts_of_tables old.tables.entries ≡ (parts_of_tables s.front ++ upto) ++ (later ++ parts_of_tables s.back)
  old_are =
      ap parts_of_tables s.tables_are
      ∙ (flat_map-append (λ (t : Named). t.1.parts) s.front (s.here ∷ s.back)
      ∙ (ap (λ (ps : List CorePart). parts_of_tables s.front ++ (ps ++ parts_of_tables s.back)) (sym parted)
      ∙ (ap (λ (ps : List CorePart). parts_of_tables s.front ++ ps) (append_assoc upto later (parts_of_tables s.back))
      ∙ sym (append_assoc (parts_of_tables s.front) upto (later ++ parts_of_tables s.back)))))

  new_are : parts_of_tables new.tables.entries ≡ (parts_of_tables s.front ++ upto) ++ part ∷ (later ++ parts_of_tables s.back)
  new_are =
      ap parts_of_tables tables_now
      ∙ (flat_map-append (λ (t : Named). t.1.parts) s.front (grown ∷ s.back)
      ∙ (ap (λ (ps : List CorePart). parts_of_tables s.front ++ ps) (append_assoc upto (part ∷ later) (parts_of_tables s.back))
      ∙ sym (append_assoc (parts_of_tables s.front) upto (part ∷ (later ++ parts_of_tables s.back)))))

  own_grown : All (λ (p : CorePart). p.table ≡ s.here.0.items) (with_part part s.here.1.parts)
  own_grown =
      let mine : CorePart → Type 0 = λ p. p.table ≡ s.here.0.items in
      placed_all mine upto later part
      (subst (λ (ps : List CorePart). All mine (ps ++ part ∷ [])) (sym parted) (All-push mine s.here.1.parts part (kept_here old is i.table place s).own (sym s.name_is)))

  ordered : AreInBlockOrder (core_parts_of i.table (parts_of_tables new.tables.entries))
  ordered =
      let h = old.entries.items in
      let now : core_parts_of i.table (parts_of_tables new.tables.entries) ≡ with_part part s.here.1.parts =
      ap (λ ts. core_parts_of i.table (parts_of_tables ts)) tables_now
      ∙ parts_between i.table h s.front s.back grown s.before s.behind (kept_front old is i.table place s) (kept_back old is i.table place s) (subst (λ (n : List ℕ). All (λ (p : CorePart). p.table ≡ n) (with_part part s.here.1.parts)) s.name_is own_grown) in
      let stand = subst (λ (ps : List CorePart). TableStands i.table ps h) (parts_here old is i.table place s) (is.core.parts i.table) in
      subst AreInBlockOrder (sym now)
      (subst (λ n. AreInBlockOrder (with_part (part_of_insert s.here.1.schema n i) s.here.1.parts)) (sym drawn)
      (order_grown h i s.here.1.schema s.here.1.parts stand (order_here old is i.table place s)))

  adds_part : AddsPart part (parts_of_tables old.tables.entries) (parts_of_tables new.tables.entries)
  adds_part = record { front = parts_of_tables s.front ++ upto; behind = later ++ parts_of_tables s.back; old_is = old_are; new_is = new_are; order = ordered }

  pub insert_accepted : AcceptsInsert (core_of old) session i (length old.entries.items + 1) (core_of new)
  insert_accepted = record {
    schema = s.here.1.schema;
    there = schema_here old is i.table place s;
    room = omega (arith, drawn, fits);
    place_is = refl;
    parts = subst (λ n. AddsPart (part_of_insert s.here.1.schema n i) (parts_of_tables old.tables.entries) (parts_of_tables new.tables.entries)) drawn adds_part;
    history = entries;
    snapshots = snapshots;
  }

  abbrev e : Entry
  e = record { session = session; command = command.Insert i }

  others_still : (ts : List Named) → AllByRecursion (IsNotNamed i.table) ts → AllByRecursion (TableKept old.entries.items) ts → AllByRecursion (TableKept (old.entries.items ++ e ∷ [])) ts
  others_still [] apart kept = tt
  others_still (t ∷ ts) apart kept =
      let turned : same_bytes i.table t.0.items ≡ false = same_turned i.table t.0.items ∙ apart.0 in (
        table_still old.entries.items e t (drawn_apart old.entries.items e i s.here.1.schema refl (schema_here old is i.table place s) t.0.items turned) kept.0,
        others_still ts apart.1 kept.1,
      )

  grown_kept : TableKept (old.entries.items ++ e ∷ []) grown
  grown_kept =
      let h = old.entries.items in
      let here = kept_here old is i.table place s in
      let count = length-append (numbered i.table h) (command.Insert i ∷ []) in
      record {
        schema_is = schema_kept s.here.0.items h (e ∷ []) s.here.1.schema here.schema_is;
        last_is = drawn ∙ (sym count ∙ (ap length (sym (drawn_here h e i s.here.1.schema refl (schema_here old is i.table place s))) ∙ ap (λ u. length (numbered u (h ++ e ∷ []))) (sym s.name_is)));
        own = own_grown;
      }

  pub insert_store : IsInsertInto s.here.1.schema i → IsStore new
  unfolding insert_accepted
  insert_store into =
      let h = old.entries.items in
      let name = λ (t : Named). t.0.items in
      let all : AllByRecursion (TableKept (h ++ e ∷ [])) (s.front ++ grown ∷ s.back) =
      all_both (TableKept (h ++ e ∷ [])) s.front (grown ∷ s.back) (others_still s.front s.before (kept_front old is i.table place s)) (grown_kept, others_still s.back s.behind (kept_back old is i.table place s)) in
      record {
        core = insert_core (core_of old) (core_of new) session i (length h + 1) is.core insert_accepted into;
        names = ap (map name) tables_now
            ∙ (map-append name s.front (grown ∷ s.back)
            ∙ (sym (map-append name s.front (s.here ∷ s.back))
            ∙ (ap (map name) (sym s.tables_are) ∙ (is.names ∙ (sym (append-nil (table_names h)) ∙ (sym (names_more h (e ∷ [])) ∙ ap table_names (sym entries)))))));
        each = subst (λ (ts : List Named). All (TableKept new.entries.items) ts) (sym tables_now)
            (subst (λ (x : History). All (TableKept x) (s.front ++ grown ∷ s.back)) (sym entries) (All-from_recursion (TableKept (h ++ e ∷ [])) (s.front ++ grown ∷ s.back) all));
        queue = λ t. mutations t ∙ (is.queue t ∙ (sym (mutations_inserted t h session i) ∙ ap (mutations_in t) (sym entries)));
      }

-- ---- a mutation

module _ (old new : Store) (session : ℕ) (a : Alter) (place number : ℕ) (is : IsStore old) (s : StandsAt old.tables.entries a.table place)
    (drawn : number ≡ length (numbered a.table old.entries.items) + 1) (fits : number ≤ 4294967295)
    (tables : new.tables.entries ≡ set_value_at old.tables.entries place (drawn_table s.here.1 number))
    (entries : new.entries.items ≡ entered old.entries.items session (command.Alter a ∷ [])) (snapshots : new.snapshots.items ≡ old.snapshots.items)
    (adds : AddsMutation a.table (record { number = number; change = a.change }) old.mutations new.mutations) where
  abbrev altered : Named
  altered = (s.here.0, drawn_table s.here.1 number)

  altered_now : new.tables.entries ≡ s.front ++ altered ∷ s.back
  altered_now =
      tables
      ∙ (ap₂ (λ (ts : List Named) (k : ℕ). set_value_at ts k (drawn_table s.here.1 number)) s.tables_are s.place_is ∙ set_here s.front s.back s.here (drawn_table s.here.1 number))

  parts_same : parts_of_tables new.tables.entries ≡ parts_of_tables old.tables.entries
  parts_same =
      ap parts_of_tables altered_now
      ∙ (flat_map-append (λ (t : Named). t.1.parts) s.front (altered ∷ s.back)
      ∙ (sym (flat_map-append (λ (t : Named). t.1.parts) s.front (s.here ∷ s.back)) ∙ ap parts_of_tables (sym s.tables_are)))

  pub alter_is : core_of new ≡ record { parts = parts_of_tables old.tables.entries; history = entered old.entries.items session (command.Alter a ∷ []); snapshots = old.snapshots.items }
  alter_is =
      core_is (core_of new) (record { parts = parts_of_tables old.tables.entries; history = entered old.entries.items session (command.Alter a ∷ []); snapshots = old.snapshots.items })
      parts_same entries snapshots

  pub alter_accepted : AlterGives (core_of old) session a (outcome.Accepted (length old.entries.items + 1)) (core_of new)
  alter_accepted = (ap is_some (schema_here old is a.table place s), omega (arith, drawn, fits), refl, alter_is)

  abbrev altering : Entry
  altering = record { session = session; command = command.Alter a }

  others_kept : (ts : List Named) → AllByRecursion (IsNotNamed a.table) ts → AllByRecursion (TableKept old.entries.items) ts → AllByRecursion (TableKept (old.entries.items ++ altering ∷ [])) ts
  others_kept [] apart kept = tt
  others_kept (t ∷ ts) apart kept =
      let turned : same_bytes a.table t.0.items ≡ false = same_turned a.table t.0.items ∙ apart.0 in (
        table_still old.entries.items altering t (ap (λ (b : Bool). cond b (command.Alter a ∷ []) []) turned) kept.0,
        others_kept ts apart.1 kept.1,
      )

  altered_kept : TableKept (old.entries.items ++ altering ∷ []) altered
  altered_kept =
      let h = old.entries.items in
      let here = kept_here old is a.table place s in
      let more : numbered a.table (h ++ altering ∷ []) ≡ numbered a.table h ++ command.Alter a ∷ [] =
      numbered_more a.table h (altering ∷ []) ∙ ap (λ (b : Bool). numbered a.table h ++ cond b (command.Alter a ∷ []) []) (itself_same a.table) in
      let count = length-append (numbered a.table h) (command.Alter a ∷ []) in
      record {
        schema_is = schema_kept s.here.0.items h (altering ∷ []) s.here.1.schema here.schema_is;
        last_is = drawn ∙ (sym count ∙ (ap length (sym more) ∙ ap (λ u. length (numbered u (h ++ altering ∷ []))) (sym s.name_is)));
        own = here.own;
      }

  queue_now : (t : List ℕ) (b : Bool) → same_bytes a.table t ≡ b → mutations_of new.mutations t ≡ mutations_in t new.entries.items
  queue_now t true same =
      let h = old.entries.items in
      let here : mutations_of new.mutations a.table ≡ mutations_in a.table new.entries.items =
      adds.mine
      ∙ (ap₂ (λ (ms : List Mutation) (n : ℕ). ms ++ record { number = n; change = a.change } ∷ []) (is.queue a.table) drawn
      ∙ (sym (mutations_altered h session a) ∙ ap (mutations_in a.table) (sym entries))) in
      subst (λ (u : List ℕ). mutations_of new.mutations u ≡ mutations_in u new.entries.items) (same_is a.table t same) here
  queue_now t false apart =
      let h = old.entries.items in
      let other : t ≡ a.table → ⊥ = λ same. let both : false ≡ true = sym apart ∙ (ap (same_bytes a.table) same ∙ itself_same a.table) in cc in
      adds.others t other ∙ (is.queue t ∙ (sym (mutations_still t h altering (ap (λ (b : Bool). cond b (command.Alter a ∷ []) []) apart)) ∙ ap (mutations_in t) (sym entries)))

  pub alter_store : ((schema : Schema) → schema_of a.table old.entries.items ≡ Some schema → IsChangeOf schema a.change) → IsStore new
  alter_store may =
      let h = old.entries.items in
      let name = λ (t : Named). t.0.items in
      let all : AllByRecursion (TableKept (h ++ altering ∷ [])) (s.front ++ altered ∷ s.back) =
      all_both (TableKept (h ++ altering ∷ [])) s.front (altered ∷ s.back) (others_kept s.front s.before (kept_front old is a.table place s)) (altered_kept, others_kept s.back s.behind (kept_back old is a.table place s)) in
      record {
        core = subst IsCore (sym alter_is) (alter_core (core_of old) session a is.core (ap is_some (schema_here old is a.table place s)) may);
        names = ap (map name) altered_now
            ∙ (map-append name s.front (altered ∷ s.back)
            ∙ (sym (map-append name s.front (s.here ∷ s.back))
            ∙ (ap (map name) (sym s.tables_are) ∙ (is.names ∙ (sym (append-nil (table_names h)) ∙ (sym (names_more h (altering ∷ [])) ∙ ap table_names (sym entries)))))));
        each = subst (λ (ts : List Named). All (TableKept new.entries.items) ts) (sym altered_now)
            (subst (λ (x : History). All (TableKept x) (s.front ++ altered ∷ s.back)) (sym entries) (All-from_recursion (TableKept (h ++ altering ∷ [])) (s.front ++ altered ∷ s.back) all));
        queue = λ t. queue_now t (same_bytes a.table t) refl;
      }

-- the columns by which a table is sorted are ones of the rows that come into it
pub key_fits : (h : History) (t : List ℕ) (schema : Schema) (i : Insert) → IsLegal h → schema_of t h ≡ Some schema → IsInsertInto schema i → All (λ place. place < length i.block.types) (sorting_columns schema)
key_fits h t schema i legal is into =
    let own = sorting_own schema (legal_schema t h schema legal is) in
    let count : length i.block.types ≡ length schema.columns = ap (λ (ts : List ColType). length ts) into.types ∙ length-map schema.columns (λ (c : Column). c.col_type) in
    All-weaker (λ p. p < length schema.columns) (λ p. p < length i.block.types) (λ p lt. omega (arith, count, lt)) (sorting_columns schema) own

-- ---- a snapshot

module _ (old new : Store) (t : List ℕ) (place : ℕ) (one : Snapshot) (is : IsStore old) (s : StandsAt old.tables.entries t place)
    (tables : new.tables.entries ≡ old.tables.entries) (entries : new.entries.items ≡ old.entries.items) (snapshots : new.snapshots.items ≡ old.snapshots.items ++ one ∷ [])
    (named : one.table ≡ t) (parts : one.parts ≡ s.here.1.parts) (mutations : one.mutations ≡ mutations_in t old.entries.items) (len : one.length ≡ length old.entries.items)
    (queue : (u : List ℕ) → mutations_of new.mutations u ≡ mutations_of old.mutations u) where
  one_is : one ≡ snapshot_of t (core_of old)
  one_is = λ j. record { table = named j; parts = (parts ∙ sym (parts_here old is t place s)) j; mutations = mutations j; length = len j }

  pub take_is : core_of new ≡ record { parts = parts_of_tables old.tables.entries; history = old.entries.items; snapshots = old.snapshots.items ++ snapshot_of t (core_of old) ∷ [] }
  take_is =
      core_is (core_of new) (record { parts = parts_of_tables old.tables.entries; history = old.entries.items; snapshots = old.snapshots.items ++ snapshot_of t (core_of old) ∷ [] })
      (ap parts_of_tables tables) entries (snapshots ∙ ap (λ (x : Snapshot). old.snapshots.items ++ x ∷ []) one_is)

  pub take_there : IsSome (schema_of t old.entries.items)
  take_there = ap is_some (schema_here old is t place s)

  pub take_store : IsStore new
  take_store = record {
    core = subst IsCore (sym take_is) (take_core (core_of old) t is.core take_there);
    names = ap (map (λ (x : Named). x.0.items)) tables ∙ (is.names ∙ ap table_names (sym entries));
    each = subst (λ (ts : List Named). All (TableKept new.entries.items) ts) (sym tables) (subst (λ (h : History). All (TableKept h) old.tables.entries) (sym entries) is.each);
    queue = λ u. queue u ∙ (is.queue u ∙ ap (mutations_in u) (sym entries));
  }

-- ---- a put

-- the parts of another table than the one in the middle
others_between : (t : List ℕ) (front back : List Named) (here : Named) → same_bytes here.0.items t ≡ false → OwnParts here
    → core_parts_of t (parts_of_tables (front ++ here ∷ back)) ≡ core_parts_of t (parts_of_tables front) ++ core_parts_of t (parts_of_tables back)
others_between t front back here apart own =
    let f : CorePart → Bool = λ p. same_bytes p.table t in
    ap (core_parts_of t) (flat_map-append (λ (x : Named). x.1.parts) front (here ∷ back))
    ∙ (filter-append f (parts_of_tables front) (here.1.parts ++ parts_of_tables back)
    ∙ ap (λ (xs : List CorePart). core_parts_of t (parts_of_tables front) ++ xs)
    (filter-append f here.1.parts (parts_of_tables back)
    ∙ ap (λ (xs : List CorePart). xs ++ core_parts_of t (parts_of_tables back)) (others_none t here.0.items here.1.parts apart (recursion_from_All (λ (p : CorePart). p.table ≡ here.0.items) here.1.parts own))))

-- what was done with parts has a name
made_name : (h : History) (schema : Schema) (ps : List CorePart) (t : Task) (rows : List Row) → 0 < length ps → AreMade h schema ps t rows → (name : PartName) × (name_made t (names_of ps) ≡ Some name)
made_name h schema ps task.Merge rows some made = by ps some
  where
    by : (ps : List CorePart) → 0 < length ps → (name : PartName) × (name_made task.Merge (names_of ps) ≡ Some name)
    by [] none = absurd (omega (arith, none))
    by (p ∷ ps) some = (merged_name p.name (names_of ps), refl)
made_name h schema ps (task.Rewrite upto) rows some made =
    (rewritten made.0.name upto, ap (λ (qs : List CorePart). name_made (task.Rewrite upto) (names_of qs)) made.1)

module _ (store : Store) (m : Put) (place : ℕ) (is : IsStore store) (s : StandsAt store.tables.entries m.sources.table place) where
  -- a merge is of neighbours of the table that stands there
  pub neighbours_are : HasNeighbours s.here.1.parts m.sources → HasNeighbours (beside (core_of store) m.sources) m.sources
  neighbours_are has = subst (λ (ps : List CorePart). HasNeighbours ps m.sources) (sym (parts_here store is m.sources.table place s)) has

  pub put_unfound : (HasNeighbours s.here.1.parts m.sources → ⊥) → PutGives (core_of store) m (outcome.Refused guard.NotNeighbours) (core_of store)
  put_unfound none =
      (ap is_some (schema_here store is m.sources.table place s), (λ has. none (subst (λ (ps : List CorePart). HasNeighbours ps m.sources) (parts_here store is m.sources.table place s) has)), refl)

  sources_here : sources_among (beside (core_of store) m.sources) m.sources ≡ sources_among s.here.1.parts m.sources
  sources_here = ap (λ (ps : List CorePart). sources_among ps m.sources) (parts_here store is m.sources.table place s)

  -- whether a mutation keeps the put from the parts that were found is told of the table's mutations
  pub join_here : (found : List CorePart) → found ≡ sources_among s.here.1.parts m.sources → MayJoin (mutations_of store.mutations m.sources.table) m.task (names_of found) → MayJoinHere (core_of store) m
  join_here found are join =
      subst (λ (ms : List Mutation). MayJoin ms m.task (names_put (core_of store) m)) (is.queue m.sources.table)
      (subst (λ (ps : List CorePart). MayJoin (mutations_of store.mutations m.sources.table) m.task (names_of ps)) (are ∙ sym sources_here) join)

  pub join_found : (found : List CorePart) → found ≡ sources_among s.here.1.parts m.sources → MayJoinHere (core_of store) m → MayJoin (mutations_of store.mutations m.sources.table) m.task (names_of found)
  join_found found are join =
      subst (λ (ps : List CorePart). MayJoin (mutations_of store.mutations m.sources.table) m.task (names_of ps)) (sources_here ∙ sym are)
      (subst (λ (ms : List Mutation). MayJoin ms m.task (names_put (core_of store) m)) (sym (is.queue m.sources.table)) join)

  pub put_parted : (run : Run) → RunStands s.here.1.parts m.sources run → (MayJoinHere (core_of store) m → ⊥) → PutGives (core_of store) m (outcome.Refused guard.Parted) (core_of store)
  put_parted run at parted = (ap is_some (schema_here store is m.sources.table place s), record { neighbours = neighbours_are at.there; parted = parted }, refl)

  pub put_unleveled : (run : Run) → RunStands s.here.1.parts m.sources run → MayPut (core_of store) m → MayJoinHere (core_of store) m
      → ((name : PartName) → name_made m.task (names_of (sources_among s.here.1.parts m.sources)) ≡ Some name → FitsLevel m.task name → ⊥)
      → PutGives (core_of store) m (outcome.Refused guard.Levels) (core_of store)
  put_unleveled run at may join past =
      let has = neighbours_are at.there in
      let sources = sources_among (beside (core_of store) m.sources) m.sources in
      let many = sources_length (beside (core_of store) m.sources) m.sources has in
      let one = has.some in
      let some : 0 < length sources = omega (arith, many, one) in
      let made = may s.here.1.schema (schema_here store is m.sources.table place s) has in
      let named = made_name store.entries.items s.here.1.schema sources m.task m.rows some made in (
        ap is_some (schema_here store is m.sources.table place s),
        record {
          neighbours = has;
          unparted = join;
          name = named.0;
          named = named.1;
          past = past named.0 (subst (λ (ps : List CorePart). name_made m.task (names_of ps) ≡ Some named.0) sources_here named.1);
        },
        refl,
      )

module _ (old new : Store) (m : Put) (name : PartName) (place : ℕ) (run : Run) (is : IsStore old) (s : StandsAt old.tables.entries m.sources.table place) (at : RunStands s.here.1.parts m.sources run)
    (join : MayJoinHere (core_of old) m) (named : name_made m.task (names_of (sources_among s.here.1.parts m.sources)) ≡ Some name) (room : FitsLevel m.task name)
    (tables : new.tables.entries ≡ set_value_at old.tables.entries place (swapped_table s.here.1 run (part_of_put m name)))
    (entries : new.entries.items ≡ old.entries.items) (snapshots : new.snapshots.items ≡ old.snapshots.items)
    (mutations : (t : List ℕ) → mutations_of new.mutations t ≡ mutations_of old.mutations t) where
  abbrev merged : CorePart
  merged = part_of_put m name

  abbrev swapped : Named
  swapped = (s.here.0, swapped_table s.here.1 run merged)

  swapped_now : new.tables.entries ≡ s.front ++ swapped ∷ s.back
  swapped_now =
      tables
      ∙ (ap₂ (λ (ts : List Named) (k : ℕ). set_value_at ts k (swapped_table s.here.1 run merged)) s.tables_are s.place_is ∙ set_here s.front s.back s.here (swapped_table s.here.1 run merged))

  parts_swapped : swapped.1.parts ≡ at.front ++ merged ∷ at.back
  parts_swapped = run_swapped s.here.1.parts m.sources run at merged

  own_was : OwnParts s.here
  own_was = (kept_here old is m.sources.table place s).own

  own_swapped : OwnParts swapped
  own_swapped =
      let mine : CorePart → Type 0 = λ p. p.table ≡ s.here.0.items in
      subst (All mine) (sym parts_swapped)
      (All-from_recursion mine (at.front ++ merged ∷ at.back)
      (all_swapped mine at.front (sources_among s.here.1.parts m.sources) at.back merged
      (recursion_from_All mine (at.front ++ (sources_among s.here.1.parts m.sources ++ at.back)) (subst (All mine) at.parts_are own_was)) (sym s.name_is)))

  beside_was : beside (core_of old) m.sources ≡ s.here.1.parts
  beside_was = parts_here old is m.sources.table place s

  beside_now : core_parts_of m.sources.table (parts_of_tables new.tables.entries) ≡ at.front ++ merged ∷ at.back
  beside_now =
      ap (λ ts. core_parts_of m.sources.table (parts_of_tables ts)) swapped_now
      ∙ (parts_between m.sources.table old.entries.items s.front s.back swapped s.before s.behind (kept_front old is m.sources.table place s) (kept_back old is m.sources.table place s)
      (subst (λ (n : List ℕ). All (λ (p : CorePart). p.table ≡ n) swapped.1.parts) s.name_is own_swapped)
      ∙ parts_swapped)

  others_stay : (t : List ℕ) → same_bytes m.sources.table t ≡ false → core_parts_of t (parts_of_tables new.tables.entries) ≡ core_parts_of t (parts_of_tables old.tables.entries)
  others_stay t apart =
      let other : same_bytes s.here.0.items t ≡ false = ap (λ n. same_bytes n t) s.name_is ∙ apart in
      ap (λ ts. core_parts_of t (parts_of_tables ts)) swapped_now
      ∙ (others_between t s.front s.back swapped other own_swapped ∙ (sym (others_between t s.front s.back s.here other own_was) ∙ ap (λ ts. core_parts_of t (parts_of_tables ts)) (sym s.tables_are)))

  pub put_done : PutsPart (core_of old) m name (core_of new)
  put_done = record {
    there = ap is_some (schema_here old is m.sources.table place s);
    neighbours = neighbours_are old m place is s at.there;
    unparted = join;
    named = subst (λ (ps : List CorePart). name_made m.task (names_of (sources_among ps m.sources)) ≡ Some name) (sym beside_was) named;
    room = room;
    parts = record {
      front = at.front;
      behind = at.back;
      old_is = subst (λ (ps : List CorePart). ps ≡ at.front ++ (sources_among ps m.sources ++ at.back)) (sym beside_was) at.parts_are;
      new_is = beside_now;
      others = others_stay;
    };
    history = entries;
    snapshots = snapshots;
  }

  swapped_kept : TableKept old.entries.items swapped
  swapped_kept = let here = kept_here old is m.sources.table place s in record { schema_is = here.schema_is; last_is = here.last_is; own = own_swapped }

  pub put_store : MayPut (core_of old) m → IsStore new
  put_store may =
      let name_of = λ (t : Named). t.0.items in
      let all : AllByRecursion (TableKept old.entries.items) (s.front ++ swapped ∷ s.back) =
      all_both (TableKept old.entries.items) s.front (swapped ∷ s.back) (kept_front old is m.sources.table place s) (swapped_kept, kept_back old is m.sources.table place s) in
      record {
        core = put_core (core_of old) (core_of new) m name is.core may put_done;
        names = ap (map name_of) swapped_now
            ∙ (map-append name_of s.front (swapped ∷ s.back)
            ∙ (sym (map-append name_of s.front (s.here ∷ s.back)) ∙ (ap (map name_of) (sym s.tables_are) ∙ (is.names ∙ ap table_names (sym entries)))));
        each = subst (λ (ts : List Named). All (TableKept new.entries.items) ts) (sym swapped_now)
            (subst (λ (x : History). All (TableKept x) (s.front ++ swapped ∷ s.back)) (sym entries) (All-from_recursion (TableKept old.entries.items) (s.front ++ swapped ∷ s.back) all));
        queue = λ t. mutations t ∙ (is.queue t ∙ ap (mutations_in t) (sym entries));
      }

-- ---- what was found

pub found_some : (r : Option ℕ) (P : ℕ → Type 0) → is_some r ≡ true → IfSome r P → (place : ℕ) × P place
found_some None P is h = cc
found_some (Some place) P is h = (place, h)

pub found_none : (r : Option ℕ) (P : Type 0) → is_some r ≡ false → IfNone r P → P
found_none None P is h = h
found_none (Some place) P is h = cc

-- rows ordered by the key are the rows sorted by it
ordered_is_sorted : (key : List ℕ) (rows : List Row) (order : List ℕ) → IsOrderBy key rows order → picked rows order ≡ sorted (key_cmp key) rows
ordered_is_sorted key rows order by = stable_is_sorted (key_cmp key) (key_total key) rows (picked rows order) by.rising by.stable

-- the part that an INSERT makes
pub part_made : (schema : Schema) (number : ℕ) (i : Insert) (table : List ℕ) (rows : List Row) (order : List ℕ) → table ≡ i.table → rows ≡ picked i.block.rows order → IsOrderBy (sorting_columns schema) i.block.rows order
    → record { table = table; name = record { partition = i.partition; min_block = number; max_block = number; level = 0; mutation = None }; rows = rows } ≡ part_of_insert schema number i
part_made schema number i table rows order named are by = λ j. record {
  table = named j;
  name = record { partition = i.partition; min_block = number; max_block = number; level = 0; mutation = None };
  rows = (are ∙ ordered_is_sorted (sorting_columns schema) i.block.rows order by) j;
}

-- the row at one place more
pub picked_more : (rows : List Row) (places : List ℕ) (i : ℕ) (d : ℕ) (row : Row) → i < length places → slice_get rows (get_or places i d) ≡ Some row → picked rows (take (i + 1) places) ≡ picked rows (take i places) ++ row ∷ []
picked_more rows places i d row lt at = filter_map_more (slice_get rows) places i (get_or places i d) row lt (get_or_default places i d (get_or places i d) lt) at

-- what is not below a number is at least it
pub at_least : (m n : ℕ) → (m < n → ⊥) → n ≤ m
at_least m n none = by (cases_lt m n)
  where
    by : (m < n) ⊎ (n ≤ m) → n ≤ m
    by (inl lt) = absurd (none lt)
    by (inr le) = le
