-- What always holds of the core, after one more event.
use Rattle.std.proofs.Common.{◌≡◌, ℕ, ◌<◌, Bool, true, false, cond, List, [], ◌∷◌, ◌++◌, Option, Some, None, length, take, drop, slice_get, All, refl, sym, ap, ◌∙◌, subst, length-append, arith, zero, suc}
use Rattle.std.specs.Prelude.{IsSome}
use Rattle.std.specs.List.{AllByRecursion}
use Rattle.std.proofs.lemmas.List.{take_all, take-append-drop, take-append-le}
use Rattle.std.proofs.lemmas.List.Elements.{All-from_recursion, All-nil, All-push, All-weaker, filter-append, recursion_from_All}
use Rattle.std.proofs.lemmas.Option.{get_or_from_slice_get, slice_get_within}
use Rattle.mt_values.specs.declared.command.Alter.{Alter}
use Rattle.mt_values.specs.declared.command.Command.{Command}
use Rattle.mt_values.specs.declared.command.Command.TheVariants as command
use Rattle.mt_values.specs.declared.command.Create.{Create}
use Rattle.mt_values.specs.declared.command.Entry.{Entry}
use Rattle.mt_values.specs.declared.command.Insert.{Insert}
use Rattle.mt_base.specs.declared.partition.Partition.{Partition}
use Rattle.mt_values.specs.declared.mutation.Mutation.{Mutation}
use Rattle.mt_values.specs.declared.schema.Schema.{Schema}
use Rattle.mt_values.specs.Grammar.{same_bytes}
use Rattle.part_history.specs.mt_model.History.{History, IsInsertInto, IsLegal, IsTableSchema, creates, entered, schema_of}
use Rattle.part_history.specs.mt_model.Live.{live}
use Rattle.part_history.specs.mt_model.Mutations.{IsChangeOf}
use Rattle.part_history.specs.mt_model.Numbers.{mutations_in, numbered}
use Rattle.part_history.specs.mt_model.Partial.{Partly}
use Rattle.part_history.specs.part_name.Pending.{NoneParted}
use Rattle.part_history.proofs.MtModelHistories.{legal_front, legal_push}
use Rattle.part_history.proofs.MtModelTables.{itself_same, same_is}
use Rattle.table_core.specs.declared.event.Crash.{Crash}
use Rattle.table_core.specs.declared.event.Crash.TheVariants as crash
use Rattle.table_core.specs.declared.event.Event.{Event}
use Rattle.table_core.specs.declared.event.Event.TheVariants as event
use Rattle.table_core.specs.declared.event.Guard.TheVariants as guard
use Rattle.table_core.specs.declared.event.Put.{Put}
use Rattle.table_core.specs.declared.event.Outcome.{Outcome}
use Rattle.table_core.specs.declared.event.Outcome.TheVariants as outcome
use Rattle.table_core.specs.declared.event.Task.{Task}
use Rattle.table_core.specs.declared.event.Task.TheVariants as task
use Rattle.part_history.specs.part_name.declared.part.PartName.{PartName}
use Rattle.part_history.specs.part_name.Merged.{merged_name, merged_of, rewritten}
use Rattle.part_history.proofs.PartNameMerging.{merged_partition}
use Rattle.part_history.specs.declared.part.CorePart.{CorePart}
use Rattle.part_history.specs.Merges.{IsMergedPart, IsRewrittenPart, MergeLeaves, RewriteLeaves, names_of}
use Rattle.table_core.specs.declared.snapshot.Snapshot.{Snapshot}
use Rattle.table_core.specs.Core.{Core, IsCore, IsSnapshot}
use Rattle.part_history.specs.Parts.{AreInBlockOrder, PartsStand, TableStands, core_parts_of, parts_in, rows_seen_of}
use Rattle.part_history.specs.Entered.{next_number, part_of_insert}
use Rattle.table_core.specs.Steps.{AcceptGives, AcceptsInsert, AddsPart, AreLeftOf, AreMade, CrashMeets, GivesOutcome, MayAccept, MayCome, MayCrash, MayJoin, MayPut, PutGives, PutsPart, beside, name_made, part_of_put, rows_of_snapshot, snapshot_of, sources_among, without_snapshots}
use Rattle.part_history.proofs.Growing.{drawn_apart, table_altered, table_entered, table_kept}
use Rattle.part_history.proofs.Joined.{all_of, parts_joined}
use Rattle.part_history.proofs.Merging.{all_right, merged_order, merged_stand}
use Rattle.part_history.proofs.Rewriting.{rewritten_order, rewritten_stand}

-- ---- one part more

is_of : List ℕ → CorePart → Bool
is_of table p = same_bytes p.table table

-- the parts of its table have it between those before and those after it
pub parts_added_here : (part : CorePart) (old new : List CorePart) → (a : AddsPart part old new) → core_parts_of part.table new ≡ core_parts_of part.table a.front ++ part ∷ core_parts_of part.table a.behind
parts_added_here part old new a =
    let t = part.table in
    let f : CorePart → Bool = λ p. same_bytes p.table t in
    let mine : core_parts_of t (part ∷ a.behind) ≡ part ∷ core_parts_of t a.behind = ap (λ b. cond b (part ∷ core_parts_of t a.behind) (core_parts_of t a.behind)) (itself_same t) in
    ap (core_parts_of t) a.new_is ∙ (filter-append f a.front (part ∷ a.behind) ∙ ap (λ (xs : List CorePart). core_parts_of t a.front ++ xs) mine)

-- and were these without it
pub parts_before : (t : List ℕ) (part : CorePart) (old new : List CorePart) → (a : AddsPart part old new) → core_parts_of t old ≡ core_parts_of t a.front ++ core_parts_of t a.behind
parts_before t part old new a =
    let f : CorePart → Bool = λ p. same_bytes p.table t in
    ap (core_parts_of t) a.old_is ∙ filter-append f a.front a.behind

pub parts_added_apart : (t : List ℕ) (part : CorePart) (old new : List CorePart) → AddsPart part old new → same_bytes part.table t ≡ false → core_parts_of t new ≡ core_parts_of t old
parts_added_apart t part old new a apart =
    let f : CorePart → Bool = λ p. same_bytes p.table t in
    let rest : core_parts_of t (part ∷ a.behind) ≡ core_parts_of t a.behind = ap (λ b. cond b (part ∷ core_parts_of t a.behind) (core_parts_of t a.behind)) apart in
    ap (core_parts_of t) a.new_is
    ∙ (filter-append f a.front (part ∷ a.behind) ∙ (ap (λ (xs : List CorePart). core_parts_of t a.front ++ xs) rest ∙ sym (ap (core_parts_of t) a.old_is ∙ filter-append f a.front a.behind)))

-- ---- snapshots

snapshot_kept : (h more : History) (s : Snapshot) → IsSnapshot h s → IsSnapshot (h ++ more) s
snapshot_kept h more s one =
    let front : take s.length (h ++ more) ≡ take s.length h = take-append-le s.length h more one.within in
    let longer = length-append h more in
    record {
      within = omega (arith, one.within, longer);
      there = subst (λ (x : History). IsSome (schema_of s.table x)) (sym front) one.there;
      stands = subst (λ (x : History). TableStands s.table s.parts x) (sym front) one.stands;
      order = one.order;
      mutations = one.mutations ∙ ap (mutations_in s.table) (sym front);
    }

snapshots_kept : (h more : History) (ss : List Snapshot) → All (IsSnapshot h) ss → All (IsSnapshot (h ++ more)) ss
snapshots_kept h more ss all = All-weaker (IsSnapshot h) (IsSnapshot (h ++ more)) (λ s one. snapshot_kept h more s one) ss all

-- the rows of a snapshot are what merges may have left of the live rows of its front of the history
pub reads_left : (core : Core) (number : ℕ) (s : Snapshot) → IsCore core → slice_get core.snapshots number ≡ Some s → AreLeftOf s.table s.length core.history (rows_of_snapshot s)
reads_left core number s is at schema there =
    let below = slice_get_within core.snapshots number s at in
    let one : IsSnapshot core.history s = subst (IsSnapshot core.history) (get_or_from_slice_get core.snapshots number s s at) (is.snapshots number s below) in
    let front = take s.length core.history in
    let legal : IsLegal front = legal_front front (drop s.length core.history) (subst IsLegal (sym (take-append-drop s.length core.history)) is.legal) in
    subst (λ (ms : List Mutation). Partly schema (live s.table schema front) (rows_seen_of ms s.parts)) (sym one.mutations)
    (parts_joined front s.table schema legal there s.parts one.stands one.order)

-- ---- the ways in which the state changes

pub record Created (old new : Core) : Type 0 where
  pub session : ℕ
  pub create : Create
  pub schema : IsTableSchema create.schema
  pub absent : schema_of create.table old.history ≡ None
  pub few : creates old.history < 65536
  pub new_is : new ≡ record { parts = old.parts; history = entered old.history session (command.Create create ∷ []); snapshots = old.snapshots }

pub record Inserted (old new : Core) : Type 0 where
  pub session : ℕ
  pub insert : Insert
  pub place : ℕ
  pub accepts : AcceptsInsert old session insert place new
  pub into : IsInsertInto accepts.schema insert

pub record Altered (old new : Core) : Type 0 where
  pub session : ℕ
  pub alter : Alter
  pub there : IsSome (schema_of alter.table old.history)
  pub may : (schema : Schema) → schema_of alter.table old.history ≡ Some schema → IsChangeOf schema alter.change
  pub new_is : new ≡ record { parts = old.parts; history = entered old.history session (command.Alter alter ∷ []); snapshots = old.snapshots }

pub record Took (old new : Core) : Type 0 where
  pub table : List ℕ
  pub there : IsSome (schema_of table old.history)
  pub new_is : new ≡ record { parts = old.parts; history = old.history; snapshots = old.snapshots ++ snapshot_of table old ∷ [] }

pub record Replaced (old new : Core) : Type 0 where
  pub put : Put
  pub name : PartName
  pub may : MayPut old put
  pub puts : PutsPart old put name new

-- an accept or a put leaves the state as it was, or makes a table, or adds a part or a mutation, or puts a part in place of others
pub data Entered (old new : Core) : Type 0 where
  Same : new ≡ old → Entered old new
  Made : Created old new → Entered old new
  Added : Inserted old new → Entered old new
  Changed : Altered old new → Entered old new
  Swapped : Replaced old new → Entered old new

pub data Change (old new : Core) : Type 0 where
  Entering : Entered old new → Change old new
  Taken : Took old new → Change old new
  Ended : (met : Core) → Entered old met → new ≡ without_snapshots met → Change old new

pub enters : (old new : Core) (session : ℕ) (c : Command) (given : Outcome) → MayAccept old.history c → AcceptGives old session c given new → Entered old new
enters old new session (command.Create c) (outcome.Accepted place) may g = Made (record { session = session; create = c; schema = may; absent = g.0; few = g.1; new_is = g.3 })
enters old new session (command.Create c) (outcome.Refused guard.TableExists) may g = Same g.1
enters old new session (command.Create c) (outcome.Refused guard.Creates) may g = Same g.2
enters old new session (command.Insert i) (outcome.Accepted place) may g = Added (record { session = session; insert = i; place = place; accepts = g; into = may g.schema g.there })
enters old new session (command.Insert i) (outcome.Refused guard.NoTable) may g = Same g.1
enters old new session (command.Insert i) (outcome.Refused guard.Numbers) may g = Same g.2
enters old new session (command.Alter a) (outcome.Accepted place) may g = Changed (record { session = session; alter = a; there = g.0; may = may; new_is = g.3 })
enters old new session (command.Alter a) (outcome.Refused guard.NoTable) may g = Same g.1
enters old new session (command.Alter a) (outcome.Refused guard.Numbers) may g = Same g.2
enters old new session (command.Alter a) given may g = absurd g
enters old new session (command.Create c) given may g = absurd g
enters old new session (command.Insert i) given may g = absurd g

pub puts : (old new : Core) (m : Put) (given : Outcome) → MayPut old m → PutGives old m given new → Entered old new
puts old new m (outcome.Put name) may g = Swapped (record { put = m; name = name; may = may; puts = g })
puts old new m (outcome.Refused guard.NoTable) may g = Same g.1
puts old new m (outcome.Refused guard.NotNeighbours) may g = Same g.2
puts old new m (outcome.Refused guard.Parted) may g = Same g.2
puts old new m (outcome.Refused guard.Levels) may g = Same g.2
puts old new m given may g = absurd g

-- what a crash meets
pub meets : (old met : Core) (c : Crash) → MayCrash old c → CrashMeets old c met → Entered old met
meets old met crash.Between may m = Same m
meets old met (crash.Within e false) may m = Same m
meets old met (crash.Within e true) may m = enters old met e.session e.command m.0 may m.1
meets old met (crash.WithinPut p false) may m = Same m
meets old met (crash.WithinPut p true) may m = puts old met p m.0 may m.1

pub changes : (old new : Core) (e : Event) (given : Outcome) → MayCome old e → GivesOutcome old e given new → Change old new
changes old new (event.Accept e) given may g = Entering (enters old new e.session e.command given may g)
changes old new (event.Put m) given may g = Entering (puts old new m given may g)
changes old new (event.TakeSnapshot table) (outcome.Taken number) may g = Taken (record { table = table; there = g.0; new_is = g.2 })
changes old new (event.TakeSnapshot table) (outcome.Refused guard.NoTable) may g = Entering (Same g.1)
changes old new (event.ReadSnapshot number) (outcome.Rows rows place) may g = Entering (Same g.4)
changes old new (event.ReadSnapshot number) (outcome.Refused guard.NoSnapshot) may g = Entering (Same g.1)
changes old new (event.Crash c) outcome.Restarted may g = Ended g.0 (meets old g.0 c may g.1) g.2
changes old new (event.TakeSnapshot table) given may g = absurd g
changes old new (event.ReadSnapshot number) given may g = absurd g
changes old new (event.Crash c) given may g = absurd g

-- ---- runs of parts

dropped_all : (P : CorePart → Type 0) (n : ℕ) (ps : List CorePart) → AllByRecursion P ps → AllByRecursion P (drop n ps)
dropped_all P zero ps all = all
dropped_all P (suc n) [] all = tt
dropped_all P (suc n) (p ∷ ps) all = dropped_all P n ps all.1

taken_all : (P : CorePart → Type 0) (n : ℕ) (ps : List CorePart) → AllByRecursion P ps → AllByRecursion P (take n ps)
taken_all P zero ps all = tt
taken_all P (suc n) [] all = tt
taken_all P (suc n) (p ∷ ps) all = (all.0, taken_all P n ps all.1)

changed_all : (w v : Partition) → w ≡ v → (ps : List CorePart) → AllByRecursion (λ (q : CorePart). q.name.partition ≡ w) ps → AllByRecursion (λ (q : CorePart). q.name.partition ≡ v) ps
changed_all w v same [] all = tt
changed_all w v same (p ∷ ps) all = (all.0 ∙ same, changed_all w v same ps all.1)

-- parts of one partition are of that of the name that a merge of them has
merged_own : (w : Partition) (ps : List CorePart) (name : PartName) → AllByRecursion (λ (q : CorePart). q.name.partition ≡ w) ps → merged_of (names_of ps) ≡ Some name
    → AllByRecursion (λ (q : CorePart). q.name.partition ≡ name.partition) ps
merged_own w [] name own named = tt
merged_own w (p ∷ ps) name own named =
    let both : Some (merged_name p.name (names_of ps)) ≡ Some name = named in
    let is : merged_name p.name (names_of ps) ≡ name = cc in
    let same : w ≡ name.partition = sym own.0 ∙ (sym (merged_partition p.name (names_of ps)) ∙ ap (λ (n : PartName). n.partition) is) in
    changed_all w name.partition same (p ∷ ps) own

-- ---- what always holds

pub create_core : (old : Core) (session : ℕ) (c : Create) → IsCore old → IsTableSchema c.schema → schema_of c.table old.history ≡ None → creates old.history < 65536
    → IsCore (record { parts = old.parts; history = entered old.history session (command.Create c ∷ []); snapshots = old.snapshots })
create_core old session c is schema absent few =
    let e : Entry = record { session = session; command = command.Create c } in
    record {
      legal = legal_push old.history e is.legal (absent, few, schema);
      parts = λ t. table_kept t (core_parts_of t old.parts) old.history (e ∷ []) refl (is.parts t);
      order = is.order;
      snapshots = snapshots_kept old.history (e ∷ []) old.snapshots is.snapshots;
    }

pub take_core : (old : Core) (table : List ℕ) → IsCore old → IsSome (schema_of table old.history)
    → IsCore (record { parts = old.parts; history = old.history; snapshots = old.snapshots ++ snapshot_of table old ∷ [] })
take_core old table is there =
    let all : take (length old.history) old.history ≡ old.history = take_all (length old.history) old.history (omega arith) in
    let one : IsSnapshot old.history (snapshot_of table old) = record {
      within = omega arith;
      there = subst (λ (x : History). IsSome (schema_of table x)) (sym all) there;
      stands = subst (λ (x : History). TableStands table (core_parts_of table old.parts) x) (sym all) (is.parts table);
      order = is.order table;
      mutations = ap (mutations_in table) (sym all);
    } in
    record {
      legal = is.legal;
      parts = is.parts;
      order = is.order;
      snapshots = All-push (IsSnapshot old.history) old.snapshots (snapshot_of table old) is.snapshots one;
    }

some_there : (o : Option Schema) → IsSome o → (schema : Schema) × (o ≡ Some schema)
some_there None some = cc
some_there (Some schema) some = (schema, refl)

-- a mutation leaves all parts, which stand with it too
pub alter_core : (old : Core) (session : ℕ) (a : Alter) → IsCore old → IsSome (schema_of a.table old.history) → ((schema : Schema) → schema_of a.table old.history ≡ Some schema → IsChangeOf schema a.change)
    → IsCore (record { parts = old.parts; history = entered old.history session (command.Alter a ∷ []); snapshots = old.snapshots })
alter_core old session a is there may =
    let e : Entry = record { session = session; command = command.Alter a } in
    let found = some_there (schema_of a.table old.history) there in
    record {
      legal = legal_push old.history e is.legal (found.0, found.1, may found.0 found.1);
      parts = λ t. by e t (same_bytes a.table t) refl;
      order = is.order;
      snapshots = snapshots_kept old.history (e ∷ []) old.snapshots is.snapshots;
    }
  where
    by : (e : Entry) (t : List ℕ) (b : Bool) → same_bytes a.table t ≡ b → TableStands t (core_parts_of t old.parts) (old.history ++ record { session = session; command = command.Alter a } ∷ [])
    by e t true same =
        subst (λ (u : List ℕ). TableStands u (core_parts_of u old.parts) (old.history ++ record { session = session; command = command.Alter a } ∷ [])) (same_is a.table t same)
        (table_altered old.history (record { session = session; command = command.Alter a }) a (core_parts_of a.table old.parts) refl (is.parts a.table))
    by e t false apart =
        let none : numbered t (record { session = session; command = command.Alter a } ∷ []) ≡ [] = ap (λ b. cond b (command.Alter a ∷ []) []) apart in
        table_kept t (core_parts_of t old.parts) old.history (record { session = session; command = command.Alter a } ∷ []) none (is.parts t)

module _ (old new : Core) (session : ℕ) (i : Insert) (place : ℕ) (is : IsCore old) (a : AcceptsInsert old session i place new) (into : IsInsertInto a.schema i) where
  abbrev h : History
  h = old.history

  abbrev e : Entry
  e = record { session = session; command = command.Insert i }

  abbrev part : CorePart
  part = part_of_insert a.schema (next_number i.table h) i

  stands_here : TableStands i.table (core_parts_of i.table new.parts) (h ++ e ∷ [])
  stands_here =
      let before = core_parts_of i.table a.parts.front in
      let after = core_parts_of i.table a.parts.behind in
      let was : TableStands i.table (before ++ after) h = subst (λ (ps : List CorePart). TableStands i.table ps h) (parts_before i.table part old.parts new.parts a.parts) (is.parts i.table) in
      subst (λ (ps : List CorePart). TableStands i.table ps (h ++ e ∷ []))
      (sym (parts_added_here part old.parts new.parts a.parts))
      (table_entered h e i a.schema refl a.there before after was)

  stands_apart : (t : List ℕ) → same_bytes i.table t ≡ false → TableStands t (core_parts_of t new.parts) (h ++ e ∷ [])
  stands_apart t apart =
      subst (λ (ps : List CorePart). TableStands t ps (old.history ++ e ∷ []))
      (sym (parts_added_apart t part old.parts new.parts a.parts apart))
      (table_kept t (core_parts_of t old.parts) old.history (e ∷ [])
      (drawn_apart old.history e i a.schema refl a.there t apart) (is.parts t))

  stand_all : PartsStand new.parts (h ++ e ∷ [])
  stand_all t = by (same_bytes i.table t) refl
    where
      by : (b : Bool) → same_bytes i.table t ≡ b → TableStands t (core_parts_of t new.parts) (h ++ e ∷ [])
      by true same = subst (λ u. TableStands u (core_parts_of u new.parts) (h ++ e ∷ [])) (same_is i.table t same) stands_here
      by false apart = stands_apart t apart

  order_all : (t : List ℕ) → AreInBlockOrder (core_parts_of t new.parts)
  order_all t = by (same_bytes i.table t) refl
    where
      by : (b : Bool) → same_bytes i.table t ≡ b → AreInBlockOrder (core_parts_of t new.parts)
      by true same = subst (λ u. AreInBlockOrder (core_parts_of u new.parts)) (same_is i.table t same) a.parts.order
      by false apart = subst AreInBlockOrder (sym (parts_added_apart t part old.parts new.parts a.parts apart)) (is.order t)

  pub insert_core : IsCore new
  insert_core =
      let entry : Entry = record { session = session; command = command.Insert i } in
      let more = sym a.history in
      record {
        legal = subst IsLegal more (legal_push old.history entry is.legal (a.schema, a.there, into));
        parts = subst (PartsStand new.parts) more stand_all;
        order = order_all;
        snapshots = subst (λ (ss : List Snapshot). All (IsSnapshot new.history) ss) (sym a.snapshots)
            (subst (λ (x : History). All (IsSnapshot x) old.snapshots) more (snapshots_kept old.history (entry ∷ []) old.snapshots is.snapshots));
      }

-- parts in place of which one is put
module _ (old new : Core) (m : Put) (name : PartName) (is : IsCore old) (may : MayPut old m) (p : PutsPart old m name new) where
  abbrev made : CorePart
  made = part_of_put m name

  abbrev sources : List CorePart
  sources = sources_among (beside old m.sources) m.sources

  sources_own : AllByRecursion (λ (q : CorePart). q.name.partition ≡ m.sources.partition) sources
  sources_own =
      let beside_them = parts_in m.sources.partition (beside old m.sources) in
      taken_all (λ (q : CorePart). q.name.partition ≡ m.sources.partition) m.sources.count (drop m.sources.first beside_them)
      (dropped_all (λ (q : CorePart). q.name.partition ≡ m.sources.partition) m.sources.first beside_them (all_of m.sources.partition (beside old m.sources)))

  there : (schema : Schema) × (schema_of m.sources.table old.history ≡ Some schema)
  there = some_there (schema_of m.sources.table old.history) p.there

  stands_was : TableStands m.sources.table (p.parts.front ++ (sources ++ p.parts.behind)) old.history
  stands_was = subst (λ (ps : List CorePart). TableStands m.sources.table ps old.history) p.parts.old_is (is.parts m.sources.table)

  order_was : AreInBlockOrder (p.parts.front ++ (sources ++ p.parts.behind))
  order_was = subst AreInBlockOrder p.parts.old_is (is.order m.sources.table)

  -- what is put in place stands, and is in its place
  record Fits (ps : List CorePart) : Type 0 where
    stands : TableStands m.sources.table ps old.history
    order : AreInBlockOrder ps

  merge_fits : MergeLeaves old.history there.0 sources m.rows → merged_of (names_of sources) ≡ Some name → NoneParted (mutations_in m.sources.table old.history) (names_of sources) → Fits (p.parts.front ++ made ∷ p.parts.behind)
  merge_fits leaves named unparted =
      let one : IsMergedPart old.history there.0 sources made = record {
        named = named;
        own = All-from_recursion (λ (q : CorePart). q.name.partition ≡ name.partition) sources (merged_own m.sources.partition sources name sources_own named);
        unparted = unparted;
        leaves = leaves;
      } in
      record {
        stands = merged_stand old.history there.0 p.parts.front sources p.parts.behind made is.legal there.1 one stands_was order_was;
        order = merged_order old.history there.0 p.parts.front sources p.parts.behind made is.legal there.1 one stands_was order_was;
      }

  one_name : (a b : PartName) → Some a ≡ Some b → b ≡ a
  one_name a b same = cc

  rewrite_fits : (last : ℕ) (source : CorePart) → sources ≡ source ∷ [] → RewriteLeaves old.history source last m.rows → name_made (task.Rewrite last) (names_of sources) ≡ Some name → Fits (p.parts.front ++ made ∷ p.parts.behind)
  rewrite_fits last source only leaves named =
      let own : name ≡ rewritten source.name last = one_name (rewritten source.name last) name (sym (ap (λ (ps : List CorePart). name_made (task.Rewrite last) (names_of ps)) only) ∙ named) in
      let stands = subst (λ (ps : List CorePart). TableStands m.sources.table (p.parts.front ++ (ps ++ p.parts.behind)) old.history) only stands_was in
      let order = subst (λ (ps : List CorePart). AreInBlockOrder (p.parts.front ++ (ps ++ p.parts.behind))) only order_was in
      let named_here = (all_right (λ (q : CorePart). q.table ≡ m.sources.table) p.parts.front (source ∷ p.parts.behind) (recursion_from_All (λ (q : CorePart). q.table ≡ m.sources.table) (p.parts.front ++ source ∷ p.parts.behind) stands.own)).0 in
      let one : IsRewrittenPart old.history source last made = record { table = sym named_here; named = own; leaves = leaves } in
      record {
        stands = rewritten_stand old.history there.0 p.parts.front source p.parts.behind last made is.legal there.1 one stands;
        order = rewritten_order old.history there.0 p.parts.front source p.parts.behind last made is.legal there.1 one order;
      }

  fits : Fits (p.parts.front ++ made ∷ p.parts.behind)
  fits = by m.task (may there.0 there.1 p.neighbours) p.named p.unparted
    where
      by : (t : Task) → AreMade old.history there.0 sources t m.rows → name_made t (names_of sources) ≡ Some name → MayJoin (mutations_in m.sources.table old.history) t (names_of sources) → Fits (p.parts.front ++ made ∷ p.parts.behind)
      by task.Merge leaves named unparted = merge_fits leaves named unparted
      by (task.Rewrite last) leaves named unparted = rewrite_fits last leaves.0 leaves.1 leaves.2 named

  put_stands : PartsStand new.parts old.history
  put_stands t = by (same_bytes m.sources.table t) refl
    where
      by : (b : Bool) → same_bytes m.sources.table t ≡ b → TableStands t (core_parts_of t new.parts) old.history
      by true same =
          subst (λ (u : List ℕ). TableStands u (core_parts_of u new.parts) old.history) (same_is m.sources.table t same)
          (subst (λ (ps : List CorePart). TableStands m.sources.table ps old.history) (sym p.parts.new_is)
          fits.stands)
      by false apart = subst (λ (ps : List CorePart). TableStands t ps old.history) (sym (p.parts.others t apart)) (is.parts t)

  put_order : (t : List ℕ) → AreInBlockOrder (core_parts_of t new.parts)
  put_order t = by (same_bytes m.sources.table t) refl
    where
      by : (b : Bool) → same_bytes m.sources.table t ≡ b → AreInBlockOrder (core_parts_of t new.parts)
      by true same =
          subst (λ (u : List ℕ). AreInBlockOrder (core_parts_of u new.parts)) (same_is m.sources.table t same)
          (subst AreInBlockOrder (sym p.parts.new_is)
          fits.order)
      by false apart = subst AreInBlockOrder (sym (p.parts.others t apart)) (is.order t)

  pub put_core : IsCore new
  put_core = record {
    legal = subst IsLegal (sym p.history) is.legal;
    parts = subst (PartsStand new.parts) (sym p.history) put_stands;
    order = put_order;
    snapshots = subst (λ (ss : List Snapshot). All (IsSnapshot new.history) ss) (sym p.snapshots)
        (subst (λ (h : History). All (IsSnapshot h) old.snapshots) (sym p.history) is.snapshots);
  }

-- without its snapshots it holds too
pub crash_core : (met : Core) → IsCore met → IsCore (without_snapshots met)
crash_core met is = record { legal = is.legal; parts = is.parts; order = is.order; snapshots = All-nil (IsSnapshot met.history) }

enters_core : (old new : Core) → IsCore old → Entered old new → IsCore new
enters_core old new is (Same same) = subst IsCore (sym same) is
enters_core old new is (Made m) = subst IsCore (sym m.new_is) (create_core old m.session m.create is m.schema m.absent m.few)
enters_core old new is (Swapped m) = put_core old new m.put m.name is m.may m.puts
enters_core old new is (Changed a) = subst IsCore (sym a.new_is) (alter_core old a.session a.alter is a.there a.may)
enters_core old new is (Added a) = insert_core old new a.session a.insert a.place is a.accepts a.into

change_core : (old new : Core) → IsCore old → Change old new → IsCore new
change_core old new is (Entering entered) = enters_core old new is entered
change_core old new is (Taken t) = subst IsCore (sym t.new_is) (take_core old t.table is t.there)
change_core old new is (Ended met entered same) = subst IsCore (sym same) (crash_core met (enters_core old met is entered))

-- the core is kept
pub gives_core : (old new : Core) (e : Event) (given : Outcome) → IsCore old → MayCome old e → GivesOutcome old e given new → IsCore new
gives_core old new e given is may g = change_core old new is (changes old new e given may g)
