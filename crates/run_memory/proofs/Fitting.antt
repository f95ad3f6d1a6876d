-- Events over tables of numbers may run, one after another.
use Rattle.std.proofs.Common.{◌≡◌, ◌<◌, ℕ, Bool, true, false, cond, List, [], ◌∷◌, ◌++◌, Some, None, All, arith, length, refl, sym, subst, inl, inr}
use Rattle.std.specs.List.{AllByRecursion}
use Rattle.std.proofs.lemmas.List.Elements.{All-from_recursion, All-nil, recursion_from_All}
use Rattle.mt_values.specs.declared.command.Command.{Command}
use Rattle.mt_values.specs.declared.command.Command.TheVariants as command
use Rattle.mt_values.specs.declared.command.Entry.{Entry}
use Rattle.mt_values.specs.declared.schema.Schema.{Schema}
use Rattle.mt_values.specs.declared.schema.SkipIndex.{SkipIndex}
use Rattle.mt_values.specs.Grammar.{same_bytes}
use Rattle.table_core.specs.mt_model.History.{History, IsInsertInto, IsTableSchema, first_of, schema_by, schema_of}
use Rattle.table_core.specs.mt_model.Mutations.{IsChangeOf}
use Rattle.table_core.specs.declared.event.Crash.TheVariants as crash
use Rattle.table_core.specs.declared.event.Event.{Event}
use Rattle.table_core.specs.declared.event.Event.TheVariants as event
use Rattle.table_core.specs.declared.event.Outcome.{Outcome}
use Rattle.table_core.specs.declared.event.Outcome.TheVariants as outcome
use Rattle.table_core.specs.Core.{Core, empty_core}
use Rattle.table_core.specs.Runs.{AddAll, AddsEntries, HasEntries, MayRun}
use Rattle.table_core.specs.Steps.{GivesOutcome, MayAccept, MayCome}
use Rattle.table_core.proofs.Telling.{run_entries}
use Rattle.table_core.proofs.MtModelTables.{same_is}
use Rattle.run_memory.specs.Events.{AreOfEvents, Fits, FitsAccept, FitsAfter, IsOfEvents, begins_with, event_schema, marked_schema, of_greatest, of_lasts, of_marked_sums, of_newest, of_numbers, of_signs, of_sums, of_triples, of_versions, parted}

found_by : (table : List ℕ) (h : History) (schema : Schema) (c : Command) → IsOfEvents c → first_of (schema_by table c) (schema_of table h) ≡ Some schema
    → (schema_of table h ≡ Some schema → schema ≡ event_schema table) → schema ≡ event_schema table
found_by table h schema (command.Create c) is first rest = named (same_bytes c.table table) refl first
  where
    named : (b : Bool) → same_bytes c.table table ≡ b → first_of (cond b (Some c.schema) None) (schema_of table h) ≡ Some schema → schema ≡ event_schema table
    named true equal same =
        let one : schema ≡ c.schema = cc in
        subst (λ t. schema ≡ event_schema t) (same_is c.table table equal) (subst (λ s. s ≡ event_schema c.table) (sym one) is)
    named false apart same = rest same
found_by table h schema (command.Insert i) is first rest = rest first
found_by table h schema (command.Alter a) is first rest = rest first

found : (table : List ℕ) (h : History) (schema : Schema) → AreOfEvents h → schema_of table h ≡ Some schema → schema ≡ event_schema table
found table [] schema of is = cc
found table (e ∷ h) schema of is = found_by table h schema e.command of.0 is (λ later. found table h schema of.1 later)

of_numbers_is_table : IsTableSchema of_numbers
of_numbers_is_table = record {
  sound = refl;
  key = omega arith;
  primary = omega arith;
  own = All-from_recursion (λ (place : ℕ). place < length of_numbers.columns) (0 ∷ []) (omega arith, tt);
  few = omega arith;
  indexed = All-nil (λ (index : SkipIndex). index.column < length of_numbers.columns);
  few_indexes = omega arith;
}

parted_is_table : IsTableSchema parted
parted_is_table = record {
  sound = refl;
  key = omega arith;
  primary = omega arith;
  own = All-from_recursion (λ (place : ℕ). place < length parted.columns) (1 ∷ []) (omega arith, tt);
  few = omega arith;
  indexed = All-nil (λ (index : SkipIndex). index.column < length parted.columns);
  few_indexes = omega arith;
}

of_lasts_is_table : IsTableSchema of_lasts
of_lasts_is_table = record {
  sound = refl;
  key = omega arith;
  primary = omega arith;
  own = All-from_recursion (λ (place : ℕ). place < length of_lasts.columns) (0 ∷ []) (omega arith, tt);
  few = omega arith;
  indexed = All-nil (λ (index : SkipIndex). index.column < length of_lasts.columns);
  few_indexes = omega arith;
}

of_sums_is_table : IsTableSchema of_sums
of_sums_is_table = record {
  sound = refl;
  key = omega arith;
  primary = omega arith;
  own = All-from_recursion (λ (place : ℕ). place < length of_sums.columns) (0 ∷ []) (omega arith, tt);
  few = omega arith;
  indexed = All-nil (λ (index : SkipIndex). index.column < length of_sums.columns);
  few_indexes = omega arith;
}

of_signs_is_table : IsTableSchema of_signs
of_signs_is_table = record {
  sound = refl;
  key = omega arith;
  primary = omega arith;
  own = All-from_recursion (λ (place : ℕ). place < length of_signs.columns) (0 ∷ []) (omega arith, tt);
  few = omega arith;
  indexed = All-nil (λ (index : SkipIndex). index.column < length of_signs.columns);
  few_indexes = omega arith;
}

of_versions_is_table : IsTableSchema of_versions
of_versions_is_table = record {
  sound = refl;
  key = omega arith;
  primary = omega arith;
  own = All-from_recursion (λ (place : ℕ). place < length of_versions.columns) (0 ∷ []) (omega arith, tt);
  few = omega arith;
  indexed = All-nil (λ (index : SkipIndex). index.column < length of_versions.columns);
  few_indexes = omega arith;
}

of_greatest_is_table : IsTableSchema of_greatest
of_greatest_is_table = record {
  sound = refl;
  key = omega arith;
  primary = omega arith;
  own = All-from_recursion (λ (place : ℕ). place < length of_greatest.columns) (0 ∷ []) (omega arith, tt);
  few = omega arith;
  indexed = All-nil (λ (index : SkipIndex). index.column < length of_greatest.columns);
  few_indexes = omega arith;
}

of_triples_is_table : IsTableSchema of_triples
of_triples_is_table = record {
  sound = refl;
  key = omega arith;
  primary = omega arith;
  own = All-from_recursion (λ (place : ℕ). place < length of_triples.columns) (0 ∷ []) (omega arith, tt);
  few = omega arith;
  indexed = All-nil (λ (index : SkipIndex). index.column < length of_triples.columns);
  few_indexes = omega arith;
}

of_newest_is_table : IsTableSchema of_newest
of_newest_is_table = record {
  sound = refl;
  key = omega arith;
  primary = omega arith;
  own = All-from_recursion (λ (place : ℕ). place < length of_newest.columns) (0 ∷ []) (omega arith, tt);
  few = omega arith;
  indexed = All-nil (λ (index : SkipIndex). index.column < length of_newest.columns);
  few_indexes = omega arith;
}

of_marked_sums_is_table : IsTableSchema of_marked_sums
of_marked_sums_is_table = record {
  sound = refl;
  key = omega arith;
  primary = omega arith;
  own = All-from_recursion (λ (place : ℕ). place < length of_marked_sums.columns) (0 ∷ []) (omega arith, tt);
  few = omega arith;
  indexed = All-nil (λ (index : SkipIndex). index.column < length of_marked_sums.columns);
  few_indexes = omega arith;
}

marked_is_table : (table : List ℕ) → IsTableSchema (marked_schema table)
marked_is_table table = by (begins_with 99 table) (begins_with 100 table) (begins_with 103 table) (begins_with 109 table) (begins_with 110 table) (begins_with 113 table)
  where
    by : (c d g m n q : Bool) → IsTableSchema (cond c of_signs (cond d of_versions (cond g of_greatest (cond m of_triples (cond n of_newest (cond q of_marked_sums of_numbers))))))
    by true d g m n q = of_signs_is_table
    by false true g m n q = of_versions_is_table
    by false false true m n q = of_greatest_is_table
    by false false false true n q = of_triples_is_table
    by false false false false true q = of_newest_is_table
    by false false false false false true = of_marked_sums_is_table
    by false false false false false false = of_numbers_is_table

-- each table of the events has a schema that a table may have
is_table : (table : List ℕ) → IsTableSchema (event_schema table)
is_table table = by (begins_with 112 table) (begins_with 114 table) (begins_with 115 table)
  where
    by : (p r s : Bool) → IsTableSchema (cond p parted (cond r of_lasts (cond s of_sums (marked_schema table))))
    by true r s = parted_is_table
    by false true s = of_lasts_is_table
    by false false true = of_sums_is_table
    by false false false = marked_is_table table

may_accept : (h : History) (c : Command) → AreOfEvents h → FitsAccept c → MayAccept h c
may_accept h (command.Create c) of fits = subst IsTableSchema (sym fits) (is_table c.table)
may_accept h (command.Insert i) of fits = λ schema is. subst (λ s. IsInsertInto s i) (sym (found i.table h schema of is)) fits
may_accept h (command.Alter a) of fits = λ schema is. subst (λ s. IsChangeOf s a.change) (sym (found a.table h schema of is)) fits

may_come : (core : Core) (e : Event) → AreOfEvents core.history → Fits e → MayCome core e
may_come core (event.Accept e) of fits = may_accept core.history e.command of fits
may_come core (event.Put m) of fits = absurd fits
may_come core (event.TakeSnapshot table) of fits = tt
may_come core (event.ReadSnapshot number) of fits = tt
may_come core (event.Crash crash.Between) of fits = tt
may_come core (event.Crash (crash.Within e done)) of fits = may_accept core.history e.command of fits
may_come core (event.Crash (crash.WithinPut m done)) of fits = absurd fits

both : (h more : History) → AreOfEvents h → AreOfEvents more → AreOfEvents (h ++ more)
both [] more a b = b
both (e ∷ h) more a b = (a.0, both h more a.1 b)

of_events : (c : Command) → FitsAccept c → IsOfEvents c
of_events (command.Create c) fits = fits
of_events (command.Insert i) fits = tt
of_events (command.Alter a) fits = tt

one_entry : (e : Entry) → FitsAccept e.command → AreOfEvents (e ∷ [])
one_entry e fits = (of_events e.command fits, tt)

no_entry : AreOfEvents []
no_entry = tt

-- an accept of an event makes a table of the events or adds rows of such a table
Enters : Event → Type 0
Enters (event.Accept e) = FitsAccept e.command
Enters (event.Put m) = Unit {0}
Enters (event.TakeSnapshot table) = Unit {0}
Enters (event.ReadSnapshot number) = Unit {0}
Enters (event.Crash crash.Between) = Unit {0}
Enters (event.Crash (crash.Within e done)) = FitsAccept e.command
Enters (event.Crash (crash.WithinPut m done)) = Unit {0}

enters : (e : Event) → Fits e → Enters e
unfolding Enters
enters (event.Accept e) fits = fits
enters (event.Put m) fits = tt
enters (event.TakeSnapshot table) fits = tt
enters (event.ReadSnapshot number) fits = tt
enters (event.Crash crash.Between) fits = tt
enters (event.Crash (crash.Within e done)) fits = fits
enters (event.Crash (crash.WithinPut m done)) fits = tt

enters_after : (core : Core) (e : Event) → FitsAfter core e → Enters e
unfolding Enters
enters_after core (event.Accept e) fits = fits
enters_after core (event.Put m) fits = tt
enters_after core (event.TakeSnapshot table) fits = tt
enters_after core (event.ReadSnapshot number) fits = tt
enters_after core (event.Crash crash.Between) fits = tt
enters_after core (event.Crash (crash.Within e done)) fits = fits
enters_after core (event.Crash (crash.WithinPut m done)) fits = tt

-- the entries that an event may add
added : (e : Event) (given : Outcome) (entries : History) → Enters e → AddsEntries e given entries → AreOfEvents entries
unfolding Enters
added (event.Accept e) (outcome.Accepted place) entries fits is = subst AreOfEvents (sym is) (one_entry e fits)
added (event.Crash (crash.Within e true)) given entries fits (inl is) = subst AreOfEvents (sym is) (one_entry e fits)
added (event.Crash (crash.Within e true)) given entries fits (inr is) = subst AreOfEvents (sym is) no_entry
added e given entries fits is = subst AreOfEvents (sym is) no_entry

all_added : (e : Event) (given : Outcome) (entries : History) → Enters e → AddAll (e ∷ []) (given ∷ []) entries → AreOfEvents entries
all_added e given entries fits adds =
    let last : AreOfEvents adds.1 = subst AreOfEvents (sym adds.3) no_entry in
    subst AreOfEvents (sym adds.4) (both adds.0 adds.1 (added e given adds.0 fits adds.2) last)

kept : (core next : Core) (e : Event) (given : Outcome) → AreOfEvents core.history → Enters e → GivesOutcome core e given next → AreOfEvents next.history
kept core next e given of fits gives =
    let has : HasEntries core (e ∷ []) (given ∷ []) next = run_entries (e ∷ []) (given ∷ []) core next (next, gives, refl) in
    subst AreOfEvents (sym has.2) (both core.history has.0 of (all_added e given has.0 fits has.1))

may_run : (events : List Event) (core : Core) → AreOfEvents core.history → AllByRecursion Fits events → MayRun core events
may_run [] core of fits = tt
may_run (e ∷ events) core of fits = (may_come core e of fits.0, λ given next gives. may_run events next (kept core next e given of (enters e fits.0) gives) fits.1)

-- events over tables of the events may run from the state before any event on
pub fitting_run : (events : List Event) → All Fits events → MayRun empty_core events
fitting_run events fits = may_run events empty_core no_entry (recursion_from_All Fits events fits)

-- ---- one event after others

-- an event that may come whatever came before
pub fits_after : (core : Core) (e : Event) → Fits e → FitsAfter core e
fits_after core (event.Accept e) fits = fits
fits_after core (event.Put m) fits = absurd fits
fits_after core (event.TakeSnapshot table) fits = tt
fits_after core (event.ReadSnapshot number) fits = tt
fits_after core (event.Crash crash.Between) fits = tt
fits_after core (event.Crash (crash.Within e done)) fits = fits
fits_after core (event.Crash (crash.WithinPut m done)) fits = absurd fits

-- such an event may come
pub fitting_comes : (core : Core) (e : Event) → AreOfEvents core.history → FitsAfter core e → MayCome core e
fitting_comes core (event.Accept e) of fits = may_accept core.history e.command of fits
fitting_comes core (event.Put m) of fits = fits
fitting_comes core (event.TakeSnapshot table) of fits = tt
fitting_comes core (event.ReadSnapshot number) of fits = tt
fitting_comes core (event.Crash crash.Between) of fits = tt
fitting_comes core (event.Crash (crash.Within e done)) of fits = may_accept core.history e.command of fits
fitting_comes core (event.Crash (crash.WithinPut m done)) of fits = fits

-- and each table of the history stays one of the events
pub fitting_stays : (core next : Core) (e : Event) (given : Outcome) → AreOfEvents core.history → FitsAfter core e → GivesOutcome core e given next → AreOfEvents next.history
fitting_stays core next e given of fits gives = kept core next e given of (enters_after core e fits) gives

-- before any event there is no table
pub none_of_events : AreOfEvents empty_core.history
none_of_events = tt

-- each table of the history has a schema that a table may have
pub has_table_schema : (table : List ℕ) (h : History) (schema : Schema) → AreOfEvents h → schema_of table h ≡ Some schema → IsTableSchema schema
has_table_schema table h schema of there = subst IsTableSchema (sym (found table h schema of there)) (is_table table)
