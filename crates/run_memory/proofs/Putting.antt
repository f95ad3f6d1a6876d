-- Merges of parts that stand for a history, whose rows are what a merge may leave of theirs.
use Rattle.std.proofs.Common.{◌≡◌, ◌+◌, ◌≤◌, ℕ, Bool, true, false, cond, List, [], ◌∷◌, Some, None, drop, get_or, length, take, refl, sym, ap, ◌∙◌, subst}
use Rattle.std.specs.Prelude.{Result, Ok, Err, IfOk, OnErr, Vec}
use Rattle.std.specs.List.{All, AllZip}
use Rattle.std.proofs.lemmas.List.{drop-map, take-map, length-map}
use Rattle.std.proofs.lemmas.List.Elements.{All-cons, All-drop, All-filter, All-head, All-map, All-nil, All-tail, All-take}
use Rattle.mt_base.specs.declared.memory.NoMemory.{NoMemory}
use Rattle.mt_base.specs.declared.partition.Partition.{Partition}
use Rattle.mt_values.specs.declared.schema.Schema.{Schema}
use Rattle.mt_values.specs.Tables.{same_partition}
use Rattle.mt_values.specs.Values.{Row}
use Rattle.table_core.specs.mt_model.History.{History, IsLegal, IsTableSchema, schema_of}
use Rattle.table_core.proofs.MtModelCommands.{partition_is}
use Rattle.table_core.specs.part_history.declared.part.CorePart.{CorePart}
use Rattle.table_core.specs.part_history.Merges.{MergeLeaves, with_rows}
use Rattle.table_core.specs.part_history.Parts.{PartStands, TableStands, parts_in}
use Rattle.table_core.proofs.PartHistoryOwnRows.{own_rows}
use Rattle.row_merge.specs.Merged.{ArePartRows, IsMergedOf, inputs_of}
use Rattle.row_merge.proofs.HistoryRows.{are_part_rows, same_schema}
use Rattle.table_core.specs.declared.event.Put.{Put}
use Rattle.table_core.specs.declared.event.Event.{Event}
use Rattle.table_core.specs.declared.event.Outcome.{Outcome}
use Rattle.table_core.specs.declared.event.Task.{Task}
use Rattle.table_core.specs.declared.event.Task.TheVariants as task
use Rattle.table_core.specs.Core.{Core, IsCore, empty_core}
use Rattle.table_core.specs.Steps.{AreMade, GivesOutcome, MayPut, beside, sources_among}
use Rattle.run_memory.specs.Events.{AreOfEvents, FitsAfter}
use Rattle.run_memory.specs.Putting.{IsCourse, LeftOfRun, rows_of_each, run_of}
use Rattle.run_memory.proofs.Fitting.{fitting_stays, has_table_schema, none_of_events}

-- ---- the rows of a part that stands for a history are rows of its table

module _ (h : History) (legal : IsLegal h) where
  -- each part of a table has rows as a part of its partition has them
  table_rows : (table : List ℕ) (schema : Schema) (parts : List CorePart) → schema_of table h ≡ Some schema → TableStands table parts h → All (λ (p : CorePart). ArePartRows schema p.name.partition p.rows) parts
  table_rows table schema parts there stands =
      let parted = own_rows h legal table schema parts there stands in
      λ k d below. are_part_rows h legal schema (get_or parts k d) (ap (λ u. schema_of u h) (stands.own k d below) ∙ there) (stands.each k d below) (parted k d below)

-- ---- the parts of one partition

own_partition : (schema : Schema) (partition : Partition) (parts : List CorePart) → All (λ (p : CorePart). ArePartRows schema p.name.partition p.rows) parts
    → All (λ (p : CorePart). ArePartRows schema partition p.rows) (parts_in partition parts)
own_partition schema partition [] all = All-nil (λ (p : CorePart). ArePartRows schema partition p.rows)
own_partition schema partition (part ∷ parts) all = by (same_partition part.name.partition partition) refl (own_partition schema partition parts (All-tail (λ (p : CorePart). ArePartRows schema p.name.partition p.rows) part parts all))
  where
    by : (b : Bool) → same_partition part.name.partition partition ≡ b → All (λ (p : CorePart). ArePartRows schema partition p.rows) (parts_in partition parts)
        → All (λ (p : CorePart). ArePartRows schema partition p.rows) (cond b (part ∷ parts_in partition parts) (parts_in partition parts))
    by true same rest =
        All-cons (λ (p : CorePart). ArePartRows schema partition p.rows) part (parts_in partition parts)
        (subst (λ (q : Partition). ArePartRows schema q part.rows) (partition_is part.name.partition partition same) (All-head (λ (p : CorePart). ArePartRows schema p.name.partition p.rows) part parts all)) rest
    by false same rest = rest

-- ---- a run of them

-- each part stands with its own rows
with_own : (h : History) (parts : List CorePart) → All (PartStands h) parts → AllZip (λ (p : CorePart) (rows : List Row). PartStands h (with_rows p rows)) parts (rows_of_each parts)
with_own h [] all = tt
with_own h (part ∷ parts) all = (All-head (PartStands h) part parts all, with_own h parts (All-tail (PartStands h) part parts all))

-- a put may come whose rows are what a merge may leave of the rows of its sources
pub put_may : (core : Core) (m : Put) (schema : Schema) (own : List (List Row)) → m.task ≡ task.Merge → IsCore core → AreOfEvents core.history → schema_of m.sources.table core.history ≡ Some schema
    → own ≡ rows_of_each (parts_in m.sources.partition (beside core m.sources)) → LeftOfRun schema m.sources.first m.sources.count own m.rows → MayPut core m
put_may core m schema own merges is of there own_is left = λ other others neighbours.
    let h = core.history in
    let parts = beside core m.sources in
    let sources = sources_among parts m.sources in
    let same : schema ≡ other = same_schema schema other (sym there ∙ others) in
    let stands = is.parts m.sources.table in
    let run = take m.sources.count (drop m.sources.first own) in
    let run_is : run ≡ rows_of_each sources =
    ap (λ (xs : List (List Row)). take m.sources.count (drop m.sources.first xs)) own_is
    ∙ (ap (take m.sources.count) (drop-map (λ (p : CorePart). p.rows) m.sources.first (parts_in m.sources.partition parts))
    ∙ take-map (λ (p : CorePart). p.rows) m.sources.count (drop m.sources.first (parts_in m.sources.partition parts))) in
    let Own = λ (p : CorePart). ArePartRows schema m.sources.partition p.rows in
    let all : All Own (parts_in m.sources.partition parts) = own_partition schema m.sources.partition parts (table_rows h is.legal m.sources.table schema parts there stands) in
    let picked : All Own sources = All-take Own m.sources.count (drop m.sources.first (parts_in m.sources.partition parts)) (All-drop Own m.sources.first (parts_in m.sources.partition parts) all) in
    let rows : All (ArePartRows schema m.sources.partition) run = subst (All (ArePartRows schema m.sources.partition)) (sym run_is) (All-map (ArePartRows schema m.sources.partition) (λ (p : CorePart). p.rows) sources picked) in
    let each : All (PartStands h) sources =
    All-take (PartStands h) m.sources.count (drop m.sources.first (parts_in m.sources.partition parts)) (All-drop (PartStands h) m.sources.first (parts_in m.sources.partition parts)
    (All-filter (λ (p : CorePart). same_partition p.name.partition m.sources.partition) (PartStands h) parts stands.each)) in
    let long : length own ≡ length (parts_in m.sources.partition parts) = ap length own_is ∙ length-map (parts_in m.sources.partition parts) (λ (p : CorePart). p.rows) in
    let within : m.sources.first + m.sources.count ≤ length own = subst (λ (n : ℕ). m.sources.first + m.sources.count ≤ n) (sym long) neighbours.within in
    let merged : IsMergedOf schema m.sources.partition run m.rows = left within m.sources.partition (has_table_schema m.sources.table h schema of there) rows in
    subst (λ (t : Task). AreMade h other sources t m.rows) (sym merges) (subst (λ (s : Schema). MergeLeaves h s sources m.rows) same (record {
      inputs = run;
      stand = subst (AllZip (λ (p : CorePart) (rows : List Row). PartStands h (with_rows p rows)) sources) (sym run_is) (with_own h sources each);
      rising = merged.rows.rising;
      merges = merged.merges;
    }))

-- no part is there of a table that is not
pub put_of_none : (core : Core) (m : Put) → schema_of m.sources.table core.history ≡ None → MayPut core m
put_of_none core m none = λ schema there neighbours. absurd (clash schema (sym none ∙ there))
  where
    clash : (schema : Schema) → None ≡ Some schema → ⊥
    clash schema e = cc

-- ---- what is left of a run of inputs

pub left_of : {A : Type 0} (schema : Schema) (own run : List (Vec Row A)) (first count : ℕ) (rows out : List Row) → run ≡ take count (drop first own) → rows ≡ out
    → ((partition : Partition) → IsTableSchema schema → All (ArePartRows schema partition) (inputs_of run) → IsMergedOf schema partition (inputs_of run) out)
    → LeftOfRun schema first count (inputs_of own) rows
left_of {A} schema own run first count rows out run_is rows_are merged = λ within partition table all.
    let items = λ (input : Vec Row A). input.items in
    let same : run_of first count (inputs_of own) ≡ inputs_of run =
    ap (take count) (drop-map items first own) ∙ (take-map items count (drop first own) ∙ ap (λ (xs : List (Vec Row A)). inputs_of xs) (sym run_is)) in
    subst (λ (xs : List (List Row)). IsMergedOf schema partition xs rows) (sym same)
    (subst (λ (r : List Row). IsMergedOf schema partition (inputs_of run) r) (sym rows_are) (merged partition table (subst (All (ArePartRows schema partition)) same all)))

-- ---- the state in a course of events

-- before any event
pub begun : (core : Core) → IsCore core → core ≡ empty_core → IsCourse core
begun core is empty = record { holds = is; tables = subst (λ (c : Core). AreOfEvents c.history) (sym empty) none_of_events }

-- after one more
pub stays : (core next : Core) (e : Event) (result : Result Outcome NoMemory) → AreOfEvents core.history → FitsAfter core e → IsCore next
    → IfOk result (λ given. GivesOutcome core e given next) → OnErr result (next ≡ core) → IsCourse next
stays core next e (Ok given) of fits is gives err = record { holds = is; tables = fitting_stays core next e given of fits gives }
stays core next e (Err refused) of fits is gives err = record { holds = is; tables = subst (λ (c : Core). AreOfEvents c.history) (sym err) of }
