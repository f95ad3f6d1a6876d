-- What a SELECT sees of a pinned table: what is asked for that, with FINAL and without it.
use Rattle.std.proofs.Common.{◌≡◌, ◌<◌, ◌^◌, ◌∙◌, ℕ, Bool, true, false, List, [], ◌∷◌, All, Option, Some, Result, Ok, Err, length, map, refl, sym, ap, ap₂, subst}
use Rattle.std.specs.List.{AllZip, zip as pairs}
use Rattle.std.specs.Result.{IfOk, OnOk}
use Rattle.std.proofs.lemmas.Bool.{false≢true}
use Rattle.std.proofs.lemmas.List.Elements.{All-cons, All-head, All-nil, All-tail, recursion_from_All}
use Rattle.mt_values.specs.declared.expr.Test.{Test}
use Rattle.mt_values.specs.declared.schema.Schema.{Schema}
use Rattle.mt_values.specs.Conditions.{Condition, conjuncts_of, tests_of}
use Rattle.mt_values.specs.Grid.{Cells}
use Rattle.mt_values.specs.Tables.{partition_of}
use Rattle.mt_values.specs.Values.{Row}
use Rattle.mt_outside.specs.Files.{Files}
use Rattle.replies.specs.mt_model.History.{History, IsTableSchema, schema_of}
use Rattle.replies.specs.mt_model.Live.{live}
use Rattle.final_fold.specs.part_history.declared.part.CorePart.{CorePart}
use Rattle.final_fold.specs.part_history.Parts.{PartStands}
use Rattle.final_fold.proofs.PartHistoryOwnRows.{own_rows}
use Rattle.merge_workers.specs.shared_store.part_reader.declared.reading.Part.{Part}
use Rattle.merge_workers.specs.shared_store.part_set.declared.kept.Kept.{Kept}
use Rattle.merge_workers.specs.shared_store.part_set.declared.kept.Snap.{Snap}
use Rattle.merge_workers.specs.shared_store.root_store.declared.store.CoreStore.{CoreStore}
use Rattle.merge_workers.specs.shared_store.root_store.Stores.{CoreStands, core_parts}
use Rattle.merge_workers.proofs.RootStoreTableMarks.{has_marks}
use Rattle.final_fold.specs.select_plan.Plans.{asked_each, asked_part, planned, read_of}
use Rattle.final_fold.proofs.SelectPlanPlanning.{each_asked}
use Rattle.final_fold.specs.declared.asking.Wanted.{Wanted}
use Rattle.final_fold.specs.Asked.{IsWanted, MeetUnasked}
use Rattle.final_fold.specs.Folded.{AreOfPartitions, IsFolded, SkipNoFold, StandByPartition}
use Rattle.final_fold.specs.Matches.{HoldEachMatch, MeetWhereUnasked, asked_of, matching}
use Rattle.final_fold.specs.row_merge.MergedParts.{PartsHold}
use Rattle.final_fold.specs.Scans.{joined_rows, values_at}
use Rattle.final_fold.proofs.Scanning.{joined_typed}
use Rattle.merge_workers.specs.shared_store.Engines.{IsSnapOf}
use Rattle.session.specs.Selects.{AddsSeen, IsSeen}
use Rattle.session.proofs.FinalReads.{are_of_partitions, folded_of, folded_typed, skip_no_fold, stand_parted}
use Rattle.session.proofs.Matching.{plans_hold, plans_sure}
use Rattle.session.proofs.SelectStanding.{Held, snap_held, snap_schema}

-- of each item what is known of what becomes of it
unmapped : {X Y : Type 0} (P : Y → Type 0) (f : X → Y) (xs : List X) → All P (map f xs) → All (λ x. P (f x)) xs
unmapped P f [] all = All-nil (λ x. P (f x))
unmapped P f (x ∷ xs) all = All-cons (λ y. P (f y)) x xs (All-head P (f x) (map f xs) all) (unmapped P f xs (All-tail P (f x) (map f xs) all))

-- what holds where all is well, of the value as well
pub ok_both : {X E : Type 0} (r : Result X E) (A : Type 0) (B C : X → Type 0) → ((x : X) → A → B x → C x) → OnOk r A → IfOk r B → IfOk r C
ok_both (Ok x) A B C join a b = join x a b
ok_both (Err e) A B C join a b = tt

-- what was added, by what is known of each
pub adds_seen : {F E : Type 0} (files_of : F → Option Files) (snap : Snap (Part F)) (is_final : Bool) (w : Wanted) (old new : List Cells) (r : Result ℕ E)
    → ((h : History) (store : CoreStore F) (table : List ℕ) → CoreStands files_of h store → IsSnapOf store table snap → map (λ (c : Cells). c.values) old ≡ values_at [] w.places.now → IfOk r (IsSeen files_of snap.parts.items w is_final (live table w.schema.now h) new))
    → (All (λ (c : Cells). length c.values ≡ 0) old → IfOk r (λ count. All (λ (c : Cells). length c.values ≡ count) new)) → OnOk r (map (λ (c : Cells). c.col_type) new ≡ map (λ (c : Cells). c.col_type) old) → IfOk r (λ count. count < 2 ^ 32)
    → IfOk r (AddsSeen files_of snap is_final w old new)
adds_seen files_of snap is_final w old new (Ok count) values even types few = record { values = values; even = even; types = types; few = few }
adds_seen files_of snap is_final w old new (Err e) values even types few = tt

module _ {F : Type 0} (files_of : F → Option Files) (snap : Snap (Part F)) (w : Wanted) (same : snap.schema ≡ w.schema.now) (fits : IsTableSchema w.schema.now) (wanted : IsWanted w) where
  -- the columns of the condition's tests are the table's
  below : All (λ (t : Test). t.column < length w.schema.now.columns) (tests_of w.condition.now)
  below = unmapped (λ place. place < length w.schema.now.columns) (λ (t : Test). t.column) (tests_of w.condition.now) wanted.tests

  plan_is : (is_final : Bool) (chosen : List (List Bool)) → chosen ≡ planned snap is_final w.condition.now → chosen ≡ map (read_of w.schema.now is_final w.condition.now) snap.parts.items
  plan_is is_final chosen is = is ∙ ap (λ (s : Schema). map (λ (k : Kept (Part F)). read_of s is_final w.condition.now k) snap.parts.items) same

  module _ (h : History) (store : CoreStore F) (table : List ℕ) (stands : CoreStands files_of h store) (pinned : IsSnapOf store table snap) where
    held : Held files_of h table w.schema.now snap.parts.items
    held = subst (λ (s : Schema). Held files_of h table s snap.parts.items) same (snap_held files_of h store stands table snap pinned)

    there : schema_of table h ≡ Some w.schema.now
    there = snap_schema files_of h store stands table snap pinned ∙ ap Some same

    -- ---- with FINAL

    -- what FINAL asks of the parts, and what it gives
    pub record FinalParts (chosen : List (List Bool)) : Type 0 where
      pub rows : List (List Row)
      pub stand : StandByPartition snap.parts.items
      pub hold : PartsHold files_of w.schema.now snap.parts.items rows
      pub own : AreOfPartitions w.schema.now snap.parts.items rows
      pub skip : SkipNoFold w chosen rows
      pub seen : (columns : List Cells) (count : ℕ) → IsFolded w (joined_rows rows) columns count → IsSeen files_of snap.parts.items w true (live table w.schema.now h) columns count

    pub final_parts : (chosen : List (List Bool)) → chosen ≡ planned snap true w.condition.now → FinalParts chosen
    final_parts chosen is =
        let parts = core_parts table snap.parts.items held.rows in
        record {
          rows = held.rows;
          stand = stand_parted files_of w.schema.now table snap.parts.items held.rows held.hold held.order;
          hold = held.hold;
          own = are_of_partitions files_of h stands.legal table w.schema.now there snap.parts.items held.rows held.hold held.stand;
          skip = subst (λ (ch : List (List Bool)). SkipNoFold w ch held.rows) (sym (plan_is true chosen is))
              (skip_no_fold files_of w h table (has_marks w.schema.now fits) fits.sound there below snap.parts.items held.rows held.hold
              (recursion_from_All (λ (p : CorePart). p.table ≡ table) parts held.stand.own) (recursion_from_All (PartStands h) parts held.stand.each)
              (recursion_from_All (λ (p : CorePart). All (λ (r : Row). partition_of w.schema.now r ≡ p.name.partition) p.rows) parts (own_rows h stands.legal table w.schema.now parts there held.stand)));
          seen = λ columns count folded. record {
            rows = folded.out;
            plain = λ no. absurd (false≢true (sym no));
            seen = folded_of files_of h stands.legal table w.schema.now there held.rows folded.out held.partly folded.merges;
            typed = folded_typed files_of h stands.legal table w.schema.now there held.rows folded.out held.partly folded.merges;
            values = folded.values;
            counted = folded.counted;
          };
        }

    -- ---- without it

    -- what is asked of the parts, and what it gives
    pub record PlainParts (chosen : List (List Bool)) (asked : List (List (List Bool))) : Type 0 where
      pub rows : List (List Row)
      pub hold : PartsHold files_of w.schema.now snap.parts.items rows
      pub each : HoldEachMatch w chosen rows
      pub sure : MeetWhereUnasked w chosen asked rows
      pub seen : (columns : List Cells) (count : ℕ) → map (λ (c : Cells). c.values) columns ≡ values_at (matching w.condition.now (joined_rows rows)) w.places.now
          → count ≡ length (matching w.condition.now (joined_rows rows)) → IsSeen files_of snap.parts.items w false (live table w.schema.now h) columns count

    pub plain_parts : (own : List (Kept (Part F))) (chosen : List (List Bool)) → own ≡ snap.parts.items → chosen ≡ planned snap false w.condition.now → PlainParts chosen (asked_of w own chosen)
    plain_parts own chosen own_is is =
        let schema = w.schema.now in
        let c = w.condition.now in
        let parts = snap.parts.items in
        let asked = asked_of w own chosen in
        let asks : asked ≡ map (asked_part schema c) parts =
        ap (λ (ds : List (Condition Test)). asked_each schema ds own chosen) wanted.conjuncts
        ∙ ap₂ (λ (ks : List (Kept (Part F))) (cs : List (List Bool)). asked_each schema (conjuncts_of c) ks cs) own_is (plan_is false chosen is)
        ∙ each_asked schema c parts in
        record {
          rows = held.rows;
          hold = held.hold;
          each = subst (λ (ch : List (List Bool)). HoldEachMatch w ch held.rows) (sym (plan_is false chosen is)) (plans_hold files_of schema c h table fits there below parts held.rows stands.legal held.hold held.stand);
          sure = subst (λ (ds : List (Condition Test)). AllZip (λ (p : List Bool × List (List Bool)) (r : List Row). MeetUnasked schema.granularity p.0 ds p.1 r) (pairs chosen asked) held.rows) (sym wanted.conjuncts)
              (subst (λ (ch : List (List Bool)). AllZip (λ (p : List Bool × List (List Bool)) (r : List Row). MeetUnasked schema.granularity p.0 (conjuncts_of c) p.1 r) (pairs ch asked) held.rows) (sym (plan_is false chosen is))
              (subst (λ (gs : List (List (List Bool))). AllZip (λ (p : List Bool × List (List Bool)) (r : List Row). MeetUnasked schema.granularity p.0 (conjuncts_of c) p.1 r) (pairs (map (read_of schema false c) parts) gs) held.rows) (sym asks)
              (plans_sure files_of schema c h table fits there below parts held.rows stands.legal held.hold held.stand)));
          seen = λ columns count values counted. record {
            rows = joined_rows held.rows;
            seen = held.partly;
            plain = λ _. record { held = held.rows; hold = held.hold; joined = refl };
            typed = joined_typed files_of schema parts held.rows held.hold;
            values = values;
            counted = counted;
          };
        }
