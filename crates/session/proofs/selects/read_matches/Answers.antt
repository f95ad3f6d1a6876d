use Rattle.std.proofs.lemmas.Result.{IfErr-weaker, IfOk-weaker}
use Rattle.std.proofs.Common.{◌≡◌, ◌<◌, ◌∙◌, ℕ, List, Some, length, map, slice_get, sym, ap, ap₂, refl, subst, arith, inl, inr, All}
use Rattle.std.proofs.lemmas.List.{length-map}
use Rattle.std.proofs.lemmas.List.Elements.{All-filter, All-map}
use Rattle.std.specs.List.{Contains as HasItem}
use Rattle.mt_values.specs.declared.expr.Test.{Test}
use Rattle.mt_values.specs.declared.schema.Column.{Column}
use Rattle.mt_values.specs.Conditions.{tests_of}
use Rattle.mt_values.specs.Grid.{Cells, grid_of, rows_of}
use Rattle.mt_values.specs.Order.{key_of}
use Rattle.mt_values.specs.Schemas.{column_types}
use Rattle.mt_values.specs.Tests.{eval}
use Rattle.mt_values.specs.Values.{Row, types_of}
use Rattle.mt_outside.specs.declared.disk.DiskError.TheVariants as failure
use Rattle.merge_workers.specs.shared_store.part_reader.declared.reading.PartFault.{PartFault}
use Rattle.merge_workers.specs.shared_store.part_reader.declared.reading.PartFault.TheVariants as fault
use Rattle.merge_workers.specs.shared_store.part_reader.Faults.{IsNoDamage}
use Rattle.merge_workers.proofs.PartReaderCutRows.{empty_even, empty_many, lent_back, projected, typed_have_all}
use Rattle.final_fold.specs.select_plan.Plans.{planned}
use Rattle.final_fold.specs.Matches.{matching}
use Rattle.final_fold.specs.Scans.{ArePlacesOf}
use Rattle.final_fold.proofs.Picking.{shown_within}
use Rattle.replies.specs.mt_model.declared.refusal.Refusal.TheVariants as refusal
use Rattle.replies.specs.mt_model.Refusals.{is_damage}
use Rattle.replies.specs.Lines.{IsLineOfStage, Printed}
use Rattle.replies.proofs.Causing.{says_answer, says_damage, says_failed}
use Rattle.replies.proofs.Counting.{some_rose}
use Rattle.replies.proofs.Ends.{adds_nothing, all_front}
use Rattle.replies.proofs.Refusing.{select_failed}
use Rattle.session.proofs.Asking.{query_is, query_places, tests_below}
use Rattle.session.proofs.Damaged.{each_holds, tells_of_damage}
use Rattle.session.proofs.Picking.{rows_shown}
use Rattle.session.specs.Lapses.{still}
use Rattle.session.specs.Selects.{TellsOfDamage}
use Rattle.session.proofs.Accounting.{accounts_line, in_any_case, never_by}
use Rattle.session.proofs.Selecting.{PrintsOf, prints_of, read_below, selected_below, selects}
use Rattle.session.proofs.SelectStanding.{snap_held, snap_schema}
use Rattle.session.proofs.Undamaged.{read_sound}
use Rattle.session.proofs.selects.read_matches.Goals as goal

-- a fault that is another than the arm's
not_fault : (why is : PartFault) → why ≡ is → (is ≡ fault.Fault → ⊥) → why ≡ fault.Fault → ⊥
not_fault why is same other bad = other (sym same ∙ bad)

-- the selected columns
pub pick_columns-requires : goal.pick_columns-requires
pick_columns-requires g c =
    let schema = c.args.snap.now.schema in
    let text = c.args.text.now in
    let q = c.args.query.now in
    subst (λ n. All (λ place. place < n) c.as_slice.result.now) (sym c.len.ensures)
    (subst (ArePlacesOf schema) (sym c.as_slice.ensures) (selected_below schema text.columns q.places (query_places schema.columns text q c.requires.query)))

-- and those that are read
pub empty_columns-requires : goal.empty_columns-requires
empty_columns-requires g c =
    let schema = c.args.snap.now.schema in
    let text = c.args.text.now in
    let q = c.args.query.now in
    let read = c.in_ok-picked.picked.read.items in
    read_below schema text.columns q.places read c.as_slice-2.result.now (query_places schema.columns text q c.requires.query)
    (subst (λ (ps : List ℕ). All (HasItem ps) read) c.as_slice.ensures c.in_ok-picked.ensures.selected) c.as_slice-2.ensures.value

-- what is asked is of the table
pub add_seen-requires-clause-wanted : goal.add_seen-requires-clause-wanted
add_seen-requires-clause-wanted g c κs within =
    let schema = c.args.snap.now.schema in
    let text = c.args.text.now in
    let q = c.args.query.now in
    let read = c.in_ok-picked.picked.read.items in
    record {
      schema = refl;
      table = c.requires.table;
      wanted = record {
        tests = All-map (λ place. place < length schema.columns) (λ (t : Test). t.column) (tests_of q.condition) (tests_below schema.columns text q c.requires.query);
        conjuncts = c.as_slice-conjuncts.ensures.value ∙ c.in_ok-own.ensures;
        places = read_below schema text.columns q.places read c.as_slice-2.result.now (query_places schema.columns text q c.requires.query)
            (subst (λ (ps : List ℕ). All (HasItem ps) read) c.as_slice.ensures c.in_ok-picked.ensures.selected) c.as_slice-2.ensures.value;
      };
    }

-- as its plan says
pub add_seen-requires-clause-plan : goal.add_seen-requires-clause-plan
add_seen-requires-clause-plan g c κs within = c.in_ok-planned.ensures

-- the columns are there again, with as many values as rows met the condition
pub print-requires-clause-even : goal.print-requires-clause-even
print-requires-clause-even g c =
    let new = c.add_seen.new.columns in
    let lent = c.deref_mut.result.now in
    let items = c.in_ok-columns.columns.items in
    let many : length new ≡ length items =
    sym (length-map new (λ (x : Cells). x.col_type)) ∙ ap length c.in-Ok.ensures.seen.types ∙ length-map lent (λ (x : Cells). x.col_type) ∙ ap length c.deref_mut.ensures.value in
    let back = lent_back items new c.in_ok-columns.columns.len many (ap length (sym c.deref_mut.ensures.value) ∙ c.deref_mut.ensures.len) in
    let none = subst (All (λ (x : Cells). length x.values ≡ 0)) (sym c.deref_mut.ensures.value) (empty_even c.as_slice-2.result.now items c.in_ok-columns.ensures.empty) in
    subst (All (λ (x : Cells). length x.values ≡ c.in-Ok.rows)) (sym back) (c.in-Ok.ensures.seen.even none)

-- each position that is shown has a column
pub print-requires-clause-shown : goal.print-requires-clause-shown
print-requires-clause-shown g c =
    let new = c.add_seen.new.columns in
    let lent = c.deref_mut.result.now in
    let items = c.in_ok-columns.columns.items in
    let many : length new ≡ length items =
    sym (length-map new (λ (x : Cells). x.col_type)) ∙ ap length c.in-Ok.ensures.seen.types ∙ length-map lent (λ (x : Cells). x.col_type) ∙ ap length c.deref_mut.ensures.value in
    let back = lent_back items new c.in_ok-columns.columns.len many (ap length (sym c.deref_mut.ensures.value) ∙ c.deref_mut.ensures.len) in
    let picked = c.in_ok-picked.picked in
    let wide : length new ≡ length picked.read.items = many ∙ empty_many c.as_slice-2.result.now items c.in_ok-columns.ensures.empty ∙ ap length c.as_slice-2.ensures.value in
    let shown = c.as_slice-in-Ok.result.now in
    let below : All (λ at. at < length picked.read.items) shown =
    subst (All (λ at. at < length picked.read.items)) (sym c.as_slice-in-Ok.ensures.value) (shown_within picked.read.items picked.shown.items c.as_slice.result.now c.in_ok-picked.ensures.shown) in
    subst (λ (cs : List Cells). All (λ at. at < length cs) shown) (sym back) (subst (λ n. All (λ at. at < n) shown) (sym wide) below)

-- what is seen and meets the condition
pub returns-in-Ok-clause-answers : goal.returns-in-Ok-clause-answers
returns-in-Ok-clause-answers g c = λ h store stands pinned.
    let files = g.R.Dir.Dir.files in
    let text = c.args.text.now in
    let snap = c.args.snap.now in
    let schema = snap.schema in
    let q = c.args.query.now in
    let there = snap_schema files h store stands text.table snap pinned in
    let picked = c.in_ok-picked.picked in
    let read = c.as_slice-2.result.now in
    let within = read_below schema text.columns q.places picked.read.items read (query_places schema.columns text q c.requires.query)
    (subst (λ (ps : List ℕ). All (HasItem ps) picked.read.items) c.as_slice.ensures c.in_ok-picked.ensures.selected) c.as_slice-2.ensures.value in
    let lent = c.deref_mut.ensures.value in
    let items = c.in_ok-columns.columns.items in
    let new = c.add_seen.new.columns in
    let empty = ap (map (λ (x : Cells). x.values)) lent ∙ c.in_ok-columns.ensures.empty in
    let seen = c.in-Ok.ensures.seen.values h store text.table stands pinned empty in
    let rows = matching q.condition seen.rows in
    let many : length new ≡ length items =
    sym (length-map new (λ (x : Cells). x.col_type)) ∙ ap length c.in-Ok.ensures.seen.types ∙ length-map c.deref_mut.result.now (λ (x : Cells). x.col_type) ∙ ap length lent in
    let back = lent_back items new c.in_ok-columns.columns.len many (ap length (sym lent) ∙ c.deref_mut.ensures.len) in
    let types = column_types schema in
    let typed = All-filter (eval q.condition) (λ (row : Row). types_of row ≡ types) seen.rows seen.typed in
    let have = typed_have_all types read rows (subst (λ n. All (λ p. p < n) read) (sym (length-map schema.columns (λ (x : Column). x.col_type))) within) typed in
    let rows_are = ap (rows_of new) seen.counted ∙ projected new read rows seen.values have in
    let shown = c.as_slice-in-Ok.result.now in
    let shown_is : map (slice_get read) shown ≡ map Some q.places =
    ap₂ (λ (r s : List ℕ). map (slice_get r) s) c.as_slice-2.ensures.value c.as_slice-in-Ok.ensures.value ∙ c.in_ok-picked.ensures.shown ∙ ap (map Some) c.as_slice.ensures in
    let shown_are = ap (map (key_of shown)) rows_are ∙ rows_shown rows read shown q.places have shown_is in
    let place : snap.length ≡ length h = pinned.length_is ∙ stands.length_is in
    IfOk-weaker c.print.result _ _ (λ reply is.
    let printed = subst (λ (cs : List Cells). Printed (grid_of cs c.in-Ok.rows) shown snap.length reply) back is in
    let prints = prints_of q seen.rows (grid_of new c.in-Ok.rows) shown snap.length reply shown_are printed in
    record {
      takes = λ n session f. inl (
        selects h text schema q seen.rows (length h) reply (all_front h) there c.requires.query seen.seen (subst (λ (m : ℕ). PrintsOf q seen.rows m reply) place prints),
        adds_nothing h session,
      );
      plain = λ plain. inr (snap, pinned, record { query = q; asked = c.requires.query; rows = seen.rows; are = seen.plain plain; lines = prints.lines; prints = prints.prints; reply_is = prints.reply_is });
    }) c.print.ensures

pub returns-in-Ok-clause-accounts : goal.returns-in-Ok-clause-accounts
returns-in-Ok-clause-accounts g c = λ opened disk.
    let before = g.R.Arm.failed c.args.arm.now in
    let after = g.R.Arm.failed c.add_seen.new.arm in
    let calm = c.in-Ok.ensures.arm.calm (λ no. absurd no) in
    accounts_line (still opened disk before after) (TellsOfDamage g.R.Dir.Dir.files c.args.snap.now c.args.text.now) c.print.result (Printed _ _ _) c.print.ensures
    (λ reply is. says_answer opened disk disk before after reply _ is.reply_is refl) (λ reply is bad. absurd (never_by reply (ap is_damage is.reply_is) bad)) (in_any_case c.print.result (refl, calm)) (omega (arith, calm))

-- memory ran out
pub returns-in-Err-default-NoMemory-clause-accounts : goal.returns-in-Err-default-NoMemory-clause-accounts
returns-in-Err-default-NoMemory-clause-accounts g c = λ opened disk.
    let calm = c.in-Err-default-NoMemory.ensures.arm.calm (not_fault c.in-Err-default-NoMemory.field-0-1 fault.NoMemory c.in-Err-default-NoMemory.field-0-1-is (λ is. cc)) in
    record { causes = tt; damaged = tt; memory = (refl, calm); later = omega (arith, calm) }

-- the arm failed
pub returns-in-Err-default-Fault-clause-answers : goal.returns-in-Err-default-Fault-clause-answers
returns-in-Err-default-Fault-clause-answers g c = λ h store stands pinned.
    let text = c.args.text.now in
    let schema = c.args.snap.now.schema in
    let there = snap_schema g.R.Dir.Dir.files h store stands text.table c.args.snap.now pinned in
    let rose = c.in-Err-default-Fault.ensures.arm.fault c.in-Err-default-Fault.field-0-1-is in
    IfOk-weaker c.stage_line.result _ _ (λ line is. record {
      takes = λ n session f. select_failed n h session text line c.args.query.now (query_is text h schema there ∙ c.requires.query)
          (is, f (some_rose (g.R.Arm.failed c.args.arm.now) (g.R.Arm.failed c.add_seen.new.arm) rose));
      plain = λ _. inl (refusal.Failed, is);
    }) c.stage_line.ensures.line

pub returns-in-Err-default-Fault-clause-accounts : goal.returns-in-Err-default-Fault-clause-accounts
returns-in-Err-default-Fault-clause-accounts g c = λ opened disk.
    let before = g.R.Arm.failed c.args.arm.now in
    let after = g.R.Arm.failed c.add_seen.new.arm in
    let arm = c.in-Err-default-Fault.ensures.arm in
    accounts_line (still opened disk before after) (TellsOfDamage g.R.Dir.Dir.files c.args.snap.now c.args.text.now) c.stage_line.result (IsLineOfStage failure.Fault) c.stage_line.ensures.line
    (λ reply is. says_failed opened disk disk before after reply failure.Fault is (λ _. arm.fault c.in-Err-default-Fault.field-0-1-is)) (λ reply is bad. absurd (never_by reply (ap is_damage is) bad))
    (IfErr-weaker c.stage_line.result _ _ (λ e no. absurd (no refl)) c.stage_line.ensures.fault) arm.later

-- a part that stands for the table is not damaged
pub returns-clause-answers : goal.returns-clause-answers
returns-clause-answers g c = λ h store stands pinned.
    let files = g.R.Dir.Dir.files in
    let snap = c.args.snap.now in
    let held = snap_held files h store stands c.args.text.now.table snap pinned in
    absurd (subst IsNoDamage c.in-Err-default-Damaged.field-0-1-is
    (read_sound files snap c.args.text.now.is_final c.args.query.now.condition _ _ refl c.requires.table (each_holds files snap.schema snap.parts.items held.rows held.hold) c.in-Err-default-Damaged.ensures.fault))

-- what is told of damage
pub returns-clause-accounts : goal.returns-clause-accounts
returns-clause-accounts g c = λ opened disk.
    let text = c.args.text.now in
    let snap = c.args.snap.now in
    let q = c.args.query.now in
    let before = g.R.Arm.failed c.args.arm.now in
    let after = g.R.Arm.failed c.add_seen.new.arm in
    let arm = c.in-Err-default-Damaged.ensures.arm in
    let calm = arm.calm (not_fault c.in-Err-default-Damaged.field-0-1 _ c.in-Err-default-Damaged.field-0-1-is (λ is. cc)) in
    let selected = subst (λ (ps : List ℕ). All (HasItem ps) c.as_slice-2.result.now) c.as_slice.ensures
    (subst (All (HasItem c.as_slice.result.now)) (sym c.as_slice-2.ensures.value) c.in_ok-picked.ensures.selected) in
    accounts_line (still opened disk before after) (TellsOfDamage g.R.Dir.Dir.files snap text) c.damaged.result _ c.damaged.ensures
    (λ line is. says_damage opened disk disk before after line _ _ _ is)
    (λ line is bad.
    tells_of_damage g.R.Dir.Dir.files snap text line q _ snap.parts.items (planned snap text.is_final q.condition) c.in-Err-default-Damaged.part c.in-Err-default-Damaged.file _ _ _ c.in-Err-default-Damaged.field-0-1
    c.requires.table c.requires.query c.in-Err-default-Damaged.ensures.fault c.in-Err-default-Damaged.field-0-1-is refl refl
    (record { schema = refl; condition = refl; places = selected }) is) (in_any_case c.damaged.result (refl, calm)) arm.later
