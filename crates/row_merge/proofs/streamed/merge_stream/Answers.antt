use Rattle.std.proofs.Common.{◌≡◌, ◌<◌, ◌∙◌, ◌++◌, IfSome, List, arith, length, refl, subst, sym}
use Rattle.std.specs.List.{range_with_len}
use Rattle.mt_outside.proofs.LeftArms.{arm_same}
use Rattle.mt_values.specs.Grid.{AreRowsOf}
use Rattle.mt_values.specs.Schemas.{column_types}
use Rattle.mt_values.specs.Values.{Row}
use Rattle.mt_values.specs.declared.schema.Schema.{Schema}
use Rattle.rule_replacing.specs.rule_law.TableRows.{IsTableRow}
use Rattle.row_merge.specs.Streams.{GivesRow, HandsOver, HasPending, IsPending, rows_to_come}
use Rattle.row_merge.proofs.Explaining.{stream_says}
use Rattle.row_merge.proofs.Handing.{merge_begins, merged_all, none_pending, own_left, own_taken}
use Rattle.row_merge.proofs.SealedMerges.{explains_any}
use Rattle.row_merge.proofs.Written.{arm_alone, both_as, both_then, first_says, no_fault, stage_alone, stage_failed}
use Rattle.row_merge.proofs.Failing.{handed_fails}
use Rattle.row_merge.proofs.GoingOn.{on_same}
use Rattle.row_merge.proofs.Nexts.{counted_stream}
use Rattle.row_merge.proofs.streamed.merge_stream.Goals as goal

pub rows-init : goal.rows-init
rows-init g c =
    let i = c.args.inputs.now in
    let rule = c.args.rule.now in
    record {
      on = on_same c.requires.on;
      order = subst (λ xs. xs ≡ range_with_len 0 (length xs)) (sym c.new-order.ensures.items) refl;
      current = none_pending i.places.now (g.Q.RowRule.run rule) (g.Q.RowRule.holds rule) (g.Q.RowRule.takes rule) (column_types i.schema.now);
      merging = λ partition rows apart holds left parts.
          merge_begins (g.Q.RowRule.run rule) (g.Q.RowRule.holds rule) (g.Q.RowRule.takes rule) i rows partition c.args.stream.now c.args.out.now c.requires.on.stream.inputs.places_are left parts c.requires.empty;
      leaves = arm_alone c.args.out.now.stage.failed (arm_same c.args.arm.now);
    }

-- a part could not be read
pub returns-in_err-row-clause-fails : goal.returns-in_err-row-clause-fails
returns-in_err-row-clause-fails g c =
    let files = g.R.Dir.Dir.files in
    let i = c.args.inputs.now in
    handed_fails c.from_residual.result c.in_err-row.field-0.0 c.from_residual.ensures.1
    (stream_says files i c.in_err-row.field-0.0 c.rows.stream.readers.items c.rows.invariant.on.on.stream.readers c.in_err-row.ensures.fails.damaged)
    (both_then c.rows.invariant.leaves (λ none. none) (arm_alone c.rows.out.stage.failed c.in_err-row.ensures.fails.leaves))

-- the next row is handed over
pub hand_over-requires-clause-takes : goal.hand_over-requires-clause-takes
hand_over-requires-clause-takes g c = c.requires.takes

pub hand_over-requires-clause-inputs : goal.hand_over-requires-clause-inputs
hand_over-requires-clause-inputs g c = c.requires.on.stream.inputs

pub append_on-requires-clause-takes : goal.append_on-requires-clause-takes
append_on-requires-clause-takes g c = λ κs within. c.requires.takes

pub append_on-requires-clause-current : goal.append_on-requires-clause-current
append_on-requires-clause-current g c = λ κs within. c.in-Ok.ensures.current c.rows.invariant.current

pub append_on-requires-clause-typed : goal.append_on-requires-clause-typed
append_on-requires-clause-typed g c = λ κs within.
    let types = column_types c.args.inputs.now.schema.now in
    subst (λ (x : Schema). AreRowsOf (column_types x) c.deref.result.now) (sym c.rows.invariant.on.on.table)
    (subst (AreRowsOf types) (sym c.deref.ensures.value) (c.in-Ok.ensures.typed c.rows.invariant.current))

pub rows-preserved : goal.rows-preserved
rows-preserved g c =
    let i = c.args.inputs.now in
    let rule = c.args.rule.now in
    let run = g.Q.RowRule.run rule in
    let holds = g.Q.RowRule.holds rule in
    let takes = g.Q.RowRule.takes rule in
    let before = c.rows.invariant in
    let mid = c.next_row.new.stream in
    let now = c.in-Ok-append_on.ensures in
    record {
      on = record { on = now.on.on; told = now.on.told ∙ before.on.told; rises = let one = before.on.rises in let two = now.on.rises in omega (arith, one, c.in_ok-row.ensures.rises, two) };
      order = now.order;
      current = now.current;
      merging = λ partition rows apart hold left parts.
          let m = before.merging partition rows apart hold left parts in
          let t = subst (GivesRow i.places.now rows m.left mid) c.in-Some.is (c.in_ok-row.ensures.gives rows m.left hold m.left_is m.over.merging.sorted) in
          let own = own_taken (IsTableRow i.schema.now) i.places.now m.left t.after c.in-Some.row t.taken m.own in
          let handed = c.in-Ok.ensures.hands rows m.done m.left t.after apart own.signed m.over t.taken in
          let over = subst (λ (zs : List Row). HandsOver i.places.now run holds takes (column_types i.schema.now) rows (m.done ++ zs) t.after c.in-Ok.new) (sym c.deref.ensures.value) handed in
          now.merges rows t.after m.done apart m.has over t.left_is (own_left (IsTableRow i.schema.now) i.places.now m.left t.after c.in-Some.row t.taken m.own);
      leaves = both_then before.leaves (λ none. none) (both_then (arm_alone c.rows.out.stage.failed c.in_ok-row.ensures.fails.leaves) (λ none. none)
          (stage_alone c.next_row.new.arm c.rows.out.stage.failed c.append_on.new.out.stage.failed ⊥ c.append_on.ensures.cause.later (λ f. absurd f) (λ none. now.cause.ok)));
    }

pub rows-smaller : goal.rows-smaller
rows-smaller g c =
    let fewer = subst (λ found. IfSome found (λ (row : Row). rows_to_come c.next_row.new.stream < rows_to_come c.rows.stream)) c.in-Some.is c.in_ok-row.ensures.fewer in
    omega (arith, fewer, c.in-Ok-append_on.ensures.fewer)

-- the last key ends
pub end_merge-requires-clause-current : goal.end_merge-requires-clause-current
end_merge-requires-clause-current g c = λ κs within.
    let rule = c.args.rule.now in
    subst (λ (x : Schema). HasPending (g.Q.RowRule.holds rule) (g.Q.RowRule.takes rule) (column_types x) c.rows.current) (sym c.rows.invariant.on.on.table) c.rows.invariant.current

pub end_merge-requires-clause-made : goal.end_merge-requires-clause-made
end_merge-requires-clause-made g c = λ κs within. c.in_ok-row.ensures.stream.none_made

pub returns-in-Ok-end_merge-clause-merged : goal.returns-in-Ok-end_merge-clause-merged
returns-in-Ok-end_merge-clause-merged g c = λ partition rows apart hold left parts.
    let i = c.args.inputs.now in
    let rule = c.args.rule.now in
    let run = g.Q.RowRule.run rule in
    let holds = g.Q.RowRule.holds rule in
    let takes = g.Q.RowRule.takes rule in
    let m = c.rows.invariant.merging partition rows apart hold left parts in
    let none = subst (GivesRow i.places.now rows m.left c.next_row.new.stream) c.in_default.is (c.in_ok-row.ensures.gives rows m.left hold m.left_is m.over.merging.sorted) in
    let is = subst (λ (x : Schema). IsPending holds takes (column_types x) c.rows.current m.over.pending) (sym c.rows.invariant.on.on.table) m.over.is in
    merged_all i.places.now run holds takes (column_types i.schema.now) (λ key some kept many all same ran. g.met.Q.RowRule.keeps rule i.places.now key some kept apart many all same ran) rows m.done m.left c.rows.current c.end_merge.new.out m.over none
    (c.in-Ok-end_merge.ensures.leaves m.done m.over.pending m.has is)

pub returns-in-Ok-end_merge-clause-idle : goal.returns-in-Ok-end_merge-clause-idle
returns-in-Ok-end_merge-clause-idle g c = record {
  read = c.end_merge.ensures.held.read ∙ c.in_ok-row.ensures.idle c.requires.on.shaped c.in_default.is;
  made = c.in-Ok-end_merge.ensures.made;
}

pub returns-in-Ok-end_merge-clause-most : goal.returns-in-Ok-end_merge-clause-most
returns-in-Ok-end_merge-clause-most g c = let i = c.args.inputs.now in c.end_merge.ensures.held.within (length i.parts.now) i.schema.now.granularity (c.next_row.ensures.most c.requires.on.shaped)

pub returns-in-Ok-end_merge-clause-fails : goal.returns-in-Ok-end_merge-clause-fails
returns-in-Ok-end_merge-clause-fails g c = record {
  damaged = tt;
  leaves = both_as (both_then c.rows.invariant.leaves (λ none. none) (both_then (arm_alone c.rows.out.stage.failed c.in_ok-row.ensures.fails.leaves) (λ none. none)
      (stage_alone c.next_row.new.arm c.rows.out.stage.failed c.end_merge.new.out.stage.failed ⊥ c.end_merge.ensures.cause.later (λ f. absurd f) (λ none. c.in-Ok-end_merge.ensures.cause.ok))))
      (λ fault. absurd fault) (λ none. absurd none);
}

-- memory ran out
pub returns-in_default-hand_over-clause-fails : goal.returns-in_default-hand_over-clause-fails
returns-in_default-hand_over-clause-fails g c =
    let i = c.args.inputs.now in
    record {
      damaged = first_says g.R.Dir.Dir.files i.schema.now i.parts.now c.index-inputs-0.result c.requires.on.stream.inputs.some c.index-inputs-0.is _ tt;
      leaves = both_as (both_then c.rows.invariant.leaves (λ none. none) (arm_alone c.rows.out.stage.failed c.in_ok-row.ensures.fails.leaves)) no_fault (λ none. absurd none);
    }

-- the part could not be written
pub returns-in-Err-clause-fails : goal.returns-in-Err-clause-fails
returns-in-Err-clause-fails g c =
    let i = c.args.inputs.now in
    let k = c.index-inputs-0-in-Err.result in
    record {
      damaged = first_says g.R.Dir.Dir.files i.schema.now i.parts.now k c.requires.on.stream.inputs.some c.index-inputs-0-in-Err.is c.from.result (explains_any g.R.Dir.Dir.files i.schema.now k.part c.in-Err.error c.from.result c.from.ensures);
      leaves = both_then (both_then c.rows.invariant.leaves (λ none. none) (arm_alone c.rows.out.stage.failed c.in_ok-row.ensures.fails.leaves)) (λ none. none)
          (stage_failed c.next_row.new.arm c.rows.out.stage.failed c.append_on.new.out.stage.failed c.append_on.result c.in-Err.error c.from.result c.in-Err.is c.from.ensures c.append_on.ensures.cause);
    }

pub returns-in-Err-clause-most : goal.returns-in-Err-clause-most
returns-in-Err-clause-most g c = c.append_on.ensures.most

pub returns-clause-fails : goal.returns-clause-fails
returns-clause-fails g c =
    let i = c.args.inputs.now in
    let k = c.index-inputs-0-in-Err-end_merge.result in
    record {
      damaged = first_says g.R.Dir.Dir.files i.schema.now i.parts.now k c.requires.on.stream.inputs.some c.index-inputs-0-in-Err-end_merge.is c.from-in-Err-end_merge.result (explains_any g.R.Dir.Dir.files i.schema.now k.part c.in-Err-end_merge.error c.from-in-Err-end_merge.result c.from-in-Err-end_merge.ensures);
      leaves = both_then (both_then c.rows.invariant.leaves (λ none. none) (arm_alone c.rows.out.stage.failed c.in_ok-row.ensures.fails.leaves)) (λ none. none)
          (stage_failed c.next_row.new.arm c.rows.out.stage.failed c.end_merge.new.out.stage.failed c.end_merge.result c.in-Err-end_merge.error c.from-in-Err-end_merge.result c.in-Err-end_merge.is c.from-in-Err-end_merge.ensures c.end_merge.ensures.cause);
    }

pub returns-clause-most : goal.returns-clause-most
returns-clause-most g c = let i = c.args.inputs.now in c.end_merge.ensures.held.within (length i.parts.now) i.schema.now.granularity (c.next_row.ensures.most c.requires.on.shaped)

pub next_row-requires-clause-stream : goal.next_row-requires-clause-stream
next_row-requires-clause-stream g c = λ κs within. c.rows.invariant.on.on.stream

pub append_on-requires-clause-on : goal.append_on-requires-clause-on
append_on-requires-clause-on g c = λ κs within. let may = c.rows.invariant.on.on in record { stream = c.in_ok-row.ensures.stream; shaped = may.shaped; whole = may.whole; table = may.table }

pub end_merge-requires-clause-whole : goal.end_merge-requires-clause-whole
end_merge-requires-clause-whole g c = λ κs within. c.rows.invariant.on.on.whole

pub returns-in-Ok-end_merge-clause-on : goal.returns-in-Ok-end_merge-clause-on
returns-in-Ok-end_merge-clause-on g c =
    let ended = c.in-Ok-end_merge.ensures in
    let before = c.rows.invariant.on in
    let s = c.in_ok-row.ensures.stream in
    let rose = before.rises in
    record {
      on = record { stream = counted_stream c.args.inputs.now c.next_row.new.stream _ s refl s.readers s.ranked c.end_merge.ensures.held ended.made; shaped = before.on.shaped; whole = ended.grew.whole; table = ended.grew.table ∙ before.on.table };
      told = ended.grew.told ∙ before.told;
      rises = omega (arith, rose, c.in_ok-row.ensures.rises, c.end_merge.ensures.held.most);
    }

pub returns-in_err-row-clause-most : goal.returns-in_err-row-clause-most
returns-in_err-row-clause-most g c = c.next_row.ensures.most c.requires.on.shaped

pub returns-in_default-hand_over-clause-most : goal.returns-in_default-hand_over-clause-most
returns-in_default-hand_over-clause-most g c = c.next_row.ensures.most c.requires.on.shaped
