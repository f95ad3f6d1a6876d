use Rattle.std.proofs.Common.{◌<◌, ◌∙◌, IfSome, List, length, refl, subst, sym}
use Rattle.mt_outside.proofs.LeftArms.{arm_same}
use Rattle.mt_values.specs.Grid.{AreRowsOf}
use Rattle.mt_values.specs.Schemas.{column_types}
use Rattle.mt_values.specs.Values.{Row}
use Rattle.mt_values.specs.declared.value.ColType.{ColType}
use Rattle.row_merge.specs.Streams.{GivesRow, HasPending, IsPending, rows_to_come}
use Rattle.row_merge.proofs.Explaining.{all_later, all_stay, explained_before, first_fails}
use Rattle.row_merge.proofs.GivenSinks.{fold_begins, fold_counted, fold_goes_on, fold_row_is_own, folded_all, got_last, got_more, got_none}
use Rattle.row_merge.proofs.Handing.{none_pending}
use Rattle.row_merge.proofs.Nexts.{counted_stream}
use Rattle.row_merge.proofs.SealedMerges.{no_damage}
use Rattle.row_merge.proofs.Written.{arm_alone, both_as, both_then, no_fault, stage_alone, stage_failed}
use Rattle.row_merge.proofs.Failing.{handed_fails}
use Rattle.row_merge.proofs.sink.fold_stream.Goals as goal

pub rows-init : goal.rows-init
rows-init g c =
    let i = c.args.inputs.now in
    let rule = c.args.rule.now in
    let out = c.args.out.now in
    let none = g.met.T.RowSink.gets_none out c.requires.ready in
    record {
      stream = c.requires.stream;
      later = all_stay c.args.stream.now.readers.items;
      gets = got_none g.T.RowSink.gets out none;
      current = none_pending i.places.now (g.Q.RowRule.run rule) (g.Q.RowRule.holds rule) (g.Q.RowRule.takes rule) (column_types i.schema.now);
      merging = λ partition rows left apart holds left_is parts.
          fold_begins g.T.RowSink.gets (g.Q.RowRule.run rule) (g.Q.RowRule.holds rule) (g.Q.RowRule.takes rule) i left rows partition c.args.stream.now out c.requires.stream.inputs.places_are left_is parts none;
      leaves = arm_alone (g.T.RowSink.failed out) (arm_same c.args.arm.now);
    }

-- a part could not be read
pub returns-in_err-row-clause-fails : goal.returns-in_err-row-clause-fails
returns-in_err-row-clause-fails g c =
    let files = g.R.Dir.Dir.files in
    let i = c.args.inputs.now in
    let olds = c.args.stream.now.readers.items in
    handed_fails c.from_residual.result c.in_err-row.field-0.0 c.from_residual.ensures.1
    (explained_before files i c.in_err-row.field-0.0 olds c.rows.stream.readers.items c.rows.invariant.later c.in_err-row.ensures.fails.damaged)
    (both_then c.rows.invariant.leaves (λ none. none) (arm_alone (g.T.RowSink.failed c.rows.out) c.in_err-row.ensures.fails.leaves))

-- the next row is handed over
pub hand_over-requires-clause-takes : goal.hand_over-requires-clause-takes
hand_over-requires-clause-takes g c = c.requires.takes

pub hand_over-requires-clause-inputs : goal.hand_over-requires-clause-inputs
hand_over-requires-clause-inputs g c = c.requires.stream.inputs

pub give-requires-clause-ready : goal.give-requires-clause-ready
give-requires-clause-ready g c = let got = c.rows.invariant.gets in (g.met.T.RowSink.stays c.args.out.now c.rows.out got.rows c.requires.ready got.got).0

pub give-requires-clause-typed : goal.give-requires-clause-typed
give-requires-clause-typed g c =
    let types = column_types c.args.inputs.now.schema.now in
    let got = c.rows.invariant.gets in
    let same = (g.met.T.RowSink.stays c.args.out.now c.rows.out got.rows c.requires.ready got.got).1 in
    subst (λ (ts : List ColType). AreRowsOf ts c.deref.result.now) (sym (same ∙ c.requires.types))
    (subst (AreRowsOf types) (sym c.deref.ensures.value) (c.in-Ok.ensures.typed c.rows.invariant.current))

pub give-requires-clause-made : goal.give-requires-clause-made
give-requires-clause-made g c = c.in_ok-row.ensures.stream.none_made

pub rows-preserved : goal.rows-preserved
rows-preserved g c =
    let i = c.args.inputs.now in
    let rule = c.args.rule.now in
    let gets = g.T.RowSink.gets in
    let run = g.Q.RowRule.run rule in
    let holds = g.Q.RowRule.holds rule in
    let takes = g.Q.RowRule.takes rule in
    let first = c.args.out.now in
    let before = c.rows.invariant in
    let old = c.rows.stream in
    let mid = c.next_row.new.stream in
    let given = c.give.ensures in
    let got = subst (λ (zs : List Row). gets c.rows.out zs c.give.new.out) c.deref.ensures.value c.in-Ok-give.ensures.gets in
    record {
      stream = counted_stream i mid _ c.in_ok-row.ensures.stream refl c.in_ok-row.ensures.stream.readers c.in_ok-row.ensures.stream.ranked given.held c.in-Ok-give.ensures.made;
      later = all_later c.args.stream.now.readers.items old.readers.items mid.readers.items before.later c.in_ok-row.ensures.goes_on;
      gets = got_more gets g.met.T.RowSink.gets_more first c.rows.out c.give.new.out c.in-Ok.kept.items before.gets got;
      current = c.in-Ok.ensures.current before.current;
      merging = λ partition rows left apart hold left_is parts.
          let m = before.merging partition rows left apart hold left_is parts in
          let t = subst (GivesRow i.places.now rows m.left mid) c.in-Some.is (c.in_ok-row.ensures.gives rows m.left hold m.left_is m.over.merging.sorted) in
          let own = fold_row_is_own gets run holds takes i left rows old mid c.rows.current c.in-Ok.new first c.rows.out c.give.new.out c.in-Some.row m t in
          fold_counted gets run holds takes i left rows mid _ c.in-Ok.new first c.give.new.out refl refl
          (fold_goes_on gets run holds takes i left rows old mid c.rows.current c.in-Ok.new first c.rows.out c.give.new.out c.in-Some.row m t c.in-Ok.kept.items
          (g.met.T.RowSink.gets_more first c.rows.out c.give.new.out m.done c.in-Ok.kept.items m.got got)
          (c.in-Ok.ensures.hands left m.done m.left t.after apart own.signed m.over t.taken));
      leaves = both_then before.leaves (λ none. none) (both_then (arm_alone (g.T.RowSink.failed c.rows.out) c.in_ok-row.ensures.fails.leaves) (λ none. none)
          (stage_alone c.next_row.new.arm (g.T.RowSink.failed c.rows.out) (g.T.RowSink.failed c.give.new.out) ⊥ given.cause.later (λ f. absurd f) (λ none. c.in-Ok-give.ensures.cause.ok)));
    }

pub rows-smaller : goal.rows-smaller
rows-smaller g c = subst (λ found. IfSome found (λ (row : Row). rows_to_come c.next_row.new.stream < rows_to_come c.rows.stream)) c.in-Some.is c.in_ok-row.ensures.fewer

-- the last key ends
pub end_fold-requires-clause-current : goal.end_fold-requires-clause-current
end_fold-requires-clause-current g c =
    let rule = c.args.rule.now in
    let got = c.rows.invariant.gets in
    let same = (g.met.T.RowSink.stays c.args.out.now c.rows.out got.rows c.requires.ready got.got).1 in
    subst (λ (ts : List ColType). HasPending (g.Q.RowRule.holds rule) (g.Q.RowRule.takes rule) ts c.rows.current) (sym (same ∙ c.requires.types)) c.rows.invariant.current

pub end_fold-requires-clause-ready : goal.end_fold-requires-clause-ready
end_fold-requires-clause-ready g c = let got = c.rows.invariant.gets in (g.met.T.RowSink.stays c.args.out.now c.rows.out got.rows c.requires.ready got.got).0

pub end_fold-requires-clause-made : goal.end_fold-requires-clause-made
end_fold-requires-clause-made g c = c.in_ok-row.ensures.stream.none_made

pub returns-in-Ok-end_fold-clause-merged : goal.returns-in-Ok-end_fold-clause-merged
returns-in-Ok-end_fold-clause-merged g c = λ partition rows left apart hold left_is parts.
    let i = c.args.inputs.now in
    let rule = c.args.rule.now in
    let gets = g.T.RowSink.gets in
    let run = g.Q.RowRule.run rule in
    let holds = g.Q.RowRule.holds rule in
    let takes = g.Q.RowRule.takes rule in
    let got = c.rows.invariant.gets in
    let same = (g.met.T.RowSink.stays c.args.out.now c.rows.out got.rows c.requires.ready got.got).1 in
    let m = c.rows.invariant.merging partition rows left apart hold left_is parts in
    let none = subst (GivesRow i.places.now rows m.left c.next_row.new.stream) c.in_default.is (c.in_ok-row.ensures.gives rows m.left hold m.left_is m.over.merging.sorted) in
    let is = subst (λ (ts : List ColType). IsPending holds takes ts c.rows.current m.over.pending) (sym (same ∙ c.requires.types)) m.over.is in
    folded_all gets g.met.T.RowSink.gets_more i.places.now run holds takes (column_types i.schema.now) (λ key some kept many all same ran. g.met.Q.RowRule.keeps rule i.places.now key some kept apart many all same ran) left m.done m.left c.rows.current
    c.args.out.now c.rows.out c.end_fold.new.out m.got m.over none (c.in-Ok-end_fold.ensures.leaves m.over.pending is)

pub returns-in-Ok-end_fold-clause-gets : goal.returns-in-Ok-end_fold-clause-gets
returns-in-Ok-end_fold-clause-gets g c = got_last g.T.RowSink.gets g.met.T.RowSink.gets_more c.args.out.now c.rows.out c.end_fold.new.out c.rows.invariant.gets c.in-Ok-end_fold.ensures.gets

pub returns-in-Ok-end_fold-clause-most : goal.returns-in-Ok-end_fold-clause-most
returns-in-Ok-end_fold-clause-most g c = λ shaped. let i = c.args.inputs.now in c.end_fold.ensures.held.within (length i.parts.now) i.schema.now.granularity (c.next_row.ensures.most shaped)

pub returns-in-Ok-end_fold-clause-fails : goal.returns-in-Ok-end_fold-clause-fails
returns-in-Ok-end_fold-clause-fails g c = record {
  damaged = tt;
  leaves = both_as (both_then c.rows.invariant.leaves (λ none. none) (both_then (arm_alone (g.T.RowSink.failed c.rows.out) c.in_ok-row.ensures.fails.leaves) (λ none. none)
      (stage_alone c.next_row.new.arm (g.T.RowSink.failed c.rows.out) (g.T.RowSink.failed c.end_fold.new.out) ⊥ c.end_fold.ensures.cause.later (λ f. absurd f) (λ none. c.in-Ok-end_fold.ensures.cause.ok))))
      (λ fault. absurd fault) (λ none. absurd none);
}

-- memory ran out
pub returns-in_default-hand_over-clause-fails : goal.returns-in_default-hand_over-clause-fails
returns-in_default-hand_over-clause-fails g c = record {
  damaged = first_fails g.R.Dir.Dir.files c.args.inputs.now c.args.stream.now.readers.items c.requires.stream.readers c.index-inputs-0.result c.requires.stream.inputs.some c.index-inputs-0.is _ tt;
  leaves = both_as (both_then c.rows.invariant.leaves (λ none. none) (arm_alone (g.T.RowSink.failed c.rows.out) c.in_ok-row.ensures.fails.leaves)) no_fault (λ none. absurd none);
}

-- the sink refused rows
pub returns-in-Err-clause-fails : goal.returns-in-Err-clause-fails
returns-in-Err-clause-fails g c = record {
  damaged = first_fails g.R.Dir.Dir.files c.args.inputs.now c.args.stream.now.readers.items c.requires.stream.readers c.index-inputs-0-in-Err.result c.requires.stream.inputs.some c.index-inputs-0-in-Err.is c.from.result (no_damage c.in-Err.error c.from.result c.from.ensures);
  leaves = both_then (both_then c.rows.invariant.leaves (λ none. none) (arm_alone (g.T.RowSink.failed c.rows.out) c.in_ok-row.ensures.fails.leaves)) (λ none. none)
      (stage_failed c.next_row.new.arm (g.T.RowSink.failed c.rows.out) (g.T.RowSink.failed c.give.new.out) c.give.result c.in-Err.error c.from.result c.in-Err.is c.from.ensures c.give.ensures.cause);
}

pub returns-in-Err-clause-most : goal.returns-in-Err-clause-most
returns-in-Err-clause-most g c = λ shaped. let i = c.args.inputs.now in c.give.ensures.held.within (length i.parts.now) i.schema.now.granularity (c.next_row.ensures.most shaped)

pub returns-in-Err-end_fold-clause-fails : goal.returns-in-Err-end_fold-clause-fails
returns-in-Err-end_fold-clause-fails g c = record {
  damaged = first_fails g.R.Dir.Dir.files c.args.inputs.now c.args.stream.now.readers.items c.requires.stream.readers c.index-inputs-0-in-Err-end_fold.result c.requires.stream.inputs.some c.index-inputs-0-in-Err-end_fold.is c.from-in-Err-end_fold.result
      (no_damage c.in-Err-end_fold.error c.from-in-Err-end_fold.result c.from-in-Err-end_fold.ensures);
  leaves = both_then (both_then c.rows.invariant.leaves (λ none. none) (arm_alone (g.T.RowSink.failed c.rows.out) c.in_ok-row.ensures.fails.leaves)) (λ none. none)
      (stage_failed c.next_row.new.arm (g.T.RowSink.failed c.rows.out) (g.T.RowSink.failed c.end_fold.new.out) c.end_fold.result c.in-Err-end_fold.error c.from-in-Err-end_fold.result c.in-Err-end_fold.is c.from-in-Err-end_fold.ensures c.end_fold.ensures.cause);
}

pub returns-in-Err-end_fold-clause-most : goal.returns-in-Err-end_fold-clause-most
returns-in-Err-end_fold-clause-most g c = λ shaped. let i = c.args.inputs.now in c.end_fold.ensures.held.within (length i.parts.now) i.schema.now.granularity (c.next_row.ensures.most shaped)
