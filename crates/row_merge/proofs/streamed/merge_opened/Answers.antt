use Rattle.std.proofs.Common.{arith, subst}
use Rattle.std.proofs.lemmas.Result.{on_ok_weaker}
use Rattle.row_merge.specs.Streams.{IsLeft}
use Rattle.row_merge.proofs.Explaining.{stream_says}
use Rattle.row_merge.proofs.Written.{arm_alone, both_then}
use Rattle.row_merge.proofs.Failing.{handed_fails}
use Rattle.row_merge.proofs.streamed.merge_opened.Goals as goal

pub returns-in_err-fill_all-clause-fails : goal.returns-in_err-fill_all-clause-fails
returns-in_err-fill_all-clause-fails g c =
    let files = g.R.Dir.Dir.files in
    let i = c.args.inputs.now in
    let s = c.args.stream.now in
    handed_fails c.from_residual.result c.in_err-fill_all.field-0.0 c.from_residual.ensures.1
    (stream_says files i c.in_err-fill_all.field-0.0 s.readers.items c.requires.on.stream.readers c.in_err-fill_all.ensures.fails.damaged)
    (arm_alone c.args.out.now.stage.failed c.in_err-fill_all.ensures.fails.leaves)

pub returns-clause-merged : goal.returns-clause-merged
returns-clause-merged g c = λ partition rows holds is parts. c.merge_by_engine.ensures.merged partition rows holds (subst (IsLeft c.fill_all.new.stream rows) is (c.in_ok-fill_all.ensures.rows rows holds)) parts

pub returns-clause-fails : goal.returns-clause-fails
returns-clause-fails g c = record {
  damaged = c.merge_by_engine.ensures.fails.damaged;
  leaves = both_then (arm_alone c.args.out.now.stage.failed c.in_ok-fill_all.ensures.fails.leaves) (λ none. none) c.merge_by_engine.ensures.fails.leaves;
}

pub returns-clause-reached : goal.returns-clause-reached
returns-clause-reached g c = λ small unread.
    let filled = c.in_ok-fill_all.ensures in
    let counts = filled.stream.counts c.requires.on.shaped in
    on_ok_weaker c.merge_by_engine.result (λ on. let rises = on.rises in omega (arith, filled.first c.requires.on.shaped unread, counts.exact small, counts.reached, rises)) c.merge_by_engine.ensures.on

pub fill_all-requires-clause-stream : goal.fill_all-requires-clause-stream
fill_all-requires-clause-stream g c = λ κs within. c.requires.on.stream

pub merge_by_engine-requires-clause-on : goal.merge_by_engine-requires-clause-on
merge_by_engine-requires-clause-on g c = λ κs within. let may = c.requires.on in record { stream = c.in_ok-fill_all.ensures.stream; shaped = may.shaped; whole = may.whole; table = may.table }

pub returns-in_err-fill_all-clause-most : goal.returns-in_err-fill_all-clause-most
returns-in_err-fill_all-clause-most g c = c.fill_all.ensures.most c.requires.on.shaped

pub returns-clause-on : goal.returns-clause-on
returns-clause-on g c = on_ok_weaker c.merge_by_engine.result (λ on. on.on) c.merge_by_engine.ensures.on

pub returns-clause-told : goal.returns-clause-told
returns-clause-told g c = on_ok_weaker c.merge_by_engine.result (λ on. on.told) c.merge_by_engine.ensures.on
