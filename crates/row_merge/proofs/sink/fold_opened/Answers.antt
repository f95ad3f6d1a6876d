use Rattle.std.proofs.lemmas.Result.{IfErr-weaker}
use Rattle.row_merge.specs.Streams.{ExplainsStream, rests_of}
use Rattle.row_merge.proofs.Explaining.{explained_before}
use Rattle.row_merge.proofs.Written.{arm_alone, both_then}
use Rattle.row_merge.proofs.Failing.{handed_fails}
use Rattle.row_merge.proofs.sink.fold_opened.Goals as goal

pub returns-in_err-fill_all-clause-fails : goal.returns-in_err-fill_all-clause-fails
returns-in_err-fill_all-clause-fails g c =
    handed_fails c.from_residual.result c.in_err-fill_all.field-0.0 c.from_residual.ensures.1
    c.in_err-fill_all.ensures.fails.damaged
    (arm_alone (g.T.RowSink.failed c.args.out.now) c.in_err-fill_all.ensures.fails.leaves)

pub returns-clause-merged : goal.returns-clause-merged
returns-clause-merged g c = λ partition rows holds parts.
    c.fold_by_engine.ensures.merged partition rows (rests_of c.args.stream.now.readers.items rows) holds (c.in_ok-fill_all.ensures.rows rows holds) parts

pub returns-clause-fails : goal.returns-clause-fails
returns-clause-fails g c =
    let files = g.R.Dir.Dir.files in
    let i = c.args.inputs.now in
    let olds = c.args.stream.now.readers.items in
    let news = c.fill_all.new.stream.readers.items in
    record {
      damaged = IfErr-weaker c.fold_by_engine.result (ExplainsStream files i news) (ExplainsStream files i olds) (λ e said. explained_before files i e olds news c.in_ok-fill_all.ensures.goes_on said) c.fold_by_engine.ensures.fails.damaged;
      leaves = both_then (arm_alone (g.T.RowSink.failed c.args.out.now) c.in_ok-fill_all.ensures.fails.leaves) (λ none. none) c.fold_by_engine.ensures.fails.leaves;
    }
